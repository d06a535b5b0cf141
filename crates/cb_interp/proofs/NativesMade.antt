-- Natives that place objects or change them: the room that is asked for is that of the step, what is given is given still where room was made,
-- and the turn is the machine's.
use Rattle.std.proofs.Common.{◌≡◌, ◌∙◌, ap, ap₂, arith, refl, sym, subst, ℕ, zero, suc, ◌+◌, ◌<◌, ◌≤◌, ◌^◌, Bool, true, false, List, [], ◌∷◌, ◌++◌, drop, length, map, min, reverse, take, Option, Some, None, is_some}
use Rattle.std.proofs.Math.Seq.{drop-append_seam}
use Rattle.std.proofs.lemmas.Bool.{false≢true, ltb-true}
use Rattle.std.proofs.lemmas.List.{drop-map, length-map, reverse-reverse}
use Rattle.std.specs.List.{AllByRecursion, flat_map, fold, list_all, take-map}
use Rattle.std.specs.Prelude.{◌==◌, IfErr, IsTrue, OnOk, if◌then◌else◌, nat_lt, option_and_then, option_map, slice_get}
use Rattle.std.specs.declared.result.Result.{Result}
use Rattle.std.specs.declared.result.Result.TheVariants.{Err, Ok}
use Rattle.std.proofs.lemmas.List.Sums.{sum_by-cons}
use Rattle.cb_act.proofs.Laws.{by_native, front_held, keep_unseen, natives_keep, plan_kept, reversed_held, stacked_read, value_held}
use Rattle.cb_act.specs.Acting.{Asks as AsksNeed, acted}
use Rattle.cb_act.specs.Changing.{IsUnseen, changed_performed}
use Rattle.cb_act.specs.Effects.{stacked}
use Rattle.cb_act.specs.Coming.{AreAllowed, MayCome}
use Rattle.cb_act.specs.Here.{Here}
use Rattle.cb_act.specs.Keeping.{IsKeeping, kept_plan, kept_state}
use Rattle.cb_act.specs.Steps.{view_of}
use Rattle.cb_act.specs.Turning.{Asked, Moment, Outside, RoomMade, RoomRefused, TurnMade, TurnRefused, machine_of, moment_of, state_of}
use Rattle.cb_act.specs.declared.need.Need.TheVariants as needs
use Rattle.cb_frames.specs.Tops.{at_place as placed_at, changed_in, on_top, placed, stack_in, top_stack, with_stack as stack_changed}
use Rattle.cb_heap.proofs.Laws.{reads_placed, reads_stack, stack_held}
use Rattle.cb_heap.specs.Closed.{Collects, IsClosed}
use Rattle.cb_heap.specs.Follows.{Follows}
use Rattle.cb_heap.specs.Kept.{is_held, keep, residents}
use Rattle.cb_heap.specs.Reading.{View, read_roots, read_value, seen, serial_of}
use Rattle.cb_heap.specs.Grants.{IsBounded, words_granted}
use Rattle.cb_interp.proofs.TurnsNeedSerials.{HasSerials, serials_all}
use Rattle.cb_heap.specs.Rules.{Meaning, Rules}
use Rattle.cb_heap.specs.declared.no_room.NoRoom.{NoRoom}
use Rattle.cb_library.specs.declared.native.Native.{Native}
use Rattle.cb_library.specs.declared.native.Native.TheVariants as natives
use Rattle.cb_link.specs.Having.{IsWhole}
use Rattle.cb_link.specs.Named.{behind_in, code_at}
use Rattle.cb_link.specs.Program.{Linked}
use Rattle.cb_link.specs.declared.decoded.Decoded.{Decoded}
use Rattle.cb_machine.specs.Machine.{Machine}
use Rattle.cb_machine.specs.Natives.{native_of, performed}
use Rattle.cb_machine.specs.Performing.{Gives, Performed, Stops}
use Rattle.cb_machine.specs.Plans.{Alike, One, Placing, Plan, Rows, asked, made, wants_of, with_left}
use Rattle.cb_machine.specs.Standing.{at_place}
use Rattle.cb_machine.specs.Steps.{asked_of, plan, request}
use Rattle.cb_machine.specs.Throwing.{throws}
use Rattle.cb_natives.specs.Exceptions.{site_of}
use Rattle.cb_natives.specs.Given.{AreGiven, have_sorts, roles, sorts_of}
use Rattle.cb_natives.specs.Making.{Asks, HasRoom, MayLeave, Throws, given_back, machine_in, state_in}
use Rattle.cb_natives.specs.Makers.{makes}
use Rattle.cb_natives.specs.MakingArrays.{AreLaid}
use Rattle.cb_natives.specs.MakingKept.{HasKinds, HasTables}
use Rattle.cb_natives.specs.declared.answers.Exception.{Exception}
use Rattle.cb_plain.specs.Reach.{references_in}
use Rattle.cb_plain.specs.Requests.{add_want, most_words}
use Rattle.cb_plain.specs.Roots.{with_frames as frames_changed}
use Rattle.cb_plain.specs.State.{Frame, Object, OfMethod, Roots, State}
use Rattle.cb_plain.specs.Updates.{object_in, with_frames, with_objects}
use Rattle.cb_plain.specs.declared.shape.Shape.{Shape}
use Rattle.cb_plain.specs.declared.value.Value.{Value}
use Rattle.cb_plain.specs.declared.value.Value.TheVariants as values
use Rattle.cb_plain.specs.declared.want.Want.{Want}
use Rattle.cb_safety.proofs.Laws.{arguments_are_given, kept_states_are_typed, map_reverse}
use Rattle.cb_safety.specs.Given.{AreTaken, RunsOn}
use Rattle.cb_safety.specs.Kinds.{kinds_of}
use Rattle.cb_safety.specs.Linked.{IsLinked}
use Rattle.cb_safety.specs.Performing.{HasNatives}
use Rattle.cb_safety.specs.States.{IsTypedState}
use Rattle.cb_shapes.specs.declared.action.Action.{Action}
use Rattle.cb_verify.specs.Typed.{IsTyped}
use Rattle.cb_interp.proofs.Allowed.{allowed_next, allowed_on}
use Rattle.cb_interp.proofs.NativesAnswered.{count_is, count_there, doing, enough, given, now, performed_so, rest, stack_is, standing_read, stops_so}
use Rattle.cb_interp.proofs.NativesGiven.{natives_given, sorts_given}
use Rattle.cb_interp.proofs.NativesLaid.{natives_laid}
use Rattle.cb_interp.proofs.TurnsMade.{marks_count}
use Rattle.cb_interp.specs.Answering.{argument_count, behind_answer}
use Rattle.cb_interp.specs.Fit.{ShapesOf}
use Rattle.cb_interp.specs.Performing.{Left, arguments_at, made_values}

-- ---- what stands on the stack, read

pub arguments_read : (program : Linked) (decoded : Decoded) (index : ℕ → ℕ) (held : Roots)
    → map (read_value index) (arguments_at program decoded held) ≡ arguments_at program decoded (read_roots index held)
arguments_read program decoded index held =
    map_reverse (read_value index) (take (argument_count program decoded) (top_stack held))
    ∙ ap reverse
    (sym (take-map (read_value index) (argument_count program decoded) (top_stack held))
    ∙ ap (take (argument_count program decoded)) (sym (reads_stack index held)))

made_read : (index : ℕ → ℕ) (back : Option ℕ) → map (read_value index) (made_values back) ≡ given_back index back
made_read index None = refl
made_read index (Some at) = refl

map_append : {Item Other : Type 0} (change : Item → Other) (one other : List Item) → map change (one ++ other) ≡ map change one ++ map change other
map_append change [] other = refl
map_append {Other = Other} change (item ∷ one) other = ap (λ (rest : List Other). change item ∷ rest) (map_append change one other)

pub behind_made : (index : ℕ → ℕ) (count pc : ℕ) (back : Option ℕ) (held : Roots)
    → read_roots index (behind_answer count (made_values back) pc held) ≡ behind_answer count (given_back index back) pc (read_roots index held)
behind_made index count pc back held =
    reads_placed index (stacked held (made_values back ++ drop count (top_stack held))) pc
    ∙ ap (λ (roots : Roots). placed roots pc)
    (stacked_read index held (made_values back ++ drop count (top_stack held))
    ∙ ap (stacked (read_roots index held))
    (map_append (read_value index) (made_values back) (drop count (top_stack held))
    ∙ ap (λ (front : List Value). front ++ map (read_value index) (drop count (top_stack held))) (made_read index back)
    ∙ ap (λ (stack : List Value). given_back index back ++ stack)
    (sym (drop-map (read_value index) count (top_stack held)) ∙ ap (drop count) (sym (reads_stack index held)))))

-- ---- tables, and the kinds of objects, in a typed state

pub tables_there : (program : Linked) (index : ℕ → ℕ) (objects : List (Option Object)) (held : Roots) (outside : Outside)
    → IsTypedState program (state_of (seen index objects held) outside) → HasTables program held.tables
tables_there program index objects held outside typed = record {
  classes = sym (length-map held.tables.classes (serial_of index)) ∙ typed.roots.tables.classes.count;
  integers = sym (length-map held.tables.integers (serial_of index)) ∙ typed.roots.tables.integers.count;
  longs = sym (length-map held.tables.longs (serial_of index)) ∙ typed.roots.tables.longs.count;
  characters = sym (length-map held.tables.characters (serial_of index)) ∙ typed.roots.tables.characters.count;
  booleans = sym (length-map held.tables.booleans (serial_of index)) ∙ typed.roots.tables.booleans.count;
}

pub kinds_there : (program : Linked) (view : View) (outside : Outside) → IsTypedState program (state_of view outside) → HasKinds program view.objects
kinds_there program view outside typed = record { each = λ serial object there. (typed.heap.each serial object there).kind }

-- ---- what is asked for has its header

abbrev HasHeader : Want → Type 0
HasHeader want = 3 ≤ want.words

added : (wants : List Want) (want : Want) → AllByRecursion HasHeader wants → HasHeader want → AllByRecursion HasHeader (add_want wants want)
added [] want all own = (omega (arith, own), tt)
added (first ∷ wants) want all own = go (first.site == want.site) (added wants want all.1 own) where
  go : (same : Bool) → AllByRecursion HasHeader (add_want wants want)
      → AllByRecursion HasHeader (if same then record { site = first.site; words = min (first.words + want.words) most_words } ∷ wants else first ∷ add_want wants want)
  go true more = let old = all.0 in (omega (arith, old), all.1)
  go false more = (all.0, more)

placing_header : (placing : Placing) → AllByRecursion HasHeader (wants_of placing)
placing_header (One site kind contents) = (omega arith, tt)
placing_header (Alike site kind content size zero) = tt
placing_header (Alike site kind content size (suc count)) = (omega arith, tt)
placing_header (Rows site kind first size zero) = tt
placing_header (Rows site kind first size (suc count)) = (omega arith, tt)

folded : (wants more : List Want) → AllByRecursion HasHeader wants → AllByRecursion HasHeader more → AllByRecursion HasHeader (fold add_want wants more)
folded wants [] all others = all
folded wants (want ∷ more) all others = folded (add_want wants want) more (added wants want all others.0) others.1

joined : (one other : List Want) → AllByRecursion HasHeader one → AllByRecursion HasHeader other → AllByRecursion HasHeader (one ++ other)
joined [] other all others = others
joined (want ∷ one) other all others = (all.0, joined one other all.1 others)

placings_header : (placed : List Placing) → AllByRecursion HasHeader (flat_map wants_of placed)
placings_header [] = tt
placings_header (placing ∷ placed) = joined (wants_of placing) (flat_map wants_of placed) (placing_header placing) (placings_header placed)

pub known_sites : (knows : ℕ → Bool) (count : ℕ) (wants : List Want) → ((site : ℕ) → site < count → IsTrue (knows site))
    → AllByRecursion (λ (want : Want). want.site < count) wants → AllByRecursion (λ (want : Want). IsTrue (knows want.site)) wants
known_sites knows count [] each all = tt
known_sites knows count (want ∷ wants) each all = (each want.site all.0, known_sites knows count wants each all.1)

-- such a native takes some arguments
some_sorts : (native : Native) → makes native ≡ true → nat_lt 0 (length (sorts_of native)) ≡ true
some_sorts natives.SystemGc makes = absurd (false≢true makes)
some_sorts other makes = refl

pub asked_header : (own : Plan) → AllByRecursion HasHeader (asked own)
asked_header own = folded [] (flat_map wants_of own.placed) tt (placings_header own.placed)

-- ---- room

keep_all : (objects : List (Option Object)) → keep (residents objects) objects ≡ objects
keep_all [] = refl
keep_all (None ∷ objects) = ap (λ (rest : List (Option Object)). None ∷ rest) (keep_all objects)
keep_all (Some object ∷ objects) = ap (λ (rest : List (Option Object)). Some object ∷ rest) (keep_all objects)

pub collects_nothing : (view : View) → IsClosed view → Collects view view
collects_nothing view closed = record { roots = refl; objects = sym (keep_all view.objects); count = refl; closed = closed }

module _ {Facts : Type 0} (rules : Rules Facts) (before after : Moment Facts) (collects : Collects (view_of before.state) (view_of after.state))
    (same : after.state ≡ with_objects before.state after.state.objects) where
  abbrev meaning : Meaning Facts
  meaning = record { facts = after.facts; residents = residents after.state.objects }

  pub room_made : (wants : List Want) (result : Result (Unit {0}) NoRoom) → (wants ≡ [] → ⊥) → rules.makes_room before.facts (view_of before.state) wants result meaning
      → OnOk result (RoomMade rules before wants after)
  room_made wants (Err reason) some ruled = tt
  room_made [] (Ok done) some ruled = absurd (some refl)
  room_made (first ∷ wants) (Ok done) some ruled = Asked first wants after ruled collects same

  pub room_refused : (wants : List Want) (result : Result (Unit {0}) NoRoom) → (wants ≡ [] → ⊥) → rules.makes_room before.facts (view_of before.state) wants result meaning
      → IfErr result (λ reason. RoomRefused rules before wants reason after)
  room_refused wants (Ok done) some ruled = tt
  room_refused wants (Err reason) some ruled = record { asked = some; ruled = ruled; collects = collects; same = same }

has_some : (objects : List (Option Object)) (wants : List Want) (fixed : Bool) → HasSerials fixed (length objects) → AllByRecursion HasHeader wants → IsBounded fixed (length objects) wants
    → (wants ≡ [] → ⊥) → length objects + 2 < 2 ^ 63
has_some objects [] fixed grows all bounded some = absurd (some refl)
has_some objects (first ∷ wants) fixed grows all bounded some =
    let low = all.0 in
    let sum = sum_by-cons (λ (want : Want). want.words) first wants in
    let serials = serials_all fixed (length objects) (first ∷ wants) grows bounded in
    let words : 3 ≤ words_granted (first ∷ wants) = omega (arith, low, sum) in
    omega (arith, words, serials)

pub has_room : (objects : List (Option Object)) (wants granted : List Want) (fixed : Bool) (result : Result (Unit {0}) NoRoom) → HasSerials fixed (length objects)
    → AllByRecursion HasHeader wants → OnOk result (granted ≡ wants) → OnOk result (IsBounded fixed (length objects) wants)
    → OnOk result ((wants ≡ [] → ⊥) → HasRoom objects wants granted)
has_room objects wants granted fixed (Err reason) grows all same bounded = tt
has_room objects wants granted fixed (Ok done) grows all same bounded =
    λ some. record { granted = same; serials = has_some objects wants fixed grows all bounded some }

-- ---- on other objects of which what is called on is the same

runs_on : (program : Linked) (objects others : List (Option Object)) (caller named method : ℕ) (arguments : List Value) (action : Action)
    → RunsOn program objects caller named method arguments action
    → ((place : ℕ) (more : List Value) → arguments ≡ values.Ref (suc place) ∷ more → object_in others (suc place) ≡ object_in objects (suc place))
    → RunsOn program others caller named method arguments action
runs_on program objects others caller named method arguments action (RunsOn.Statically index same count) keeps = RunsOn.Statically index same count
runs_on program objects others caller named method arguments action (RunsOn.Specially index place object more are count kept is) keeps =
    RunsOn.Specially index place object more are count (keeps place more are ∙ kept) is
runs_on program objects others caller named method arguments action (RunsOn.Virtually index place object more are count kept is) keeps =
    RunsOn.Virtually index place object more are count (keeps place more are ∙ kept) is
runs_on program objects others caller named method arguments action (RunsOn.ByInterface index all place object more are count kept is) keeps =
    RunsOn.ByInterface index all place object more are count (keeps place more are ∙ kept) is

same_gives : (one other : Plan) (answer second : List Value) → Some (Gives one answer) ≡ Some (Gives other second) → (one ≡ other) × (answer ≡ second)
same_gives one other answer second is = (cc is, cc is)

-- ---- where a native is called

module _ (program : Linked) (index : ℕ → ℕ) (objects : List (Option Object)) (limit : ℕ) (held : Roots) (outside : Outside) (decoded : Decoded) (method : ℕ)
    (at : Here (machine_of program limit) (state_of (seen index objects held) outside) decoded)
    (asks : acted program limit decoded (seen index objects held) ≡ Some (AsksNeed (needs.Performs method)))
    (native : Native) (is : native_of program method ≡ Some native) where
  abbrev machine : Machine
  machine = machine_of program limit

  abbrev view : View
  view = seen index objects held

  abbrev state : State
  state = state_of view outside

  abbrev values_given : List Value
  values_given = given program index objects limit held outside decoded method at asks

  abbrev values_left : List Value
  values_left = rest program index objects limit held outside decoded method at asks

  abbrev pub arguments : List Value
  arguments = map (read_value index) (arguments_at program decoded held)

  arguments_are : arguments ≡ reverse values_given
  arguments_are = standing_read program index objects limit held outside decoded method at asks

  abbrev frames_behind : List Value → ℕ → List Frame
  frames_behind answer pc = OfMethod (at_place at.frame pc at.frame.locals (answer ++ values_left)) ∷ at.below

  abbrev pub behind : Plan → List Value → ℕ → Plan
  behind own answer pc = with_left own (with_frames own.left (frames_behind answer pc))

  next_so : decoded.next ≡ behind_in (code_at program at.frame.method) at.frame.pc
  next_so = ap (λ (decoded : Decoded). decoded.next) at.is

  pub plans_so : (own : Plan) (answer : List Value) (pc : ℕ) → decoded.next ≡ Some pc → performed machine state native arguments ≡ Some (Gives own answer)
      → plan machine state ≡ Some (behind own answer pc)
  plans_so own answer pc next gives =
      let there : behind_in (code_at program at.frame.method) at.frame.pc ≡ Some pc = sym next_so ∙ next in
      let whole : by_native (now program index objects limit held outside decoded method at asks) values_left (Gives own answer) ≡ Some (behind own answer pc) = rw there refl in
      performed_so program index objects limit held outside decoded method at asks native is
      ∙ ap (option_and_then (by_native (now program index objects limit held outside decoded method at asks) values_left)) gives ∙ whole

  -- there is a next instruction
  pub goes_on : {wants : List Want} → Asks program view native arguments wants → is_some (plan machine state) ≡ true → decoded.next ≡ None → ⊥
  goes_on makes some none =
      let own = makes limit outside.input outside.printed in
      let there : behind_in (code_at program at.frame.method) at.frame.pc ≡ None = sym next_so ∙ none in
      let nothing : by_native (now program index objects limit held outside decoded method at asks) values_left (Gives own.own own.answer) ≡ None = rw there refl in
      false≢true
      (ap is_some
      (sym
      (performed_so program index objects limit held outside decoded method at asks native is
      ∙ ap (option_and_then (by_native (now program index objects limit held outside decoded method at asks) values_left)) own.is ∙ nothing))
      ∙ some)

  -- what it asks for is what the step asks for
  pub request_so : {wants : List Want} (pc : ℕ) → decoded.next ≡ Some pc → Asks program view native arguments wants → request machine state ≡ wants
  request_so pc next makes =
      let own = makes limit outside.input outside.printed in
      ap asked_of (plans_so own.own own.answer pc next own.is) ∙ own.asks

  -- it throws
  pub throws_so : (exception : Exception) → Throws program view native arguments exception → plan machine state ≡ Some (throws machine state (site_of exception))
  throws_so exception throwing =
      stops_so program index objects limit held outside decoded method at asks native is (throws machine state (site_of exception)) (throwing limit outside.input outside.printed)

  -- what is given has the words of its kind
  taken_now : IsLinked program → IsTyped program → IsTypedState program state → AreTaken program (kinds_of objects) native (reverse values_given)
  taken_now linked fits typed =
      let own = doing program index objects limit held outside decoded method at asks in
      arguments_are_given machine state at.frame at.below at.insn own.action own.named method native (reverse values_given) values_left linked fits typed at.quiet at.frames at.there
      own.acts own.names (own.performing.stack ∙ ap (λ (front : List Value). front ++ values_left) (sym (reverse-reverse values_given))) own.runs is

  pub laid_there : IsLinked program → IsTyped program → IsTypedState program state → HasNatives program → IsWhole program → (all : List Shape) → ShapesOf program all
      → AreLaid program objects native arguments
  laid_there linked fits typed has whole all are =
      let taken = taken_now linked fits typed in
      subst (AreLaid program objects native) (sym arguments_are)
      (natives_laid machine state has typed at.quiet whole all are taken.method taken.own native (reverse values_given) taken.have)

  left_in : (roots : Roots) (answer : List Value) (pc : ℕ) → roots.frames ≡ OfMethod at.frame ∷ at.below
      → frames_changed roots (frames_behind answer pc) ≡ behind_answer (argument_count program decoded) answer pc roots
  left_in roots answer pc frames =
      let stack : top_stack roots ≡ values_given ++ values_left =
      ap (on_top [] stack_in) frames ∙ sym (ap (on_top [] stack_in) at.frames) ∙ stack_is program index objects limit held outside decoded method at asks in
      sym (ap (λ frames. frames_changed roots (changed_in (placed_at pc) (changed_in (stack_changed (λ stack. answer ++ values_left)) frames))) frames)
      ∙ ap (λ (stack : List Value). placed (stacked roots (answer ++ stack)) pc)
      (sym (ap (λ (stack : List Value). drop (argument_count program decoded) stack) stack
      ∙ ap (λ (count : ℕ). drop count (values_given ++ values_left)) (count_is program index objects limit held outside decoded method at asks)
      ∙ drop-append_seam values_given values_left))

  -- ---- where room was made

  module _ (places : ℕ → ℕ) (stay : List (Option Object)) (roots : Roots) (collects : Collects view (seen places stay roots)) where
    abbrev middle : View
    middle = seen places stay roots

    abbrev marks : List Bool
    marks = residents stay

    kept_so : (input printed : List ℕ) → state_in middle input printed ≡ kept_state marks (state_in view input printed)
    kept_so input printed =
        ap₂ (λ (roots : Roots) (objects : List (Option Object)). state_in (record { roots = roots; objects = objects }) input printed) collects.roots collects.objects

    keeping_so : (input printed : List ℕ) → IsKeeping marks (state_in view input printed)
    keeping_so input printed = record {
      count = marks_count stay ∙ collects.count;
      closed = subst IsClosed (ap₂ (λ (roots : Roots) (objects : List (Option Object)). record { roots = roots; objects = objects }) collects.roots collects.objects) collects.closed;
    }

    unseen : IsUnseen (keep marks) (is_held (keep marks objects)) state
    unseen = keep_unseen marks state (keeping_so outside.input outside.printed)

    passes : IsTrue (list_all (is_held (keep marks objects)) (references_in arguments))
    passes =
        subst (λ (held : List Value). IsTrue (list_all (is_held (keep marks objects)) (references_in held))) (sym arguments_are)
        (reversed_held (is_held (keep marks objects)) values_given
        (front_held (is_held (keep marks objects)) values_given values_left
        (subst (λ (stack : List Value). IsTrue (list_all (is_held (keep marks objects)) (references_in stack)))
        (stack_is program index objects limit held outside decoded method at asks)
        (stack_held (is_held (keep marks objects)) state.roots unseen.roots))))

    same_arguments : map (read_value places) (arguments_at program decoded roots) ≡ arguments
    same_arguments =
        arguments_read program decoded places roots ∙ ap (arguments_at program decoded) collects.roots ∙ sym (arguments_read program decoded index held)

    -- it asks for the same, or throws the same
    done_kept : (frames : ℕ) (input printed : List ℕ) (done : Performed)
        → performed (machine_in program frames) (state_in view input printed) native arguments ≡ Some done
        → performed (machine_in program frames) (state_in middle input printed) native arguments ≡ Some (changed_performed (keep marks) done)
    done_kept frames input printed done is =
        ap (λ (state : State). performed (machine_in program frames) state native arguments) (kept_so input printed)
        ∙ natives_keep (machine_in program frames) marks (state_in view input printed) (keeping_so input printed) native arguments passes
        ∙ ap (option_map (changed_performed (keep marks))) is

    performs_kept : (frames : ℕ) (input printed : List ℕ) (own : Plan) (answer : List Value)
        → performed (machine_in program frames) (state_in view input printed) native arguments ≡ Some (Gives own answer)
        → performed (machine_in program frames) (state_in middle input printed) native arguments ≡ Some (Gives (kept_plan marks own) answer)
    performs_kept frames input printed own answer gives = done_kept frames input printed (Gives own answer) gives

    pub stops_again : (own : Plan) → performed machine state native arguments ≡ Some (Stops own)
        → performed machine (state_of middle outside) native (map (read_value places) (arguments_at program decoded roots)) ≡ Some (Stops (kept_plan marks own))
    stops_again own stops = ap (performed machine (state_of middle outside) native) same_arguments ∙ done_kept limit outside.input outside.printed (Stops own) stops

    asks_kept : {wants : List Want} → Asks program view native arguments wants → Asks program middle native arguments wants
    asks_kept makes frames input printed =
        let own = makes frames input printed in
        record { own = kept_plan marks own.own; answer = own.answer; is = performs_kept frames input printed own.own own.answer own.is; asks = own.asks }

    pub asks_again : {wants : List Want} → Asks program view native arguments wants → Asks program middle native (map (read_value places) (arguments_at program decoded roots)) wants
    asks_again {wants} makes = subst (λ (held : List Value). Asks program middle native held wants) (sym same_arguments) (asks_kept makes)

    -- and the step of what is kept is the same
    plans_kept : (own : Plan) (answer : List Value) (pc : ℕ) → decoded.next ≡ Some pc → performed machine state native arguments ≡ Some (Gives own answer)
        → plan machine (state_of middle outside) ≡ Some (behind (kept_plan marks own) answer pc)
    plans_kept own answer pc next gives =
        ap (plan machine) (kept_so outside.input outside.printed)
        ∙ plan_kept machine (keep marks) (is_held (keep marks objects)) state unseen (natives_keep machine marks state (keeping_so outside.input outside.printed))
        ∙ ap (option_map (kept_plan marks)) (plans_so own answer pc next gives)

    -- and what it leaves follows what sites allow, where they allow what may come
    pub may_leave_still : (allows : ℕ → ℕ → Bool) {wants : List Want} (pc : ℕ) → decoded.next ≡ Some pc → Asks program view native arguments wants
        → AreAllowed allows machine state → MayLeave program allows middle native (map (read_value places) (arguments_at program decoded roots))
    may_leave_still allows pc next makes allowed = record { frames = limit; input = outside.input; printed = outside.printed; each = each } where
      stay_allowed : AreAllowed allows machine (state_of middle outside)
      stay_allowed =
          subst (AreAllowed allows machine) (sym (kept_so outside.input outside.printed))
          (allowed_on allows machine state (kept_state marks state) allowed (MayCome.Kept marks state MayCome.Here (keeping_so outside.input outside.printed)))

      each : (own : Plan) (answer : List Value)
          → performed (machine_in program limit) (state_in middle outside.input outside.printed) native (map (read_value places) (arguments_at program decoded roots)) ≡ Some (Gives own answer)
          → Follows allows (made own).objects
      each own answer gives =
          let mine = makes limit outside.input outside.printed in
          let same = same_gives own (kept_plan marks mine.own) answer mine.answer
          (sym gives ∙ ap (performed machine (state_of middle outside) native) same_arguments
          ∙ performs_kept limit outside.input outside.printed mine.own mine.answer mine.is) in
          subst (λ (own : Plan). Follows allows (made own).objects) (sym same.0)
          (allowed_next allows machine (state_of middle outside) (behind (kept_plan marks mine.own) mine.answer pc) stay_allowed (plans_kept mine.own mine.answer pc next mine.is))

    -- what is given
    pub typed_still : IsTypedState program state → IsTypedState program (state_of middle outside)
    typed_still typed =
        subst (IsTypedState program) (sym (kept_so outside.input outside.printed))
        (kept_states_are_typed program marks state typed (keeping_so outside.input outside.printed).closed)

    quiet_still : (state_of middle outside).roots.pending ≡ 0
    quiet_still = ap (λ (roots : Roots). roots.pending) collects.roots ∙ at.quiet

    called_still : (place : ℕ) (more : List Value) → reverse values_given ≡ values.Ref (suc place) ∷ more → object_in stay (suc place) ≡ object_in objects (suc place)
    called_still place more are =
        ap (λ (objects : List (Option Object)). object_in objects (suc place)) collects.objects
        ∙ unseen.same (suc place)
        (value_held (is_held (keep marks objects)) arguments 0 (suc place) (ap (λ (held : List Value). slice_get held 0) (arguments_are ∙ are)) passes)

    taken_still : IsLinked program → IsTyped program → IsTypedState program state → AreTaken program (kinds_of stay) native (reverse values_given)
    taken_still linked fits typed =
        let own = doing program index objects limit held outside decoded method at asks in
        arguments_are_given machine (state_of middle outside) at.frame at.below at.insn own.action own.named method native (reverse values_given) values_left linked fits (typed_still typed)
        quiet_still (ap (λ (roots : Roots). roots.frames) collects.roots ∙ at.frames) at.there own.acts own.names
        (own.performing.stack ∙ ap (λ (front : List Value). front ++ values_left) (sym (reverse-reverse values_given)))
        (runs_on program objects stay at.frame.method own.named method (reverse values_given) own.action own.runs called_still) is

    pub enough_still : argument_count program decoded ≤ length (top_stack roots)
    enough_still =
        let same : map (read_value places) (top_stack roots) ≡ map (read_value index) (top_stack held) =
        sym (reads_stack places roots) ∙ ap top_stack collects.roots ∙ reads_stack index held in
        let size = ap (λ (stack : List Value). length stack) same in
        let there = enough program index objects limit held outside decoded method at asks in
        omega (arith, size, there, length-map (top_stack roots) (read_value places), length-map (top_stack held) (read_value index))

    module _ (linked : IsLinked program) (fits : IsTyped program) (typed : IsTypedState program state) (has : HasNatives program) where
      pub some_still : makes native ≡ true → 0 < argument_count program decoded
      some_still makes =
          subst (λ (count : ℕ). 0 < count)
          (sym (count_there program index objects limit held outside decoded method at asks native is linked fits typed has))
          (ltb-true 0 (length (sorts_of native)) (some_sorts native makes))

      pub given_still : AreGiven stay (roles native) (map (read_value places) (arguments_at program decoded roots))
      given_still =
          let taken = taken_still linked fits typed in
          subst (AreGiven stay (roles native)) (sym (same_arguments ∙ arguments_are))
          (natives_given machine (state_of middle outside) has (typed_still typed) quiet_still taken.method taken.own native (reverse values_given) taken.have)

      pub laid_still : IsWhole program → (all : List Shape) → ShapesOf program all
          → AreLaid program stay native (map (read_value places) (arguments_at program decoded roots))
      laid_still whole all are =
          let taken = taken_still linked fits typed in
          subst (AreLaid program stay native) (sym (same_arguments ∙ arguments_are))
          (natives_laid machine (state_of middle outside) has (typed_still typed) quiet_still whole all are taken.method taken.own native (reverse values_given) taken.have)

      pub sorts_still : have_sorts (sorts_of native) (arguments_at program decoded roots) ≡ true
      sorts_still = sorts_given stay places native (arguments_at program decoded roots) given_still

    -- the turn
    pub turn_so : {Facts : Type 0} (rules : Rules Facts) (facts between now : Facts) (after : View) (wants : List Want) (pc : ℕ) → decoded.next ≡ Some pc
        → Asks program view native arguments wants
        → RoomMade rules (moment_of view outside facts) wants (moment_of middle outside between)
        → Left rules program native (map (read_value places) (arguments_at program decoded roots)) (argument_count program decoded) pc middle between after now
        → TurnMade rules machine (moment_of view outside facts) (moment_of after outside now)
    turn_so rules facts between now after wants pc next makes room left =
        let own = makes limit outside.input outside.printed in
        let done = left.performs limit outside.input outside.printed in
        let same = same_gives done.own (kept_plan marks own.own) left.answer own.answer
        (sym done.is ∙ ap (performed machine (state_of middle outside) native) same_arguments
        ∙ performs_kept limit outside.input outside.printed own.own own.answer own.is) in
        let frames : left.ran.frames ≡ OfMethod at.frame ∷ at.below = left.frames ∙ ap (λ (roots : Roots). roots.frames) collects.roots ∙ at.frames in
        record {
          middle = moment_of middle outside between;
          room = subst (λ (wants : List Want). RoomMade rules (moment_of view outside facts) wants (moment_of middle outside between)) (sym (request_so pc next makes)) room;
          own = behind done.own left.answer pc;
          plans = plans_kept own.own own.answer pc next own.is ∙ ap₂ (λ (own : Plan) (answer : List Value). Some (behind own answer pc)) (sym same.0) (sym same.1);
          steps = ap (λ (roots : Roots). state_of (record { roots = roots; objects = after.objects }) outside) (left.left ∙ sym (left_in left.ran left.answer pc frames))
              ∙ ap (λ (state : State). with_frames state (frames_behind left.answer pc)) done.steps;
          knows = done.knows;
        }

  pub refused_so : {Facts : Type 0} (rules : Rules Facts) (facts now : Facts) (after : View) (wants : List Want) (pc : ℕ) (reason : NoRoom) → decoded.next ≡ Some pc
      → Asks program view native arguments wants
      → RoomRefused rules (moment_of view outside facts) wants reason (moment_of after outside now)
      → TurnRefused rules machine (moment_of view outside facts) reason (moment_of after outside now)
  refused_so rules facts now after wants pc reason next makes refused = record {
    refused = subst (λ (wants : List Want). RoomRefused rules (moment_of view outside facts) wants reason (moment_of after outside now)) (sym (request_so pc next makes)) refused;
  }
