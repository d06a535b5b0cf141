-- Turns in which the string of a text is loaded: one that has an object, and one that has none yet.
use Rattle.std.proofs.Common.{◌≡◌, ◌∙◌, ap, ap₂, append_assoc, refl, sym, subst, arith, ℕ, zero, suc, ◌+◌, ◌*◌, ◌/◌, ◌<◌, ◌≤◌, ◌^◌, Bool, true, List, [], ◌∷◌, length, map, min, Option, Some, None}
use Rattle.std.proofs.Math.Nat.{min-eq_left}
use Rattle.std.proofs.lemmas.Bool.{false≢true}
use Rattle.std.proofs.lemmas.List.{length-map}
use Rattle.std.proofs.lemmas.List.Sums.{sum_by-cons}
use Rattle.std.proofs.lemmas.Option.{none-some, same_Some, slice_get-map}
use Rattle.std.specs.Prelude.{option_map, slice_get}
use Rattle.std.specs.declared.result.Result.TheVariants.{Err, Ok}
use Rattle.cb_frames.specs.Tops.{at_place as placed_at, changed_in, on_top, placed, pushed, room_in, top_room, with_stack}
use Rattle.cb_heap.proofs.Laws.{reads_placed, reads_pushed}
use Rattle.cb_heap.specs.Closed.{Collects}
use Rattle.cb_heap.specs.Grants.{IsBounded, words_granted}
use Rattle.cb_interp.proofs.TurnsNeedSerials.{HasSerials, serials_all}
use Rattle.cb_heap.specs.Kept.{residents}
use Rattle.cb_heap.specs.Reading.{View, read_roots, seen, serial_of}
use Rattle.cb_heap.specs.Rules.{Rules}
use Rattle.cb_heap.specs.declared.no_room.NoRoom.{NoRoom}
use Rattle.cb_link.specs.Program.{Linked}
use Rattle.cb_link.specs.declared.decoded.Decoded.{Decoded}
use Rattle.cb_link.specs.declared.named.Named.TheVariants as meanings
use Rattle.cb_machine.specs.Computing.{loads_constant}
use Rattle.cb_machine.specs.Machine.{Machine, kind_of_site, listed, or_zero}
use Rattle.cb_machine.specs.Plans.{asked, leaving, made, object_of, with_left, with_one}
use Rattle.cb_machine.specs.Sites.{constant_characters, constant_strings}
use Rattle.cb_machine.specs.Standing.{Now, named_here}
use Rattle.cb_machine.specs.Steps.{asked_of, plan}
use Rattle.cb_machine.specs.Strings.{unit_contents}
use Rattle.cb_plain.specs.Requests.{add_want, most_words, spent, words_at}
use Rattle.cb_plain.specs.Roots.{with_entry}
use Rattle.cb_plain.specs.State.{Frame, Object, Reference, Roots, State, words_of}
use Rattle.cb_plain.specs.Updates.{with_frames, with_objects, with_roots}
use Rattle.cb_plain.specs.Updates as updates
use Rattle.cb_plain.specs.declared.table.Table.TheVariants.{Constants}
use Rattle.cb_plain.specs.declared.value.Value.{Value}
use Rattle.cb_plain.specs.declared.value.Value.TheVariants.{Ref}
use Rattle.cb_plain.specs.declared.want.Want.{Want}
use Rattle.cb_safety.specs.Linked.{IsLinked}
use Rattle.cb_safety.specs.States.{IsTypedState}
use Rattle.cb_shapes.specs.Shapes.{action_of}
use Rattle.cb_shapes.specs.declared.action.Action.{Action}
use Rattle.cb_shapes.specs.declared.action.Action.TheVariants as actions
use Rattle.cb_unwind.specs.Strings.{IsNew, constant_or_new, new_constant, units_of, with_constant}
use Rattle.cb_verify.specs.Typed.{IsTyped}
use Rattle.cb_act.specs.Coming.{AreAllowed}
use Rattle.cb_act.specs.Here.{Here}
use Rattle.cb_interp.specs.Loading.{IsTextHere, Loading, LoadsNew, laid, loads_by, loads_new}
use Rattle.cb_act.specs.Placing.{with_view}
use Rattle.cb_act.specs.Steps.{StandsBefore, view_of}
use Rattle.cb_act.specs.Turning.{Asked, Moment, Outside, RoomMade, TurnMade, TurnRefused, machine_of, moment_of, state_of}
use Rattle.cb_act.proofs.Laws.{now}
use Rattle.cb_interp.proofs.TurnsMade.{quiet_turn}
use Rattle.cb_interp.proofs.TurnsMaking.{room_read}
use Rattle.cb_interp.proofs.Allowed.{allowed_collected, allowed_next}
use Rattle.cb_interp.proofs.FollowHere.{room_here}
use Rattle.cb_interp.proofs.FollowTexts.{text_pair_last}
use Rattle.cb_interp.proofs.TypedActs.{typed_goes}

-- ---- tables that are read

pub zero_read : (index : ℕ → ℕ) (entry : ℕ) → serial_of index entry ≡ 0 → entry ≡ 0
zero_read index zero is = refl
zero_read index (suc place) is = absurd (cc is)

pub listed_read : (index : ℕ → ℕ) (table : List ℕ) (place : ℕ) → listed (map (serial_of index) table) place ≡ serial_of index (listed table place)
listed_read index table place = ap or_zero (slice_get-map (serial_of index) table place) ∙ go (slice_get table place) where
  go : (found : Option ℕ) → or_zero (option_map (serial_of index) found) ≡ serial_of index (or_zero found)
  go None = refl
  go (Some entry) = refl

-- one that has an object
pub known_from : (index : ℕ → ℕ) (held : Roots) (text : ℕ) → (IsNew held text → ⊥) → (place : ℕ) × (listed (read_roots index held).tables.constants text ≡ suc place)
known_from index held text known = go (listed held.tables.constants text) refl where
  go : (entry : ℕ) → listed held.tables.constants text ≡ entry → (place : ℕ) × (listed (read_roots index held).tables.constants text ≡ suc place)
  go zero is = absurd (known is)
  go (suc place) is = (index (suc place), listed_read index held.tables.constants text ∙ ap (serial_of index) is)

-- a text that has no object has none after a collection
pub new_again : (index now : ℕ → ℕ) (held after : Roots) (text : ℕ) → read_roots now after ≡ read_roots index held → IsNew held text → IsNew after text
new_again index now held after text same new =
    zero_read now (listed after.tables.constants text)
    (sym (listed_read now after.tables.constants text) ∙ ap (λ (roots : Roots). listed roots.tables.constants text) same
    ∙ listed_read index held.tables.constants text ∙ ap (serial_of index) new)

pub new_read : (index : ℕ → ℕ) (held : Roots) (text : ℕ) → IsNew held text → listed (read_roots index held).tables.constants text ≡ 0
new_read index held text new = listed_read index held.tables.constants text ∙ ap (serial_of index) new

pub table_again : (index now : ℕ → ℕ) (held after : Roots) (text : ℕ) → read_roots now after ≡ read_roots index held → text < length held.tables.constants
    → text < length after.tables.constants
table_again index now held after text same low =
    let one : length (map (serial_of now) after.tables.constants) ≡ length (map (serial_of index) held.tables.constants) =
    ap (λ (roots : Roots). length roots.tables.constants) same in
    let first = length-map after.tables.constants (serial_of now) in
    let last = length-map held.tables.constants (serial_of index) in
    omega (arith, low, one, first, last)

-- ---- what is left where an object is laid on the stack

pub laid_so : (index : ℕ → ℕ) (objects : List (Option Object)) (held : Roots) (at pc : ℕ)
    → seen index objects (placed (pushed held (Ref at)) pc) ≡ laid (serial_of index at) (seen index objects held) pc
laid_so index objects held at pc =
    ap (λ (roots : Roots). record { roots = roots; objects = objects })
    (reads_placed index (pushed held (Ref at)) pc ∙ ap (λ (roots : Roots). placed roots pc) (reads_pushed index held (Ref at)))

pub some_frames : (held : Roots) (value : Value) → 0 < top_room held → 0 < length (pushed held value).frames
some_frames held value low = go held.frames low where
  go : (frames : List Frame) → 0 < on_top 0 room_in frames → 0 < length (changed_in (with_stack (λ stack. value ∷ stack)) frames)
  go [] low = absurd (omega (arith, low))
  go (frame ∷ below) low = omega arith

module _ (program : Linked) (text : ℕ) (index now after : ℕ → ℕ) (kept new : List (Option Object)) (held middle final : Roots) (at : ℕ)
    (same : read_roots now middle ≡ read_roots index held) (fresh : IsNew held text)
    (behind : with_constant program text (seen now kept middle) ≡ (serial_of after at, seen after new final)) where
  pub told : (serial_of after at, seen after new final) ≡ new_constant program text (seen now kept middle)
  told = sym behind ∙ ap (constant_or_new program text (seen now kept middle)) (new_read now middle text (new_again index now held middle text same fresh))

  pub room_behind : 0 < top_room held → 0 < top_room final
  room_behind low =
      let whole : top_room final ≡ top_room held =
      sym (room_read after final) ∙ ap (λ (found : ℕ × View). top_room found.1.roots) told ∙ ap top_room same ∙ room_read index held in
      subst (λ (room : ℕ). 0 < room) (sym whole) low

  pub left_behind : (last : Roots) (pc : ℕ) → last ≡ placed (pushed final (Ref at)) pc
      → seen after new last ≡ laid (length kept + 2) (new_constant program text (seen now kept middle)).1 pc
  left_behind last pc is =
      ap (seen after new) is ∙ laid_so after new final at pc ∙ ap (λ (found : ℕ × View). laid found.0 found.1 pc) told

-- ---- the plans

module _ (now : Now) (pc : ℕ) (stands : StandsBefore now pc) (text : ℕ) (names : named_here now ≡ meanings.Text text) where
  known_is : (place : ℕ) → listed now.state.roots.tables.constants text ≡ suc place
      → loads_constant now ≡ Some (leaving (with_roots now.state (placed (pushed now.state.roots (Ref (suc place))) pc)))
  known_is place is =
      rw (names, is, stands.next)
      (ap (λ frames. Some (leaving (with_frames now.state (changed_in (placed_at pc) (changed_in (with_stack (λ stack. Ref (suc place) ∷ stack)) frames))))) (sym stands.frames))

  new_is : listed now.state.roots.tables.constants text ≡ 0 → loads_constant now ≡ Some (loads_new now.machine now.state text pc)
  new_is is =
      rw (names, is, stands.next)
      (ap (λ frames. Some (with_left
      (with_one (with_one (leaving now.state) constant_characters (kind_of_site now.machine.program constant_characters) (unit_contents (units_of now.machine.program text)))
      constant_strings (kind_of_site now.machine.program constant_strings) (Reference (length now.state.objects + 1) ∷ []))
      (with_frames (updates.with_entry now.state Constants text (length now.state.objects + 1 + 1))
      (changed_in (placed_at pc) (changed_in (with_stack (λ stack. Ref (length now.state.objects + 1 + 1) ∷ stack)) frames))))) (sym stands.frames))

pub data Loads (action : Option Action) : Type 0 where
  Constant : (index : ℕ) → action ≡ Some (actions.Constant index) → Loads action

pub loads_so : (action : Option Action) → loads_by action ≡ true → Loads action
loads_so None loads = absurd (false≢true loads)
loads_so (Some action) loads = go action loads where
  go : (action : Action) → loads_by (Some action) ≡ true → Loads (Some action)
  go (actions.Constant index) loads = Constant index refl
  go other loads = absurd (false≢true loads)

-- it goes on at a next place
pub load_goes : (machine : Machine) (state : State) (decoded : Decoded) → Here machine state decoded → IsLinked machine.program → IsTyped machine.program
    → IsTypedState machine.program state → loads_by decoded.action ≡ true → decoded.next ≡ None → ⊥
load_goes machine state decoded at linked fits typed loads none = go (loads_so decoded.action loads) where
  go : Loads decoded.action → ⊥
  go (Constant index is) =
      let next = typed_goes machine state decoded at linked fits typed (actions.Constant index) is refl in
      none-some next.0 (sym none ∙ next.1)

module _ (machine : Machine) (state : State) (decoded : Decoded) (at : Here machine state decoded) (loading : Loading) (here : IsTextHere machine.program decoded loading) where
  abbrev at_now : Now
  at_now = now machine state at.frame at.below at.insn at.frames

  whole : plan machine state ≡ loads_constant at_now
  whole = go (loads_so decoded.action here.loads) where
    go : Loads decoded.action → plan machine state ≡ loads_constant at_now
    go (Constant index is) =
        let does : action_of at.insn ≡ Some (actions.Constant index) = sym (ap (λ (decoded : Decoded). decoded.action) at.is) ∙ is in
        rw (at.runs, at.quiet, at.frames, at.there, does) refl

  names_here : named_here at_now ≡ meanings.Text loading.text
  names_here = sym (ap (λ (decoded : Decoded). decoded.named) at.is) ∙ here.names

  stands : StandsBefore at_now loading.next
  stands = record { frames = at.frames; next = sym (ap (λ (decoded : Decoded). decoded.next) at.is) ∙ here.next }

  known_plan : (place : ℕ) → listed state.roots.tables.constants loading.text ≡ suc place
      → plan machine state ≡ Some (leaving (with_roots state (placed (pushed state.roots (Ref (suc place))) loading.next)))
  known_plan place is = whole ∙ known_is at_now loading.next stands loading.text names_here place is

  new_plan : listed state.roots.tables.constants loading.text ≡ 0 → plan machine state ≡ Some (loads_new machine state loading.text loading.next)
  new_plan is = whole ∙ new_is at_now loading.next stands loading.text names_here is

-- ---- of roots and a store

module _ (program : Linked) (limit : ℕ) (index : ℕ → ℕ) (kept : List (Option Object)) (held : Roots) (outside : Outside) (decoded : Decoded) (loading : Loading)
    (here : IsTextHere program decoded loading) where
  abbrev state : State
  state = state_of (seen index kept held) outside

  abbrev machine : Machine
  machine = machine_of program limit

  pub loads_new_so : Here machine state decoded → IsNew held loading.text → LoadsNew machine (read_roots index held) outside loading.text loading.next
  loads_new_so at new objects =
      new_plan machine (state_of (record { roots = read_roots index held; objects = objects }) outside) decoded
      (record { frame = at.frame; below = at.below; frames = at.frames; quiet = at.quiet; runs = at.runs; insn = at.insn; there = at.there; is = at.is })
      loading here (new_read index held loading.text new)

  module _ (typed : IsTypedState program state) where
    pub table_there : loading.text < length held.tables.constants
    table_there =
        let whole : length (map (serial_of index) held.tables.constants) ≡ length program.constants = typed.roots.tables.constants.count in
        let same = length-map held.tables.constants (serial_of index) in
        let low = here.low in
        omega (arith, whole, same, low)

    pub load_room : Here machine state decoded → IsLinked program → IsTyped program → 0 < top_room held
    load_room at linked fits = go (loads_so decoded.action here.loads) where
      go : Loads decoded.action → 0 < top_room held
      go (Constant number is) =
          let room = room_here machine state decoded at linked fits typed in
          subst (λ (room : ℕ). 0 < room) (room_read index held) (room.lays (actions.Constant number) is refl)

  pub known_turn : {Facts : Type 0} (rules : Rules Facts) (facts : Facts) (at : Here machine state decoded) (known : ℕ) (after : Roots)
      → slice_get held.tables.constants loading.text ≡ Some known → (IsNew held loading.text → ⊥) → after ≡ placed (pushed held (Ref known)) loading.next
      → TurnMade rules machine (moment_of (seen index kept held) outside facts) (moment_of (seen index kept after) outside facts)
  known_turn rules facts at zero after there old is = absurd (old (ap or_zero there))
  known_turn rules facts at (suc place) after there old is =
      let serial : listed (read_roots index held).tables.constants loading.text ≡ suc (index (suc place)) =
      listed_read index held.tables.constants loading.text ∙ ap (λ (found : Option ℕ). serial_of index (or_zero found)) there in
      quiet_turn rules machine (moment_of (seen index kept held) outside facts) (moment_of (seen index kept after) outside facts)
      (leaving (with_roots state (placed (pushed (read_roots index held) (Ref (suc (index (suc place))))) loading.next)))
      (known_plan machine state decoded at loading here (index (suc place)) serial) refl
      (ap (λ (after : Roots). state_of (seen index kept after) outside) is ∙ ap (λ (view : View). state_of view outside) (laid_so index kept held (suc place) loading.next)) refl

-- ---- a new one

-- what is asked for
abbrev pub text_wants : Linked → ℕ → List Want
text_wants program text =
    add_want (add_want [] (record { site = constant_characters; words = words_of (length (units_of program text)) })) (record { site = constant_strings; words = 4 })

pub one_time : (words : ℕ) → (0 + 1) * words ≡ words
one_time words = omega arith

pub units_count : (program : Linked) (text : ℕ) → length (unit_contents (units_of program text)) ≡ length (units_of program text)
units_count program text = length-map (units_of program text) _

asks_new : (machine : Machine) (state : State) (text pc : ℕ) → asked (loads_new machine state text pc) ≡ text_wants machine.program text
asks_new machine state text pc =
    ap (λ (words : ℕ). add_want (add_want [] (record { site = constant_characters; words = words })) (record { site = constant_strings; words = 4 }))
    (one_time (words_of (length (unit_contents (units_of machine.program text)))) ∙ ap words_of (units_count machine.program text))

pub new_made : (machine : Machine) (state : State) (text pc : ℕ)
    → made (loads_new machine state text pc) ≡ with_view state (laid (length state.objects + 2) (new_constant machine.program text (view_of state)).1 pc)
new_made machine state text pc =
    ap₂ (λ (serial : ℕ) (objects : List (Option Object)). with_view state (record { roots = placed (pushed (with_entry state.roots Constants text serial) (Ref serial)) pc; objects = objects }))
    (second (length state.objects)) (append_assoc state.objects (Some array ∷ []) (Some string ∷ []))
  where
    second : (count : ℕ) → count + 1 + 1 ≡ count + 2
    second count = omega arith

    array : Object
    array = object_of constant_characters (kind_of_site machine.program constant_characters) (unit_contents (units_of machine.program text))

    string : Object
    string = object_of constant_strings (kind_of_site machine.program constant_strings) (Reference (length state.objects + 1) ∷ [])

module _ {Facts : Type 0} (rules : Rules Facts) (machine : Machine) (before : Moment Facts) (text pc : ℕ) where
  -- a string is allowed to refer to its characters, where what is left follows
  pub new_pair : (allows : ℕ → ℕ → Bool) (middle : Moment Facts) → AreAllowed allows machine before.state → Collects (view_of before.state) (view_of middle.state)
      → middle.state ≡ with_objects before.state middle.state.objects → plan machine middle.state ≡ Some (loads_new machine middle.state text pc)
      → allows constant_strings constant_characters ≡ true
  new_pair allows middle allowed collects same again =
      text_pair_last allows machine.program text (view_of middle.state) (made (loads_new machine middle.state text pc)).objects
      (ap (λ (state : State). state.objects) (new_made machine middle.state text pc))
      (allowed_next allows machine middle.state (loads_new machine middle.state text pc) (allowed_collected rules machine allows before middle allowed collects same) again)

module _ {Facts : Type 0} (rules : Rules Facts) (machine : Machine) (before after : Moment Facts) (text pc : ℕ)
    (is : plan machine before.state ≡ Some (loads_new machine before.state text pc)) where
  asked_so : asked_of (plan machine before.state) ≡ text_wants machine.program text
  asked_so = ap asked_of is ∙ asks_new machine before.state text pc

  pub new_turn : (middle : Moment Facts)
      → rules.makes_room before.facts (view_of before.state) (text_wants machine.program text) (Ok tt) (record { facts = middle.facts; residents = residents middle.state.objects })
      → Collects (view_of before.state) (view_of middle.state) → middle.state ≡ with_objects before.state middle.state.objects
      → plan machine middle.state ≡ Some (loads_new machine middle.state text pc) → after.state ≡ made (loads_new machine middle.state text pc)
      → after.facts ≡ rules.placed (rules.placed middle.facts constant_characters (length (units_of machine.program text))) constant_strings 1
      → TurnMade rules machine before after
  new_turn middle ruled collects same again steps knows = record {
    middle = middle;
    room = subst (λ (wants : List Want). RoomMade rules before wants middle) (sym asked_so)
        (Asked (record { site = constant_characters; words = min (words_of (length (units_of machine.program text))) most_words })
        (record { site = constant_strings; words = 4 } ∷ []) middle ruled collects same);
    own = loads_new machine middle.state text pc;
    plans = again;
    steps = steps;
    knows = knows ∙ ap (λ (count : ℕ). rules.placed (rules.placed middle.facts constant_characters count) constant_strings 1) (sym (units_count machine.program text));
  }

  pub new_refused : (reason : NoRoom)
      → rules.makes_room before.facts (view_of before.state) (text_wants machine.program text) (Err reason) (record { facts = after.facts; residents = residents after.state.objects })
      → Collects (view_of before.state) (view_of after.state) → after.state ≡ with_objects before.state after.state.objects → TurnRefused rules machine before reason after
  new_refused reason ruled collects same = record {
    refused = record {
      asked = λ none. let both : text_wants machine.program text ≡ [] = sym asked_so ∙ none in cc both;
      ruled = subst (λ (wants : List Want). rules.makes_room before.facts (view_of before.state) wants (Err reason) (record { facts = after.facts; residents = residents after.state.objects }))
          (sym asked_so) ruled;
      collects = collects;
      same = same;
    };
  }

-- what is granted is enough
abbrev pub Enough : Linked → (text objects : ℕ) → List Want → Type 0
Enough program text objects granted =
    (words_of (length (units_of program text)) ≤ words_at granted constant_characters)
    × ((words_of 1 ≤ words_at (spent granted constant_characters (words_of (length (units_of program text)))) constant_strings) × (objects + 2 < 2 ^ 63))

abbrev two_wants : Linked → (text : ℕ) → List Want → List Want
two_wants program text rest =
    record { site = constant_characters; words = min (words_of (length (units_of program text))) most_words } ∷ record { site = constant_strings; words = 4 } ∷ rest

pub enough : (program : Linked) (text objects : ℕ) (rest : List Want) → length (units_of program text) < 2 ^ 32 → objects + 1 + words_granted (two_wants program text rest) / 3 < 2 ^ 63
    → Enough program text objects (two_wants program text rest) × (objects + 1 + (7 + length (units_of program text) + words_granted rest) / 3 < 2 ^ 63)
enough program text objects rest few serials =
    let low : words_of (length (units_of program text)) ≤ most_words = omega (arith, few) in
    let words : min (words_of (length (units_of program text))) most_words ≡ words_of (length (units_of program text)) = min-eq_left low in
    let sum : words_granted (two_wants program text rest) ≡ min (words_of (length (units_of program text))) most_words + (4 + words_granted rest) =
    sum_by-cons (λ (want : Want). want.words) (record { site = constant_characters; words = min (words_of (length (units_of program text))) most_words })
    (record { site = constant_strings; words = 4 } ∷ rest)
    ∙ ap (λ (more : ℕ). min (words_of (length (units_of program text))) most_words + more) (sum_by-cons (λ (want : Want). want.words) (record { site = constant_strings; words = 4 }) rest) in
    let total : words_granted (two_wants program text rest) ≡ 7 + length (units_of program text) + words_granted rest = omega (arith, sum, words) in
    let left : objects + 1 + (7 + length (units_of program text) + words_granted rest) / 3 < 2 ^ 63 = subst (λ (granted : ℕ). objects + 1 + granted / 3 < 2 ^ 63) total serials in (
      (omega (arith, words), (omega arith, omega (arith, left))),
      left,
    )

pub text_granted : (program : Linked) (text objects : ℕ) (fixed : Bool) (granted wants : List Want) → HasSerials fixed objects → granted ≡ wants → wants ≡ text_wants program text
    → length (units_of program text) < 2 ^ 32 → IsBounded fixed objects wants → Enough program text objects granted
text_granted program text objects fixed granted wants grows is asked few bounded =
    subst (Enough program text objects) (sym (is ∙ asked))
    (enough program text objects [] few (subst (λ (wants : List Want). objects + 1 + words_granted wants / 3 < 2 ^ 63) asked (serials_all fixed objects wants grows bounded))).0

-- one mark
pub one_mark : (marks : List Bool) (own : Bool) → length marks ≡ 1 → slice_get marks 0 ≡ Some own → marks ≡ own ∷ []
one_mark [] own count is = absurd (omega (arith, count))
one_mark (mark ∷ []) own count is = ap (λ (mark : Bool). mark ∷ []) (same_Some mark own is)
one_mark (mark ∷ other ∷ marks) own count is = absurd (omega (arith, count))
