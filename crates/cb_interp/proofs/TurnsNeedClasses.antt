-- Turns in which the object of a class is loaded: one that is there, and one that is placed.
use Rattle.std.proofs.Common.{◌≡◌, ◌∙◌, add-one, ap, ap₂, refl, sym, subst, arith, ℕ, zero, suc, pos, ◌+◌, ◌<◌, ◌^◌, Bool, true, false, not, IsTrue, List, [], ◌∷◌, ◌++◌, length, map, Option, Some}
use Rattle.std.proofs.lemmas.Bool.{false≢true}
use Rattle.std.proofs.lemmas.Int.{int_wrap_fits}
use Rattle.std.proofs.lemmas.List.{length-map}
use Rattle.std.specs.Int.{int_wrap, w64}
use Rattle.std.specs.List.{list_all}
use Rattle.std.specs.Prelude.{slice_get}
use Rattle.std.specs.declared.result.Result.TheVariants.{Err, Ok}
use Rattle.cb_frames.specs.Tops.{at_place as placed_at, changed_in, placed, pushed, top_room, with_stack}
use Rattle.cb_heap.proofs.Laws.{content_of_object, placed_there, reads_entry, roots_again}
use Rattle.cb_heap.specs.Closed.{Collects}
use Rattle.cb_heap.specs.Kept.{content_at, is_held, is_number, residents, with_content}
use Rattle.cb_heap.specs.Reading.{View, read_roots, seen, serial_of}
use Rattle.cb_heap.specs.Rules.{Rules}
use Rattle.cb_heap.specs.Shaped.{has_size, new_object}
use Rattle.cb_heap.specs.Store.{ReadsAsBefore}
use Rattle.cb_heap.specs.declared.no_room.NoRoom.{NoRoom}
use Rattle.cb_link.specs.Program.{Linked}
use Rattle.cb_link.specs.declared.decoded.Decoded.{Decoded}
use Rattle.cb_link.specs.declared.named.Named.TheVariants as meanings
use Rattle.cb_machine.specs.Computing.{loads_constant}
use Rattle.cb_machine.specs.Machine.{Machine, kind_of_site, listed, or_zero}
use Rattle.cb_machine.specs.Plans.{leaving, made, object_of, with_left, with_one}
use Rattle.cb_machine.specs.Sites.{class_objects}
use Rattle.cb_machine.specs.Standing.{Now, named_here}
use Rattle.cb_machine.specs.Steps.{asked_of, plan}
use Rattle.cb_plain.specs.Reach.{root_references}
use Rattle.cb_plain.specs.Roots.{with_entry}
use Rattle.cb_plain.specs.State.{Content, Number, Object, Roots, State}
use Rattle.cb_plain.specs.Updates.{with_frames, with_objects, with_roots}
use Rattle.cb_plain.specs.Updates as updates
use Rattle.cb_plain.specs.declared.shape.Shape.{Shape}
use Rattle.cb_plain.specs.declared.shape.Shape.TheVariants.{Fields}
use Rattle.cb_plain.specs.declared.table.Table.TheVariants.{ClassObjects}
use Rattle.cb_plain.specs.declared.value.Value.TheVariants.{Ref}
use Rattle.cb_plain.specs.declared.want.Want.{Want}
use Rattle.cb_safety.specs.Linked.{IsLinked}
use Rattle.cb_safety.specs.States.{IsTypedState}
use Rattle.cb_shapes.specs.Shapes.{action_of}
use Rattle.cb_shapes.specs.declared.action.Action.TheVariants as actions
use Rattle.cb_verify.specs.Typed.{IsTyped}
use Rattle.cb_act.specs.Here.{Here}
use Rattle.cb_interp.specs.Loading.{ClassLoading, IsClassHere, LoadsClass, laid, loads_class, new_class}
use Rattle.cb_act.specs.Steps.{StandsBefore, view_of}
use Rattle.cb_act.specs.Turning.{Asked, Moment, Outside, RoomMade, TurnMade, TurnRefused, machine_of, moment_of, state_of}
use Rattle.cb_act.proofs.Laws.{now}
use Rattle.cb_interp.proofs.TurnsMade.{quiet_turn}
use Rattle.cb_interp.proofs.TurnsMaking.{room_read}
use Rattle.cb_interp.proofs.TurnsNeedLoads.{Constant, Loads, laid_so, listed_read, loads_so}
use Rattle.cb_interp.proofs.FollowHere.{room_here}

-- ---- the plans

module _ (now : Now) (pc : ℕ) (stands : StandsBefore now pc) (kind : ℕ) (names : named_here now ≡ meanings.Kind kind) where
  known_is : (place : ℕ) → listed now.state.roots.tables.classes kind ≡ suc place
      → loads_constant now ≡ Some (leaving (with_roots now.state (placed (pushed now.state.roots (Ref (suc place))) pc)))
  known_is place is =
      rw (names, is, stands.next)
      (ap (λ frames. Some (leaving (with_frames now.state (changed_in (placed_at pc) (changed_in (with_stack (λ stack. Ref (suc place) ∷ stack)) frames))))) (sym stands.frames))

  new_is : listed now.state.roots.tables.classes kind ≡ 0 → loads_constant now ≡ Some (loads_class now.machine now.state kind pc)
  new_is is =
      rw (names, is, stands.next)
      (ap (λ frames. Some (with_left
      (with_one (leaving now.state) class_objects (kind_of_site now.machine.program class_objects) (Number (pos kind) ∷ []))
      (with_frames (updates.with_entry now.state ClassObjects kind (length now.state.objects + 1))
      (changed_in (placed_at pc) (changed_in (with_stack (λ stack. Ref (length now.state.objects + 1) ∷ stack)) frames))))) (sym stands.frames))

module _ (machine : Machine) (state : State) (decoded : Decoded) (at : Here machine state decoded) (loading : ClassLoading) (here : IsClassHere machine.program decoded loading) where
  abbrev at_now : Now
  at_now = now machine state at.frame at.below at.insn at.frames

  whole : plan machine state ≡ loads_constant at_now
  whole = go (loads_so decoded.action here.loads) where
    go : Loads decoded.action → plan machine state ≡ loads_constant at_now
    go (Constant index is) =
        let does : action_of at.insn ≡ Some (actions.Constant index) = sym (ap (λ (decoded : Decoded). decoded.action) at.is) ∙ is in
        rw (at.runs, at.quiet, at.frames, at.there, does) refl

  names_here : named_here at_now ≡ meanings.Kind loading.kind
  names_here = sym (ap (λ (decoded : Decoded). decoded.named) at.is) ∙ here.names

  stands : StandsBefore at_now loading.next
  stands = record { frames = at.frames; next = sym (ap (λ (decoded : Decoded). decoded.next) at.is) ∙ here.next }

  known_plan : (place : ℕ) → listed state.roots.tables.classes loading.kind ≡ suc place
      → plan machine state ≡ Some (leaving (with_roots state (placed (pushed state.roots (Ref (suc place))) loading.next)))
  known_plan place is = whole ∙ known_is at_now loading.next stands loading.kind names_here place is

  new_plan : listed state.roots.tables.classes loading.kind ≡ 0 → plan machine state ≡ Some (loads_class machine state loading.kind loading.next)
  new_plan is = whole ∙ new_is at_now loading.next stands loading.kind names_here is

-- ---- of roots and a store

module _ (program : Linked) (limit : ℕ) (index : ℕ → ℕ) (kept : List (Option Object)) (held : Roots) (outside : Outside) (decoded : Decoded) (loading : ClassLoading)
    (here : IsClassHere program decoded loading) where
  abbrev state : State
  state = state_of (seen index kept held) outside

  abbrev machine : Machine
  machine = machine_of program limit

  pub loads_class_so : Here machine state decoded → listed held.tables.classes loading.kind ≡ 0 → LoadsClass machine (read_roots index held) outside loading.kind loading.next
  loads_class_so at new objects =
      new_plan machine (state_of (record { roots = read_roots index held; objects = objects }) outside) decoded
      (record { frame = at.frame; below = at.below; frames = at.frames; quiet = at.quiet; runs = at.runs; insn = at.insn; there = at.there; is = at.is })
      loading here (listed_read index held.tables.classes loading.kind ∙ ap (serial_of index) new)

  module _ (typed : IsTypedState program state) where
    pub class_table : loading.kind < length held.tables.classes
    class_table =
        let whole : length (map (serial_of index) held.tables.classes) ≡ length program.kinds = typed.roots.tables.classes.count in
        let same = length-map held.tables.classes (serial_of index) in
        let low = here.low in
        omega (arith, whole, same, low)

    pub class_room : Here machine state decoded → IsLinked program → IsTyped program → 0 < top_room held
    class_room at linked fits = go (loads_so decoded.action here.loads) where
      go : Loads decoded.action → 0 < top_room held
      go (Constant number is) =
          let room = room_here machine state decoded at linked fits typed in
          subst (λ (room : ℕ). 0 < room) (room_read index held) (room.lays (actions.Constant number) is refl)

  pub class_known_turn : {Facts : Type 0} (rules : Rules Facts) (facts : Facts) (at : Here machine state decoded) (known : ℕ) (after : Roots)
      → slice_get held.tables.classes loading.kind ≡ Some known → (listed held.tables.classes loading.kind ≡ 0 → ⊥) → after ≡ placed (pushed held (Ref known)) loading.next
      → TurnMade rules machine (moment_of (seen index kept held) outside facts) (moment_of (seen index kept after) outside facts)
  class_known_turn rules facts at zero after there old is = absurd (old (ap or_zero there))
  class_known_turn rules facts at (suc place) after there old is =
      let serial : listed (read_roots index held).tables.classes loading.kind ≡ suc (index (suc place)) =
      listed_read index held.tables.classes loading.kind ∙ ap (λ (found : Option ℕ). serial_of index (or_zero found)) there in
      quiet_turn rules machine (moment_of (seen index kept held) outside facts) (moment_of (seen index kept after) outside facts)
      (leaving (with_roots state (placed (pushed (read_roots index held) (Ref (suc (index (suc place))))) loading.next)))
      (known_plan machine state decoded at loading here (index (suc place)) serial) refl
      (ap (λ (after : Roots). state_of (seen index kept after) outside) is ∙ ap (λ (view : View). state_of view outside) (laid_so index kept held (suc place) loading.next)) refl

-- ---- one that is placed

abbrev blank : ℕ → Object
blank own = object_of class_objects own (Number (pos 0) ∷ [])

numbered_at : (objects : List (Option Object)) (own : ℕ) (content : Content)
    → with_content (objects ++ Some (blank own) ∷ []) (suc (length objects)) 0 content ≡ objects ++ Some (object_of class_objects own (content ∷ [])) ∷ []
numbered_at [] own content = refl
numbered_at (entry ∷ objects) own content = ap (λ (rest : List (Option Object)). entry ∷ rest) (numbered_at objects own content)

pub class_sized : (all : List Shape) (own : ℕ) → slice_get all own ≡ Some (Fields (false ∷ [])) → IsTrue (has_size all own 1)
class_sized all own is = rw is refl

pub class_shaped : (all : List Shape) (own : ℕ) → slice_get all own ≡ Some (Fields (false ∷ [])) → new_object all class_objects own 1 ≡ blank own
class_shaped all own is = rw is refl

module _ (objects : List (Option Object)) (before after : ℕ → ℕ) (at own : ℕ) (serial : serial_of after at ≡ length objects + 1) where
  abbrev more : List (Option Object)
  more = objects ++ Some (blank own) ∷ []

  pub number_there : IsTrue (is_number (content_at more (serial_of after at) 0))
  number_there =
      subst (λ (serial : ℕ). IsTrue (is_number (content_at more serial 0))) (sym serial)
      (ap is_number (content_of_object more (length objects + 1) 0 (blank own) (placed_there objects (blank own))))

  pub class_placed : (again : ReadsAsBefore objects before after) (held : Roots) → IsTrue (list_all (is_held objects) (root_references (read_roots before held)))
      → (kind word : ℕ) → kind < 2 ^ 32 → word ≡ kind → (kept : List (Option Object)) (index : ℕ → ℕ) → kept ≡ with_content more (serial_of after at) 0 (Number (int_wrap w64 (pos word)))
      → index ≡ after → (serial_of index at, seen index kept (with_entry held ClassObjects kind at)) ≡ new_class own kind (seen before objects held)
  class_placed again held all kind word low same kept index put places =
      ap (λ (index : ℕ → ℕ). (serial_of index at, seen index kept (with_entry held ClassObjects kind at))) places
      ∙ ap (λ (kept : List (Option Object)). (serial_of after at, seen after kept (with_entry held ClassObjects kind at)))
      (put
      ∙ ap₂ (λ (serial : ℕ) (content : Content). with_content more serial 0 content) (serial ∙ add-one (length objects))
      (ap (λ (word : ℕ). Number (int_wrap w64 (pos word))) same ∙ ap Number (int_wrap_fits w64 (pos kind) (record { sfits = omega (arith, low) })))
      ∙ numbered_at objects own (Number (pos kind)))
      ∙ ap (λ (roots : Roots). as_found (serial_of after at) roots) (reads_entry after held ClassObjects kind at)
      ∙ ap₂ (λ (serial : ℕ) (roots : Roots). as_found serial (with_entry roots ClassObjects kind serial)) serial (roots_again objects before after again held all)
    where
      as_found : ℕ → Roots → ℕ × View
      as_found serial roots = (serial, record { roots = roots; objects = objects ++ Some (object_of class_objects own (Number (pos kind) ∷ [])) ∷ [] })

pub class_table_again : (index now : ℕ → ℕ) (held after : Roots) (kind : ℕ) → read_roots now after ≡ read_roots index held → kind < length held.tables.classes
    → kind < length after.tables.classes
class_table_again index now held after kind same low =
    let one : length (map (serial_of now) after.tables.classes) ≡ length (map (serial_of index) held.tables.classes) =
    ap (λ (roots : Roots). length roots.tables.classes) same in
    let first = length-map after.tables.classes (serial_of now) in
    let last = length-map held.tables.classes (serial_of index) in
    omega (arith, low, one, first, last)

-- what is left where it is loaded
pub class_left : (found : ℕ × View) (after : ℕ → ℕ) (kept : List (Option Object)) (final last : Roots) (at pc : ℕ) → (serial_of after at, seen after kept final) ≡ found
    → last ≡ placed (pushed final (Ref at)) pc → seen after kept last ≡ laid found.0 found.1 pc
class_left found after kept final last at pc is same =
    ap (seen after kept) same ∙ laid_so after kept final at pc ∙ ap (λ (found : ℕ × View). laid found.0 found.1 pc) is

abbrev pub class_wants : List Want
class_wants = record { site = class_objects; words = 4 } ∷ []

module _ {Facts : Type 0} (rules : Rules Facts) (machine : Machine) (before after : Moment Facts) (kind pc : ℕ)
    (is : plan machine before.state ≡ Some (loads_class machine before.state kind pc)) where
  asked_so : asked_of (plan machine before.state) ≡ class_wants
  asked_so = ap asked_of is

  pub class_turn : (middle : Moment Facts)
      → rules.makes_room before.facts (view_of before.state) class_wants (Ok tt) (record { facts = middle.facts; residents = residents middle.state.objects })
      → Collects (view_of before.state) (view_of middle.state) → middle.state ≡ with_objects before.state middle.state.objects
      → plan machine middle.state ≡ Some (loads_class machine middle.state kind pc) → after.state ≡ made (loads_class machine middle.state kind pc)
      → after.facts ≡ rules.placed middle.facts class_objects 1 → TurnMade rules machine before after
  class_turn middle ruled collects same again steps knows = record {
    middle = middle;
    room = subst (λ (wants : List Want). RoomMade rules before wants middle) (sym asked_so) (Asked (record { site = class_objects; words = 4 }) [] middle ruled collects same);
    own = loads_class machine middle.state kind pc;
    plans = again;
    steps = steps;
    knows = knows;
  }

  pub class_refused : (reason : NoRoom)
      → rules.makes_room before.facts (view_of before.state) class_wants (Err reason) (record { facts = after.facts; residents = residents after.state.objects })
      → Collects (view_of before.state) (view_of after.state) → after.state ≡ with_objects before.state after.state.objects → TurnRefused rules machine before reason after
  class_refused reason ruled collects same = record {
    refused = record {
      asked = λ none. let both : class_wants ≡ [] = sym asked_so ∙ none in cc both;
      ruled = subst (λ (wants : List Want). rules.makes_room before.facts (view_of before.state) wants (Err reason) (record { facts = after.facts; residents = residents after.state.objects }))
          (sym asked_so) ruled;
      collects = collects;
      same = same;
    };
  }

pub not_set : (mark : Bool) → not mark ≡ true → mark ≡ false
not_set true is = absurd (false≢true is)
not_set false is = refl
