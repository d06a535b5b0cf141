-- What is asked of roots and a store where a class begins to be initialised of which static fields have strings as constants, before and
-- after room was made.
use Rattle.std.proofs.Common.{◌≡◌, ◌∙◌, ap, arith, sym, subst, ℕ, ◌<◌, ◌≤◌, Bool, true, List, [], length, map, slice_get, Option}
use Rattle.std.proofs.lemmas.List.{length-map}
use Rattle.std.specs.List.{fold}
use Rattle.cb_heap.proofs.Laws.{reads_room}
use Rattle.cb_heap.specs.Grants.{IsBounded}
use Rattle.cb_interp.proofs.TurnsNeedSerials as Serials
use Rattle.cb_heap.specs.Reading.{read_roots, read_value, seen, serial_of}
use Rattle.cb_link.specs.Program.{Linked}
use Rattle.cb_machine.specs.Initialising.{begun_upon, own_statics}
use Rattle.cb_machine.specs.Plans.{asked}
use Rattle.cb_plain.specs.Depth.{has_room}
use Rattle.cb_plain.specs.Requests.{add_want}
use Rattle.cb_plain.specs.State.{Frame, Object, Roots, State}
use Rattle.cb_plain.specs.declared.want.Want.{Want}
use Rattle.cb_safety.specs.States.{IsTypedState}
use Rattle.cb_interp.specs.Arguments.{Covers}
use Rattle.cb_interp.specs.TextStatics.{HasSerials, first_plan, wants_behind}
use Rattle.cb_act.specs.Turning.{Outside, machine_of, state_of}
use Rattle.cb_interp.proofs.TurnsStartingRoom.{covers_asked}
use Rattle.cb_interp.proofs.TurnsTextBegun.{asks_begun, covers_none, none_wanted, serials_granted, serials_none}

-- there is an entry for each text in the table of a typed state
pub texts_typed : (program : Linked) (index : ℕ → ℕ) (objects : List (Option Object)) (held : Roots) (outside : Outside)
    → IsTypedState program (state_of (seen index objects held) outside) → length program.constants ≤ length held.tables.constants
texts_typed program index objects held outside typed =
    let whole : length (map (serial_of index) held.tables.constants) ≡ length program.constants = typed.roots.tables.constants.count in
    let same = length-map held.tables.constants (serial_of index) in
    omega (arith, whole, same)

-- what is counted in roots stays where the same is read
module _ (index now : ℕ → ℕ) (held after : Roots) (same : read_roots now after ≡ read_roots index held) where
  pub statics_again : (count : ℕ) → count ≤ length held.statics → count ≤ length after.statics
  statics_again count low =
      let whole : length (map (read_value now) after.statics) ≡ length (map (read_value index) held.statics) = ap (λ (roots : Roots). length roots.statics) same in
      let one = length-map after.statics (read_value now) in
      let other = length-map held.statics (read_value index) in
      omega (arith, low, whole, one, other)

  pub texts_again : (count : ℕ) → count ≤ length held.tables.constants → count ≤ length after.tables.constants
  texts_again count low =
      let whole : length (map (serial_of now) after.tables.constants) ≡ length (map (serial_of index) held.tables.constants) = ap (λ (roots : Roots). length roots.tables.constants) same in
      let one = length-map after.tables.constants (serial_of now) in
      let other = length-map held.tables.constants (serial_of index) in
      omega (arith, low, whole, one, other)

  pub class_again : (class : ℕ) → class < length held.classes → class < length after.classes
  class_again class low = subst (λ (roots : Roots). class < length roots.classes) (sym same) low

  pub frame_again : (limit : ℕ) → has_room limit held.frames 0 ≡ true → has_room limit after.frames 0 ≡ true
  frame_again limit room =
      sym (reads_room now after limit 0) ∙ ap (λ (roots : Roots). has_room limit roots.frames 0) same ∙ reads_room index held limit 0 ∙ room

-- room for all that is new
module _ (program : Linked) (limit class : ℕ) (state : State) (frames : List Frame) (room : has_room limit frames 0 ≡ true) where
  abbrev wanted : List Want
  wanted = wants_behind (machine_of program limit) (first_plan state frames class) (own_statics program class)

  asks : asked (begun_upon (machine_of program limit) state frames class) ≡ fold add_want [] wanted
  asks = asks_begun (machine_of program limit) state frames class room

  -- nothing is new
  pub none_new : asked (begun_upon (machine_of program limit) state frames class) ≡ [] → wanted ≡ []
  none_new none = none_wanted wanted (sym asks ∙ none)

  pub covers_quiet : (granted : List Want) → asked (begun_upon (machine_of program limit) state frames class) ≡ [] → Covers granted wanted
  covers_quiet granted none = covers_none granted wanted (none_new none)

  pub serials_quiet : (objects : ℕ) (granted : List Want) → asked (begun_upon (machine_of program limit) state frames class) ≡ [] → HasSerials objects granted wanted
  serials_quiet objects granted none = serials_none objects granted wanted (none_new none)

  -- or room was made
  module _ (granted wants : List Want) (fixed : Bool) (objects : ℕ) (is : granted ≡ wants)
      (asks_all : wants ≡ asked (begun_upon (machine_of program limit) state frames class)) (bounded : IsBounded fixed objects wants) where
    pub covers_made : Covers granted wanted
    covers_made =
        covers_asked granted wanted (is ∙ asks_all ∙ asks)
        (λ want place there. bounded.each want place (sym (ap (λ (wants : List Want). slice_get wants place) is) ∙ there))

    pub serials_made : Serials.HasSerials fixed objects → HasSerials objects granted wanted
    serials_made grows = serials_granted objects fixed granted wants wanted grows is bounded
