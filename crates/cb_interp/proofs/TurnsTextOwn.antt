-- The constants of the static fields of a class are placed: from the first to the last, and what is asked before each.
use Rattle.std.proofs.Common.{◌≡◌, ◌∙◌, ap, refl, sym, subst, ℕ, ◌+◌, ◌<◌, ◌≤◌, Bool, true, false, List, [], ◌∷◌, ◌++◌, length, Option, Some}
use Rattle.std.proofs.lemmas.Bool.{eq-eqb, ne_eqb}
use Rattle.std.specs.Prelude.{option_map}
use Rattle.std.specs.List.{fold}
use Rattle.cb_heap.specs.Closed.{IsClosed}
use Rattle.cb_heap.specs.Follows.{Follows}
use Rattle.cb_heap.specs.Reading.{View, seen}
use Rattle.cb_heap.specs.Rules.{Rules}
use Rattle.cb_link.specs.Named.{static_initial}
use Rattle.cb_link.specs.Program.{Linked}
use Rattle.cb_link.specs.Slots.{static_at, statics}
use Rattle.cb_link.specs.declared.named.Named.TheVariants as meanings
use Rattle.cb_machine.specs.Initialising.{own_statics}
use Rattle.cb_machine.specs.Machine.{Machine, kind_of_site}
use Rattle.cb_machine.specs.Plans.{Plan, leaving, made}
use Rattle.cb_machine.specs.Sites.{constant_characters, constant_strings}
use Rattle.cb_plain.specs.State.{Object, Roots}
use Rattle.cb_plain.specs.declared.shape.Shape.{Shape}
use Rattle.cb_plain.specs.declared.want.Want.{Want}
use Rattle.cb_unwind.specs.Strings.{IsNew, MayEnter}
use Rattle.cb_interp.specs.Arguments.{Covers}
use Rattle.cb_interp.specs.Fit.{ShapesOf}
use Rattle.cb_interp.specs.Loading.{MayPlace}
use Rattle.cb_interp.specs.TextStatics.{HasSerials, MayPlaceOwn, declared_by, set_initial, text_of, text_wants, wants_behind}
use Rattle.cb_act.specs.Turning.{Outside, machine_of, state_of}
use Rattle.cb_interp.proofs.FollowStatics.{new_pair}
use Rattle.cb_interp.proofs.TurnsNeedLoads.{new_read}
use Rattle.cb_interp.proofs.TurnsTextPlaced.{PlacedSoFar, covers_new, low_new, room_array, room_serials, room_string}
use Rattle.cb_interp.proofs.TurnsTextSlots.{declared_so, other_next, own_is, own_next, slots_from, slots_whole}

-- whether the class declares a field, by the class that does
pub owner_is : (program : Linked) (class slot owner : ℕ) → option_map (λ field. field.class) (static_at program slot) ≡ Some owner → owner ≡ class
    → declared_by class (static_at program slot) ≡ true
owner_is program class slot owner declares same = declared_so class owner (static_at program slot) declares ∙ eq-eqb owner class same

pub owner_not : (program : Linked) (class slot owner : ℕ) → option_map (λ field. field.class) (static_at program slot) ≡ Some owner → (owner ≡ class → ⊥)
    → declared_by class (static_at program slot) ≡ false
owner_not program class slot owner declares not = declared_so class owner (static_at program slot) declares ∙ ne_eqb owner class not

-- the string of a field that the class declares may be placed
pub may_own : (program : Linked) (class slot text : ℕ) → MayPlaceOwn program class → slot < length (statics program.classes) → declared_by class (static_at program slot) ≡ true
    → static_initial program slot ≡ meanings.Text text → (text < length program.constants) × MayPlace program text
may_own program class slot text may low own named = may slot text low (own_is program class slot own ∙ ap text_of named)

module _ {Facts : Type 0} (rules : Rules Facts) (program : Linked) (limit class count : ℕ) (first : Facts) (whole : Plan) (outside : Outside) where
  abbrev machine : Machine
  machine = machine_of program limit

  abbrev pub So : ℕ → View → Facts → List Want → Type 0
  So slot view facts granted = PlacedSoFar rules machine first whole outside (slots_from program class count slot) view facts granted

  abbrev pub SoNext : ℕ → View → Facts → List Want → Type 0
  SoNext slot view facts granted = PlacedSoFar rules machine first whole outside (slot ∷ slots_from program class count (slot + 1)) view facts granted

  pub so_own : (slot : ℕ) (view : View) (facts : Facts) (granted : List Want) → slot < count → declared_by class (static_at program slot) ≡ true → So slot view facts granted
      → SoNext slot view facts granted
  so_own slot view facts granted low own so =
      subst (λ (slots : List ℕ). PlacedSoFar rules machine first whole outside slots view facts granted) (own_next program class count slot low own) so

  pub so_other : (slot : ℕ) (view : View) (facts : Facts) (granted : List Want) → slot < count → declared_by class (static_at program slot) ≡ false → So slot view facts granted
      → So (slot + 1) view facts granted
  so_other slot view facts granted low other so =
      subst (λ (slots : List ℕ). PlacedSoFar rules machine first whole outside slots view facts granted) (other_next program class count slot low other) so

  module _ (slot : ℕ) (index : ℕ → ℕ) (kept : List (Option Object)) (held : Roots) (facts : Facts) (granted : List Want) where
    pub may_enter : SoNext slot (seen index kept held) facts granted → (text : ℕ) → static_initial program slot ≡ meanings.Text text → IsNew held text → MayPlace program text
        → (shapes : List Shape) → ShapesOf program shapes → (allows : ℕ → ℕ → Bool) → Follows allows (made whole).objects
        → MayEnter program text shapes granted allows (seen index kept held)
    may_enter so text named new may shapes shaped allows follows =
        let rest : List Want = wants_behind machine (set_initial machine so.plan slot) (slots_from program class count (slot + 1)) in
        let covers : Covers granted (text_wants program text ++ rest) =
        covers_new rules machine first whole outside slot (slots_from program class count (slot + 1)) (seen index kept held) facts granted so text named (new_read index held text new) in
        record {
          sites = may.sites;
          array = room_array program [] granted rest text covers;
          string = room_string program [] granted rest text covers;
          elements = shaped (kind_of_site program constant_characters) may.characters ∙ ap Some may.elements;
          field = shaped (kind_of_site program constant_strings) may.strings ∙ ap Some may.field;
          serials = room_serials program slot (seen index kept held) granted rest
              (low_new rules machine first whole outside slot (slots_from program class count (slot + 1)) (seen index kept held) facts granted so text named (new_read index held text new)) text covers;
          few = may.few;
          closed = so.closed;
          allowed = new_pair rules machine first whole outside slot (slots_from program class count (slot + 1)) (seen index kept held) facts granted so allows text named
              (new_read index held text new) follows;
        }

pub placed_first : {Facts : Type 0} (rules : Rules Facts) (program : Linked) (limit class count : ℕ) (facts : Facts) (outside : Outside) (view : View) (granted : List Want)
    → count ≡ length (statics program.classes) → IsClosed view → length (statics program.classes) ≤ length view.roots.statics → length program.constants ≤ length view.roots.tables.constants
    → Covers granted (wants_behind (machine_of program limit) (leaving (state_of view outside)) (own_statics program class)) → HasSerials (length view.objects) granted (wants_behind (machine_of program limit) (leaving (state_of view outside)) (own_statics program class))
    → PlacedSoFar rules (machine_of program limit) facts (fold (set_initial (machine_of program limit)) (leaving (state_of view outside)) (own_statics program class)) outside
    (slots_from program class count 0) view facts granted
placed_first rules program limit class count facts outside view granted many closed fields texts covers serials = record {
  plan = leaving (state_of view outside);
  leads = ap (fold (set_initial (machine_of program limit)) (leaving (state_of view outside))) (slots_whole program class count many);
  makes = refl;
  next = refl;
  knows = refl;
  covers = subst (λ (slots : List ℕ). Covers granted (wants_behind (machine_of program limit) (leaving (state_of view outside)) slots)) (sym (slots_whole program class count many)) covers;
  serials = subst (λ (slots : List ℕ). HasSerials (length view.objects) granted (wants_behind (machine_of program limit) (leaving (state_of view outside)) slots))
      (sym (slots_whole program class count many)) serials;
  closed = closed;
  fields = fields;
  texts = texts;
}
