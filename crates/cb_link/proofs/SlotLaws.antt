-- A field stands at its slot in the objects of each class that has it.
use Rattle.std.proofs.Common.{◌≡◌, ◌∙◌, ap, refl, sym, subst, arith, inl, inr, ℕ, zero, suc, ◌+◌, ◌<◌, ◌&&◌, true, false, not, if◌then◌else◌, List, [], ◌∷◌, ◌++◌, Option, Some, None, length, take}
use Rattle.std.specs.Prelude.{count_by, filter, slice_get, ◌⊎◌}
use Rattle.std.specs.List.{Contains, flat_map}
use Rattle.std.proofs.lemmas.Bool.{eq-eqb}
use Rattle.std.proofs.lemmas.List.{append-nil}
use Rattle.std.proofs.lemmas.List.Elements.{Contains-append_cases}
use Rattle.std.proofs.lemmas.List.Sums.{length-filter}
use Rattle.cb_classfile.specs.declared.class.ClassFile.{ClassFile}
use Rattle.cb_hierarchy.specs.declared.class.Class.{Class as Ranked}
use Rattle.cb_hierarchy.specs.declared.member.Field.{Field as RankedField}
use Rattle.cb_hierarchy.specs.Above.{IsAcyclic}
use Rattle.cb_hierarchy.specs.Bad.{AreGood}
use Rattle.cb_hierarchy.specs.Classes.{listed, superclass}
use Rattle.cb_hierarchy.specs.Layout.{layout, own_fields}
use Rattle.cb_hierarchy.specs.Orders.{in_turns, upwards, upwards_by}
use Rattle.cb_link.specs.InnerCounts.{above_count, slot_by, slot_for}
use Rattle.cb_link.specs.Numbers.{hierarchy, ranked_fields, ranked_methods}
use Rattle.cb_link.specs.Slots.{is_own, object_fields, slot_of}
use Rattle.cb_link.proofs.NumbersLow.{super_low}
use Rattle.cb_link.proofs.Picked.{picked_at}
use Rattle.cb_link.proofs.Ranged.{acyclic}
use Rattle.cb_link.proofs.Settled.{layout_is}

pub behind : {X : Type 0} (front back : List X) (place : ℕ) → slice_get (front ++ back) (length front + place) ≡ slice_get back place
behind [] back place = ap (slice_get back) (let same : 0 + place ≡ place = omega arith in same)
behind (x ∷ front) back place =
    ap (slice_get (x ∷ front ++ back)) (let same : length (x ∷ front) + place ≡ suc (length front + place) = omega arith in same) ∙ behind front back place

pub before : {X : Type 0} (front back : List X) (place : ℕ) (item : X) → slice_get front place ≡ Some item → slice_get (front ++ back) place ≡ Some item
before [] back place item is = absurd (cc)
before (x ∷ front) back zero item is = is
before (x ∷ front) back (suc place) item is = before front back place item is

nothing : (number : ℕ) → ¬ Contains [] number
nothing number among = omega (arith, among.1)

module _ (classes : List Ranked) (fields : List RankedField) (without : IsAcyclic classes) (low : (class parent : ℕ) → Contains (superclass classes class) parent → parent < length classes)
    (number : ℕ) (field : RankedField) (is : slice_get fields number ≡ Some field) (instance : field.is_static ≡ false) where
  slot_is : slot_by classes fields number ≡ above_count classes fields field.declared.class + length (filter (is_own field.declared.class) (take number fields))
  slot_is =
      ap (slot_for classes fields number) is
      ∙ ap (λ static. if static then count_by (λ (other : RankedField). other.is_static) (take number fields) else above_count classes fields field.declared.class + count_by (is_own field.declared.class) (take number fields)) instance
      ∙ ap (λ count. above_count classes fields field.declared.class + count) (sym (length-filter (is_own field.declared.class) (take number fields)))

  own : is_own field.declared.class field ≡ true
  own = (λ i. eq-eqb field.declared.class field.declared.class refl i && not (instance i))

  -- in the objects of its class
  in_own : field.declared.class < length classes → slice_get (layout classes fields field.declared.class) (slot_by classes fields number) ≡ Some number
  in_own within =
      let class = field.declared.class in
      let above = flat_map (layout classes fields) (superclass classes class) in
      (λ i. slice_get (layout_is classes without low fields class within i) (slot_is i))
      ∙ behind above (own_fields fields class) (length (filter (is_own class) (take number fields)))
      ∙ picked_at (is_own class) 0 fields number field is own
      ∙ ap Some (let same : 0 + number ≡ number = omega arith in same)

  -- and of those below
  in_below : (turns class : ℕ) → class < length classes → Contains (in_turns (upwards_by classes) turns class) field.declared.class
      → slice_get (layout classes fields class) (slot_by classes fields number) ≡ Some number
  in_below zero class within among = absurd (nothing field.declared.class among)
  in_below (suc turns) class within among =
      go (Contains-append_cases (class ∷ []) (flat_map (in_turns (upwards_by classes) turns) (superclass classes class)) field.declared.class among) (in_below turns) where
        inherited : ((class : ℕ) → class < length classes → Contains (in_turns (upwards_by classes) turns class) field.declared.class → slice_get (layout classes fields class) (slot_by classes fields number) ≡ Some number)
            → (parent : Option ℕ) → superclass classes class ≡ listed parent → Contains (flat_map (in_turns (upwards_by classes) turns) (listed parent)) field.declared.class
            → slice_get (layout classes fields class) (slot_by classes fields number) ≡ Some number
        inherited above None told some = absurd (nothing field.declared.class some)
        inherited above (Some parent) told some =
            let parent_low : parent < length classes = low class parent (subst (λ parents. Contains parents parent) (sym told) (0, omega arith, refl)) in
            let at = above parent parent_low (subst (λ list. Contains list field.declared.class) (append-nil (in_turns (upwards_by classes) turns parent)) some) in
            ap (λ list. slice_get list (slot_by classes fields number))
            (layout_is classes without low fields class within
            ∙ ap (λ parents. flat_map (layout classes fields) parents ++ own_fields fields class) told
            ∙ ap (λ list. list ++ own_fields fields class) (append-nil (layout classes fields parent)))
            ∙ before (layout classes fields parent) (own_fields fields class) (slot_by classes fields number) number at

        by_class : ((class : ℕ) → class < length classes → Contains (in_turns (upwards_by classes) turns class) field.declared.class → slice_get (layout classes fields class) (slot_by classes fields number) ≡ Some number)
            → (found : Option Ranked) → slice_get classes class ≡ found → Contains (flat_map (in_turns (upwards_by classes) turns) (superclass classes class)) field.declared.class
            → slice_get (layout classes fields class) (slot_by classes fields number) ≡ Some number
        by_class above None told some =
            let none : superclass classes class ≡ [] = rw told refl in
            inherited above None none (subst (λ parents. Contains (flat_map (in_turns (upwards_by classes) turns) parents) field.declared.class) none some)
        by_class above (Some ranked) told some =
            let one : superclass classes class ≡ listed ranked.superclass = rw told refl in
            inherited above ranked.superclass one (subst (λ parents. Contains (flat_map (in_turns (upwards_by classes) turns) parents) field.declared.class) one some)

        go : Contains (class ∷ []) field.declared.class ⊎ Contains (flat_map (in_turns (upwards_by classes) turns) (superclass classes class)) field.declared.class
            → ((class : ℕ) → class < length classes → Contains (in_turns (upwards_by classes) turns class) field.declared.class → slice_get (layout classes fields class) (slot_by classes fields number) ≡ Some number)
            → slice_get (layout classes fields class) (slot_by classes fields number) ≡ Some number
        go (inl (zero, inside, same)) above = subst (λ class. class < length classes → slice_get (layout classes fields class) (slot_by classes fields number) ≡ Some number) (sym same) in_own within
        go (inl (suc place, inside, same)) above = absurd (omega (arith, inside))
        go (inr later) above = by_class above (slice_get classes class) refl later

pub object_slot : (classes : List ClassFile) (class number : ℕ) (field : RankedField) → AreGood (hierarchy classes) (ranked_methods classes) → class < length (hierarchy classes)
    → slice_get (ranked_fields classes) number ≡ Some field → field.is_static ≡ false → Contains (upwards (hierarchy classes) class) field.declared.class
    → slice_get (object_fields classes class) (slot_of classes number) ≡ Some number
object_slot classes class number field good within is instance among =
    in_below (hierarchy classes) (ranked_fields classes) (acyclic (hierarchy classes) (ranked_methods classes) good) (super_low classes) number field is instance (length (hierarchy classes)) class within among
