-- A field of objects that is found is one of each object that may be held as the class of which it is named.
use Rattle.std.proofs.Common.{◌≡◌, ◌∙◌, inl, inr, ap, ap₂, refl, sym, subst, ℕ, ◌<◌, ◌==◌, Bool, true, false, cond, ◌||◌, ◌&&◌, List, [], ◌∷◌, ◌++◌, length, map, Option, Some, None, option_and_then, option_map, position, slice_get}
use Rattle.std.specs.Prelude.{codes}
use Rattle.std.specs.List.{AllByRecursion, Contains}
use Rattle.std.proofs.lemmas.Bool.{and_parts, eq-eqb, eqb-true, false≢true, or_cases, or_left, or_right}
use Rattle.std.proofs.lemmas.List.Elements.{Contains-append_right}
use Rattle.std.proofs.lemmas.Option.{option_and_then_some, same_Some, slice_get-map, slice_get_within}
use Rattle.cb_classfile.specs.declared.class.ClassFile.{ClassFile}
use Rattle.cb_classfile.specs.declared.field.Field.{Field}
use Rattle.cb_classfile.specs.Class.{IsWellFormed}
use Rattle.cb_classfile.specs.Flags.{HasFlag, acc_interface, acc_static}
use Rattle.cb_hierarchy.specs.Bad.{AreGood, ImplementsClass}
use Rattle.cb_hierarchy.specs.Classes.{is_interface, parents, superclass, superinterfaces}
use Rattle.cb_hierarchy.specs.Members.{field_of}
use Rattle.cb_hierarchy.specs.Orders.{is_subclass, lookup_order, upwards}
use Rattle.cb_hierarchy.specs.Resolution.{first_some, resolved_field}
use Rattle.cb_hierarchy.specs.declared.class.Class.{Class as Ranked}
use Rattle.cb_hierarchy.specs.declared.member.Declared.{Declared}
use Rattle.cb_hierarchy.specs.declared.member.Field.{Field as RankedField}
use Rattle.cb_kinds.specs.Kinds.{is_array, name_in, type_of_name}
use Rattle.cb_kinds.specs.Texts.{number_of_pair, same_text}
use Rattle.cb_link.proofs.Laws.{placed}
use Rattle.cb_link.proofs.Laws.{object_slot}
use Rattle.cb_link.specs.Numbers.{Numbered, class_number, field_texts, fields_of, has_flag, hierarchy, ranked, ranked_field, ranked_fields, ranked_methods}
use Rattle.cb_link.specs.Places.{IsPlaced}
use Rattle.cb_link.specs.Resolving.{found_field, holder, object}
use Rattle.cb_link.specs.Slots.{object_fields, slot_of}
use Rattle.cb_link.specs.Subtypes.{interface_at, is_above_arrays, is_instance, is_object, names_interface}
use Rattle.cb_names.specs.Signs.{bracket, letter_class, semicolon}
use Rattle.cb_text.specs.Naming.{MemberNames}
use Rattle.cb_safety.specs.Kinds.{is_held_as}
use Rattle.cb_safety.specs.Order.{ExtendsObject}
use Rattle.cb_safety.proofs.Assigned.{mapped, never}
use Rattle.cb_safety.proofs.Holding.{instance_cases, is_text}
use Rattle.cb_safety.proofs.Lists.{all_at}
use Rattle.cb_safety.proofs.Ordered.{IsBetween, IsFronted, above_interface, acyclic, between_them, each_parent, named_in, named_low, number_within}
use Rattle.cb_safety.proofs.Parts.{name_ends}
use Rattle.cb_safety.proofs.Searching.{found_passes, position_found}
use Rattle.cb_safety.proofs.Subclasses.{none_above, stands, subclass_above, subclass_next}
use Rattle.cb_safety.proofs.Upwards.{by_superclass, upwards_above, upwards_own}

-- ---- resolution

pub first_some_at : (f : ℕ → Option ℕ) (items : List ℕ) (result : ℕ) → first_some (map f items) ≡ Some result → (number : ℕ) × ((stands number items ≡ true) × (f number ≡ Some result))
first_some_at f [] result is = never is
first_some_at f (first ∷ items) result is = go (f first) refl is (first_some_at f items result) where
  go : (found : Option ℕ) → f first ≡ found → first_some (found ∷ map f items) ≡ Some result
      → (first_some (map f items) ≡ Some result → (number : ℕ) × ((stands number items ≡ true) × (f number ≡ Some result)))
      → (number : ℕ) × ((stands number (first ∷ items) ≡ true) × (f number ≡ Some result))
  go (Some own) there is more = (first, (or_left (first == first) (stands first items) (eq-eqb first first refl), there ∙ is))
  go None there is more = let (number, both) = more is in (number, (or_right (first == number) (stands number items) both.0, both.1))

position_passes : {Item : Type 0} (test : Item → Bool) (items : List Item) (place : ℕ) (item : Item) → position test items ≡ Some place → slice_get items place ≡ Some item → test item ≡ true
position_passes test items place item is there = found_passes test items item (sym (position_found test items) ∙ ap (option_and_then (slice_get items)) is ∙ there)

field_class : (fields : List RankedField) (class signature number : ℕ) (field : RankedField) → field_of fields class signature ≡ Some number → slice_get fields number ≡ Some field
    → field.declared.class ≡ class
field_class fields class signature number field is there =
    eqb-true field.declared.class class (and_parts (field.declared.class == class) (field.declared.signature == signature)
    (position_passes (λ (member : Declared). (member.class == class) && (member.signature == signature)) (map (λ (field : RankedField). field.declared) fields) number field.declared is
    (slice_get-map (λ (field : RankedField). field.declared) fields number ∙ ap (option_map (λ (field : RankedField). field.declared)) there))).0

pub record IsResolved (classes : List ClassFile) (name : List ℕ) (field : RankedField) : Type 0 where
  pub class : ℕ
  pub held : holder classes name ≡ Some class
  pub below : is_subclass (hierarchy classes) class field.declared.class ≡ true

pub resolved : (classes : List ClassFile) (member : MemberNames) (number : ℕ) (field : RankedField) → found_field classes member ≡ Some number → slice_get (ranked_fields classes) number ≡ Some field
    → IsResolved classes member.class field
resolved classes member number field found there =
    let fields : List RankedField = ranked_fields classes in
    option_and_then_some (λ (class : ℕ). option_and_then (λ (signature : ℕ). resolved_field (hierarchy classes) fields class signature) (number_of_pair (field_texts classes) (member.name, member.descriptor)))
    (holder classes member.class) number found
    (λ class held rest. option_and_then_some (λ (signature : ℕ). resolved_field (hierarchy classes) fields class signature) (number_of_pair (field_texts classes) (member.name, member.descriptor)) number rest
    (λ signature signed is.
    let (own, both) = first_some_at (λ (number : ℕ). field_of fields number signature) (lookup_order (hierarchy classes) class) number is in
    let same : field.declared.class ≡ own = field_class fields own signature number field both.1 there in
    record { class = class; held = held; below = subst (λ (own : ℕ). stands own (lookup_order (hierarchy classes) class) ≡ true) (sym same) both.0 }))

-- ---- the class that declares a field of objects is no interface, and has fields

pub record IsDeclared (classes : List ClassFile) (number : ℕ) (field : RankedField) : Type 0 where
  pub own : Numbered Field
  pub there : slice_get (fields_of classes) number ≡ Some own
  pub is : ranked_field classes own ≡ field
  pub at : IsPlaced (λ (class : ClassFile). class.fields) classes own

pub declared : (classes : List ClassFile) (number : ℕ) (field : RankedField) → slice_get (ranked_fields classes) number ≡ Some field → IsDeclared classes number field
declared classes number field there =
    mapped (ranked_field classes) (slice_get (fields_of classes) number) field (sym (slice_get-map (ranked_field classes) (fields_of classes) number) ∙ there)
    (λ own found same. record { own = own; there = found; is = same; at = placed (λ (class : ClassFile). class.fields) classes number own found })

static_flag : (flags : ℕ) → HasFlag flags acc_static → has_flag acc_static flags ≡ true
static_flag flags has = eq-eqb _ _ has

module _ (classes : List ClassFile) (front : IsFronted classes) (good : AreGood (hierarchy classes) (ranked_methods classes)) (extend : AllByRecursion ExtendsObject classes)
    (formed : AllByRecursion IsWellFormed classes) (bare : (file : ClassFile) → slice_get classes 0 ≡ Some file → file.fields ≡ []) where
  abbrev ranks : List Ranked
  ranks = hierarchy classes

  module _ (number : ℕ) (field : RankedField) (there : slice_get (ranked_fields classes) number ≡ Some field) (instance : field.is_static ≡ false) where
    own : IsDeclared classes number field
    own = declared classes number field there

    own_class : own.own.class ≡ field.declared.class
    own_class = ap (λ (field : RankedField). field.declared.class) own.is

    not_root : ¬ (field.declared.class ≡ 0)
    not_root zeroth =
        let at : slice_get classes 0 ≡ Some own.at.declaring = sym (ap (slice_get classes) (own_class ∙ zeroth)) ∙ own.at.declares in
        let none : slice_get [] own.own.place ≡ Some own.own.member = subst (λ (fields : List Field). slice_get fields own.own.place ≡ Some own.own.member) (bare own.at.declaring at) own.at.lists in
        never none

    no_interface : is_interface ranks field.declared.class ≡ false
    no_interface = go (is_interface ranks field.declared.class) refl where
      ranked_there : slice_get ranks field.declared.class ≡ Some (ranked classes own.at.declaring)
      ranked_there =
          ap (slice_get ranks) (sym own_class) ∙ slice_get-map (ranked classes) classes own.own.class ∙ ap (option_map (ranked classes)) own.at.declares

      interface_of : Option Ranked → Bool
      interface_of None = false
      interface_of (Some class) = class.is_interface

      go : (test : Bool) → is_interface ranks field.declared.class ≡ test → is_interface ranks field.declared.class ≡ false
      go false is = is
      go true is =
          let interface : has_flag acc_interface own.at.declaring.flags.0 ≡ true = (rw ranked_there at is) in
          let file = all_at IsWellFormed classes own.own.class own.at.declaring formed own.at.declares in
          let fields : AllByRecursion (λ (field : Field). HasFlag field.flags.0 acc_static) own.at.declaring.fields = (file.1.behind.rules.alone.as_interface (eqb-true _ _ interface)).fields in
          let static : has_flag acc_static own.own.member.flags.0 ≡ true =
          static_flag own.own.member.flags.0 (all_at (λ (field : Field). HasFlag field.flags.0 acc_static) own.at.declaring.fields own.own.place own.own.member fields own.at.lists) in
          absurd (false≢true (sym instance ∙ ap (λ (field : RankedField). field.is_static) (sym own.is) ∙ static))

    -- so is none below it, down to where an object is of a class
    class_not_root : (class : ℕ) → is_subclass ranks class field.declared.class ≡ true → ¬ (class ≡ 0)
    class_not_root class below zeroth = elim (subclass_above ranks class field.declared.class below) [
      | inl same ↦ not_root (sym same ∙ zeroth)
      | inr above ↦ none_above (parents ranks) class field.declared.class (ap (parents ranks) zeroth ∙ front.last) above
    ]

    class_no_interface : (class : ℕ) → is_subclass ranks class field.declared.class ≡ true → ¬ (is_interface ranks class ≡ true)
    class_no_interface class below interface = elim (subclass_above ranks class field.declared.class below) [
      | inl same ↦ false≢true (sym no_interface ∙ ap (is_interface ranks) (sym same) ∙ interface)
      | inr above ↦ elim (above_interface ranks 0 front.last (each_parent classes (ranked_methods classes) front good extend) class field.declared.class above interface) [
        | inl also ↦ false≢true (sym no_interface ∙ also)
        | inr zeroth ↦ not_root zeroth
      ]
    ]

    -- it stands at its slot there
    implemented : (class parent : ℕ) → Contains (superinterfaces ranks class) parent → is_interface ranks parent ≡ true
    implemented class parent among = go (is_interface ranks parent) refl where
      go : (test : Bool) → is_interface ranks parent ≡ test → is_interface ranks parent ≡ true
      go true is = is
      go false is = absurd (good class (named_in ranks class parent (Contains-append_right (superclass ranks class) (superinterfaces ranks class) parent among)) (ImplementsClass parent among is))

    in_upwards : (class : ℕ) → class < length ranks → is_subclass ranks class field.declared.class ≡ true → Contains (upwards ranks class) field.declared.class
    in_upwards class low below = elim (subclass_above ranks class field.declared.class below) [
      | inl same ↦ subst (λ (other : ℕ). Contains (upwards ranks class) other) same (upwards_own ranks (acyclic ranks (ranked_methods classes) good) (named_low classes) class low)
      | inr above ↦ upwards_above ranks (acyclic ranks (ranked_methods classes) good) (named_low classes) class field.declared.class low
          (by_superclass ranks 0 front.last (each_parent classes (ranked_methods classes) front good extend) implemented class field.declared.class no_interface not_root above)
    ]

    pub slot_there : (class : ℕ) → class < length ranks → is_subclass ranks class field.declared.class ≡ true → slice_get (object_fields classes class) (slot_of classes number) ≡ Some number
    slot_there class low below = object_slot classes class number field good low there instance (in_upwards class low below)

    pub declared_low : field.declared.class < length ranks
    declared_low =
        slice_get_within ranks field.declared.class (ranked classes own.at.declaring)
        (ap (slice_get ranks) (sym own_class) ∙ slice_get-map (ranked classes) classes own.own.class ∙ ap (option_map (ranked classes)) own.at.declares)

    pub own_slot : slice_get (object_fields classes field.declared.class) (slot_of classes number) ≡ Some number
    own_slot =
        object_slot classes field.declared.class number field good declared_low there instance
        (upwards_own ranks (acyclic ranks (ranked_methods classes) good) (named_low classes) field.declared.class declared_low)

    -- ---- an object that is held as the class of which the field is named is of a class

    module _ (name : List ℕ) (class : ℕ) (held : holder classes name ≡ Some class) (below : is_subclass ranks class field.declared.class ≡ true) where
      pub plain_class : (is_array name ≡ false) × (class_number classes name ≡ Some class)
      plain_class = go (is_array name) refl held where
        go : (array : Bool) → is_array name ≡ array → cond array (Some object) (class_number classes name) ≡ Some class → (is_array name ≡ false) × (class_number classes name ≡ Some class)
        go true is held = absurd (class_not_root class below (sym (same_Some object class held)))
        go false is held = (is, held)

      name_no_interface : ¬ (names_interface classes name ≡ true)
      name_no_interface is = class_no_interface class below (sym (ap (interface_at classes) plain_class.1) ∙ is)

      name_no_object : ¬ (is_object name ≡ true)
      name_no_object is =
          let same : name ≡ codes "java/lang/Object" = is_text name (codes "java/lang/Object") is in
          class_not_root class below (same_Some class 0 (sym plain_class.1 ∙ ap (class_number classes) same ∙ front.object))

      name_above_none : ¬ (is_above_arrays name ≡ true)
      name_above_none is = elim (or_cases (is_object name || same_text name (codes "java/lang/Cloneable")) (same_text name (codes "java/io/Serializable")) is) [
        | inl first ↦ elim (or_cases (is_object name) (same_text name (codes "java/lang/Cloneable")) first) [
          | inl object ↦ name_no_object object
          | inr cloneable ↦ name_no_interface (ap (names_interface classes) (is_text name (codes "java/lang/Cloneable") cloneable) ∙ front.cloneable)
        ]
        | inr serializable ↦ name_no_interface (ap (names_interface classes) (is_text name (codes "java/io/Serializable") serializable) ∙ front.serializable)
      ]

      -- an instance's class
      instance_class : (other : List ℕ) → is_instance classes other name ≡ true → (own : ℕ) × ((class_number classes other ≡ Some own) × (is_subclass ranks own field.declared.class ≡ true))
      instance_class other is = elim (instance_cases classes other name is) [
        | inl same ↦ (class, (ap (class_number classes) same ∙ plain_class.1, below))
        | inr (inl object) ↦ absurd (name_no_object object)
        | inr (inr further) ↦
            let them : IsBetween classes other name = between_them classes other name further in
            let same : them.upper ≡ class = same_Some them.upper class (sym them.to ∙ plain_class.1) in (
              them.lower,
              (
                them.from,
                subclass_next ranks (acyclic ranks (ranked_methods classes) good) (named_low classes) them.lower them.upper field.declared.class (number_within classes other them.lower them.from) them.below
                    (subst (λ (class : ℕ). is_subclass ranks class field.declared.class ≡ true) (sym same) below),
              ),
            )
      ]

      -- by the type of the object
      array_apart : (array letter : Bool) (other : List ℕ) → array ≡ true
          → cond (names_interface classes name) (array || letter) (cond array (is_above_arrays name) (letter && is_instance classes other name)) ≡ true → ⊥
      array_apart array letter other is so = go (names_interface classes name) refl array is so where
        go : (test : Bool) → names_interface classes name ≡ test → (array : Bool) → array ≡ true
            → cond test (array || letter) (cond array (is_above_arrays name) (letter && is_instance classes other name)) ≡ true → ⊥
        go true interface array is so = name_no_interface interface
        go false none true is so = name_above_none so
        go false none false is so = false≢true is

      class_instance : (other : List ℕ) → cond (names_interface classes name) true (is_instance classes other name) ≡ true → is_instance classes other name ≡ true
      class_instance other so = go (names_interface classes name) refl so where
        go : (test : Bool) → names_interface classes name ≡ test → cond test true (is_instance classes other name) ≡ true → is_instance classes other name ≡ true
        go true interface so = absurd (name_no_interface interface)
        go false none so = so

      pub held_class : (other : List ℕ) → name_in name ≡ name → (is_array other ≡ false → name_in other ≡ other)
          → is_held_as classes (type_of_name other) (letter_class ∷ name ++ semicolon ∷ []) ≡ true
          → (is_array other ≡ false) × ((own : ℕ) × ((class_number classes other ≡ Some own) × (is_subclass ranks own field.declared.class ≡ true)))
      held_class other clean other_clean so = go (is_array other) refl so where
        ends : name_in (name ++ semicolon ∷ []) ≡ name
        ends = name_ends name ∙ clean

        array_case : (other : List ℕ) → is_array other ≡ true → is_held_as classes other (letter_class ∷ name ++ semicolon ∷ []) ≡ true → ⊥
        array_case [] is so = false≢true is
        array_case (unit ∷ rest) is so =
            array_apart (unit == bracket) (unit == letter_class) (name_in rest) is
            (subst (λ (name : List ℕ). cond (names_interface classes name) ((unit == bracket) || (unit == letter_class))
            (cond (unit == bracket) (is_above_arrays name) ((unit == letter_class) && is_instance classes (name_in rest) name)) ≡ true) ends so)

        go : (array : Bool) → is_array other ≡ array → is_held_as classes (cond array other (letter_class ∷ other ++ semicolon ∷ [])) (letter_class ∷ name ++ semicolon ∷ []) ≡ true
            → (is_array other ≡ false) × ((own : ℕ) × ((class_number classes other ≡ Some own) × (is_subclass ranks own field.declared.class ≡ true)))
        go true is so = absurd (array_case other is so)
        go false is so =
            let same : name_in (other ++ semicolon ∷ []) ≡ other = name_ends other ∙ other_clean is in
            let own : cond (names_interface classes name) true (is_instance classes other name) ≡ true =
            sym (ap₂ (λ (other name : List ℕ). cond (names_interface classes name) true (is_instance classes other name)) same ends) ∙ so in
            (is, instance_class other (class_instance other own))
