-- The numbers in lists of fields and classes are below the counts of these.
use Rattle.std.proofs.Common.{◌≡◌, subst, arith, ℕ, zero, suc, ◌<◌, Bool, true, false, cond, not, ◌&&◌, ◌==◌, List, [], ◌∷◌, ◌++◌, Some, length, map}
use Rattle.std.specs.Prelude.{filter, slice_get}
use Rattle.std.specs.List.{AllByRecursion, Contains, flat_map}
use Rattle.std.proofs.lemmas.Option.{slice_get_within}
use Rattle.std.proofs.lemmas.List.{length-map}
use Rattle.cb_classfile.specs.declared.class.ClassFile.{ClassFile}
use Rattle.cb_hierarchy.specs.declared.class.Class.{Class as Ranked}
use Rattle.cb_hierarchy.specs.declared.member.Field.{Field as RankedField}
use Rattle.cb_hierarchy.specs.declared.member.Method.{Method as RankedMethod}
use Rattle.cb_hierarchy.specs.Classes.{is_interface, superclass, superinterfaces}
use Rattle.cb_hierarchy.specs.Initial.{declares_body, enumerated, enumerated_by, initialised_before}
use Rattle.cb_hierarchy.specs.Layout.{layout, layout_by, own_fields}
use Rattle.cb_hierarchy.specs.Orders.{distinct, in_turns}
use Rattle.cb_link.specs.Numbers.{hierarchy, name_of, ranked}
use Rattle.cb_link.proofs.Picked.{numbers_low}
use Rattle.cb_link.proofs.Ranged.{Low, all_both, all_lists, contains_all, parents_low}

-- what is so of all members is so of each
pub each_at : {X : Type 0} (P : X → Type 0) (items : List X) (place : ℕ) (item : X) → AllByRecursion P items → slice_get items place ≡ Some item → P item
each_at {X} P [] place item all is = absurd (omega (arith, slice_get_within {A = X} [] place item is))
each_at P (first ∷ items) zero item all is = let same : first ≡ item = cc in subst P same all.0
each_at P (first ∷ items) (suc place) item all is = each_at P items place item all.1 is

pub all_lists_of : {X Y : Type 0} (Q : X → Type 0) (P : Y → Type 0) (f : X → List Y) (items : List X) → ((x : X) → Q x → AllByRecursion P (f x)) → AllByRecursion Q items → AllByRecursion P (flat_map f items)
all_lists_of Q P f [] each all = tt
all_lists_of Q P f (x ∷ items) each all = all_both P (f x) (flat_map f items) (each x all.0) (all_lists_of Q P f items each all.1)

all_filtered : {X : Type 0} (P : X → Type 0) (test : X → Bool) (items : List X) → AllByRecursion P items → AllByRecursion P (filter test items)
all_filtered P test [] all = tt
all_filtered {X} P test (x ∷ items) all = go (test x) (all_filtered P test items all.1) where
  go : (passes : Bool) → AllByRecursion P (filter test items) → AllByRecursion P (cond passes (x ∷ filter test items) (filter test items))
  go true rest = (all.0, rest)
  go false rest = rest

all_distinct : (P : ℕ → Type 0) (numbers : List ℕ) → AllByRecursion P numbers → AllByRecursion P (distinct numbers)
all_distinct P [] all = tt
all_distinct P (number ∷ numbers) all = (all.0, all_filtered P (λ other. not (other == number)) (distinct numbers) (all_distinct P numbers all.1))

pub all_front : {X : Type 0} (P : X → Type 0) (front back : List X) → AllByRecursion P (front ++ back) → AllByRecursion P front
all_front P [] back all = tt
all_front P (x ∷ front) back all = (all.0, all_front P front back all.1)

pub all_back : {X : Type 0} (P : X → Type 0) (front back : List X) → AllByRecursion P (front ++ back) → AllByRecursion P back
all_back P [] back all = all
all_back P (x ∷ front) back all = all_back P front back all.1

-- of the fields of an object
layout_low : (classes : List Ranked) (fields : List RankedField) (turns class : ℕ) → AllByRecursion (λ number. number < length fields) (in_turns (layout_by classes fields) turns class)
layout_low classes fields zero class = tt
layout_low classes fields (suc turns) class =
    all_both (λ number. number < length fields) (flat_map (in_turns (layout_by classes fields) turns) (superclass classes class)) (own_fields fields class)
    (all_lists (λ number. number < length fields) (in_turns (layout_by classes fields) turns) (superclass classes class) (layout_low classes fields turns))
    (numbers_low (λ entry. (entry.1.declared.class == class) && not entry.1.is_static) (length fields) 0 fields (omega arith))

pub in_layout : (classes : List Ranked) (fields : List RankedField) (class slot number : ℕ) → slice_get (layout classes fields class) slot ≡ Some number → number < length fields
in_layout classes fields class slot number is = each_at (λ number. number < length fields) (layout classes fields class) slot number (layout_low classes fields (length classes) class) is

-- of the classes that one names
module _ (classes : List ClassFile) where
  supers_low : (class : ℕ) → AllByRecursion (Low classes) (superclass (hierarchy classes) class)
  supers_low class = all_front (Low classes) (superclass (hierarchy classes) class) (superinterfaces (hierarchy classes) class) (parents_low classes class)

  interfaces_low : (class : ℕ) → AllByRecursion (Low classes) (superinterfaces (hierarchy classes) class)
  interfaces_low class = all_back (Low classes) (superclass (hierarchy classes) class) (superinterfaces (hierarchy classes) class) (parents_low classes class)

  pub super_low : (class parent : ℕ) → Contains (superclass (hierarchy classes) class) parent → parent < length (hierarchy classes)
  super_low class parent among =
      let low : parent < length (map name_of classes) = contains_all (Low classes) (superclass (hierarchy classes) class) parent (supers_low class) among in
      omega (arith, low, length-map classes name_of, length-map classes (ranked classes))

  -- of those that are initialised before it
  enumerated_low : (turns class : ℕ) → Low classes class → AllByRecursion (Low classes) (in_turns (enumerated_by (hierarchy classes)) turns class)
  enumerated_low zero class low = tt
  enumerated_low (suc turns) class low =
      all_distinct (Low classes) (flat_map (in_turns (enumerated_by (hierarchy classes)) turns) (superinterfaces (hierarchy classes) class) ++ class ∷ [])
      (all_both (Low classes) (flat_map (in_turns (enumerated_by (hierarchy classes)) turns) (superinterfaces (hierarchy classes) class)) (class ∷ [])
      (all_lists_of (Low classes) (Low classes) (in_turns (enumerated_by (hierarchy classes)) turns) (superinterfaces (hierarchy classes) class) (enumerated_low turns) (interfaces_low class))
      (low, tt))

  initial_low : (methods : List RankedMethod) (class : ℕ) → AllByRecursion (Low classes) (initialised_before (hierarchy classes) methods class)
  initial_low methods class = go (is_interface (hierarchy classes) class) where
    go : (test : Bool) → AllByRecursion (Low classes) (cond test [] (superclass (hierarchy classes) class ++ filter (declares_body methods) (distinct (flat_map (enumerated (hierarchy classes)) (superinterfaces (hierarchy classes) class)))))
    go true = tt
    go false =
        all_both (Low classes) (superclass (hierarchy classes) class) (filter (declares_body methods) (distinct (flat_map (enumerated (hierarchy classes)) (superinterfaces (hierarchy classes) class))))
        (supers_low class)
        (all_filtered (Low classes) (declares_body methods) (distinct (flat_map (enumerated (hierarchy classes)) (superinterfaces (hierarchy classes) class)))
        (all_distinct (Low classes) (flat_map (enumerated (hierarchy classes)) (superinterfaces (hierarchy classes) class))
        (all_lists_of (Low classes) (Low classes) (enumerated (hierarchy classes)) (superinterfaces (hierarchy classes) class) (enumerated_low (length (hierarchy classes))) (interfaces_low class))))

  pub initial_within : (methods : List RankedMethod) (class place number : ℕ) → slice_get (initialised_before (hierarchy classes) methods class) place ≡ Some number → number < length classes
  initial_within methods class place number is =
      let low : number < length (map name_of classes) = each_at (Low classes) (initialised_before (hierarchy classes) methods class) place number (initial_low methods class) is in
      omega (arith, low, length-map classes name_of)
