-- The program of classes that are one.
use Rattle.std.proofs.Common.{◌≡◌, ◌∙◌, refl, sym, subst, ℕ, Bool, true, false, List, [], ◌∷◌, Option, None, Some, length, map, ◌+◌, ◌<◌, ◌≤◌, arith}
use Rattle.std.specs.Prelude.{cond, if◌then◌else◌, ltb, option_and_then, slice_get}
use Rattle.std.specs.List.{AllByRecursion, position, position_or_len}
use Rattle.std.proofs.lemmas.Bool.Decides.{nat_tests}
use Rattle.std.proofs.lemmas.List.{length-map}
use Rattle.std.proofs.lemmas.Option.{slice_get_within}
use Rattle.cb_classfile.specs.declared.class.ClassFile.{ClassFile}
use Rattle.cb_hierarchy.specs.declared.member.Method.{Method as RankedMethod}
use Rattle.cb_hierarchy.specs.Members.{method_of}
use Rattle.cb_hierarchy.specs.Orders.{upwards}
use Rattle.cb_hierarchy.specs.Resolution.{first_some, method_is}
use Rattle.cb_kinds.specs.Basics.{kind_number}
use Rattle.cb_kinds.specs.Texts.{number_of_pair, same_text}
use Rattle.cb_link.specs.Having.{HasOwnName, IsWhole}
use Rattle.cb_link.specs.Judging.{IsProgram, method_limit, site_limit}
use Rattle.cb_link.specs.Making.{fixed_kinds, kinds, makings}
use Rattle.cb_link.specs.Numbers.{class_number, hierarchy, method_texts, methods_of, name_of, ranked_method, ranked_methods}
use Rattle.cb_link.specs.Program.{linked, linked_method, linked_site}
use Rattle.cb_link.specs.Resolving.{main_method, main_texts, static_one}

-- what comes of an option comes of something
through : {X Y : Type 0} (f : X → Option Y) (found : Option X) (y : Y) → option_and_then f found ≡ Some y → (x : X) × (f x ≡ Some y)
through f None y is = absurd (cc)
through f (Some x) y is = (x, is)

-- the first that there is was one of them
one_of : {X Y : Type 0} (f : X → Option Y) (items : List X) (y : Y) → first_some (map f items) ≡ Some y → (x : X) × (f x ≡ Some y)
one_of f [] y is = absurd (cc)
one_of {X} {Y} f (item ∷ items) y is = go (one_of f items y) (f item) refl where
  go : (first_some (map f items) ≡ Some y → (x : X) × (f x ≡ Some y)) → (found : Option Y) → f item ≡ found → (x : X) × (f x ≡ Some y)
  go later None told = later (rw told at is)
  go later (Some other) told = let same = rw told at is in (item, told ∙ same)

-- what is chosen where a test passes
chosen : (test : Bool) (one other : ℕ) → (if test then Some one else None) ≡ Some other → (test ≡ true) × (one ≡ other)
chosen true one other is = (refl, cc)
chosen false one other is = absurd (cc)

-- a method of which something is so is there
is_there : (methods : List RankedMethod) (test : RankedMethod → Bool) (number : ℕ) → method_is methods test number ≡ true → number < length methods
is_there methods test number is = go (slice_get methods number) refl where
  go : (found : Option RankedMethod) → slice_get methods number ≡ found → number < length methods
  go None told = let never = rw told at is in absurd (cc)
  go (Some method) told = slice_get_within methods number method told

-- the method with which a program begins
begins_within : (classes : List ClassFile) (main : List ℕ) (method : ℕ) → main_method classes main ≡ Some method → method < length (methods_of classes)
begins_within classes main method begins =
    let class = through _ (class_number classes main) method begins in
    let signature = through _ (number_of_pair (method_texts classes) main_texts) method class.1 in
    let number = one_of _ (upwards (hierarchy classes) class.0) method signature.1 in
    let one = through _ (method_of (ranked_methods classes) number.0 signature.0) method number.1 in
    let so = chosen (method_is (ranked_methods classes) (λ own. own.is_static) one.0) one.0 method one.1 in
    let there : one.0 < length (ranked_methods classes) = is_there (ranked_methods classes) (λ own. own.is_static) one.0 so.0 in
    let many : length (ranked_methods classes) ≡ length (methods_of classes) = length-map (methods_of classes) (ranked_method classes) in
    subst (λ count. method < count) many (subst (λ number. number < length (ranked_methods classes)) so.1 there)

-- a number that is found is the first place, and within
place_within : {X : Type 0} (test : X → Bool) (items : List X) (number : ℕ) → position test items ≡ Some number → position_or_len test items < length items
place_within test items number is = go (ltb (position_or_len test items) (length items)) refl is where
  go : (low : Bool) → ltb (position_or_len test items) (length items) ≡ low → cond low (Some (position_or_len test items)) None ≡ Some number
      → position_or_len test items < length items
  go true low told = grind (arith, nat_tests)
  go false low told = absurd (cc)

-- the main class
main_within : (classes : List ClassFile) (main : List ℕ) (method : ℕ) → main_method classes main ≡ Some method → kind_number (map name_of classes) main < length classes
main_within classes main method begins = go (class_number classes main) refl begins where
  many : length (map name_of classes) ≡ length classes
  many = length-map classes name_of

  go : (found : Option ℕ) → class_number classes main ≡ found → option_and_then (λ class. option_and_then (λ signature. first_some (map (λ number. static_one classes (method_of (ranked_methods classes) number signature)) (upwards (hierarchy classes) class))) (number_of_pair (method_texts classes) main_texts)) found ≡ Some method
      → kind_number (map name_of classes) main < length classes
  go None told is = absurd (cc)
  go (Some class) told is = subst (λ count. kind_number (map name_of classes) main < count) many (place_within (same_text main) (map name_of classes) class told)

pub whole_program : (classes : List ClassFile) (main : List ℕ) (method : ℕ) → IsProgram classes main method → AllByRecursion HasOwnName classes → IsWhole (linked classes main method)
whole_program classes main method program named =
    let many : length (map (linked_method (kinds classes)) (methods_of classes)) ≡ length (methods_of classes) = length-map (methods_of classes) (linked_method (kinds classes)) in
    let fixed : length (map (kind_number (kinds classes)) fixed_kinds) ≡ length fixed_kinds = length-map fixed_kinds (kind_number (kinds classes)) in
    let made : length (map (linked_site (kinds classes)) (makings classes)) ≡ length (makings classes) = length-map (makings classes) (linked_site (kinds classes)) in
    record {
      kinds = refl;
      fixed = refl;
      fields = refl;
      sites = refl;
      texts = refl;
      methods = refl;
      good = program.good;
      named = named;
      begins = subst (λ count. method < count) (sym many) (begins_within classes main method program.begins);
      main = main_within classes main method program.begins;
      few_methods = subst (λ count. count ≤ method_limit) (sym many) program.methods;
      few_sites = subst (λ count. count ≤ site_limit) (λ i. sym fixed i + sym made i) program.sites;
    }
