-- What the table's tests say of its rows.
use Rattle.std.proofs.Common.{◌≡◌, ◌∙◌, ap, sym, refl, arith, ℕ, zero, suc, ◌+◌, Bool, true, false, ◌&&◌, List, [], ◌∷◌, drop, take, slice_get, Some, Contains}
use Rattle.std.specs.List.{list_all, list_any, AllPass}
use Rattle.std.specs.Str.{bytes_eq}
use Rattle.std.proofs.lemmas.List.Sums.{AllPass-from_list_all}
use Rattle.std.proofs.lemmas.Map.Views.{Contains-from_any}
use Rattle.std.proofs.lemmas.Option.{same_Some}
use Rattle.std.proofs.lemmas.Slice.Eq.{bytes_eq-Decides}
use Rattle.cb_library.specs.CoreClasses.{core_classes}
use Rattle.cb_library.specs.Questions.{bodies, class_names, fits_flags, fits_parents, has_constructors, instructions, is_framed, methods, names_a_row, parents_of}
use Rattle.cb_library.specs.Rows.{CoreClass, Method}
use Rattle.cb_library.proofs.Tested.{all_at, both, distinct, one_place}

itself : (one other : List ℕ) → one ≡ other → bytes_eq one other ≡ true
itself one other is = (bytes_eq-Decides one other).1 is

apart : distinct bytes_eq class_names ≡ true
apart = refl

pub one_name : (one other : ℕ) (name : List ℕ) → slice_get class_names one ≡ Some name → slice_get class_names other ≡ Some name → one ≡ other
one_name one other name is are = one_place bytes_eq class_names one other name name apart is are (itself name name refl) (itself name name refl)

-- whether two methods have one name and descriptor
abbrev pub alike : Method → Method → Bool
alike one other = bytes_eq one.name other.name && bytes_eq one.descriptor other.descriptor

methods_apart : list_all (λ class. distinct alike class.methods) core_classes ≡ true
methods_apart = refl

joined : (one other : Bool) → one ≡ true → other ≡ true → (one && other) ≡ true
joined true other is are = are
joined false other is are = absurd (grind (arith, is))

same : (one other : Method) → one.name ≡ other.name → one.descriptor ≡ other.descriptor → alike one other ≡ true
same one other name descriptor = joined _ _ (itself one.name other.name name) (itself one.descriptor other.descriptor descriptor)

pub one_method : (number one other : ℕ) (class : CoreClass) (first second : Method) → slice_get core_classes number ≡ Some class → slice_get class.methods one ≡ Some first → slice_get class.methods other ≡ Some second → first.name ≡ second.name → first.descriptor ≡ second.descriptor → one ≡ other
one_method number one other class first second is is_first is_second name descriptor =
    one_place alike class.methods one other first second (all_at (λ class. distinct alike class.methods) core_classes number class methods_apart is) is_first is_second (same first second name descriptor) (same second first (sym name) (sym descriptor))

passed : list_all names_a_row instructions ≡ true
passed = refl

pub named : AllPass names_a_row instructions
named = AllPass-from_list_all names_a_row instructions passed

framed_all : list_all is_framed bodies ≡ true
framed_all = refl

pub framed : AllPass is_framed bodies
framed = AllPass-from_list_all is_framed bodies framed_all

flagged_all : list_all fits_flags methods ≡ true
flagged_all = refl

pub flagged : AllPass fits_flags methods
flagged = AllPass-from_list_all fits_flags methods flagged_all

constructed_all : list_all has_constructors (drop 22 core_classes) ≡ true
constructed_all = refl

pub constructed : AllPass has_constructors (drop 22 core_classes)
constructed = AllPass-from_list_all has_constructors (drop 22 core_classes) constructed_all

-- whether the parents of a class are among the first names, and whether those of each class are among the names before
-- it, where the first of these classes has a number
abbrev pub among : List (List ℕ) → ℕ → CoreClass → Bool
among names number class = list_all (λ parent. list_any (bytes_eq parent) (take number names)) (parents_of class)

abbrev pub behind : List (List ℕ) → ℕ → List CoreClass → Bool
behind names number [] = true
behind names number (class ∷ classes) = among names number class && behind names (suc number) classes

all_behind : behind class_names 0 core_classes ≡ true
all_behind = refl

moved : (number place at : ℕ) → number + suc place ≡ at → suc number + place ≡ at
moved number place at is = omega (arith, is)

among_at : (names : List (List ℕ)) (number place at : ℕ) (classes : List CoreClass) (class : CoreClass) → number + place ≡ at → behind names number classes ≡ true → slice_get classes place ≡ Some class → among names at class ≡ true
among_at names number place at [] class sum each is = absurd (grind (arith, is))
among_at names number zero at (first ∷ classes) class sum each is =
    let here : number ≡ at = omega (arith, sum) in
    ap (among names at) (sym (same_Some first class is)) ∙ (ap (λ at. among names at first) (sym here) ∙ (both _ _ each).0)
among_at names number (suc place) at (first ∷ classes) class sum each is =
    among_at names (suc number) place at classes class (moved number place at sum) (both _ _ each).1 is

texts : (one other : List ℕ) → bytes_eq one other ≡ true → one ≡ other
texts one other is = (bytes_eq-Decides one other).0 is

pub parents : (number : ℕ) (class : CoreClass) (parent : List ℕ) → slice_get core_classes number ≡ Some class → Contains (parents_of class) parent → Contains (take number class_names) parent
parents number class parent is (place, short, there) =
    let test : List ℕ → Bool = λ parent. list_any (bytes_eq parent) (take number class_names) in
    let each = AllPass-from_list_all test (parents_of class) (among_at class_names 0 number number core_classes class (omega arith) all_behind is) in
    Contains-from_any {eq = bytes_eq} texts parent (take number class_names) (ap test (sym there) ∙ each place parent short)

related : list_all fits_parents core_classes ≡ true
related = refl

pub hierarchy : AllPass fits_parents core_classes
hierarchy = AllPass-from_list_all fits_parents core_classes related
