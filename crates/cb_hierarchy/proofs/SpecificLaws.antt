-- Lists that are gone through item by item.
use Rattle.std.proofs.Common.{◌≡◌, ◌∙◌, ap, ap₂, refl, sym, ℕ, Bool, true, false, cond, not, ◌||◌, ◌+◌, ◌<◌, ◌≤◌, List, [], ◌∷◌, ◌++◌, Option, Some, None, filter, length, map, drop, get_or, take}
use Rattle.std.specs.List.{flat_map, list_any}
use Rattle.std.proofs.lemmas.Grind.{flat_map-append}
use Rattle.std.proofs.lemmas.List.{at_drop_all, at_drop_more, take_more}
use Rattle.std.proofs.lemmas.List.Elements.{filter-append}
use Rattle.cb_hierarchy.specs.declared.class.Class.{Class}
use Rattle.cb_hierarchy.specs.declared.member.Method.{Method}
use Rattle.cb_hierarchy.specs.Classes.{is_interface, listed}
use Rattle.cb_hierarchy.specs.Members.{method_of}
use Rattle.cb_hierarchy.specs.Resolution.{first_of, first_some, is_inherited, method_is}
use Rattle.cb_hierarchy.specs.Inner.{of_objects}
use Rattle.cb_hierarchy.specs.InnerSpecific.{inherited_of}

-- the first of the rest
pub next_none : (find : ℕ → Option ℕ) (numbers : List ℕ) (i : ℕ) (found first : Option ℕ) → i < length numbers → first_some (map find (drop i numbers)) ≡ first
    → found ≡ find (get_or numbers i 0) → found ≡ None → first_some (map find (drop (i + 1) numbers)) ≡ first
next_none find numbers i found first within so is none =
    ap (λ found. first_some (found ∷ map find (drop (i + 1) numbers))) (sym none ∙ is)
    ∙ sym (at_drop_more (λ rest. first_some (map find rest)) numbers i 0 within) ∙ so

pub next_some : (find : ℕ → Option ℕ) (numbers : List ℕ) (i item : ℕ) (first : Option ℕ) → i < length numbers → first_some (map find (drop i numbers)) ≡ first
    → Some item ≡ find (get_or numbers i 0) → Some item ≡ first
next_some find numbers i item first within so is =
    ap (λ next. first_some (next ∷ map find (drop (i + 1) numbers))) is
    ∙ sym (at_drop_more (λ rest. first_some (map find rest)) numbers i 0 within) ∙ so

pub last_none : (find : ℕ → Option ℕ) (numbers : List ℕ) (i : ℕ) (first : Option ℕ) → length numbers ≤ i → first_some (map find (drop i numbers)) ≡ first → None ≡ first
last_none find numbers i first past so = sym (at_drop_all (λ rest. first_some (map find rest)) numbers i past) ∙ so

-- the first of those that aren't static is the first that there is and isn't static
module _ (methods : List Method) (find : ℕ → Option ℕ) where
  abbrev test : ℕ → Bool
  test = method_is methods (λ method. not method.is_static)

  abbrev all : List ℕ → List ℕ
  all numbers = flat_map (λ number. listed (find number)) numbers

  abbrev each : List ℕ → List (Option ℕ)
  each numbers = map (λ number. of_objects methods (find number)) numbers

  by_test : (method : ℕ) (numbers : List ℕ) (passes : Bool) → first_of (filter test (all numbers)) ≡ first_some (each numbers)
      → first_of (cond passes (method ∷ filter test (all numbers)) (filter test (all numbers))) ≡ first_some (cond passes (Some method) None ∷ each numbers)
  by_test method numbers true rest = refl
  by_test method numbers false rest = rest

  pub first_kept : (numbers : List ℕ) → first_of (filter test (all numbers)) ≡ first_some (each numbers)
  first_kept [] = refl
  first_kept (number ∷ numbers) = go (find number) (first_kept numbers) where
    go : (found : Option ℕ) → first_of (filter test (all numbers)) ≡ first_some (each numbers)
        → first_of (filter test (listed found ++ all numbers)) ≡ first_some (of_objects methods found ∷ each numbers)
    go None rest = rest
    go (Some method) rest = by_test method numbers (test method) rest

-- whether one of the rest passes
pub any_next : (test : ℕ → Bool) (numbers : List ℕ) (i : ℕ) (passes any : Bool) → i < length numbers → list_any test (drop i numbers) ≡ any
    → passes ≡ test (get_or numbers i 0) → (passes || list_any test (drop (i + 1) numbers)) ≡ any
any_next test numbers i passes any within so is =
    ap (λ passes. passes || list_any test (drop (i + 1) numbers)) is ∙ sym (at_drop_more (list_any test) numbers i 0 within) ∙ so

pub any_last : (test : ℕ → Bool) (numbers : List ℕ) (i : ℕ) (any : Bool) → length numbers ≤ i → list_any test (drop i numbers) ≡ any → false ≡ any
any_last test numbers i any past so = sym (at_drop_all (list_any test) numbers i past) ∙ so
