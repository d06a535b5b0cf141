-- Kinds of names.
use Rattle.std.proofs.Common.{◌≡◌, ◌≢◌, ◌↔◌, ◌⊎◌, inl, inr, ℕ, ◌+◌, ◌<◌, ◌≤◌, Bool, true, false, List, [], ◌∷◌, length, get_or, take, IsTrue, refl, sym, subst, arith, rules, not, ◌==◌, ◌||◌, ◌&&◌}
use Rattle.std.specs.List.{AllByRecursion, join_with_byte}
use Rattle.std.proofs.lemmas.Bool.{false≢true}
use Rattle.std.proofs.lemmas.Bool.Decides.{nat_tests}
use Rattle.std.proofs.lemmas.List.{take_all}
use Rattle.cb_names.specs.Signs.{slash, less, greater, bracket, name_init, name_clinit}
use Rattle.cb_names.specs.Names.{MayStandInName, IsUnqualifiedName, HasNoAngle, IsMethodName, IsClassName}
use Rattle.cb_names.proofs.Lists.{all_back, all_more, all-weaker}

-- an unqualified name is the name of a class
pub unqualified_is_class : (name : List ℕ) → IsUnqualifiedName name → IsClassName name
unqualified_is_class name named = (name ∷ [], omega arith, (named, tt), refl)

initializer_is_unqualified : (name : List ℕ) → (name ≡ name_init) ⊎ (name ≡ name_clinit) → IsUnqualifiedName name
initializer_is_unqualified name (inl is) = subst IsUnqualifiedName (sym is) (search rules)
initializer_is_unqualified name (inr is) = subst IsUnqualifiedName (sym is) (search rules)

pub method_is_unqualified : (name : List ℕ) → IsMethodName name → IsUnqualifiedName name
method_is_unqualified name (inl is) = initializer_is_unqualified name (inl is)
method_is_unqualified name (inr (inl is)) = initializer_is_unqualified name (inr is)
method_is_unqualified name (inr (inr named)) = named.0

-- what is not the name of a class is no name
pub no_kind : (text : List ℕ) → (IsClassName text → ⊥) → (IsTrue false ↔ IsUnqualifiedName text) × (IsTrue false ↔ IsMethodName text) × (IsTrue false ↔ IsClassName text)
no_kind text no_class = (
  (λ is. absurd (false≢true is), λ named. absurd (no_class (unqualified_is_class text named))),
  (λ is. absurd (false≢true is), λ named. absurd (no_class (unqualified_is_class text (method_is_unqualified text named)))),
  (λ is. absurd (false≢true is), λ named. absurd (no_class named)),
)

abbrev pub NoSlash : ℕ → Type 0
NoSlash unit = unit ≢ slash

-- the name of a class without `/` is an unqualified name
class_is_unqualified : (name : List ℕ) → IsClassName name → AllByRecursion NoSlash name → IsUnqualifiedName name
class_is_unqualified name ([], some, named, is) no_slash = absurd (omega arith)
class_is_unqualified name (part ∷ [], some, named, is) no_slash = subst IsUnqualifiedName (sym is) named.0
class_is_unqualified name (part ∷ next ∷ parts, some, named, is) no_slash =
    absurd ((all_back NoSlash part (slash ∷ join_with_byte slash (next ∷ parts)) (subst (AllByRecursion NoSlash) is no_slash)).0 refl)

-- none of the units seen fails, and one more
pub none_more : (P : ℕ → Type 0) (text : List ℕ) (index : ℕ) (before now : Bool) → index < length text → (before ≡ false) ↔ AllByRecursion P (take index text) → (now ≡ false) ↔ ((before ≡ false) × P (get_or text index 0)) → (now ≡ false) ↔ AllByRecursion P (take (index + 1) text)
none_more P text index before now within seen one = (
  λ is. let parts = one.0 is in (all_more P text index within).1 (seen.0 parts.0, parts.1),
  λ all. let parts = (all_more P text index within).0 all in one.1 (seen.1 parts.0, parts.1),
)

pub none_left : (P : ℕ → Type 0) (text : List ℕ) (index : ℕ) (found : Bool) → length text ≤ index → (found ≡ false) ↔ AllByRecursion P (take index text) → (found ≡ false) ↔ AllByRecursion P text
none_left P text index found past seen =
    subst (λ front. (found ≡ false) ↔ AllByRecursion P front) (take_all index text past) seen

-- one more that does not, as every unit greater than all that have a meaning in names
pub same_found : (P : Type 0) (before : Bool) → P → (before ≡ false) ↔ ((before ≡ false) × P)
same_found P before holds = (λ is. (is, holds), λ both. both.0)

pub no_slash_beyond : (unit : ℕ) → bracket < unit → NoSlash unit
no_slash_beyond unit beyond = λ is. omega arith

pub no_angle_beyond : (unit : ℕ) → bracket < unit → (unit ≢ less) × (unit ≢ greater)
no_angle_beyond unit beyond = (λ is. omega arith, λ is. omega arith)

pub more_parted : (before : Bool) (unit : ℕ) → ((before || (unit == slash)) ≡ false) ↔ ((before ≡ false) × NoSlash unit)
more_parted true unit = (λ is. absurd (false≢true (sym is)), λ both. absurd (false≢true (sym both.0)))
more_parted false unit = (λ is. (refl, λ same. grind (arith, nat_tests)), λ both. let no = both.1 in grind (arith, nat_tests))

pub more_angled : (before found : Bool) (unit : ℕ) → IsTrue found ↔ ((unit ≡ less) ⊎ (unit ≡ greater)) → ((before || found) ≡ false) ↔ ((before ≡ false) × ((unit ≢ less) × (unit ≢ greater)))
more_angled true found unit angle = (λ is. absurd (false≢true (sym is)), λ both. absurd (false≢true (sym both.0)))
more_angled false true unit angle = (λ is. absurd (false≢true (sym is)), λ both. elim (angle.0 refl) [ inl is ↦ absurd (both.1.0 is) | inr is ↦ absurd (both.1.1 is) ])
more_angled false false unit angle = (λ _. (refl, (λ is. false≢true (angle.1 (inl is)), λ is. false≢true (angle.1 (inr is)))), λ _. refl)

and_not : (one other : Bool) → IsTrue (one && not other) ↔ ((one ≡ true) × (other ≡ false))
and_not true false = (λ _. (refl, refl), λ _. refl)
and_not true true = (λ is. absurd (false≢true is), λ both. absurd (false≢true (sym both.1)))
and_not false other = (λ is. absurd (false≢true is), λ both. absurd (false≢true both.0))

and_both : (one other : Bool) → IsTrue (one && other) ↔ (IsTrue one × IsTrue other)
and_both true other = (λ is. (refl, is), λ both. both.1)
and_both false other = (λ is. absurd (false≢true is), λ both. absurd (false≢true both.0))

-- what a whole text is
pub is_unqualified : (text : List ℕ) (begun parted : Bool) → IsTrue begun ↔ IsClassName text → (parted ≡ false) ↔ AllByRecursion NoSlash text → IsTrue (begun && not parted) ↔ IsUnqualifiedName text
is_unqualified text begun parted class slashes = (
  λ is. let both = (and_not begun parted).0 is in class_is_unqualified text (class.0 both.0) (slashes.0 both.1),
  λ named. (and_not begun parted).1 (class.1 (unqualified_is_class text named), slashes.1 (all-weaker MayStandInName NoSlash (λ unit may. may.3) text named.1)),
)

pub is_method : (text : List ℕ) (unqualified angled angles : Bool) → IsTrue unqualified ↔ IsUnqualifiedName text → (angled ≡ false) ↔ HasNoAngle text → IsTrue angles ↔ ((angled ≡ false) ⊎ (text ≡ name_init) ⊎ (text ≡ name_clinit)) → IsTrue (unqualified && angles) ↔ IsMethodName text
is_method text unqualified angled angles named no_angle may = (
  λ is. let both = (and_both unqualified angles).0 is in from (named.0 both.0) (may.0 both.1),
  λ method. (and_both unqualified angles).1 (named.1 (method_is_unqualified text method), may.1 (to method)),
) where
  from : IsUnqualifiedName text → (angled ≡ false) ⊎ (text ≡ name_init) ⊎ (text ≡ name_clinit) → IsMethodName text
  from is (inl none) = inr (inr (is, no_angle.0 none))
  from is (inr (inl init)) = inl init
  from is (inr (inr clinit)) = inr (inl clinit)

  to : IsMethodName text → (angled ≡ false) ⊎ (text ≡ name_init) ⊎ (text ≡ name_clinit)
  to (inl init) = inr (inl init)
  to (inr (inl clinit)) = inr (inr clinit)
  to (inr (inr other)) = inl (no_angle.1 other.1)
