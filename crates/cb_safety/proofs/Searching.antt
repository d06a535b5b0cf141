-- The first item of a list that passes a test, and what is so of all items.
use Rattle.std.proofs.Common.{◌≡◌, ◌∙◌, ◌⊎◌, inl, inr, ap, refl, sym, subst, arith, ℕ, zero, suc, ◌+◌, ◌<◌, ◌≤◌, Bool, true, false, cond, not, ◌||◌, ◌&&◌, List, [], ◌∷◌, ◌++◌, length, map, nat_lt, Option, Some, None}
use Rattle.std.specs.Prelude.{filter, option_and_then, option_map, slice_get}
use Rattle.std.specs.List.{AllByRecursion, Contains, find, list_all, list_any, position, position_or_len, range_with_len}
use Rattle.std.proofs.lemmas.Bool.{and_parts, ltb-false}
use Rattle.std.proofs.lemmas.Bool.Decides.{nat_tests}
use Rattle.std.proofs.lemmas.List.Folds.{find_at}
use Rattle.std.proofs.lemmas.Option.{slice_get_past}

-- one is found in front or behind
pub found_if : {Item : Type 0} (test : Item → Bool) (item : Item) (items : List Item) (passes : Bool) → test item ≡ passes
    → find test (item ∷ items) ≡ cond passes (Some item) (find test items)
found_if {Item} test item items passes is = ap (λ (passes : Bool). cond passes (Some item) (find test items)) is

pub found_either : {Item : Type 0} (test : Item → Bool) (first : Item) (items : List Item) (item : Item) → find test (first ∷ items) ≡ Some item
    → ((test first ≡ true) × (first ≡ item)) ⊎ ((test first ≡ false) × (find test items ≡ Some item))
found_either {Item} test first items item so = go (test first) refl where
  go : (passes : Bool) → test first ≡ passes → ((test first ≡ true) × (first ≡ item)) ⊎ ((test first ≡ false) × (find test items ≡ Some item))
  go true is = let found : Some first ≡ Some item = sym (found_if test first items true is) ∙ so in inl (is, cc)
  go false is = inr (is, sym (found_if test first items false is) ∙ so)

-- it passes, and what is so of all is so of it
pub found_passes : {Item : Type 0} (test : Item → Bool) (items : List Item) (item : Item) → find test items ≡ Some item → test item ≡ true
found_passes test [] item so = absurd (cc so)
found_passes {Item} test (first ∷ items) item so = elim (found_either test first items item so) [
  | inl here ↦ ap test (sym here.1) ∙ here.0
  | inr later ↦ found_passes test items item later.1
]

pub found_all : {Item : Type 0} (P : Item → Type 0) (test : Item → Bool) (items : List Item) (item : Item) → AllByRecursion P items → find test items ≡ Some item → P item
found_all P test [] item all so = absurd (cc so)
found_all {Item} P test (first ∷ items) item all so = elim (found_either test first items item so) [
  | inl here ↦ subst P here.1 all.0
  | inr later ↦ found_all P test items item all.1 later.1
]

-- one is found where one passes
pub any_found : {Item : Type 0} (test : Item → Bool) (items : List Item) → list_any test items ≡ true → (item : Item) × (find test items ≡ Some item)
any_found test [] so = absurd (cc so)
any_found {Item} test (first ∷ items) so = go (test first) refl (any_found test items) where
  go : (passes : Bool) → test first ≡ passes → (list_any test items ≡ true → (item : Item) × (find test items ≡ Some item))
      → (item : Item) × (find test (first ∷ items) ≡ Some item)
  go true is later = (first, found_if test first items true is)
  go false is later =
      let (item, found) = later (ap (λ (passes : Bool). passes || list_any test items) (sym is) ∙ so) in
      (item, found_if test first items false is ∙ found)

-- what is so of all is so of each
pub all_each : {Item : Type 0} (P : Item → Type 0) (items : List Item) (item : Item) → AllByRecursion P items → Contains items item → P item
all_each P [] item all (place, low, is) = absurd (past place low) where
  past : (place : ℕ) → place < 0 → ⊥
  past place low = omega (arith, low)
all_each P (first ∷ items) item all (zero, low, is) = subst P is all.0
all_each P (first ∷ items) item all (suc place, low, is) = all_each P items item all.1 (place, omega (arith, low), is)

pub all_pass : {Item : Type 0} (test : Item → Bool) (items : List Item) → list_all test items ≡ true → AllByRecursion (λ item. test item ≡ true) items
all_pass test [] so = tt
all_pass test (first ∷ items) so =
    let (here, later) = and_parts (test first) (list_all test items) so in
    (here, all_pass test items later)

pub all_kept : {Item : Type 0} (test keeps : Item → Bool) (items : List Item) → list_all test (filter keeps items) ≡ true
    → AllByRecursion (λ item. keeps item ≡ true → test item ≡ true) items
all_kept test keeps [] so = tt
all_kept {Item} test keeps (first ∷ items) so = go (keeps first) refl (all_kept test keeps items) where
  go : (kept : Bool) → keeps first ≡ kept → (list_all test (filter keeps items) ≡ true → AllByRecursion (λ item. keeps item ≡ true → test item ≡ true) items)
      → AllByRecursion (λ item. keeps item ≡ true → test item ≡ true) (first ∷ items)
  go true is later =
      let both : (test first && list_all test (filter keeps items)) ≡ true =
      sym (ap (λ (kept : Bool). list_all test (cond kept (first ∷ filter keeps items) (filter keeps items))) is) ∙ so in
      let (here, rest) = and_parts (test first) (list_all test (filter keeps items)) both in
      (λ kept. here, later rest)
  go false is later =
      let rest : list_all test (filter keeps items) ≡ true =
      sym (ap (λ (kept : Bool). list_all test (cond kept (first ∷ filter keeps items) (filter keeps items))) is) ∙ so in
      (λ kept. absurd (cc (sym is ∙ kept)), later rest)

-- none is kept by a filter
pub none_kept : {Item : Type 0} (keeps : Item → Bool) (items : List Item) → filter keeps items ≡ [] → AllByRecursion (λ item. keeps item ≡ false) items
none_kept keeps [] so = tt
none_kept {Item} keeps (first ∷ items) so = go (keeps first) refl (none_kept keeps items) where
  go : (kept : Bool) → keeps first ≡ kept → (filter keeps items ≡ [] → AllByRecursion (λ item. keeps item ≡ false) items)
      → AllByRecursion (λ item. keeps item ≡ false) (first ∷ items)
  go true is later =
      let some : first ∷ filter keeps items ≡ [] = sym (ap (λ (kept : Bool). cond kept (first ∷ filter keeps items) (filter keeps items)) is) ∙ so in
      absurd (cc)
  go false is later = (is, later (sym (ap (λ (kept : Bool). cond kept (first ∷ filter keeps items) (filter keeps items)) is) ∙ so))

pub all_weaker : {Item : Type 0} (P Q : Item → Type 0) → ((item : Item) → P item → Q item) → (items : List Item) → AllByRecursion P items → AllByRecursion Q items
all_weaker P Q from [] all = tt
all_weaker P Q from (first ∷ items) all = (from first all.0, all_weaker P Q from items all.1)

-- lists that have nothing
pub none_both : {Item : Type 0} (front back : List Item) → front ++ back ≡ [] → (front ≡ []) × (back ≡ [])
none_both [] back so = (refl, so)
none_both (item ∷ front) back so = absurd (cc)

pub none_mapped : {Item Part : Type 0} (part : Item → Part) (items : List Item) → map part items ≡ [] → items ≡ []
none_mapped part [] so = refl
none_mapped part (item ∷ items) so = absurd (cc)

-- where the first stands that passes
at_turn : {Item : Type 0} (items : List Item) (turn : ℕ) (low : Bool) → nat_lt turn (length items) ≡ low
    → option_and_then (slice_get items) (cond low (Some turn) None) ≡ slice_get items turn
at_turn items turn true is = refl
at_turn items turn false is = sym (slice_get_past items turn (ltb-false turn (length items) is))

pub position_found : {Item : Type 0} (test : Item → Bool) (items : List Item) → option_and_then (slice_get items) (position test items) ≡ find test items
position_found {Item} test items =
    at_turn items turn (nat_lt turn (length items)) refl ∙ sym (find_at test items)
  where
    turn : ℕ
    turn = position_or_len test items

pub position_here : {Item : Type 0} (test : Item → Bool) (first : Item) (items : List Item) → test first ≡ true → position test (first ∷ items) ≡ Some 0
position_here {Item} test first items is =
    ap (λ (passes : Bool). let turn : ℕ = cond (not passes) (1 + position_or_len test items) 0 in cond (nat_lt turn (suc (length items))) (Some turn) None) is
    ∙ ap (λ (low : Bool). cond {A = Option ℕ} low (Some 0) None) (let within : nat_lt 0 (suc (length items)) ≡ true = grind (arith, nat_tests) in within)

pub position_later : {Item : Type 0} (test : Item → Bool) (first : Item) (items : List Item) → test first ≡ false
    → position test (first ∷ items) ≡ option_map (λ turn. 1 + turn) (position test items)
position_later {Item} test first items is =
    ap (λ (passes : Bool). let turn : ℕ = cond (not passes) (1 + own) 0 in cond (nat_lt turn (suc (length items))) (Some turn) None) is
    ∙ go (nat_lt (1 + own) (suc (length items))) (nat_lt own (length items)) (let same : nat_lt (1 + own) (suc (length items)) ≡ nat_lt own (length items) = grind (arith, nat_tests) in same)
  where
    own : ℕ
    own = position_or_len test items

    go : (one other : Bool) → one ≡ other → cond one (Some (1 + own)) None ≡ option_map (λ turn. 1 + turn) (cond other (Some own) None)
    go one true is = ap (λ (one : Bool). cond {A = Option ℕ} one (Some (1 + own)) None) is
    go one false is = ap (λ (one : Bool). cond {A = Option ℕ} one (Some (1 + own)) None) is

-- and what stands behind it
abbrev pub behind : {Item : Type 0} → (Item → Bool) → List Item → Option Item
behind test items = option_and_then (λ turn. slice_get items (turn + 1)) (position test items)

pub behind_here : {Item : Type 0} (test : Item → Bool) (first : Item) (items : List Item) → test first ≡ true → behind test (first ∷ items) ≡ slice_get items 0
behind_here {Item} test first items is = ap (option_and_then (λ (turn : ℕ). slice_get (first ∷ items) (turn + 1))) (position_here test first items is)

pub behind_later : {Item : Type 0} (test : Item → Bool) (first : Item) (items : List Item) → test first ≡ false → behind test (first ∷ items) ≡ behind test items
behind_later {Item} test first items is =
    ap (option_and_then (λ (turn : ℕ). slice_get (first ∷ items) (turn + 1))) (position_later test first items is) ∙ go (position test items)
  where
    go : (turn : Option ℕ) → option_and_then (λ (turn : ℕ). slice_get (first ∷ items) (turn + 1)) (option_map (λ (turn : ℕ). 1 + turn) turn)
        ≡ option_and_then (λ (turn : ℕ). slice_get items (turn + 1)) turn
    go None = refl
    go (Some turn) = ap (slice_get (first ∷ items)) (let next : 1 + turn + 1 ≡ suc (turn + 1) = omega arith in next)

-- what is made of numbers
pub numbered : {Item : Type 0} (make : ℕ → Item) (from count number : ℕ) → number < count → slice_get (map make (range_with_len from count)) number ≡ Some (make (from + number))
numbered make from zero number low = absurd (omega (arith, low))
numbered make from (suc count) zero low = ap (λ (number : ℕ). Some (make number)) (let same : from ≡ from + 0 = omega arith in same)
numbered make from (suc count) (suc number) low =
    numbered make (from + 1) count number (omega (arith, low))
    ∙ ap (λ (number : ℕ). Some (make number)) (let same : from + 1 + number ≡ from + suc number = omega arith in same)

pub numbered_past : {Item : Type 0} (make : ℕ → Item) (from count number : ℕ) → count ≤ number → slice_get (map make (range_with_len from count)) number ≡ None
numbered_past make from zero number past = refl
numbered_past make from (suc count) zero past = absurd (omega (arith, past))
numbered_past make from (suc count) (suc number) past = numbered_past make (from + 1) count number (omega (arith, past))
