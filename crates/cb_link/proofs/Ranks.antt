-- Numbers and packages, as they are found.
use Rattle.std.proofs.Common.{◌≡◌, ◌∙◌, ◌++◌, ◌<◌, ◌==◌, ◌||◌, ℕ, Bool, true, false, List, [], ◌∷◌, Some, None, ap, refl, sym, arith, length, cond, if◌then◌else◌}
use Rattle.std.specs.List.{list_any}
use Rattle.std.proofs.lemmas.Grind.{flat_map-append}
use Rattle.std.proofs.lemmas.List.{append-nil, map-append}
use Rattle.std.specs.List.{enumerate_from, flat_map}
use Rattle.cb_link.proofs.PlacesLaws.{flat_more}
use Rattle.std.proofs.Common.{append_assoc, ap₂, map, nat_lt, not, ◌≤◌, ◌+◌, take, get_or}
use Rattle.std.proofs.lemmas.Bool.{ne_eqb}
use Rattle.std.proofs.lemmas.List.{take_more}
use Rattle.std.proofs.lemmas.List.Sums.{prefix_len-le-length}
use Rattle.std.proofs.lemmas.Bool.Decides.{nat_tests}
use Rattle.cb_names.specs.Signs.{slash}
use Rattle.cb_kinds.specs.Basics.{kind_number}
use Rattle.cb_kinds.specs.Texts.{number_of, number_of_pair, own_number, same_text, same_texts}
use Rattle.cb_link.specs.Numbers.{package_of}

-- behind a slash a package is all that was read, and behind another unit it is what it was
abbrev is_slash : ℕ → Bool
is_slash unit = unit == slash

any_last : (name : List ℕ) (unit : ℕ) → list_any is_slash (name ++ unit ∷ []) ≡ list_any is_slash name || is_slash unit
any_last [] unit = by_case (is_slash unit) where
  by_case : (is : Bool) → (is || false) ≡ (false || is)
  by_case true = refl
  by_case false = refl
any_last (first ∷ rest) unit = ap (λ any. is_slash first || any) (any_last rest unit) ∙ by_case (is_slash first) where
  by_case : (is : Bool) → (is || (list_any is_slash rest || is_slash unit)) ≡ ((is || list_any is_slash rest) || is_slash unit)
  by_case true = refl
  by_case false = refl

kept : (first : ℕ) (rest : List ℕ) → list_any is_slash (first ∷ rest) ≡ true → package_of (first ∷ rest) ≡ first ∷ package_of rest
kept first rest some = ap (λ any. if any then first ∷ package_of rest else []) some

dropped : (first : ℕ) (rest : List ℕ) → list_any is_slash (first ∷ rest) ≡ false → package_of (first ∷ rest) ≡ []
dropped first rest none = ap (λ any. if any then first ∷ package_of rest else []) none

or_true : (one : Bool) → (one || true) ≡ true
or_true true = refl
or_true false = refl

or_false : (one : Bool) → (one || false) ≡ one
or_false true = refl
or_false false = refl

pub behind_slash : (name : List ℕ) (unit : ℕ) → is_slash unit ≡ true → package_of (name ++ unit ∷ []) ≡ name ++ unit ∷ []
behind_slash [] unit is = kept unit [] (ap (λ any. any || false) is)
behind_slash (first ∷ rest) unit is =
    kept first (rest ++ unit ∷ []) (any_last (first ∷ rest) unit ∙ ap (λ any. list_any is_slash (first ∷ rest) || any) is ∙ or_true (list_any is_slash (first ∷ rest)))
    ∙ ap (λ rest. first ∷ rest) (behind_slash rest unit is)

same_any : (first : ℕ) (rest : List ℕ) (unit : ℕ) → is_slash unit ≡ false → list_any is_slash (first ∷ rest ++ unit ∷ []) ≡ list_any is_slash (first ∷ rest)
same_any first rest unit is = any_last (first ∷ rest) unit ∙ ap (λ any. list_any is_slash (first ∷ rest) || any) is ∙ or_false (list_any is_slash (first ∷ rest))

by_any : (first : ℕ) (rest more : List ℕ) (any : Bool) → list_any is_slash (first ∷ rest) ≡ any → list_any is_slash (first ∷ more) ≡ any → package_of more ≡ package_of rest → package_of (first ∷ more) ≡ package_of (first ∷ rest)
by_any first rest more true some some_too same = kept first more some_too ∙ ap (λ rest. first ∷ rest) same ∙ sym (kept first rest some)
by_any first rest more false none none_too same = dropped first more none_too ∙ sym (dropped first rest none)

pub behind_other : (name : List ℕ) (unit : ℕ) → is_slash unit ≡ false → package_of (name ++ unit ∷ []) ≡ package_of name
behind_other [] unit is = dropped unit [] (ap (λ any. any || false) is)
behind_other (first ∷ rest) unit is = by_any first rest (rest ++ unit ∷ []) (list_any is_slash (first ∷ rest)) refl (same_any first rest unit is) (behind_other rest unit is)

-- one that has no number would have that of the next
pub none_after : (texts : List (List ℕ × List ℕ)) (text : List ℕ × List ℕ) → None ≡ number_of_pair texts text → length texts ≡ own_number texts text
none_after texts text none = go (nat_lt (own_number texts text) (length texts)) refl none
  where
    go : (test : Bool) → nat_lt (own_number texts text) (length texts) ≡ test → None ≡ cond test (Some (own_number texts text)) None
        → length texts ≡ own_number texts text
    go true is none = cc
    go false is none = let few = prefix_len-le-length (λ other. not (same_texts text other)) texts in grind (arith, nat_tests)

-- one unit more was read
pub read_slash : (name : List ℕ) (index end : ℕ) → index < length name → get_or name index 0 ≡ slash → end ≡ index + 1
    → (end ≤ index + 1) × (take end name ≡ package_of (take (index + 1) name))
read_slash name index end less is ends =
    let parted = take_more name index 0 less in
    (omega (arith, ends), ap (λ end. take end name) ends ∙ parted ∙ sym (ap package_of parted ∙ behind_slash (take index name) (get_or name index 0) (ap is_slash is)))

pub read_other : (name : List ℕ) (index end old : ℕ) → index < length name → (get_or name index 0 ≡ slash → ⊥) → end ≡ old → old ≤ index
    → take old name ≡ package_of (take index name) → (end ≤ index + 1) × (take end name ≡ package_of (take (index + 1) name))
read_other name index end old less is_not ends low known =
    (omega (arith, ends, low), ap (λ end. take end name) ends ∙ known ∙ sym (ap package_of (take_more name index 0 less) ∙ behind_other (take index name) (get_or name index 0) (ne_eqb (get_or name index 0) slash is_not)))

-- one item more was pushed
pub pushed : {X Y : Type 0} (f : X → Y) (old ranked all : List Y) (items : List X) (index : ℕ) (default : X) (item : Y) → index < length items
    → ranked ≡ old ++ map f (take index items) → item ≡ f (get_or items index default) → all ≡ ranked ++ item ∷ [] → all ≡ old ++ map f (take (index + 1) items)
pushed f old ranked all items index default item less known is pushes =
    let more : map f (take (index + 1) items) ≡ map f (take index items) ++ f (get_or items index default) ∷ [] = ap (map f) (take_more items index default less) ∙ map-append f (take index items) (get_or items index default ∷ []) in
    pushes ∙ ap₂ (λ ranked item. ranked ++ item ∷ []) known is ∙ append_assoc old (map f (take index items)) (f (get_or items index default) ∷ []) ∙ ap (λ more. old ++ more) (sym more)

-- the lists of one item more
pub flat_grows : {X Y : Type 0} (f : X → List Y) (items : List X) (index : ℕ) (default item : X) (before after : List Y) → index < length items → item ≡ get_or items index default
    → before ≡ flat_map f (take index items) → after ≡ before ++ f item → after ≡ flat_map f (take (index + 1) items)
flat_grows f items index default item before after less is known adds =
    adds ∙ ap₂ (λ before item. before ++ f item) known is
    ∙ sym (ap (flat_map f) (take_more items index default less) ∙ flat_map-append f (take index items) (get_or items index default ∷ []) ∙ ap (λ rest. flat_map f (take index items) ++ rest) (append-nil (f (get_or items index default))))

pub numbered_grows : {X Y : Type 0} (f : ℕ × X → List Y) (items : List X) (index : ℕ) (item : X) (before after : List Y) → index < length items → item ≡ get_or items index item
    → before ≡ flat_map f (enumerate_from 0 (take index items)) → after ≡ before ++ f (index, item) → after ≡ flat_map f (enumerate_from 0 (take (index + 1) items))
numbered_grows f items index item before after less is known adds =
    adds ∙ ap (λ before. before ++ f (index, item)) known ∙ sym (flat_more items index item less is f)

-- the same of a text alone
pub no_text : (texts : List (List ℕ)) (text : List ℕ) → None ≡ number_of texts text → length texts ≡ kind_number texts text
no_text texts text none = go (nat_lt (kind_number texts text) (length texts)) refl none
  where
    go : (test : Bool) → nat_lt (kind_number texts text) (length texts) ≡ test → None ≡ cond test (Some (kind_number texts text)) None
        → length texts ≡ kind_number texts text
    go true is none = cc
    go false is none = let few = prefix_len-le-length (λ other. not (same_text text other)) texts in grind (arith, nat_tests)
