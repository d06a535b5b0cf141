-- Texts by the keys that hold them.
use Rattle.std.proofs.Common.{◌≡◌, ◌∙◌, ap, ap₂, refl, sym, arith, ℕ, ◌+◌, Bool, true, false, cond, ltb, not, ◌||◌, List, [], ◌∷◌, ◌++◌, length, map, Some, None}
use Rattle.std.specs.List.{list_any, position, position_or_len}
use Rattle.std.proofs.lemmas.List.{length-map, map-append}
use Rattle.std.proofs.lemmas.List.Sums.{prefix_len-le-length}
use Rattle.std.proofs.lemmas.Bool.Decides.{nat_tests}
use Rattle.indexmap.specs.IndexSet.{insert_key}
use Rattle.cb_kinds.specs.Texts.{entered, number_of, same_text}

-- what keys hold is found where they are
pub any_held : {A B : Type 0} (held : A → B) (test : B → Bool) (keys : List A) → list_any (λ key. test (held key)) keys ≡ list_any test (map held keys)
any_held held test [] = refl
any_held held test (key ∷ keys) = ap (λ rest. test (held key) || rest) (any_held held test keys)

place_held : {A B : Type 0} (held : A → B) (test : B → Bool) (keys : List A) → position_or_len (λ key. test (held key)) keys ≡ position_or_len test (map held keys)
place_held held test [] = refl
place_held held test (key ∷ keys) = ap (λ rest. cond (not (test (held key))) (1 + rest) 0) (place_held held test keys)

pub position_held : {A B : Type 0} (held : A → B) (test : B → Bool) (keys : List A) → position (λ key. test (held key)) keys ≡ position test (map held keys)
position_held held test keys = ap₂ (λ place many. cond (ltb place many) (Some place) None) (place_held held test keys) (sym (length-map keys held))

-- a key that goes in enters what it holds
pub inserted_held : {A : Type 0} (held : A → List ℕ) (key : A) (keys : List A)
    → map held (insert_key (λ one other. same_text (held one) (held other)) keys key) ≡ entered (map held keys) (held key)
inserted_held held key keys = go (list_any (λ other. same_text (held key) (held other)) keys) ∙ ap (λ test. cond test (map held keys) (map held keys ++ held key ∷ [])) (any_held held (same_text (held key)) keys)
  where
    go : (test : Bool) → map held (cond test keys (keys ++ key ∷ [])) ≡ cond test (map held keys) (map held keys ++ held key ∷ [])
    go true = refl
    go false = map-append held keys (key ∷ [])

-- a text that is there stays, and nothing else does
pub entered_there : (texts : List (List ℕ)) (text : List ℕ) → list_any (same_text text) texts ≡ true → entered texts text ≡ texts
entered_there texts text there = ap (λ test. cond test texts (texts ++ text ∷ [])) there

-- a text that has no number would have that of the next
pub none_after : (texts : List (List ℕ)) (text : List ℕ) → None ≡ number_of texts text → length texts ≡ position_or_len (same_text text) texts
none_after texts text none = go (ltb (position_or_len (same_text text) texts) (length texts)) refl none
  where
    go : (test : Bool) → ltb (position_or_len (same_text text) texts) (length texts) ≡ test → None ≡ cond test (Some (position_or_len (same_text text) texts)) None
        → length texts ≡ position_or_len (same_text text) texts
    go true is none = cc
    go false is none = let few = prefix_len-le-length (λ other. not (same_text text other)) texts in grind (arith, nat_tests)
