-- Texts that are entered one after the other are the first ones.
use Rattle.std.proofs.Common.{◌≡◌, ◌∙◌, ap, refl, sym, append_assoc, ℕ, Bool, true, false, cond, ◌&&◌, ◌||◌, not, List, [], ◌∷◌, ◌++◌, filter}
use Rattle.std.specs.List.{list_any}
use Rattle.std.specs.Cmp.Lexicographic.{bytes_decides}
use Rattle.std.proofs.lemmas.Cmp.{nat_list_eq_equiv}
use Rattle.std.proofs.lemmas.List.{append-nil}
use Rattle.std.proofs.lemmas.List.Folds.{list_any-append}
use Rattle.cb_kinds.specs.Texts.{entered, entered_all, firsts, same_text}

-- to enter the texts of two lists is to enter those of one, and then those of the other
pub entered_append : (texts one other : List (List ℕ)) → entered_all texts (one ++ other) ≡ entered_all (entered_all texts one) other
entered_append texts [] other = refl
entered_append texts (text ∷ one) other = entered_append (entered texts text) one other

-- whether a text is among others
abbrev pub has : List (List ℕ) → List ℕ → Bool
has texts text = list_any (same_text text) texts

-- what is the same as a text is there where that is
has_same : (texts : List (List ℕ)) (text later : List ℕ) → has texts text ≡ true → same_text text later ≡ true → has texts later ≡ true
has_same texts text later there same = ap (has texts) (sym ((bytes_decides text later).0 same)) ∙ there

-- two filters are one
filter_both : (p q r : List ℕ → Bool) → ((text : List ℕ) → (q text && p text) ≡ r text) → (texts : List (List ℕ)) → filter p (filter q texts) ≡ filter r texts
filter_both p q r same [] = refl
filter_both p q r same (text ∷ texts) = go (q text) (same text) (filter_both p q r same texts)
  where
    go : (test : Bool) → (test && p text) ≡ r text → filter p (filter q texts) ≡ filter r texts
        → filter p (cond test (text ∷ filter q texts) (filter q texts)) ≡ cond (r text) (text ∷ filter r texts) (filter r texts)
    go true is rest = λ i. cond (is i) (text ∷ rest i) (rest i)
    go false is rest = rest ∙ ap (λ test. cond test (text ∷ filter r texts) (filter r texts)) is

-- those that are not among others
abbrev pub new_to : List (List ℕ) → List (List ℕ) → List (List ℕ)
new_to texts more = filter (λ later. not (has texts later)) more

-- those that are not the same as one
abbrev apart_from : List ℕ → List (List ℕ) → List (List ℕ)
apart_from text more = filter (λ later. not (same_text text later)) more

-- a text that is there leaves out nothing more
new_old : (texts : List (List ℕ)) (text : List ℕ) → has texts text ≡ true → (more : List (List ℕ)) → new_to texts (apart_from text more) ≡ new_to texts more
new_old texts text is more = filter_both _ _ _ (λ later. go later (same_text text later) refl) more
  where
    go : (later : List ℕ) (test : Bool) → same_text text later ≡ test → (not test && not (has texts later)) ≡ not (has texts later)
    go later true told = ap not (sym (has_same texts text later is told))
    go later false told = refl

-- one that isn't leaves out those that are the same
new_more : (texts : List (List ℕ)) (text : List ℕ) (more : List (List ℕ)) → new_to texts (apart_from text more) ≡ new_to (texts ++ text ∷ []) more
new_more texts text more = filter_both _ _ _ told more
  where
    neither : (same there : Bool) → (not same && not there) ≡ not (there || (same || false))
    neither true true = refl
    neither true false = refl
    neither false true = refl
    neither false false = refl

    told : (later : List ℕ) → (not (same_text text later) && not (has texts later)) ≡ not (has (texts ++ text ∷ []) later)
    told later =
        ap (λ same. not same && not (has texts later)) (nat_list_eq_equiv.symm text later)
        ∙ neither (same_text later text) (has texts later) ∙ ap not (sym (list_any-append (same_text later) texts (text ∷ [])))

all : (texts : List (List ℕ)) → filter (λ text. true) texts ≡ texts
all [] = refl
all (text ∷ texts) = ap (λ rest. text ∷ rest) (all texts)

-- entering adds the first of the texts that aren't there
pub entered_new : (texts more : List (List ℕ)) → entered_all texts more ≡ texts ++ new_to texts (firsts more)
entered_new texts [] = sym (append-nil texts)
entered_new texts (text ∷ more) = go (has texts text) refl (entered_new texts more) (entered_new (texts ++ text ∷ []) more)
  where
    go : (test : Bool) → has texts text ≡ test → entered_all texts more ≡ texts ++ new_to texts (firsts more)
        → entered_all (texts ++ text ∷ []) more ≡ (texts ++ text ∷ []) ++ new_to (texts ++ text ∷ []) (firsts more)
        → entered_all (cond test texts (texts ++ text ∷ [])) more
        ≡ texts ++ cond (not test) (text ∷ new_to texts (apart_from text (firsts more))) (new_to texts (apart_from text (firsts more)))
    go true told old new = old ∙ ap (λ rest. texts ++ rest) (sym (new_old texts text told (firsts more)))
    go false told old new =
        new ∙ append_assoc texts (text ∷ []) (new_to (texts ++ text ∷ []) (firsts more))
        ∙ ap (λ rest. texts ++ (text ∷ rest)) (sym (new_more texts text (firsts more)))

-- the texts of a list that are entered are those that stand first
pub entered_firsts : (texts : List (List ℕ)) → entered_all [] texts ≡ firsts texts
entered_firsts texts = entered_new [] texts ∙ all (firsts texts)
