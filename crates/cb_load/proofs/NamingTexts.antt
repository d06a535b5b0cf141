-- Where the names in a descriptor stand.
use Rattle.std.proofs.Common.{◌≡◌, ◌∙◌, ap, refl, sym, arith, true≢false, append_assoc, append-nil, ℕ, zero, suc, ◌+◌, ◌<◌, ◌≤◌, ◌==◌, Bool, true, false, cond, ◌||◌, not, List, [], ◌∷◌, ◌++◌, length, take, drop, Option, Some, None, MatchOption, Bor}
use Rattle.std.specs.List.{list_any, prefix_len}
use Rattle.std.proofs.lemmas.Bool.{eqb-true}
use Rattle.cb_load.specs.Names.{letter_class, name_behind, names_in, semicolon}

pub none_before : (unit : ℕ) (text : List ℕ) → length text ≤ prefix_len (λ other. not (other == unit)) text → list_any (λ other. other == unit) text ≡ false
none_before unit [] long = refl
none_before unit (other ∷ text) long = go (other == unit) long (none_before unit text)
  where
    go : (test : Bool) → length (other ∷ text) ≤ cond (not test) (1 + prefix_len (λ other. not (other == unit)) text) 0
        → (length text ≤ prefix_len (λ other. not (other == unit)) text → list_any (λ other. other == unit) text ≡ false)
        → (test || list_any (λ other. other == unit) text) ≡ false
    go true long rest = absurd (omega arith)
    go false long rest = rest (omega arith)

pub record IsSplit (unit : ℕ) (text : List ℕ) (place : ℕ) : Type 0 where
  pub before : list_any (λ other. other == unit) (take place text) ≡ false
  pub whole : text ≡ take place text ++ unit ∷ drop (place + 1) text

pub split : (unit : ℕ) (text : List ℕ) (place : ℕ) → place ≡ prefix_len (λ other. not (other == unit)) text → place < length text → IsSplit unit text place
split unit [] place is short = absurd (omega arith)
split unit (other ∷ text) zero is short = go (other == unit) refl is
  where
    go : (test : Bool) → (other == unit) ≡ test → 0 ≡ cond (not test) (1 + prefix_len (λ other. not (other == unit)) text) 0 → IsSplit unit (other ∷ text) zero
    go true told is = record { before = refl; whole = ap (λ other. other ∷ text) (eqb-true other unit told) }
    go false told is = absurd (omega arith)
split unit (other ∷ text) (suc place) is short = go (other == unit) refl is (split unit text place)
  where
    go : (test : Bool) → (other == unit) ≡ test → suc place ≡ cond (not test) (1 + prefix_len (λ other. not (other == unit)) text) 0
        → (place ≡ prefix_len (λ other. not (other == unit)) text → place < length text → IsSplit unit text place) → IsSplit unit (other ∷ text) (suc place)
    go true told is next = absurd (omega arith)
    go false told is next =
        let rest : IsSplit unit text place = next (omega arith) (omega arith) in
        let one : suc place + 1 ≡ suc (place + 1) = omega arith in
        record {
          before = ap (λ test. test || list_any (λ other. other == unit) (take place text)) told ∙ rest.before;
          whole = ap (λ text. other ∷ text) rest.whole ∙ ap (λ behind. other ∷ (take place text ++ unit ∷ drop behind (other ∷ text))) (sym one);
        }

-- without an L there are no names
pub no_names : (text : List ℕ) → list_any (λ other. other == letter_class) text ≡ false → names_in text ≡ []
no_names [] no-letter = refl
no_names (unit ∷ text) no-letter = go (unit == letter_class) no-letter (no_names text)
  where
    go : (test : Bool) → (test || list_any (λ other. other == letter_class) text) ≡ false → (list_any (λ other. other == letter_class) text ≡ false → names_in text ≡ [])
        → cond test (name_behind [] text) (names_in text) ≡ []
    go true is next = absurd (true≢false is)
    go false is next = next is

-- up to the first L there are none
first_letter : (front text : List ℕ) → list_any (λ other. other == letter_class) front ≡ false → names_in (front ++ letter_class ∷ text) ≡ name_behind [] text
first_letter [] text no-letter = refl
first_letter (unit ∷ front) text no-letter = go (unit == letter_class) no-letter (first_letter front text)
  where
    go : (test : Bool) → (test || list_any (λ other. other == letter_class) front) ≡ false
        → (list_any (λ other. other == letter_class) front ≡ false → names_in (front ++ letter_class ∷ text) ≡ name_behind [] text)
        → cond test (name_behind [] (front ++ letter_class ∷ text)) (names_in (front ++ letter_class ∷ text)) ≡ name_behind [] text
    go true is next = absurd (true≢false is)
    go false is next = next is

-- a name that no semicolon ends is none
no_end : (name text : List ℕ) → list_any (λ other. other == semicolon) text ≡ false → name_behind name text ≡ []
no_end name [] no-end = refl
no_end name (unit ∷ text) no-end = go (unit == semicolon) no-end (no_end (name ++ unit ∷ []) text)
  where
    go : (test : Bool) → (test || list_any (λ other. other == semicolon) text) ≡ false
        → (list_any (λ other. other == semicolon) text ≡ false → name_behind (name ++ unit ∷ []) text ≡ [])
        → cond test (name ∷ names_in text) (name_behind (name ++ unit ∷ []) text) ≡ []
    go true is next = absurd (true≢false is)
    go false is next = next is

-- a name goes up to the first semicolon
to_end : (name front text : List ℕ) → list_any (λ other. other == semicolon) front ≡ false → name_behind name (front ++ semicolon ∷ text) ≡ (name ++ front) ∷ names_in text
to_end name [] text no-end = ap (λ name. name ∷ names_in text) (sym (append-nil name))
to_end name (unit ∷ front) text no-end = go (unit == semicolon) no-end (to_end (name ++ unit ∷ []) front text)
  where
    go : (test : Bool) → (test || list_any (λ other. other == semicolon) front) ≡ false
        → (list_any (λ other. other == semicolon) front ≡ false → name_behind (name ++ unit ∷ []) (front ++ semicolon ∷ text) ≡ ((name ++ unit ∷ []) ++ front) ∷ names_in text)
        → cond test (name ∷ names_in (front ++ semicolon ∷ text)) (name_behind (name ++ unit ∷ []) (front ++ semicolon ∷ text)) ≡ (name ++ unit ∷ front) ∷ names_in text
    go true is next = absurd (true≢false is)
    go false is next = next is ∙ ap (λ name. name ∷ names_in text) (append_assoc name (unit ∷ []) front)

-- behind an L, what stands before the next semicolon is the first name
pub next_name : (text front behind : List ℕ) (result : Option (Bor (List ℕ) × Bor (List ℕ)))
    → list_any (λ other. other == letter_class) front ≡ false → text ≡ front ++ letter_class ∷ behind
    → MatchOption result (list_any (λ other. other == semicolon) behind ≡ false)
    (λ found. (list_any (λ other. other == semicolon) found.0.now ≡ false) × (behind ≡ found.0.now ++ semicolon ∷ found.1.now))
    → MatchOption result (names_in text ≡ []) (λ found. names_in text ≡ found.0.now ∷ names_in found.1.now)
next_name text front behind None free is none =
    ap names_in is ∙ first_letter front behind free ∙ no_end [] behind none
next_name text front behind (Some found) free is parts =
    ap names_in is ∙ first_letter front behind free ∙ ap (name_behind []) parts.1 ∙ to_end [] found.0.now found.1.now parts.0
