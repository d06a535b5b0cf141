-- The numbers of texts that were entered one after the other.
use Rattle.std.proofs.Common.{◌≡◌, ◌≢◌, ◌∙◌, ap, refl, sym, arith, true≢false, ℕ, ◌+◌, ◌<◌, ◌≤◌, Bool, true, false, cond, eqb, ltb, ◌||◌, not, List, [], ◌∷◌, ◌++◌, length, get_or, take, Some, None, inl, inr}
use Rattle.std.specs.Prelude.{slice_get}
use Rattle.std.specs.Cmp.Lexicographic.{bytes_decides}
use Rattle.std.specs.List.{flat_map, list_any, position_or_len}
use Rattle.std.proofs.Math.Bool.{or-false, or-true, or_assoc}
use Rattle.std.proofs.Math.ListN.{get_or-append}
use Rattle.std.proofs.Math.Seq.{get_or-append_seam}
use Rattle.std.proofs.lemmas.Bool.{cases_lt, ltb-true, ne_eqb}
use Rattle.std.proofs.lemmas.Bool.Decides.{nat_tests}
use Rattle.std.proofs.lemmas.Grind.{flat_map-append}
use Rattle.std.proofs.lemmas.List.{append-nil, length-append, take_more}
use Rattle.std.proofs.lemmas.List.Folds.{list_any-append, position_or_len_push, prefix_len-append}
use Rattle.std.proofs.lemmas.List.Quantifiers.{position-Some}
use Rattle.std.proofs.lemmas.Option.{get_or_from_slice_get, slice_get-get_or, slice_get_within}
use Rattle.cb_kinds.specs.Basics.{kind_number}
use Rattle.cb_kinds.specs.Texts.{EachOnce, entered, entered_all, firsts, number_of, same_text}
use Rattle.cb_kinds.proofs.EnteredTexts.{entered_append, entered_new, new_to}

-- to enter what belongs to the items of two lists is to enter that of one, and then that of the other
pub entered_all_parts : {A : Type 0} (part : A → List (List ℕ)) (texts : List (List ℕ)) (one other : List A)
    → entered_all texts (flat_map part (one ++ other)) ≡ entered_all (entered_all texts (flat_map part one)) (flat_map part other)
entered_all_parts part texts one other = ap (entered_all texts) (flat_map-append part one other) ∙ entered_append texts (flat_map part one) (flat_map part other)

-- that of one item, and then that of the others
pub entered_all_next : {A : Type 0} (part : A → List (List ℕ)) (texts : List (List ℕ)) (item : A) (items : List A)
    → entered_all texts (flat_map part (item ∷ items)) ≡ entered_all (entered_all texts (part item)) (flat_map part items)
entered_all_next part texts item items = entered_append texts (part item) (flat_map part items)

-- that of the items up to a place, and then that of the next
pub entered_all_more : {A : Type 0} (part : A → List (List ℕ)) (texts : List (List ℕ)) (items : List A) (place : ℕ) (other : A) → place < length items
    → entered_all texts (flat_map part (take (place + 1) items)) ≡ entered_all (entered_all texts (flat_map part (take place items))) (part (get_or items place other))
entered_all_more part texts items place other within =
    ap (λ items. entered_all texts (flat_map part items)) (take_more items place other within)
    ∙ entered_all_parts part texts (take place items) (get_or items place other ∷ [])
    ∙ ap (entered_all (entered_all texts (flat_map part (take place items)))) (append-nil (part (get_or items place other)))

-- a text is among those that were there, or those that were entered
among_one : (texts : List (List ℕ)) (one text : List ℕ) → list_any (same_text text) (entered texts one) ≡ (list_any (same_text text) texts || same_text text one)
among_one texts one text = go (list_any (same_text one) texts) refl
  where
    either : (test : Bool) → same_text text one ≡ test → list_any (same_text one) texts ≡ true → list_any (same_text text) texts ≡ (list_any (same_text text) texts || test)
    either true same there =
        let is : list_any (same_text text) texts ≡ true = ap (λ text. list_any (same_text text) texts) ((bytes_decides text one).0 same) ∙ there in
        is ∙ sym (ap (λ there. there || true) is)
    either false same there = sym (or-false (list_any (same_text text) texts))

    go : (test : Bool) → list_any (same_text one) texts ≡ test → list_any (same_text text) (cond test texts (texts ++ one ∷ [])) ≡ (list_any (same_text text) texts || same_text text one)
    go true there = either (same_text text one) refl there
    go false there = list_any-append (same_text text) texts (one ∷ []) ∙ ap (λ test. list_any (same_text text) texts || test) (or-false (same_text text one))

pub among_all : (texts more : List (List ℕ)) (text : List ℕ) → list_any (same_text text) (entered_all texts more) ≡ (list_any (same_text text) texts || list_any (same_text text) more)
among_all texts [] text = sym (or-false (list_any (same_text text) texts))
among_all texts (one ∷ more) text =
    among_all (entered texts one) more text
    ∙ ap (λ there. there || list_any (same_text text) more) (among_one texts one text)
    ∙ or_assoc (list_any (same_text text) texts) (same_text text one) (list_any (same_text text) more)

-- so it is there once it was entered
pub among_last : (texts : List (List ℕ)) (text : List ℕ) → list_any (same_text text) (entered texts text) ≡ true
among_last texts text = among_one texts text text ∙ ap (λ test. list_any (same_text text) texts || test) ((bytes_decides text text).1 refl) ∙ or-true (list_any (same_text text) texts)

-- a text that is there has a place, and one that isn't would have the next
place_within : (texts : List (List ℕ)) (text : List ℕ) → list_any (same_text text) texts ≡ true → position_or_len (same_text text) texts < length texts
place_within [] text there = absurd (true≢false (sym there))
place_within (first ∷ texts) text there = go (same_text text first) there (place_within texts text)
  where
    go : (test : Bool) → (test || list_any (same_text text) texts) ≡ true → (list_any (same_text text) texts ≡ true → position_or_len (same_text text) texts < length texts)
        → cond (not test) (1 + position_or_len (same_text text) texts) 0 < length (first ∷ texts)
    go true there next = omega arith
    go false there next = omega (arith, next there)

place_past : (texts : List (List ℕ)) (text : List ℕ) → list_any (same_text text) texts ≡ false → position_or_len (same_text text) texts ≡ length texts
place_past [] text absent = refl
place_past (first ∷ texts) text absent = go (same_text text first) absent (place_past texts text)
  where
    go : (test : Bool) → (test || list_any (same_text text) texts) ≡ false → (list_any (same_text text) texts ≡ false → position_or_len (same_text text) texts ≡ length texts)
        → cond (not test) (1 + position_or_len (same_text text) texts) 0 ≡ length (first ∷ texts)
    go true absent next = absurd (true≢false absent)
    go false absent next = omega (arith, next absent)

-- a number is a place that is there
record IsPlace (texts : List (List ℕ)) (text : List ℕ) (number : ℕ) : Type 0 where
  pub is : position_or_len (same_text text) texts ≡ number
  pub within : number < length texts

place_of : (texts : List (List ℕ)) (text : List ℕ) (number : ℕ) → number_of texts text ≡ Some number → IsPlace texts text number
place_of texts text number numbered = go (ltb (position_or_len (same_text text) texts) (length texts)) refl numbered
  where
    go : (test : Bool) → ltb (position_or_len (same_text text) texts) (length texts) ≡ test → cond test (Some (position_or_len (same_text text) texts)) None ≡ Some number → IsPlace texts text number
    go true told some =
        let is : position_or_len (same_text text) texts ≡ number = cc in
        record { is = is; within = omega (arith, ltb-true _ _ told) }
    go false told some = absurd cc

number_at : (texts : List (List ℕ)) (text : List ℕ) (number : ℕ) → IsPlace texts text number → number_of texts text ≡ Some number
number_at texts text number place = go (ltb (position_or_len (same_text text) texts) (length texts)) refl
  where
    go : (test : Bool) → ltb (position_or_len (same_text text) texts) (length texts) ≡ test → cond test (Some (position_or_len (same_text text) texts)) None ≡ Some number
    go true told = ap Some place.is
    go false told = let is = place.is in let within = place.within in grind (arith, nat_tests)

-- a text that is there has a number, which is what its kind has
pub number_among : (texts : List (List ℕ)) (text : List ℕ) → list_any (same_text text) texts ≡ true → number_of texts text ≡ Some (kind_number texts text)
number_among texts text there = number_at texts text (kind_number texts text) (record { is = refl; within = place_within texts text there })

pub kind_number_of : (texts : List (List ℕ)) (text : List ℕ) (number : ℕ) → number_of texts text ≡ Some number → kind_number texts text ≡ number
kind_number_of texts text number numbered = (place_of texts text number numbered).is

-- the text of a number is that which has it
pub text_at : (texts : List (List ℕ)) (text : List ℕ) (number : ℕ) → number_of texts text ≡ Some number → slice_get texts number ≡ Some text
text_at texts text number numbered =
    let found = position-Some (same_text text) texts number [] numbered in
    slice_get-get_or texts number [] found.0 ∙ ap Some (sym ((bytes_decides text (get_or texts number [])).0 found.1))

-- so a text that has a number is there
pub among_number : (texts : List (List ℕ)) (text : List ℕ) (number : ℕ) → number_of texts text ≡ Some number → list_any (same_text text) texts ≡ true
among_number texts text number numbered = go (list_any (same_text text) texts) refl
  where
    place : IsPlace texts text number
    place = place_of texts text number numbered

    go : (test : Bool) → list_any (same_text text) texts ≡ test → test ≡ true
    go true told = refl
    go false told = absurd (omega (arith, place_past texts text told, place.is, place.within))

-- numbers and texts stay where more is entered
place_front : (texts more : List (List ℕ)) (text : List ℕ) (number : ℕ) → IsPlace texts text number → IsPlace (texts ++ more) text number
place_front texts more text number place =
    let before : position_or_len (same_text text) texts ≢ length texts = λ is. omega (arith, place.is, place.within, is) in
    record {
      is =
          prefix_len-append (λ other. not (same_text text other)) texts more
          ∙ ap (λ test. cond test (length texts + position_or_len (same_text text) more) (position_or_len (same_text text) texts)) (ne_eqb _ _ before)
          ∙ place.is;
      within = omega (arith, place.within, length-append texts more);
    }

pub number_stays : (texts more : List (List ℕ)) (text : List ℕ) (number : ℕ) → number_of texts text ≡ Some number → number_of (entered_all texts more) text ≡ Some number
number_stays texts more text number numbered =
    ap (λ texts. number_of texts text) (entered_new texts more)
    ∙ number_at (texts ++ new_to texts (firsts more)) text number (place_front texts (new_to texts (firsts more)) text number (place_of texts text number numbered))

pub kind_number_stays : (texts more : List (List ℕ)) (text : List ℕ) → list_any (same_text text) texts ≡ true → kind_number (entered_all texts more) text ≡ kind_number texts text
kind_number_stays texts more text there = kind_number_of (entered_all texts more) text (kind_number texts text) (number_stays texts more text (kind_number texts text) (number_among texts text there))

text_front : (texts more : List (List ℕ)) (text : List ℕ) (number : ℕ) → slice_get texts number ≡ Some text → slice_get (texts ++ more) number ≡ Some text
text_front texts more text number here =
    let within : number < length texts = slice_get_within texts number text here in
    slice_get-get_or (texts ++ more) number [] (omega (arith, within, length-append texts more))
    ∙ ap Some (get_or-append texts more [] number within ∙ get_or_from_slice_get texts number text [] here)

pub text_stays : (texts more : List (List ℕ)) (text : List ℕ) (number : ℕ) → slice_get texts number ≡ Some text → slice_get (entered_all texts more) number ≡ Some text
text_stays texts more text number here =
    ap (λ texts. slice_get texts number) (entered_new texts more) ∙ text_front texts (new_to texts (firsts more)) text number here

-- each text stands once
pub once_none : EachOnce []
once_none = record { own = λ number text here. absurd cc }

place_last : (texts : List (List ℕ)) (one : List ℕ) → list_any (same_text one) texts ≡ false → IsPlace (texts ++ one ∷ []) one (length texts)
place_last texts one absent = record {
  is =
      position_or_len_push (same_text one) texts one
      ∙ (λ i. cond (eqb (place_past texts one absent i) (length texts)) (length texts + cond ((bytes_decides one one).1 refl i) 0 1) (place_past texts one absent i))
      ∙ either (eqb (length texts) (length texts));
  within = omega (arith, length-append texts (one ∷ []));
}
  where
    either : (test : Bool) → cond test (length texts + 0) (length texts) ≡ length texts
    either true = omega arith
    either false = refl

once_last : (texts : List (List ℕ)) (one : List ℕ) → EachOnce texts → list_any (same_text one) texts ≡ false → EachOnce (texts ++ one ∷ [])
once_last texts one once absent = record { own = λ number text here. elim (cases_lt number (length texts)) [ inl within ↦ before number text here within | inr past ↦ at_end number text here past ] }
  where
    before : (number : ℕ) (text : List ℕ) → slice_get (texts ++ one ∷ []) number ≡ Some text → number < length texts → number_of (texts ++ one ∷ []) text ≡ Some number
    before number text here within =
        let read : get_or texts number [] ≡ text = sym (get_or-append texts (one ∷ []) [] number within) ∙ get_or_from_slice_get (texts ++ one ∷ []) number text [] here in
        let own : number_of texts text ≡ Some number = once.own number text (slice_get-get_or texts number [] within ∙ ap Some read) in
        number_at (texts ++ one ∷ []) text number (place_front texts (one ∷ []) text number (place_of texts text number own))

    at_end : (number : ℕ) (text : List ℕ) → slice_get (texts ++ one ∷ []) number ≡ Some text → length texts ≤ number → number_of (texts ++ one ∷ []) text ≡ Some number
    at_end number text here past =
        let within : number < length (texts ++ one ∷ []) = slice_get_within (texts ++ one ∷ []) number text here in
        let last : length texts ≡ number = omega (arith, within, length-append texts (one ∷ [])) in
        let read : one ≡ text = sym (get_or-append_seam texts one [] []) ∙ ap (λ place. get_or (texts ++ one ∷ []) place []) last ∙ get_or_from_slice_get (texts ++ one ∷ []) number text [] here in
        ap (number_of (texts ++ one ∷ [])) (sym read) ∙ number_at (texts ++ one ∷ []) one (length texts) (place_last texts one absent) ∙ ap Some last

once_one : (texts : List (List ℕ)) (one : List ℕ) → EachOnce texts → EachOnce (entered texts one)
once_one texts one once = go (list_any (same_text one) texts) refl
  where
    go : (test : Bool) → list_any (same_text one) texts ≡ test → EachOnce (cond test texts (texts ++ one ∷ []))
    go true there = once
    go false absent = once_last texts one once absent

pub once_all : (texts more : List (List ℕ)) → EachOnce texts → EachOnce (entered_all texts more)
once_all texts [] once = once
once_all texts (one ∷ more) once = once_all (entered texts one) more (once_one texts one once)

-- so it is for texts that were entered where there were none
pub number_is_place : (texts : List (List ℕ)) (number : ℕ) (text : List ℕ) → slice_get (entered_all [] texts) number ≡ Some text → number_of (entered_all [] texts) text ≡ Some number
number_is_place texts number text here = (once_all [] texts once_none).own number text here
