-- What is kept by the numbers of texts.
use Rattle.std.proofs.Common.{◌≡◌, ◌∙◌, ap, refl, sym, subst, arith, true≢false, ℕ, ◌+◌, ◌<◌, Bool, true, false, cond, ltb, ◌&&◌, not, nat_eq, List, [], ◌∷◌, ◌++◌, length, map, get_or, Some, None}
use Rattle.std.specs.Prelude.{position}
use Rattle.std.specs.Cmp.Lexicographic.{bytes_decides}
use Rattle.std.specs.List.{AllByRecursion, position_or_len}
use Rattle.std.proofs.Math.ListN.{get_or-append}
use Rattle.std.proofs.lemmas.Bool.{eq-eqb, ne_eqb}
use Rattle.std.proofs.lemmas.Bool.Decides.{nat_tests}
use Rattle.std.proofs.lemmas.List.{length-append, map-append}
use Rattle.std.proofs.lemmas.Option.{get_or_from_slice_get, slice_get-get_or, slice_get_within}
use Rattle.cb_kinds.specs.Numbers.{AreNumbered, IsNumber, IsPair, pair_of, text_of}
use Rattle.cb_kinds.specs.Texts.{EachOnce, entered, entered_all, firsts, number_of, number_of_pair, same_text, same_texts}
use Rattle.cb_kinds.proofs.EnteredTexts.{entered_new, new_to}
use Rattle.cb_kinds.proofs.NumberedTexts.{number_stays, once_all, text_at}
use Rattle.cb_kinds.proofs.TextKeys.{position_held}

-- where more texts are entered, numbers stay, and what they say
still_number : (texts more : List (List ℕ)) (number : ℕ) → IsNumber texts number → IsNumber (entered_all texts more) number
still_number texts more number is = subst (λ texts. number < length texts) (sym (entered_new texts more)) (omega (arith, is, length-append texts (new_to texts (firsts more))))

same_text_of : (texts more : List (List ℕ)) (number : ℕ) → IsNumber texts number → text_of (entered_all texts more) number ≡ text_of texts number
same_text_of texts more number is =
    ap (λ texts. get_or texts number []) (entered_new texts more) ∙ get_or-append texts (new_to texts (firsts more)) [] number is

still_pair : (texts more : List (List ℕ)) (pair : ℕ × ℕ) → IsPair texts pair → IsPair (entered_all texts more) pair
still_pair texts more pair is = (still_number texts more pair.0 is.0, still_number texts more pair.1 is.1)

same_pair_of : (texts more : List (List ℕ)) (pair : ℕ × ℕ) → IsPair texts pair → pair_of (entered_all texts more) pair ≡ pair_of texts pair
same_pair_of texts more pair is = λ i. (same_text_of texts more pair.0 is.0 i, same_text_of texts more pair.1 is.1 i)

-- so it is for a list of items that are read by them
module _ {A B : Type 0} (Is : List (List ℕ) → A → Type 0) (read : List (List ℕ) → A → B)
    (still : (texts more : List (List ℕ)) (item : A) → Is texts item → Is (entered_all texts more) item)
    (same : (texts more : List (List ℕ)) (item : A) → Is texts item → read (entered_all texts more) item ≡ read texts item) where
  all_still : (texts more : List (List ℕ)) (items : List A) → AllByRecursion (Is texts) items → AllByRecursion (Is (entered_all texts more)) items
  all_still texts more [] are = tt
  all_still texts more (item ∷ items) are = (still texts more item are.0, all_still texts more items are.1)

  numbered_still : (texts more : List (List ℕ)) (items : List A) → AreNumbered Is texts items → AreNumbered Is (entered_all texts more) items
  numbered_still texts more items numbered = record { once = once_all texts more numbered.once; are = all_still texts more items numbered.are }

  all_same : (texts more : List (List ℕ)) (items : List A) → AllByRecursion (Is texts) items → map (read (entered_all texts more)) items ≡ map (read texts) items
  all_same texts more [] are = refl
  all_same texts more (item ∷ items) are = λ i. same texts more item are.0 i ∷ all_same texts more items are.1 i

-- and for one item more
all_last : {A : Type 0} (P : A → Type 0) (items : List A) (item : A) → AllByRecursion P items → P item → AllByRecursion P (items ++ item ∷ [])
all_last P [] item are is = (is, tt)
all_last P (first ∷ items) item are is = (are.0, all_last P items item are.1 is)

numbered_last : {A : Type 0} (Is : List (List ℕ) → A → Type 0) (texts : List (List ℕ)) (items : List A) (item : A) → AreNumbered Is texts items → Is texts item
    → AreNumbered Is texts (items ++ item ∷ [])
numbered_last Is texts items item numbered is = record { once = numbered.once; are = all_last (Is texts) items item numbered.are is }

-- a number that a text has says it
is_number : (texts : List (List ℕ)) (text : List ℕ) (number : ℕ) → number_of texts text ≡ Some number → IsNumber texts number
is_number texts text number numbered = slice_get_within texts number text (text_at texts text number numbered)

says : (texts : List (List ℕ)) (text : List ℕ) (number : ℕ) → number_of texts text ≡ Some number → text_of texts number ≡ text
says texts text number numbered = get_or_from_slice_get texts number text [] (text_at texts text number numbered)

-- where texts stand once, those that are the same have the same number
number_own : (texts : List (List ℕ)) (number : ℕ) → EachOnce texts → IsNumber texts number → number_of texts (text_of texts number) ≡ Some number
number_own texts number once is = once.own number (text_of texts number) (slice_get-get_or texts number [] is)

same_number : (texts : List (List ℕ)) (text : List ℕ) (number other : ℕ) → EachOnce texts → number_of texts text ≡ Some number → IsNumber texts other
    → same_text text (text_of texts other) ≡ nat_eq number other
same_number texts text number other once numbered is = go (same_text text (text_of texts other)) refl
  where
    go : (test : Bool) → same_text text (text_of texts other) ≡ test → test ≡ nat_eq number other
    go true same =
        let both : Some number ≡ Some other = sym numbered ∙ ap (number_of texts) ((bytes_decides text (text_of texts other)).0 same) ∙ number_own texts other once is in
        let one : number ≡ other = cc in
        sym (eq-eqb number other one)
    go false same =
        let apart : number ≡ other → ⊥ = λ one. true≢false (sym ((bytes_decides text (text_of texts other)).1 (sym (says texts text number numbered) ∙ ap (text_of texts) one)) ∙ same) in
        sym (ne_eqb number other apart)

no_number : (texts : List (List ℕ)) (text : List ℕ) (other : ℕ) → EachOnce texts → number_of texts text ≡ None → IsNumber texts other → same_text text (text_of texts other) ≡ false
no_number texts text other once none is = go (same_text text (text_of texts other)) refl
  where
    go : (test : Bool) → same_text text (text_of texts other) ≡ test → test ≡ false
    go true same =
        let some : None ≡ Some other = sym none ∙ ap (number_of texts) ((bytes_decides text (text_of texts other)).0 same) ∙ number_own texts other once is in
        absurd cc
    go false same = refl

-- tests that agree find the same place
place_alike : {A : Type 0} (P : A → Type 0) (one other : A → Bool) → ((item : A) → P item → one item ≡ other item) → (items : List A) → AllByRecursion P items
    → position_or_len one items ≡ position_or_len other items
place_alike P one other alike [] are = refl
place_alike P one other alike (item ∷ items) are = λ i. cond (not (alike item are.0 i)) (1 + place_alike P one other alike items are.1 i) 0

position_read : {A B : Type 0} (P : A → Type 0) (read : A → B) (wanted : B → Bool) (test : A → Bool) → ((item : A) → P item → wanted (read item) ≡ test item)
    → (items : List A) → AllByRecursion P items → position wanted (map read items) ≡ position test items
position_read P read wanted test alike items are =
    sym (position_held read wanted items) ∙ ap (λ place. cond (ltb place (length items)) (Some place) None) (place_alike P (λ item. wanted (read item)) test alike items are)

-- and none where none passes
place_none : {A : Type 0} (items : List A) → position_or_len (λ (item : A). false) items ≡ length items
place_none [] = refl
place_none (item ∷ items) = omega (arith, place_none items)

position_none : {A : Type 0} (items : List A) → position (λ (item : A). false) items ≡ None
position_none items = ap (λ place. cond (ltb place (length items)) (Some place) None) (place_none items) ∙ go (ltb (length items) (length items)) refl
  where
    go : (test : Bool) → ltb (length items) (length items) ≡ test → cond test (Some (length items)) None ≡ None
    go true told = absurd (grind (arith, nat_tests))
    go false told = refl

-- the first of the texts
pub text_first : (texts : List (List ℕ)) (items : List ℕ) (text : List ℕ) (number : ℕ) → AreNumbered IsNumber texts items → Some number ≡ number_of texts text
    → position (nat_eq number) items ≡ number_of (map (text_of texts) items) text
text_first texts items text number numbered some =
    sym (position_read (IsNumber texts) (text_of texts) (same_text text) (nat_eq number) (λ other is. same_number texts text number other numbered.once (sym some) is) items numbered.are)

pub no_text : (texts : List (List ℕ)) (items : List ℕ) (text : List ℕ) → AreNumbered IsNumber texts items → None ≡ number_of texts text
    → None ≡ number_of (map (text_of texts) items) text
no_text texts items text numbered none =
    sym (position_read (IsNumber texts) (text_of texts) (same_text text) (λ other. false) (λ other is. no_number texts text other numbered.once (sym none) is) items numbered.are ∙ position_none items)

-- and of the pairs
pub pair_first : (texts : List (List ℕ)) (items : List (ℕ × ℕ)) (name descriptor : List ℕ) (one other : ℕ) → AreNumbered IsPair texts items
    → Some one ≡ number_of texts name → Some other ≡ number_of texts descriptor
    → position (λ pair. nat_eq one pair.0 && nat_eq other pair.1) items ≡ number_of_pair (map (pair_of texts) items) (name, descriptor)
pair_first texts items name descriptor one other numbered is also =
    sym (position_read (IsPair texts) (pair_of texts) (same_texts (name, descriptor)) (λ pair. nat_eq one pair.0 && nat_eq other pair.1)
    (λ pair are i. same_number texts name one pair.0 numbered.once (sym is) are.0 i && same_number texts descriptor other pair.1 numbered.once (sym also) are.1 i) items numbered.are)

pub no_name : (texts : List (List ℕ)) (items : List (ℕ × ℕ)) (name descriptor : List ℕ) → AreNumbered IsPair texts items → None ≡ number_of texts name
    → None ≡ number_of_pair (map (pair_of texts) items) (name, descriptor)
no_name texts items name descriptor numbered none =
    sym (position_read (IsPair texts) (pair_of texts) (same_texts (name, descriptor)) (λ pair. false)
    (λ pair are i. no_number texts name pair.0 numbered.once (sym none) are.0 i && same_text descriptor (text_of texts pair.1)) items numbered.are ∙ position_none items)

and_false : (test : Bool) → (test && false) ≡ false
and_false true = refl
and_false false = refl

pub no_descriptor : (texts : List (List ℕ)) (items : List (ℕ × ℕ)) (name descriptor : List ℕ) → AreNumbered IsPair texts items → None ≡ number_of texts descriptor
    → None ≡ number_of_pair (map (pair_of texts) items) (name, descriptor)
no_descriptor texts items name descriptor numbered none =
    sym (position_read (IsPair texts) (pair_of texts) (same_texts (name, descriptor)) (λ pair. false)
    (λ pair are. ap (λ test. same_text name (text_of texts pair.0) && test) (no_number texts descriptor pair.1 numbered.once (sym none) are.1) ∙ and_false (same_text name (text_of texts pair.0)))
    items numbered.are ∙ position_none items)

-- what is kept stays where texts are entered
pub texts_still : (texts more after : List (List ℕ)) (items : List ℕ) → after ≡ entered_all texts more → AreNumbered IsNumber texts items
    → AreNumbered IsNumber after items × (map (text_of after) items ≡ map (text_of texts) items)
texts_still texts more after items is numbered =
    subst (λ after. AreNumbered IsNumber after items × (map (text_of after) items ≡ map (text_of texts) items)) (sym is)
    (numbered_still IsNumber text_of still_number same_text_of texts more items numbered, all_same IsNumber text_of still_number same_text_of texts more items numbered.are)

pub pairs_still : (texts more after : List (List ℕ)) (items : List (ℕ × ℕ)) → after ≡ entered_all texts more → AreNumbered IsPair texts items
    → AreNumbered IsPair after items × (map (pair_of after) items ≡ map (pair_of texts) items)
pairs_still texts more after items is numbered =
    subst (λ after. AreNumbered IsPair after items × (map (pair_of after) items ≡ map (pair_of texts) items)) (sym is)
    (numbered_still IsPair pair_of still_pair same_pair_of texts more items numbered, all_same IsPair pair_of still_pair same_pair_of texts more items numbered.are)

-- a text and a pair that are added
pub text_last : (texts : List (List ℕ)) (items : List ℕ) (text : List ℕ) (number : ℕ) → AreNumbered IsNumber texts items → number_of texts text ≡ Some number
    → AreNumbered IsNumber texts (items ++ number ∷ []) × (map (text_of texts) (items ++ number ∷ []) ≡ map (text_of texts) items ++ text ∷ [])
text_last texts items text number numbered is = (
  numbered_last IsNumber texts items number numbered (is_number texts text number is),
  map-append (text_of texts) items (number ∷ []) ∙ ap (λ text. map (text_of texts) items ++ text ∷ []) (says texts text number is),
)

-- the name's number stays where the descriptor is entered
pub name_still : (texts after : List (List ℕ)) (name descriptor : List ℕ) (number : ℕ) → after ≡ entered texts descriptor → number_of texts name ≡ Some number → number_of after name ≡ Some number
name_still texts after name descriptor number is numbered = ap (λ texts. number_of texts name) is ∙ number_stays texts (descriptor ∷ []) name number numbered

pub pair_last : (texts : List (List ℕ)) (items : List (ℕ × ℕ)) (name descriptor : List ℕ) (pair : ℕ × ℕ) → AreNumbered IsPair texts items
    → number_of texts name ≡ Some pair.0 → number_of texts descriptor ≡ Some pair.1
    → AreNumbered IsPair texts (items ++ pair ∷ []) × (map (pair_of texts) (items ++ pair ∷ []) ≡ map (pair_of texts) items ++ (name, descriptor) ∷ [])
pair_last texts items name descriptor pair numbered is also = (
  numbered_last IsPair texts items pair numbered (is_number texts name pair.0 is, is_number texts descriptor pair.1 also),
  map-append (pair_of texts) items (pair ∷ []) ∙ (λ i. map (pair_of texts) items ++ (says texts name pair.0 is i, says texts descriptor pair.1 also i) ∷ []),
)
