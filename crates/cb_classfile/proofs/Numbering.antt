-- Numbering the texts of a pool, so that equal texts have equal numbers.
use Rattle.std.proofs.Common.{◌≡◌, ◌⊎◌, inl, inr, ◌↔◌, ℕ, zero, suc, ◌+◌, ◌<◌, ◌≤◌, Bool, true, false, cond, List, [], ◌∷◌, ◌++◌, Option, Some, None, MatchOption, unwrap_or, length, get_or, refl, sym, ◌∙◌, ap, arith, length-append}
use Rattle.std.proofs.lemmas.Bool.{cases_lt}
use Rattle.std.proofs.lemmas.List.{get_or_past}
use Rattle.std.proofs.lemmas.Option.{slice_get_past}
use Rattle.std.proofs.lemmas.Slice.Eq.{bytes_eq-Decides}
use Rattle.std.proofs.Math.ListN.{get_or-append}
use Rattle.std.proofs.Math.Seq.{get_or-append_seam}
use Rattle.std.specs.Str.{bytes_eq}
use Rattle.cb_text.specs.declared.constant.Constant.{Constant}
use Rattle.cb_classfile.specs.Pool.{text_at}

-- the number of a text that has one is that of an equal text
pub number_of_equal : (number_of : List ℕ → Option ℕ) (text other : List ℕ) (number : ℕ) → Some number ≡ number_of text → number_of other ≡ cond (bytes_eq text other) (Some number) (number_of other)
number_of_equal number_of text other number is = go (bytes_eq text other) refl where
  go : (same : Bool) → bytes_eq text other ≡ same → number_of other ≡ cond same (Some number) (number_of other)
  go true same = ap number_of (sym ((bytes_eq-Decides text other).0 same)) ∙ sym is
  go false same = refl

-- the numbers of the first indices, where a text has the number that number_of gives
pub record Numbered (pool : List Constant) (count : ℕ) (numbers : List ℕ) (number_of : List ℕ → Option ℕ) : Type 0 where
  pub counted : length numbers ≡ count
  pub each : (index : ℕ) → index < count → MatchOption (text_at pool index) (get_or numbers index 0 ≡ 0) (λ text. number_of text ≡ Some (get_or numbers index 0))
  -- a number is an index of the text
  pub named : (text : List ℕ) (number : ℕ) → number_of text ≡ Some number → text_at pool number ≡ Some text

pub numbered_none : (pool : List Constant) (number_of : List ℕ → Option ℕ) → ((text : List ℕ) → number_of text ≡ None) → Numbered pool 0 [] number_of
numbered_none pool number_of empty = record {
  counted = refl;
  each = λ index below. absurd (omega arith);
  named = λ text number is. let no_number = empty text in cc;
}

-- what is said of an index at the number that it has after one more
module _ (pool : List Constant) (count : ℕ) (numbers : List ℕ) (number : ℕ) (long : length numbers ≡ count) where
  old_number : (index : ℕ) → index < count → get_or (numbers ++ number ∷ []) index 0 ≡ get_or numbers index 0
  old_number index below = get_or-append numbers (number ∷ []) 0 index (omega arith)

  new_number : (index : ℕ) → count ≤ index → index < count + 1 → get_or (numbers ++ number ∷ []) index 0 ≡ number
  new_number index low high =
      let last : index ≡ length numbers = omega arith in
      ap (λ place. get_or (numbers ++ number ∷ []) place 0) last ∙ get_or-append_seam numbers number [] 0

-- an index that names no text has the number 0
pub numbered_no_text : (pool : List Constant) (count : ℕ) (numbers : List ℕ) (number_of : List ℕ → Option ℕ) → Numbered pool count numbers number_of → text_at pool count ≡ None → Numbered pool (count + 1) (numbers ++ 0 ∷ []) number_of
numbered_no_text pool count numbers number_of numbered is = record {
  counted = omega (arith, numbered.counted, length-append numbers (0 ∷ []));
  each = λ index below. each index below (cases_lt index count);
  named = numbered.named;
} where
  each : (index : ℕ) → index < count + 1 → (index < count) ⊎ (count ≤ index) → MatchOption (text_at pool index) (get_or (numbers ++ 0 ∷ []) index 0 ≡ 0) (λ text. number_of text ≡ Some (get_or (numbers ++ 0 ∷ []) index 0))
  each index below (inl before) = rw (old_number pool count numbers 0 numbered.counted index before) (numbered.each index before)
  each index below (inr from) =
      let here : index ≡ count = omega arith in
      rw (here, is) (ap (λ place. get_or (numbers ++ 0 ∷ []) place 0) (sym here) ∙ new_number pool count numbers 0 numbered.counted index from below)

-- a text has the number that it had, or else its index
pub record Gets (number_of later : List ℕ → Option ℕ) (text : List ℕ) (index number : ℕ) : Type 0 where
  pub number_is : number ≡ unwrap_or (number_of text) index
  pub others : (other : List ℕ) → later other ≡ cond (bytes_eq text other) (Some number) (number_of other)

pub numbered_text : (pool : List Constant) (count : ℕ) (numbers : List ℕ) (number_of later : List ℕ → Option ℕ) (text : List ℕ) (number : ℕ) → Numbered pool count numbers number_of → text_at pool count ≡ Some text → Gets number_of later text count number → Numbered pool (count + 1) (numbers ++ number ∷ []) later
numbered_text pool count numbers number_of later text number numbered is gets = record {
  counted = omega (arith, numbered.counted, length-append numbers (number ∷ []));
  each = λ index below. each index below (cases_lt index count);
  named = λ other found has. named other found (bytes_eq text other) refl (sym (gets.others other) ∙ has);
} where
  -- a number that a text had stays
  stays : (other : List ℕ) (found : ℕ) → number_of other ≡ Some found → later other ≡ Some found
  stays other found has = go (bytes_eq text other) refl where
    go : (same : Bool) → bytes_eq text other ≡ same → later other ≡ Some found
    go true same =
        let number_found : number_of text ≡ Some found = ap number_of ((bytes_eq-Decides text other).0 same) ∙ has in
        gets.others other ∙ ap (λ b. cond b (Some number) (number_of other)) same ∙ ap Some (gets.number_is ∙ ap (λ o. unwrap_or o count) number_found)
    go false same = gets.others other ∙ ap (λ b. cond b (Some number) (number_of other)) same ∙ has

  each_text : (index : ℕ) (found : ℕ) (o : Option (List ℕ)) → MatchOption o (found ≡ 0) (λ other. number_of other ≡ Some found) → MatchOption o (found ≡ 0) (λ other. later other ≡ Some found)
  each_text index found None none = none
  each_text index found (Some other) has = stays other found has

  own : later text ≡ Some number
  own = gets.others text ∙ ap (λ b. cond b (Some number) (number_of text)) ((bytes_eq-Decides text text).1 refl)

  each : (index : ℕ) → index < count + 1 → (index < count) ⊎ (count ≤ index) → MatchOption (text_at pool index) (get_or (numbers ++ number ∷ []) index 0 ≡ 0) (λ other. later other ≡ Some (get_or (numbers ++ number ∷ []) index 0))
  each index below (inl before) =
      rw (old_number pool count numbers number numbered.counted index before) (each_text index (get_or numbers index 0) (text_at pool index) (numbered.each index before))
  each index below (inr from) =
      let here : text_at pool index ≡ Some text = let same : index ≡ count = omega arith in ap (text_at pool) same ∙ is in
      rw (here, new_number pool count numbers number numbered.counted index from below) own

  text_of : (o : Option ℕ) → number_of text ≡ o → text_at pool number ≡ Some text
  text_of None has = ap (text_at pool) (gets.number_is ∙ ap (λ o. unwrap_or o count) has) ∙ is
  text_of (Some found) has = ap (text_at pool) (gets.number_is ∙ ap (λ o. unwrap_or o count) has) ∙ numbered.named text found has

  named : (other : List ℕ) (found : ℕ) (same : Bool) → bytes_eq text other ≡ same → cond (bytes_eq text other) (Some number) (number_of other) ≡ Some found → text_at pool found ≡ Some other
  named other found true same has =
      let number_found : Some number ≡ Some found = sym (ap (λ b. cond b (Some number) (number_of other)) same) ∙ has in
      let it : number ≡ found = cc in
      ap (text_at pool) (sym it) ∙ text_of (number_of text) refl ∙ ap Some ((bytes_eq-Decides text other).0 same)
  named other found false same has = numbered.named other found (sym (ap (λ b. cond b (Some number) (number_of other)) same) ∙ has)

-- where each index has its number, two have one number where they name one text or none
pub numbers_tell : (pool : List Constant) (count : ℕ) (numbers : List ℕ) (number_of : List ℕ → Option ℕ) → Numbered pool count numbers number_of → length pool < count → (one other : ℕ) → (get_or numbers one 0 ≡ get_or numbers other 0) ↔ (text_at pool one ≡ text_at pool other)
numbers_tell pool count numbers number_of numbered all one other = (
  λ same. sym (text_of one (cases_lt one count)) ∙ ap (text_at pool) same ∙ text_of other (cases_lt other count),
  λ same. number_is one (cases_lt one count) ∙ ap given same ∙ sym (number_is other (cases_lt other count)),
) where
  given : Option (List ℕ) → ℕ
  given None = 0
  given (Some text) = unwrap_or (number_of text) 0

  none_past : (index : ℕ) → count ≤ index → text_at pool index ≡ None
  none_past zero past = refl
  none_past (suc before) past = rw (slice_get_past pool before (omega arith))

  number_from : (index : ℕ) (o : Option (List ℕ)) → MatchOption o (get_or numbers index 0 ≡ 0) (λ text. number_of text ≡ Some (get_or numbers index 0)) → get_or numbers index 0 ≡ given o
  number_from index None is = is
  number_from index (Some text) is = sym (ap (λ o. unwrap_or o 0) is)

  number_is : (index : ℕ) → (index < count) ⊎ (count ≤ index) → get_or numbers index 0 ≡ given (text_at pool index)
  number_is index (inl below) = number_from index (text_at pool index) (numbered.each index below)
  number_is index (inr past) = get_or_past numbers index 0 (omega (arith, numbered.counted)) ∙ sym (ap given (none_past index past))

  text_from : (index : ℕ) (o : Option (List ℕ)) → MatchOption o (get_or numbers index 0 ≡ 0) (λ text. number_of text ≡ Some (get_or numbers index 0)) → text_at pool (get_or numbers index 0) ≡ o
  text_from index None is = ap (text_at pool) is
  text_from index (Some text) is = numbered.named text (get_or numbers index 0) is

  text_of : (index : ℕ) → (index < count) ⊎ (count ≤ index) → text_at pool (get_or numbers index 0) ≡ text_at pool index
  text_of index (inl below) = text_from index (text_at pool index) (numbered.each index below)
  text_of index (inr past) = ap (text_at pool) (get_or_past numbers index 0 (omega (arith, numbered.counted))) ∙ sym (none_past index past)
