-- The instance fields of a class, field by field.
use Rattle.std.proofs.Common.{◌≡◌, ◌∙◌, ap, ap₂, arith, refl, sym, ℕ, Bool, true, false, cond, not, ◌+◌, ◌<◌, ◌&&◌, ◌==◌, List, [], ◌∷◌, ◌++◌, length, map, take, Some}
use Rattle.std.specs.Prelude.{filter, slice_get}
use Rattle.std.specs.List.{enumerate_from}
use Rattle.std.proofs.lemmas.List.{append_assoc, length-take-le, map-append, take_more}
use Rattle.std.proofs.lemmas.List.Elements.{filter-append}
use Rattle.std.proofs.lemmas.Option.{get_or_from_slice_get, slice_get_within}
use Rattle.cb_hierarchy.specs.declared.member.Field.{Field}
use Rattle.cb_hierarchy.specs.Layout.{own_fields}

enumerate_push : {X : Type 0} (items : List X) (item : X) (start count : ℕ) → count ≡ start + length items → enumerate_from start (items ++ item ∷ []) ≡ enumerate_from start items ++ (count, item) ∷ []
enumerate_push [] item start count is = let same : start ≡ count = omega (arith, is) in ap (λ start. (start, item) ∷ []) same
enumerate_push (first ∷ items) item start count is = ap (λ rest. (start, first) ∷ rest) (enumerate_push items item (start + 1) count (omega (arith, is)))

-- one field more
pub own_more : (fields : List Field) (class number : ℕ) (field : Field) → slice_get fields number ≡ Some field
    → own_fields (take (number + 1) fields) class ≡ own_fields (take number fields) class ++ cond ((field.declared.class == class) && not field.is_static) (number ∷ []) []
own_more fields class number field is =
    ap (λ fields. own_fields fields class) (take_more fields number field within ∙ ap (λ field. take number fields ++ field ∷ []) (get_or_from_slice_get fields number field field is))
    ∙ ap (λ numbered. map (λ (numbered : ℕ × Field). numbered.0) (filter own numbered)) (enumerate_push (take number fields) field 0 number (let inside : number < length fields = within in let many : length (take number fields) ≡ number = length-take-le number fields (omega arith) in omega arith))
    ∙ ap (map (λ (numbered : ℕ × Field). numbered.0)) (filter-append own (enumerate_from 0 (take number fields)) ((number, field) ∷ []))
    ∙ map-append (λ (numbered : ℕ × Field). numbered.0) (filter own (enumerate_from 0 (take number fields))) (filter own ((number, field) ∷ []))
    ∙ ap (λ last. own_fields (take number fields) class ++ last) (go (own (number, field)))
  where
    own : ℕ × Field → Bool
    own numbered = (numbered.1.declared.class == class) && not numbered.1.is_static

    within : number < length fields
    within = slice_get_within fields number field is

    go : (test : Bool) → map (λ (numbered : ℕ × Field). numbered.0) (cond test ((number, field) ∷ []) []) ≡ cond test (number ∷ []) []
    go true = refl
    go false = refl

pub added : (fields : List Field) (class number : ℕ) (field : Field) (initial list new : List ℕ) (own : Bool) → slice_get fields number ≡ Some field
    → list ≡ initial ++ own_fields (take number fields) class → own ≡ ((field.declared.class == class) && not field.is_static) → new ≡ list ++ cond own (number ∷ []) []
    → new ≡ initial ++ own_fields (take (number + 1) fields) class
added fields class number field initial list new own is so test next =
    next
    ∙ ap₂ (λ (list : List ℕ) test. list ++ cond test (number ∷ []) []) so test
    ∙ append_assoc initial (own_fields (take number fields) class) (cond ((field.declared.class == class) && not field.is_static) (number ∷ []) [])
    ∙ ap (λ list. initial ++ list) (sym (own_more fields class number field is))
