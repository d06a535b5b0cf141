-- Texts of parts that are entered in turn are those of the whole.
use Rattle.std.proofs.Common.{◌≡◌, ◌∙◌, ap, sym, ℕ, ◌+◌, ◌<◌, List, [], ◌∷◌, ◌++◌, length, get_or, map, take}
use Rattle.std.specs.List.{flat_map}
use Rattle.std.proofs.lemmas.Grind.{flat_map-append}
use Rattle.std.proofs.lemmas.List.{append-nil, map_more, take_more}
use Rattle.cb_kinds.specs.Texts.{entered, entered_all, firsts}
use Rattle.cb_kinds.proofs.Laws.{entered_all_more, entered_append, entered_firsts}

-- two parts
pub then_more : (old middle new one other : List (List ℕ)) → middle ≡ entered_all old one → new ≡ entered_all middle other → new ≡ entered_all old (one ++ other)
then_more old middle new one other first last = last ∙ ap (λ texts. entered_all texts other) first ∙ sym (entered_append old one other)

-- the parts of two lists
pub then_items : {A B : Type 0} (part : A → List (List ℕ)) (rest : B → List (List ℕ)) (items own : List A) (others its : List B) (old middle new : List (List ℕ))
    → items ≡ own → others ≡ its → middle ≡ entered_all old (flat_map part items) → new ≡ entered_all middle (flat_map rest others)
    → new ≡ entered_all old (flat_map part own ++ flat_map rest its)
then_items part rest items own others its old middle new is also first last =
    then_more old middle new (flat_map part items) (flat_map rest others) first last ∙ (λ i. entered_all old (flat_map part (is i) ++ flat_map rest (also i)))

-- one more item of a list
pub then_item : {A : Type 0} (part : A → List (List ℕ)) (items : List A) (place : ℕ) (item : A) (old middle new : List (List ℕ)) → place < length items → item ≡ get_or items place item
    → middle ≡ entered_all old (flat_map part (take place items)) → new ≡ entered_all middle (part item) → new ≡ entered_all old (flat_map part (take (place + 1) items))
then_item part items place item old middle new within is first last =
    last ∙ (λ i. entered_all (first i) (part (is i))) ∙ sym (entered_all_more part old items place item within)

-- by its place alone
pub then_at : {A : Type 0} (part : A → List (List ℕ)) (items : List A) (place : ℕ) (default : A) (old middle new : List (List ℕ)) → place < length items
    → middle ≡ entered_all old (flat_map part (take place items)) → new ≡ entered_all middle (part (get_or items place default))
    → new ≡ entered_all old (flat_map part (take (place + 1) items))
then_at part items place default old middle new within first last =
    let item = get_or items place default in
    last ∙ ap (λ texts. entered_all texts (part item)) first ∙ sym (entered_append old (flat_map part (take place items)) (part item))
    ∙ ap (entered_all old)
    (sym (ap (flat_map part) (take_more items place default within) ∙ flat_map-append part (take place items) (item ∷ [])
    ∙ ap (λ rest. flat_map part (take place items) ++ rest) (append-nil (part item))))

-- and one more text
pub then_text : {A : Type 0} (name : A → List ℕ) (items : List A) (place : ℕ) (item : A) (old middle new : List (List ℕ)) → place < length items → item ≡ get_or items place item
    → middle ≡ entered_all old (map name (take place items)) → new ≡ entered middle (name item) → new ≡ entered_all old (map name (take (place + 1) items))
then_text name items place item old middle new within is first last =
    last ∙ (λ i. entered (first i) (name (is i))) ∙ sym (entered_append old (map name (take place items)) (name (get_or items place item) ∷ []))
    ∙ ap (entered_all old) (sym (map_more name items place item within))

-- what was entered in two parts where there was nothing stands once
pub all_firsts : (one other old new : List (List ℕ)) → old ≡ entered_all [] one → new ≡ entered_all old other → new ≡ firsts (one ++ other)
all_firsts one other old new first last = then_more [] old new one other first last ∙ entered_firsts (one ++ other)
