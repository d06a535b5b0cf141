-- Items that are gathered one by one as long as none is missing.
use Rattle.std.proofs.Common.{◌≡◌, ◌∙◌, ap, sym, refl, append_assoc, append-nil, ℕ, ◌+◌, ◌<◌, ◌≤◌, List, [], ◌∷◌, ◌++◌, length, drop, get_or, map, Option, Some, None, option_map}
use Rattle.std.proofs.lemmas.List.{drop_all, drop_more}
use Rattle.cb_classfile.specs.Expansion.{all_of}
use Rattle.cb_asm_list.proofs.Lists.{map_twice}

-- those behind some that are there
abbrev pub behind_these : {X : Type 0} → List X → Option (List X) → Option (List X)
behind_these done found = option_map (λ rest. done ++ rest) found

one_more : {X : Type 0} (done : List X) (item : X) (found : Option (List X)) → behind_these done (option_map (λ rest. item ∷ rest) found) ≡ behind_these (done ++ item ∷ []) found
one_more done item None = refl
one_more done item (Some rest) = ap Some (sym (append_assoc done (item ∷ []) rest))

at_item : {A X : Type 0} (f : A → Option X) (items : List A) (i : ℕ) (read : A) → i < length items → read ≡ get_or items i read
    → all_of (map f (drop i items)) ≡ all_of (f read ∷ map f (drop (i + 1) items))
at_item f items i read within is =
    ap (λ rest. all_of (map f rest)) (drop_more items i read within) ∙ ap (λ first. all_of (f first ∷ map f (drop (i + 1) items))) (sym is)

pub gathered : {A X : Type 0} (f : A → Option X) (items : List A) (i : ℕ) (read : A) (done : List X) (item : X) (whole : Option (List X)) → i < length items → read ≡ get_or items i read → f read ≡ Some item
    → whole ≡ behind_these done (all_of (map f (drop i items))) → whole ≡ behind_these (done ++ item ∷ []) (all_of (map f (drop (i + 1) items)))
gathered f items i read done item whole within is found so_far =
    so_far ∙ ap (behind_these done) (at_item f items i read within is ∙ ap (λ first. all_of (first ∷ map f (drop (i + 1) items))) found) ∙ one_more done item (all_of (map f (drop (i + 1) items)))

pub missed : {A X : Type 0} (f : A → Option X) (items : List A) (i : ℕ) (read : A) (done : List X) (whole : Option (List X)) → i < length items → read ≡ get_or items i read → f read ≡ None
    → whole ≡ behind_these done (all_of (map f (drop i items))) → whole ≡ None
missed f items i read done whole within is none so_far =
    so_far ∙ ap (behind_these done) (at_item f items i read within is ∙ ap (λ first. all_of (first ∷ map f (drop (i + 1) items))) none)

pub all_there : {A X : Type 0} (f : A → Option X) (items : List A) (i : ℕ) (done : List X) (whole : Option (List X)) → length items ≤ i
    → whole ≡ behind_these done (all_of (map f (drop i items))) → whole ≡ Some done
all_there f items i done whole past so_far =
    so_far ∙ ap (λ rest. behind_these done (all_of (map f rest))) (drop_all i items past) ∙ ap Some (append-nil done)

-- all of them, by what they are made of, behind the first ones
pub begun : {A B X : Type 0} (f : B → Option X) (g : A → B) (items : List A) (all : List B) (first done : List X) → map g items ≡ all → done ≡ first
    → behind_these first (all_of (map f all)) ≡ behind_these done (all_of (map (λ item. f (g item)) items))
begun f g items all first done made same =
    ap (λ these. behind_these these (all_of (map f all))) (sym same) ∙ ap (λ these. behind_these done (all_of (map f these))) (sym made) ∙ ap (λ these. behind_these done (all_of these)) (map_twice f g items)
