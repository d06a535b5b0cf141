-- Lists of types that are gone through from their front.
use Rattle.std.proofs.Common.{◌≡◌, ◌∙◌, ap, ap₂, sym, arith, ℕ, ◌+◌, ◌<◌, ◌≤◌, Bool, true, false, cond, ◌&&◌, ◌||◌, List, [], ◌∷◌, ◌++◌, Option, Some, None, append_assoc, drop, length, length-append, length-drop, map, slice_set, take}
use Rattle.std.specs.Cmp.Lexicographic.{pointwise}
use Rattle.std.specs.List.{list_any, slice_get}
use Rattle.std.proofs.lemmas.List.{drop-drop, get_or-take, length-map, length-take, length-take-le, map-append, set_at, take_more}
use Rattle.std.proofs.lemmas.Option.{get_or_from_slice_get, slice_get-get_or, slice_get_within}
use Rattle.cb_shapes.specs.declared.sort.Category.{Category}
use Rattle.cb_shapes.specs.declared.sort.Category.TheVariants.{One}
use Rattle.cb_verify.specs.declared.verification_type.VerificationType.{VerificationType}
use Rattle.cb_verify.specs.InnerCopies.{begins_with, is_category, two_of}
use Rattle.cb_verify.specs.Frames.{Frame, height, with_stack}
use Rattle.cb_verify.specs.Types.{category, words}
use Rattle.cb_verify.proofs.Dropped.{drop_next}

-- how many words the rest takes
pub height_next : (types : List VerificationType) (place : ℕ) (type : VerificationType) → slice_get types place ≡ Some type
    → height (drop place types) ≡ words type + height (drop (place + 1) types)
height_next types place type is = ap height (drop_next types place type is)

-- whether one of the rest passes
pub any_next : {X : Type 0} (test : X → Bool) (items : List X) (place : ℕ) (item : X) (passes any : Bool) → slice_get items place ≡ Some item → passes ≡ test item
    → list_any test (drop place items) ≡ any → (passes || list_any test (drop (place + 1) items)) ≡ any
any_next test items place item passes any at is so =
    ap (λ passes. passes || list_any test (drop (place + 1) items)) is ∙ sym (ap (list_any test) (drop_next items place item at)) ∙ so

pub any_found : {X : Type 0} (test : X → Bool) (items : List X) (place : ℕ) (item : X) (passes any : Bool) → slice_get items place ≡ Some item → passes ≡ test item
    → passes ≡ true → list_any test (drop place items) ≡ any → true ≡ any
any_found test items place item passes any at is passed so =
    ap (λ passes. passes || list_any test (drop (place + 1) items)) (sym passed) ∙ any_next test items place item passes any at is so

pub any_left : {X : Type 0} (test : X → Bool) (items : List X) (place : ℕ) (item : X) (passes any : Bool) → slice_get items place ≡ Some item → passes ≡ test item
    → passes ≡ false → list_any test (drop place items) ≡ any → list_any test (drop (place + 1) items) ≡ any
any_left test items place item passes any at is failed so =
    ap (λ passes. passes || list_any test (drop (place + 1) items)) (sym failed) ∙ any_next test items place item passes any at is so

-- whether all of the rest pass, pair by pair
pub pair_next : {X Y : Type 0} (test : X → Y → Bool) (ones : List X) (others : List Y) (place : ℕ) (one : X) (other : Y) (passes all : Bool) → slice_get ones place ≡ Some one
    → slice_get others place ≡ Some other → passes ≡ test one other → pointwise test (drop place ones) (drop place others) ≡ all
    → (passes && pointwise test (drop (place + 1) ones) (drop (place + 1) others)) ≡ all
pair_next test ones others place one other passes all at also is so =
    ap (λ passes. passes && pointwise test (drop (place + 1) ones) (drop (place + 1) others)) is
    ∙ sym (ap₂ (pointwise test) (drop_next ones place one at) (drop_next others place other also))
    ∙ so

pub pair_failed : {X Y : Type 0} (test : X → Y → Bool) (ones : List X) (others : List Y) (place : ℕ) (one : X) (other : Y) (passes all : Bool) → slice_get ones place ≡ Some one
    → slice_get others place ≡ Some other → passes ≡ test one other → passes ≡ false → pointwise test (drop place ones) (drop place others) ≡ all → false ≡ all
pair_failed test ones others place one other passes all at also is failed so =
    ap (λ passes. passes && pointwise test (drop (place + 1) ones) (drop (place + 1) others)) (sym failed)
    ∙ pair_next test ones others place one other passes all at also is so

pub pair_left : {X Y : Type 0} (test : X → Y → Bool) (ones : List X) (others : List Y) (place : ℕ) (one : X) (other : Y) (passes all : Bool) → slice_get ones place ≡ Some one
    → slice_get others place ≡ Some other → passes ≡ test one other → passes ≡ true → pointwise test (drop place ones) (drop place others) ≡ all
    → pointwise test (drop (place + 1) ones) (drop (place + 1) others) ≡ all
pair_left test ones others place one other passes all at also is passed so =
    ap (λ passes. passes && pointwise test (drop (place + 1) ones) (drop (place + 1) others)) (sym passed)
    ∙ pair_next test ones others place one other passes all at also is so

-- the items before a place by a function, and the others as they were
pub split_next : {X : Type 0} (by : X → X) (items : List X) (place : ℕ) (item : X) → slice_get items place ≡ Some item
    → map by (take (place + 1) items) ++ drop (place + 1) items ≡ map by (take place items) ++ by item ∷ drop (place + 1) items
split_next by items place item at =
    ap (λ front. map by front ++ drop (place + 1) items) (take_more items place item (slice_get_within items place item at))
    ∙ ap (λ own. map by (take place items ++ own ∷ []) ++ drop (place + 1) items) (get_or_from_slice_get items place item item at)
    ∙ ap (λ front. front ++ drop (place + 1) items) (map-append by (take place items) (item ∷ []))
    ∙ append_assoc (map by (take place items)) (by item ∷ []) (drop (place + 1) items)

pub split_rest : {X : Type 0} (by : X → X) (items : List X) (place : ℕ) (item : X) → slice_get items place ≡ Some item
    → map by (take place items) ++ drop place items ≡ map by (take place items) ++ item ∷ drop (place + 1) items
split_rest by items place item at = ap (λ back. map by (take place items) ++ back) (drop_next items place item at)

pub split_kept : {X : Type 0} (by : X → X) (items all : List X) (place : ℕ) (item : X) → slice_get items place ≡ Some item → by item ≡ item
    → all ≡ map by (take place items) ++ drop place items → all ≡ map by (take (place + 1) items) ++ drop (place + 1) items
split_kept by items all place item at same so =
    so ∙ split_rest by items place item at
    ∙ ap (λ own. map by (take place items) ++ own ∷ drop (place + 1) items) (sym same)
    ∙ sym (split_next by items place item at)

pub split_put : {X : Type 0} (by : X → X) (items all : List X) (place : ℕ) (item new : X) → slice_get items place ≡ Some item → by item ≡ new
    → all ≡ map by (take place items) ++ drop place items → slice_set all place new ≡ map by (take (place + 1) items) ++ drop (place + 1) items
split_put by items all place item new at is so =
    ap (λ all. slice_set all place new) (so ∙ split_rest by items place item at)
    ∙ set_at (map by (take place items)) item (drop (place + 1) items) new place front
    ∙ ap (λ own. map by (take place items) ++ own ∷ drop (place + 1) items) (sym is)
    ∙ sym (split_next by items place item at)
  where
    front : length (map by (take place items)) ≡ place
    front = length-map (take place items) by ∙ length-take-le place items (omega (arith, slice_get_within items place item at))

pub split_length : {X : Type 0} (by : X → X) (items all : List X) (place : ℕ) → place ≤ length items → all ≡ map by (take place items) ++ drop place items → length all ≡ length items
split_length by items all place within so =
    omega (arith, ap length so, length-append (map by (take place items)) (drop place items), length-map (take place items) by, length-take-le place items within, length-drop place items)

-- a list that is made from its end
pub made_next : {X Y : Type 0} (by : X → Y) (items : List X) (place : ℕ) (item : X) (made : List Y) → slice_get items place ≡ Some item
    → made ≡ map by (drop (place + 1) items) → by item ∷ made ≡ map by (drop place items)
made_next by items place item made at so = ap (λ made. by item ∷ made) so ∙ sym (ap (map by) (drop_next items place item at))

-- values that are put on another stack from the lowest on
pub get_taken : {X : Type 0} (items : List X) (count place : ℕ) (item : X) → slice_get items place ≡ Some item → place < count → slice_get (take count items) place ≡ Some item
get_taken items count place item at less =
    slice_get-get_or (take count items) place item (omega (arith, length-take count items, slice_get_within items place item at))
    ∙ ap Some (get_or-take count items place item less ∙ get_or_from_slice_get items place item item at)

pub put_next : (below frame next : Frame) (types : List VerificationType) (count place : ℕ) (type : VerificationType) → slice_get types place ≡ Some type → place < count
    → frame ≡ record { locals = below.locals; stack = drop (place + 1) (take count types) ++ below.stack; unfinished = below.unfinished }
    → next ≡ record { locals = frame.locals; stack = type ∷ frame.stack; unfinished = frame.unfinished }
    → next ≡ record { locals = below.locals; stack = drop place (take count types) ++ below.stack; unfinished = below.unfinished }
put_next below frame next types count place type at less so is =
    is
    ∙ ap (λ (frame : Frame). with_types frame (type ∷ frame.stack)) so
    ∙ ap (λ front. with_types below (front ++ below.stack)) (sym (drop_next (take count types) place type (get_taken types count place type at less)))
  where
    with_types : Frame → List VerificationType → Frame
    with_types frame stack = record { locals = frame.locals; stack = stack; unfinished = frame.unfinished }

-- whether the rest of a stack begins with a value of a category
pub begins_at : (wanted : Category) (types : List VerificationType) (place : ℕ) (type : VerificationType) → slice_get types place ≡ Some type
    → begins_with wanted (drop place types) ≡ is_category wanted (category type)
begins_at wanted types place type at = ap (begins_with wanted) (drop_next types place type at)

-- whether two values of category one come next
pub two_is : (types : List VerificationType) (place : ℕ) (one other passes : Bool) → one ≡ begins_with One (drop place types) → one ≡ true
    → other ≡ begins_with One (drop (place + 1) types) → other ≡ passes
    → cond {A = Option ℕ} passes (Some 2) None ≡ two_of (drop place types)
two_is types place one other passes is passed also as_well =
    ap₂ (λ first second. cond {A = Option ℕ} (first && second) (Some 2) None) (sym passed ∙ is)
    (sym as_well ∙ also ∙ ap (begins_with One) (sym (drop-drop 1 place types)))

-- a frame that may have so many words
pub legal_is : (most : ℕ) (frame all : Frame) (stack : List VerificationType) → all ≡ record { locals = frame.locals; stack = stack; unfinished = frame.unfinished }
    → with_stack most all all.stack ≡ with_stack most frame stack
legal_is most frame all stack is = ap (λ (all : Frame). with_stack most all all.stack) is
