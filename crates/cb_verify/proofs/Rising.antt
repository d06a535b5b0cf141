-- Frames whose places rise, and the one at a place.
use Rattle.std.proofs.Common.{◌≡◌, ◌∙◌, ap, refl, sym, arith, subst, ℕ, zero, suc, ◌+◌, ◌<◌, ◌≤◌, ◌==◌, Bool, true, false}
use Rattle.std.proofs.Common.{List, [], ◌∷◌, Option, Some, None, cond, get_or, length, nat_lt}
use Rattle.std.specs.Prelude.{option_and_then, slice_get, if◌then◌else◌}
use Rattle.std.specs.List.{find}
use Rattle.std.specs.List.Sorted.{IsNonDecreasingBy, IsPartitionPoint, IsPartitionedBy}
use Rattle.std.proofs.lemmas.Bool.{ltb-false, ltb-true}
use Rattle.std.proofs.lemmas.Bool.Decides.{nat_tests}
use Rattle.std.proofs.lemmas.List.Sorted.{IsPartitionedBy-ltb}
use Rattle.cb_classfile.specs.declared.frame_map.MapFrame.{MapFrame}
use Rattle.cb_classfile.specs.FrameMap.{form_of_frame}
use Rattle.cb_verify.specs.declared.verification_type.VerificationType.{VerificationType}
use Rattle.cb_classfile.specs.Expansion.{place_behind}
use Rattle.cb_verify.specs.Expansion.{declared, declared_behind, fitting, start_types, values_in}
use Rattle.cb_verify.specs.Frames.{Frame}
use Rattle.cb_verify.specs.InnerTables.{if_at}
use Rattle.cb_verify.specs.Within.{Within}

-- an item is at a place, or before it, and the places of items rise
abbrev pub is_at : {Item : Type 0} → ℕ → ℕ × Item → Bool
is_at place item = item.0 == place

abbrev pub is_before : {Item : Type 0} → ℕ → ℕ × Item → Bool
is_before place item = nat_lt item.0 place

abbrev pub Rise : {Item : Type 0} → List (ℕ × Item) → Type 0
Rise items = IsNonDecreasingBy (λ item. item.0) items

-- as many items as are before a place
abbrev pub Parts : {Item : Type 0} → ℕ → List (ℕ × Item) → ℕ → Type 0
Parts place items turn = IsPartitionPoint (λ item. is_before place item ≡ true) (λ item. is_before place item ≡ false) items turn

found_if : {Item : Type 0} (place : ℕ) (item : ℕ × Item) (items : List (ℕ × Item)) (here : Bool) → is_at place item ≡ here
    → find (is_at place) (item ∷ items) ≡ cond here (Some item) (find (is_at place) items)
found_if {Item} place item items here is = ap (λ (here : Bool). cond here (Some item) (find (is_at place) items)) is

at_if : {Item : Type 0} (place : ℕ) (item : ℕ × Item) (here : Bool) → is_at place item ≡ here
    → if_at place item ≡ cond here (Some item) None
at_if {Item} place item here is = ap (λ (here : Bool). if here then Some item else None) is

-- none is at a place that is before all of them
none_above : {Item : Type 0} (items : List (ℕ × Item)) (place : ℕ)
    → ((k : ℕ) (d : ℕ × Item) → k < length items → place < (get_or items k d).0) → find (is_at place) items ≡ None
none_above [] place above = refl
none_above {Item} (item ∷ items) place above =
    found_if place item items false past ∙ none_above items place (λ k d low. above (suc k) d (omega (arith, low)))
  where
    past : (item.0 == place) ≡ false
    past = let first : place < item.0 = above 0 item (omega arith) in grind (arith, nat_tests, first)

-- the one at a place is the first that isn't before it, if any is there
pub first_from : {Item : Type 0} (items : List (ℕ × Item)) (place turn : ℕ) → Rise items
    → ((k : ℕ) (d : ℕ × Item) → k < turn → (get_or items k d).0 < place)
    → ((k : ℕ) (d : ℕ × Item) → turn ≤ k → k < length items → place ≤ (get_or items k d).0)
    → find (is_at place) items ≡ option_and_then (if_at place) (slice_get items turn)
first_from [] place turn rise below above = refl
first_from {Item} (item ∷ items) place zero rise below above = go (item.0 == place) refl
  where
    least : place ≤ item.0
    least = above 0 item (omega arith) (omega arith)

    go : (here : Bool) → (item.0 == place) ≡ here → find (is_at place) (item ∷ items) ≡ if_at place item
    go true here = found_if place item items true here ∙ sym (at_if place item true here)
    go false here = found_if place item items false here ∙ none_above items place later ∙ sym (at_if place item false here)
      where
        later : (k : ℕ) (d : ℕ × Item) → k < length items → place < (get_or items k d).0
        later k d low =
            let rises : item.0 ≤ (get_or items k d).0 = rise 0 (suc k) d (omega arith) (omega (arith, low)) in
            let past : place < item.0 = grind (arith, nat_tests, least, here) in
            omega (arith, rises, past)
first_from {Item} (item ∷ items) place (suc turn) rise below above =
    found_if place item items false before
    ∙ first_from items place turn (λ i j d le low. rise (suc i) (suc j) d (omega (arith, le)) (omega (arith, low)))
    (λ k d low. below (suc k) d (omega (arith, low))) (λ k d from low. above (suc k) d (omega (arith, from)) (omega (arith, low)))
  where
    before : (item.0 == place) ≡ false
    before = let first : item.0 < place = below 0 item (omega arith) in grind (arith, nat_tests, first)

-- that number, as a search for it tells
pub searched : {Item : Type 0} (items own now : List (ℕ × Item)) (place turn : ℕ) → items ≡ own → own ≡ now → Rise own
    → (IsPartitionedBy (is_before place) items → Parts place items turn)
    → option_and_then (if_at place) (slice_get now turn) ≡ find (is_at place) now
searched {Item} items own now place turn is also rise search_is =
    subst (λ (all : List (ℕ × Item)). option_and_then (if_at place) (slice_get all turn) ≡ find (is_at place) all) (is ∙ also)
    (sym (first_from items place turn rises (λ k d low. ltb-true _ _ (point.0 k d (omega arith) low))
    (λ k d from low. ltb-false _ _ (point.1 k d from low))))
  where
    rises : Rise items
    rises = subst (λ (all : List (ℕ × Item)). Rise all) (sym is) rise

    point : Parts place items turn
    point = search_is (IsPartitionedBy-ltb (λ (item : ℕ × Item). item.0) items place rises)

-- an item that is at a place, and one that isn't
pub is_there : {Item : Type 0} (place : ℕ) (item : ℕ × Item) → item.0 ≡ place → if_at place item ≡ Some item
is_there {Item} place item is = at_if place item true (let here : (item.0 == place) ≡ true = grind (arith, nat_tests, is) in here)

pub is_elsewhere : {Item : Type 0} (place : ℕ) (item : ℕ × Item) → (item.0 ≡ place → ⊥) → if_at place item ≡ None
is_elsewhere {Item} place item differs =
    at_if place item false (let here : (item.0 == place) ≡ false = grind (arith, nat_tests, differs) in here)

-- the frames that a method declares are behind the place before them, and their places rise
abbrev values_next : Within → Option (List VerificationType) → MapFrame → Option (List VerificationType)
values_next method values frame = option_and_then (fitting method) (values_in method (form_of_frame frame.kind) frame values)

behind : (method : Within) (previous : ℕ) (values : Option (List VerificationType)) (frames : List MapFrame) (k : ℕ) (d : ℕ × Option Frame)
    → k < length (declared_behind method (Some previous) values frames)
    → previous < (get_or (declared_behind method (Some previous) values frames) k d).0
behind method previous values [] k d low = absurd (omega (arith, low))
behind method previous values (frame ∷ frames) zero d low = omega arith
behind method previous values (frame ∷ frames) (suc k) d low =
    let place : ℕ = previous + frame.delta + 1 in
    let next : Option (List VerificationType) = values_next method values frame in
    let later : place < (get_or (declared_behind method (Some place) next frames) k d).0 =
    behind method place next frames k d (omega (arith, low)) in
    omega (arith, later)

rises : (method : Within) (previous : Option ℕ) (values : Option (List VerificationType)) (frames : List MapFrame)
    → Rise (declared_behind method previous values frames)
rises method previous values [] i j d le low = absurd (omega (arith, low))
rises method previous values (frame ∷ frames) zero zero d le low = omega arith
rises method previous values (frame ∷ frames) zero (suc j) d le low =
    let place : ℕ = place_behind previous frame.delta in
    let next : Option (List VerificationType) = values_next method values frame in
    let later : place < (get_or (declared_behind method (Some place) next frames) j d).0 =
    behind method place next frames j d (omega (arith, low)) in
    omega (arith, later)
rises method previous values (frame ∷ frames) (suc i) zero d le low = absurd (omega (arith, le))
rises method previous values (frame ∷ frames) (suc i) (suc j) d le low =
    rises method (Some (place_behind previous frame.delta)) (values_next method values frame) frames i j d (omega (arith, le))
    (omega (arith, low))

pub declared_rise : (method : Within) (frames : List (ℕ × Option Frame)) → frames ≡ declared method → Rise frames
declared_rise method frames is =
    subst (λ (frames : List (ℕ × Option Frame)). Rise frames) (sym is)
    (rises method None (fitting method (start_types method)) method.body.frames)
