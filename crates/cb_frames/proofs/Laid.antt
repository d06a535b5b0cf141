-- What frames that lie in slots refer to, slot by slot.
use Rattle.std.proofs.Common.{◌≡◌, ◌∙◌, sym, refl, ap, subst, arith, ℕ, zero, suc, ◌+◌, ◌-◌, ◌<◌, ◌≤◌, Bool, true, false, nat_le, List, [], ◌∷◌, ◌++◌, length, length-append, length-set, drop, take, get_or, map, replicate, reverse, slice_get, slice_index, slice_range, slice_set, Some}
use Rattle.std.specs.Prelude.{if◌then◌else◌}
use Rattle.std.proofs.lemmas.Bool.{le-leb, leb-false, leb-true, lt-leb}
use Rattle.std.proofs.lemmas.Option.{slice_get-get_or}
use mathlib.Core.List.{reverse_aux}
use Rattle.std.specs.List.{flat_map}
use Rattle.std.proofs.lemmas.Grind.{flat_map-append, reverse_onto}
use Rattle.std.proofs.lemmas.List.{append-nil, drop-map, get_or-append_right, get_or-map, get_or-replicate, get_or_append_left, get_or_default, length-map, length-replicate, length-reverse, map-append, map-set, reverse-reverse, set-append_left, set-append_right, set-get_or, take-map, take-set-le}
use Rattle.std.proofs.lemmas.List.Edits.{between_none, get_or-between, length-between}
use Rattle.cb_plain.specs.declared.value.Value.{Value}
use Rattle.cb_plain.specs.declared.value.Value.TheVariants as values
use Rattle.cb_plain.specs.State.{OfMethod}
use Rattle.cb_frames.specs.declared.standing.Standing.{Standing}
use Rattle.cb_frames.specs.declared.standing.What.{What}
use Rattle.cb_frames.specs.declared.standing.What.TheVariants as whats
use Rattle.cb_frames.specs.Entries.{frame_entries, nulled, nulled_frame, referent}
use Rattle.cb_frames.specs.Inner.{AreStacked, IsPlaced, blank, frame_as, frames_in, used_to}
use Rattle.cb_frames.proofs.Parts.{joined_parts, part_set_below, part_set_within, same_front, same_part}

-- a function of each item of a list that is turned round, cut or filled
module _ {X Y : Type 0} (f : X → Y) where
  map_onto : (xs behind : List X) → map f (reverse_aux xs behind) ≡ reverse_aux (map f xs) (map f behind)
  map_onto [] behind = refl
  map_onto (x ∷ xs) behind = map_onto xs (x ∷ behind)

  pub map_reverse : (xs : List X) → map f (reverse xs) ≡ reverse (map f xs)
  map_reverse xs = map_onto xs []

  pub map_part : (xs : List X) (from to : ℕ) → map f (slice_range xs from to) ≡ slice_range (map f xs) from to
  map_part xs from to = sym (take-map f (to - from) (drop from xs)) ∙ ap (take (to - from)) (sym (drop-map f from xs))

-- the entries of a frame are those of its used slots, and 0 for each free one
abbrev entries_at : List Value → Standing → List ℕ
entries_at xs at = map referent (slice_range xs at.base at.next) ++ replicate (at.end - at.next) 0

method_entries : (locals stack : List Value) (size left : ℕ) → size - (length locals + length stack) ≡ left
    → map referent locals ++ reverse (map referent (reverse stack)) ++ replicate (size - (length locals + length (reverse stack))) 0 ≡ map referent (locals ++ stack) ++ replicate left 0
method_entries locals stack size left rest =
    let turned : reverse (map referent (reverse stack)) ≡ map referent stack = ap reverse (map_reverse referent stack) ∙ reverse-reverse (map referent stack) in
    let same : size - (length locals + length (reverse stack)) ≡ left = ap (λ n. size - (length locals + n)) (length-reverse stack) ∙ rest in
    ap (λ part. map referent locals ++ part ++ replicate (size - (length locals + length (reverse stack))) 0) turned
    ∙ ap (λ n. map referent locals ++ map referent stack ++ replicate n 0) same
    ∙ ap (λ part. part ++ replicate left 0) (sym (map-append referent locals stack))

entries_as : (what : What) (xs : List Value) (from : ℕ) (top : Standing) → IsPlaced from top → (what ≡ whats.Class → top.end ≡ top.base) → top.end ≤ length xs
    → frame_entries (frame_as what xs top) ≡ entries_at xs top
entries_as whats.Method xs from top is empty inside =
    method_entries (slice_range xs top.base top.floor) (slice_range xs top.floor top.next) (top.end - top.base) (top.end - top.next)
    (omega (
      arith,
      is.locals,
      is.stack,
      is.room,
      length-between xs top.base top.floor (omega (arith, is.stack, is.room, inside)),
      length-between xs top.floor top.next (omega (arith, is.room, inside)),
    ))
    ∙ ap (λ part. map referent part ++ replicate (top.end - top.next) 0) (joined_parts xs top.base top.floor top.next is.locals is.stack)
entries_as whats.Class xs from top is empty inside =
    let none : top.next ≡ top.base = omega (arith, empty refl, is.locals, is.stack, is.room) in
    let left : 0 ≡ top.end - top.next = omega (arith, empty refl, is.locals, is.stack, is.room) in
    ap (λ n. replicate n 0) left
    ∙ ap (λ part. map referent part ++ replicate (top.end - top.next) 0) (sym (ap (slice_range xs top.base) none ∙ between_none xs top.base))

abbrev laid_entries : List Value → Standing → List Standing → List ℕ
laid_entries xs top [] = []
laid_entries xs top (below ∷ rest) = laid_entries xs below rest ++ entries_at xs top

entries_laid : (xs : List Value) (top : Standing) (list : List Standing) → AreStacked top list → top.end ≤ length xs
    → flat_map frame_entries (reverse (frames_in xs top list)) ≡ laid_entries xs top list
entries_laid xs top [] are inside = refl
entries_laid xs top (below ∷ rest) are inside =
    ap (flat_map frame_entries) (reverse_onto (frames_in xs below rest) (frame_as top.what xs top) [])
    ∙ flat_map-append frame_entries (reverse (frames_in xs below rest)) (frame_as top.what xs top ∷ [])
    ∙ ap (λ part. part ++ (frame_entries (frame_as top.what xs top) ++ [])) (entries_laid xs below rest are.1 (omega (arith, are.0.begins, are.0.locals, are.0.stack, are.0.room, inside)))
    ∙ ap (λ part. laid_entries xs below rest ++ part) (append-nil (frame_entries (frame_as top.what xs top)) ∙ entries_as top.what xs below.end top are.0 are.0.empty inside)

at_length : (xs : List Value) (from : ℕ) (top : Standing) → IsPlaced from top → top.end ≤ length xs
    → (length (map referent (slice_range xs top.base top.next)) ≡ top.next - top.base) × (length (entries_at xs top) ≡ top.end - top.base)
at_length xs from top is inside =
    let used : length (map referent (slice_range xs top.base top.next)) ≡ top.next - top.base =
    length-map (slice_range xs top.base top.next) referent ∙ length-between xs top.base top.next (omega (arith, is.room, inside)) in (
      used,
      omega (
        arith,
        used,
        length-append (map referent (slice_range xs top.base top.next)) (replicate (top.end - top.next) 0),
        length-replicate {A = ℕ} (top.end - top.next) 0,
        is.locals,
        is.stack,
        is.room,
      ),
    )

laid_length : (xs : List Value) (top : Standing) (list : List Standing) → AreStacked top list → top.end ≤ length xs → length (laid_entries xs top list) ≡ top.end
laid_length xs top [] are inside = sym are.1
laid_length xs top (below ∷ rest) are inside =
    omega (
      arith,
      length-append (laid_entries xs below rest) (entries_at xs top),
      laid_length xs below rest are.1 (omega (arith, are.0.begins, are.0.locals, are.0.stack, are.0.room, inside)),
      (at_length xs below.end top are.0 inside).1,
      are.0.begins,
      are.0.locals,
      are.0.stack,
      are.0.room,
    )

pub entries_counted : (xs : List Value) (top : Standing) (list : List Standing) → AreStacked top list → top.end ≤ length xs
    → top.end ≡ length (flat_map frame_entries (reverse (frames_in xs top list)))
entries_counted xs top list are inside = sym (laid_length xs top list are inside) ∙ ap length (sym (entries_laid xs top list are inside))

laid_same : (xs ys : List Value) (top : Standing) (list : List Standing) → AreStacked top list → take top.end xs ≡ take top.end ys → laid_entries ys top list ≡ laid_entries xs top list
laid_same xs ys top [] are same = refl
laid_same xs ys top (below ∷ rest) are same =
    ap (λ part. laid_entries ys below rest ++ (map referent part ++ replicate (top.end - top.next) 0)) (same_part ys xs top.end top.base top.next (sym same) are.0.room)
    ∙ ap (λ part. part ++ entries_at xs top)
    (laid_same xs ys below rest are.1 (same_front xs ys top.end below.end same (omega (arith, are.0.begins, are.0.locals, are.0.stack, are.0.room))))

-- where a slot belongs to the topmost of some frames, or to one below it
pub used_here : (top below : Standing) (rest : List Standing) (i : ℕ) → top.base ≤ i → used_to top (below ∷ rest) i ≡ top.next
used_here top below rest i here = ap (λ test. if test then top.next else used_to below rest i) (le-leb top.base i here)

pub used_below : (top below : Standing) (rest : List Standing) (i : ℕ) → i < top.base → used_to top (below ∷ rest) i ≡ used_to below rest i
used_below top below rest i low = ap (λ test. if test then top.next else used_to below rest i) (lt-leb top.base i low)

module _ (xs : List Value) (top below : Standing) (rest : List Standing) (are : AreStacked top (below ∷ rest)) (inside : top.end ≤ length xs) (i : ℕ) where
  rest_inside : below.end ≤ length xs
  rest_inside = omega (arith, are.0.begins, are.0.locals, are.0.stack, are.0.room, inside)

  rest_length : length (laid_entries xs below rest) ≡ top.base
  rest_length = laid_length xs below rest are.1 rest_inside ∙ sym are.0.begins

  laid_here : top.base ≤ i → get_or (laid_entries xs top (below ∷ rest)) i 0 ≡ get_or (entries_at xs top) (i - top.base) 0
  laid_here here = get_or-append_right (laid_entries xs below rest) (entries_at xs top) top.base i 0 rest_length here

  laid_below : i < top.base → get_or (laid_entries xs top (below ∷ rest)) i 0 ≡ get_or (laid_entries xs below rest) i 0
  laid_below low = get_or_append_left (laid_entries xs below rest) (entries_at xs top) 0 i (omega (arith, low, rest_length))

  used_at : top.base ≤ i → i < top.next → get_or (entries_at xs top) (i - top.base) 0 ≡ referent (get_or xs i blank)
  used_at here used =
      let size = (at_length xs below.end top are.0 inside).0 in
      let place : top.base + (i - top.base) ≡ i = omega arith in
      let few : i - top.base < length (slice_range xs top.base top.next) = omega (arith, length-between xs top.base top.next (omega (arith, are.0.room, inside))) in
      get_or_append_left (map referent (slice_range xs top.base top.next)) (replicate (top.end - top.next) 0) 0 (i - top.base) (omega (arith, size))
      ∙ get_or-map referent (slice_range xs top.base top.next) (i - top.base) blank 0 few
      ∙ ap referent (get_or-between xs top.base top.next (i - top.base) blank (omega arith) ∙ ap (λ k. get_or xs k blank) place)

  free_at : top.base ≤ i → top.next ≤ i → i < top.end → get_or (entries_at xs top) (i - top.base) 0 ≡ 0
  free_at here past low =
      let size = (at_length xs below.end top are.0 inside).0 in
      get_or-append_right (map referent (slice_range xs top.base top.next)) (replicate (top.end - top.next) 0) (top.next - top.base) (i - top.base) 0 size (omega arith)
      ∙ get_or-replicate (top.end - top.next) (i - top.base - (top.next - top.base)) 0 0 (omega (arith, are.0.locals, are.0.stack))

  set_here : (to : ℕ) → top.base ≤ i → i < top.next
      → laid_entries (slice_set xs i (values.Ref to)) top (below ∷ rest) ≡ slice_set (laid_entries xs top (below ∷ rest)) i to
  set_here to here used =
      let place : i ≡ top.base + (i - top.base) = omega arith in
      let size = (at_length xs below.end top are.0 inside).0 in
      ap (λ part. part ++ entries_at (slice_set xs i (values.Ref to)) top)
      (laid_same xs (slice_set xs i (values.Ref to)) below rest are.1 (sym (take-set-le below.end xs i (values.Ref to) (omega (arith, are.0.begins)))))
      ∙ ap (λ part. laid_entries xs below rest ++ (map referent part ++ replicate (top.end - top.next) 0))
      (ap (λ k. slice_range (slice_set xs k (values.Ref to)) top.base top.next) place ∙ part_set_within xs top.base top.next (i - top.base) (values.Ref to) (omega arith))
      ∙ ap (λ part. laid_entries xs below rest ++ (part ++ replicate (top.end - top.next) 0)) (map-set referent (slice_range xs top.base top.next) (i - top.base) (values.Ref to))
      ∙ ap (λ part. laid_entries xs below rest ++ part)
      (sym (set-append_left (map referent (slice_range xs top.base top.next)) (replicate (top.end - top.next) 0) (i - top.base) to (omega (arith, size))))
      ∙ sym (set-append_right (laid_entries xs below rest) (entries_at xs top) top.base i to rest_length here)

  set_below : (to : ℕ) → i < top.base → laid_entries (slice_set xs i (values.Ref to)) below rest ≡ slice_set (laid_entries xs below rest) i to
      → laid_entries (slice_set xs i (values.Ref to)) top (below ∷ rest) ≡ slice_set (laid_entries xs top (below ∷ rest)) i to
  set_below to low is =
      ap (λ part. part ++ entries_at (slice_set xs i (values.Ref to)) top) is
      ∙ ap (λ part. slice_set (laid_entries xs below rest) i to ++ (map referent part ++ replicate (top.end - top.next) 0)) (part_set_below xs top.base top.next i (values.Ref to) low)
      ∙ sym (set-append_left (laid_entries xs below rest) (entries_at xs top) i to (omega (arith, low, rest_length)))

either_way : {Claim : Type 0} (m n : ℕ) → (m ≤ n → Claim) → (n < m → Claim) → Claim
either_way {Claim} m n low high = go (nat_le m n) refl
  where
    go : (test : Bool) → nat_le m n ≡ test → Claim
    go true is = low (leb-true m n is)
    go false is = high (leb-false m n is)

-- what a used slot and a free one refer to
used_read : (xs : List Value) (top : Standing) (list : List Standing) (i : ℕ) → AreStacked top list → top.end ≤ length xs → i < used_to top list i
    → get_or (laid_entries xs top list) i 0 ≡ referent (get_or xs i blank)
used_read xs top [] i are inside used = absurd (omega (arith, used))
used_read xs top (below ∷ rest) i are inside used =
    either_way top.base i
    (λ here.
    laid_here xs top below rest are inside i here ∙ used_at xs top below rest are inside i here (subst (λ n. i < n) (used_here top below rest i here) used))
    (λ low.
    laid_below xs top below rest are inside i low
    ∙ used_read xs below rest i are.1 (omega (arith, are.0.begins, are.0.locals, are.0.stack, are.0.room, inside)) (subst (λ n. i < n) (used_below top below rest i low) used))

free_read : (xs : List Value) (top : Standing) (list : List Standing) (i : ℕ) → AreStacked top list → top.end ≤ length xs → i < top.end → used_to top list i ≤ i
    → get_or (laid_entries xs top list) i 0 ≡ 0
free_read xs top [] i are inside there past = refl
free_read xs top (below ∷ rest) i are inside there past =
    either_way top.base i
    (λ here.
    laid_here xs top below rest are inside i here ∙ free_at xs top below rest are inside i here (subst (λ n. n ≤ i) (used_here top below rest i here) past) there)
    (λ low.
    laid_below xs top below rest are inside i low
    ∙ free_read xs below rest i are.1 (omega (arith, are.0.begins, are.0.locals, are.0.stack, are.0.room, inside)) (omega (arith, low, are.0.begins))
    (subst (λ n. n ≤ i) (used_below top below rest i low) past))

used_set : (xs : List Value) (top : Standing) (list : List Standing) (i to : ℕ) → AreStacked top list → top.end ≤ length xs → i < used_to top list i
    → laid_entries (slice_set xs i (values.Ref to)) top list ≡ slice_set (laid_entries xs top list) i to
used_set xs top [] i to are inside used = absurd (omega (arith, used))
used_set xs top (below ∷ rest) i to are inside used =
    either_way top.base i
    (λ here.
    set_here xs top below rest are inside i to here (subst (λ n. i < n) (used_here top below rest i here) used))
    (λ low.
    set_below xs top below rest are inside i to low
    (used_set xs below rest i to are.1 (omega (arith, are.0.begins, are.0.locals, are.0.stack, are.0.room, inside)) (subst (λ n. i < n) (used_below top below rest i low) used)))

-- with null in place of every reference
nulled_as : (what : What) (xs : List Value) (top : Standing) → nulled_frame (frame_as what xs top) ≡ frame_as what (map nulled xs) top
nulled_as whats.Method xs top =
    let turned : map nulled (reverse (slice_range xs top.floor top.next)) ≡ reverse (slice_range (map nulled xs) top.floor top.next) =
    map_reverse nulled (slice_range xs top.floor top.next) ∙ ap reverse (map_part nulled xs top.floor top.next) in
    ap (λ part. OfMethod (record { method = top.number; pc = top.place; slots = top.end - top.base; locals = part; stack = map nulled (reverse (slice_range xs top.floor top.next)) }))
    (map_part nulled xs top.base top.floor)
    ∙ ap (λ part. OfMethod (record { method = top.number; pc = top.place; slots = top.end - top.base; locals = slice_range (map nulled xs) top.base top.floor; stack = part })) turned
nulled_as whats.Class xs top = refl

pub nulled_frames : (xs : List Value) (top : Standing) (list : List Standing) → map nulled_frame (frames_in xs top list) ≡ frames_in (map nulled xs) top list
nulled_frames xs top [] = refl
nulled_frames xs top (below ∷ rest) =
    ap (λ first. first ∷ map nulled_frame (frames_in xs below rest)) (nulled_as top.what xs top)
    ∙ ap (λ others. frame_as top.what (map nulled xs) top ∷ others) (nulled_frames xs below rest)

-- a slot that holds a reference
pub nulled_reference : (value : Value) (to : ℕ) → 0 < referent value → nulled (values.Ref to) ≡ nulled value
nulled_reference (values.Int number) to some = absurd (omega (arith, some))
nulled_reference (values.Long number) to some = absurd (omega (arith, some))
nulled_reference (values.Ref other) to some = refl

pub within_entries : (entries : List ℕ) (i : ℕ) → 0 < slice_index entries i → i < length entries
within_entries [] i some = absurd (omega (arith, some))
within_entries (entry ∷ entries) zero some = omega arith
within_entries (entry ∷ entries) (suc i) some = omega (arith, within_entries entries i some)

nulled_set : (xs : List Value) (i to : ℕ) → i < length xs → 0 < referent (get_or xs i blank) → map nulled xs ≡ map nulled (slice_set xs i (values.Ref to))
nulled_set xs i to inside holds =
    sym (map-set nulled xs i (values.Ref to)
    ∙ ap (slice_set (map nulled xs) i) (nulled_reference (get_or xs i blank) to holds ∙ sym (get_or-map nulled xs i blank blank inside))
    ∙ set-get_or (map nulled xs) i blank)

-- what a slot refers to
module _ (xs : List Value) (top : Standing) (list : List Standing) (i : ℕ) (are : AreStacked top list) (inside : top.end ≤ length xs)
    (there : i < length (flat_map frame_entries (reverse (frames_in xs top list)))) where
  pub slot_inside : i < top.end
  slot_inside = omega (arith, there, entries_counted xs top list are inside)

  entry_is : slice_get (flat_map frame_entries (reverse (frames_in xs top list))) i ≡ Some (get_or (laid_entries xs top list) i 0)
  entry_is =
      ap (λ entries. slice_get entries i) (entries_laid xs top list are inside)
      ∙ slice_get-get_or (laid_entries xs top list) i 0 (omega (arith, slot_inside, laid_length xs top list are inside))

  pub used_entry : (item : Value) → item ≡ get_or xs i item → i < used_to top list i → slice_get (flat_map frame_entries (reverse (frames_in xs top list))) i ≡ Some (referent item)
  used_entry item read used =
      entry_is
      ∙ ap Some (used_read xs top list i are inside used ∙ ap referent (get_or_default xs i blank item (omega (arith, slot_inside, inside)) ∙ sym read))

  pub free_entry : used_to top list i ≤ i → slice_get (flat_map frame_entries (reverse (frames_in xs top list))) i ≡ Some 0
  free_entry past = entry_is ∙ ap Some (free_read xs top list i are inside slot_inside past)

-- a slot that refers to something else
module _ (xs : List Value) (top : Standing) (list : List Standing) (i to : ℕ) (are : AreStacked top list) (inside : top.end ≤ length xs)
    (some : 0 < slice_index (flat_map frame_entries (reverse (frames_in xs top list))) i) where
  some_laid : 0 < get_or (laid_entries xs top list) i 0
  some_laid = subst (λ entries. 0 < slice_index entries i) (entries_laid xs top list are inside) some

  pub set_within : i < top.end
  set_within =
      omega (arith, within_entries (flat_map frame_entries (reverse (frames_in xs top list))) i some, entries_counted xs top list are inside)

  set_used : i < used_to top list i
  set_used =
      either_way (used_to top list i) i (λ past. absurd (omega (arith, some_laid, free_read xs top list i are inside set_within past))) (λ used. used)

  same_nulled : map nulled xs ≡ map nulled (slice_set xs i (values.Ref to))
  same_nulled = nulled_set xs i to (omega (arith, set_within, inside)) (subst (λ n. 0 < n) (used_read xs top list i are inside set_used) some_laid)

  pub set_entries : flat_map frame_entries (reverse (frames_in (slice_set xs i (values.Ref to)) top list)) ≡ slice_set (flat_map frame_entries (reverse (frames_in xs top list))) i to
  set_entries =
      entries_laid (slice_set xs i (values.Ref to)) top list are (omega (arith, inside, length-set xs i (values.Ref to)))
      ∙ used_set xs top list i to are inside set_used
      ∙ ap (λ entries. slice_set entries i to) (sym (entries_laid xs top list are inside))

  pub set_frames : map nulled_frame (frames_in (slice_set xs i (values.Ref to)) top list) ≡ map nulled_frame (frames_in xs top list)
  set_frames =
      nulled_frames (slice_set xs i (values.Ref to)) top list
      ∙ ap (λ slots. frames_in slots top list) (sym same_nulled)
      ∙ sym (nulled_frames xs top list)
