-- Slots in which some are wiped or others pasted, step by step.
use Rattle.std.proofs.Common.{◌≡◌, ◌∙◌, sym, refl, ap, arith, ℕ, suc, ◌+◌, ◌-◌, ◌<◌, ◌≤◌, ◌⊎◌, inl, inr, List, [], ◌∷◌, ◌++◌, length, drop, take, get_or, map, slice_range, slice_set, length-append, length-drop, append_assoc}
use Rattle.std.specs.List.{flat_map}
use Rattle.std.proofs.lemmas.Grind.{flat_map-append}
use Rattle.std.proofs.lemmas.List.{append-nil, drop-drop, drop_at, drop_more, get_or-map, get_or_append_left, get_or-take, length-replicate, length-take-le, replicate_more, set-append_right, take-append-drop, take_at}
use Rattle.std.proofs.lemmas.List.Edits.{between_more, between_none, sets-eq}
use Rattle.cb_plain.specs.declared.value.Value.{Value}
use Rattle.cb_plain.specs.Depth.{slots_of}
use Rattle.cb_frames.specs.declared.slot.Kind.{Kind}
use Rattle.cb_frames.specs.declared.slot.Kind.TheVariants as kinds
use Rattle.cb_frames.specs.declared.slot.Slot.{Slot}
use Rattle.cb_frames.specs.Inner.{blank, blanks, pasted, wiped}
use Rattle.cb_frames.specs.Slots.{value_in, value_of}
use Rattle.cb_frames.proofs.Parts.{dropped_behind, joined_parts}

-- one more slot wiped
pub wiped_none : (xs : List Value) (from : ℕ) → xs ≡ wiped xs from from
wiped_none xs from =
    sym (take-append-drop from xs) ∙ ap (λ n. take from xs ++ (blanks n ++ drop from xs)) (let e : 0 ≡ from - from = omega arith in e)

pub wiped_more : (xs : List Value) (from i : ℕ) → from ≤ i → i < length xs → slice_set (wiped xs from i) i blank ≡ wiped xs from (i + 1)
wiped_more xs from i order inside =
    let size : i - from + 1 ≡ i + 1 - from = omega arith in
    set-append_right (take from xs) (blanks (i - from) ++ drop i xs) from i blank (length-take-le from xs (omega arith)) order
    ∙ ap (λ rest. take from xs ++ rest)
    (set-append_right (blanks (i - from)) (drop i xs) (i - from) (i - from) blank (length-replicate (i - from) blank) (omega arith)
    ∙ ap (λ n. blanks (i - from) ++ slice_set (drop i xs) n blank) (let e : i - from - (i - from) ≡ 0 = omega arith in e)
    ∙ ap (λ rest. blanks (i - from) ++ slice_set rest 0 blank) (drop_more xs i blank inside)
    ∙ sym (append_assoc (blanks (i - from)) (blank ∷ []) (drop (i + 1) xs))
    ∙ ap (λ front. front ++ drop (i + 1) xs) (replicate_more (i - from) blank)
    ∙ ap (λ n. blanks n ++ drop (i + 1) xs) size)

-- more pasted
pub pasted_none : (xs : List Value) (at : ℕ) → xs ≡ pasted xs at []
pasted_none xs at = sym (take-append-drop at xs) ∙ ap (λ n. take at xs ++ drop n xs) (let e : at ≡ at + 0 = omega arith in e)

pub pasted_more : (xs : List Value) (at : ℕ) (others more : List Value) → at ≤ length xs → pasted (pasted xs at others) (at + length others) more ≡ pasted xs at (others ++ more)
pasted_more xs at others more inside =
    let size : length (take at xs ++ others) ≡ at + length others = omega (arith, length-append (take at xs) others, length-take-le at xs inside) in
    let parts : pasted xs at others ≡ (take at xs ++ others) ++ drop (at + length others) xs = sym (append_assoc (take at xs) others (drop (at + length others) xs)) in
    let left : at + length others + length more - length (take at xs ++ others) ≡ length more = omega (arith, size) in
    let all : at + length others + length more ≡ at + length (others ++ more) = omega (arith, length-append others more) in
    ap (λ slots. take (at + length others) slots ++ (more ++ drop (at + length others + length more) slots)) parts
    ∙ ap (λ front. front ++ (more ++ drop (at + length others + length more) ((take at xs ++ others) ++ drop (at + length others) xs)))
    (take_at (take at xs ++ others) (drop (at + length others) xs) (at + length others) size)
    ∙ ap (λ rest. (take at xs ++ others) ++ (more ++ rest))
    (dropped_behind (take at xs ++ others) (drop (at + length others) xs) (at + length others + length more) (omega (arith, size))
    ∙ ap (λ n. drop n (drop (at + length others) xs)) left
    ∙ drop-drop (length more) (at + length others) xs
    ∙ ap (λ n. drop n xs) all)
    ∙ append_assoc (take at xs) others (more ++ drop (at + length (others ++ more)) xs)
    ∙ ap (λ rest. take at xs ++ rest) (sym (append_assoc others more (drop (at + length (others ++ more)) xs)))

pub pasted_read : (xs : List Value) (at i : ℕ) (others : List Value) (item : Value) → at ≤ length xs → i < at → get_or (pasted xs at others) i item ≡ get_or xs i item
pasted_read xs at i others item inside below =
    get_or_append_left (take at xs) (others ++ drop (at + length others) xs) item i (omega (arith, below, length-take-le at xs inside)) ∙ get_or-take at xs i item below

pub pasted_length : (xs : List Value) (at : ℕ) (others : List Value) → at + length others ≤ length xs → length (pasted xs at others) ≡ length xs
pasted_length xs at others inside =
    omega (
      arith,
      length-append (take at xs) (others ++ drop (at + length others) xs),
      length-append others (drop (at + length others) xs),
      length-take-le at xs (omega arith),
      length-drop (at + length others) xs,
    )

-- one or two slots written
pub one_put : (xs : List Value) (at : ℕ) (item : Value) → at + 1 ≤ length xs → slice_set xs at item ≡ pasted xs at (item ∷ [])
one_put xs at item inside =
    sets-eq (item ∷ []) xs at (omega (arith, inside)) ∙ append_assoc (take at xs) (item ∷ []) (drop (at + length (item ∷ [])) xs)

pub two_put : (xs : List Value) (at : ℕ) (one other : Value) → at + 2 ≤ length xs → slice_set (slice_set xs at one) (at + 1) other ≡ pasted xs at (one ∷ other ∷ [])
two_put xs at one other inside =
    ap (λ n. slice_set (slice_set xs at one) n other) (let e : at + 1 ≡ suc at = omega arith in e)
    ∙ sets-eq (one ∷ other ∷ []) xs at (omega (arith, inside))
    ∙ append_assoc (take at xs) (one ∷ other ∷ []) (drop (at + length (one ∷ other ∷ [])) xs)

-- the slots of one value more
pub slots_none : (xs : List Value) (from : ℕ) → flat_map slots_of (slice_range xs from from) ≡ []
slots_none xs from = ap (flat_map slots_of) (between_none xs from)

pub slots_more_at : (xs : List Value) (from i : ℕ) → from ≤ i → i < length xs
    → flat_map slots_of (slice_range xs from i) ++ slots_of (get_or xs i blank) ≡ flat_map slots_of (slice_range xs from (i + 1))
slots_more_at xs from i order inside =
    ap (λ rest. flat_map slots_of (slice_range xs from i) ++ rest) (sym (append-nil (slots_of (get_or xs i blank))))
    ∙ sym (flat_map-append slots_of (slice_range xs from i) (get_or xs i blank ∷ []))
    ∙ ap (flat_map slots_of) (sym (between_more xs from i blank order inside))

pub slots_within : (xs : List Value) (from i to : ℕ) → from ≤ i → i ≤ to → length (flat_map slots_of (slice_range xs from i)) ≤ length (flat_map slots_of (slice_range xs from to))
slots_within xs from i to low high =
    let all : flat_map slots_of (slice_range xs from i) ++ flat_map slots_of (slice_range xs i to) ≡ flat_map slots_of (slice_range xs from to) =
    sym (flat_map-append slots_of (slice_range xs from i) (slice_range xs i to)) ∙ ap (flat_map slots_of) (joined_parts xs from i to low high) in
    omega (arith, ap length all, length-append (flat_map slots_of (slice_range xs from i)) (flat_map slots_of (slice_range xs i to)))

-- a value that takes one slot
pub one_slot : (kind : Kind) (word : ℕ) → (kind ≡ kinds.Int) ⊎ (kind ≡ kinds.Ref) → slots_of (value_in kind word) ≡ value_in kind word ∷ []
one_slot kinds.Int word short = refl
one_slot kinds.Long word short = elim short [ inl is ↦ cc | inr is ↦ cc ]
one_slot kinds.Ref word short = refl

-- one value more spread
module _ (xs slots : List Value) (from to i end at : ℕ) (item : Value) (low : from ≤ i) (high : i < end) (order : end ≤ to)
    (inside : to + length (flat_map slots_of (slice_range xs from end)) ≤ length xs)
    (was : slots ≡ pasted xs to (flat_map slots_of (slice_range xs from i))) (place : at ≡ to + length (flat_map slots_of (slice_range xs from i)))
    (read : item ≡ get_or slots i blank) where
  read_first : item ≡ get_or xs i blank
  read_first = read ∙ ap (λ all. get_or all i blank) was ∙ pasted_read xs to i (flat_map slots_of (slice_range xs from i)) blank (omega arith) (omega arith)

  item_more : flat_map slots_of (slice_range xs from i) ++ slots_of item ≡ flat_map slots_of (slice_range xs from (i + 1))
  item_more = ap (λ one. flat_map slots_of (slice_range xs from i) ++ slots_of one) read_first ∙ slots_more_at xs from i low (omega arith)

  pub spread_more : (now : List Value) (next : ℕ) → now ≡ pasted slots at (slots_of item) → next ≡ at + length (slots_of item)
      → (now ≡ pasted xs to (flat_map slots_of (slice_range xs from (i + 1)))) × (next ≡ to + length (flat_map slots_of (slice_range xs from (i + 1))))
  spread_more now next is behind = (
    is
        ∙ ap (λ all. pasted all at (slots_of item)) was
        ∙ ap (λ n. pasted (pasted xs to (flat_map slots_of (slice_range xs from i))) n (slots_of item)) place
        ∙ pasted_more xs to (flat_map slots_of (slice_range xs from i)) (slots_of item) (omega arith)
        ∙ ap (pasted xs to) item_more,
    omega (arith, behind, place, ap length item_more, length-append (flat_map slots_of (slice_range xs from i)) (slots_of item)),
  )

  pub spread_fits : at + length (slots_of item) ≤ length xs
  spread_fits =
      omega (
        arith,
        ap length item_more,
        length-append (flat_map slots_of (slice_range xs from i)) (slots_of item),
        slots_within xs from (i + 1) end (omega arith) (omega arith),
      )

-- what a slot that is read holds
pub slot_read : (slots : List Slot) (i : ℕ) (slot : Slot) (item : Value) → i < length slots → slot ≡ get_or slots i slot → value_of slot ≡ get_or (map value_of slots) i item
slot_read slots i slot item inside read = sym (get_or-map value_of slots i slot item inside ∙ ap value_of (sym read))

-- what lies in front of what is pasted, and behind it
pub pasted_front : (xs : List Value) (at : ℕ) (others : List Value) → at ≤ length xs → take at (pasted xs at others) ≡ take at xs
pasted_front xs at others inside = take_at (take at xs) (others ++ drop (at + length others) xs) at (length-take-le at xs inside)

pub pasted_rest : (xs : List Value) (at : ℕ) (others : List Value) → at ≤ length xs → drop at (pasted xs at others) ≡ others ++ drop (at + length others) xs
pasted_rest xs at others inside = drop_at (take at xs) (others ++ drop (at + length others) xs) at (length-take-le at xs inside)
