-- Entries of roots, part by part.
use Rattle.std.proofs.Common.{◌≡◌, ◌∙◌, sym, ap, subst, arith, ℕ, zero, suc, ◌+◌, ◌-◌, ◌<◌, ◌≤◌, List, [], ◌∷◌, ◌++◌, length, length-append, get_or, map, slice_index, slice_set, append_assoc}
use Rattle.std.proofs.lemmas.List.{get_or-append_right, get_or-map, get_or_append_left, length-map, map-set, set-append_left, set-append_right, set-get_or}
use Rattle.cb_plain.specs.declared.value.Value.{Value}
use Rattle.cb_plain.specs.declared.value.Value.TheVariants as values
use Rattle.cb_frames.specs.Entries.{nulled, referent}
use Rattle.cb_frames.specs.Inner.{blank}
use Rattle.cb_frames.proofs.Laid.{nulled_reference, within_entries}

module _ (frames statics tables : List ℕ) (pending argument : ℕ) where
  parted : frames ++ statics ++ tables ++ pending ∷ argument ∷ [] ≡ frames ++ (statics ++ (tables ++ pending ∷ argument ∷ []))
  parted = append_assoc (frames ++ statics) tables (pending ∷ argument ∷ []) ∙ append_assoc frames statics (tables ++ pending ∷ argument ∷ [])

  -- an entry with another reference
  pub set_frames : (i to : ℕ) → i < length frames
      → slice_set (frames ++ statics ++ tables ++ pending ∷ argument ∷ []) i to ≡ slice_set frames i to ++ statics ++ tables ++ pending ∷ argument ∷ []
  set_frames i to here =
      ap (λ all. slice_set all i to) parted
      ∙ set-append_left frames (statics ++ (tables ++ pending ∷ argument ∷ [])) i to here
      ∙ sym (append_assoc (slice_set frames i to ++ statics) tables (pending ∷ argument ∷ []) ∙ append_assoc (slice_set frames i to) statics (tables ++ pending ∷ argument ∷ []))

  pub set_statics : (n i to : ℕ) → length frames ≡ n → n ≤ i → i - n < length statics
      → slice_set (frames ++ statics ++ tables ++ pending ∷ argument ∷ []) i to ≡ frames ++ slice_set statics (i - n) to ++ tables ++ pending ∷ argument ∷ []
  set_statics n i to size past here =
      ap (λ all. slice_set all i to) parted
      ∙ set-append_right frames (statics ++ (tables ++ pending ∷ argument ∷ [])) n i to size past
      ∙ ap (λ rest. frames ++ rest) (set-append_left statics (tables ++ pending ∷ argument ∷ []) (i - n) to here)
      ∙ sym (append_assoc (frames ++ slice_set statics (i - n) to) tables (pending ∷ argument ∷ []) ∙ append_assoc frames (slice_set statics (i - n) to) (tables ++ pending ∷ argument ∷ []))

  set_behind : (n m i to : ℕ) → length frames ≡ n → length statics ≡ m → n ≤ i → m ≤ i - n
      → slice_set (frames ++ statics ++ tables ++ pending ∷ argument ∷ []) i to ≡ frames ++ (statics ++ slice_set (tables ++ pending ∷ argument ∷ []) (i - n - m) to)
  set_behind n m i to size count past behind =
      ap (λ all. slice_set all i to) parted
      ∙ set-append_right frames (statics ++ (tables ++ pending ∷ argument ∷ [])) n i to size past
      ∙ ap (λ rest. frames ++ rest) (set-append_right statics (tables ++ pending ∷ argument ∷ []) m (i - n) to count behind)

  pub set_tables : (n m i to : ℕ) → length frames ≡ n → length statics ≡ m → n ≤ i → m ≤ i - n → i - n - m < length tables
      → slice_set (frames ++ statics ++ tables ++ pending ∷ argument ∷ []) i to ≡ frames ++ statics ++ slice_set tables (i - n - m) to ++ pending ∷ argument ∷ []
  set_tables n m i to size count past behind here =
      set_behind n m i to size count past behind
      ∙ ap (λ rest. frames ++ (statics ++ rest)) (set-append_left tables (pending ∷ argument ∷ []) (i - n - m) to here)
      ∙ sym (append_assoc (frames ++ statics) (slice_set tables (i - n - m) to) (pending ∷ argument ∷ []) ∙ append_assoc frames statics (slice_set tables (i - n - m) to ++ pending ∷ argument ∷ []))

  set_last : (n m k i to : ℕ) → length frames ≡ n → length statics ≡ m → length tables ≡ k → n ≤ i → m ≤ i - n → k ≤ i - n - m
      → slice_set (frames ++ statics ++ tables ++ pending ∷ argument ∷ []) i to ≡ frames ++ (statics ++ (tables ++ slice_set (pending ∷ argument ∷ []) (i - n - m - k) to))
  set_last n m k i to size count places past behind last =
      set_behind n m i to size count past behind
      ∙ ap (λ rest. frames ++ (statics ++ rest)) (set-append_right tables (pending ∷ argument ∷ []) k (i - n - m) to places last)

  pub set_pending : (n m k i to : ℕ) → length frames ≡ n → length statics ≡ m → length tables ≡ k → n ≤ i → m ≤ i - n → i - n - m ≡ k
      → slice_set (frames ++ statics ++ tables ++ pending ∷ argument ∷ []) i to ≡ frames ++ statics ++ tables ++ to ∷ argument ∷ []
  set_pending n m k i to size count places past behind here =
      set_last n m k i to size count places past behind (omega arith)
      ∙ ap (λ at. frames ++ (statics ++ (tables ++ slice_set (pending ∷ argument ∷ []) at to))) (let e : i - n - m - k ≡ 0 = omega arith in e)
      ∙ sym (append_assoc (frames ++ statics) tables (to ∷ argument ∷ []) ∙ append_assoc frames statics (tables ++ to ∷ argument ∷ []))

  pub set_argument : (n m k i to : ℕ) → length frames ≡ n → length statics ≡ m → length tables ≡ k → n ≤ i → m ≤ i - n → i - n - m ≡ k + 1
      → slice_set (frames ++ statics ++ tables ++ pending ∷ argument ∷ []) i to ≡ frames ++ statics ++ tables ++ pending ∷ to ∷ []
  set_argument n m k i to size count places past behind here =
      set_last n m k i to size count places past behind (omega arith)
      ∙ ap (λ at. frames ++ (statics ++ (tables ++ slice_set (pending ∷ argument ∷ []) at to))) (let e : i - n - m - k ≡ suc zero = omega arith in e)
      ∙ sym (append_assoc (frames ++ statics) tables (pending ∷ to ∷ []) ∙ append_assoc frames statics (tables ++ pending ∷ to ∷ []))

  -- and what it refers to
  pub entries_length : length (frames ++ statics ++ tables ++ pending ∷ argument ∷ []) ≡ length frames + length statics + length tables + 2
  entries_length =
      omega (
        arith,
        length-append (frames ++ statics ++ tables) (pending ∷ argument ∷ []),
        length-append (frames ++ statics) tables,
        length-append frames statics,
      )

  pub statics_at : (n i : ℕ) → length frames ≡ n → n ≤ i → i - n < length statics
      → slice_index (frames ++ statics ++ tables ++ pending ∷ argument ∷ []) i ≡ slice_index statics (i - n)
  statics_at n i size past here =
      ap (λ all. slice_index all i) parted
      ∙ get_or-append_right frames (statics ++ (tables ++ pending ∷ argument ∷ [])) n i 0 size past
      ∙ get_or_append_left statics (tables ++ pending ∷ argument ∷ []) 0 (i - n) here

  pub last_entry : (n m k i : ℕ) → length frames ≡ n → length statics ≡ m → length tables ≡ k → n ≤ i → m ≤ i - n → k ≤ i - n - m → (i - n - m ≡ k → ⊥)
      → i < length (frames ++ statics ++ tables ++ pending ∷ argument ∷ []) → i - n - m ≡ k + 1
  last_entry n m k i size count places past behind last other there = omega (arith, entries_length, there)

-- static fields that refer to something else
module _ (statics : List Value) (i to : ℕ) (some : 0 < slice_index (map referent statics) i) where
  static_within : i < length statics
  static_within = omega (arith, within_entries (map referent statics) i some, length-map statics referent)

  pub statics_nulled : map nulled (slice_set statics i (values.Ref to)) ≡ map nulled statics
  statics_nulled =
      let holds : 0 < referent (get_or statics i blank) = subst (λ n. 0 < n) (get_or-map referent statics i blank 0 static_within) some in
      map-set nulled statics i (values.Ref to)
      ∙ ap (slice_set (map nulled statics) i) (nulled_reference (get_or statics i blank) to holds ∙ sym (get_or-map nulled statics i blank blank static_within))
      ∙ set-get_or (map nulled statics) i blank
