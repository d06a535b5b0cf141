-- The words of a part whose marked objects are moved to its front.
use Rattle.std.specs.Prelude.{◌≡◌, ◌+◌, ◌-◌, ◌<◌, ◌≤◌, ◌==◌, ℕ, List, cond, length, slice_index, take}
use Rattle.cb_plain.specs.State.{words_of}
use Rattle.cb_slide.specs.Slid.{IsObject, slid_to}
use Rattle.cb_partheap.specs.Words.{mark_at, missing, site_at, size_at}

-- a word of an object, without its mark
abbrev pub cleared : List ℕ → ℕ → ℕ → ℕ
cleared words start i = cond (i == 2) (site_at words start) (slice_index words (start + i))

-- of the words of a part, in which these objects stood, just the marked ones are left, without marks, one behind the other
pub record IsCompact (old before after : List ℕ) : Type 0 where
  pub long : length after ≡ slid_to old (length old)
  pub words : (start i : ℕ) → IsObject old start → 0 < mark_at old start → i < words_of (size_at old start) → slice_index after (slid_to old start + i) ≡ cleared before start i

-- words with the same objects, of which the same are marked
pub record IsSized (old before : List ℕ) : Type 0 where
  pub long : length before ≡ length old
  pub sizes : (start : ℕ) → IsObject old start → size_at before start ≡ size_at old start
  pub kept : (start : ℕ) → IsObject old start → 0 < mark_at old start → 0 < mark_at before start
  pub gone : (start : ℕ) → IsObject old start → mark_at old start ≡ 0 → mark_at before start ≡ 0

-- the marked objects before `first` were moved to the front, up to `free`; those from there to `scan` are all marked, and are next; and what is
-- behind is as it was
pub record IsMoving (old before now : List ℕ) (free first scan : ℕ) : Type 0 where
  pub long : length now ≡ length old
  pub front : free ≡ slid_to old first
  pub order : first ≤ scan
  pub inside : scan ≤ length old
  pub first_is : missing 0 (take first old) ≡ 0
  pub scan_is : missing 0 (take scan old) ≡ 0
  pub run : (start : ℕ) → first ≤ start → start ≤ scan → missing 0 (take start old) ≡ 0 → slid_to old start ≡ free + (start - first)
  pub moved : (start i : ℕ) → IsObject old start → start < first → 0 < mark_at old start → i < words_of (size_at old start) → slice_index now (slid_to old start + i) ≡ cleared before start i
  pub waits : (start i : ℕ) → IsObject old start → first ≤ start → start < scan → i < words_of (size_at old start) → slice_index now (start + i) ≡ cleared before start i
  pub rest : (i : ℕ) → scan ≤ i → slice_index now i ≡ slice_index before i
