-- A walk over code from one instruction's place to the next.
use Rattle.std.proofs.Common.{◌≡◌, ◌≢◌, ℕ, zero, suc, ◌+◌, ◌<◌, ◌≤◌, Bool, true, false, List, [], ◌∷◌, length, drop, set, replicate, slice_index_or, refl, sym, ◌∙◌, ap, subst, arith, length-drop, inl, inr, ◌⊎◌, get_or-set_other, get_or-set_same, nat_lt, nat_eq, Option, Some, None, cond}
use Rattle.std.proofs.lemmas.Bool.Decides.{nat_tests}
use Rattle.std.proofs.lemmas.Bool.{cases_order, cases_lt, cases_eq, false≢true}
use Rattle.std.proofs.lemmas.List.{get_or_past, get_or-replicate, length-replicate, length-set}
use Rattle.cb_insn.specs.declared.form.Form.{Form}
use Rattle.cb_insn.specs.declared.opcode.TheConstants.{WIDE}
use Rattle.cb_insn.specs.Forms.{form_of, wide_form_of}
use Rattle.cb_insn.specs.Faults.{Fault, Standing, Whole, Faulty, IsCut, IsBadOperand, IsPlace, First, Next, HasFault, standing_at, standing_in, standing_plain, standing_wide, standing_behind_wide, operand_length, is_bad}
use Rattle.cb_insn.specs.Inner.{MarksPlaces}

-- a whole instruction has so many bytes, all there
pub whole_in : (before pc : ℕ) (form : Form) (behind : List ℕ) (size : ℕ) → standing_in before pc form behind ≡ Whole size → (before + operand_length pc form behind ≡ size) × (operand_length pc form behind ≤ length behind) × (is_bad pc form behind ≡ false)
whole_in before pc form behind size is = by_length (nat_lt (length behind) (operand_length pc form behind)) refl (is_bad pc form behind) refl is where
  by_length : (cut : Bool) → nat_lt (length behind) (operand_length pc form behind) ≡ cut → (bad : Bool) → is_bad pc form behind ≡ bad → cond cut (Faulty IsCut) (cond bad (Faulty IsBadOperand) (Whole (before + operand_length pc form behind))) ≡ Whole size → (before + operand_length pc form behind ≡ size) × (operand_length pc form behind ≤ length behind) × (is_bad pc form behind ≡ false)
  by_length true is_cut bad is_bad' is = cc
  by_length false is_cut true is_bad' is = cc
  by_length false is_cut false is_bad' is = let same : before + operand_length pc form behind ≡ size = cc in (same, grind (arith, nat_tests), is_bad')

pub whole_size : (pc : ℕ) (bytes : List ℕ) (size : ℕ) → standing_at pc bytes ≡ Whole size → (0 < size) × (size ≤ length bytes)
whole_size pc [] size is = cc
whole_size pc (opcode ∷ behind) size is = by_wide (nat_eq opcode WIDE) behind is where
  plain : (behind : List ℕ) (form : Option Form) → standing_plain pc form behind ≡ Whole size → (0 < size) × (size ≤ suc (length behind))
  plain behind None is = cc
  plain behind (Some form) is = let whole = whole_in 1 pc form behind size is in (omega (arith, whole.0), omega (arith, whole.0, whole.1))

  wide : (form : Option Form) (behind : List ℕ) → standing_wide pc form behind ≡ Whole size → (0 < size) × (size ≤ suc (suc (length behind)))
  wide None behind is = cc
  wide (Some form) behind is = let whole = whole_in 2 pc form behind size is in (omega (arith, whole.0), omega (arith, whole.0, whole.1))

  behind_wide : (behind : List ℕ) → standing_behind_wide pc behind ≡ Whole size → (0 < size) × (size ≤ suc (length behind))
  behind_wide [] is = cc
  behind_wide (next ∷ behind) is = wide (wide_form_of next) behind is

  by_wide : (is_wide : Bool) (bytes : List ℕ) → cond is_wide (standing_behind_wide pc bytes) (standing_plain pc (form_of opcode) bytes) ≡ Whole size → (0 < size) × (size ≤ suc (length bytes))
  by_wide true bytes is = behind_wide bytes is
  by_wide false bytes is = plain bytes (form_of opcode) is

pub whole_same : (a : Standing) (m n : ℕ) → a ≡ Whole m → a ≡ Whole n → m ≡ n
whole_same a m n one other = cc

-- of two places the lower has a whole instruction, and the other is behind it
pub record Apart (bytes : List ℕ) (low high : ℕ) : Type 0 where
  pub size : ℕ
  pub within : low < length bytes
  pub reads : standing_at low (drop low bytes) ≡ Whole size
  pub behind : low + size ≤ high

apart_in : (k : ℕ) (bytes : List ℕ) (low high : ℕ) → low + high < k → IsPlace bytes low → IsPlace bytes high → low < high → Apart bytes low high
apart_in zero bytes low high few one other lower = absurd (omega arith)
apart_in (suc k) bytes low _ few one First lower = absurd (omega arith)
apart_in (suc k) bytes low _ few one (Next pc size place within reads) lower =
    let positive = (whole_size pc (drop pc bytes) size reads).0 in
    let early : low < pc → Apart bytes low pc = λ before. apart_in k bytes low pc (omega (arith, positive)) one place before in
    let late : pc < low → Apart bytes pc low = λ after. apart_in k bytes pc low (omega (arith, positive)) place one after in
    by_order early late (cases_order low pc)
  where
    by_order : (low < pc → Apart bytes low pc) → (pc < low → Apart bytes pc low) → (low ≡ pc) ⊎ ((low < pc) ⊎ (pc < low)) → Apart bytes low (pc + size)
    by_order early late (inl same) = record {
      size = size;
      within = omega arith;
      reads = subst (λ at. standing_at at (drop at bytes) ≡ Whole size) (sym same) reads;
      behind = omega arith;
    }
    by_order early late (inr (inl before)) = let parted = early before in record {
      size = parted.size;
      within = parted.within;
      reads = parted.reads;
      behind = omega (arith, parted.behind);
    }
    by_order early late (inr (inr after)) =
        let parted = late after in
        let same = whole_same _ size parted.size reads parted.reads in
        absurd (omega (arith, parted.behind))

pub apart : (bytes : List ℕ) (low high : ℕ) → IsPlace bytes low → IsPlace bytes high → low < high → Apart bytes low high
apart bytes low high = apart_in (suc (low + high)) bytes low high (omega arith)

-- so a place with a fault has none behind it
pub none_behind : (bytes : List ℕ) (low high : ℕ) (fault : Fault) → IsPlace bytes high → HasFault bytes low fault → low < high → ⊥
none_behind bytes low high fault place has lower =
    let parted = apart bytes low high has.place place lower in
    let both : Faulty fault ≡ Whole parted.size = sym has.stands ∙ parted.reads in
    cc

-- the walk has come to a place, and has marked those before it
pub record Marked (bytes : List ℕ) (starts : List Bool) (pc : ℕ) : Type 0 where
  pub place : IsPlace bytes pc
  pub within : pc ≤ length bytes
  pub long : length starts ≡ length bytes
  pub sound : (at : ℕ) → slice_index_or starts at false ≡ true → IsPlace bytes at × (at < pc)
  pub whole : (at : ℕ) → IsPlace bytes at → at < pc → slice_index_or starts at false ≡ true

pub marked_start : (bytes : List ℕ) (starts : List Bool) → starts ≡ replicate (length bytes) false → Marked bytes starts 0
marked_start bytes starts is = record {
  place = First;
  within = omega arith;
  long = ap length is ∙ length-replicate (length bytes) false;
  sound = λ at marked. let none = sym (unmarked at) ∙ marked in absurd (false≢true none);
  whole = λ at place before. absurd (omega arith);
} where
  unmarked : (at : ℕ) → slice_index_or starts at false ≡ false
  unmarked at = ap (λ xs. slice_index_or xs at false) is ∙ by_cases (cases_lt at (length bytes)) where
    by_cases : (at < length bytes) ⊎ (length bytes ≤ at) → slice_index_or (replicate (length bytes) false) at false ≡ false
    by_cases (inl below) = get_or-replicate (length bytes) at false false below
    by_cases (inr past) = get_or_past (replicate (length bytes) false) at false (rw length-replicate past)

pub marked_more : (bytes : List ℕ) (starts new : List Bool) (pc size : ℕ) (rest : List ℕ) → Marked bytes starts pc → pc < length bytes → rest ≡ drop pc bytes → Whole size ≡ standing_at pc rest → new ≡ set starts pc true → Marked bytes new (pc + size)
marked_more bytes starts new pc size rest marked inside is_rest is_whole is_new = record {
  place = Next pc size marked.place inside reads;
  within = let size_is = whole_size pc (drop pc bytes) size reads in omega (arith, size_is.1, length-drop pc bytes);
  long = ap length is_new ∙ length-set starts pc true ∙ marked.long;
  sound = sound;
  whole = whole;
} where
  reads : standing_at pc (drop pc bytes) ≡ Whole size
  reads = ap (standing_at pc) (sym is_rest) ∙ sym is_whole

  positive : 0 < size
  positive = (whole_size pc (drop pc bytes) size reads).0

  other : (at : ℕ) → at ≢ pc → slice_index_or new at false ≡ slice_index_or starts at false
  other at away = ap (λ xs. slice_index_or xs at false) is_new ∙ get_or-set_other starts pc at true false away

  sound : (at : ℕ) → slice_index_or new at false ≡ true → IsPlace bytes at × (at < pc + size)
  sound at has = by_cases (cases_eq at pc) where
    by_cases : (at ≡ pc) ⊎ (at ≢ pc) → IsPlace bytes at × (at < pc + size)
    by_cases (inl same) = (subst (IsPlace bytes) (sym same) marked.place, omega (arith, positive))
    by_cases (inr away) = let old = marked.sound at (sym (other at away) ∙ has) in (old.0, omega (arith, old.1))

  whole : (at : ℕ) → IsPlace bytes at → at < pc + size → slice_index_or new at false ≡ true
  whole at place before = by_cases (cases_order at pc) where
    by_cases : (at ≡ pc) ⊎ ((at < pc) ⊎ (pc < at)) → slice_index_or new at false ≡ true
    by_cases (inl same) = ap (λ xs. slice_index_or xs at false) is_new ∙ ap (λ i. slice_index_or (set starts pc true) i false) same ∙ get_or-set_same starts pc true false (omega (arith, marked.long))
    by_cases (inr (inl lower)) = other at (omega arith) ∙ marked.whole at place lower
    by_cases (inr (inr higher)) =
        let parted = apart bytes pc at marked.place place higher in
        let same = whole_same _ size parted.size reads parted.reads in
        absurd (omega (arith, parted.behind))

-- at the end
pub marked_end : (bytes : List ℕ) (starts : List Bool) (pc : ℕ) → Marked bytes starts pc → length bytes ≤ pc → IsPlace bytes (length bytes) × MarksPlaces starts bytes
marked_end bytes starts pc marked ended =
    let same : pc ≡ length bytes = omega (arith, marked.within) in (
      subst (IsPlace bytes) same marked.place,
      record {
        long = marked.long;
        sound = λ at has. let old = marked.sound at has in (old.0, omega (arith, old.1));
        whole = λ at place before. marked.whole at place (omega arith);
      },
    )
