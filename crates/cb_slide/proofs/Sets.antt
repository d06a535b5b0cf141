-- Parts of the set, as they are read.
use Rattle.std.proofs.Common.{◌≡◌, ◌∙◌, ℕ, suc, ◌+◌, Bool, true, false, Some, List, cond, length, slice_get, sym, ap, arith}
use Rattle.std.proofs.lemmas.Option.{get_or_from_slice_get, slice_get_within}
use Rattle.cb_dag.specs.Marks.{marked}
use Rattle.cb_blocks.specs.Rows.{row}
use Rattle.cb_slide.specs.Sliding.{Given, IsGiven, IsIn, words_before}

pub member_read : (given : Given) (set : List Bool) (part : ℕ) (result value : Bool) → set ≡ given.set → slice_get set part ≡ Some result → result ≡ value → marked given.set part ≡ value
member_read given set part result value same is told = ap (λ marks. marked marks part) (sym same) ∙ get_or_from_slice_get set part result false is ∙ told

pub is_in_read : (given : Given) (set : List Bool) (part : ℕ) (result : Bool) → IsGiven given → set ≡ given.set → slice_get set part ≡ Some result → result ≡ true → IsIn given part
is_in_read given set part result g same is told =
    record { below = omega (arith, slice_get_within set part result is, ap length same, g.set.parts); member = member_read given set part result true same is told }

pub all_parts : (given : Given) (set : List Bool) → IsGiven given → set ≡ given.set → length set ≡ length given.heap.memory.words
all_parts given set g same = ap length same ∙ g.set.parts

-- the words of the set, up to one part more
more : (given : Given) (part : ℕ) → words_before given (part + 1) ≡ words_before given part + cond (marked given.set part) (length (row given.heap.memory.words part)) 0
more given part = ap (words_before given) (let e : part + 1 ≡ suc part = omega arith in e)

pub words_in : (given : Given) (part : ℕ) → marked given.set part ≡ true → words_before given (part + 1) ≡ words_before given part + length (row given.heap.memory.words part)
words_in given part member = more given part ∙ ap (λ b. words_before given part + cond b (length (row given.heap.memory.words part)) 0) member

pub words_out : (given : Given) (part : ℕ) → marked given.set part ≡ false → words_before given (part + 1) ≡ words_before given part
words_out given part out = more given part ∙ ap (λ b. words_before given part + cond b (length (row given.heap.memory.words part)) 0) out ∙ (let e : words_before given part + 0 ≡ words_before given part = omega arith in e)
