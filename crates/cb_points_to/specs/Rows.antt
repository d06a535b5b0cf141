-- Rows of marks.
use Rattle.std.specs.Prelude.{ℕ, Bool, true, List, [], cond, slice_index_or, slice_set}
use Rattle.std.specs.List.{sum_by}

-- with one mark more
abbrev pub with_site : List (List Bool) → ℕ → ℕ → List (List Bool)
with_site rows node site = slice_set rows node (slice_set (slice_index_or rows node []) site true)

-- how many marks are not set
abbrev pub unmarked : List Bool → ℕ
unmarked marks = sum_by (λ mark. cond mark 0 1) marks

abbrev pub unset : List (List Bool) → ℕ
unset rows = sum_by unmarked rows
