-- Tables that lie one behind another.
use Rattle.std.proofs.Common.{◌≡◌, ◌∙◌, refl, ap, arith, ℕ, ◌+◌, ◌-◌, ◌<◌, ◌≤◌, List, ◌++◌, length, length-set, replicate, slice_range, slice_set, take}
use Rattle.std.proofs.lemmas.List.{drop-replicate, length-replicate, take-replicate, take_all}
use Rattle.std.proofs.lemmas.List.Edits.{length-between}
use Rattle.std.proofs.lemmas.Slice.{between_from_start}
use Rattle.cb_plain.specs.declared.table.Table.{Table}
use Rattle.cb_plain.specs.declared.table.Table.TheVariants as tables
use Rattle.cb_plain.specs.Roots.{table_in}
use Rattle.cb_plain.specs.State.{Tables}
use Rattle.cb_frames.specs.declared.object_tables.Starts.{Starts}
use Rattle.cb_frames.specs.declared.sizes.RootSizes.{RootSizes}
use Rattle.cb_frames.specs.Beginning.{blank_tables}
use Rattle.cb_frames.specs.Entries.{table_entries}
use Rattle.cb_frames.specs.InnerTables.{AreCut, start_of, table_at, tables_in, with_place}
use Rattle.cb_frames.proofs.Parts.{joined_parts, part_set_above, part_set_below, part_set_within}

pub joined_tables : (all : List ℕ) (starts : Starts) → AreCut all starts → table_entries (tables_in all starts) ≡ all
joined_tables all starts cut =
    ap (λ front. front ++ table_at all starts tables.Integers ++ table_at all starts tables.Longs ++ table_at all starts tables.Characters ++ table_at all starts tables.Booleans)
    (joined_parts all 0 starts.classes starts.integers (omega arith) cut.integers)
    ∙ ap (λ front. front ++ table_at all starts tables.Longs ++ table_at all starts tables.Characters ++ table_at all starts tables.Booleans)
    (joined_parts all 0 starts.integers starts.longs (omega arith) cut.longs)
    ∙ ap (λ front. front ++ table_at all starts tables.Characters ++ table_at all starts tables.Booleans)
    (joined_parts all 0 starts.longs starts.characters (omega arith) cut.characters)
    ∙ ap (λ front. front ++ table_at all starts tables.Booleans) (joined_parts all 0 starts.characters starts.booleans (omega arith) cut.booleans)
    ∙ joined_parts all 0 starts.booleans (length all) (omega arith) cut.end
    ∙ between_from_start all (length all)
    ∙ take_all (length all) all (omega arith)

blank_part : (n from to size : ℕ) → to ≤ n → to - from ≡ size → slice_range {X = ℕ} (replicate n 0) from to ≡ replicate size 0
blank_part n from to size within is =
    let none : ℕ = 0 in
    ap (take (to - from)) (drop-replicate from n none) ∙ take-replicate (to - from) (n - from) none (omega arith) ∙ ap (λ k. replicate k none) is

same_tables : (a b c d e f a' b' c' d' e' f' : List ℕ) → a ≡ a' → b ≡ b' → c ≡ c' → d ≡ d' → e ≡ e' → f ≡ f'
    → ◌≡◌ {A = Tables} (record { constants = a; classes = b; integers = c; longs = d; characters = e; booleans = f })
    (record { constants = a'; classes = b'; integers = c'; longs = d'; characters = e'; booleans = f' })
same_tables a b c d e f a' b' c' d' e' f' is-a is-b is-c is-d is-e is-f = rw (is-a, is-b, is-c, is-d, is-e, is-f) refl

pub tables_made : (all : List ℕ) (starts : Starts) (sizes : RootSizes) → starts.classes ≡ sizes.constants → starts.integers ≡ sizes.constants + sizes.kinds
    → starts.longs ≡ sizes.constants + sizes.kinds + 256 → starts.characters ≡ sizes.constants + sizes.kinds + 256 + 256
    → starts.booleans ≡ sizes.constants + sizes.kinds + 256 + 256 + 128 → all ≡ replicate (sizes.constants + sizes.kinds + 256 + 256 + 128 + 2) 0
    → tables_in all starts ≡ blank_tables sizes
tables_made all starts sizes classes integers longs characters booleans is =
    let size : length all ≡ sizes.constants + sizes.kinds + 256 + 256 + 128 + 2 = ap length is ∙ length-replicate (sizes.constants + sizes.kinds + 256 + 256 + 128 + 2) 0 in
    same_tables _ _ _ _ _ _ _ _ _ _ _ _
    (ap (λ held. slice_range held 0 starts.classes) is ∙ blank_part _ 0 starts.classes sizes.constants (omega arith) (omega arith))
    (ap (λ held. slice_range held starts.classes starts.integers) is ∙ blank_part _ starts.classes starts.integers sizes.kinds (omega arith) (omega arith))
    (ap (λ held. slice_range held starts.integers starts.longs) is ∙ blank_part _ starts.integers starts.longs 256 (omega arith) (omega arith))
    (ap (λ held. slice_range held starts.longs starts.characters) is ∙ blank_part _ starts.longs starts.characters 256 (omega arith) (omega arith))
    (ap (λ held. slice_range held starts.characters starts.booleans) is ∙ blank_part _ starts.characters starts.booleans 128 (omega arith) (omega arith))
    (ap (λ end. slice_range all starts.booleans end) size
    ∙ ap (λ held. slice_range held starts.booleans (sizes.constants + sizes.kinds + 256 + 256 + 128 + 2)) is
    ∙ blank_part _ starts.booleans (sizes.constants + sizes.kinds + 256 + 256 + 128 + 2) 2 (omega arith) (omega arith))

-- a place of one table is none of another
within_part : (all : List ℕ) (from to i : ℕ) → to ≤ length all → i < length (slice_range all from to) → from + i < to
within_part all from to i inside there = omega (arith, length-between all from to inside, there)

last_kept : (all : List ℕ) (from at to : ℕ) → at < from → slice_range (slice_set all at to) from (length (slice_set all at to)) ≡ slice_range all from (length all)
last_kept all from at to below = ap (slice_range (slice_set all at to) from) (length-set all at to) ∙ part_set_below all from (length all) at to below

pub placed_table : (all : List ℕ) (starts : Starts) (which : Table) (i to : ℕ) → AreCut all starts → i < length (table_in (tables_in all starts) which)
    → tables_in (slice_set all (start_of starts which + i) to) starts ≡ with_place (tables_in all starts) which i to
placed_table all starts tables.Constants i to cut there =
    let at : 0 + i < starts.classes = within_part all 0 starts.classes i (omega arith) there in
    same_tables _ _ _ _ _ _ _ _ _ _ _ _ (part_set_within all 0 starts.classes i to at) (part_set_below all _ _ _ to (omega arith)) (part_set_below all _ _ _ to (omega arith))
    (part_set_below all _ _ _ to (omega arith)) (part_set_below all _ _ _ to (omega arith)) (last_kept all starts.booleans (0 + i) to (omega arith))
placed_table all starts tables.ClassObjects i to cut there =
    let at : starts.classes + i < starts.integers = within_part all starts.classes starts.integers i (omega arith) there in
    same_tables _ _ _ _ _ _ _ _ _ _ _ _ (part_set_above all _ _ _ to (omega arith)) (part_set_within all starts.classes starts.integers i to at)
    (part_set_below all _ _ _ to (omega arith)) (part_set_below all _ _ _ to (omega arith)) (part_set_below all _ _ _ to (omega arith))
    (last_kept all starts.booleans (starts.classes + i) to (omega arith))
placed_table all starts tables.Integers i to cut there =
    let at : starts.integers + i < starts.longs = within_part all starts.integers starts.longs i (omega arith) there in
    same_tables _ _ _ _ _ _ _ _ _ _ _ _ (part_set_above all _ _ _ to (omega arith)) (part_set_above all _ _ _ to (omega arith))
    (part_set_within all starts.integers starts.longs i to at) (part_set_below all _ _ _ to (omega arith)) (part_set_below all _ _ _ to (omega arith))
    (last_kept all starts.booleans (starts.integers + i) to (omega arith))
placed_table all starts tables.Longs i to cut there =
    let at : starts.longs + i < starts.characters = within_part all starts.longs starts.characters i (omega arith) there in
    same_tables _ _ _ _ _ _ _ _ _ _ _ _ (part_set_above all _ _ _ to (omega arith)) (part_set_above all _ _ _ to (omega arith)) (part_set_above all _ _ _ to (omega arith))
    (part_set_within all starts.longs starts.characters i to at) (part_set_below all _ _ _ to (omega arith)) (last_kept all starts.booleans (starts.longs + i) to (omega arith))
placed_table all starts tables.Characters i to cut there =
    let at : starts.characters + i < starts.booleans = within_part all starts.characters starts.booleans i (omega arith) there in
    same_tables _ _ _ _ _ _ _ _ _ _ _ _ (part_set_above all _ _ _ to (omega arith)) (part_set_above all _ _ _ to (omega arith)) (part_set_above all _ _ _ to (omega arith))
    (part_set_above all _ _ _ to (omega arith)) (part_set_within all starts.characters starts.booleans i to at) (last_kept all starts.booleans (starts.characters + i) to (omega arith))
placed_table all starts tables.Booleans i to cut there =
    let at : starts.booleans + i < length all = within_part all starts.booleans (length all) i (omega arith) there in
    same_tables _ _ _ _ _ _ _ _ _ _ _ _ (part_set_above all _ _ _ to (omega arith)) (part_set_above all _ _ _ to (omega arith)) (part_set_above all _ _ _ to (omega arith))
    (part_set_above all _ _ _ to (omega arith)) (part_set_above all _ _ _ to (omega arith))
    (ap (slice_range (slice_set all (starts.booleans + i) to) starts.booleans) (length-set all (starts.booleans + i) to) ∙ part_set_within all starts.booleans (length all) i to at)
