-- Rows in pieces of one length.
use Rattle.std.proofs.Common.{◌≡◌, ◌∙◌, ℕ, ◌+◌, ◌-◌, ◌*◌, ◌/◌, ◌<◌, ◌≤◌, ◌≢◌, ◌^◌, List, [], ◌∷◌, ◌++◌, length, get_or, set, take, replicate, sym, ap, subst, arith, length-set, get_or-set_same, get_or-set_other, inl, inr}
use Rattle.std.proofs.Math.Nat.{mul-le-mul_right}
use Rattle.std.proofs.lemmas.Bool.{cases_eq}
use Rattle.std.proofs.lemmas.List.{get_or-replicate, length-replicate}
use Rattle.std.proofs.lemmas.Nat.{div-mul-add}
use Rattle.std.proofs.lemmas.Option.{slice_get-get_or}
use Rattle.std.specs.List.{slice_get}
use Rattle.std.specs.declared.option.Option.TheVariants.{Some}
use Rattle.cb_blocks.specs.FlatRows.{IsFlat, flat_row, flat_rows}
use Rattle.cb_blocks.specs.Rows.{popped, pushed, row, tabulated}
use Rattle.cb_blocks.proofs.Tabulated.{get_or-tabulated, is_tabulated, length-tabulated, same_tabulated, set_tabulated, tabulated_more, take-tabulated}

pub parts_flat : (numbers lens : List ℕ) (longest : ℕ) → length (flat_rows numbers lens longest) ≡ length lens
parts_flat numbers lens longest = length-tabulated (length lens) _

pub row_flat : (numbers lens : List ℕ) (longest part : ℕ) → part < length lens → row (flat_rows numbers lens longest) part ≡ flat_row numbers (part * longest) (get_or lens part 0)
row_flat numbers lens longest part below = get_or-tabulated (length lens) _ part [] below

pub len_flat : (numbers lens : List ℕ) (longest part : ℕ) → part < length lens → length (row (flat_rows numbers lens longest) part) ≡ get_or lens part 0
len_flat numbers lens longest part below = ap length (row_flat numbers lens longest part below) ∙ length-tabulated (get_or lens part 0) _

pub item_flat : (numbers lens : List ℕ) (longest part i d : ℕ) → part < length lens → i < get_or lens part 0 → get_or (row (flat_rows numbers lens longest) part) i d ≡ get_or numbers (part * longest + i) 0
item_flat numbers lens longest part i d below inside = ap (λ xs. get_or xs i d) (row_flat numbers lens longest part below) ∙ get_or-tabulated (get_or lens part 0) _ i d inside

pub place_flat : (numbers lens : List ℕ) (longest part i : ℕ) → IsFlat numbers lens longest → part < length lens → i < longest → part * longest + i < length numbers
place_flat numbers lens longest part i is below inside =
    let fits : (part + 1) * longest ≤ length lens * longest = mul-le-mul_right longest (omega (arith, below)) in
    omega (arith, fits, is.whole, inside)

pub pushed_flat : (numbers lens : List ℕ) (longest part number : ℕ) → IsFlat numbers lens longest → part < length lens → get_or lens part 0 < longest
    → flat_rows (set numbers (part * longest + get_or lens part 0) number) (set lens part (get_or lens part 0 + 1)) longest ≡ pushed (flat_rows numbers lens longest) part number
pushed_flat numbers lens longest part number is below inside =
    let len : ℕ = get_or lens part 0 in
    let at : ℕ = part * longest + len in
    let new : List ℕ = set numbers at number in
    let there : at < length numbers = place_flat numbers lens longest part len is below inside in
    let away : (other i : ℕ) → other < length lens → i < longest → (other ≡ part → i ≡ len → ⊥) → other * longest + i ≢ at =
    λ other i h small differs same.
    let parts : other ≡ part = sym (div-mul-add other longest i small) ∙ ap (λ n. n / longest) same ∙ div-mul-add part longest len inside in
    differs parts (omega (arith, same, ap (λ n. n * longest) parts)) in
    sym (ap (λ xs. set (flat_rows numbers lens longest) part (xs ++ number ∷ [])) (row_flat numbers lens longest part below)
    ∙ set_tabulated (length lens) _ (λ p. flat_row new (p * longest) (get_or (set lens part (len + 1)) p 0)) part _ below
    (ap (λ n. flat_row new (part * longest) n) (get_or-set_same lens part (len + 1) 0 below)
    ∙ tabulated_more len _
    ∙ ap (λ x. flat_row new (part * longest) len ++ x ∷ []) (get_or-set_same numbers at number 0 there)
    ∙ ap (λ xs. xs ++ number ∷ []) (same_tabulated len _ _ (λ i h. get_or-set_other numbers at (part * longest + i) number 0 (away part i below (omega (arith, h, inside)) (λ e f. omega (arith, f, h))))))
    (λ other h differs.
    ap (λ n. flat_row new (other * longest) n) (get_or-set_other lens part other (len + 1) 0 differs)
    ∙ same_tabulated (get_or lens other 0) _ _ (λ i inner. get_or-set_other numbers at (other * longest + i) number 0 (away other i h (omega (arith, inner, is.short other h)) (λ e f. differs e))))
    ∙ ap (λ n. tabulated n (λ p. flat_row new (p * longest) (get_or (set lens part (len + 1)) p 0))) (sym (length-set lens part (len + 1))))

pub popped_flat : (numbers lens : List ℕ) (longest part : ℕ) → part < length lens
    → flat_rows numbers (set lens part (get_or lens part 0 - 1)) longest ≡ popped (flat_rows numbers lens longest) part
popped_flat numbers lens longest part below =
    let len : ℕ = get_or lens part 0 in
    sym (ap (λ xs. set (flat_rows numbers lens longest) part (take (length xs - 1) xs)) (row_flat numbers lens longest part below)
    ∙ set_tabulated (length lens) _ (λ p. flat_row numbers (p * longest) (get_or (set lens part (len - 1)) p 0)) part _ below
    (ap (λ n. flat_row numbers (part * longest) n) (get_or-set_same lens part (len - 1) 0 below)
    ∙ sym (ap (λ n. take (n - 1) (flat_row numbers (part * longest) len)) (length-tabulated len _) ∙ take-tabulated len _ (len - 1) (omega arith)))
    (λ other h differs. ap (λ n. flat_row numbers (other * longest) n) (get_or-set_other lens part other (len - 1) 0 differs))
    ∙ ap (λ n. tabulated n (λ p. flat_row numbers (p * longest) (get_or (set lens part (len - 1)) p 0))) (sym (length-set lens part (len - 1))))

-- the rows are as many and as short as before
pub whole_flat : (numbers lens : List ℕ) (longest at number part len : ℕ) → IsFlat numbers lens longest → part < length lens → len ≤ longest → IsFlat (set numbers at number) (set lens part len) longest
whole_flat numbers lens longest at number part len is below small = record {
  whole = length-set numbers at number ∙ is.whole ∙ ap (λ n. n * longest) (sym (length-set lens part len));
  short = λ other h. elim (cases_eq other part) [
    | inl same ↦ subst (λ n. n ≤ longest) (sym (ap (λ p. get_or (set lens part len) p 0) same ∙ get_or-set_same lens part len 0 below)) small
    | inr differs ↦ subst (λ n. n ≤ longest) (sym (get_or-set_other lens part other len 0 differs)) (is.short other (subst (λ n. other < n) (length-set lens part len) h))
  ];
  small = subst (λ n. n < 2 ^ 63) (sym (length-set numbers at number)) is.small;
  bound = is.bound;
}

pub counted_flat : (numbers lens : List ℕ) (longest part len : ℕ) → IsFlat numbers lens longest → part < length lens → len ≤ longest → IsFlat numbers (set lens part len) longest
counted_flat numbers lens longest part len is below small = record {
  whole = is.whole ∙ ap (λ n. n * longest) (sym (length-set lens part len));
  short = λ other h. elim (cases_eq other part) [
    | inl same ↦ subst (λ n. n ≤ longest) (sym (ap (λ p. get_or (set lens part len) p 0) same ∙ get_or-set_same lens part len 0 below)) small
    | inr differs ↦ subst (λ n. n ≤ longest) (sym (get_or-set_other lens part other len 0 differs)) (is.short other (subst (λ n. other < n) (length-set lens part len) h))
  ];
  small = is.small;
  bound = is.bound;
}

pub none_flat : (parts longest : ℕ) (numbers : List ℕ) → flat_rows numbers (replicate parts 0) longest ≡ replicate parts []
none_flat parts longest numbers =
    sym (is_tabulated (replicate parts []) (length (replicate parts 0)) _ (length-replicate parts [] ∙ sym (length-replicate parts 0))
    (λ i d h. let below : i < parts = subst (λ n. i < n) (length-replicate parts 0) h in
    get_or-replicate parts i [] d below ∙ ap (λ n. flat_row numbers (i * longest) n) (sym (get_or-replicate parts i 0 0 below))))

-- the same of rows that are seen as these
pub part_seen : (numbers lens : List ℕ) (longest : ℕ) (rows : List (List ℕ)) (part : ℕ) → flat_rows numbers lens longest ≡ rows → part < length rows → part < length lens
part_seen numbers lens longest rows part seen below = omega (arith, below, ap length seen, parts_flat numbers lens longest)

pub len_seen : (numbers lens : List ℕ) (longest : ℕ) (rows : List (List ℕ)) (part : ℕ) → flat_rows numbers lens longest ≡ rows → part < length rows → get_or lens part 0 ≡ length (row rows part)
len_seen numbers lens longest rows part seen below =
    sym (len_flat numbers lens longest part (part_seen numbers lens longest rows part seen below)) ∙ ap (λ r. length (row r part)) seen

pub place_seen : (numbers lens : List ℕ) (longest : ℕ) (rows : List (List ℕ)) (part i : ℕ) → IsFlat numbers lens longest → flat_rows numbers lens longest ≡ rows → part < length rows → i < length (row rows part)
    → part * longest + i < length numbers
place_seen numbers lens longest rows part i is seen below inside =
    let inner = part_seen numbers lens longest rows part seen below in
    place_flat numbers lens longest part i is inner (omega (arith, inside, len_seen numbers lens longest rows part seen below, is.short part inner))

pub read_seen : (numbers lens : List ℕ) (longest : ℕ) (rows : List (List ℕ)) (part i number : ℕ) → flat_rows numbers lens longest ≡ rows → part < length rows → i < length (row rows part)
    → number ≡ get_or numbers (part * longest + i) 0 → slice_get (row rows part) i ≡ Some number
read_seen numbers lens longest rows part i number seen below inside is =
    let inner = part_seen numbers lens longest rows part seen below in
    slice_get-get_or (row rows part) i 0 inside
    ∙ ap Some (ap (λ r. get_or (row r part) i 0) (sym seen) ∙ item_flat numbers lens longest part i 0 inner (omega (arith, inside, len_seen numbers lens longest rows part seen below)) ∙ sym is)
