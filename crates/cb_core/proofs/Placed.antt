-- The places of instructions, one after the other.
use Rattle.std.proofs.Common.{◌≡◌, ◌∙◌, ap, sym, refl, subst, arith, ℕ, suc, ◌+◌, ◌*◌, ◌<◌, ◌≤◌, ◌^◌, List, [], ◌∷◌, ◌++◌, length, map, take, get_or}
use Rattle.std.specs.List.{AllByRecursion}
use Rattle.std.proofs.lemmas.List.{length-map, length-take, map-append, take_more}
use Rattle.cb_library.specs.Rows.{Instruction, Plain}
use Rattle.cb_core.specs.declared.row.Instruction.{Instruction as Row}
use Rattle.cb_core.specs.Built.{places_from, size_of}
use Rattle.cb_core.specs.Rowed.{insn_row}
use Rattle.cb_core.proofs.Zipped.{take_past}

-- the place behind instructions
unfoldable pub behind : ℕ → List Instruction → ℕ
behind pc [] = pc
behind pc (insn ∷ code) = behind (pc + size_of insn) code

pub places_both : (pc : ℕ) (front back : List Instruction) → places_from pc (front ++ back) ≡ places_from pc front ++ places_from (behind pc front) back
unfolding behind
places_both pc [] back = refl
places_both pc (insn ∷ front) back = ap (λ rest. pc ∷ rest) (places_both (pc + size_of insn) front back)

behind_both : (pc : ℕ) (front : List Instruction) (insn : Instruction) → behind pc (front ++ insn ∷ []) ≡ behind pc front + size_of insn
unfolding behind
behind_both pc [] insn = refl
behind_both pc (first ∷ front) insn = behind_both (pc + size_of first) front insn

pub size_small : (insn : Instruction) → size_of insn ≤ 3
size_small (Plain opcode) = omega arith
size_small other = omega arith

behind_small : (pc : ℕ) (code : List Instruction) → behind pc code ≤ pc + 3 * length code
unfolding behind
behind_small pc [] = omega arith
behind_small pc (insn ∷ code) = omega (arith, behind_small (pc + size_of insn) code, size_small insn)

-- places so far, and the next one
pub record IsPlaced (code : List Instruction) (found : List ℕ) (place : ℕ) : Type 0 where
  pub is : found ≡ places_from 0 code
  pub next : place ≡ behind 0 code

pub placed_start : (found : List ℕ) → found ≡ [] → IsPlaced [] found 0
unfolding behind
placed_start found is = record { is = is; next = refl }

pub placed_more : (rows : List Row) (i : ℕ) (d : Row) (found more : List ℕ) (place size : ℕ) → i < length rows → more ≡ found ++ place ∷ [] → size ≡ size_of (insn_row (get_or rows i d)) → IsPlaced (map insn_row (take i rows)) found place
    → IsPlaced (map insn_row (take (i + 1) rows)) more (place + size)
unfolding behind
placed_more rows i d found more place size below pushed is so_far =
    let row : Row = get_or rows i d in
    let front : List Instruction = map insn_row (take i rows) in
    let all : map insn_row (take (i + 1) rows) ≡ front ++ insn_row row ∷ [] = ap (map insn_row) (take_more rows i d below) ∙ map-append insn_row (take i rows) (row ∷ []) in
    subst (λ code. IsPlaced code more (place + size)) (sym all) (record {
      is = pushed ∙ ap (λ found. found ++ place ∷ []) so_far.is ∙ ap (λ place. places_from 0 front ++ place ∷ []) so_far.next ∙ sym (places_both 0 front (insn_row row ∷ []));
      next = ap (λ place. place + size) so_far.next ∙ ap (λ size. behind 0 front + size) is ∙ sym (behind_both 0 front (insn_row row));
    })

pub placed_all : (rows : List Row) (i : ℕ) (found : List ℕ) (place : ℕ) → length rows ≤ i → IsPlaced (map insn_row (take i rows)) found place → found ≡ places_from 0 (map insn_row rows)
placed_all rows i found place past so_far = so_far.is ∙ ap (λ rows. places_from 0 (map insn_row rows)) (take_past rows i past)

-- few instructions have places below
pub place_below : (rows : List Row) (i : ℕ) (found : List ℕ) (place size : ℕ) → length rows ≤ 1000 → size ≤ 3 → IsPlaced (map insn_row (take i rows)) found place → place + size < 2 ^ 16
place_below rows i found place size few small so_far =
    omega (arith, behind_small 0 (map insn_row (take i rows)), so_far.next, length-map (take i rows) insn_row, length-take i rows, few, small)

pub small_of : (row : Row) (size : ℕ) → size ≡ size_of (insn_row row) → size ≤ 3
small_of row size is = omega (arith, is, size_small (insn_row row))

-- as many places as instructions, each of two bytes
pub places_count : (pc : ℕ) (code : List Instruction) → length (places_from pc code) ≡ length code
places_count pc [] = refl
places_count pc (insn ∷ code) = ap suc (places_count (pc + size_of insn) code)

all_below : (pc bound : ℕ) (code : List Instruction) → pc + 3 * length code < bound → AllByRecursion (λ place. place < bound) (places_from pc code)
all_below pc bound [] small = tt
all_below pc bound (insn ∷ code) small = (omega (arith, small), all_below (pc + size_of insn) bound code (omega (arith, small, size_small insn)))

pub places_short : (code : List Instruction) → length code ≤ 1000 → AllByRecursion (λ place. place < 2 ^ 16) (places_from 0 code)
places_short code few = all_below 0 (2 ^ 16) code (omega (arith, few))
