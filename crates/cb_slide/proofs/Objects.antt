-- References are rewritten, object by object.
use Rattle.std.proofs.Common.{◌≡◌, ◌∙◌, ℕ, ◌+◌, ◌-◌, ◌^◌, ◌<◌, ◌≤◌, Bool, List, cond, length, sym, ap, arith, subst, inl, inr}
use Rattle.std.proofs.lemmas.Bool.{cases_lt, le-ltb}
use Rattle.cb_plain.specs.State.{words_of}
use Rattle.cb_plain.specs.declared.shape.Shape.{Shape}
use Rattle.cb_blocks.specs.Parted.{Parted}
use Rattle.cb_blocks.specs.Rows.{row}
use Rattle.cb_partheap.specs.Headers.{IsHeader}
use Rattle.cb_partheap.specs.Marks.{IsMarked}
use Rattle.cb_partheap.specs.Spots.{IsSpot, Spot, place_of, words_by}
use Rattle.cb_partheap.specs.Words.{mark_at, size_at}
use Rattle.cb_partheap.proofs.Laws.{alike_place, part_room, within}
use Rattle.cb_slide.specs.Slid.{slid}
use Rattle.cb_slide.specs.Sliding.{Given, IsIn, RewrittenScan, RewrittenTo, Rewrites}
use Rattle.cb_slide.proofs.Carried.{word_kept}
use Rattle.cb_slide.proofs.Forwards.{edge_first, edge_next, edge_spot, spot_at}
use Rattle.cb_slide.proofs.Puts.{header_alike, size_alike}
use Rattle.cb_slide.proofs.Rewriting.{forwarding_place, rewritten_within}

pub rewrite_less : {given : Given} {memory : Parted} {part : ℕ} (scan end : ℕ) → RewrittenTo given memory part 0 → end ≡ length (row memory.words part) → scan < end → scan < length (row given.heap.memory.words part)
rewrite_less {given} {memory} {part} scan end r is less = omega (arith, is, less, r.forwarded.alike.long part)

pub rewrite_past : {given : Given} {memory : Parted} {part : ℕ} (scan end : ℕ) → RewrittenTo given memory part 0 → end ≡ length (row memory.words part) → end ≤ scan → length (row given.heap.memory.words part) ≤ scan
rewrite_past {given} {memory} {part} scan end r is past = omega (arith, is, past, r.forwarded.alike.long part)

pub rewrite_first : {given : Given} {memory : Parted} {part : ℕ} → RewrittenTo given memory part 0 → RewrittenScan given memory part 0
rewrite_first {given} {memory} {part} r = record { so_far = r; edge = edge_first given part }

module _ {given : Given} {memory : Parted} {part scan : ℕ} (s : RewrittenScan given memory part scan) (is : IsIn given part) (less : scan < length (row given.heap.memory.words part)) (at : ℕ) (place : at ≡ place_of memory (spot_at part scan)) where
  here : IsSpot given.heap.memory (spot_at part scan)
  here = edge_spot scan is s.edge less

  place_was : place_of given.heap.memory (spot_at part scan) ≡ at
  place_was = sym (alike_place given.heap.memory memory (spot_at part scan) s.so_far.forwarded.alike) ∙ sym place

  pub header_now : IsHeader memory at (spot_at part scan)
  header_now = header_alike given.heap memory (spot_at part scan) at s.so_far.forwarded.given_is.heap s.so_far.forwarded.alike here place_was

  pub size_now : (size : ℕ) → ((spot : Spot) → IsHeader memory at spot → size ≡ words_of (size_at (words_by memory spot) spot.start)) → size ≡ words_of (size_at (row given.heap.memory.words part) scan)
  size_now size read = read (spot_at part scan) header_now ∙ ap words_of (size_alike given.heap.memory memory (spot_at part scan) s.so_far.forwarded.alike here)

  pub fits_now : (size : ℕ) → size ≡ words_of (size_at (row given.heap.memory.words part) scan) → (scan + size ≤ length (row given.heap.memory.words part)) × (length (row given.heap.memory.words part) ≤ 2 ^ 28) × (3 ≤ size)
  fits_now size same =
      let g = s.so_far.forwarded.given_is in (
        omega (arith, same, within given.heap (spot_at part scan) g.heap here),
        omega (arith, part_room given.heap part g.heap is.below, g.heap.parted.bound),
        omega (arith, same),
      )

  pub kept_now : (mark : ℕ) → ((spot : Spot) → IsHeader memory at spot → mark ≡ mark_at (words_by memory spot) spot.start) → (mark ≡ 0 → ⊥) → IsMarked given.heap.memory (spot_at part scan)
  kept_now mark read some =
      elim (cases_lt 0 (mark_at (row given.heap.memory.words part) scan)) [
        | inl kept ↦ kept
        | inr none ↦
            let after = ap (λ b. cond b (place_of given.heap.memory (slid given.set given.heap.memory (spot_at part scan))) 0) (le-ltb 0 (mark_at (row given.heap.memory.words part) scan) none) in
            absurd (some (read (spot_at part scan) header_now ∙ s.so_far.forwarded.marks (spot_at part scan) here ∙ after))
      ]

  pub gone_now : (mark : ℕ) → ((spot : Spot) → IsHeader memory at spot → mark ≡ mark_at (words_by memory spot) spot.start) → mark ≡ 0 → mark_at (row given.heap.memory.words part) scan ≡ 0
  gone_now mark read none =
      elim (cases_lt 0 (mark_at (row given.heap.memory.words part) scan)) [
        | inr past ↦ omega (arith, past)
        | inl kept ↦
            let place_is : mark ≡ place_of given.heap.memory (slid given.set given.heap.memory (spot_at part scan)) =
            read (spot_at part scan) header_now ∙ s.so_far.forwarded.marks (spot_at part scan) here ∙ forwarding_place given (spot_at part scan) kept in
            absurd (omega (arith, none, place_is))
      ]

  from_here : RewrittenTo given memory part (scan + 0)
  from_here = subst (RewrittenTo given memory part) (let e : scan ≡ scan + 0 = omega arith in e) s.so_far

  pub object_next : (all : List Shape) (set : List Bool) (size : ℕ) → size ≡ words_of (size_at (row given.heap.memory.words part) scan) → IsMarked given.heap.memory (spot_at part scan) → set ≡ given.set → all ≡ given.heap.shapes →
      Rewrites given memory all set at (size - 3) (spot_at part scan)
  object_next all set size same kept set_is shapes_are =
      record {
        so_far = rewritten_within (spot_at part scan) 0 3 from_here here (omega arith) (omega arith) (λ i below low high. absurd (omega (arith, high)));
        here = here;
        place = place_was;
        kept = kept;
        size_is = omega (arith, same);
        set_is = set_is;
        shapes_are = shapes_are;
      }

  pub object_passed : (size : ℕ) → size ≡ words_of (size_at (row given.heap.memory.words part) scan) → mark_at (row given.heap.memory.words part) scan ≡ 0 → RewrittenScan given memory part (scan + size)
  object_passed size same none =
      record {
        so_far = rewritten_within (spot_at part scan) 0 size from_here here (omega arith) (omega (arith, same)) (λ i below low high. word_kept given (spot_at part scan) i none);
        edge = edge_next scan size s.so_far.forwarded.given_is is s.edge less same;
      }

  pub object_done : (memory' : Parted) (size : ℕ) → size ≡ words_of (size_at (row given.heap.memory.words part) scan) → RewrittenTo given memory' part (scan + words_of (size - 3)) → RewrittenScan given memory' part (scan + size)
  object_done memory' size same r =
      record {
        so_far = subst (λ n. RewrittenTo given memory' part (scan + n)) (let e : words_of (size - 3) ≡ size = omega (arith, same) in e) r;
        edge = edge_next scan size s.so_far.forwarded.given_is is s.edge less same;
      }

pub same_rewritten : {given : Given} {part scan : ℕ} (memory memory' : Parted) → memory' ≡ memory → RewrittenScan given memory part scan → RewrittenScan given memory' part scan
same_rewritten {given} {part} {scan} memory memory' same s = subst (λ (m : Parted). RewrittenScan given m part scan) (sym same) s
