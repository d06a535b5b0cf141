-- Blocks that objects take, and that are asked for beside them.
use Rattle.std.proofs.Common.{◌≡◌, ◌∙◌, ℕ, ◌+◌, List, [], length, sym, ap, arith}
use mathlib.Core.Path.{fun_ext}
use Rattle.cb_plain.specs.declared.want.Want.{Want}
use Rattle.cb_heap.specs.Occupancy.{blocks, blocks_of, used, wanted}
use Rattle.cb_blocks.specs.Parted.{taken}
use Rattle.cb_blocks.specs.Rows.{row}
use Rattle.cb_partheap.specs.Heaps.{Heap, objects_in, part_of}
use Rattle.cb_partheap.specs.Whole.{IsHeap, blocks_with}
use Rattle.cb_partheap.proofs.Occupied.{used_is}
use Rattle.cb_partheap.proofs.Rooms.{nothing_asked, range_same}

abbrev pub blocks_beside : Heap → List Want → ℕ
blocks_beside heap wants = blocks (length heap.memory.words) (λ part. used (part_of heap.site_parts) (objects_in heap) part + wanted (part_of heap.site_parts) wants part)

beside : (heap : Heap) (wants : List Want) → IsHeap heap → blocks_beside heap wants ≡ blocks_with heap wants
beside heap wants is =
    range_same (λ part. blocks_of (length (row heap.memory.words part) + wanted (part_of heap.site_parts) wants part)) (λ part. blocks_of (used (part_of heap.site_parts) (objects_in heap) part + wanted (part_of heap.site_parts) wants part)) 0
    (length heap.memory.words) (λ part low high. ap (λ n. blocks_of (n + wanted (part_of heap.site_parts) wants part)) (used_is heap part is (omega (arith, high))))

abbrev pub blocks_kept : Heap → ℕ
blocks_kept heap = blocks (length heap.memory.words) (used (part_of heap.site_parts) (objects_in heap))

kept : (heap : Heap) → IsHeap heap → blocks_kept heap ≡ taken heap.memory.words
kept heap is =
    ap (blocks (length heap.memory.words)) (fun_ext (λ part. let n : ℕ = used (part_of heap.site_parts) (objects_in heap) part in let e : n ≡ n + 0 = omega arith in e))
    ∙ beside heap [] is ∙ sym (nothing_asked heap.memory.words heap.site_parts)

pub free_of : {heap now : Heap} (free : ℕ) → IsHeap heap → heap ≡ now → taken heap.memory.words + free ≡ heap.memory.blocks → blocks_kept now + free ≡ now.memory.blocks
free_of {heap} {now} free is same has = ap (λ (h : Heap). blocks_kept h + free) (sym same) ∙ ap (λ n. n + free) (kept heap is) ∙ has ∙ ap (λ (h : Heap). h.memory.blocks) same

pub asked_of : {heap now : Heap} (wants : List Want) (more : ℕ) → IsHeap heap → heap ≡ now → more + taken heap.memory.words ≡ blocks_with heap wants → blocks_kept now + more ≡ blocks_beside now wants
asked_of {heap} {now} wants more is same needed =
    ap (λ (h : Heap). blocks_kept h + more) (sym same)
    ∙ (let here : blocks_kept heap + more ≡ blocks_beside heap wants = omega (arith, needed, kept heap is, beside heap wants is) in here)
    ∙ ap (λ (h : Heap). blocks_beside h wants) same
