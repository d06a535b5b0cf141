-- That a heap in parts with one site is one that the trial asks for.
use Rattle.std.proofs.Common.{◌≡◌, ◌∙◌, ℕ, zero, suc, ◌<◌, Bool, true, List, [], ◌∷◌, Option, length, nat_lt, refl, ap, subst, arith}
use Rattle.std.specs.List.{All, list_all}
use Rattle.cb_plain.specs.declared.shape.Shape.{Shape}
use Rattle.cb_plain.specs.State.{Object, Roots}
use Rattle.cb_dag.specs.Parts.{Condensed}
use Rattle.cb_heap.specs.Closed.{IsClosed, references_in}
use Rattle.cb_heap.specs.Kept.{is_held}
use Rattle.cb_heap.specs.Reading.{seen}
use Rattle.cb_partheap.specs.Heaps.{Heap, index_in, may_refer, objects_in, part_of, settings_in}
use Rattle.cb_partheap.specs.Made.{IsMade}
use Rattle.cb_memory_cases.specs.Trial.{IsReady, NamesNone, trial_kinds}

-- the one site's part
pub one_site : (parts : List ℕ) → length parts ≡ 1 → All (λ part. part < 1) parts → parts ≡ 0 ∷ []
one_site [] long below = absurd (omega (arith, long))
one_site (part ∷ []) long below = let small : part < 1 = below 0 part (omega arith) in ap (λ (n : ℕ). n ∷ []) (omega (arith, small))
one_site (part ∷ (more ∷ parts)) long below = absurd (omega (arith, long))

zero_part : (site : ℕ) → part_of (0 ∷ []) site ≡ 0
zero_part zero = refl
zero_part (suc site) = refl

zeros_refer : (edges : List (List Bool)) (one other : ℕ) → may_refer edges (part_of (0 ∷ []) one) (part_of (0 ∷ []) other) ≡ true
zeros_refer edges one other = ap (λ (n : ℕ). may_refer edges n (part_of (0 ∷ []) other)) (zero_part one) ∙ ap (λ (n : ℕ). may_refer edges 0 n) (zero_part other)

pub all_allowed : (heap : Heap) → IsReady heap → (one other : ℕ) → (settings_in heap).allows one other ≡ true
all_allowed heap ready one other = ap (λ parts. may_refer heap.edges (part_of parts one) (part_of parts other)) ready.sites ∙ zeros_refer heap.edges one other

pub site_known : (heap : Heap) → IsReady heap → (settings_in heap).knows 0 ≡ true
site_known heap ready = ap (λ parts. nat_lt 0 (length parts)) ready.sites

pub closed_ready : (heap : Heap) (roots : Roots) → IsReady heap → NamesNone roots → IsClosed (seen (index_in heap) (objects_in heap) roots)
closed_ready heap roots ready none =
    record {
      roots = ap (list_all (is_held (objects_in heap))) (none (index_in heap));
      objects = ap (λ (held : List (Option Object)). list_all (is_held held) (references_in held)) ready.objects;
    }

pub ready_made : {shapes : List Shape} {parts : List ℕ} {graph : Condensed} {blocks : ℕ} {heap : Heap} → IsMade shapes parts graph blocks heap → shapes ≡ trial_kinds → length parts ≡ 1 →
    All (λ part. part < graph.parts) parts → graph.parts ≡ 1 → IsReady heap
ready_made {parts = parts} {graph = graph} made kinds long below one =
    record {
      shapes = made.shapes_are ∙ kinds;
      sites = made.sites_are ∙ one_site parts long (subst (λ n. All (λ part. part < n) parts) one below);
      objects = made.objects;
    }
