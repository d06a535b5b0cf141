-- A store in which a word of an object's contents was written.
use Rattle.std.proofs.Common.{◌≡◌, ◌∙◌, ℕ, ◌+◌, ◌<◌, Bool, true, false, IsTrue, List, [], Option, None, length, replicate, set, sym, ap, subst, inl, inr}
use Rattle.std.proofs.lemmas.Bool.{cases_eq}
use Rattle.std.proofs.lemmas.List.{get_or-set_other, get_or-set_same, length-set}
use Rattle.cb_plain.specs.State.{Content}
use Rattle.cb_heap.specs.Kept.{content_at}
use Rattle.cb_heap.specs.Reading.{serial_of}
use Rattle.cb_dag.specs.Parts.{AreWithin, Condensed}
use Rattle.cb_blocks.specs.Rows.{row}
use Rattle.cb_partheap.specs.Heaps.{Heap, index_in, objects_in, with_word}
use Rattle.cb_partheap.specs.Made.{IsGridOf}
use Rattle.cb_partheap.specs.Marks.{IsUnmarked}
use Rattle.cb_partheap.specs.Spots.{IsSpot, Spot, place_of, words_by}
use Rattle.cb_partheap.specs.Whole.{IsHeap}
use Rattle.cb_partheap.proofs.Laws.{found_word}
use Rattle.cb_collector.specs.Held.{Held, IsCollecting, config_in, known_in}
use Rattle.cb_collector.specs.Known.{Config, Known}

-- one word of an object that is there was written
pub record IsPut (old new : Heap) (i word : ℕ) : Type 0 where
  pub spot : Spot
  pub here : IsSpot old.memory spot
  pub is : new ≡ with_word old spot i word

pub put_is : (test : Option Content → Bool) → test None ≡ false → (old new : Heap) (at i word : ℕ) → IsHeap old → IsTrue (test (content_at (objects_in old) (serial_of (index_in old) at) i)) →
    ((spot : Spot) → IsSpot old.memory spot → place_of old.memory spot ≡ at → new ≡ with_word old spot i word) → IsPut old new i word
put_is test none old new at i word is passes written =
    let w = found_word test none old at i is passes in
    record { spot = w.found.spot; here = w.found.is; is = written w.found.spot w.found.is w.found.place }

row_long : (rows : List (List ℕ)) (part : ℕ) (words : List ℕ) (other : ℕ) → part < length rows → length words ≡ length (row rows part) → length (row (set rows part words) other) ≡ length (row rows other)
row_long rows part words other below same =
    elim (cases_eq other part) [
      | inl here ↦ ap (λ p. length (row (set rows part words) p)) here ∙ ap length (get_or-set_same rows part words [] below) ∙ same ∙ ap (λ p. length (row rows p)) (sym here)
      | inr differs ↦ ap length (get_or-set_other rows part other words [] differs)
    ]

module _ (old new : Heap) (i word : ℕ) (p : IsPut old new i word) where
  abbrev written : List ℕ
  written = set (words_by old.memory p.spot) (p.spot.start + (3 + i)) word

  parts_put : length new.memory.words ≡ length old.memory.words
  parts_put = ap (λ (h : Heap). length h.memory.words) p.is ∙ length-set old.memory.words p.spot.part written

  rows_put : (part : ℕ) → length (row new.memory.words part) ≡ length (row old.memory.words part)
  rows_put part =
      ap (λ (h : Heap). length (row h.memory.words part)) p.is ∙ row_long old.memory.words p.spot.part written part p.here.part (length-set (words_by old.memory p.spot) (p.spot.start + (3 + i)) word)

  config_put : (graph : Condensed) → config_in new graph ≡ config_in old graph
  config_put graph =
      ap (λ (h : Heap). config_in h graph) p.is ∙ ap (λ n. let c : Config = record (config_in old graph) { parts = n } in c) (length-set old.memory.words p.spot.part written)

  pub known_put : {Output : Type 0} (told : Output → Option (List ℕ)) (held now : Held Output) → held ≡ now → held.heap ≡ old → known_in told (record held { heap = new }) ≡ known_in told now
  known_put {Output} told held now same heap =
      ap (λ c. let k : Known = record (known_in told held) { config = c } in k) (config_put held.graph ∙ ap (λ h. config_in h held.graph) (sym heap)) ∙ ap (known_in told) same

  pub still_put : {Output : Type 0} (held : Held Output) (blocks : ℕ) (all : List Bool) → held.heap ≡ old → IsCollecting held blocks all → IsUnmarked new → IsCollecting (record held { heap = new }) blocks all
  still_put {Output} held blocks all heap is unmarked =
      let parts : length new.memory.words ≡ length held.heap.memory.words = parts_put ∙ ap (λ (h : Heap). length h.memory.words) (sym heap) in
      record {
        unmarked = unmarked;
        grid = subst (λ n. IsGridOf n held.graph.edges new.edges) (sym parts)
            (subst (λ e. IsGridOf (length held.heap.memory.words) held.graph.edges e) (ap (λ (h : Heap). h.edges) heap ∙ ap (λ (h : Heap). h.edges) (sym p.is)) is.grid);
        within = subst (λ n. AreWithin n held.graph.edges) (sym parts) is.within;
        knows = record {
          each = is.knows.each ∙ sym parts;
          known = λ part of there.
              let k = is.knows.known part of there in
              record { number = k.number; words = k.words ∙ ap (λ (h : Heap). length (row h.memory.words part)) heap ∙ sym (rows_put part); are = k.are };
        };
        blocks_are = is.blocks_are ∙ ap (λ (h : Heap). h.memory.blocks) heap ∙ ap (λ (h : Heap). h.memory.blocks) (sym p.is);
        all_are = is.all_are ∙ ap (λ n. replicate n true) (sym parts);
      }
