-- What is known when an object was placed.
use Rattle.std.proofs.Common.{◌≡◌, ◌≢◌, ◌∙◌, ℕ, ◌+◌, ◌*◌, ◌^◌, ◌<◌, ◌≤◌, ◌++◌, Bool, true, false, List, [], Option, length, replicate, get_or, sym, ap, arith, subst, inl, inr}
use Rattle.std.proofs.lemmas.Bool.{cases_eq}
use Rattle.std.proofs.lemmas.List.{get_or-set_other, get_or-set_same, length-append, length-replicate, length-set}
use Rattle.std.proofs.lemmas.Option.{get_or_from_slice_get, slice_get_within}
use Rattle.cb_plain.specs.Requests.{words_at}
use Rattle.cb_plain.specs.State.{words_of}
use Rattle.cb_plain.specs.declared.facts.Facts.{Facts}
use Rattle.cb_dag.specs.Parts.{AreWithin, Condensed}
use Rattle.cb_blocks.specs.Parted.{Parted}
use Rattle.cb_blocks.specs.Rows.{row}
use Rattle.cb_partheap.specs.Added.{IsAdded}
use Rattle.cb_partheap.specs.Heaps.{Heap, part_of, with_object}
use Rattle.cb_partheap.specs.Made.{IsGridOf}
use Rattle.cb_partheap.specs.Marks.{IsUnmarked}
use Rattle.cb_partheap.specs.Whole.{IsHeap}
use Rattle.cb_partheap.specs.Words.{blank_words}
use Rattle.cb_partheap.proofs.Laws.{part_room}
use Rattle.cb_collector.specs.Held.{Held, IsCollecting, KnowsPart, KnowsParts, config_in, known_in}
use Rattle.cb_collector.specs.Known.{Config, Known, facts_with, first_facts, knows_placed, with_more}
use Rattle.cb_collector.proofs.Sweeps.{known_at}

-- the site is known, and so is what is used in its part, which is little
module _ (heap : Heap) (facts : List Facts) (site size : ℕ) (is : IsHeap heap) (knows : KnowsParts heap facts) (granted : words_of size ≤ words_at heap.granted site) where
  pub site_known : site < length heap.site_parts
  site_known = is.known site (omega (arith, granted))

  abbrev part : ℕ
  part = part_of heap.site_parts site

  pub part_known : part < length facts
  part_known = omega (arith, is.site_within site site_known, knows.each)

  at_part : KnowsPart heap part (get_or facts part (first_facts false part))
  at_part = known_at heap facts part (first_facts false part) knows part_known

  pub used_fits : size < 2 ^ 32 → (get_or facts part (first_facts false part)).used + (3 + size) < 2 ^ 64
  used_fits small = omega (arith, at_part.are.most, small)

  pub fresh_fits : size < 2 ^ 32 → (get_or facts part (first_facts false part)).fresh + (3 + size) < 2 ^ 64
  fresh_fits small = omega (arith, at_part.are.most, at_part.are.sum, small)

-- more is known of the part
module _ (heap : Heap) (memory : Parted) (site kind size : ℕ) (added : IsAdded heap.memory memory (part_of heap.site_parts site) (blank_words kind size heap.next site)) where
  abbrev here : ℕ
  here = part_of heap.site_parts site

  abbrev new : Heap
  new = with_object heap memory site size

  pub parts_kept : length memory.words ≡ length heap.memory.words
  parts_kept = ap length added.words_are ∙ length-set heap.memory.words here (row heap.memory.words here ++ blank_words kind size heap.next site)

  row_here : here < length heap.memory.words → length (row memory.words here) ≡ length (row heap.memory.words here) + (3 + size)
  row_here below =
      ap (λ words. length (row words here)) added.words_are ∙ ap length (get_or-set_same heap.memory.words here (row heap.memory.words here ++ blank_words kind size heap.next site) [] below)
      ∙ length-append (row heap.memory.words here) (blank_words kind size heap.next site)
      ∙ (let e : length (row heap.memory.words here) + length (blank_words kind size heap.next site) ≡ length (row heap.memory.words here) + (3 + size) = omega (arith, length-replicate {A = ℕ} size 0) in e)

  row_other : (part : ℕ) → part ≢ here → row memory.words part ≡ row heap.memory.words part
  row_other part differs = ap (λ words. row words part) added.words_are ∙ get_or-set_other heap.memory.words here part (row heap.memory.words here ++ blank_words kind size heap.next site) [] differs

  more_known : (of : Facts) → here < length heap.memory.words → IsHeap new → KnowsPart heap here of → KnowsPart new here (with_more of (words_of size))
  more_known of below is k =
      let long = row_here below in
      let now : of.used + (3 + size) ≡ length (row memory.words here) = omega (arith, long, k.words) in
      let most : length (row memory.words here) ≤ 256 * memory.blocks = part_room new here is (omega (arith, below, parts_kept)) in
      record {
        number = k.number;
        words = now;
        are = record {
          sum = (let e : of.kept + (of.fresh + (3 + size)) ≡ of.used + (3 + size) = omega (arith, k.are.sum) in e);
          most = (let e : of.used + (3 + size) ≤ 2 ^ 28 = omega (arith, now, most, is.parted.bound) in e);
          live = k.are.live;
          some = k.are.some;
          last = k.are.last;
        };
      }

  pub knows_placed_parts : (facts : List Facts) → here < length heap.memory.words → IsHeap new → KnowsParts heap facts → KnowsParts new (facts_with facts here (words_of size))
  knows_placed_parts facts below is knows =
      let of : Facts = get_or facts here (first_facts false here) in
      let now : List Facts = facts_with facts here (words_of size) in
      let long : length now ≡ length facts = length-set facts here (with_more of (words_of size)) in
      record {
        each = long ∙ knows.each ∙ sym parts_kept;
        known = λ part known there.
            let within : part < length facts = omega (arith, slice_get_within now part known there, long) in
            elim (cases_eq part here) [
              | inl same ↦
                  let it : with_more of (words_of size) ≡ known =
                  sym (get_or-set_same facts here (with_more of (words_of size)) known (omega (arith, within, same))) ∙ ap (λ p. get_or now p known) (sym same) ∙ get_or_from_slice_get now part known known there in
                  subst (λ p. KnowsPart new p known) (sym same)
                  (subst (KnowsPart new here) it (more_known of below is (known_at heap facts here (first_facts false here) knows (omega (arith, within, same)))))
              | inr differs ↦
                  let it : get_or facts part known ≡ known = sym (get_or-set_other facts here part (with_more of (words_of size)) known differs) ∙ get_or_from_slice_get now part known known there in
                  let k = subst (KnowsPart heap part) it (known_at heap facts part known knows within) in
                  record { number = k.number; words = k.words ∙ ap length (sym (row_other part differs)); are = k.are }
            ];
      }

  pub config_placed : (graph : Condensed) → config_in new graph ≡ config_in heap graph
  config_placed graph =
      ap (λ n. let c : Config = record (config_in heap graph) { parts = n; blocks = memory.blocks } in c) parts_kept ∙ ap (λ b. let c : Config = record (config_in heap graph) { blocks = b } in c) added.blocks

-- and the store stays one
abbrev pub placed_held : {Output : Type 0} → Held Output → Heap → List Facts → Held Output
placed_held held heap facts = record held { heap = heap; facts = facts }

module _ {Output : Type 0} (held : Held Output) (memory : Parted) (site kind size : ℕ) (added : IsAdded held.heap.memory memory (part_of held.heap.site_parts site) (blank_words kind size held.heap.next site)) where
  abbrev placed : Heap
  placed = with_object held.heap memory site size

  pub still_placed : (facts : List Facts) (blocks : ℕ) (all : List Bool) → IsCollecting held blocks all → part_of held.heap.site_parts site < length held.heap.memory.words → IsHeap placed → IsUnmarked placed →
      facts ≡ facts_with held.facts (part_of held.heap.site_parts site) (words_of size) → IsCollecting (placed_held held placed facts) blocks all
  still_placed facts blocks all is below heap_is unmarked facts_are =
      let parts = parts_kept held.heap memory site kind size added in
      record {
        unmarked = unmarked;
        grid = subst (λ n. IsGridOf n held.graph.edges held.heap.edges) (sym parts) is.grid;
        within = subst (λ n. AreWithin n held.graph.edges) (sym parts) is.within;
        knows = subst (KnowsParts placed) (sym facts_are) (knows_placed_parts held.heap memory site kind size added held.facts below heap_is is.knows);
        blocks_are = is.blocks_are ∙ sym added.blocks;
        all_are = is.all_are ∙ ap (λ n. replicate n true) (sym parts);
      }

  pub known_placed : (told : Output → Option (List ℕ)) (facts : List Facts) → facts ≡ facts_with held.facts (part_of held.heap.site_parts site) (words_of size) → known_in told (placed_held held placed facts) ≡ knows_placed (known_in told held) site size
  known_placed told facts facts_are =
      ap (λ f. known_in told (placed_held held placed f)) facts_are
      ∙ ap (λ c. let k : Known = record (knows_placed (known_in told held) site size) { config = c } in k) (config_placed held.heap memory site kind size added held.graph)

pub placed_still : {Output : Type 0} (held : Held Output) (now : Heap) (site kind size : ℕ) (facts : List Facts) (blocks : ℕ) (all : List Bool) → now ≡ with_object held.heap now.memory site size →
    IsAdded held.heap.memory now.memory (part_of held.heap.site_parts site) (blank_words kind size held.heap.next site) → IsCollecting held blocks all → part_of held.heap.site_parts site < length held.heap.memory.words → IsHeap now → IsUnmarked now →
    facts ≡ facts_with held.facts (part_of held.heap.site_parts site) (words_of size) → IsCollecting (placed_held held now facts) blocks all
placed_still {Output} held now site kind size facts blocks all rest added is below heap_is unmarked facts_are =
    subst (λ h. IsCollecting (placed_held held h facts) blocks all) (sym rest)
    (still_placed held now.memory site kind size added facts blocks all is below (subst IsHeap rest heap_is) (subst IsUnmarked rest unmarked) facts_are)

pub placed_known : {Output : Type 0} {before held : Held Output} (told : Output → Option (List ℕ)) (now : Heap) (site kind size : ℕ) (facts : List Facts) → before ≡ held → now ≡ with_object before.heap now.memory site size →
    IsAdded before.heap.memory now.memory (part_of before.heap.site_parts site) (blank_words kind size before.heap.next site) → facts ≡ facts_with before.facts (part_of before.heap.site_parts site) (words_of size) →
    known_in told (placed_held before now facts) ≡ knows_placed (known_in told held) site size
placed_known {Output} {before} {held} told now site kind size facts same rest added facts_are =
    ap (λ h. known_in told (placed_held before h facts)) rest ∙ known_placed before now.memory site kind size added told facts facts_are ∙ ap (λ (h : Held Output). knows_placed (known_in told h) site size) same
