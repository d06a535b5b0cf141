-- What a collection leaves of objects, and of what is known of their parts.
use Rattle.std.proofs.Common.{◌≡◌, ◌∙◌, ℕ, ◌+◌, ◌-◌, ◌<◌, ◌≤◌, ◌==◌, Bool, true, false, cond, if◌then◌else◌, List, [], ◌∷◌, length, get_or, Option, Some, None, sym, ap, arith}
use Rattle.std.specs.List.{sum_by}
use Rattle.std.proofs.lemmas.List.Sums.{sum_by-cons}
use Rattle.std.proofs.lemmas.Option.{slice_get-get_or}
use Rattle.cb_plain.specs.State.{Object, Roots}
use Rattle.cb_plain.specs.declared.facts.Facts.{Facts}
use Rattle.cb_heap.specs.Kept.{entry_words, keep}
use Rattle.cb_heap.specs.Occupancy.{used}
use Rattle.cb_heap.specs.Reading.{seen}
use Rattle.cb_dag.specs.Marks.{marked}
use Rattle.cb_blocks.specs.Parted.{Parted}
use Rattle.cb_blocks.specs.Rows.{row}
use Rattle.cb_partheap.specs.Heaps.{Heap, index_in, objects_in, part_of}
use Rattle.cb_partheap.specs.MarkLaws.{words_in_set}
use Rattle.cb_partheap.specs.Marks.{IsRemarked}
use Rattle.cb_slide.specs.Collected.{view_of}
use Rattle.cb_slide.specs.Sliding.{HasOtherWords}
use Rattle.cb_collector.specs.Collecting.{fact_behind, facts_behind, survived, words_in}
use Rattle.cb_collector.specs.Held.{KnowsPart, KnowsParts, used_by, used_known}
use Rattle.cb_collector.specs.Known.{counted, first_facts}
use Rattle.cb_collector.proofs.Words.{map_alike, words_alike}

-- marks change nothing of what is seen
pub same_view : (old new : Heap) (roots : Roots) → objects_in new ≡ objects_in old → index_in new ≡ index_in old → view_of old roots ≡ view_of new roots
same_view old new roots kept places = ap (λ index. seen index (objects_in old) roots) (sym places) ∙ ap (λ objects. seen (index_in new) objects roots) (sym kept)

-- no part has more words when fewer objects are kept
abbrev kept_words : (ℕ → ℕ) → ℕ → Option Object → ℕ
kept_words part_of part None = 0
kept_words part_of part (Some object) = if part_of object.site == part then entry_words (Some object) else 0

entry_less : (part_of : ℕ → ℕ) (part : ℕ) (stays : Bool) (entry : Option Object) → kept_words part_of part (cond stays entry None) ≤ kept_words part_of part entry
entry_less part_of part true entry = omega arith
entry_less part_of part false entry = omega arith

pub used_less : (part_of : ℕ → ℕ) (stays : List Bool) (objects : List (Option Object)) (part : ℕ) → used part_of (keep stays objects) part ≤ used part_of objects part
used_less part_of [] objects part = omega arith
used_less part_of (stays ∷ rest) [] part = omega arith
used_less part_of (true ∷ rest) (entry ∷ objects) part =
    omega (arith, sum_by-cons (kept_words part_of part) entry (keep rest objects), sum_by-cons (kept_words part_of part) entry objects, used_less part_of rest objects part)
used_less part_of (false ∷ rest) (entry ∷ objects) part =
    let here : sum_by (kept_words part_of part) (None ∷ keep rest objects) ≡ kept_words part_of part None + used part_of (keep rest objects) part = sum_by-cons (kept_words part_of part) None (keep rest objects) in
    omega (arith, here, sum_by-cons (kept_words part_of part) entry objects, used_less part_of rest objects part)

-- what is known of parts, where as much is used
fact_alike : (set : List Bool) (f g : ℕ → ℕ) (of : Facts) → f of.part ≡ g of.part → fact_behind set f of ≡ fact_behind set g of
fact_alike set f g of same = ap (λ n. if marked set of.part then survived of n else record of { turn = counted of.turn }) same

pub facts_alike : (set : List Bool) (f g : ℕ → ℕ) (facts : List Facts) → ((i : ℕ) (d : Facts) → i < length facts → f (get_or facts i d).part ≡ g (get_or facts i d).part) → facts_behind set f facts ≡ facts_behind set g facts
facts_alike set f g facts each = map_alike (fact_behind set f) (fact_behind set g) facts (λ i d below. fact_alike set f g (get_or facts i d) (each i d below))

-- what is known of a part by its number
pub known_at : (heap : Heap) (facts : List Facts) (part : ℕ) (d : Facts) → KnowsParts heap facts → part < length facts → KnowsPart heap part (get_or facts part d)
known_at heap facts part d knows below = knows.known part (get_or facts part d) (slice_get-get_or facts part d below)

pub used_there : (heap : Heap) (facts : List Facts) (part : ℕ) → KnowsParts heap facts → part < length heap.memory.words → used_known facts part ≡ length (row heap.memory.words part)
used_there heap facts part knows below = (known_at heap facts part (first_facts false part) knows (omega (arith, below, knows.each))).words

-- what is seen of a heap before a collection, one that is marked, and one after it
pub record Leaves (set : List Bool) (old middle new : Heap) (stays : List Bool) : Type 0 where
  pub rest : IsRemarked set old middle
  pub kept : objects_in middle ≡ objects_in old
  pub other : HasOtherWords middle new
  pub objects : objects_in new ≡ keep stays (objects_in middle)
  pub outside : (part : ℕ) → marked set part ≡ false → row new.memory.words part ≡ row old.memory.words part
  pub used_old : (part : ℕ) → part < length old.memory.words → used_by old part ≡ length (row old.memory.words part)
  pub used_new : (part : ℕ) → part < length new.memory.words → used_by new part ≡ length (row new.memory.words part)

-- what was counted by the words of parts
abbrev pub rows_of : Parted → ℕ → ℕ
rows_of words part = length (row words.words part)

module _ (set : List Bool) (old middle new : Heap) (stays : List Bool) (l : Leaves set old middle new stays) where
  pub parts_same : length new.memory.words ≡ length old.memory.words
  parts_same = l.other.parts ∙ l.rest.memory.count

  sites_same : new.site_parts ≡ old.site_parts
  sites_same = ap (λ (h : Heap). h.site_parts) l.other.rest ∙ ap (λ (h : Heap). h.site_parts) l.rest.rest

  used_kept : (part : ℕ) → used_by new part ≡ used (part_of old.site_parts) (keep stays (objects_in old)) part
  used_kept part =
      ap (λ sites. used (part_of sites) (objects_in new) part) sites_same ∙ ap (λ objects. used (part_of old.site_parts) objects part) (l.objects ∙ ap (keep stays) l.kept)

  pub fewer : (part : ℕ) → used_by new part ≤ used_by old part
  fewer part = omega (arith, used_kept part, used_less (part_of old.site_parts) stays (objects_in old) part)

  pub rows_fewer : (part : ℕ) → part < length old.memory.words → length (row new.memory.words part) ≤ length (row old.memory.words part)
  rows_fewer part below = omega (arith, fewer part, l.used_old part below, l.used_new part (omega (arith, below, parts_same)))

  -- the words of a set are those of the objects that stay
  pub words_left : words_in_set middle set (keep stays (objects_in middle)) ≡ words_in_set old set (objects_in new)
  words_left =
      ap (λ objects. words_in_set middle set objects) (sym l.objects)
      ∙ ap (λ sites. words_in (length middle.memory.words) set (used (part_of sites) (objects_in new))) (ap (λ (h : Heap). h.site_parts) l.rest.rest)
      ∙ ap (λ n. words_in n set (used (part_of old.site_parts) (objects_in new))) l.rest.memory.count

  pub words_before : words_in_set middle set (objects_in middle) ≡ words_in_set old set (objects_in old)
  words_before =
      ap (λ objects. words_in_set middle set objects) l.kept
      ∙ ap (λ sites. words_in (length middle.memory.words) set (used (part_of sites) (objects_in old))) (ap (λ (h : Heap). h.site_parts) l.rest.rest)
      ∙ ap (λ n. words_in n set (used (part_of old.site_parts) (objects_in old))) l.rest.memory.count

  module _ (words : Parted) (same : words ≡ new.memory) where
    pub rows_used : (part : ℕ) → part < length old.memory.words → rows_of words part ≡ used_by new part
    rows_used part below = ap (λ (m : Parted). length (row m.words part)) same ∙ sym (l.used_new part (omega (arith, below, parts_same)))

    pub count_same : length words.words ≡ length old.memory.words
    count_same = ap (λ (m : Parted). length m.words) same ∙ parts_same

    pub visited_are : (visited : ℕ) → visited ≡ words_in (length words.words) set (rows_of words) → visited ≡ words_in (length old.memory.words) set (used_by new)
    visited_are visited is = is ∙ ap (λ n. words_in n set (rows_of words)) count_same ∙ words_alike set (rows_of words) (used_by new) (length old.memory.words) rows_used

    module _ (facts : List Facts) (knows : KnowsParts old facts) where
      gone_here : (part : ℕ) → part < length old.memory.words → used_known facts part - rows_of words part ≡ used_by old part - used_by new part
      gone_here part below =
          ap (λ n. n - rows_of words part) (used_there old facts part knows below ∙ sym (l.used_old part below)) ∙ ap (λ n. used_by old part - n) (rows_used part below)

      pub freed_are : (freed : ℕ) → freed ≡ words_in (length words.words) set (λ part. used_known facts part - rows_of words part) → freed ≡ words_in (length old.memory.words) set (λ part. used_by old part - used_by new part)
      freed_are freed is =
          is ∙ ap (λ n. words_in n set (λ part. used_known facts part - rows_of words part)) count_same
          ∙ words_alike set (λ part. used_known facts part - rows_of words part) (λ part. used_by old part - used_by new part) (length old.memory.words) gone_here

      pub number_below : (i : ℕ) (d : Facts) → i < length facts → (get_or facts i d).part < length old.memory.words
      number_below i d below = omega (arith, below, knows.each, (known_at old facts i d knows below).number)

      pub facts_are : (after : List Facts) → after ≡ facts_behind set (rows_of words) facts → after ≡ facts_behind set (used_by new) facts
      facts_are after is = is ∙ facts_alike set (rows_of words) (used_by new) facts (λ i d below. rows_used (get_or facts i d).part (number_below i d below))

pub numbers_below : (heap : Heap) (facts : List Facts) (parts : ℕ) → KnowsParts heap facts → parts ≡ length heap.memory.words → (i : ℕ) (d : Facts) → i < length facts → (get_or facts i d).part < parts
numbers_below heap facts parts knows are i d below = omega (arith, are, below, knows.each, (known_at heap facts i d knows below).number)
