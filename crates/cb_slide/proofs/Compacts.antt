-- Parts are made compact, one after the other.
use Rattle.std.proofs.Common.{◌≡◌, ◌∙◌, ℕ, ◌+◌, ◌-◌, ◌*◌, ◌/◌, ◌^◌, ◌<◌, ◌≤◌, false, cond, List, length, get_or, set, take, refl, sym, ap, arith, subst, inl, inr, length-set}
use Rattle.std.proofs.lemmas.Bool.{cases_eq, cases_lt, false≢true, le-ltb, ne_eqb}
use Rattle.std.proofs.lemmas.List.{length-take-le, take_all}
use Rattle.cb_plain.specs.State.{words_of}
use Rattle.cb_raw.specs.Words.{copied}
use Rattle.cb_dag.specs.Marks.{marked}
use Rattle.cb_blocks.specs.Parted.{IsParted, Parted, with_fewer, with_words}
use Rattle.cb_blocks.specs.Rows.{place_in, row}
use Rattle.cb_blocks.proofs.Laws.{index_fewer}
use Rattle.cb_partheap.specs.Headers.{IsHeader}
use Rattle.cb_partheap.specs.Spots.{IsSpot, Spot, place_of, words_by}
use Rattle.cb_partheap.specs.Words.{mark_at, missing, site_at, size_at}
use Rattle.cb_partheap.proofs.Laws.{part_room, parted_alike, row_other, row_same, within}
use Rattle.cb_slide.specs.Compact.{IsCompact, IsMoving, IsSized}
use Rattle.cb_slide.specs.Slid.{IsObject, slid, slid_to}
use Rattle.cb_slide.specs.Sliding.{CompactScan, Given, IsIn, IsOnly, IsRewritten, IsSlid, SlidTo}
use Rattle.cb_slide.proofs.Forwards.{spot_at}
use Rattle.cb_slide.proofs.Moves.{compact_all, free_low, mark_behind, moving_begins, moving_kept, moving_moved, moving_skip, size_behind}
use Rattle.cb_slide.proofs.Rewriting.{forwarding_place}
use Rattle.cb_slide.proofs.Walk.{slid_low}

-- the objects of a part are what they were
pub sized : {given : Given} {before : Parted} {part : ℕ} → IsRewritten given before → IsIn given part → IsSized (row given.heap.memory.words part) (row before.words part)
sized {given} {before} {part} r is =
    let f = r.forwarded in
    let at : (start : ℕ) → IsObject (row given.heap.memory.words part) start → IsSpot given.heap.memory (spot_at part start) = λ start object. record { part = is.below; inside = object.inside; whole = object.whole } in
    record {
      long = f.alike.long part;
      sizes = λ start object. ap (λ w. w / 2 ^ 32) (f.alike.header (spot_at part start) (at start object)).first;
      kept = λ start object kept.
          let place : mark_at (row before.words part) start ≡ place_of given.heap.memory (slid given.set given.heap.memory (spot_at part start)) = f.marks (spot_at part start) (at start object) ∙ forwarding_place given (spot_at part start) kept in
          omega (arith, place);
      gone = λ start object none.
          f.marks (spot_at part start) (at start object)
          ∙ ap (λ b. cond b (place_of given.heap.memory (slid given.set given.heap.memory (spot_at part start))) 0) (le-ltb 0 (mark_at (row given.heap.memory.words part) start) (omega (arith, none)));
    }

-- ---- only one part is another

only_itself : (start : Parted) (part : ℕ) → IsOnly start start part
only_itself start part = record { blocks = refl; rows = refl; count = refl; others = λ other differs. refl }

only_words : {start memory : Parted} {part : ℕ} (words : List ℕ) → IsOnly start memory part → IsOnly start (with_words memory part words) part
only_words {start} {memory} {part} words o =
    record { blocks = o.blocks; rows = o.rows; count = length-set memory.words part words ∙ o.count; others = λ other differs. row_other memory.words part other words differs ∙ o.others other differs }

only_parted : {start memory : Parted} {part : ℕ} → IsParted start → IsOnly start memory part → length (row memory.words part) ≡ length (row start.words part) → IsParted memory
only_parted {start} {memory} {part} is o long =
    parted_alike start memory is o.blocks o.rows o.count (λ other. elim (cases_eq other part) [
      | inl same ↦ ap (λ p. length (row memory.words p)) same ∙ long ∙ ap (λ p. length (row start.words p)) (sym same)
      | inr differs ↦ ap length (o.others other differs)
    ])

-- ---- the loop over the objects of a part

module _ {given : Given} {before start : Parted} {part : ℕ} (s : SlidTo given before start part) (is : IsIn given part) where
  pub below_start : part < length start.words
  below_start = omega (arith, is.below, s.count)

  row_start : row start.words part ≡ row before.words part
  row_start = s.rest part (λ both. omega (arith, both.0))

  long_start : length (row start.words part) ≡ length (row given.heap.memory.words part)
  long_start = ap length row_start ∙ s.before_is.forwarded.alike.long part

  all_whole : missing 0 (take (length (row given.heap.memory.words part)) (row given.heap.memory.words part)) ≡ 0
  all_whole = ap (missing 0) (take_all (length (row given.heap.memory.words part)) (row given.heap.memory.words part) (omega arith)) ∙ s.before_is.forwarded.given_is.heap.whole part is.below

  pub scan_begins : CompactScan given before start start part 0 0 0
  scan_begins =
      record {
        moving = subst (λ words. IsMoving (row given.heap.memory.words part) (row before.words part) words 0 0 0) (sym row_start) (moving_begins (row given.heap.memory.words part) (row before.words part) (sized s.before_is is));
        only = only_itself start part;
      }

  pub end_is : (end : ℕ) → end ≡ length (row start.words part) → end ≡ length (row given.heap.memory.words part)
  end_is end same = same ∙ long_start

  module _ {memory : Parted} {free first scan : ℕ} (c : CompactScan given before start memory part free first scan) where
    pub below_now : part < length memory.words
    below_now = omega (arith, below_start, c.only.count)

    pub run_fits : (first ≤ scan) × (free ≤ first) × (first + (scan - first) ≤ length (row memory.words part)) × (scan ≤ 2 ^ 28)
    run_fits =
        let g = s.before_is.forwarded.given_is in (
          c.moving.order,
          free_low c.moving,
          omega (arith, c.moving.order, c.moving.inside, c.moving.long),
          omega (arith, c.moving.inside, part_room given.heap part g.heap is.below, g.heap.parted.bound),
        )

    pub blocks_now : scan < length (row given.heap.memory.words part) → 0 < length (row memory.rows part)
    blocks_now less = omega (arith, ap (λ rows. length (row rows part)) c.only.rows, s.sound.exact part below_start, long_start, less)

    sound_now : IsParted memory
    sound_now = only_parted s.sound c.only (c.moving.long ∙ sym long_start)

    module _ (less : scan < length (row given.heap.memory.words part)) (at : ℕ) (place : at ≡ place_of memory (spot_at part scan)) where
      object_now : IsObject (row given.heap.memory.words part) scan
      object_now = record { inside = less; whole = c.moving.scan_is }

      fits_old : scan + words_of (size_at (row given.heap.memory.words part) scan) ≤ length (row given.heap.memory.words part)
      fits_old = within given.heap (spot_at part scan) s.before_is.forwarded.given_is.heap (record { part = is.below; inside = less; whole = c.moving.scan_is })

      size_still : size_at (row memory.words part) scan ≡ size_at (row given.heap.memory.words part) scan
      size_still = size_behind c.moving (sized s.before_is is) object_now

      pub header_compact : IsHeader memory at (spot_at part scan)
      header_compact = record { sound = sound_now; part = below_now; whole = omega (arith, size_still, fits_old, c.moving.long); place = place }

      pub size_compact : (size : ℕ) → ((spot : Spot) → IsHeader memory at spot → size ≡ words_of (size_at (words_by memory spot) spot.start)) → size ≡ words_of (size_at (row given.heap.memory.words part) scan)
      size_compact size read = read (spot_at part scan) header_compact ∙ ap words_of size_still

      pub fits_compact : (size : ℕ) → size ≡ words_of (size_at (row given.heap.memory.words part) scan) → (scan + size ≤ 2 ^ 28) × (3 ≤ size)
      fits_compact size same =
          let g = s.before_is.forwarded.given_is in (
            omega (arith, same, fits_old, part_room given.heap part g.heap is.below, g.heap.parted.bound),
            omega (arith, same),
          )

      kept_old : (mark : ℕ) → ((spot : Spot) → IsHeader memory at spot → mark ≡ mark_at (words_by memory spot) spot.start) → (mark ≡ 0 → ⊥) → 0 < mark_at (row given.heap.memory.words part) scan
      kept_old mark read some =
          elim (cases_lt 0 (mark_at (row given.heap.memory.words part) scan)) [
            | inl kept ↦ kept
            | inr none ↦ absurd (some (read (spot_at part scan) header_compact ∙ mark_behind c.moving ∙ (sized s.before_is is).gone scan object_now (omega (arith, none))))
          ]

      gone_old : (mark : ℕ) → ((spot : Spot) → IsHeader memory at spot → mark ≡ mark_at (words_by memory spot) spot.start) → mark ≡ 0 → mark_at (row given.heap.memory.words part) scan ≡ 0
      gone_old mark read none =
          elim (cases_lt 0 (mark_at (row given.heap.memory.words part) scan)) [
            | inr past ↦ omega (arith, past)
            | inl kept ↦ absurd (omega (arith, none, read (spot_at part scan) header_compact, mark_behind c.moving, (sized s.before_is is).kept scan object_now kept))
          ]

      pub compact_kept : (size mark : ℕ) (memory' : Parted) → size ≡ words_of (size_at (row given.heap.memory.words part) scan) → ((spot : Spot) → IsHeader memory at spot → mark ≡ mark_at (words_by memory spot) spot.start) → (mark ≡ 0 → ⊥) →
          ((spot : Spot) → IsHeader memory at spot → memory' ≡ with_words memory spot.part (set (words_by memory spot) (spot.start + 2) (site_at (words_by memory spot) spot.start + 0 * 2 ^ 14))) →
          CompactScan given before start memory' part free first (scan + size)
      compact_kept size mark memory' same read some written =
          let new : List ℕ = set (row memory.words part) (scan + 2) (site_at (row memory.words part) scan + 0 * 2 ^ 14) in
          let moving = moving_kept c.moving object_now fits_old (kept_old mark read some) in
          subst (λ (m : Parted). CompactScan given before start m part free first (scan + size)) (sym (written (spot_at part scan) header_compact)) (record {
            moving = subst (λ words. IsMoving (row given.heap.memory.words part) (row before.words part) words free first (scan + size)) (sym (row_same memory.words part new below_now))
                (subst (λ n. IsMoving (row given.heap.memory.words part) (row before.words part) new free first (scan + n)) (sym same) moving);
            only = only_words new c.only;
          })

      pub compact_gone : (size mark : ℕ) (memory' : Parted) → size ≡ words_of (size_at (row given.heap.memory.words part) scan) → ((spot : Spot) → IsHeader memory at spot → mark ≡ mark_at (words_by memory spot) spot.start) → mark ≡ 0 →
          memory' ≡ with_words memory part (copied (row memory.words part) first free (scan - first)) → CompactScan given before start memory' part (free + (scan - first)) (scan + size) (scan + size)
      compact_gone size mark memory' same read none written =
          let new : List ℕ = copied (row memory.words part) first free (scan - first) in
          let moving = moving_skip (moving_moved c.moving) object_now fits_old (gone_old mark read none) in
          subst (λ (m : Parted). CompactScan given before start m part (free + (scan - first)) (scan + size) (scan + size)) (sym written) (record {
            moving = subst (λ words. IsMoving (row given.heap.memory.words part) (row before.words part) words (free + (scan - first)) (scan + size) (scan + size)) (sym (row_same memory.words part new below_now))
                (subst (λ n. IsMoving (row given.heap.memory.words part) (row before.words part) new (free + (scan - first)) (scan + n) (scan + n)) (sym same) moving);
            only = only_words new c.only;
          })

    -- all objects were passed
    module _ (past : length (row given.heap.memory.words part) ≤ scan) (memory' : Parted) (moved : memory' ≡ with_words memory part (copied (row memory.words part) first free (scan - first))) where
      scan_all : scan ≡ length (row given.heap.memory.words part)
      scan_all = omega (arith, past, c.moving.inside)

      pub used_is_slid : free + (scan - first) ≡ slid_to (row given.heap.memory.words part) (length (row given.heap.memory.words part))
      used_is_slid = sym (c.moving.run scan c.moving.order (omega arith) c.moving.scan_is) ∙ ap (slid_to (row given.heap.memory.words part)) scan_all

      pub used_low : free + (scan - first) ≤ length (row given.heap.memory.words part)
      used_low = omega (arith, used_is_slid, slid_low (row given.heap.memory.words part) (length (row given.heap.memory.words part)) (omega arith) all_whole)

      moved_row : row memory'.words part ≡ copied (row memory.words part) first free (scan - first)
      moved_row = ap (λ (m : Parted). row m.words part) moved ∙ row_same memory.words part (copied (row memory.words part) first free (scan - first)) below_now

      moving_all : IsMoving (row given.heap.memory.words part) (row before.words part) (row memory'.words part) (free + (scan - first)) scan scan
      moving_all = subst (λ words. IsMoving (row given.heap.memory.words part) (row before.words part) words (free + (scan - first)) scan scan) (sym moved_row) (moving_moved c.moving)

      only_all : IsOnly start memory' part
      only_all = subst (λ (m : Parted). IsOnly start m part) (sym moved) (only_words (copied (row memory.words part) first free (scan - first)) c.only)

      pub part_fits : (part < length memory'.words) × (free + (scan - first) ≤ length (row memory'.words part))
      part_fits = (omega (arith, below_start, only_all.count), omega (arith, used_low, moving_all.long))

      pub part_done : (new : Parted) → IsParted new → new ≡ with_fewer memory' part (free + (scan - first)) → SlidTo given before new (part + 1)
      part_done new sound is_fewer =
          let used : ℕ = free + (scan - first) in
          let fewer : Parted = with_fewer memory' part used in
          let kept : List ℕ = take used (row memory'.words part) in
          let parted = only_parted s.sound only_all (moving_all.long ∙ sym long_start) in
          let here : row fewer.words part ≡ kept = row_same memory'.words part kept part_fits.0 in
          let there : (other : ℕ) → (other ≡ part → ⊥) → row fewer.words other ≡ row start.words other = λ other differs. row_other memory'.words part other kept differs ∙ only_all.others other differs in
          let less : (other : ℕ) → length (row fewer.words other) ≤ length (row start.words other) =
          λ other. elim (cases_eq other part) [
            | inr differs ↦ omega (arith, ap length (there other differs))
            | inl same ↦ omega (
              arith,
              ap (λ p. length (row fewer.words p)) same,
              ap (λ p. length (row start.words p)) same,
              ap length here,
              length-take-le used (row memory'.words part) part_fits.1,
              part_fits.1,
              moving_all.long,
              long_start,
            )
          ] in
          subst (λ (m : Parted). IsParted m → SlidTo given before m (part + 1)) (sym is_fewer) (λ sound'. record {
            before_is = s.before_is;
            sound = sound';
            blocks = only_all.blocks ∙ s.blocks;
            count = length-set memory'.words part kept ∙ only_all.count ∙ s.count;
            index = λ other i below inside.
                index_fewer memory' part used other i parted part_fits.0 part_fits.1 inside ∙ ap (λ rows. place_in 256 (row rows other) i) only_all.rows ∙ s.index other i below (omega (arith, inside, less other));
            done = λ other low below member. elim (cases_eq other part) [
              | inl same ↦
                  subst (λ p. IsCompact (row given.heap.memory.words p) (row before.words p) (row fewer.words p)) (sym same)
                  (subst (IsCompact (row given.heap.memory.words part) (row before.words part)) (sym here) (compact_all moving_all scan_all))
              | inr differs ↦ subst (IsCompact (row given.heap.memory.words other) (row before.words other)) (sym (there other differs)) (s.done other (omega (arith, low, differs)) below member)
            ];
            rest = λ other not.
                let differs : other ≡ part → ⊥ = λ same. not (omega (arith, same), ap (marked given.set) same ∙ is.member) in
                there other differs ∙ s.rest other (λ both. not (omega (arith, both.0), both.1));
          }) sound

-- ---- parts outside the set, the beginning, and the end

pub compact_skip : {given : Given} {before memory : Parted} {part : ℕ} → SlidTo given before memory part → marked given.set part ≡ false → SlidTo given before memory (part + 1)
compact_skip {given} {before} {memory} {part} s out =
    record {
      before_is = s.before_is;
      sound = s.sound;
      blocks = s.blocks;
      count = s.count;
      index = s.index;
      done = λ other low below member.
          let differs : other ≡ part → ⊥ = λ same. false≢true (sym out ∙ ap (marked given.set) (sym same) ∙ member) in
          s.done other (omega (arith, low, differs)) below member;
      rest = λ other not. s.rest other (λ both. not (omega (arith, both.0), both.1));
    }

pub compact_begins : {given : Given} {before : Parted} → IsRewritten given before → IsParted before → SlidTo given before before 0
compact_begins {given} {before} r sound =
    let a = r.forwarded.alike in
    record {
      before_is = r;
      sound = sound;
      blocks = a.blocks;
      count = a.count;
      index = λ other i below inside. ap (λ rows. place_in 256 (row rows other) i) a.rows;
      done = λ other low below member. absurd (omega (arith, low));
      rest = λ other not. refl;
    }

pub compacted : {given : Given} {before memory : Parted} (count : ℕ) → SlidTo given before memory count → length given.heap.memory.words ≤ count → IsSlid given memory
compacted {given} {before} {memory} count s all =
    let f = s.before_is.forwarded in
    record {
      sound = s.sound;
      blocks = s.blocks;
      count = s.count;
      index = s.index;
      outside = λ other out. s.rest other (λ both. false≢true (sym out ∙ both.1)) ∙ f.outside other out;
      long = λ other is. (s.done other (omega (arith, is.below, all)) is.below is.member).long;
      carried = λ spot here member kept.
          let is = s.done spot.part (omega (arith, here.part, all)) here.part member in
          let object : IsObject (words_by given.heap.memory spot) spot.start = record { inside = here.inside; whole = here.whole } in
          let same = f.alike.header spot here in
          let to : ℕ = slid_to (words_by given.heap.memory spot) spot.start in
          let none : to ≡ to + 0 = omega arith in
          let start : spot.start + 0 ≡ spot.start = omega arith in
          record {
            first = ap (λ k. get_or (row memory.words spot.part) k 0) none ∙ is.words spot.start 0 object kept (omega arith) ∙ ap (λ k. get_or (words_by before spot) k 0) start ∙ same.first;
            second = is.words spot.start 1 object kept (omega arith) ∙ same.second;
            third = is.words spot.start 2 object kept (omega arith) ∙ same.site;
            contents = λ i below.
                is.words spot.start (3 + i) object kept (omega (arith, below))
                ∙ ap (λ b. cond b (site_at (words_by before spot) spot.start) (get_or (words_by before spot) (spot.start + (3 + i)) 0)) (ne_eqb (3 + i) 2 (λ equal. absurd (omega (arith, equal))))
                ∙ s.before_is.words spot i here below;
          };
    }

pub compact_less : {given : Given} {before start : Parted} {part : ℕ} → SlidTo given before start part → IsIn given part → (scan end : ℕ) → end ≡ length (row start.words part) → scan < end → scan < length (row given.heap.memory.words part)
compact_less s is scan end same less = omega (arith, less, end_is s is end same)

pub compact_past : {given : Given} {before start : Parted} {part : ℕ} → SlidTo given before start part → IsIn given part → (scan end : ℕ) → end ≡ length (row start.words part) → end ≤ scan → length (row given.heap.memory.words part) ≤ scan
compact_past s is scan end same past = omega (arith, past, end_is s is end same)

pub same_compact : {given : Given} {before start : Parted} {part scan : ℕ} (memory memory' : Parted) (free free' first first' : ℕ) → memory' ≡ memory → free' ≡ free → first' ≡ first → CompactScan given before start memory part free first scan →
    CompactScan given before start memory' part free' first' scan
same_compact {given} {before} {start} {part} {scan} memory memory' free free' first first' same equal alike c =
    subst (λ (m : Parted). CompactScan given before start m part free' first' scan) (sym same)
    (subst (λ n. CompactScan given before start memory part n first' scan) (sym equal) (subst (λ n. CompactScan given before start memory part free n scan) (sym alike) c))
