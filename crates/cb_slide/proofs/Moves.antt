-- Marked objects move to the front of their part, in runs of neighbours.
use Rattle.std.proofs.Common.{rules, slice_get, Some, ◌≡◌, ◌≢◌, ◌∙◌, ℕ, ◌+◌, ◌-◌, ◌*◌, ◌/◌, ◌%◌, ◌^◌, ◌<◌, ◌≤◌, cond, List, [], ◌++◌, length, get_or, set, take, drop, refl, sym, ap, arith, subst, inl, inr, length-append, length-drop, length-set, get_or-set_same, get_or-set_other}
use Rattle.std.proofs.lemmas.Bool.{cases_eq, cases_lt, ne_eqb}
use Rattle.std.proofs.lemmas.List.{get_or-append_right, get_or-drop, get_or-take, get_or_append_left, get_or_default, length-take-le, places, same_lists, set-get_or}
use Rattle.std.proofs.lemmas.Option.{get_or_from_slice_get}
use Rattle.cb_blocks.specs.Parted.{Parted, with_words}
use Rattle.cb_blocks.specs.Rows.{row}
use Rattle.cb_raw.specs.Words.{copied}
use Rattle.cb_plain.specs.State.{words_of}
use Rattle.cb_partheap.specs.Words.{mark_at, site_at, size_at}
use Rattle.cb_partheap.proofs.Laws.{gap, whole_next}
use Rattle.cb_slide.specs.Compact.{IsCompact, IsMoving, IsSized, cleared}
use Rattle.cb_slide.specs.Slid.{IsObject, slid_to}
use Rattle.cb_slide.proofs.Walk.{gone_next, kept_next, slid_before, slid_low}

-- ---- words that are copied to the front

module _ (words : List ℕ) (from to count : ℕ) (order : to ≤ from) (inside : from + count ≤ length words) where
  front_long : length (take to words) ≡ to
  front_long = length-take-le to words (omega (arith, order, inside))

  piece_long : length (take count (drop from words)) ≡ count
  piece_long = length-take-le count (drop from words) (omega (arith, length-drop from words, inside))

  both_long : length (take to words ++ take count (drop from words)) ≡ to + count
  both_long = omega (arith, length-append (take to words) (take count (drop from words)), front_long, piece_long)

  pub length_copied : length (copied words from to count) ≡ length words
  length_copied = omega (arith, length-append (take to words ++ take count (drop from words)) (drop (to + count) words), both_long, length-drop (to + count) words, order, inside)

  pub copied_front : (k : ℕ) → k < to → get_or (copied words from to count) k 0 ≡ get_or words k 0
  copied_front k below =
      get_or_append_left (take to words ++ take count (drop from words)) (drop (to + count) words) 0 k (omega (arith, both_long, below))
      ∙ get_or_append_left (take to words) (take count (drop from words)) 0 k (omega (arith, front_long, below)) ∙ get_or-take to words k 0 below

  pub copied_here : (k : ℕ) → k < count → get_or (copied words from to count) (to + k) 0 ≡ get_or words (from + k) 0
  copied_here k below =
      get_or_append_left (take to words ++ take count (drop from words)) (drop (to + count) words) 0 (to + k) (omega (arith, both_long, below))
      ∙ get_or-append_right (take to words) (take count (drop from words)) to (to + k) 0 front_long (omega arith)
      ∙ ap (λ i. get_or (take count (drop from words)) i 0) (let e : to + k - to ≡ k = omega arith in e) ∙ get_or-take count (drop from words) k 0 below ∙ get_or-drop from words k 0

  pub copied_behind : (k : ℕ) → to + count ≤ k → get_or (copied words from to count) k 0 ≡ get_or words k 0
  copied_behind k past =
      get_or-append_right (take to words ++ take count (drop from words)) (drop (to + count) words) (to + count) k 0 both_long past
      ∙ get_or-drop (to + count) words (k - (to + count)) 0 ∙ ap (λ i. get_or words i 0) (let e : to + count + (k - (to + count)) ≡ k = omega (arith, past) in e)

-- words that stand there already
pub copied_same : (words : List ℕ) (from to count : ℕ) → to ≡ from → from + count ≤ length words → copied words from to count ≡ words
copied_same words from to count same inside =
    let order : to ≤ from = omega (arith, same) in
    same_lists (copied words from to count) words (length_copied words from to count order inside) (λ k d below.
    get_or_default (copied words from to count) k d 0 below
    ∙ elim (cases_lt k to) [
      | inl front ↦ copied_front words from to count order inside k front
      | inr past ↦ elim (cases_lt k (to + count)) [
        | inr behind ↦ copied_behind words from to count order inside k behind
        | inl among ↦
            let place : k ≡ to + (k - to) = omega (arith, past) in
            let back : from + (k - to) ≡ k = omega (arith, past, same) in
            ap (λ n. get_or (copied words from to count) n 0) place ∙ copied_here words from to count order inside (k - to) (omega (arith, past, among)) ∙ ap (λ n. get_or words n 0) back
      ]
    ]
    ∙ get_or_default words k 0 d (omega (arith, below, length_copied words from to count order inside)))

pub nothing_moved : (parts : Parted) (part from to count : ℕ) → to ≡ from → from + count ≤ length (row parts.words part) → parts ≡ with_words parts part (copied (row parts.words part) from to count)
nothing_moved parts part from to count same inside =
    ap (λ words. let p : Parted = record { blocks = parts.blocks; rows = parts.rows; words = words } in p)
    (sym (ap (set parts.words part) (copied_same (row parts.words part) from to count same inside) ∙ set-get_or parts.words part []))

copied_none : (words : List ℕ) (from to : ℕ) → copied words from to 0 ≡ words
copied_none words from to = same_lists _ _ (search (rules, places)) (λ k d h. grind (arith, places))

pub none_moved : (parts : Parted) (part from to count : ℕ) → count ≡ 0 → parts ≡ with_words parts part (copied (row parts.words part) from to count)
none_moved parts part from to count none =
    subst (λ n. parts ≡ with_words parts part (copied (row parts.words part) from to n)) (sym none)
    (ap (λ words. let p : Parted = record { blocks = parts.blocks; rows = parts.rows; words = words } in p)
    (sym (ap (set parts.words part) (copied_none (row parts.words part) from to) ∙ set-get_or parts.words part [])))

-- a word is put where it stands
pub same_put : (parts : Parted) (part i old new : ℕ) → slice_get (row parts.words part) i ≡ Some old → new ≡ old → parts ≡ with_words parts part (set (row parts.words part) i new)
same_put parts part i old new read same =
    let there : set (row parts.words part) i new ≡ row parts.words part = ap (set (row parts.words part) i) (same ∙ sym (get_or_from_slice_get (row parts.words part) i old 0 read)) ∙ set-get_or (row parts.words part) i 0 in
    ap (λ words. let p : Parted = record { blocks = parts.blocks; rows = parts.rows; words = words } in p) (sym (ap (set parts.words part) there ∙ set-get_or parts.words part []))

-- ---- one object after the other

pub moving_begins : (old before : List ℕ) → IsSized old before → IsMoving old before before 0 0 0
moving_begins old before sized =
    record {
      long = sized.long;
      front = refl;
      order = omega arith;
      inside = omega arith;
      first_is = refl;
      scan_is = refl;
      run = λ start low high whole. let none : 0 ≡ start = omega (arith, high) in subst (λ n. slid_to old n ≡ 0 + (n - 0)) none refl;
      moved = λ start i object less kept below. absurd (omega (arith, less));
      waits = λ start i object low less below. absurd (omega (arith, low, less));
      rest = λ i past. refl;
    }

module _ {old before now : List ℕ} {free first scan : ℕ} (m : IsMoving old before now free first scan) where
  -- an object behind is read as it was
  pub size_behind : IsSized old before → IsObject old scan → size_at now scan ≡ size_at old scan
  size_behind sized object = ap (λ w. w / 2 ^ 32) (m.rest scan (omega arith)) ∙ sized.sizes scan object

  pub mark_behind : mark_at now scan ≡ mark_at before scan
  mark_behind = ap (λ w. w / 2 ^ 14) (m.rest (scan + 2) (omega arith))

  pub free_low : free ≤ first
  free_low = omega (arith, m.front, slid_low old first (omega (arith, m.order, m.inside)) m.first_is)

  -- a marked one is next
  pub moving_kept : IsObject old scan → scan + words_of (size_at old scan) ≤ length old → 0 < mark_at old scan →
      IsMoving old before (set now (scan + 2) (site_at now scan + 0 * 2 ^ 14)) free first (scan + words_of (size_at old scan))
  moving_kept object end kept =
      let word : ℕ = site_at now scan + 0 * 2 ^ 14 in
      let elsewhere : (k : ℕ) → k ≢ scan + 2 → get_or (set now (scan + 2) word) k 0 ≡ get_or now k 0 = λ k differs. get_or-set_other now (scan + 2) k word 0 differs in
      record {
        long = length-set now (scan + 2) word ∙ m.long;
        front = m.front;
        order = omega (arith, m.order);
        inside = end;
        first_is = m.first_is;
        scan_is = whole_next old scan end m.scan_is;
        run = λ start low high whole. elim (cases_lt scan start) [
          | inr past ↦ m.run start low past whole
          | inl behind ↦
              let next : start ≡ scan + words_of (size_at old scan) = omega (arith, high, gap old scan start behind (omega (arith, high, end)) m.scan_is whole) in
              let here : slid_to old (scan + words_of (size_at old scan)) ≡ free + (scan + words_of (size_at old scan) - first) =
              omega (arith, kept_next old scan object end kept, m.run scan m.order (omega arith) m.scan_is, m.order) in
              subst (λ n. slid_to old n ≡ free + (n - first)) (sym next) here
        ];
        moved = λ start i object' less kept' below.
            let low = slid_before old start scan object' kept' (omega (arith, less, m.order)) m.inside m.scan_is in
            elsewhere (slid_to old start + i) (λ same. absurd (omega (arith, same, below, low, slid_low old scan m.inside m.scan_is))) ∙ m.moved start i object' less kept' below;
        waits = λ start i object' low less below. elim (cases_eq start scan) [
          | inr differs ↦
              let less' : start < scan = omega (
                arith,
                elim (cases_lt start scan) as (λ w. start < scan) [
                  | inl is ↦ is
                  | inr past ↦ absurd (omega (arith, less, gap old scan start (omega (arith, past, differs)) (omega (arith, object'.inside)) m.scan_is object'.whole))
                ],
              ) in
              elsewhere (start + i) (λ same. absurd (omega (arith, same, below, gap old start scan less' m.inside object'.whole m.scan_is))) ∙ m.waits start i object' low less' below
          | inl here ↦ subst (λ n. get_or (set now (scan + 2) word) (n + i) 0 ≡ cleared before n i) (sym here) (elim (cases_eq i 2) [
            | inl third ↦
                let there : scan + 2 < length now = omega (arith, m.long, end) in
                let site : word ≡ site_at before scan = (let e : word ≡ site_at now scan = omega arith in e) ∙ ap (λ w. w % 2 ^ 14) (m.rest (scan + 2) (omega arith)) in
                subst (λ k. get_or (set now (scan + 2) word) (scan + k) 0 ≡ cleared before scan k) (sym third) (get_or-set_same now (scan + 2) word 0 there ∙ site)
            | inr differs ↦
                elsewhere (scan + i) (λ same. absurd (omega (arith, same, differs))) ∙ m.rest (scan + i) (omega arith)
                ∙ sym (ap (λ b. cond b (site_at before scan) (get_or before (scan + i) 0)) (ne_eqb i 2 differs))
          ])
        ];
        rest = λ i past. elsewhere i (λ same. absurd (omega (arith, same, past))) ∙ m.rest i (omega (arith, past));
      }

  -- a run of them is moved
  pub moving_moved : IsMoving old before (copied now first free (scan - first)) (free + (scan - first)) scan scan
  moving_moved =
      let low = free_low in
      let inside : first + (scan - first) ≤ length now = omega (arith, m.order, m.inside, m.long) in
      record {
        long = length_copied now first free (scan - first) low inside ∙ m.long;
        front = sym (m.run scan m.order (omega arith) m.scan_is);
        order = omega arith;
        inside = m.inside;
        first_is = m.scan_is;
        scan_is = m.scan_is;
        run = λ start past high whole.
            let same : scan ≡ start = omega (arith, past, high) in
            subst (λ n. slid_to old n ≡ free + (scan - first) + (n - scan)) same (omega (arith, m.run scan m.order (omega arith) m.scan_is));
        moved = λ start i object less kept below. elim (cases_lt start first) [
          | inl front ↦
              let place : slid_to old start + i < free = omega (arith, below, m.front, slid_before old start first object kept front (omega (arith, m.order, m.inside)) m.first_is) in
              copied_front now first free (scan - first) low inside (slid_to old start + i) place ∙ m.moved start i object front kept below
          | inr past ↦
              let end = gap old start scan less m.inside object.whole m.scan_is in
              let place : slid_to old start + i ≡ free + (start - first + i) = omega (arith, m.run start past (omega (arith, less)) object.whole) in
              let back : first + (start - first + i) ≡ start + i = omega (arith, past) in
              ap (λ k. get_or (copied now first free (scan - first)) k 0) place ∙ copied_here now first free (scan - first) low inside (start - first + i) (omega (arith, end, below, past)) ∙ ap (λ k. get_or now k 0) back
              ∙ m.waits start i object past less below
        ];
        waits = λ start i object past less below. absurd (omega (arith, past, less));
        rest = λ i past. copied_behind now first free (scan - first) low inside i (omega (arith, past, low, m.order)) ∙ m.rest i past;
      }

-- one that isn't marked is passed
pub moving_skip : {old before now : List ℕ} {free scan : ℕ} → IsMoving old before now free scan scan → IsObject old scan → scan + words_of (size_at old scan) ≤ length old → mark_at old scan ≡ 0 →
    IsMoving old before now free (scan + words_of (size_at old scan)) (scan + words_of (size_at old scan))
moving_skip {old} {before} {now} {free} {scan} m object end gone =
    record {
      long = m.long;
      front = m.front ∙ sym (gone_next old scan object end gone);
      order = omega arith;
      inside = end;
      first_is = whole_next old scan end m.scan_is;
      scan_is = whole_next old scan end m.scan_is;
      run = λ start past high whole.
          let same : scan + words_of (size_at old scan) ≡ start = omega (arith, past, high) in
          subst (λ n. slid_to old n ≡ free + (n - (scan + words_of (size_at old scan)))) same (omega (arith, m.front, gone_next old scan object end gone));
      moved = λ start i object' less kept below. elim (cases_lt start scan) [
        | inl front ↦ m.moved start i object' front kept below
        | inr past ↦ elim (cases_eq start scan) [
          | inl same ↦ absurd (omega (arith, gone, kept, ap (mark_at old) same))
          | inr differs ↦ absurd (omega (arith, less, gap old scan start (omega (arith, past, differs)) (omega (arith, object'.inside)) m.scan_is object'.whole))
        ]
      ];
      waits = λ start i object' past less below. absurd (omega (arith, past, less));
      rest = λ i past. m.rest i (omega (arith, past));
    }

-- all are at the front
pub compact_all : {old before now : List ℕ} {free scan : ℕ} → IsMoving old before now free scan scan → scan ≡ length old → IsCompact old before (take free now)
compact_all {old} {before} {now} {free} {scan} m all =
    let fits : free ≤ length now = omega (arith, m.front, m.long, m.inside, slid_low old scan m.inside m.scan_is) in
    record {
      long = length-take-le free now fits ∙ m.front ∙ ap (slid_to old) all;
      words = λ start i object kept below.
          let place : slid_to old start + i < free = omega (arith, below, m.front, slid_before old start scan object kept (omega (arith, object.inside, all)) m.inside m.scan_is) in
          get_or-take free now (slid_to old start + i) 0 place ∙ m.moved start i object (omega (arith, object.inside, all)) kept below;
    }
