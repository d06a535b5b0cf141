-- Forwarding places, object by object.
use Rattle.std.proofs.Common.{◌≡◌, ◌∙◌, ℕ, ◌+◌, ◌*◌, ◌/◌, ◌%◌, ◌^◌, ◌<◌, ◌≤◌, false, cond, length, set, refl, sym, ap, arith, subst, inl, inr}
use Rattle.std.proofs.lemmas.Bool.{cases_eq, false≢true, le-ltb, lt-ltb}
use Rattle.cb_plain.specs.State.{words_of}
use Rattle.cb_dag.specs.Marks.{marked}
use Rattle.cb_blocks.specs.Parted.{Parted, with_words}
use Rattle.cb_blocks.specs.Rows.{row}
use Rattle.cb_partheap.specs.Headers.{IsHeader}
use Rattle.cb_partheap.specs.Spots.{IsSpot, Spot, place_of, words_by}
use Rattle.cb_partheap.specs.Words.{mark_at, site_at, size_at}
use Rattle.cb_partheap.proofs.Laws.{alike_itself, alike_place, gap, part_room, same_spot, whole_next, with_inner, within}
use Rattle.cb_slide.specs.Slid.{IsObject, mark_after, slid, slid_to}
use Rattle.cb_slide.specs.Sliding.{ForwardedScan, ForwardedTo, Given, IsBefore, IsEdge, IsForwarded, IsGiven, IsIn}
use Rattle.cb_slide.proofs.Carried.{slid_in, unmarked_out}
use Rattle.cb_slide.proofs.Order.{before_between, before_last, before_on, before_or, before_part}
use Rattle.cb_slide.proofs.Puts.{IsPut, header_alike, put_alike, put_here, put_other, put_part, size_alike}
use Rattle.cb_slide.proofs.Walk.{gone_next, kept_next, slid_low}

-- ---- places in a part

abbrev pub spot_at : (part start : ℕ) → Spot
spot_at part start = record { part = part; start = start }

pub edge_first : (given : Given) (part : ℕ) → IsEdge given part 0
edge_first given part = record { inside = omega arith; whole = refl }

pub edge_spot : {given : Given} {part : ℕ} (scan : ℕ) → IsIn given part → IsEdge given part scan → scan < length (row given.heap.memory.words part) → IsSpot given.heap.memory (spot_at part scan)
edge_spot scan is edge less = record { part = is.below; inside = less; whole = edge.whole }

pub edge_next : {given : Given} {part : ℕ} (scan size : ℕ) → IsGiven given → IsIn given part → IsEdge given part scan → scan < length (row given.heap.memory.words part) → size ≡ words_of (size_at (row given.heap.memory.words part) scan) →
    IsEdge given part (scan + size)
edge_next {given} {part} scan size g is edge less same =
    let fits = within given.heap (spot_at part scan) g.heap (edge_spot scan is edge less) in
    subst (λ n. IsEdge given part (scan + n)) (sym same) (record { inside = fits; whole = whole_next (row given.heap.memory.words part) scan fits edge.whole })

-- an object that begins between a place and the next one begins there
pub only_there : (given : Given) (part scan at : ℕ) → IsGiven given → IsIn given part → IsEdge given part scan → scan < length (row given.heap.memory.words part) → (spot : Spot) → IsSpot given.heap.memory spot → spot.part ≡ part → scan ≤ spot.start →
    spot.start < scan + words_of (size_at (row given.heap.memory.words part) scan) → spot ≡ spot_at part scan
only_there given part scan at g is edge less spot here same low high =
    elim (cases_eq spot.start scan) [
      | inl start ↦ same_spot spot (spot_at part scan) same start
      | inr differs ↦
          let here' : IsSpot given.heap.memory (spot_at part spot.start) = subst (λ p. IsSpot given.heap.memory (spot_at p spot.start)) same here in
          absurd (omega (arith, high, gap (row given.heap.memory.words part) scan spot.start (omega (arith, low, differs)) (omega (arith, here'.inside)) edge.whole here'.whole))
    ]

-- ---- nothing is written

-- so far and on to a place, where all objects between have the marks that they shall have
pub forwarded_on : {given : Given} {memory : Parted} {part place : ℕ} (part' place' : ℕ) → ForwardedTo given memory part place → ((spot : Spot) → IsBefore spot.part spot.start part place → IsBefore spot.part spot.start part' place') →
    ((spot : Spot) → IsSpot given.heap.memory spot → IsBefore spot.part spot.start part' place' → (IsBefore spot.part spot.start part place → ⊥) → mark_at (words_by memory spot) spot.start ≡ mark_after given.set given.heap.memory spot) →
    ForwardedTo given memory part' place'
forwarded_on {given} {memory} {part} {place} part' place' f on between =
    record {
      given_is = f.given_is;
      alike = f.alike;
      contents = f.contents;
      outside = f.outside;
      done = λ spot here before. elim (before_or spot.part spot.start part place) [
        | inl was ↦ f.done spot here was
        | inr not ↦ between spot here before not
      ];
      rest = λ spot here not. f.rest spot here (λ before. not (on spot before));
    }

unmarked_after : (given : Given) (spot : Spot) → mark_at (words_by given.heap.memory spot) spot.start ≡ 0 → mark_after given.set given.heap.memory spot ≡ 0
unmarked_after given spot none =
    ap (λ b. cond b (place_of given.heap.memory (slid given.set given.heap.memory spot)) 0) (le-ltb 0 (mark_at (words_by given.heap.memory spot) spot.start) (omega (arith, none)))

pub forward_skip : {given : Given} {memory : Parted} {part : ℕ} → ForwardedTo given memory part 0 → marked given.set part ≡ false → ForwardedTo given memory (part + 1) 0
forward_skip {given} {memory} {part} f out =
    forwarded_on (part + 1) 0 f (λ spot before. before_part spot.part spot.start part 0 before) (λ spot here before not.
    let both = before_last spot.part spot.start part 0 before not in
    let none = unmarked_out given spot f.given_is here (ap (marked given.set) both.0 ∙ out) in
    f.rest spot here not ∙ none ∙ sym (unmarked_after given spot none))

pub forward_part_end : {given : Given} {memory : Parted} {part place : ℕ} → ForwardedTo given memory part place → length (row given.heap.memory.words part) ≤ place → ForwardedTo given memory (part + 1) 0
forward_part_end {given} {memory} {part} {place} f end =
    forwarded_on (part + 1) 0 f (λ spot before. before_part spot.part spot.start part place before) (λ spot here before not.
    let both = before_last spot.part spot.start part place before not in
    let inside : spot.start < length (row given.heap.memory.words part) = subst (λ p. spot.start < length (row given.heap.memory.words p)) both.0 here.inside in
    absurd (omega (arith, inside, end, both.1)))

-- an object that isn't marked is passed
pub forward_gone : {given : Given} {memory : Parted} {part scan : ℕ} (size : ℕ) → ForwardedTo given memory part scan → IsIn given part → IsEdge given part scan → scan < length (row given.heap.memory.words part) →
    size ≡ words_of (size_at (row given.heap.memory.words part) scan) → mark_at (row memory.words part) scan ≡ 0 → ForwardedTo given memory part (scan + size)
forward_gone {given} {memory} {part} {scan} size f is edge less same gone =
    forwarded_on part (scan + size) f (λ spot before. before_on spot.part spot.start part scan (scan + size) (omega arith) before) (λ spot here before not.
    let between = before_between spot.part spot.start part scan (scan + size) before not in
    let there = only_there given part scan 0 f.given_is is edge less spot here between.0 between.1 (omega (arith, between.2, same)) in
    let none : mark_at (words_by memory spot) spot.start ≡ 0 = ap (λ (s : Spot). mark_at (words_by memory s) s.start) there ∙ gone in
    none ∙ sym (unmarked_after given spot (sym (f.rest spot here not) ∙ none)))

-- ---- an object gets its place

-- what is read of an object that isn't passed
pub mark_still : {given : Given} {memory : Parted} {part scan : ℕ} → ForwardedTo given memory part scan → IsIn given part → IsEdge given part scan → scan < length (row given.heap.memory.words part) →
    mark_at (row memory.words part) scan ≡ mark_at (row given.heap.memory.words part) scan
mark_still {given} {memory} {part} {scan} f is edge less =
    f.rest (spot_at part scan) (edge_spot scan is edge less) (λ before. elim before [ inl below ↦ omega (arith, below) | inr both ↦ omega (arith, both.1) ])

pub header_next : {given : Given} {memory : Parted} {part scan : ℕ} (at : ℕ) → ForwardedTo given memory part scan → IsIn given part → IsEdge given part scan → scan < length (row given.heap.memory.words part) →
    at ≡ place_of memory (spot_at part scan) → IsHeader memory at (spot_at part scan)
header_next {given} {memory} {part} {scan} at f is edge less place =
    header_alike given.heap memory (spot_at part scan) at f.given_is.heap f.alike (edge_spot scan is edge less) (sym (alike_place given.heap.memory memory (spot_at part scan) f.alike) ∙ sym place)

-- what an object becomes that gets a mark
pub record IsNew (given : Given) (part scan free mark : ℕ) : Type 0 where
  pub free_is : free ≡ slid_to (row given.heap.memory.words part) scan
  pub mark_is : mark ≡ place_of given.heap.memory (spot_at part free)

abbrev pub third_word : Parted → ℕ → ℕ → ℕ → ℕ
third_word memory part scan mark = site_at (row memory.words part) scan + mark * 2 ^ 14

pub forward_kept : {given : Given} {memory : Parted} {part scan : ℕ} (size free mark : ℕ) → ForwardedTo given memory part scan → IsIn given part → IsEdge given part scan → scan < length (row given.heap.memory.words part) →
    size ≡ words_of (size_at (row given.heap.memory.words part) scan) → 0 < mark_at (row memory.words part) scan → IsNew given part scan free mark →
    ForwardedTo given (with_inner memory (spot_at part scan) 2 (third_word memory part scan mark)) part (scan + size)
forward_kept {given} {memory} {part} {scan} size free mark f is edge less same kept new =
    let spot : Spot = spot_at part scan in
    let here = edge_spot scan is edge less in
    let word : ℕ = third_word memory part scan mark in
    let memory' : Parted = with_inner memory spot 2 word in
    let c : IsPut given.heap memory spot 2 = record { is = f.given_is.heap; alike = f.alike; here = here; behind = omega arith; below = omega arith } in
    let site = (f.alike.header spot here).site in
    let site_is : word % 2 ^ 14 ≡ site_at (words_by given.heap.memory spot) spot.start = omega (arith, site) in
    let was : 0 < mark_at (row given.heap.memory.words part) scan = omega (arith, kept, mark_still f is edge less) in
    let now : mark_at (words_by memory' spot) spot.start ≡ mark = ap (λ w. w / 2 ^ 14) (put_here c word) ∙ (let e : word / 2 ^ 14 ≡ mark = omega arith in e) in
    let after : mark_after given.set given.heap.memory spot ≡ mark =
    ap (λ b. cond b (place_of given.heap.memory (slid given.set given.heap.memory spot)) 0) (lt-ltb 0 (mark_at (words_by given.heap.memory spot) spot.start) was)
    ∙ ap (place_of given.heap.memory) (slid_in given.set given.heap.memory spot is.member) ∙ ap (λ n. place_of given.heap.memory (spot_at part n)) (sym new.free_is) ∙ sym new.mark_is in
    let elsewhere : (other : Spot) → IsSpot given.heap.memory other → (other ≡ spot → ⊥) → mark_at (words_by memory' other) other.start ≡ mark_at (words_by memory other) other.start =
    λ other there differs. ap (λ w. w / 2 ^ 14) (put_other c word other 2 there (omega arith) (λ equal. absurd (differs equal))) in
    let reached : IsBefore part scan part (scan + size) = inr (refl, omega (arith, same)) in
    record {
      given_is = f.given_is;
      alike = put_alike c word (λ third. site_is);
      contents = λ other i there below. put_other c word other (3 + i) there (omega (arith, below)) (λ equal third. absurd (omega (arith, third))) ∙ f.contents other i there below;
      outside = λ other out. put_part c word other (λ equal. absurd (false≢true (sym (ap (marked given.set) (sym equal) ∙ out) ∙ is.member))) ∙ f.outside other out;
      done = λ other there before. elim (before_or other.part other.start part scan) [
        | inl earlier ↦
            let differs : other ≡ spot → ⊥ = λ equal. elim earlier [
              | inl below ↦ omega (arith, below, ap (λ (s : Spot). s.part) equal)
              | inr both ↦ omega (arith, both.1, ap (λ (s : Spot). s.start) equal)
            ] in
            elsewhere other there differs ∙ f.done other there earlier
        | inr not ↦
            let between = before_between other.part other.start part scan (scan + size) before not in
            let equal = only_there given part scan 0 f.given_is is edge less other there between.0 between.1 (omega (arith, between.2, same)) in
            subst (λ (s : Spot). mark_at (words_by memory' s) s.start ≡ mark_after given.set given.heap.memory s) (sym equal) (now ∙ sym after)
      ];
      rest = λ other there not.
          let differs : other ≡ spot → ⊥ = λ equal. not (subst (λ (s : Spot). IsBefore s.part s.start part (scan + size)) (sym equal) reached) in
          elsewhere other there differs ∙ f.rest other there (λ before. not (before_on other.part other.start part scan (scan + size) (omega arith) before));
    }

-- ---- beginning and end

pub forward_begins : (given : Given) → IsGiven given → ForwardedTo given given.heap.memory 0 0
forward_begins given g =
    record {
      given_is = g;
      alike = alike_itself given.heap.memory;
      contents = λ spot i here below. refl;
      outside = λ other out. refl;
      done = λ spot here before. elim before [ inl below ↦ absurd (omega (arith, below)) | inr both ↦ absurd (omega (arith, both.1)) ];
      rest = λ spot here not. refl;
    }

pub forwarded : {given : Given} {memory : Parted} (count : ℕ) → ForwardedTo given memory count 0 → length given.heap.memory.words ≤ count → IsForwarded given memory
forwarded count f all = record { given_is = f.given_is; alike = f.alike; outside = f.outside; marks = λ spot here. f.done spot here (inl (omega (arith, here.part, all))) }

-- ---- the loop over the objects of a part

pub scan_less : {given : Given} {memory : Parted} {part : ℕ} (scan end : ℕ) → ForwardedTo given memory part 0 → end ≡ length (row memory.words part) → scan < end → scan < length (row given.heap.memory.words part)
scan_less {given} {memory} {part} scan end f is less = omega (arith, is, less, f.alike.long part)

pub scan_past : {given : Given} {memory : Parted} {part : ℕ} (scan end : ℕ) → ForwardedTo given memory part 0 → end ≡ length (row memory.words part) → end ≤ scan → length (row given.heap.memory.words part) ≤ scan
scan_past {given} {memory} {part} scan end f is past = omega (arith, is, past, f.alike.long part)

module _ {given : Given} {memory : Parted} {part scan free : ℕ} (s : ForwardedScan given memory part scan free) (is : IsIn given part) (less : scan < length (row given.heap.memory.words part)) (at : ℕ) (place : at ≡ place_of memory (spot_at part scan)) where
  pub header_here : IsHeader memory at (spot_at part scan)
  header_here = header_next at s.so_far is s.edge less place

  pub size_here : (size : ℕ) → ((spot : Spot) → IsHeader memory at spot → size ≡ words_of (size_at (words_by memory spot) spot.start)) → size ≡ words_of (size_at (row given.heap.memory.words part) scan)
  size_here size read = read (spot_at part scan) header_here ∙ ap words_of (size_alike given.heap.memory memory (spot_at part scan) s.so_far.alike (edge_spot scan is s.edge less))

  pub fits_here : (size : ℕ) → size ≡ words_of (size_at (row given.heap.memory.words part) scan) → (scan + size ≤ length (row given.heap.memory.words part)) × (length (row given.heap.memory.words part) ≤ 2 ^ 28) × (0 < size) × (free ≤ scan)
  fits_here size same =
      let g = s.so_far.given_is in (
        omega (arith, same, within given.heap (spot_at part scan) g.heap (edge_spot scan is s.edge less)),
        omega (arith, part_room given.heap part g.heap is.below, g.heap.parted.bound),
        omega (arith, same),
        omega (arith, s.free_is, slid_low (row given.heap.memory.words part) scan s.edge.inside s.edge.whole),
      )

  object_here : IsObject (row given.heap.memory.words part) scan
  object_here = record { inside = less; whole = s.edge.whole }

  pub next_gone : (size mark : ℕ) → size ≡ words_of (size_at (row given.heap.memory.words part) scan) → ((spot : Spot) → IsHeader memory at spot → mark ≡ mark_at (words_by memory spot) spot.start) → mark ≡ 0 →
      ForwardedScan given memory part (scan + size) free
  next_gone size mark same read none =
      let g = s.so_far.given_is in
      let gone : mark_at (row memory.words part) scan ≡ 0 = sym (read (spot_at part scan) header_here) ∙ none in
      let was : mark_at (row given.heap.memory.words part) scan ≡ 0 = sym (mark_still s.so_far is s.edge less) ∙ gone in
      record {
        so_far = forward_gone size s.so_far is s.edge less same gone;
        edge = edge_next scan size g is s.edge less same;
        free_is = s.free_is ∙ sym (ap (λ n. slid_to (row given.heap.memory.words part) (scan + n)) same ∙ gone_next (row given.heap.memory.words part) scan object_here (omega (arith, (fits_here size same).0, same)) was);
      }

  pub next_kept : (size mark to : ℕ) (memory' : Parted) → size ≡ words_of (size_at (row given.heap.memory.words part) scan) → ((spot : Spot) → IsHeader memory at spot → mark ≡ mark_at (words_by memory spot) spot.start) → (mark ≡ 0 → ⊥) →
      to ≡ place_of memory (spot_at part free) → ((spot : Spot) → IsHeader memory at spot → memory' ≡ with_words memory spot.part (set (words_by memory spot) (spot.start + 2) (site_at (words_by memory spot) spot.start + to * 2 ^ 14))) →
      ForwardedScan given memory' part (scan + size) (free + size)
  next_kept size mark to memory' same read some to_is written =
      let g = s.so_far.given_is in
      let kept : 0 < mark_at (row memory.words part) scan = omega (arith, some, read (spot_at part scan) header_here) in
      let was : 0 < mark_at (row given.heap.memory.words part) scan = omega (arith, kept, mark_still s.so_far is s.edge less) in
      subst (λ (m : Parted). ForwardedScan given m part (scan + size) (free + size)) (sym (written (spot_at part scan) header_here)) (record {
        so_far = forward_kept size free to s.so_far is s.edge less same kept (record { free_is = s.free_is; mark_is = to_is ∙ alike_place given.heap.memory memory (spot_at part free) s.so_far.alike });
        edge = edge_next scan size g is s.edge less same;
        free_is = omega (arith, s.free_is, same, ap (λ n. slid_to (row given.heap.memory.words part) (scan + n)) same, kept_next (row given.heap.memory.words part) scan object_here (omega (arith, (fits_here size same).0, same)) was);
      })

pub same_scan : {given : Given} {part scan : ℕ} (memory memory' : Parted) (free free' : ℕ) → memory' ≡ memory → free' ≡ free → ForwardedScan given memory part scan free → ForwardedScan given memory' part scan free'
same_scan {given} {part} {scan} memory memory' free free' same equal s = subst (λ n. ForwardedScan given memory' part scan n) (sym equal) (subst (λ (m : Parted). ForwardedScan given m part scan free) (sym same) s)
