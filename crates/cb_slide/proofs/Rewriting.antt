-- References are rewritten, word by word.
use Rattle.std.proofs.Common.{◌≡◌, ◌≢◌, ◌∙◌, ℕ, ◌+◌, ◌-◌, ◌/◌, ◌%◌, ◌^◌, ◌<◌, ◌≤◌, Bool, true, false, cond, IsTrue, Some, List, length, set as put_at, slice_get, refl, sym, ap, arith, subst, inl, inr}
use Rattle.std.proofs.lemmas.Bool.{false≢true, lt-ltb}
use Rattle.std.proofs.lemmas.Option.{get_or_from_slice_get}
use Rattle.cb_plain.specs.State.{words_of}
use Rattle.cb_plain.specs.declared.shape.Shape.{Shape}
use Rattle.cb_dag.specs.Marks.{marked}
use Rattle.cb_heap.specs.Shaped.{has_size}
use Rattle.cb_blocks.specs.Parted.{Parted, with_words}
use Rattle.cb_blocks.specs.Rows.{row}
use Rattle.cb_partheap.specs.Headers.{IsHeader, IsWord}
use Rattle.cb_partheap.specs.Heaps.{HasWord, holds, marks_at}
use Rattle.cb_partheap.specs.Marks.{IsMarked}
use Rattle.cb_partheap.specs.Spots.{IsSpot, Spot, place_of, words_by}
use Rattle.cb_partheap.specs.Words.{kind_at, mark_at, size_at}
use Rattle.cb_partheap.proofs.Laws.{HasContents, known_kind, part_room, with_inner, within, word_in, words_apart}
use Rattle.cb_slide.specs.Slid.{mark_after, place_after, slid, word_after, word_before}
use Rattle.cb_slide.specs.Sliding.{Given, IsBefore, IsForwarded, IsGiven, IsRewritten, RewrittenTo, Rewrites}
use Rattle.cb_slide.proofs.Carried.{Follows, MayFollow, after_null, after_there, child_follows, number_kept, set_cases, slid_out, unmarked_out, word_kept, word_rewritten}
use Rattle.cb_slide.proofs.Order.{before_between, before_last, before_on, before_or, before_part}
use Rattle.cb_slide.proofs.Puts.{IsPut, header_alike, put_alike, put_here, put_other, put_part, size_alike}

-- ---- the place that an object will have, as it is read

pub forwarding_place : (given : Given) (spot : Spot) → IsMarked given.heap.memory spot → mark_after given.set given.heap.memory spot ≡ place_of given.heap.memory (slid given.set given.heap.memory spot)
forwarding_place given spot kept =
    ap (λ b. cond b (place_of given.heap.memory (slid given.set given.heap.memory spot)) 0) (lt-ltb 0 (mark_at (words_by given.heap.memory spot) spot.start) kept)

place_read : {given : Given} {memory : Parted} (set : List Bool) (at result : ℕ) (target : Spot) → IsForwarded given memory → set ≡ given.set → Follows given at target →
    result ≡ cond (marked set target.part) (mark_at (words_by memory target) target.start) at → result ≡ place_after given.set given.heap.memory at
place_read {given} {memory} set at result target f same to read =
    let after : place_after given.set given.heap.memory at ≡ place_of given.heap.memory (slid given.set given.heap.memory target) = ap (place_after given.set given.heap.memory) (sym to.place) ∙ after_there given target f.given_is to.here in
    let read' : result ≡ cond (marked given.set target.part) (mark_at (words_by memory target) target.start) at = subst (λ marks. result ≡ cond (marked marks target.part) (mark_at (words_by memory target) target.start) at) same read in
    elim (set_cases given.set target.part) [
      | inl member ↦
          let kept : IsMarked given.heap.memory target = elim to.stays [
            | inl out ↦ absurd (false≢true (sym out ∙ member))
            | inr some ↦ some
          ] in
          read' ∙ ap (λ b. cond b (mark_at (words_by memory target) target.start) at) member ∙ f.marks target to.here ∙ forwarding_place given target kept ∙ sym after
      | inr out ↦ read' ∙ ap (λ b. cond b (mark_at (words_by memory target) target.start) at) out ∙ sym to.place ∙ ap (place_of given.heap.memory) (sym (slid_out given.set given.heap.memory target out)) ∙ sym after
    ]

-- what is asked of a place, and what is answered
abbrev pub NullRead : (at result : ℕ) → Type 0
NullRead at result = at ≡ 0 → result ≡ 0

abbrev pub FoundRead : Parted → List Bool → (at result : ℕ) → Type 0
FoundRead memory set at result = (spot : Spot) → IsHeader memory at spot → result ≡ cond (marked set spot.part) (mark_at (words_by memory spot) spot.start) at

pub header_followed : {given : Given} {memory : Parted} (at : ℕ) → IsForwarded given memory → MayFollow given at → 0 < at → (spot : Spot) × IsHeader memory at spot
header_followed {given} {memory} at f may some =
    elim may [
      | inl none ↦ absurd (omega (arith, none, some))
      | inr to ↦ (to.0, header_alike given.heap memory to.0 at f.given_is.heap f.alike to.1.here to.1.place)
    ]

pub new_is : {given : Given} {memory : Parted} (set : List Bool) (at result : ℕ) → IsForwarded given memory → set ≡ given.set → MayFollow given at → NullRead at result → FoundRead memory set at result → result ≡ place_after given.set given.heap.memory at
new_is {given} {memory} set at result f same may null found =
    elim may [
      | inl none ↦ null none ∙ sym (after_null given) ∙ ap (place_after given.set given.heap.memory) (sym none)
      | inr to ↦ place_read set at result to.0 f same to.1 (found to.0 (header_alike given.heap memory to.0 at f.given_is.heap f.alike to.1.here to.1.place))
    ]

pub parts_read : {given : Given} {memory : Parted} (set : List Bool) → IsForwarded given memory → set ≡ given.set → (length set ≡ length memory.words) × (length memory.words ≤ 2 ^ 12)
parts_read set f same = (omega (arith, ap length same, f.given_is.set.parts, f.alike.count), omega (arith, f.given_is.heap.few_parts, f.alike.count))

-- ---- nothing is written

pub rewritten_on : {given : Given} {memory : Parted} {part place : ℕ} (part' place' : ℕ) → RewrittenTo given memory part place →
    ((other at : ℕ) → IsBefore other at part place → IsBefore other at part' place') →
    ((spot : Spot) → (i : ℕ) → IsSpot given.heap.memory spot → i < size_at (words_by given.heap.memory spot) spot.start → IsBefore spot.part (spot.start + (3 + i)) part' place' → (IsBefore spot.part (spot.start + (3 + i)) part place → ⊥) →
    word_after given.set given.heap spot i ≡ word_before given.heap.memory spot i) →
    RewrittenTo given memory part' place'
rewritten_on {given} {memory} {part} {place} part' place' r on between =
    record {
      forwarded = r.forwarded;
      done = λ spot i here below before. elim (before_or spot.part (spot.start + (3 + i)) part place) [
        | inl was ↦ r.done spot i here below was
        | inr not ↦ r.rest spot i here below not ∙ sym (between spot i here below before not)
      ];
      rest = λ spot i here below not. r.rest spot i here below (λ before. not (on spot.part (spot.start + (3 + i)) before));
    }

pub rewrite_skip : {given : Given} {memory : Parted} {part : ℕ} → RewrittenTo given memory part 0 → marked given.set part ≡ false → RewrittenTo given memory (part + 1) 0
rewrite_skip {given} {memory} {part} r out =
    rewritten_on (part + 1) 0 r (λ other at before. before_part other at part 0 before) (λ spot i here below before not.
    let both = before_last spot.part (spot.start + (3 + i)) part 0 before not in
    word_kept given spot i (unmarked_out given spot r.forwarded.given_is here (ap (marked given.set) both.0 ∙ out)))

pub rewrite_part_end : {given : Given} {memory : Parted} {part place : ℕ} → RewrittenTo given memory part place → length (row given.heap.memory.words part) ≤ place → RewrittenTo given memory (part + 1) 0
rewrite_part_end {given} {memory} {part} {place} r end =
    rewritten_on (part + 1) 0 r (λ other at before. before_part other at part place before) (λ spot i here below before not.
    let both = before_last spot.part (spot.start + (3 + i)) part place before not in
    let fits = within given.heap spot r.forwarded.given_is.heap here in
    let row_is : length (words_by given.heap.memory spot) ≡ length (row given.heap.memory.words part) = ap (λ p. length (row given.heap.memory.words p)) both.0 in
    absurd (omega (arith, fits, below, end, both.1, row_is)))

-- a word of contents that stands among those of an object is its own
pub own_word : (given : Given) (spot other : Spot) (k i : ℕ) → IsGiven given → IsSpot given.heap.memory spot → IsSpot given.heap.memory other → i < size_at (words_by given.heap.memory other) other.start → other.part ≡ spot.part →
    other.start + (3 + i) ≡ spot.start + k → k < words_of (size_at (words_by given.heap.memory spot) spot.start) → (other ≡ spot) × (3 + i ≡ k)
own_word given spot other k i g here there below part same fits = words_apart given.heap other spot (3 + i) k g.heap there here part (omega (arith, below)) fits same

-- on within an object, or over one
pub rewritten_within : {given : Given} {memory : Parted} (spot : Spot) (k k' : ℕ) → RewrittenTo given memory spot.part (spot.start + k) → IsSpot given.heap.memory spot → k ≤ k' → k' ≤ words_of (size_at (words_by given.heap.memory spot) spot.start) →
    ((i : ℕ) → i < size_at (words_by given.heap.memory spot) spot.start → k ≤ 3 + i → 3 + i < k' → word_after given.set given.heap spot i ≡ word_before given.heap.memory spot i) → RewrittenTo given memory spot.part (spot.start + k')
rewritten_within {given} {memory} spot k k' r here order fits each =
    rewritten_on spot.part (spot.start + k') r (λ other at before. before_on other at spot.part (spot.start + k) (spot.start + k') (omega (arith, order)) before) (λ other i there below before not.
    let between = before_between other.part (other.start + (3 + i)) spot.part (spot.start + k) (spot.start + k') before not in
    let own = own_word given spot other (other.start + (3 + i) - spot.start) i r.forwarded.given_is here there below between.0 (omega (arith, between.1)) (omega (arith, between.1, between.2, fits)) in
    let below' : i < size_at (words_by given.heap.memory spot) spot.start = subst (λ (s : Spot). i < size_at (words_by given.heap.memory s) s.start) own.0 below in
    let low : k ≤ 3 + i = omega (arith, own.1, between.1) in
    let high : 3 + i < k' = omega (arith, own.1, between.1, between.2) in
    subst (λ (s : Spot). word_after given.set given.heap s i ≡ word_before given.heap.memory s i) (sym own.0) (each i below' low high))

-- ---- a word is rewritten

pub rewrite_word : {given : Given} {memory : Parted} (spot : Spot) (i word : ℕ) → RewrittenTo given memory spot.part (spot.start + (3 + i)) → IsSpot given.heap.memory spot → i < size_at (words_by given.heap.memory spot) spot.start →
    word ≡ word_after given.set given.heap spot i → marked given.set spot.part ≡ true → RewrittenTo given (with_inner memory spot (3 + i) word) spot.part (spot.start + (3 + (i + 1)))
rewrite_word {given} {memory} spot i word r here below is member =
    let f = r.forwarded in
    let memory' : Parted = with_inner memory spot (3 + i) word in
    let c : IsPut given.heap memory spot (3 + i) = record { is = f.given_is.heap; alike = f.alike; here = here; behind = omega arith; below = omega (arith, below) } in
    let elsewhere : (other : Spot) → (j : ℕ) → IsSpot given.heap.memory other → j < size_at (words_by given.heap.memory other) other.start → (other ≡ spot → j ≢ i) → word_before memory' other j ≡ word_before memory other j =
    λ other j there below' differs. put_other c word other (3 + j) there (omega (arith, below')) (λ equal same. differs equal (omega (arith, same))) in
    record {
      forwarded = record {
        given_is = f.given_is;
        alike = put_alike c word (λ third. absurd (omega (arith, third)));
        outside = λ other out. put_part c word other (λ equal. absurd (false≢true (sym (ap (marked given.set) (sym equal) ∙ out) ∙ member))) ∙ f.outside other out;
        marks = λ other there. ap (λ w. w / 2 ^ 14) (put_other c word other 2 there (omega arith) (λ equal third. absurd (omega (arith, third)))) ∙ f.marks other there;
      };
      done = λ other j there below' before. elim (before_or other.part (other.start + (3 + j)) spot.part (spot.start + (3 + i))) [
        | inl was ↦
            let differs : other ≡ spot → j ≢ i = λ equal same. absurd (elim was [
              | inl less ↦ omega (arith, less, ap (λ (s : Spot). s.part) equal)
              | inr both ↦ omega (arith, both.1, same, ap (λ (s : Spot). s.start) equal)
            ]) in
            elsewhere other j there below' differs ∙ r.done other j there below' was
        | inr not ↦
            let between = before_between other.part (other.start + (3 + j)) spot.part (spot.start + (3 + i)) (spot.start + (3 + (i + 1))) before not in
            let own = own_word given spot other (other.start + (3 + j) - spot.start) j f.given_is here there below' between.0 (omega (arith, between.1)) (omega (arith, between.1, between.2, below)) in
            let same : j ≡ i = omega (arith, own.1, between.1, between.2) in
            subst (λ (s : Spot). word_before memory' s j ≡ word_after given.set given.heap s j) (sym own.0)
            (subst (λ k. word_before memory' spot k ≡ word_after given.set given.heap spot k) (sym same) (put_here c word ∙ is))
      ];
      rest = λ other j there below' not.
          let differs : other ≡ spot → j ≢ i = λ equal same. not (subst (λ (s : Spot). IsBefore s.part (s.start + (3 + j)) spot.part (spot.start + (3 + (i + 1)))) (sym equal) (inr (refl, omega (arith, same)))) in
          elsewhere other j there below' differs ∙ r.rest other j there below' (λ before. not (before_on other.part (other.start + (3 + j)) spot.part (spot.start + (3 + i)) (spot.start + (3 + (i + 1))) (omega arith) before));
    }

-- ---- beginning and end

pub rewrite_begins : {given : Given} {memory : Parted} → IsForwarded given memory → HasContents given.heap.memory memory → RewrittenTo given memory 0 0
rewrite_begins f contents =
    record {
      forwarded = f;
      done = λ spot i here below before. elim before [ inl less ↦ absurd (omega (arith, less)) | inr both ↦ absurd (omega (arith, both.1)) ];
      rest = λ spot i here below not. contents spot i here below;
    }

pub rewritten : {given : Given} {memory : Parted} (count : ℕ) → RewrittenTo given memory count 0 → length given.heap.memory.words ≤ count → IsRewritten given memory
rewritten count r all = record { forwarded = r.forwarded; words = λ spot i here below. r.done spot i here below (inl (omega (arith, here.part, all))) }

-- ---- the words of an object

module _ {given : Given} {old : Parted} {all : List Shape} {set : List Bool} {at size : ℕ} {spot : Spot} (x : Rewrites given old all set at size spot) where
  pub header_of : (memory : Parted) → IsForwarded given memory → IsHeader memory at spot
  header_of memory f = header_alike given.heap memory spot at f.given_is.heap f.alike x.here x.place

  kind_same : kind_at (words_by old spot) spot.start ≡ kind_at (words_by given.heap.memory spot) spot.start
  kind_same = ap (λ w. w % 2 ^ 32) (x.so_far.forwarded.alike.header spot x.here).first

  pub shaped : IsTrue (has_size given.heap.shapes (kind_at (words_by given.heap.memory spot) spot.start) (size_at (words_by given.heap.memory spot) spot.start))
  shaped = (x.so_far.forwarded.given_is.heap.placed spot x.here).shaped

  pub shape_there : (spot : Spot) × IsHeader old at spot × (kind_at (words_by old spot) spot.start < length all)
  shape_there =
      (spot, header_of old x.so_far.forwarded, omega (arith, kind_same, ap length x.shapes_are, known_kind given.heap.shapes (kind_at (words_by given.heap.memory spot) spot.start) (size_at (words_by given.heap.memory spot) spot.start) shaped))

  pub kinds : (shape : Shape) → ((s : Spot) → IsHeader old at s → slice_get all (kind_at (words_by old s) s.start) ≡ Some shape) → slice_get given.heap.shapes (kind_at (words_by given.heap.memory spot) spot.start) ≡ Some shape
  kinds shape read =
      ap (slice_get given.heap.shapes) (sym kind_same) ∙ ap (λ shapes. slice_get shapes (kind_at (words_by old spot) spot.start)) (sym x.shapes_are) ∙ read spot (header_of old x.so_far.forwarded)

  pub has_word : (shape : Shape) (i : ℕ) → slice_get given.heap.shapes (kind_at (words_by given.heap.memory spot) spot.start) ≡ Some shape → i < size → HasWord shape i
  has_word shape i is below = word_in given.heap.shapes (kind_at (words_by given.heap.memory spot) spot.start) (size_at (words_by given.heap.memory spot) spot.start) i shape shaped is (omega (arith, below, x.size_is))

  pub holds_is : (shape : Shape) (i : ℕ) (result value : Bool) → slice_get given.heap.shapes (kind_at (words_by given.heap.memory spot) spot.start) ≡ Some shape → result ≡ holds (Some shape) i → result ≡ value →
      marks_at given.heap.shapes (words_by given.heap.memory spot) spot.start i ≡ value
  holds_is shape i result value is read told = ap (λ found. holds found i) is ∙ sym read ∙ told

  pub size_small : size < 2 ^ 32
  size_small =
      let g = x.so_far.forwarded.given_is in
      omega (arith, x.size_is, within given.heap spot g.heap x.here, part_room given.heap spot.part g.heap x.here.part, g.heap.parted.bound)

  pub member_of : marked given.set spot.part ≡ true
  member_of = ((x.so_far.forwarded.given_is.marks.each spot x.here).0 x.kept).0

  pub word_there : (memory : Parted) (i : ℕ) → IsForwarded given memory → i < size → IsWord memory at (3 + i) spot
  word_there memory i f below = record { header = header_of memory f; below = omega (arith, below, x.size_is, size_alike given.heap.memory memory spot f.alike x.here) }

  pub word_read : (memory : Parted) (i to : ℕ) → RewrittenTo given memory spot.part (spot.start + (3 + i)) → i < size → ((s : Spot) → IsWord memory at (3 + i) s → slice_get (words_by memory s) (s.start + (3 + i)) ≡ Some to) → word_before given.heap.memory spot i ≡ to
  word_read memory i to r below read =
      sym (r.rest spot i x.here (omega (arith, below, x.size_is)) (λ before. elim before [ inl less ↦ omega (arith, less) | inr both ↦ omega (arith, both.1) ]))
      ∙ get_or_from_slice_get (words_by memory spot) (spot.start + (3 + i)) to 0 (read spot (word_there memory i r.forwarded below))

  pub child_is : (i to : ℕ) → i < size → word_before given.heap.memory spot i ≡ to → marks_at given.heap.shapes (words_by given.heap.memory spot) spot.start i ≡ true → MayFollow given to
  child_is i to below word holds' =
      subst (MayFollow given) word (child_follows given spot i x.so_far.forwarded.given_is x.here x.kept (omega (arith, below, x.size_is)) holds')

  pub word_done : (memory memory' : Parted) (i to word : ℕ) → RewrittenTo given memory spot.part (spot.start + (3 + i)) → i < size → word_before given.heap.memory spot i ≡ to → marks_at given.heap.shapes (words_by given.heap.memory spot) spot.start i ≡ true →
      NullRead to word → FoundRead memory set to word → ((s : Spot) → IsWord memory at (3 + i) s → memory' ≡ with_words memory s.part (put_at (words_by memory s) (s.start + (3 + i)) word)) → RewrittenTo given memory' spot.part (spot.start + (3 + (i + 1)))
  word_done memory memory' i to word r below is holds' null found written =
      let below' : i < size_at (words_by given.heap.memory spot) spot.start = omega (arith, below, x.size_is) in
      let after : word ≡ word_after given.set given.heap spot i =
      new_is set to word r.forwarded x.set_is (child_is i to below is holds') null found ∙ ap (place_after given.set given.heap.memory) (sym is) ∙ sym (word_rewritten given spot i x.kept holds') in
      subst (λ (m : Parted). RewrittenTo given m spot.part (spot.start + (3 + (i + 1)))) (sym (written spot (word_there memory i r.forwarded below))) (rewrite_word spot i word r x.here below' after member_of)

  pub word_passed : (memory : Parted) (i : ℕ) → RewrittenTo given memory spot.part (spot.start + (3 + i)) → i < size → marks_at given.heap.shapes (words_by given.heap.memory spot) spot.start i ≡ false → RewrittenTo given memory spot.part (spot.start + (3 + (i + 1)))
  word_passed memory i r below number =
      rewritten_within spot (3 + i) (3 + (i + 1)) r x.here (omega arith) (omega (arith, below, x.size_is)) (λ j below' low high.
      let same : i ≡ j = omega (arith, low, high) in
      subst (λ k. word_after given.set given.heap spot k ≡ word_before given.heap.memory spot k) same (number_kept given spot i number))

  pub none_held : ((i : ℕ) → marks_at given.heap.shapes (words_by given.heap.memory spot) spot.start i ≡ false) → RewrittenTo given old spot.part (spot.start + words_of size)
  none_held numbers = rewritten_within spot 3 (words_of size) x.so_far x.here (omega arith) (omega (arith, x.size_is)) (λ i below low high. number_kept given spot i (numbers i))

  pub all_done : (memory : Parted) (i : ℕ) → RewrittenTo given memory spot.part (spot.start + (3 + i)) → i ≡ size → RewrittenTo given memory spot.part (spot.start + words_of size)
  all_done memory i r end = subst (λ n. RewrittenTo given memory spot.part (spot.start + n)) (let e : 3 + i ≡ words_of size = omega (arith, end) in e) r
