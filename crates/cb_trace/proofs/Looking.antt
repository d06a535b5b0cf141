-- Looking up the references of roots, and those of one object.
use Rattle.std.proofs.Common.{◌≡◌, ◌∙◌, ℕ, ◌+◌, ◌*◌, ◌%◌, ◌^◌, ◌<◌, ◌≤◌, Bool, true, Some, List, [], ◌∷◌, length, get_or, slice_get, refl, sym, ap, arith, subst, inl, inr}
use Rattle.std.proofs.lemmas.Bool.{cases_eq}
use Rattle.std.proofs.lemmas.List.Sums.{sum_by-cons}
use Rattle.std.proofs.lemmas.Option.{get_or_from_slice_get, same_Some}
use Rattle.cb_plain.specs.State.{Roots, words_of}
use Rattle.cb_plain.specs.declared.shape.Shape.{Shape}
use Rattle.cb_frames.specs.Entries.{entries}
use Rattle.cb_blocks.specs.Parted.{Parted}
use Rattle.cb_partheap.specs.Headers.{IsHeader, IsWord}
use Rattle.cb_partheap.specs.Heaps.{HasWord, holds, marks_at, with_memory}
use Rattle.cb_partheap.specs.Spots.{IsSpot, Spot, place_of, words_by}
use Rattle.cb_partheap.specs.Stacks.{Stacked, pushed}
use Rattle.cb_partheap.specs.Words.{kind_at, size_at}
use Rattle.cb_partheap.proofs.Laws.{MayLead, alike_spot, child_leads, known_kind, part_room, root_leads, within, word_in, words_room}
use Rattle.cb_trace.specs.Marking.{Begins, BehindTo, Given, IsGiven, IsLooked, IsLookedUp, IsMarking, LookedAt, Looks, ObjectTo, RootsTo, StandsAt, StaysLooked, Waits, words_there}
use Rattle.cb_trace.proofs.Steps.{IsMore, begins, header_now, heap_now, looked_on, more_first, more_second, size_now, words_here}

-- ---- one reference

pub record Up (given : Given) (memory memory' : Parted) (grey' : Stacked) (set : List Bool) (waiting' : List ℕ) (looked to : ℕ) : Type 0 where
  pub stands : StandsAt given memory' grey' set waiting' looked
  pub stays : StaysLooked given memory memory'
  pub looked_is : IsLooked given memory' to

pub up_next : {given : Given} {memory : Parted} {set : List Bool} {looked : ℕ} (memory' : Parted) (grey grey' : Stacked) (shape : List ℕ → List ℕ) (to : ℕ) → StandsAt given memory grey set (shape grey.places) looked → MayLead given.heap given.roots to →
    ((places : List ℕ) → IsMore (shape places) (shape (to ∷ places)) to (words_there given.heap.memory)) → (to ≡ 0 → (memory' ≡ memory) × (grey' ≡ grey)) →
    ((spot : Spot) → IsHeader memory to spot → IsLookedUp set memory memory' grey grey' to spot) → Up given memory memory' grey' set (shape grey'.places) looked to
up_next {given} {memory} {set} {looked} memory' grey grey' shape to s may more null found =
    let on = looked_on memory' grey grey' shape to s.is may more null (subst (λ (marks : List Bool). (spot : Spot) → IsHeader memory to spot → IsLookedUp marks memory memory' grey grey' to spot) s.set_is found) in
    record { stands = record { is = on.m; set_is = s.set_is; room = on.room ∙ s.room }; stays = on.stays; looked_is = on.looked_is }

pub stays_looked : {given : Given} {memory memory' : Parted} (to : ℕ) → StaysLooked given memory memory' → IsLooked given memory to → IsLooked given memory' to
stays_looked to stays before = record { each = λ spot here place member. stays spot here (before.each spot here place member) }

pub parts_now : {given : Given} {memory : Parted} {grey : Stacked} {set : List Bool} {waiting : List ℕ} {looked : ℕ} → StandsAt given memory grey set waiting looked → (length set ≡ length memory.words) × (length memory.words ≤ 2 ^ 12)
parts_now s = (omega (arith, ap length s.set_is, s.is.given_is.set.parts, s.is.alike.count), omega (arith, s.is.given_is.heap.few_parts, s.is.alike.count))

-- ---- roots

pub roots_begin : (given : Given) (memory : Parted) (grey : Stacked) (roots : Roots) (set : List Bool) → Begins given memory grey roots set → RootsTo given memory grey set 0
roots_begin given memory grey roots set b =
    let none : [] ≡ grey.places = sym (ap (λ (g : Stacked). g.places) b.grey_is ∙ b.given_is.heap.idle) in
    record {
      stands = record {
        is = subst (λ places. IsMarking given memory places 0) none (subst (λ p. IsMarking given p [] 0) (sym b.memory_is) (begins given b.given_is));
        set_is = b.set_is;
        room = ap (λ (g : Stacked). g.room) b.grey_is;
      };
      looked = λ k to low is. absurd (omega (arith, low));
    }

pub root_may : (given : Given) (roots : Roots) (i to : ℕ) → IsGiven given → roots ≡ given.roots → slice_get (entries roots) i ≡ Some to → MayLead given.heap given.roots to
root_may given roots i to is same there = root_leads given.heap given.roots i to is.heap is.view (subst (λ (r : Roots). slice_get (entries r) i ≡ Some to) same there)

pub roots_next : (given : Given) (memory memory' : Parted) (grey grey' : Stacked) (roots : Roots) (set : List Bool) (i to : ℕ) → roots ≡ given.roots → slice_get (entries roots) i ≡ Some to → (to ≡ 0 → (memory' ≡ memory) × (grey' ≡ grey)) →
    ((spot : Spot) → IsHeader memory to spot → IsLookedUp set memory memory' grey grey' to spot) → RootsTo given memory grey set i → RootsTo given memory' grey' set (i + 1)
roots_next given memory memory' grey grey' roots set i to same there null found r =
    let up = up_next memory' grey grey' (λ places. places) to r.stands (root_may given roots i to r.stands.is.given_is same there) (λ places. more_first places to (words_there given.heap.memory)) null found in
    record {
      stands = up.stands;
      looked = λ k other below is. elim (cases_eq k i) [
        | inl equal ↦
            let other_is : to ≡ other = same_Some to other (sym (subst (λ (r : Roots). slice_get (entries r) i ≡ Some to) same there) ∙ ap (slice_get (entries given.roots)) (sym equal) ∙ is) in
            subst (IsLooked given memory') other_is up.looked_is
        | inr differs ↦ stays_looked other up.stays (r.looked k other (omega (arith, below, differs)) is)
      ];
    }

-- ---- the words of an object

pub holds_told : (shape : Shape) (i : ℕ) (result value : Bool) → result ≡ holds (Some shape) i → result ≡ value → holds (Some shape) i ≡ value
holds_told shape i result value read is = sym read ∙ is

module _ {given : Given} {memory : Parted} {grey : Stacked} {set : List Bool} {at looked : ℕ} (s : StandsAt given memory grey set (at ∷ grey.places) looked) where
  pub waits_there : Waits given memory at
  waits_there = s.is.waits at (inl refl)

  pub header_there : (spot : Spot) × IsHeader memory at spot
  header_there = let w = s.is.waits at (inl refl) in (w.spot, header_now s.is w.spot at w.here w.place)

  pub words_are : (spot : Spot) → IsSpot given.heap.memory spot → place_of given.heap.memory spot ≡ at → words_of (size_at (words_by memory spot) spot.start) ≡ words_there given.heap.memory at
  words_are spot here place = ap words_of (size_now s.is spot here) ∙ sym (words_here given spot at s.is.given_is here place)

  pub size_read : (words : ℕ) → ((spot : Spot) → IsHeader memory at spot → words ≡ words_of (size_at (words_by memory spot) spot.start)) → words ≡ words_there given.heap.memory at
  size_read words read =
      let w = s.is.waits at (inl refl) in
      read w.spot (header_now s.is w.spot at w.here w.place) ∙ ap words_of (size_now s.is w.spot w.here) ∙ sym (words_here given w.spot at s.is.given_is w.here w.place)

  pub at_least : 3 ≤ words_there given.heap.memory at
  at_least = let w = s.is.waits at (inl refl) in omega (arith, words_here given w.spot at s.is.given_is w.here w.place)

  pub at_most : words_there given.heap.memory at ≤ 2 ^ 28
  at_most =
      let w = s.is.waits at (inl refl) in
      let is = s.is.given_is.heap in
      omega (arith, words_here given w.spot at s.is.given_is w.here w.place, within given.heap w.spot is w.here, part_room given.heap w.spot.part is w.here.part, is.parted.bound)

  pub word_of : (i : ℕ) → 3 + i < words_there given.heap.memory at → (spot : Spot) → IsSpot given.heap.memory spot → place_of given.heap.memory spot ≡ at → IsWord memory at (3 + i) spot
  word_of i below spot here place =
      let size : words_of (size_at (words_by memory spot) spot.start) ≡ words_there given.heap.memory at = ap words_of (size_now s.is spot here) ∙ sym (words_here given spot at s.is.given_is here place) in
      record { header = header_now s.is spot at here place; below = omega (arith, below, size) }

  -- the shape of its kind
  pub shape_there : (shapes : List Shape) → shapes ≡ given.heap.shapes → (spot : Spot) × IsHeader memory at spot × (kind_at (words_by memory spot) spot.start < length shapes)
  shape_there shapes same =
      let w = s.is.waits at (inl refl) in
      let placed = (heap_now s.is).placed w.spot (alike_spot given.heap.memory memory w.spot s.is.alike w.here) in
      (w.spot, header_now s.is w.spot at w.here w.place, omega (arith, ap length same, known_kind given.heap.shapes (kind_at (words_by memory w.spot) w.spot.start) (size_at (words_by memory w.spot) w.spot.start) placed.shaped))

  pub shape_is : (shapes : List Shape) (shape : Shape) → shapes ≡ given.heap.shapes → ((spot : Spot) → IsHeader memory at spot → slice_get shapes (kind_at (words_by memory spot) spot.start) ≡ Some shape) → (spot : Spot) → IsSpot given.heap.memory spot →
      place_of given.heap.memory spot ≡ at → slice_get given.heap.shapes (kind_at (words_by given.heap.memory spot) spot.start) ≡ Some shape
  shape_is shapes shape same read spot here place =
      ap (λ (all : List Shape). slice_get all (kind_at (words_by given.heap.memory spot) spot.start)) (sym same) ∙ ap (λ w. slice_get shapes (w % 2 ^ 32)) (sym (s.is.alike.header spot here).first) ∙ read spot (header_now s.is spot at here place)

  pub word_there : (i : ℕ) → 3 + i < words_there given.heap.memory at → (spot : Spot) × IsWord memory at (3 + i) spot
  word_there i below = let w = s.is.waits at (inl refl) in (w.spot, word_of i below w.spot w.here w.place)

  -- whether a word holds a reference, and what it holds
  pub word_is : (i to : ℕ) → 3 + i < words_there given.heap.memory at → ((spot : Spot) → IsWord memory at (3 + i) spot → slice_get (words_by memory spot) (spot.start + (3 + i)) ≡ Some to) → (spot : Spot) → IsSpot given.heap.memory spot →
      place_of given.heap.memory spot ≡ at → get_or (words_by given.heap.memory spot) (spot.start + (3 + i)) 0 ≡ to
  word_is i to below read spot here place =
      let size = words_here given spot at s.is.given_is here place in
      sym (s.is.contents spot i here (omega (arith, below, size))) ∙ get_or_from_slice_get (words_by memory spot) (spot.start + (3 + i)) to 0 (read spot (word_of i below spot here place))

  pub child_may : (i to : ℕ) (shape : Shape) → 3 + i < words_there given.heap.memory at →
      ((spot : Spot) → IsSpot given.heap.memory spot → place_of given.heap.memory spot ≡ at → slice_get given.heap.shapes (kind_at (words_by given.heap.memory spot) spot.start) ≡ Some shape) → holds (Some shape) i ≡ true →
      ((spot : Spot) → IsWord memory at (3 + i) spot → slice_get (words_by memory spot) (spot.start + (3 + i)) ≡ Some to) → MayLead given.heap given.roots to
  child_may i to shape below kinds told word =
      let w = s.is.waits at (inl refl) in
      let size = words_here given w.spot at s.is.given_is w.here w.place in
      child_leads given.heap given.roots w.spot i to s.is.given_is.heap w.here (s.is.only w.spot w.here w.marked_is).1 (omega (arith, below, size)) (ap (λ found. holds found i) (kinds w.spot w.here w.place) ∙ told) (word_is i to below word w.spot w.here w.place)

  -- it has the word that is looked at
  pub has_word : (i : ℕ) (shape : Shape) → 3 + i < words_there given.heap.memory at →
      ((spot : Spot) → IsSpot given.heap.memory spot → place_of given.heap.memory spot ≡ at → slice_get given.heap.shapes (kind_at (words_by given.heap.memory spot) spot.start) ≡ Some shape) → HasWord shape i
  has_word i shape below kinds =
      let w = s.is.waits at (inl refl) in
      let size = words_here given w.spot at s.is.given_is w.here w.place in
      word_in given.heap.shapes (kind_at (words_by given.heap.memory w.spot) w.spot.start) (size_at (words_by given.heap.memory w.spot) w.spot.start) i shape (s.is.given_is.heap.placed w.spot w.here).shaped (kinds w.spot w.here w.place)
      (omega (arith, below, size))

pub child_up : {given : Given} {memory : Parted} {set : List Bool} {at looked : ℕ} (memory' : Parted) (grey grey' : Stacked) (to : ℕ) → StandsAt given memory grey set (at ∷ grey.places) looked → MayLead given.heap given.roots to →
    (to ≡ 0 → (memory' ≡ memory) × (grey' ≡ grey)) → ((spot : Spot) → IsHeader memory to spot → IsLookedUp set memory memory' grey grey' to spot) → Up given memory memory' grey' set (at ∷ grey'.places) looked to
child_up {given} {memory} {set} {at} {looked} memory' grey grey' to s may null found = up_next memory' grey grey' (λ places. at ∷ places) to s may (λ places. more_second places at to (words_there given.heap.memory)) null found

-- one word more was looked at
pub object_more : {given : Given} {old memory memory' : Parted} {grey grey' : Stacked} {set : List Bool} {at looked i : ℕ} → ObjectTo given old memory grey set at looked i → StandsAt given memory' grey' set (at ∷ grey'.places) looked → StaysLooked given memory memory' →
    ((spot : Spot) → IsSpot given.heap.memory spot → place_of given.heap.memory spot ≡ at → marks_at given.heap.shapes (words_by given.heap.memory spot) spot.start i ≡ true →
    IsLooked given memory' (get_or (words_by given.heap.memory spot) (spot.start + (3 + i)) 0)) → ObjectTo given old memory' grey' set at looked (i + 1)
object_more {given} {old} {memory} {memory'} {grey} {grey'} {set} {at} {looked} {i} o stands stays now =
    record {
      stands = stands;
      stays = λ spot here some. stays spot here (o.stays spot here some);
      done = λ spot k here place below holds. elim (cases_eq k i) [
        | inl equal ↦
            subst (λ n. IsLooked given memory' (get_or (words_by given.heap.memory spot) (spot.start + (3 + n)) 0)) (sym equal)
            (now spot here place (ap (marks_at given.heap.shapes (words_by given.heap.memory spot) spot.start) (sym equal) ∙ holds))
        | inr differs ↦ stays_looked (get_or (words_by given.heap.memory spot) (spot.start + (3 + k)) 0) stays (o.done spot k here place (omega (arith, below, differs)) holds)
      ];
    }

pub object_begin : {given : Given} {memory : Parted} {shapes : List Shape} {grey : Stacked} {set : List Bool} {at looked : ℕ} → Looks given memory shapes grey set at looked → ObjectTo given memory memory grey set at looked 0
object_begin l = record { stands = l.stands; stays = λ spot here some. some; done = λ spot k here place below holds. absurd (omega (arith, below)) }

-- nothing of the object is left to look at
pub looked_at : {given : Given} {old memory : Parted} {grey : Stacked} {set : List Bool} {at looked : ℕ} (steps steps' : ℕ) → StandsAt given memory grey set (at ∷ grey.places) looked → StaysLooked given old memory → steps < steps' →
    steps' ≤ steps + words_there given.heap.memory at →
    ((spot : Spot) → IsSpot given.heap.memory spot → place_of given.heap.memory spot ≡ at → (k : ℕ) → k < size_at (words_by given.heap.memory spot) spot.start → marks_at given.heap.shapes (words_by given.heap.memory spot) spot.start k ≡ true →
    IsLooked given memory (get_or (words_by given.heap.memory spot) (spot.start + (3 + k)) 0)) → LookedAt given old memory grey set at looked steps steps'
looked_at {given} {old} {memory} {grey} {set} {at} {looked} steps steps' s stays some counted done =
    let m = s.is in
    record {
      stands = record {
        is = record {
          given_is = m.given_is;
          same = m.same;
          alike = m.alike;
          contents = m.contents;
          only = m.only;
          waits = λ other among. m.waits other (inr among);
          done = λ spot here some. elim (m.done spot here some) [
            | inr done ↦ inr done
            | inl among ↦ elim among [
              | inr rest ↦ inl rest
              | inl first ↦ inr (record { each = λ k below holds. done spot here (sym first) k below holds })
            ]
          ];
          words = omega (arith, m.words, sum_by-cons (words_there given.heap.memory) at grey.places);
        };
        set_is = s.set_is;
        room = s.room;
      };
      stays = stays;
      some = some;
      counted = counted;
    }

-- and all of them were
pub object_done : {given : Given} {old memory : Parted} {grey : Stacked} {set : List Bool} {at looked i : ℕ} (steps steps' : ℕ) → ObjectTo given old memory grey set at looked i → words_there given.heap.memory at ≡ 3 + i → steps' ≡ steps + 3 + i →
    LookedAt given old memory grey set at looked steps steps'
object_done {given} {old} {memory} {grey} {set} {at} {looked} {i} steps steps' o all counted =
    looked_at steps steps' o.stands o.stays (omega (arith, counted)) (omega (arith, counted, all))
    (λ spot here place k below holds. o.done spot k here place (omega (arith, below, all, words_here given spot at o.stands.is.given_is here place)) holds)

-- ---- the stack

pub popped : {given : Given} {memory : Parted} {grey : Stacked} {set : List Bool} {looked : ℕ} (grey' : Stacked) (at : ℕ) → StandsAt given memory grey set grey.places looked → grey ≡ pushed at grey' → StandsAt given memory grey' set (at ∷ grey'.places) looked
popped {given} {memory} {grey} {set} {looked} grey' at s is =
    record {
      is = subst (λ places. IsMarking given memory places looked) (ap (λ (g : Stacked). g.places) is) s.is;
      set_is = s.set_is;
      room = sym (ap (λ (g : Stacked). g.room) is) ∙ s.room;
    }

pub behind_next : {given : Given} {old memory : Parted} {grey : Stacked} {set : List Bool} {steps steps' : ℕ} (memory' : Parted) (grey' : Stacked) (at steps'' : ℕ) → (b : BehindTo given old memory grey set steps steps') →
    LookedAt given memory memory' grey' set at b.looked steps' steps'' → BehindTo given old memory' grey' set steps steps''
behind_next {given} {old} {memory} {grey} {set} {steps} {steps'} memory' grey' at steps'' b l =
    record {
      looked = b.looked + words_there given.heap.memory at;
      stands = l.stands;
      stays = λ spot here some. l.stays spot here (b.stays spot here some);
      counted = omega (arith, l.counted, b.counted);
    }

-- never are there more words looked at than there are
pub looked_room : {given : Given} {memory : Parted} {grey : Stacked} {set : List Bool} {waiting : List ℕ} {looked : ℕ} → StandsAt given memory grey set waiting looked → looked ≤ 256 * given.heap.memory.blocks
looked_room {given} {memory} s = omega (arith, s.is.words, words_room (with_memory given.heap memory) (heap_now s.is), s.is.alike.blocks)

pub object_same : {given : Given} {old : Parted} {set : List Bool} {at looked i : ℕ} (memory memory' : Parted) (grey grey' : Stacked) → memory' ≡ memory → grey' ≡ grey → ObjectTo given old memory grey set at looked i → ObjectTo given old memory' grey' set at looked i
object_same {given} {old} {set} {at} {looked} {i} memory memory' grey grey' same same_grey o =
    subst (λ m. ObjectTo given old m grey' set at looked i) (sym same) (subst (λ (g : Stacked). ObjectTo given old memory g set at looked i) (sym same_grey) o)
