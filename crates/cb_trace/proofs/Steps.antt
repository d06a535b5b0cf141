-- One object after the other is marked.
use Rattle.std.proofs.Common.{◌≡◌, ◌∙◌, ℕ, ◌+◌, ◌*◌, ◌/◌, ◌%◌, ◌^◌, ◌<◌, ◌≤◌, true, List, [], ◌∷◌, length, refl, sym, ap, arith, subst, inl, inr, ◌⊎◌}
use Rattle.std.specs.List.{sum_by}
use Rattle.std.proofs.lemmas.Bool.{false≢true}
use Rattle.std.proofs.lemmas.List.Sums.{sum_by-cons}
use Rattle.cb_plain.specs.State.{words_of}
use Rattle.cb_dag.specs.Marks.{marked}
use Rattle.cb_blocks.specs.Parted.{Parted}
use Rattle.cb_partheap.specs.Headers.{IsHeader}
use Rattle.cb_partheap.specs.Heaps.{with_memory}
use Rattle.cb_partheap.specs.Spots.{IsSpot, Spot, place_of, words_by}
use Rattle.cb_partheap.specs.Stacks.{Stacked}
use Rattle.cb_partheap.specs.Whole.{IsHeap}
use Rattle.cb_partheap.specs.Words.{mark_at, site_at, size_at}
use Rattle.cb_partheap.proofs.Laws.{IsNewMark, Leads, MayLead, alike_itself, alike_place, alike_spot, alike_then, contents_then, mark_elsewhere, mark_here, marked_alike, marked_contents, marked_more, none_marked, place_apart, place_found, same_heap, same_itself, same_then, spot_cases, with_third, within, words_room}
use Rattle.cb_partheap.specs.Marks.{IsMarked}
use Rattle.cb_trace.specs.Marking.{Given, MayBeLookedUp, IsAmong, IsDone, IsFirstFound, IsGiven, IsLooked, IsLookedUp, IsMarking, IsReachedAt, StaysLooked, Waits, words_if, words_there}

-- ---- what holds anyway

pub heap_now : {given : Given} {memory : Parted} {waiting : List ℕ} {looked : ℕ} → IsMarking given memory waiting looked → IsHeap (with_memory given.heap memory)
heap_now {given} {memory} m = same_heap given.heap memory m.given_is.heap m.alike m.contents

pub size_now : {given : Given} {memory : Parted} {waiting : List ℕ} {looked : ℕ} → IsMarking given memory waiting looked → (spot : Spot) → IsSpot given.heap.memory spot →
    size_at (words_by memory spot) spot.start ≡ size_at (words_by given.heap.memory spot) spot.start
size_now m spot here = ap (λ w. w / 2 ^ 32) (m.alike.header spot here).first

pub header_now : {given : Given} {memory : Parted} {waiting : List ℕ} {looked : ℕ} → IsMarking given memory waiting looked → (spot : Spot) (at : ℕ) → IsSpot given.heap.memory spot → place_of given.heap.memory spot ≡ at →
    IsHeader memory at spot
header_now {given} {memory} m spot at here place =
    let is = heap_now m in
    let now = alike_spot given.heap.memory memory spot m.alike here in
    record { sound = is.parted; part = now.part; whole = within (with_memory given.heap memory) spot is now; place = sym place ∙ sym (alike_place given.heap.memory memory spot m.alike) }

-- the words of the object at a place
pub words_here : (given : Given) (spot : Spot) (at : ℕ) → IsGiven given → IsSpot given.heap.memory spot → place_of given.heap.memory spot ≡ at →
    words_there given.heap.memory at ≡ words_of (size_at (words_by given.heap.memory spot) spot.start)
words_here given spot at is here place =
    ap (words_there given.heap.memory) (sym place) ∙ ap (words_if given.heap.memory) (place_found given.heap.memory spot is.heap.parted here)

-- what waits takes three words each at least
pub three_each : (given : Given) (memory : Parted) (waiting : List ℕ) → IsGiven given → ((at : ℕ) → IsAmong waiting at → Waits given memory at) → 3 * length waiting ≤ sum_by (words_there given.heap.memory) waiting
three_each given memory [] is waits = omega arith
three_each given memory (at ∷ waiting) is waits =
    let first = waits at (inl refl) in
    omega (
      arith,
      sum_by-cons (words_there given.heap.memory) at waiting,
      words_here given first.spot at is first.here first.place,
      three_each given memory waiting is (λ other among. waits other (inr among)),
    )

-- ---- marking begins

pub begins : (given : Given) → IsGiven given → IsMarking given given.heap.memory [] 0
begins given is =
    record {
      given_is = is;
      same = same_itself given.set given.heap.memory;
      alike = alike_itself given.heap.memory;
      contents = λ spot i here below. refl;
      only = λ spot here some. absurd (omega (arith, some, is.unmarked.each spot here));
      waits = λ at among. absurd among;
      done = λ spot here some. absurd (omega (arith, some, is.unmarked.each spot here));
      words = none_marked given.heap is.unmarked;
    }

-- ---- an object more

-- what waits, and one more
pub record IsMore (waiting waiting' : List ℕ) (to : ℕ) (count : ℕ → ℕ) : Type 0 where
  pub stays : (at : ℕ) → IsAmong waiting at → IsAmong waiting' at
  pub new : IsAmong waiting' to
  pub only : (at : ℕ) → IsAmong waiting' at → (to ≡ at) ⊎ IsAmong waiting at
  pub sum : sum_by count waiting' ≡ sum_by count waiting + count to

pub more_first : (waiting : List ℕ) (to : ℕ) (count : ℕ → ℕ) → IsMore waiting (to ∷ waiting) to count
more_first waiting to count = record { stays = λ at among. inr among; new = inl refl; only = λ at among. among; sum = omega (arith, sum_by-cons count to waiting) }

pub more_second : (waiting : List ℕ) (at to : ℕ) (count : ℕ → ℕ) → IsMore (at ∷ waiting) (at ∷ to ∷ waiting) to count
more_second waiting at to count =
    record {
      stays = λ other among. elim among [ inl first ↦ inl first | inr behind ↦ inr (inr behind) ];
      new = inr (inl refl);
      only = λ other among. elim among [
        | inl first ↦ inr (inl first)
        | inr behind ↦ elim behind [ inl second ↦ inl second | inr rest ↦ inr (inr rest) ]
      ];
      sum = omega (arith, sum_by-cons count at waiting, sum_by-cons count at (to ∷ waiting), sum_by-cons count to waiting);
    }

-- what an object that is found gets
abbrev new_word : Parted → Spot → ℕ
new_word memory spot = site_at (words_by memory spot) spot.start + 1 * 2 ^ 14

pub record Next (given : Given) (memory : Parted) (waiting : List ℕ) (looked to : ℕ) (spot : Spot) : Type 0 where
  pub m : IsMarking given memory waiting looked
  pub leads : Leads given.heap given.roots to spot
  pub unmarked : mark_at (words_by memory spot) spot.start ≡ 0

abbrev marked_memory : Parted → Spot → Parted
marked_memory memory spot = with_third memory spot (new_word memory spot)

new_mark : {given : Given} {memory : Parted} {waiting : List ℕ} {looked to : ℕ} {spot : Spot} → Next given memory waiting looked to spot → IsNewMark (with_memory given.heap memory) spot (new_word memory spot)
new_mark {given} {memory} {waiting} {looked} {to} {spot} n =
    let is = heap_now n.m in
    let here = alike_spot given.heap.memory memory spot n.m.alike n.leads.here in
    let site : new_word memory spot % 2 ^ 14 ≡ site_at (words_by memory spot) spot.start = omega arith in
    record {
      is = is;
      here = here;
      unmarked = n.unmarked;
      now = omega (arith, mark_here (with_memory given.heap memory) spot (site_at (words_by memory spot) spot.start) 1 is here (omega arith));
      alike = marked_alike (with_memory given.heap memory) spot (new_word memory spot) is here site;
    }

-- all words of marked objects have room, with those of one more
pub room_left : {given : Given} {memory : Parted} {waiting : List ℕ} {looked to : ℕ} {spot : Spot} → Next given memory waiting looked to spot → 3 * (length waiting + 1) ≤ 256 * given.heap.memory.blocks
room_left {given} {memory} {waiting} {looked} {to} {spot} n =
    let new = new_mark n in
    let memory' : Parted = marked_memory memory spot in
    let alike = alike_then given.heap.memory memory memory' n.m.alike new.alike in
    let contents = contents_then given.heap.memory memory memory' n.m.alike n.m.contents (marked_contents (with_memory given.heap memory) spot (new_word memory spot) new.is new.here) in
    omega (
      arith,
      words_room (with_memory given.heap memory') (same_heap given.heap memory' n.m.given_is.heap alike contents),
      alike.blocks,
      marked_more (with_memory given.heap memory) spot (new_word memory spot) new,
      n.m.words,
      three_each given memory waiting n.m.given_is n.m.waits,
    )

stays_marked : {given : Given} {memory : Parted} {waiting : List ℕ} {looked to : ℕ} {spot : Spot} → Next given memory waiting looked to spot → StaysLooked given memory (marked_memory memory spot)
stays_marked {given} {memory} {waiting} {looked} {to} {spot} n other there some =
    let new = new_mark n in
    spot_cases (λ s. IsMarked (marked_memory memory spot) s) spot other new.now
    (λ differs. subst (λ k. 0 < k) (sym (mark_elsewhere (with_memory given.heap memory) spot other (new_word memory spot) new.is new.here (alike_spot given.heap.memory memory other n.m.alike there) differs)) some)

-- of the others those are marked that were
was_marked : {given : Given} {memory : Parted} {waiting : List ℕ} {looked to : ℕ} {spot : Spot} → Next given memory waiting looked to spot → (other : Spot) → IsSpot given.heap.memory other → (other ≡ spot → ⊥) →
    IsMarked (marked_memory memory spot) other → IsMarked memory other
was_marked {given} {memory} {waiting} {looked} {to} {spot} n other there differs some =
    let new = new_mark n in
    subst (λ k. 0 < k) (mark_elsewhere (with_memory given.heap memory) spot other (new_word memory spot) new.is new.here (alike_spot given.heap.memory memory other n.m.alike there) differs) some

pub done_stays : {given : Given} {memory memory' : Parted} → StaysLooked given memory memory' → (spot : Spot) → IsDone given memory spot → IsDone given memory' spot
done_stays stays spot done =
    record { each = λ i below holds. record { each = λ other there place member. stays other there ((done.each i below holds).each other there place member) } }

pub marked_next : {given : Given} {memory : Parted} {waiting : List ℕ} {looked to : ℕ} {spot : Spot} (waiting' : List ℕ) → Next given memory waiting looked to spot → marked given.set spot.part ≡ true →
    IsMore waiting waiting' to (words_there given.heap.memory) → IsMarking given (marked_memory memory spot) waiting' looked
marked_next {given} {memory} {waiting} {looked} {to} {spot} waiting' n member more =
    let new = new_mark n in
    let memory' : Parted = marked_memory memory spot in
    let alike = alike_then given.heap.memory memory memory' n.m.alike new.alike in
    let Only : Spot → Type 0 = λ s. IsMarked memory' s → (marked given.set s.part ≡ true) × IsReachedAt given s in
    let Done : Spot → Type 0 = λ s. IsMarked memory' s → IsAmong waiting' (place_of given.heap.memory s) ⊎ IsDone given memory' s in
    record {
      given_is = n.m.given_is;
      same = same_then given.set given.heap.memory memory spot (new_word memory spot) n.m.same alike n.leads.here member;
      alike = alike;
      contents = contents_then given.heap.memory memory memory' n.m.alike n.m.contents (marked_contents (with_memory given.heap memory) spot (new_word memory spot) new.is new.here);
      only = λ other there. spot_cases Only spot other (λ some. (member, n.leads.reached)) (λ differs some. n.m.only other there (was_marked n other there differs some));
      waits = λ at among. elim (more.only at among) [
        | inl first ↦ record { spot = spot; here = n.leads.here; place = n.leads.place ∙ first; marked_is = new.now }
        | inr before ↦
            let w = n.m.waits at before in
            record { spot = w.spot; here = w.here; place = w.place; marked_is = stays_marked n w.spot w.here w.marked_is }
      ];
      done = λ other there. spot_cases Done spot other (λ some. inl (subst (IsAmong waiting') (sym n.leads.place) more.new))
          (λ differs some. elim (n.m.done other there (was_marked n other there differs some)) [
            | inl among ↦ inl (more.stays (place_of given.heap.memory other) among)
            | inr done ↦ inr (done_stays (stays_marked n) other done)
          ]);
      words = omega (
        arith,
        marked_more (with_memory given.heap memory) spot (new_word memory spot) new,
        n.m.words,
        more.sum,
        words_here given spot to n.m.given_is n.leads.here n.leads.place,
        size_now n.m spot n.leads.here,
      );
    }

-- ---- what looking up one reference leaves

pub record IsOn (given : Given) (old new : Parted) (grey grey' : Stacked) (waiting' : List ℕ) (looked to : ℕ) : Type 0 where
  pub m : IsMarking given new waiting' looked
  pub stays : StaysLooked given old new
  pub looked_is : IsLooked given new to
  pub room : grey'.room ≡ grey.room

only_there : (given : Given) (memory : Parted) (to : ℕ) (spot : Spot) → IsGiven given → IsSpot given.heap.memory spot → place_of given.heap.memory spot ≡ to → (marked given.set spot.part ≡ true → IsMarked memory spot) → IsLooked given memory to
only_there given memory to spot is here place now =
    record {
      each = λ other there place' member.
          let same = place_apart given.heap.memory spot other is.heap.parted here there (place ∙ sym place') in
          subst (IsMarked memory) same (now (subst (λ (s : Spot). marked given.set s.part ≡ true) (sym same) member));
    }

no_place : (given : Given) (memory : Parted) (to : ℕ) → to ≡ 0 → IsLooked given memory to
no_place given memory to none = record { each = λ spot here place member. absurd (omega (arith, place, none)) }

-- where the object lies that waits, or that lies there
left_on : {given : Given} {memory : Parted} {waiting : List ℕ} {looked : ℕ} (memory' : Parted) (grey grey' : Stacked) (shape : List ℕ → List ℕ) (to : ℕ) → waiting ≡ shape grey.places → IsMarking given memory waiting looked → IsLooked given memory to →
    memory' ≡ memory → grey' ≡ grey → IsOn given memory memory' grey grey' (shape grey'.places) looked to
left_on {given} {memory} {waiting} {looked} memory' grey grey' shape to is m looked_is same same_grey =
    let here : IsOn given memory memory grey grey (shape grey.places) looked to = record {
      m = subst (λ ws. IsMarking given memory ws looked) is m;
      stays = λ spot there some. some;
      looked_is = looked_is;
      room = refl;
    } in
    subst (λ p. IsOn given memory p grey grey' (shape grey'.places) looked to) (sym same) (subst (λ (g : Stacked). IsOn given memory memory grey g (shape g.places) looked to) (sym same_grey) here)

first_on : {given : Given} {memory : Parted} {looked : ℕ} (memory' : Parted) (grey grey' : Stacked) (shape : List ℕ → List ℕ) (to : ℕ) (spot : Spot) → Next given memory (shape grey.places) looked to spot →
    IsMore (shape grey.places) (shape (to ∷ grey.places)) to (words_there given.heap.memory) → IsFirstFound given.set memory memory' grey grey' to spot → IsOn given memory memory' grey grey' (shape grey'.places) looked to
first_on {given} {memory} {looked} memory' grey grey' shape to spot n more first =
    let new : Stacked = record { places = to ∷ grey.places; room = grey.room } in
    let m = marked_next (shape (to ∷ grey.places)) n first.member more in
    let here : IsOn given memory (marked_memory memory spot) grey new (shape (to ∷ grey.places)) looked to = record {
      m = m;
      stays = stays_marked n;
      looked_is = only_there given (marked_memory memory spot) to spot n.m.given_is n.leads.here n.leads.place (λ member. (new_mark n).now);
      room = refl;
    } in
    subst (λ p. IsOn given memory p grey grey' (shape grey'.places) looked to) (sym first.memory) (subst (λ (g : Stacked). IsOn given memory (marked_memory memory spot) grey g (shape g.places) looked to) (sym first.waits) here)

found_on : {given : Given} {memory : Parted} {looked : ℕ} (memory' : Parted) (grey grey' : Stacked) (shape : List ℕ → List ℕ) (to : ℕ) (spot : Spot) → IsMarking given memory (shape grey.places) looked → Leads given.heap given.roots to spot →
    IsMore (shape grey.places) (shape (to ∷ grey.places)) to (words_there given.heap.memory) → IsLookedUp given.set memory memory' grey grey' to spot → IsOn given memory memory' grey grey' (shape grey'.places) looked to
found_on {given} {memory} {looked} memory' grey grey' shape to spot m leads more up =
    elim up [
      | inr first ↦ first_on memory' grey grey' shape to spot (record { m = m; leads = leads; unmarked = first.unmarked }) more first
      | inl left ↦ left_on memory' grey grey' shape to refl m
          (only_there given memory to spot m.given_is leads.here leads.place (λ member. elim left.why [
            | inl outside ↦ absurd (false≢true (sym outside ∙ member))
            | inr some ↦ some
          ])) left.memory left.waits
    ]

-- what is asked where a reference is looked up, and what that leaves
pub looked_on : {given : Given} {memory : Parted} {looked : ℕ} (memory' : Parted) (grey grey' : Stacked) (shape : List ℕ → List ℕ) (to : ℕ) → IsMarking given memory (shape grey.places) looked → MayLead given.heap given.roots to →
    ((places : List ℕ) → IsMore (shape places) (shape (to ∷ places)) to (words_there given.heap.memory)) → (to ≡ 0 → (memory' ≡ memory) × (grey' ≡ grey)) →
    ((spot : Spot) → IsHeader memory to spot → IsLookedUp given.set memory memory' grey grey' to spot) → IsOn given memory memory' grey grey' (shape grey'.places) looked to
looked_on {given} {memory} {looked} memory' grey grey' shape to m may more null found =
    elim may [
      | inl none ↦ let both = null none in left_on memory' grey grey' shape to refl m (no_place given memory to none) both.0 both.1
      | inr some ↦ found_on memory' grey grey' shape to some.0 m some.1 (more grey.places) (found some.0 (header_now m some.0 to some.1.here some.1.place))
    ]

pub asks : {given : Given} {memory : Parted} {looked : ℕ} (grey : Stacked) (waiting : List ℕ) (to : ℕ) → IsMarking given memory waiting looked → length grey.places ≤ length waiting → grey.room ≡ given.heap.grey.room → MayLead given.heap given.roots to → 0 < to →
    MayBeLookedUp memory grey to
asks {given} {memory} {looked} grey waiting to m few room may some =
    elim may [
      | inl none ↦ absurd (omega (arith, none, some))
      | inr found ↦ record {
        spot = found.0;
        header = header_now m found.0 to found.1.here found.1.place;
        room = λ unmarked.
            let n : Next given memory waiting looked to found.0 = record { m = m; leads = found.1; unmarked = unmarked } in
            omega (arith, room_left n, few, room, m.given_is.heap.ready);
      }
    ]
