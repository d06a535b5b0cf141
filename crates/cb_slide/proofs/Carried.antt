-- What reads as before when objects were slid.
use Rattle.std.proofs.Common.{◌≡◌, ◌∙◌, ℕ, ◌+◌, ◌*◌, ◌^◌, ◌<◌, ◌==◌, ◌&&◌, Bool, true, false, cond, Option, Some, None, List, length, get_or, take, nat_lt, slice_get, refl, sym, ap, arith, subst, inl, inr, ◌⊎◌}
use Rattle.std.proofs.lemmas.Bool.{cases_lt, eqb-true, false≢true, le-ltb, lt-ltb, or_cases}
use Rattle.cb_frames.specs.Entries.{entries}
use Rattle.cb_dag.specs.Graphs.{has_edge}
use Rattle.cb_dag.specs.Marks.{marked}
use Rattle.cb_blocks.specs.Parted.{Parted}
use Rattle.cb_blocks.specs.Rows.{row}
use Rattle.cb_partheap.specs.Heaps.{marks_at, may_refer}
use Rattle.cb_partheap.specs.Marks.{IsMarked}
use Rattle.cb_partheap.specs.Spots.{IsSpot, Spot, place_of, serial_by, spot_where, words_by}
use Rattle.cb_partheap.specs.Words.{mark_at, missing, site_at, size_at}
use Rattle.cb_partheap.proofs.Laws.{IsReachedIn, child_leads, place_apart, place_found, root_leads, same_spot, spot_sound}
use Rattle.cb_slide.specs.Slid.{IsObject, Stays, place_after, slid, slid_to, word_after, word_before}
use Rattle.cb_slide.specs.Sliding.{Given, IsCarried, IsGiven, IsIn, IsSlid}
use Rattle.cb_slide.proofs.Parts.{IsFront, comes_from, fits_after, whole_after}

-- ---- objects in and outside the set

pub slid_out : (set : List Bool) (old : Parted) (spot : Spot) → marked set spot.part ≡ false → slid set old spot ≡ spot
slid_out set old spot out = ap (λ (b : Bool). let s : Spot = record { part = spot.part; start = cond b (slid_to (words_by old spot) spot.start) spot.start } in s) out

pub slid_in : (set : List Bool) (old : Parted) (spot : Spot) → marked set spot.part ≡ true → slid set old spot ≡ record { part = spot.part; start = slid_to (words_by old spot) spot.start }
slid_in set old spot member = ap (λ (b : Bool). let s : Spot = record { part = spot.part; start = cond b (slid_to (words_by old spot) spot.start) spot.start } in s) member

member_or : (b : Bool) → (b ≡ true) ⊎ (b ≡ false)
member_or true = inl refl
member_or false = inr refl

pub set_cases : (set : List Bool) (part : ℕ) → (marked set part ≡ true) ⊎ (marked set part ≡ false)
set_cases set part = member_or (marked set part)

-- what isn't in the set isn't marked
pub unmarked_out : (given : Given) (spot : Spot) → IsGiven given → IsSpot given.heap.memory spot → marked given.set spot.part ≡ false → mark_at (words_by given.heap.memory spot) spot.start ≡ 0
unmarked_out given spot g here out =
    elim (cases_lt 0 (mark_at (words_by given.heap.memory spot) spot.start)) [
      | inl some ↦ absurd (false≢true (sym out ∙ ((g.marks.each spot here).0 some).0))
      | inr none ↦ omega (arith, none)
    ]

pub stays_or : (given : Given) (spot : Spot) → Stays given.set given.heap.memory spot ⊎ ((marked given.set spot.part ≡ true) × (mark_at (words_by given.heap.memory spot) spot.start ≡ 0))
stays_or given spot =
    elim (set_cases given.set spot.part) [
      | inr out ↦ inl (inl out)
      | inl member ↦ elim (cases_lt 0 (mark_at (words_by given.heap.memory spot) spot.start)) [
        | inl some ↦ inl (inr some)
        | inr none ↦ inr (member, omega (arith, none))
      ]
    ]

and_false : (b : Bool) → b && false ≡ false
and_false true = refl
and_false false = refl

-- what becomes of words
pub word_kept : (given : Given) (spot : Spot) (i : ℕ) → mark_at (words_by given.heap.memory spot) spot.start ≡ 0 → word_after given.set given.heap spot i ≡ word_before given.heap.memory spot i
word_kept given spot i none =
    ap (λ b. cond (b && marks_at given.heap.shapes (words_by given.heap.memory spot) spot.start i) (place_after given.set given.heap.memory (word_before given.heap.memory spot i)) (word_before given.heap.memory spot i))
    (le-ltb 0 (mark_at (words_by given.heap.memory spot) spot.start) (omega (arith, none)))

pub number_kept : (given : Given) (spot : Spot) (i : ℕ) → marks_at given.heap.shapes (words_by given.heap.memory spot) spot.start i ≡ false → word_after given.set given.heap spot i ≡ word_before given.heap.memory spot i
number_kept given spot i number =
    ap (λ b. cond (nat_lt 0 (mark_at (words_by given.heap.memory spot) spot.start) && b) (place_after given.set given.heap.memory (word_before given.heap.memory spot i)) (word_before given.heap.memory spot i)) number
    ∙ ap (λ b. cond b (place_after given.set given.heap.memory (word_before given.heap.memory spot i)) (word_before given.heap.memory spot i)) (and_false (nat_lt 0 (mark_at (words_by given.heap.memory spot) spot.start)))

pub word_rewritten : (given : Given) (spot : Spot) (i : ℕ) → IsMarked given.heap.memory spot → marks_at given.heap.shapes (words_by given.heap.memory spot) spot.start i ≡ true →
    word_after given.set given.heap spot i ≡ place_after given.set given.heap.memory (word_before given.heap.memory spot i)
word_rewritten given spot i some holds =
    ap (λ b. cond (b && marks_at given.heap.shapes (words_by given.heap.memory spot) spot.start i) (place_after given.set given.heap.memory (word_before given.heap.memory spot i)) (word_before given.heap.memory spot i))
    (lt-ltb 0 (mark_at (words_by given.heap.memory spot) spot.start) some)
    ∙ ap (λ b. cond b (place_after given.set given.heap.memory (word_before given.heap.memory spot i)) (word_before given.heap.memory spot i)) holds

-- ---- what places become

pub after_there : (given : Given) (spot : Spot) → IsGiven given → IsSpot given.heap.memory spot → place_after given.set given.heap.memory (place_of given.heap.memory spot) ≡ place_of given.heap.memory (slid given.set given.heap.memory spot)
unfolding place_after
after_there given spot g here = rw (place_found given.heap.memory spot g.heap.parted here) refl

after_none : (given : Given) (at : ℕ) (found : Option Spot) → spot_where given.heap.memory (λ spot. place_of given.heap.memory spot == at) ≡ found → at ≡ 0 → place_after given.set given.heap.memory at ≡ 0
unfolding place_after
after_none given at None is null = rw is null
after_none given at (Some spot) is null =
    let sound = spot_sound given.heap.memory (λ spot. place_of given.heap.memory spot == at) spot is in
    let place : place_of given.heap.memory spot ≡ at = eqb-true (place_of given.heap.memory spot) at sound.1 in
    absurd (omega (arith, place, null))

pub after_null : (given : Given) → place_after given.set given.heap.memory 0 ≡ 0
after_null given = after_none given 0 (spot_where given.heap.memory (λ spot. place_of given.heap.memory spot == 0)) refl refl

-- where a reference leads that is followed: to nothing, or to an object that stays
pub record Follows (given : Given) (at : ℕ) (target : Spot) : Type 0 where
  pub here : IsSpot given.heap.memory target
  pub stays : Stays given.set given.heap.memory target
  pub place : place_of given.heap.memory target ≡ at

-- what is reached stays
pub reached_stays : (given : Given) (spot : Spot) → IsGiven given → IsSpot given.heap.memory spot → IsReachedIn given.heap given.roots spot → Stays given.set given.heap.memory spot
reached_stays given spot g here reached =
    elim (set_cases given.set spot.part) [
      | inr out ↦ inl out
      | inl member ↦ inr ((g.marks.each spot here).1 (member, reached))
    ]

-- where references of marked objects and of roots lead
abbrev pub MayFollow : Given → ℕ → Type 0
MayFollow given at = (at ≡ 0) ⊎ ((target : Spot) × Follows given at target)

pub child_follows : (given : Given) (spot : Spot) (i : ℕ) → IsGiven given → IsSpot given.heap.memory spot → IsMarked given.heap.memory spot → i < size_at (words_by given.heap.memory spot) spot.start →
    marks_at given.heap.shapes (words_by given.heap.memory spot) spot.start i ≡ true → MayFollow given (word_before given.heap.memory spot i)
child_follows given spot i g here kept below holds =
    elim (child_leads given.heap given.roots spot i (word_before given.heap.memory spot i) g.heap here ((g.marks.each spot here).0 kept).1 below holds refl) [
      | inl none ↦ inl none
      | inr found ↦ inr (found.0, record { here = found.1.here; stays = reached_stays given found.0 g found.1.here found.1.reached; place = found.1.place })
    ]

pub root_follows : (given : Given) (i at : ℕ) → IsGiven given → slice_get (entries given.roots) i ≡ Some at → MayFollow given at
root_follows given i at g is =
    elim (root_leads given.heap given.roots i at g.heap g.view is) [
      | inl none ↦ inl none
      | inr found ↦ inr (found.0, record { here = found.1.here; stays = reached_stays given found.0 g found.1.here found.1.reached; place = found.1.place })
    ]

-- no reference leads into the set from outside
pub out_stays : (given : Given) (part other : ℕ) → IsGiven given → may_refer given.heap.edges part other ≡ true → marked given.set part ≡ false → marked given.set other ≡ false
out_stays given part other g may out =
    elim (set_cases given.set other) [
      | inr outside ↦ outside
      | inl member ↦ elim (or_cases (part == other) (has_edge given.heap.edges part other) may) [
        | inl same ↦ ap (marked given.set) (sym (eqb-true part other same)) ∙ out
        | inr edge ↦ absurd (false≢true (sym out ∙ g.set.closed part other edge member))
      ]
    ]

-- ---- each object that stays, after

module _ (given : Given) (new : Parted) (g : IsGiven given) (s : IsSlid given new) where
  abbrev to : Spot → Spot
  to spot = slid given.set given.heap.memory spot

  pub front : (part : ℕ) → IsIn given part → IsFront (row given.heap.memory.words part) (row new.words part)
  front part is =
      record {
        all = g.heap.whole part is.below;
        long = s.long part is;
        heads = λ start object kept. (s.carried (record { part = part; start = start }) (record { part = is.below; inside = object.inside; whole = object.whole }) is.member kept).first;
      }

  pub spot_there : (spot : Spot) → IsSpot given.heap.memory spot → Stays given.set given.heap.memory spot → IsSpot new (to spot)
  spot_there spot here stays =
      elim (set_cases given.set spot.part) [
        | inr out ↦
            let row_is = s.outside spot.part out in
            subst (IsSpot new) (sym (slid_out given.set given.heap.memory spot out)) (record {
              part = omega (arith, here.part, s.count);
              inside = omega (arith, here.inside, ap length row_is);
              whole = ap (λ xs. missing 0 (take spot.start xs)) row_is ∙ here.whole;
            })
        | inl member ↦
            let kept : IsMarked given.heap.memory spot = elim stays [
              | inl out ↦ absurd (false≢true (sym out ∙ member))
              | inr some ↦ some
            ] in
            let object : IsObject (words_by given.heap.memory spot) spot.start = record { inside = here.inside; whole = here.whole } in
            let is : IsIn given spot.part = record { below = here.part; member = member } in
            subst (IsSpot new) (sym (slid_in given.set given.heap.memory spot member)) (record {
              part = omega (arith, here.part, s.count);
              inside = omega (arith, fits_after (front spot.part is) spot.start object kept);
              whole = whole_after (front spot.part is) spot.start (omega (arith, here.inside)) here.whole;
            })
      ]

  pub carried : (spot : Spot) → IsSpot given.heap.memory spot → Stays given.set given.heap.memory spot → IsCarried given (words_by new (to spot)) (to spot).start spot
  carried spot here stays =
      elim (set_cases given.set spot.part) [
        | inl member ↦
            let kept : IsMarked given.heap.memory spot = elim stays [
              | inl out ↦ absurd (false≢true (sym out ∙ member))
              | inr some ↦ some
            ] in
            subst (λ (t : Spot). IsCarried given (words_by new t) t.start spot) (sym (slid_in given.set given.heap.memory spot member)) (s.carried spot here member kept)
        | inr out ↦
            let none = unmarked_out given spot g here out in
            subst (λ (t : Spot). IsCarried given (words_by new t) t.start spot) (sym (slid_out given.set given.heap.memory spot out))
            (subst (λ xs. IsCarried given xs spot.start spot) (sym (s.outside spot.part out)) (record {
              first = refl;
              second = refl;
              third = (let e : get_or (words_by given.heap.memory spot) (spot.start + 2) 0 ≡ site_at (words_by given.heap.memory spot) spot.start = omega (arith, none) in e);
              contents = λ i below. sym (word_kept given spot i none);
            }))
      ]

  -- and each object is one of these
  pub record From (spot' : Spot) : Type 0 where
    pub spot : Spot
    pub here : IsSpot given.heap.memory spot
    pub stays : Stays given.set given.heap.memory spot
    pub there : slid given.set given.heap.memory spot ≡ spot'

  pub from : (spot' : Spot) → IsSpot new spot' → From spot'
  from spot' here' =
      elim (set_cases given.set spot'.part) [
        | inr out ↦
            let row_is = s.outside spot'.part out in
            record {
              spot = spot';
              here = record {
                part = omega (arith, here'.part, s.count);
                inside = omega (arith, here'.inside, ap length row_is);
                whole = ap (λ xs. missing 0 (take spot'.start xs)) (sym row_is) ∙ here'.whole;
              };
              stays = inl out;
              there = slid_out given.set given.heap.memory spot' out;
            }
        | inl member ↦
            let is : IsIn given spot'.part = record { below = omega (arith, here'.part, s.count); member = member } in
            let comes = comes_from (front spot'.part is) spot'.start (record { inside = here'.inside; whole = here'.whole }) in
            let spot : Spot = record { part = spot'.part; start = comes.start } in
            record {
              spot = spot;
              here = record { part = is.below; inside = comes.object.inside; whole = comes.object.whole };
              stays = inr comes.kept;
              there = slid_in given.set given.heap.memory spot member ∙ same_spot (record { part = spot'.part; start = slid_to (row given.heap.memory.words spot'.part) comes.start }) spot' refl comes.there;
            }
      ]

  -- its place
  pub place_there : (spot : Spot) → IsSpot given.heap.memory spot → Stays given.set given.heap.memory spot → place_of given.heap.memory (to spot) ≡ place_of new (to spot)
  place_there spot here stays =
      let there = spot_there spot here stays in
      ap (λ n. spot.part * 2 ^ 29 + n + 1) (sym (s.index spot.part (to spot).start here.part there.inside))

  pub serial_there : (spot : Spot) → IsSpot given.heap.memory spot → Stays given.set given.heap.memory spot → serial_by new (to spot) ≡ serial_by given.heap.memory spot
  serial_there spot here stays = (carried spot here stays).second

  -- a reference that is followed
  pub record Leads (before after : ℕ) (target : Spot) : Type 0 where
    pub follows : Follows given before target
    pub now : place_of new (slid given.set given.heap.memory target) ≡ after

  abbrev pub MayLead : ℕ → ℕ → Type 0
  MayLead before after = ((before ≡ 0) × (after ≡ 0)) ⊎ ((target : Spot) × Leads before after target)

  pub leads_after : (before : ℕ) (target : Spot) → Follows given before target → Leads before (place_after given.set given.heap.memory before) target
  leads_after before target f =
      record { follows = f; now = sym (place_there target f.here f.stays) ∙ sym (after_there given target g f.here) ∙ ap (place_after given.set given.heap.memory) f.place }

  -- those of an object that stays
  pub record Refers (spot : Spot) (before after : ℕ) (target : Spot) : Type 0 where
    pub leads : Leads before after target
    pub may : may_refer given.heap.edges spot.part target.part ≡ true

  abbrev pub MayRefer : Spot → ℕ → ℕ → Type 0
  MayRefer spot before after = ((before ≡ 0) × (after ≡ 0)) ⊎ ((target : Spot) × Refers spot before after target)

  pub refers_after : (spot : Spot) (i : ℕ) → IsSpot given.heap.memory spot → Stays given.set given.heap.memory spot → i < size_at (words_by given.heap.memory spot) spot.start →
      marks_at given.heap.shapes (words_by given.heap.memory spot) spot.start i ≡ true → MayRefer spot (word_before given.heap.memory spot i) (word_after given.set given.heap spot i)
  refers_after spot i here stays below holds =
      let before : ℕ = word_before given.heap.memory spot i in
      let after : ℕ = word_after given.set given.heap spot i in
      elim (set_cases given.set spot.part) [
        | inl member ↦
            let kept : IsMarked given.heap.memory spot = elim stays [
              | inl out ↦ absurd (false≢true (sym out ∙ member))
              | inr some ↦ some
            ] in
            let rewritten = word_rewritten given spot i kept holds in
            elim (g.heap.refers spot i here below holds) [
              | inl none ↦ inl (none, rewritten ∙ ap (place_after given.set given.heap.memory) none ∙ after_null given)
              | inr to ↦
                  let stays' : Stays given.set given.heap.memory to.0 = elim (child_follows given spot i g here kept below holds) [
                    | inl null ↦ absurd (omega (arith, null, to.2))
                    | inr found ↦
                        let same : found.0 ≡ to.0 = place_apart given.heap.memory found.0 to.0 g.heap.parted found.1.here to.1 (found.1.place ∙ sym to.2) in
                        subst (Stays given.set given.heap.memory) same found.1.stays
                  ] in
                  inr (
                    to.0,
                    record {
                      leads = subst (λ w. Leads before w to.0) (sym rewritten) (leads_after before to.0 (record { here = to.1; stays = stays'; place = to.2 }));
                      may = to.3;
                    },
                  )
            ]
        | inr out ↦
            let kept = word_kept given spot i (unmarked_out given spot g here out) in
            elim (g.heap.refers spot i here below holds) [
              | inl none ↦ inl (none, kept ∙ none)
              | inr to ↦
                  let out' = out_stays given spot.part to.0.part g to.3 out in
                  let stays' : Stays given.set given.heap.memory to.0 = inl out' in
                  let f : Follows given before to.0 = record { here = to.1; stays = stays'; place = to.2 } in
                  let now : place_of new (slid given.set given.heap.memory to.0) ≡ after =
                  sym (place_there to.0 to.1 stays') ∙ ap (place_of given.heap.memory) (slid_out given.set given.heap.memory to.0 out') ∙ to.2 ∙ sym kept in
                  inr (to.0, record { leads = record { follows = f; now = now }; may = to.3 })
            ]
      ]
