-- More that flows along a walk, way by way back to the source.
use Rattle.std.proofs.Common.{◌≡◌, ◌≢◌, ◌∙◌, sym, ap, refl, subst, inl, inr, arith, ℕ, zero, suc, ◌+◌, ◌-◌, ◌^◌, ◌<◌, ◌≤◌, Bool, true, false, List, [], ◌∷◌, length, get_or, set, cond, eqb, Option, Some, None, sum, sum_by, ◌⊎◌, min, slice_get}
use Rattle.std.specs.Prelude.{ℤ, pos, negsuc}
use Rattle.std.proofs.lemmas.Int.{ints}
use Rattle.std.proofs.lemmas.Option.{get_or_from_slice_get}
use mir.Syntax.{w64}
use mir.Val.{of_z, to_z}
use Rattle.std.proofs.lemmas.Bool.{cases_eq, cond-false, cond-true, eq-eqb, ne_eqb}
use Rattle.std.proofs.lemmas.List.{get_or-set_other, get_or-set_same, length-set}
use Rattle.std.proofs.lemmas.List.Sums.{sum_by-cons, sum_by-le, sum_by-set}
use Rattle.cb_plain.specs.Amounts.{Amounts}
use Rattle.cb_plain.specs.Flows.{with_arc, with_sink, with_source}
use Rattle.cb_dag.specs.Flows.{IsFlow, amount_at, gain_at, negative, positive}
use Rattle.cb_dag.specs.Places.{end_of}
use Rattle.cb_dag.specs.declared.ends.End.{End}
use Rattle.cb_dag.specs.declared.ends.End.TheVariants.{Finish, Start}
use Rattle.cb_flow.specs.Networks.{AreGains, IsHeld}
use Rattle.cb_flow.specs.declared.visit.Visit.{Visit}
use Rattle.cb_flow.specs.declared.visit.Way.{Way}
use Rattle.cb_flow.specs.declared.visit.Way.TheVariants.{FromSource, GivenBack, Onwards}
use Rattle.cb_flow.specs.Visits.{CanCarry, IsGreater, IsMoving, IsOpenVisit, IsSearch, WayHolds, carried, parent_of, part_at, visit_at}

-- an amount at one part
abbrev point : ℕ → ℕ → ℕ → ℕ
point at part amount = cond (eqb at part) amount 0

cond_add : (b : Bool) (x y : ℕ) → cond b (x + y) 0 ≡ cond b x 0 + cond b y 0
cond_add true x y = refl
cond_add false x y = refl

-- what flows at a part, with another amount along one edge
amount-set : (end : End) (part : ℕ) (edges : List (ℕ × ℕ)) (arcs : List ℕ) (i new : ℕ) → i < length edges → length arcs ≡ length edges
    → amount_at end part edges (set arcs i new) + point (end_of end (get_or edges i (0, 0))) part (get_or arcs i 0) ≡ amount_at end part edges arcs + point (end_of end (get_or edges i (0, 0))) part new
amount-set end part [] arcs i new low each = absurd (omega (arith, low))
amount-set end part (edge ∷ edges) [] i new low each = absurd (omega (arith, each))
amount-set end part (edge ∷ edges) (arc ∷ arcs) zero new low each = omega arith
amount-set end part (edge ∷ edges) (arc ∷ arcs) (suc i) new low each = omega (arith, amount-set end part edges arcs i new (omega (arith, low)) (omega (arith, each)))

get_or-set : (xs : List ℕ) (i k new : ℕ) → i < length xs → (get_or (set xs i new) k 0 ≡ new) × (k ≡ i) ⊎ (get_or (set xs i new) k 0 ≡ get_or xs k 0) × (k ≢ i)
get_or-set xs i k new low = elim (cases_eq k i) [
  | inl same ↦ inl (ap (λ n. get_or (set xs i new) n 0) same ∙ get_or-set_same xs i new 0 low, same)
  | inr apart ↦ inr (get_or-set_other xs i k new 0 apart, apart)
]

module _ (gains : List ℤ) (edges : List (ℕ × ℕ)) (first : Amounts) (visits : List Visit) (count : ℕ) (seen : List Bool) (search : IsSearch gains edges first visits count seen)
    (flow : Amounts) (at amount : ℕ) (moving : IsMoving gains edges first flow visits count at amount) where
  abbrev here : Visit
  here = visit_at visits at

  abbrev arc : ℕ
  arc = get_or flow.arcs here.edge 0

  holds_as : (x : ℕ) (way : Way) → x < count → (visit_at visits x).way ≡ way → WayHolds gains edges first visits x (visit_at visits x) way
  holds_as x way low is = subst (WayHolds gains edges first visits x (visit_at visits x)) is (search.are x low).holds

  pub can_carry : (way : Way) → here.way ≡ way → sum first.sources + amount < 2 ^ 64 → CanCarry way here amount flow
  can_carry FromSource is small = tt
  can_carry Onwards is small =
      let holds = holds_as at Onwards moving.low is in
      (omega (arith, holds.1, moving.arc_each), let few : arc ≤ sum first.sources = moving.onwards at (omega arith) is in omega (arith, few, small))
  can_carry GivenBack is small =
      let holds = holds_as at GivenBack moving.low is in
      (omega (arith, holds.1, moving.arc_each), let enough : here.room ≤ arc = moving.given_back at (omega arith) is in omega (arith, enough, moving.room))

  -- no earlier visit goes along the same edge in the same direction
  earlier_on : (x : ℕ) → x < at → (visit_at visits x).way ≡ Onwards → here.way ≡ Onwards → (visit_at visits x).edge ≢ here.edge
  earlier_on x early is here_is same =
      let low : x < count = omega (arith, early, moving.low) in
      let one = (holds_as x Onwards low is).2 in
      let two = (holds_as at Onwards moving.low here_is).2 in
      let part : part_at visits x ≡ part_at visits at = ap (λ (e : ℕ × ℕ). e.0) (sym one ∙ ap (λ i. get_or edges i (0, 0)) same ∙ two) in
      omega (arith, search.apart x at low moving.low part, early)

  earlier_back : (x : ℕ) → x < at → (visit_at visits x).way ≡ GivenBack → here.way ≡ GivenBack → (visit_at visits x).edge ≢ here.edge
  earlier_back x early is here_is same =
      let low : x < count = omega (arith, early, moving.low) in
      let one = (holds_as x GivenBack low is).2 in
      let two = (holds_as at GivenBack moving.low here_is).2 in
      let part : part_at visits x ≡ part_at visits at = ap (λ (e : ℕ × ℕ). e.1) (sym one ∙ ap (λ i. get_or edges i (0, 0)) same ∙ two) in
      omega (arith, search.apart x at low moving.low part, early)

  moved_on : here.way ≡ Onwards → IsMoving gains edges first (with_arc flow here.edge (arc + amount)) visits count here.parent amount
  moved_on is = record {
    low = omega (arith, holds.0, moving.low);
    room = omega (arith, moving.room, holds.3);
    sources = moving.sources;
    sink_each = moving.sink_each;
    arc_each = length-set flow.arcs here.edge (arc + amount) ∙ moving.arc_each;
    sinks = moving.sinks;
    off = λ p low.
        let ins = amount-set Start p edges flow.arcs here.edge (arc + amount) holds.1 moving.arc_each in
        let outs = amount-set Finish p edges flow.arcs here.edge (arc + amount) holds.1 moving.arc_each in
        let from = ap (λ (e : ℕ × ℕ). point e.0 p arc) holds.2 in
        let from' = ap (λ (e : ℕ × ℕ). point e.0 p (arc + amount)) holds.2 in
        let to = ap (λ (e : ℕ × ℕ). point e.1 p arc) holds.2 in
        let to' = ap (λ (e : ℕ × ℕ). point e.1 p (arc + amount)) holds.2 in
        omega (arith, ins, outs, from, from', to, to', cond_add (eqb here.part p) arc amount, cond_add (eqb (part_at visits here.parent) p) arc amount, moving.off p low);
    most = λ i. elim (get_or-set flow.arcs here.edge i (arc + amount) inside) [
      | inl new ↦ omega (arith, new.0, few)
      | inr old ↦ omega (arith, old.0, moving.most i)
    ];
    onwards = λ x low way. elim (get_or-set flow.arcs here.edge (visit_at visits x).edge (arc + amount) inside) [
      | inl new ↦ absurd (earlier_on x (omega (arith, low, holds.0)) way is new.1)
      | inr old ↦ omega (arith, old.0, moving.onwards x (omega (arith, low, holds.0)) way)
    ];
    given_back = λ x low way.
        let room = moving.given_back x (omega (arith, low, holds.0)) way in
        elim (get_or-set flow.arcs here.edge (visit_at visits x).edge (arc + amount) inside) [
          | inl new ↦ omega (arith, new.0, room, ap (λ i. get_or flow.arcs i 0) new.1)
          | inr old ↦ omega (arith, old.0, room)
        ];
  }
    where
      holds : WayHolds gains edges first visits at here Onwards
      holds = holds_as at Onwards moving.low is

      inside : here.edge < length flow.arcs
      inside = omega (arith, holds.1, moving.arc_each)

      few : arc ≤ sum first.sources
      few = moving.onwards at (omega arith) is

  moved_back : here.way ≡ GivenBack → IsMoving gains edges first (with_arc flow here.edge (arc - amount)) visits count here.parent amount
  moved_back is = record {
    low = omega (arith, holds.0, moving.low);
    room = omega (arith, moving.room, holds.3);
    sources = moving.sources;
    sink_each = moving.sink_each;
    arc_each = length-set flow.arcs here.edge (arc - amount) ∙ moving.arc_each;
    sinks = moving.sinks;
    off = λ p low.
        let ins = amount-set Start p edges flow.arcs here.edge (arc - amount) holds.1 moving.arc_each in
        let outs = amount-set Finish p edges flow.arcs here.edge (arc - amount) holds.1 moving.arc_each in
        let whole : (arc - amount) + amount ≡ arc = omega (arith, enough) in
        let from = ap (λ (e : ℕ × ℕ). point e.0 p arc) holds.2 ∙ sym (ap (point (part_at visits here.parent) p) whole) in
        let from' = ap (λ (e : ℕ × ℕ). point e.0 p (arc - amount)) holds.2 in
        let to = ap (λ (e : ℕ × ℕ). point e.1 p arc) holds.2 ∙ sym (ap (point here.part p) whole) in
        let to' = ap (λ (e : ℕ × ℕ). point e.1 p (arc - amount)) holds.2 in
        omega (arith, ins, outs, from, from', to, to', cond_add (eqb here.part p) (arc - amount) amount, cond_add (eqb (part_at visits here.parent) p) (arc - amount) amount, moving.off p low);
    most = λ i. elim (get_or-set flow.arcs here.edge i (arc - amount) inside) [
      | inl new ↦ omega (arith, new.0, moving.most here.edge)
      | inr old ↦ omega (arith, old.0, moving.most i)
    ];
    onwards = λ x low way.
        let few = moving.onwards x (omega (arith, low, holds.0)) way in
        elim (get_or-set flow.arcs here.edge (visit_at visits x).edge (arc - amount) inside) [
          | inl new ↦ omega (arith, new.0, few, ap (λ i. get_or flow.arcs i 0) new.1)
          | inr old ↦ omega (arith, old.0, few)
        ];
    given_back = λ x low way. elim (get_or-set flow.arcs here.edge (visit_at visits x).edge (arc - amount) inside) [
      | inl new ↦ absurd (earlier_back x (omega (arith, low, holds.0)) way is new.1)
      | inr old ↦ omega (arith, old.0, moving.given_back x (omega (arith, low, holds.0)) way)
    ];
  }
    where
      holds : WayHolds gains edges first visits at here GivenBack
      holds = holds_as at GivenBack moving.low is

      inside : here.edge < length flow.arcs
      inside = omega (arith, holds.1, moving.arc_each)

      enough : amount ≤ arc
      enough = let room : here.room ≤ arc = moving.given_back at (omega arith) is in omega (arith, room, moving.room)

  some_same : {x y : ℕ} → ◌≡◌ {A = Option ℕ} (Some x) (Some y) → x ≡ y
  some_same same = cc

  pub moved : (way : Way) (parent : ℕ) → here.way ≡ way → parent_of way here ≡ Some parent → IsMoving gains edges first (carried way here amount flow) visits count parent amount
  moved FromSource parent is from = absurd (none_some from)
    where
      none_some : ◌≡◌ {A = Option ℕ} None (Some parent) → ⊥
      none_some same = cc
  moved Onwards parent is from = subst (λ n. IsMoving gains edges first (with_arc flow here.edge (arc + amount)) visits count n amount) (some_same from) (moved_on is)
  moved GivenBack parent is from = subst (λ n. IsMoving gains edges first (with_arc flow here.edge (arc - amount)) visits count n amount) (some_same from) (moved_back is)

  -- at the source
  module _ (is_flow : IsFlow gains edges first) (is : here.way ≡ FromSource) (some : 0 < amount) where
    inside : here.part < length first.sources
    inside = let within = (search.are at moving.low).within in omega (arith, within, is_flow.source_each)

    abbrev sources' : List ℕ
    sources' = set first.sources here.part (get_or first.sources here.part 0 + amount)

    source_at : (p : ℕ) → get_or sources' p 0 ≡ get_or first.sources p 0 + point here.part p amount
    source_at p = elim (get_or-set first.sources here.part p (get_or first.sources here.part 0 + amount) inside) [
      | inl new ↦ new.0 ∙ omega (arith, ap (λ n. get_or first.sources n 0) new.1, cond-true (eqb here.part p) amount 0 (eq-eqb here.part p (sym new.1)))
      | inr old ↦ old.0 ∙ omega (arith, cond-false (eqb here.part p) amount 0 (ne_eqb here.part p (λ same. old.1 (sym same))))
    ]

    sum_more : sum sources' ≡ sum first.sources + amount
    sum_more = omega (arith, sum_by-set (λ x. x) first.sources here.part (get_or first.sources here.part 0 + amount) 0 inside)

    pub arrived : (flow' : Amounts) → flow' ≡ with_source flow here.part (get_or first.sources here.part 0 + amount) → IsGreater gains edges first flow'
    arrived flow' same = subst (IsGreater gains edges first) (sym (same ∙ seen_sources)) (record {
      held = record {
        is_flow = record {
          source_each = length-set first.sources here.part (get_or first.sources here.part 0 + amount) ∙ is_flow.source_each;
          sink_each = moving.sink_each;
          arc_each = moving.arc_each;
          sources = λ p low. elim (cases_eq here.part p) [
            | inl at_here ↦
                let holds = holds_as at FromSource moving.low is in
                omega (arith, source_at p, cond-true (eqb here.part p) amount 0 (eq-eqb here.part p at_here), ap (λ n. get_or first.sources n 0) at_here, holds, moving.room, ap (λ n. positive (gain_at gains n)) at_here)
            | inr apart ↦ omega (arith, source_at p, cond-false (eqb here.part p) amount 0 (ne_eqb here.part p apart), is_flow.sources p low)
          ];
          sinks = moving.sinks;
          balanced = λ p low. omega (arith, source_at p, moving.off p low, ap (λ all. get_or all p 0) moving.sources);
        };
        arcs = λ i. omega (arith, sum_more, moving.most i);
      };
      more = omega (arith, sum_more, some);
    })
      where
        seen_sources : with_source flow here.part (get_or first.sources here.part 0 + amount) ≡ record { sources = sources'; sinks = flow.sinks; arcs = flow.arcs }
        seen_sources = ap (λ all. record { sources = set all here.part (get_or first.sources here.part 0 + amount); sinks = flow.sinks; arcs = flow.arcs }) moving.sources

-- where the walk ends
pub moving_first : (gains : List ℤ) (edges : List (ℕ × ℕ)) (first flow : Amounts) (visits : List Visit) (count : ℕ) (seen : List Bool) (at amount : ℕ) → IsSearch gains edges first visits count seen
    → IsHeld gains edges first → at < count → amount ≤ (visit_at visits at).room → get_or first.sinks (part_at visits at) 0 + amount ≤ negative (gain_at gains (part_at visits at))
    → flow ≡ with_sink first (part_at visits at) (get_or first.sinks (part_at visits at) 0 + amount) → IsMoving gains edges first flow visits count at amount
moving_first gains edges first flow visits count seen at amount search held low room most is = subst (λ f. IsMoving gains edges first f visits count at amount) (sym is) (record {
  low = low;
  room = room;
  sources = refl;
  sink_each = length-set first.sinks (part_at visits at) (get_or first.sinks (part_at visits at) 0 + amount) ∙ held.is_flow.sink_each;
  arc_each = held.is_flow.arc_each;
  sinks = λ p small. elim (get_or-set first.sinks (part_at visits at) p (get_or first.sinks (part_at visits at) 0 + amount) inside) [
    | inl new ↦ omega (arith, new.0, most, ap (λ n. negative (gain_at gains n)) new.1)
    | inr old ↦ omega (arith, old.0, held.is_flow.sinks p small)
  ];
  off = λ p small. elim (get_or-set first.sinks (part_at visits at) p (get_or first.sinks (part_at visits at) 0 + amount) inside) [
    | inl new ↦ omega (arith, new.0, held.is_flow.balanced p small, ap (λ n. get_or first.sinks n 0) new.1, cond-true (eqb (part_at visits at) p) amount 0 (eq-eqb (part_at visits at) p (sym new.1)))
    | inr old ↦ omega (arith, old.0, held.is_flow.balanced p small, cond-false (eqb (part_at visits at) p) amount 0 (ne_eqb (part_at visits at) p (λ same. old.1 (sym same))))
  ];
  most = λ i. omega (arith, held.arcs i);
  onwards = λ x early way. held.arcs (visit_at visits x).edge;
  given_back = λ x early way. (subst (WayHolds gains edges first visits x (visit_at visits x)) way (search.are x (omega (arith, early, low))).holds).4;
})
  where
    inside : part_at visits at < length first.sinks
    inside = let within = (search.are at low).within in omega (arith, within, held.is_flow.sink_each)

-- what flows from the source is no more than the positive gains, and these are bounded
pub sources_below : (gains : List ℤ) (sources : List ℕ) → length sources ≡ length gains → ((part : ℕ) → part < length gains → get_or sources part 0 ≤ positive (gain_at gains part)) → sum sources ≤ sum_by positive gains
sources_below [] [] each below = omega arith
sources_below [] (x ∷ sources) each below = absurd (omega (arith, each))
sources_below (g ∷ gains) [] each below = absurd (omega (arith, each))
sources_below (g ∷ gains) (x ∷ sources) each below =
    let rest = sources_below gains sources (omega (arith, each)) (λ part low. below (suc part) (omega (arith, low))) in
    let first : x ≤ positive g = below 0 (omega arith) in
    omega (arith, rest, first, sum_by-cons (λ n. n) x sources, sum_by-cons positive g gains)

pub sum_small : (gains : List ℤ) (parts : ℕ) → AreGains parts gains → parts ≤ 4096 → sum_by positive gains ≤ 2 ^ 40
sum_small gains parts are few = let most = sum_by-le positive (2 ^ 28) gains are.high in omega (arith, most, are.each, few)

-- a gain as it is read
pub gain_read : (g : ℤ) → positive g ≤ 2 ^ 28 → negative g ≤ 2 ^ 28 → to_z w64 (of_z w64 g) ≡ g
gain_read (pos n) high low = omega (arith, ints, high)
gain_read (negsuc n) high low = omega (arith, ints, low)

-- a visit from which more may flow to the sink, and how much
module _ (gains : List ℤ) (edges : List (ℕ × ℕ)) (first : Amounts) (visits : List Visit) (count : ℕ) (seen : List Bool) (at : ℕ) (visit : IsOpenVisit gains edges first visits count seen at)
    (held : IsHeld gains edges first) (parts : ℕ) (are : AreGains parts gains) (v : Visit) (is : v ≡ visit_at visits at) (flows most amount : ℕ) (there : slice_get first.sinks v.part ≡ Some flows)
    (may : most ≡ negative (to_z w64 (of_z w64 (get_or gains v.part (pos 0))))) (least : amount ≡ min v.room (most - flows)) where
  part_is : v.part ≡ part_at visits at
  part_is = ap (λ (w : Visit). w.part) is

  part_low : part_at visits at < length gains
  part_low = (visit.search.are at visit.low).within

  flows_is : get_or first.sinks (part_at visits at) 0 ≡ flows
  flows_is = ap (λ n. get_or first.sinks n 0) (sym part_is) ∙ get_or_from_slice_get first.sinks v.part flows 0 there

  most_is : most ≡ negative (gain_at gains (part_at visits at))
  most_is = may ∙ ap (λ n. negative (to_z w64 (of_z w64 (get_or gains n (pos 0))))) part_is
      ∙ ap negative (gain_read (gain_at gains (part_at visits at)) (are.high (part_at visits at) (pos 0) part_low) (are.low (part_at visits at) (pos 0) part_low))

  room_is : v.room ≡ (visit_at visits at).room
  room_is = ap (λ (w : Visit). w.room) is

  pub some_amount : 0 < amount
  some_amount =
      let some = (visit.search.are at visit.low).some in
      omega (arith, least, room_is, some, most_is, flows_is, visit.open_part)

  pub small_amount : amount ≤ 2 ^ 28
  small_amount = omega (arith, least, most_is, are.low (part_at visits at) (pos 0) part_low)

  pub first_move : (flow : Amounts) → flow ≡ with_sink first v.part (flows + amount) → IsMoving gains edges first flow visits count at amount
  first_move flow same =
      moving_first gains edges first flow visits count seen at amount visit.search held visit.low (omega (arith, least, room_is)) (omega (arith, least, most_is, flows_is, visit.open_part))
      (same ∙ ap (λ n. with_sink first n (flows + amount)) part_is ∙ ap (λ n. with_sink first (part_at visits at) (n + amount)) (sym flows_is))

pub no_parent : (way : Way) (v : Visit) → ◌≡◌ {A = Option ℕ} None (parent_of way v) → way ≡ FromSource
no_parent FromSource v none = refl
no_parent Onwards v none = cc
no_parent GivenBack v none = cc

-- little flows
pub flows_little : (gains : List ℤ) (edges : List (ℕ × ℕ)) (flow : Amounts) (parts amount : ℕ) → AreGains parts gains → parts ≤ 4096 → IsFlow gains edges flow → amount ≤ 2 ^ 28 → sum flow.sources + amount < 2 ^ 64
flows_little gains edges flow parts amount are few is_flow small =
    omega (arith, sources_below gains flow.sources is_flow.source_each is_flow.sources, sum_small gains parts are few, small)
