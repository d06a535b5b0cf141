-- One visit more.
use Rattle.std.proofs.Common.{◌≡◌, ◌∙◌, sym, ap, refl, subst, inl, inr, arith, ℕ, ◌+◌, ◌<◌, ◌≤◌, ◌⊎◌, Bool, true, false, List, [], ◌∷◌, length, get_or, set, cond, count_by, min}
use Rattle.std.specs.Prelude.{ℤ}
use Rattle.std.specs.List.{Contains}
use Rattle.std.proofs.lemmas.Bool.{both_ways, cases_eq, cases_lt, cond-false}
use Rattle.std.proofs.lemmas.List.{get_or-set_other, get_or-set_same, get_or_default, get_or_past, length-set}
use Rattle.std.proofs.lemmas.List.Sums.{sum_by-set, sum_by-cons}
use Rattle.cb_plain.specs.Amounts.{Amounts}
use Rattle.cb_dag.specs.Marks.{marked}
use Rattle.cb_dag.specs.Places.{edges_at}
use Rattle.cb_dag.specs.declared.ends.End.TheVariants.{Finish, Start}
use Rattle.cb_dag.proofs.Laws.{edges_at_all}
use Rattle.cb_flow.specs.declared.visit.Visit.{Visit}
use Rattle.cb_flow.specs.declared.visit.Way.{Way}
use Rattle.cb_flow.specs.declared.visit.Way.TheVariants.{FromSource, GivenBack, Onwards}
use Rattle.cb_flow.specs.Visits.{Grows, IsSearch, IsVisit, WayHolds, no_visit, part_at, visit_at}

-- marks
marked_within : (marks : List Bool) (part : ℕ) → marked marks part ≡ true → part < length marks
marked_within marks part on =
    elim (cases_lt part (length marks)) [ inl l ↦ l | inr past ↦ absurd (both_ways (marked marks part) (get_or_past marks part false past) on) ]

marked-set_kept : (marks : List Bool) (part other : ℕ) → marked marks other ≡ true → marked (set marks part true) other ≡ true
marked-set_kept marks part other on = elim (cases_eq other part) [
  | inl same ↦ ap (marked (set marks part true)) same ∙ get_or-set_same marks part true false (subst (λ n. n < length marks) same (marked_within marks other on))
  | inr apart ↦ get_or-set_other marks part other true false apart ∙ on
]

marked-set_cases : (marks : List Bool) (part other : ℕ) → marked (set marks part true) other ≡ true → (other ≡ part) ⊎ (marked marks other ≡ true)
marked-set_cases marks part other on =
    elim (cases_eq other part) [ inl same ↦ inl same | inr apart ↦ inr (sym (get_or-set_other marks part other true false apart) ∙ on) ]

-- fewer are marked than there are, where one isn't
pub marks_below : (marks : List Bool) → count_by (λ mark. mark) marks ≤ length marks
marks_below [] = omega arith
marks_below (true ∷ marks) = omega (arith, sum_by-cons (λ mark. cond mark 1 0) true marks, marks_below marks)
marks_below (false ∷ marks) = omega (arith, sum_by-cons (λ mark. cond mark 1 0) false marks, marks_below marks)

pub marks_more : (marks : List Bool) (part : ℕ) → part < length marks → marked marks part ≡ false → count_by (λ mark. mark) (set marks part true) ≡ count_by (λ mark. mark) marks + 1
marks_more marks part within off =
    let changed = sum_by-set (λ mark. cond mark 1 0) marks part true false within in
    let none : ◌≡◌ {A = ℕ} (cond (marked marks part) 1 0) 0 = cond-false (marked marks part) 1 0 off in
    omega (arith, changed, none)

pub marks_room : (marks : List Bool) (part : ℕ) → part < length marks → marked marks part ≡ false → count_by (λ mark. mark) marks < length marks
marks_room marks part within off =
    omega (arith, marks_more marks part within off, marks_below (set marks part true), length-set marks part true)

-- a visit stays one with more visits behind
way_kept : (gains : List ℤ) (edges : List (ℕ × ℕ)) (flow : Amounts) (visits visits' : List Visit) (before before' : ℕ) (visit : Visit) (way : Way) → before ≤ before'
    → ((x : ℕ) → x < before → visit_at visits' x ≡ visit_at visits x) → WayHolds gains edges flow visits before visit way → WayHolds gains edges flow visits' before' visit way
way_kept gains edges flow visits visits' before before' visit FromSource more same holds = holds
way_kept gains edges flow visits visits' before before' visit Onwards more same holds =
    let there = same visit.parent holds.0 in
    (omega (arith, holds.0, more), holds.1, holds.2 ∙ ap (λ (v : Visit). (visit.part, v.part)) (sym there), subst (λ (v : Visit). visit.room ≤ v.room) (sym there) holds.3)
way_kept gains edges flow visits visits' before before' visit GivenBack more same holds =
    let there = same visit.parent holds.0 in
    (omega (arith, holds.0, more), holds.1, holds.2 ∙ ap (λ (v : Visit). (v.part, visit.part)) (sym there), subst (λ (v : Visit). visit.room ≤ v.room) (sym there) holds.3, holds.4)

pub visit_kept : (gains : List ℤ) (edges : List (ℕ × ℕ)) (flow : Amounts) (visits visits' : List Visit) (before before' : ℕ) (visit : Visit) → before ≤ before'
    → ((x : ℕ) → x < before → visit_at visits' x ≡ visit_at visits x) → IsVisit gains edges flow visits before visit → IsVisit gains edges flow visits' before' visit
visit_kept gains edges flow visits visits' before before' visit more same is = record {
  within = is.within;
  some = is.some;
  holds = way_kept gains edges flow visits visits' before before' visit visit.way more same is.holds;
}

pub grown : (visits : List Visit) (count : ℕ) (seen : List Bool) (visit : Visit) → count < length visits → Grows visits count seen (set visits count visit) (count + 1) (set seen visit.part true)
grown visits count seen visit room = record {
  more = omega arith;
  same = old;
  still = λ part on. marked-set_kept seen visit.part part on;
  visited = λ are part on. elim (marked-set_cases seen visit.part part on) [
    | inl same ↦ (count, omega arith, ap (λ (v : Visit). v.part) (get_or-set_same visits count visit no_visit room) ∙ sym same)
    | inr before ↦ let found = are part before in (found.0, omega (arith, found.1), ap (λ (v : Visit). v.part) (old found.0 found.1) ∙ found.2)
  ];
}
  where
    old : (x : ℕ) → x < count → visit_at (set visits count visit) x ≡ visit_at visits x
    old x low = get_or-set_other visits count x visit no_visit (λ same. omega (arith, low, same))

pub not_grown : (visits : List Visit) (count : ℕ) (seen : List Bool) → Grows visits count seen visits count seen
not_grown visits count seen = record { more = omega arith; same = λ x low. refl; still = λ part on. on; visited = λ are. are }

pub grown_on : (visits visits' visits'' : List Visit) (count count' count'' : ℕ) (seen seen' seen'' : List Bool) → Grows visits count seen visits' count' seen'
    → Grows visits' count' seen' visits'' count'' seen'' → Grows visits count seen visits'' count'' seen''
grown_on visits visits' visits'' count count' count'' seen seen' seen'' one other = record {
  more = omega (arith, one.more, other.more);
  same = λ x low. other.same x (omega (arith, low, one.more)) ∙ one.same x low;
  still = λ part on. other.still part (one.still part on);
  visited = λ are. other.visited (one.visited are);
}

pub visited_more : (gains : List ℤ) (edges : List (ℕ × ℕ)) (flow : Amounts) (visits : List Visit) (count : ℕ) (seen : List Bool) (visit : Visit)
    → IsSearch gains edges flow visits count seen → IsVisit gains edges flow visits count visit → marked seen visit.part ≡ false
    → IsSearch gains edges flow (set visits count visit) (count + 1) (set seen visit.part true)
visited_more gains edges flow visits count seen visit search is new = record {
  visit_each = length-set visits count visit ∙ search.visit_each;
  seen_each = length-set seen visit.part true ∙ search.seen_each;
  counted = omega (arith, marks_more seen visit.part inside new, search.counted);
  apart = λ x y low high same. elim (cases_lt x count) [
    | inl l ↦ elim (cases_lt y count) [
      | inl m ↦ search.apart x y l m (sym (ap (λ (v : Visit). v.part) (old x l)) ∙ same ∙ ap (λ (v : Visit). v.part) (old y m))
      | inr q ↦ absurd (not_new x l (same ∙ at_last y (omega (arith, high, q))))
    ]
    | inr p ↦ elim (cases_lt y count) [
      | inl m ↦ absurd (not_new y m (sym same ∙ at_last x (omega (arith, low, p))))
      | inr q ↦ omega (arith, low, high, p, q)
    ]
  ];
  marks = λ x low. elim (cases_lt x count) [
    | inl l ↦ marked-set_kept seen visit.part (part_at (set visits count visit) x) (subst (λ (v : Visit). marked seen v.part ≡ true) (sym (old x l)) (search.marks x l))
    | inr p ↦ ap (marked (set seen visit.part true)) (at_last x (omega (arith, low, p))) ∙ get_or-set_same seen visit.part true false inside
  ];
  are = λ x low. elim (cases_lt x count) [
    | inl l ↦ subst (IsVisit gains edges flow (set visits count visit) x) (sym (old x l))
        (visit_kept gains edges flow visits (set visits count visit) x x (visit_at visits x) (omega arith) (λ y below. old y (omega (arith, below, l))) (search.are x l))
    | inr p ↦
        let last : x ≡ count = omega (arith, low, p) in
        subst (λ n. IsVisit gains edges flow (set visits count visit) n (visit_at (set visits count visit) n)) (sym last)
        (subst (IsVisit gains edges flow (set visits count visit) count) (sym here)
        (visit_kept gains edges flow visits (set visits count visit) count count visit (omega arith) (λ y below. old y below) is))
  ];
}
  where
    inside : visit.part < length seen
    inside = omega (arith, is.within, search.seen_each)

    room : count < length visits
    room = omega (arith, marks_room seen visit.part inside new, search.counted, search.seen_each, search.visit_each)

    old : (x : ℕ) → x < count → visit_at (set visits count visit) x ≡ visit_at visits x
    old x low = get_or-set_other visits count x visit no_visit (λ same. omega (arith, low, same))

    here : visit_at (set visits count visit) count ≡ visit
    here = get_or-set_same visits count visit no_visit room

    at_last : (x : ℕ) → x ≡ count → part_at (set visits count visit) x ≡ visit.part
    at_last x last = ap (part_at (set visits count visit)) last ∙ ap (λ (v : Visit). v.part) here

    not_new : (x : ℕ) → x < count → part_at (set visits count visit) x ≡ visit.part → ⊥
    not_new x low same =
        both_ways (marked seen visit.part) new
        (subst (λ n. marked seen n ≡ true) (sym (ap (λ (v : Visit). v.part) (old x low)) ∙ same) (search.marks x low))

-- the visits along an edge from one
module _ (gains : List ℤ) (edges : List (ℕ × ℕ)) (flow : Amounts) (visits0 : List Visit) (count0 : ℕ) (seen0 : List Bool) (visits : List Visit) (count : ℕ) (seen : List Bool)
    (search : IsSearch gains edges flow visits count seen) (grew : Grows visits0 count0 seen0 visits count seen) (at : ℕ) (low : at < count0) (from : Visit) (is : from ≡ visit_at visits0 at)
    (edge : ℕ) (pair : ℕ × ℕ) (within : edge < length edges) (there : get_or edges edge (0, 0) ≡ pair) where
  now : visit_at visits at ≡ from
  now = grew.same at low ∙ sym is

  some_room : 0 < from.room
  some_room = subst (λ (v : Visit). 0 < v.room) now (search.are at (omega (arith, low, grew.more))).some

  pub onwards_visit : pair.1 ≡ from.part → pair.0 < length gains → IsVisit gains edges flow visits count (record { part = pair.0; way = Onwards; edge = edge; parent = at; room = from.room })
  onwards_visit end small = record {
    within = small;
    some = some_room;
    holds = (omega (arith, low, grew.more), within, there ∙ ap (λ n. (pair.0, n)) (end ∙ ap (λ (v : Visit). v.part) (sym now)), subst (λ (v : Visit). from.room ≤ v.room) (sym now) (omega arith));
  }

  pub given_visit : pair.0 ≡ from.part → pair.1 < length gains → (back room : ℕ) → 0 < back → get_or flow.arcs edge 0 ≡ back → room ≡ min from.room back
      → IsVisit gains edges flow visits count (record { part = pair.1; way = GivenBack; edge = edge; parent = at; room = room })
  given_visit end small back room more flows least = record {
    within = small;
    some = omega (arith, some_room, more, least);
    holds = (
      omega (arith, low, grew.more),
      within,
      there ∙ ap (λ n. (n, pair.1)) (end ∙ ap (λ (v : Visit). v.part) (sym now)),
      subst (λ (v : Visit). room ≤ v.room) (sym now) (omega (arith, least)),
      omega (arith, least, flows),
    );
  }

-- all edges at a part, by their numbers
pub starts_seen : (edges : List (ℕ × ℕ)) (seen : List Bool) (part : ℕ) (list : List ℕ) → list ≡ edges_at Finish part edges
    → ((k : ℕ) → k < length list → marked seen (get_or edges (get_or list k 0) (0, 0)).0 ≡ true)
    → (i : ℕ) → i < length edges → (get_or edges i (0, 0)).1 ≡ part → marked seen (get_or edges i (0, 0)).0 ≡ true
starts_seen edges seen part list is seen_all i low end =
    let found : Contains list i = subst (λ all. Contains all i) (sym is) (edges_at_all Finish part edges i low end) in
    let at : get_or list found.0 0 ≡ i = get_or_default list found.0 0 i found.1 ∙ found.2 in
    subst (λ n. marked seen (get_or edges n (0, 0)).0 ≡ true) at (seen_all found.0 found.1)

pub finishes_seen : (edges : List (ℕ × ℕ)) (arcs : List ℕ) (seen : List Bool) (part : ℕ) (list : List ℕ) → list ≡ edges_at Start part edges
    → ((k : ℕ) → k < length list → 0 < get_or arcs (get_or list k 0) 0 → marked seen (get_or edges (get_or list k 0) (0, 0)).1 ≡ true)
    → (i : ℕ) → i < length edges → (get_or edges i (0, 0)).0 ≡ part → 0 < get_or arcs i 0 → marked seen (get_or edges i (0, 0)).1 ≡ true
finishes_seen edges arcs seen part list is seen_all i low end some =
    let found : Contains list i = subst (λ all. Contains all i) (sym is) (edges_at_all Start part edges i low end) in
    let at : get_or list found.0 0 ≡ i = get_or_default list found.0 0 i found.1 ∙ found.2 in
    subst (λ n. marked seen (get_or edges n (0, 0)).1 ≡ true) at (seen_all found.0 found.1 (subst (λ n. 0 < get_or arcs n 0) (sym at) some))

pub count_room : (seen : List Bool) (count : ℕ) → count ≤ count_by (λ mark. mark) seen → count ≤ length seen
count_room seen count is = omega (arith, marks_below seen, is)
