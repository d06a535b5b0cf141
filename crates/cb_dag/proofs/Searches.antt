-- The first search: nodes entered and left (Kosaraju; Sharir 1981).
use Rattle.std.proofs.Common.{◌≡◌, ◌∙◌, sym, ap, refl, subst, inl, inr, arith, ℕ, ◌+◌, ◌<◌, ◌⊎◌, Bool, true, false, List, [], ◌∷◌, length, get_or, set, Option, Some, None, MatchOption}
use Rattle.std.proofs.lemmas.Bool.{both_ways, cases_Bool, cases_eq, cases_lt, false_from_ne_true}
use Rattle.std.proofs.lemmas.List.{get_or-set_other, get_or-set_same, length-set}
use Rattle.cb_dag.specs.Graphs.{Along, HasEdge, Here, Leads, Mutual}
use Rattle.cb_dag.specs.Marks.{IsTop, IsUnseen, marked}
use Rattle.cb_dag.specs.Search.{IsSearch, IsTrail, is_in}
use Rattle.cb_dag.proofs.Among.{in_cases, in_front, in_rest, marked-set_cases, marked-set_kept, marked-set_same, marked_within, not_front, not_in, not_rest}
use Rattle.cb_dag.proofs.Paths.{alone, both_on, leads_on}

-- what leads to the last node of a trail
trail_to_top : (rows : List (List Bool)) (top : ℕ) (rest : List ℕ) → IsTrail (HasEdge rows) (top ∷ rest) → (other : ℕ) → is_in other (top ∷ rest) ≡ true
    → Leads (HasEdge rows) other top
trail_to_top rows top rest steps other within = elim (in_cases other top rest within) [
  | inl same ↦ subst (λ n. Leads (HasEdge rows) n top) same Here
  | inr behind ↦ steps.1 other behind
]

trail_to_next : (rows : List (List Bool)) (trail : List ℕ) (node : ℕ) → IsTrail (HasEdge rows) trail → ((top : ℕ) → IsTop trail top → HasEdge rows top node)
    → (other : ℕ) → is_in other trail ≡ true → Leads (HasEdge rows) other node
trail_to_next rows [] node steps edge other within = absurd (both_ways false refl within)
trail_to_next rows (top ∷ rest) node steps edge other within = Along (trail_to_top rows top rest steps other within) (edge top refl)

-- a node is entered that wasn't seen, from the last one of the trail if there is one
pub entered : (rows : List (List Bool)) (seen : List Bool) (cursors cursors' trail left : List ℕ) (node : ℕ) → IsSearch rows seen cursors trail left → node < length rows
    → marked seen node ≡ false → ((top : ℕ) → IsTop trail top → HasEdge rows top node) → length cursors' ≡ length rows → get_or cursors' node 0 ≡ 0
    → ((a b : ℕ) → is_in a trail ≡ true → b < get_or cursors' a 0 → HasEdge rows a b → marked (set seen node true) b ≡ true)
    → IsSearch rows (set seen node true) cursors' (node ∷ trail) left
entered rows seen cursors cursors' trail left node search within new edge count start tried = record {
  seen_count = length-set seen node true ∙ search.seen_count;
  cursor_count = count;
  on_trail = λ a there. elim (in_cases a node trail there) [
    | inl same ↦ ap (marked (set seen node true)) (sym same) ∙ marked-set_same seen node (omega (arith, within, search.seen_count))
    | inr behind ↦ marked-set_kept seen node a (search.on_trail a behind)
  ];
  were_left = λ a there. marked-set_kept seen node a (search.were_left a there);
  cover = λ a on out. elim (marked-set_cases seen node a on) [
    | inl same ↦ absurd (not_front a node trail out (sym same))
    | inr before ↦ search.cover a before (not_rest a node trail out)
  ];
  apart = λ a there. elim (in_cases a node trail there) [
    | inl same ↦ subst (λ n. is_in n left ≡ false) same
        (false_from_ne_true (is_in node left) (λ gone. both_ways (marked seen node) new (search.were_left node gone)))
    | inr behind ↦ search.apart a behind
  ];
  steps = (false_from_ne_true (is_in node trail) (λ there. both_ways (marked seen node) new (search.on_trail node there)), trail_to_next rows trail node search.steps edge, search.steps);
  tried = λ a b there below leads. elim (in_cases a node trail there) [
    | inl same ↦ absurd (let none : b < 0 = subst (λ n. b < n) (ap (λ n. get_or cursors' n 0) (sym same) ∙ start) below in omega (arith, none))
    | inr behind ↦ tried a b behind below leads
  ];
  behind = λ a b there leads. marked-set_kept seen node b (search.behind a b there leads);
  leads_back = λ a b there out path. let found = search.leads_back a b there out path in (found.0, in_rest found.0 node trail found.1, found.2);
  finishing = search.finishing;
}

-- the last node of the trail is left, when all that it has edges to were seen
module _ (rows : List (List Bool)) (seen : List Bool) (cursors : List ℕ) (top : ℕ) (rest left : List ℕ) (search : IsSearch rows seen cursors (top ∷ rest) left)
    (done : (b : ℕ) → HasEdge rows top b → marked seen b ≡ true) where
  not_left : is_in top left ≡ false
  not_left = search.apart top (in_front top rest)

  -- a path from it comes back to the trail before it, or stays among the nodes that were left
  stays : (b : ℕ) → Leads (HasEdge rows) top b → ((g : ℕ) × (is_in g rest ≡ true) × Mutual (HasEdge rows) top g) ⊎ (is_in b (top ∷ left) ≡ true)
  stays b Here = inr (in_front top left)
  stays b (Along {b = c} path edge) = elim (stays c path) [
    | inl found ↦ inl found
    | inr inside ↦ elim (cases_Bool (is_in b (top ∷ rest))) [
      | inl there ↦ elim (in_cases b top rest there) [
        | inl same ↦ inr (subst (λ n. is_in n (top ∷ left) ≡ true) same (in_front top left))
        | inr behind ↦ inl (b, behind, record { there = Along path edge; back = search.steps.1 b behind })
      ]
      | inr out ↦ inr (in_rest b top left (search.cover b (came c edge inside) out))
    ]
  ]
    where
      came : (c : ℕ) → HasEdge rows c b → is_in c (top ∷ left) ≡ true → marked seen b ≡ true
      came c edge inside = elim (in_cases c top left inside) [
        | inl same ↦ done b (subst (λ n. HasEdge rows n b) (sym same) edge)
        | inr behind ↦ search.behind c b behind edge
      ]

  back_from_top : (b : ℕ) → is_in b (top ∷ left) ≡ false → Leads (HasEdge rows) top b → (g : ℕ) × (is_in g rest ≡ true) × Mutual (HasEdge rows) top g
  back_from_top b out path = elim (stays b path) [ inl found ↦ found | inr inside ↦ absurd (both_ways (is_in b (top ∷ left)) out inside) ]

  back_from : (a b : ℕ) → is_in a (top ∷ left) ≡ true → is_in b (top ∷ left) ≡ false → Leads (HasEdge rows) a b
      → (g : ℕ) × (is_in g rest ≡ true) × Mutual (HasEdge rows) a g
  back_from a b inside out path = elim (in_cases a top left inside) [
    | inl same ↦ subst (λ n. (g : ℕ) × (is_in g rest ≡ true) × Mutual (HasEdge rows) n g) same
        (back_from_top b out (subst (λ n. Leads (HasEdge rows) n b) (sym same) path))
    | inr behind ↦ from_left (search.leads_back a b behind (not_rest b top left out) path)
  ]
    where
      from_left : (g : ℕ) × (is_in g (top ∷ rest) ≡ true) × Mutual (HasEdge rows) a g → (g : ℕ) × (is_in g rest ≡ true) × Mutual (HasEdge rows) a g
      from_left found = elim (in_cases found.0 top rest found.1) [
        | inr there ↦ (found.0, there, found.2)
        | inl same ↦
            let to_top : Mutual (HasEdge rows) a top = subst (λ n. Mutual (HasEdge rows) a n) (sym same) found.2 in
            let more : (g : ℕ) × (is_in g rest ≡ true) × Mutual (HasEdge rows) top g = back_from_top b out (leads_on to_top.back path) in
            (more.0, more.1, both_on to_top more.2)
      ]

  comes_back : (a : ℕ) → a < length rows → Leads (HasEdge rows) a top → (c : ℕ) × (c < length rows) × Mutual (HasEdge rows) a c × (is_in c left ≡ false)
  comes_back a within path = elim (cases_Bool (is_in a left)) [
    | inr out ↦ (a, within, alone a, out)
    | inl inside ↦
        let found : (g : ℕ) × (is_in g (top ∷ rest) ≡ true) × Mutual (HasEdge rows) a g = search.leads_back a top inside not_left path in
        let on : found.0 < length seen = marked_within seen found.0 (search.on_trail found.0 found.1) in
        (found.0, omega (arith, on, search.seen_count), found.2, search.apart found.0 found.1)
  ]

  pub was_left : IsSearch rows seen cursors rest (top ∷ left)
  was_left = record {
    seen_count = search.seen_count;
    cursor_count = search.cursor_count;
    on_trail = λ a there. search.on_trail a (in_rest a top rest there);
    were_left = λ a there. elim (in_cases a top left there) [
      | inl same ↦ subst (λ n. marked seen n ≡ true) same (search.on_trail top (in_front top rest))
      | inr behind ↦ search.were_left a behind
    ];
    cover = λ a on out. elim (cases_eq top a) [
      | inl same ↦ subst (λ n. is_in n (top ∷ left) ≡ true) same (in_front top left)
      | inr apart ↦ in_rest a top left (search.cover a on (not_in a top rest apart out))
    ];
    apart = λ a there. not_in a top left
        (λ same. both_ways (is_in top rest) search.steps.0 (subst (λ n. is_in n rest ≡ true) (sym same) there)) (search.apart a (in_rest a top rest there));
    steps = search.steps.2;
    tried = λ a b there below leads. search.tried a b (in_rest a top rest there) below leads;
    behind = λ a b there leads. elim (in_cases a top left there) [
      | inl same ↦ done b (subst (λ n. HasEdge rows n b) (sym same) leads)
      | inr before ↦ search.behind a b before leads
    ];
    leads_back = back_from;
    finishing = (comes_back, search.finishing);
  }

-- the last node of a trail
pub in_top : (trail : List ℕ) (node : ℕ) → IsTop trail node → is_in node trail ≡ true
in_top [] node top = absurd top
in_top (other ∷ rest) node top = subst (λ n. is_in n (other ∷ rest) ≡ true) top (in_front other rest)

pub top_within : (rows : List (List Bool)) (seen : List Bool) (cursors trail left : List ℕ) (node : ℕ) → IsSearch rows seen cursors trail left → IsTop trail node
    → node < length rows
top_within rows seen cursors trail left node search top =
    let on : node < length seen = marked_within seen node (search.on_trail node (in_top trail node top)) in
    omega (arith, on, search.seen_count)

pub popped : (trail rest : List ℕ) (answer : Option ℕ) (node : ℕ) → IsTop trail node → MatchOption answer ((trail ≡ []) × (rest ≡ [])) (λ top. trail ≡ top ∷ rest)
    → trail ≡ node ∷ rest
popped trail rest None node top was = absurd (subst (λ nodes. IsTop nodes node) was.0 top)
popped trail rest (Some first) node top was = was ∙ ap (λ n. n ∷ rest) (subst (λ nodes. IsTop nodes node) was top)

-- on to a node that wasn't seen
pub went_on : (rows : List (List Bool)) (seen : List Bool) (cursors trail left trail' : List ℕ) (node next : ℕ) → IsSearch rows seen cursors trail left → IsTop trail node
    → IsUnseen rows seen node (get_or cursors node 0) (Some next) → trail' ≡ next ∷ trail
    → IsSearch rows (set seen next true) (set (set cursors node (next + 1)) next 0) trail' left
went_on rows seen cursors trail left trail' node next search top found is =
    subst (λ nodes. IsSearch rows (set seen next true) (set (set cursors node (next + 1)) next 0) nodes left) (sym is)
    (entered rows seen cursors (set (set cursors node (next + 1)) next 0) trail left next search found.1 found.3
    (λ other is_top. subst (λ n. HasEdge rows n next) (same_top trail node other top is_top) found.2)
    (length-set (set cursors node (next + 1)) next 0 ∙ length-set cursors node (next + 1) ∙ search.cursor_count)
    (get_or-set_same (set cursors node (next + 1)) next 0 0 (omega (arith, found.1, length-set cursors node (next + 1), search.cursor_count)))
    tried)
  where
    same_top : (trail : List ℕ) (one other : ℕ) → IsTop trail one → IsTop trail other → one ≡ other
    same_top [] one other at_one at_other = absurd at_one
    same_top (first ∷ rest) one other at_one at_other = sym at_one ∙ at_other

    tried : (a b : ℕ) → is_in a trail ≡ true → b < get_or (set (set cursors node (next + 1)) next 0) a 0 → HasEdge rows a b → marked (set seen next true) b ≡ true
    tried a b there below edge = elim (cases_eq a next) [
      | inl same ↦ absurd (both_ways (marked seen next) found.3 (subst (λ n. marked seen n ≡ true) same (search.on_trail a there)))
      | inr apart ↦
          let before : b < get_or (set cursors node (next + 1)) a 0 = subst (λ n. b < n) (get_or-set_other (set cursors node (next + 1)) next a 0 0 apart) below in
          elim (cases_eq a node) [
            | inr elsewhere ↦ marked-set_kept seen next b (search.tried a b there (subst (λ n. b < n) (get_or-set_other cursors node a (next + 1) 0 elsewhere) before) edge)
            | inl here ↦ at_node a b there here before edge
          ]
    ]
      where
        at_node : (a b : ℕ) → is_in a trail ≡ true → a ≡ node → b < get_or (set cursors node (next + 1)) a 0 → HasEdge rows a b → marked (set seen next true) b ≡ true
        at_node a b there here before edge =
            let within : node < length cursors = omega (arith, top_within rows seen cursors trail left node search top, search.cursor_count) in
            let up : b < next + 1 = subst (λ n. b < n) (ap (λ n. get_or (set cursors node (next + 1)) n 0) here ∙ get_or-set_same cursors node (next + 1) 0 within) before in
            elim (cases_eq b next) [
              | inl same ↦ subst (λ n. marked (set seen next true) n ≡ true) (sym same) (marked-set_same seen next (omega (arith, found.1, search.seen_count)))
              | inr apart ↦ elim (cases_lt b (get_or cursors node 0)) [
                | inl early ↦ marked-set_kept seen next b (search.tried node b (in_top trail node top) early (subst (λ n. HasEdge rows n b) here edge))
                | inr late ↦ marked-set_kept seen next b (found.4 b late (omega (arith, up, apart)) (subst (λ n. HasEdge rows n b) here edge))
              ]
            ]

-- back from the last node of the trail
pub went_back : (rows : List (List Bool)) (seen : List Bool) (cursors trail left rest left' : List ℕ) (node : ℕ) → IsSearch rows seen cursors trail left → IsTop trail node
    → IsUnseen rows seen node (get_or cursors node 0) None → trail ≡ node ∷ rest → left' ≡ node ∷ left → IsSearch rows seen cursors rest left'
went_back rows seen cursors trail left rest left' node search top none was is =
    subst (λ nodes. IsSearch rows seen cursors rest nodes) (sym is)
    (was_left rows seen cursors node rest left (subst (λ nodes. IsSearch rows seen cursors nodes left) was search)
    (λ b edge. elim (cases_lt b (get_or cursors node 0)) [
      | inl early ↦ search.tried node b (in_top trail node top) early edge
      | inr late ↦ none b late edge
    ]))

pub left_within : (rows : List (List Bool)) (seen : List Bool) (cursors trail left : List ℕ) → IsSearch rows seen cursors trail left → (node : ℕ) → is_in node left ≡ true → node < length rows
left_within rows seen cursors trail left search node there =
    let on : node < length seen = marked_within seen node (search.were_left node there) in
    omega (arith, on, search.seen_count)
