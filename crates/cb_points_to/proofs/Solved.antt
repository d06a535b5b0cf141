-- From the start to the least relation.
use Rattle.std.proofs.Common.{◌≡◌, ◌∙◌, sym, ap, refl, subst, inl, inr, arith, ℕ, ◌+◌, ◌<◌, false, List, [], ◌∷◌, ◌++◌, length, length-append, get_or, replicate, Option, Some, None, slice_get}
use Rattle.std.specs.List.{All, Contains}
use Rattle.std.proofs.lemmas.Bool.{both_ways, cases_lt}
use Rattle.std.proofs.lemmas.List.{get_or-replicate, get_or_past, length-replicate}
use Rattle.std.proofs.lemmas.List.Elements.{Contains-append_left, Contains-push, Contains-push_cases}
use Rattle.std.proofs.lemmas.Option.{slice_get_within}
use Rattle.cb_points_to.specs.Closed.{IsLeast, has}
use Rattle.cb_points_to.specs.Inclusions.{System}
use Rattle.cb_points_to.specs.Lists.{InRow, pushed}
use Rattle.cb_points_to.specs.Looking.{AddsWatch, IsSaid, IsSaidAt, IsSaidOf, IsSolving, Looks, Starts, StartsOne, Watches, WatchesTo}
use Rattle.cb_points_to.specs.Made.{IsSystem}
use Rattle.cb_points_to.specs.Rows.{unset}
use Rattle.cb_points_to.specs.Says.{At, Had, Inside, first_base, second_base}
use Rattle.cb_points_to.specs.Webs.{Grows, IsWeb, Linked, left, member_of}
use Rattle.cb_points_to.specs.declared.inclusion.Inclusion.{Inclusion}
use Rattle.cb_points_to.specs.declared.member.Member.{Member}
use Rattle.cb_points_to.specs.declared.web.Web.{Web}
use Rattle.cb_points_to.proofs.Looked.{first_second, said_still, same_inclusion}
use Rattle.cb_points_to.proofs.Marked.{in_cases, in_kept, in_new, in_nothing, length-pushed}
use Rattle.cb_points_to.proofs.Saying.{closes, says_more}

-- a web without a site
no_mark : (nodes sites node site : ℕ) → has (replicate nodes (replicate sites false)) node site ≡ false
no_mark nodes sites node site = elim (cases_lt node nodes) [
  | inl l ↦ ap (λ row. get_or row site false) (get_or-replicate nodes node (replicate sites false) [] l)
      ∙ elim (cases_lt site sites) [ inl m ↦ get_or-replicate sites site false false m | inr p ↦ get_or_past (replicate sites false) site false (omega (arith, p, length-replicate sites false)) ]
  | inr p ↦ ap (λ row. get_or row site false) (get_or_past (replicate nodes (replicate sites false)) node [] (omega (arith, p, length-replicate nodes (replicate sites false))))
]

module _ (system : System) (web : Web) (rows : web.rows ≡ replicate system.nodes (replicate system.sites false)) (edges : web.edges ≡ replicate system.nodes [])
    (waiting : web.waiting.items ≡ []) (looked : List (List ℕ)) (nothing : looked ≡ replicate system.nodes []) where
  none_had : (node site : ℕ) → Had (has web.rows) node site → ⊥
  none_had node site on = both_ways (has web.rows node site) (ap (λ all. has all node site) rows ∙ no_mark system.nodes system.sites node site) on

  none_linked : (from to : ℕ) (filter : Option ℕ) → Linked web from to filter → ⊥
  none_linked from to filter there = in_nothing system.nodes from (record { to = to; filter = filter }) (subst (λ all. InRow all from (record { to = to; filter = filter })) edges there)

  pub none_looked : (node site : ℕ) → InRow looked node site → ⊥
  none_looked node site there = in_nothing system.nodes node site (subst (λ all. InRow all node site) nothing there)

  none_waits : (node site : ℕ) → Contains web.waiting.items (member_of node site) → ⊥
  none_waits node site there = let none : Contains [] (member_of node site) = subst (λ all. Contains all (member_of node site)) waiting there in let low : none.0 < 0 = none.1 in omega arith

  pub web_made : IsSystem system → IsWeb system looked web
  web_made is = record {
    is_system = is;
    nodes = ap length rows ∙ length-replicate system.nodes (replicate system.sites false);
    each = λ k d within.
        let low : k < system.nodes = omega (arith, within, ap length rows, length-replicate system.nodes (replicate system.sites false)) in
        ap (λ all. length (get_or all k d)) rows ∙ ap length (get_or-replicate system.nodes k (replicate system.sites false) d low) ∙ length-replicate system.sites false;
    edges = ap length edges ∙ length-replicate system.nodes [];
    looked_nodes = ap length nothing ∙ length-replicate system.nodes [];
    sound = λ node site on. absurd (none_had node site on);
    links = λ from to filter there. absurd (none_linked from to filter there);
    looked_had = λ node site there. absurd (none_looked node site there);
    waiting_had = λ node site there. absurd (none_waits node site there);
    followed = λ from to filter site linked there passes. absurd (none_looked from site there);
  }

  -- what comes of it waits
  pub solving_from : (new : Web) → Starts system looked web new → IsSolving system looked new
  solving_from new starts = record {
    web = starts.keeps.web;
    said = starts.said;
    covered = λ node site on. elim (starts.keeps.grows.found node site on) [ inl before ↦ absurd (none_had node site before) | inr waits ↦ inr waits ];
  }

-- inclusions without a base
module _ (system : System) (looked : List (List ℕ)) (nothing : (node site : ℕ) → InRow looked node site → ⊥) where
  pub said_start : (old new : Web) (inclusion : Inclusion) → StartsOne system looked old new inclusion → IsSaidOf system looked new inclusion
  said_start old new inclusion one = at (first_base inclusion) (second_base inclusion) refl refl
    where
      at : (first second : Option ℕ) → first_base inclusion ≡ first → second_base inclusion ≡ second → IsSaidOf system looked new inclusion
      at (Some node) second a b = λ own other in_first in_second. absurd (nothing node own (subst (λ base. At (InRow looked) base own) a in_first))
      at None (Some node) a b = absurd (let e : Some node ≡ None = sym b ∙ first_second inclusion a in cc)
      at None None a b = λ own other in_first in_second.
          let own_zero : At (InRow looked) None own = subst (λ base. At (InRow looked) base own) a in_first in
          let other_zero : At (InRow looked) None other = subst (λ base. At (InRow looked) base other) b in_second in
          subst (λ x. IsSaidAt system new inclusion x other) (sym own_zero) (subst (λ x. IsSaidAt system new inclusion 0 x) (sym other_zero) (one.says a))

pub said_of_still : (system : System) (looked : List (List ℕ)) (old new : Web) (inclusion : Inclusion) → Grows old new → IsSaidOf system looked old inclusion
    → IsSaidOf system looked new inclusion
said_of_still system looked old new inclusion grows said = λ own other first second. said_still system old new grows inclusion own other (said own other first second)

-- a site that waited is taken
module _ (system : System) (looked : List (List ℕ)) (web popped : Web) (member : Member) (rows : popped.rows ≡ web.rows) (edges : popped.edges ≡ web.edges)
    (waiting : web.waiting.items ≡ popped.waiting.items ++ member ∷ []) (solving : IsSolving system looked web) where
  rows_back : (node site : ℕ) → Had (has popped.rows) node site → Had (has web.rows) node site
  rows_back node site on = subst (λ all. Had (has all) node site) rows on

  rows_there : (node site : ℕ) → Had (has web.rows) node site → Had (has popped.rows) node site
  rows_there node site on = subst (λ all. Had (has all) node site) (sym rows) on

  waits_back : (node site : ℕ) → Contains popped.waiting.items (member_of node site) → Contains web.waiting.items (member_of node site)
  waits_back node site there =
      subst (λ all. Contains all (member_of node site)) (sym waiting) (Contains-append_left popped.waiting.items (member ∷ []) (member_of node site) there)

  pub popped_had : Had (has popped.rows) member.node member.site
  popped_had = rows_there member.node member.site (solving.web.waiting_had member.node member.site
      (subst (λ all. Contains all member) (sym waiting) (Contains-push popped.waiting.items member)))

  links_back : (from to : ℕ) (filter : Option ℕ) → Linked popped from to filter → Linked web from to filter
  links_back from to filter there = subst (λ all. InRow all from (record { to = to; filter = filter })) edges there

  links_there : (from to : ℕ) (filter : Option ℕ) → Linked web from to filter → Linked popped from to filter
  links_there from to filter there = subst (λ all. InRow all from (record { to = to; filter = filter })) (sym edges) there

  pub popped_web : IsWeb system looked popped
  popped_web = record {
    is_system = solving.web.is_system;
    nodes = ap length rows ∙ solving.web.nodes;
    each = subst (All (λ row. length row ≡ system.sites)) (sym rows) solving.web.each;
    edges = ap length edges ∙ solving.web.edges;
    looked_nodes = solving.web.looked_nodes;
    sound = λ node site on. solving.web.sound node site (rows_back node site on);
    links = λ from to filter there. solving.web.links from to filter (links_back from to filter there);
    looked_had = λ node site there. rows_there node site (solving.web.looked_had node site there);
    waiting_had = λ node site there. rows_there node site (solving.web.waiting_had node site (waits_back node site there));
    followed = λ from to filter site linked there passes. rows_there to site (solving.web.followed from to filter site (links_back from to filter linked) there passes);
  }

  pub popped_said : IsSaid system looked popped
  popped_said = λ i inclusion is own other first second.
      says_more system (Had (has web.rows)) (Had (has popped.rows)) (Linked web) (Linked popped) rows_there links_there inclusion own other (solving.said i inclusion is own other first second)

  pub popped_left : left popped + 1 ≡ left web
  popped_left = omega (arith, ap unset rows, ap length waiting, length-append popped.waiting.items (member ∷ []))

  -- and looked at
  pub solving_on : (after : List (List ℕ)) (new : Web) → Looks system looked after popped new member.node member.site → IsSolving system after new
  solving_on after new looks = record {
    web = looks.web;
    said = looks.said;
    covered = λ node site on. elim (looks.grows.found node site on) [
      | inr waits ↦ inr waits
      | inl before ↦ elim (solving.covered node site (rows_back node site before)) [
        | inl early ↦ inl (subst (λ all. InRow all node site) (sym looks.is) (in_kept looked member.node member.site node site early))
        | inr waits ↦ elim (Contains-push_cases popped.waiting.items member (member_of node site) (subst (λ all. Contains all (member_of node site)) waiting waits)) [
          | inl still ↦ inr (looks.grows.waits node site still)
          | inr same ↦
              inl (subst (λ (m : Member). InRow after m.node m.site) same
              (subst (λ all. InRow all member.node member.site) (sym looks.is) (in_new looked member.node member.site low)))
        ]
      ]
    ];
  }
    where
      low : member.node < length looked
      low = omega (arith, solving.web.looked_nodes, (solving.web.sound member.node member.site (rows_back member.node member.site popped_had)).node_in)

  pub left_less : (new : Web) → Grows popped new → left new < left web
  left_less new grows = omega (arith, popped_left, grows.amount)

-- at the end all is had, and no more
pub least : (system : System) (looked : List (List ℕ)) (web : Web) → IsSolving system looked web → web.waiting.items ≡ [] → IsLeast system (has web.rows)
least system looked web solving nothing = record {
  closed = record {
    each = λ i inclusion there. closes system (has web.rows) inclusion (λ own other first second.
        says_more system (Had (has web.rows)) (Had (has web.rows)) (Linked web) (Inside system (has web.rows)) (λ node site on. on)
        (λ from to filter linked site on passes. solving.web.followed from to filter site linked (looked_at from site on) passes)
        inclusion own other (solving.said i inclusion there own other (at (first_base inclusion) own first) (at (second_base inclusion) other second)));
  };
  least = λ pts closed node site on. (solving.web.sound node site on).had pts closed;
}
  where
    looked_at : (node site : ℕ) → Had (has web.rows) node site → InRow looked node site
    looked_at node site on = elim (solving.covered node site on) [
      | inl there ↦ there
      | inr waits ↦
          let none : Contains [] (member_of node site) = subst (λ all. Contains all (member_of node site)) nothing waits in
          absurd (let low : none.0 < 0 = none.1 in omega arith)
    ]

    at : (base : Option ℕ) (x : ℕ) → At (Had (has web.rows)) base x → At (InRow looked) base x
    at None x on = on
    at (Some node) x on = looked_at node x on

-- which inclusions watch a node
pub adds_watch : (watching new : List (List ℕ)) (node place : ℕ) → node < length watching → new ≡ pushed watching node place → AddsWatch watching new (Some node) place
adds_watch watching new node place low is = subst (λ all. AddsWatch watching all (Some node) place) (sym is) (record {
  nodes = length-pushed watching node place;
  kept = λ other i there. in_kept watching node place other i there;
  added = λ other e. let f : node ≡ other = cc in subst (λ n. InRow (pushed watching node place) n place) f (in_new watching node place low);
  only = λ other i there. elim (in_cases watching node place low other i there) [ inl before ↦ inl before | inr here ↦ inr here.1 ];
})

pub adds_none : (watching : List (List ℕ)) (place : ℕ) → AddsWatch watching watching None place
adds_none watching place =
    record { nodes = refl; kept = λ node i there. there; added = λ node e. absurd (let f : None ≡ Some node = e in cc); only = λ node i there. inl there }

pub watches_more : (system : System) (old mid new : List (List ℕ)) (place : ℕ) (inclusion : Inclusion) → slice_get system.inclusions place ≡ Some inclusion
    → WatchesTo system old place → AddsWatch old mid (first_base inclusion) place → AddsWatch mid new (second_base inclusion) place → WatchesTo system new (place + 1)
watches_more system old mid new place inclusion is before first second = record {
  nodes = second.nodes ∙ first.nodes ∙ before.nodes;
  there = λ node i there. elim (second.only node i there) [
    | inr here ↦ omega (arith, here)
    | inl early ↦ elim (first.only node i early) [ inr here ↦ omega (arith, here) | inl earlier ↦ omega (arith, before.there node i earlier) ]
  ];
  first = λ i node other low at base. elim (cases_lt i place) [
    | inl l ↦ second.kept node i (first.kept node i (before.first i node other l at base))
    | inr p ↦
        let e : i ≡ place = omega arith in
        let same : first_base inclusion ≡ Some node = ap first_base (one i other e at) ∙ base in
        subst (λ k. InRow new node k) (sym e) (second.kept node place (first.added node same))
  ];
  second = λ i node other low at base. elim (cases_lt i place) [
    | inl l ↦ second.kept node i (first.kept node i (before.second i node other l at base))
    | inr p ↦
        let e : i ≡ place = omega arith in
        let same : second_base inclusion ≡ Some node = ap second_base (one i other e at) ∙ base in
        subst (λ k. InRow new node k) (sym e) (second.added node same)
  ];
}
  where
    one : (i : ℕ) (other : Inclusion) → i ≡ place → slice_get system.inclusions i ≡ Some other → inclusion ≡ other
    one i other e at = same_inclusion inclusion other (sym is ∙ subst (λ k. slice_get system.inclusions k ≡ Some other) e at)

pub watches_all : (system : System) (watching : List (List ℕ)) (count : ℕ) → WatchesTo system watching count → count ≡ length system.inclusions → Watches system watching
watches_all system watching count to all = record {
  nodes = to.nodes;
  there = λ node i there. omega (arith, to.there node i there, all);
  first = λ i node inclusion is base. to.first i node inclusion (let low : i < length system.inclusions = slice_get_within system.inclusions i inclusion is in omega (arith, low, all)) is base;
  second = λ i node inclusion is base. to.second i node inclusion (let low : i < length system.inclusions = slice_get_within system.inclusions i inclusion is in omega (arith, low, all)) is base;
}
