-- A relation that grows keeps what holds of it.
use Rattle.std.proofs.Common.{◌≡◌, ◌∙◌, sym, ap, refl, subst, inl, inr, arith, ℕ, ◌<◌, ◌⊎◌, true, List, [], ◌∷◌, ◌++◌, length, get_or, Option, length-append}
use Rattle.std.specs.List.{All, Contains}
use Rattle.std.proofs.lemmas.List.Elements.{Contains-append_left, Contains-push, Contains-push_cases}
use Rattle.cb_points_to.specs.Closed.{has}
use Rattle.cb_points_to.specs.Inclusions.{System}
use Rattle.cb_points_to.specs.Lists.{InRow, pushed}
use Rattle.cb_points_to.specs.Rows.{unset}
use Rattle.cb_points_to.specs.Says.{Had, MustHave, MustLink, lets}
use Rattle.cb_points_to.specs.Webs.{Adds, Followed, Follows, Grows, IsAdded, IsWeb, Keeps, Linked, Linking, left, member_of}
use Rattle.cb_points_to.specs.declared.member.Edge.{Edge}
use Rattle.cb_points_to.specs.declared.member.Member.{Member}
use Rattle.cb_points_to.specs.declared.web.Web.{Web}
use Rattle.cb_points_to.proofs.Marked.{each_kept, has_cases, has_kept, has_new, in_cases, in_kept, in_new, length-pushed, length-with_site, unset_less}

pub grows_itself : (web : Web) → Grows web web
grows_itself web = record { had = λ node site on. on; linked = λ from to filter there. there; waits = λ node site there. there; found = λ node site on. inl on; amount = refl }

pub grows_on : (a b c : Web) → Grows a b → Grows b c → Grows a c
grows_on a b c first second = record {
  had = λ node site on. second.had node site (first.had node site on);
  linked = λ from to filter there. second.linked from to filter (first.linked from to filter there);
  waits = λ node site there. second.waits node site (first.waits node site there);
  found = λ node site on. elim (second.found node site on) [
    | inl before ↦ elim (first.found node site before) [ inl early ↦ inl early | inr waiting ↦ inr (second.waits node site waiting) ]
    | inr waiting ↦ inr waiting
  ];
  amount = second.amount ∙ first.amount;
}

module _ (system : System) (looked : List (List ℕ)) where
  pub keeps_itself : (web : Web) → IsWeb system looked web → Keeps system looked web web
  keeps_itself web is = record { web = is; grows = grows_itself web }

  pub keeps_on : (a b c : Web) → Keeps system looked a b → Keeps system looked b c → Keeps system looked a c
  keeps_on a b c first second = record { web = second.web; grows = grows_on a b c first.grows second.grows }

-- a new site
module _ (system : System) (looked : List (List ℕ)) (old new : Web) (node site : ℕ) (is : IsWeb system looked old) (must : MustHave system node site)
    (added : IsAdded old node site new) where
  in_rows : node < length old.rows
  in_rows = omega (arith, is.nodes, must.node_in)

  in_row : site < length (get_or old.rows node [])
  in_row = omega (arith, is.each node [] in_rows, must.site_in)

  had_new : Had (has new.rows) node site
  had_new = ap (λ rows. has rows node site) added.rows ∙ has_new old.rows node site in_rows in_row

  had_kept : (other at : ℕ) → Had (has old.rows) other at → Had (has new.rows) other at
  had_kept other at on = ap (λ rows. has rows other at) added.rows ∙ has_kept old.rows node site in_rows in_row other at on

  had_cases : (other at : ℕ) → Had (has new.rows) other at → Had (has old.rows) other at ⊎ ((other ≡ node) × (at ≡ site))
  had_cases other at on = has_cases old.rows node site in_rows in_row other at (sym (ap (λ rows. has rows other at) added.rows) ∙ on)

  had_same : (other at : ℕ) → member_of node site ≡ member_of other at → Had (has new.rows) other at
  had_same other at same = subst (λ (m : Member). Had (has new.rows) m.node m.site) same had_new

  must_same : (other at : ℕ) → (other ≡ node) × (at ≡ site) → MustHave system other at
  must_same other at same = subst (λ n. MustHave system n at) (sym same.0) (subst (λ s. MustHave system node s) (sym same.1) must)

  linked_before : (from to : ℕ) (filter : Option ℕ) → Linked new from to filter → Linked old from to filter
  linked_before from to filter there = subst (λ edges. InRow edges from (record { to = to; filter = filter })) added.edges there

  waiting_before : (other at : ℕ) → Contains new.waiting.items (member_of other at) → Contains (old.waiting.items ++ member_of node site ∷ []) (member_of other at)
  waiting_before other at there = subst (λ items. Contains items (member_of other at)) added.waiting there

  waits_kept : (other at : ℕ) → Contains old.waiting.items (member_of other at) → Contains new.waiting.items (member_of other at)
  waits_kept other at there =
      subst (λ items. Contains items (member_of other at)) (sym added.waiting) (Contains-append_left old.waiting.items (member_of node site ∷ []) (member_of other at) there)

  waits_new : (other at : ℕ) → (other ≡ node) × (at ≡ site) → Contains new.waiting.items (member_of other at)
  waits_new other at same =
      subst (λ n. Contains new.waiting.items (member_of n at)) (sym same.0)
      (subst (λ s. Contains new.waiting.items (member_of node s)) (sym same.1)
      (subst (λ items. Contains items (member_of node site)) (sym added.waiting) (Contains-push old.waiting.items (member_of node site))))

  web_added : IsWeb system looked new
  web_added = record {
    is_system = is.is_system;
    nodes = ap length added.rows ∙ length-with_site old.rows node site ∙ is.nodes;
    each = subst (All (λ row. length row ≡ system.sites)) (sym added.rows) (each_kept old.rows node site system.sites is.each);
    edges = ap length added.edges ∙ is.edges;
    looked_nodes = is.looked_nodes;
    sound = λ other at on. elim (had_cases other at on) [ inl before ↦ is.sound other at before | inr same ↦ must_same other at same ];
    links = λ from to filter there. is.links from to filter (linked_before from to filter there);
    looked_had = λ other at there. had_kept other at (is.looked_had other at there);
    waiting_had = λ other at there. elim (Contains-push_cases old.waiting.items (member_of node site) (member_of other at) (waiting_before other at there)) [
      | inl before ↦ had_kept other at (is.waiting_had other at before)
      | inr same ↦ had_same other at same
    ];
    followed = λ from to filter at there in_looked passes. had_kept to at (is.followed from to filter at (linked_before from to filter there) in_looked passes);
  }

  grows_added : Grows old new
  grows_added = record {
    had = had_kept;
    linked = λ from to filter there. subst (λ edges. InRow edges from (record { to = to; filter = filter })) (sym added.edges) there;
    waits = waits_kept;
    found = λ other at on. elim (had_cases other at on) [ inl before ↦ inl before | inr same ↦ inr (waits_new other at same) ];
    amount = amount;
  }
    where
      amount : left new ≡ left old
      amount = omega (arith, ap unset added.rows, unset_less old.rows node site in_rows in_row added.absent, ap length added.waiting, length-append old.waiting.items (member_of node site ∷ []))

pub adds_keeps : (system : System) (looked : List (List ℕ)) (old new : Web) (node site : ℕ) → IsWeb system looked old → MustHave system node site → Adds old node site new
    → Keeps system looked old new × (new.edges ≡ old.edges) × Had (has new.rows) node site
adds_keeps system looked old new node site is must (inl same) =
    subst (λ (web : Web). Keeps system looked old web × (web.edges ≡ old.edges) × Had (has web.rows) node site) (sym same.1) (keeps_itself system looked old is, refl, same.0)
adds_keeps system looked old new node site is must (inr added) =
    (record { web = web_added system looked old new node site is must added; grows = grows_added system looked old new node site is must added }, added.edges, had_new system looked old new node site is must added)

pub followed_by : (system : System) (looked : List (List ℕ)) (old new : Web) (from to : ℕ) (filter : Option ℕ) (site : ℕ) → Follows system looked old from to filter site
    → lets system filter site ≡ true → Adds old to site new → Followed system looked old new to filter site
followed_by system looked old new from to filter site given passes adds =
    let must : MustHave system to site = record {
      node_in = given.link.to_in;
      site_in = given.member.site_in;
      had = λ pts closed. given.link.inside pts closed site (given.member.had pts closed) passes;
    } in
    let done = adds_keeps system looked old new to site given.web must adds in
    record { keeps = done.0; edges = done.1; passed = λ _. done.2 }

-- a new edge
module _ (system : System) (looked : List (List ℕ)) (old : Web) (from to : ℕ) (filter : Option ℕ) (is : IsWeb system looked old) (link : MustLink system from to filter)
    (gone : (site : ℕ) → InRow looked from site → lets system filter site ≡ true → Had (has old.rows) to site) (edges : List (List Edge))
    (more : edges ≡ pushed old.edges from (record { to = to; filter = filter })) where
  low : from < length old.edges
  low = omega (arith, is.edges, link.from_in)

  link_cases : (a b : ℕ) (f : Option ℕ) → InRow edges a (record { to = b; filter = f }) → Linked old a b f ⊎ ((a ≡ from) × (◌≡◌ {A = Edge} (record { to = b; filter = f }) (record { to = to; filter = filter })))
  link_cases a b f there = in_cases old.edges from (record { to = to; filter = filter }) low a (record { to = b; filter = f }) (subst (λ all. InRow all a (record { to = b; filter = f })) more there)

  pub links_more : Linking system looked old (record old { edges = edges }) from to filter
  links_more = record {
    keeps = record {
      web = record {
        is_system = is.is_system;
        nodes = is.nodes;
        each = is.each;
        edges = ap length more ∙ length-pushed old.edges from (record { to = to; filter = filter }) ∙ is.edges;
        looked_nodes = is.looked_nodes;
        sound = is.sound;
        links = λ a b f there. elim (link_cases a b f there) [
          | inl before ↦ is.links a b f before
          | inr new ↦ subst (λ n. MustLink system n b f) (sym new.0) (subst (λ (e : Edge). MustLink system from e.to e.filter) (sym new.1) link)
        ];
        looked_had = is.looked_had;
        waiting_had = is.waiting_had;
        followed = λ a b f site there in_looked passes. elim (link_cases a b f there) [
          | inl before ↦ is.followed a b f site before in_looked passes
          | inr new ↦
              let here : InRow looked from site = subst (λ n. InRow looked n site) new.0 in_looked in
              let allowed : lets system filter site ≡ true = subst (λ (e : Edge). lets system e.filter site ≡ true) new.1 passes in
              subst (λ (e : Edge). Had (has old.rows) e.to site) (sym new.1) (gone site here allowed)
        ];
      };
      grows = record {
        had = λ node site on. on;
        linked = λ a b f there. subst (λ all. InRow all a (record { to = b; filter = f })) (sym more) (in_kept old.edges from (record { to = to; filter = filter }) a (record { to = b; filter = f }) there);
        waits = λ node site there. there;
        found = λ node site on. inl on;
        amount = refl;
      };
    };
    linked = subst (λ all. InRow all from (record { to = to; filter = filter })) (sym more) (in_new old.edges from (record { to = to; filter = filter }) low);
  }
