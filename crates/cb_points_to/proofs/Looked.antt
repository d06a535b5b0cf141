-- Sites that are looked at.
use Rattle.std.proofs.Common.{◌≡◌, ◌∙◌, sym, ap, refl, subst, inl, inr, arith, ℕ, ◌<◌, ◌⊎◌, List, length, Option, Some, None, true}
use Rattle.cb_points_to.specs.Closed.{has}
use Rattle.cb_points_to.specs.Inclusions.{System}
use Rattle.cb_points_to.specs.Lists.{InRow, pushed}
use Rattle.cb_points_to.specs.Looking.{IsOf, IsSaid, IsSaidAt, IsSaidFirst, IsSaidNew, IsSaidOf, Looks, LooksAll}
use Rattle.cb_points_to.specs.Made.{IsInclusion}
use Rattle.cb_points_to.specs.Says.{At, Had, MustHave, MustLink, Says, first_base, lets, second_base}
use Rattle.cb_points_to.specs.Webs.{FollowedAll, Grows, IsWeb, Linked}
use Rattle.cb_points_to.specs.declared.inclusion.Inclusion.{Inclusion}
use Rattle.cb_points_to.specs.declared.inclusion.Inclusion.TheVariants.{Between, Call, Copy, Has, HasEach, Load, Store, Through}
use Rattle.cb_points_to.specs.declared.web.Web.{Web}
use Rattle.cb_points_to.proofs.Growing.{grows_on}
use Rattle.cb_points_to.proofs.Marked.{in_cases, length-pushed}
use Rattle.cb_points_to.proofs.Saying.{must, named, says_more}

-- the bases of an inclusion
pub second_first : (inclusion : Inclusion) (node : ℕ) → second_base inclusion ≡ Some node → first_base inclusion ≡ None → ⊥
second_first (Has at site) node second first = cc
second_first (HasEach base slots site) node second first = cc
second_first (Copy from to) node second first = cc
second_first (Through from to filter) node second first = cc
second_first (Load base slots to) node second first = cc
second_first (Store from base slots) node second first = cc
second_first (Between source target slots) node second first = cc
second_first (Call receiver calls arguments result) node second first = cc

pub first_second : (inclusion : Inclusion) → first_base inclusion ≡ None → second_base inclusion ≡ None
first_second (Has at site) first = refl
first_second (HasEach base slots site) first = refl
first_second (Copy from to) first = refl
first_second (Through from to filter) first = refl
first_second (Load base slots to) first = refl
first_second (Store from base slots) first = refl
first_second (Between source target slots) first = absurd (let e : Some source ≡ None = first in cc)
first_second (Call receiver calls arguments result) first = refl

bases_low : (system : System) (inclusion : Inclusion) → IsInclusion system inclusion → (node : ℕ) → (first_base inclusion ≡ Some node) ⊎ (second_base inclusion ≡ Some node)
    → node < system.nodes
bases_low system (Has at site) fine node base = elim base [ inl e ↦ absurd (cc) | inr e ↦ absurd (cc) ]
bases_low system (HasEach base slots site) fine node is = elim is [ inl e ↦ low fine.0 e | inr e ↦ absurd (cc) ]
  where
    low : base < system.nodes → Some base ≡ Some node → node < system.nodes
    low h e = let f : base ≡ node = cc in omega (arith, h, f)
bases_low system (Copy from to) fine node base = elim base [ inl e ↦ absurd (cc) | inr e ↦ absurd (cc) ]
bases_low system (Through from to filter) fine node base = elim base [ inl e ↦ absurd (cc) | inr e ↦ absurd (cc) ]
bases_low system (Load base slots to) fine node is = elim is [ inl e ↦ low fine.0 e | inr e ↦ absurd (cc) ]
  where
    low : base < system.nodes → Some base ≡ Some node → node < system.nodes
    low h e = let f : base ≡ node = cc in omega (arith, h, f)
bases_low system (Store from base slots) fine node is = elim is [ inl e ↦ low fine.1 e | inr e ↦ absurd (cc) ]
  where
    low : base < system.nodes → Some base ≡ Some node → node < system.nodes
    low h e = let f : base ≡ node = cc in omega (arith, h, f)
bases_low system (Between source target slots) fine node is = elim is [ inl e ↦ low source fine.0 e | inr e ↦ low target fine.1 e ]
  where
    low : (base : ℕ) → base < system.nodes → Some base ≡ Some node → node < system.nodes
    low base h e = let f : base ≡ node = cc in omega (arith, h, f)
bases_low system (Call receiver calls arguments result) fine node is = elim is [ inl e ↦ low fine.0 e | inr e ↦ absurd (cc) ]
  where
    low : receiver < system.nodes → Some receiver ≡ Some node → node < system.nodes
    low h e = let f : receiver ≡ node = cc in omega (arith, h, f)

-- what an inclusion says of sites that are had every closed relation has
module _ (system : System) (looked : List (List ℕ)) (web : Web) (is : IsWeb system looked web) (inclusion : Inclusion) (among : IsOf system inclusion) where
  pub fine : IsInclusion system inclusion
  fine = named system is.is_system among.0 inclusion among.1

  pub first_low : (node : ℕ) → first_base inclusion ≡ Some node → node < system.nodes
  first_low node base = bases_low system inclusion fine node (inl base)

  pub second_low : (node : ℕ) → second_base inclusion ≡ Some node → node < system.nodes
  second_low node base = bases_low system inclusion fine node (inr base)

  pub must_of : (first second : Option ℕ) (own other : ℕ) → first_base inclusion ≡ first → second_base inclusion ≡ second → At (Had (has web.rows)) first own
      → At (Had (has web.rows)) second other → Says system (MustHave system) (MustLink system) inclusion own other
  must_of first second own other a b on at =
      must system is.is_system among.0 own other inclusion among.1 fine (subst (λ base. At (MustHave system) base own) (sym a) (had_must first own on))
      (subst (λ base. At (MustHave system) base other) (sym b) (had_must second other at))
    where
      had_must : (base : Option ℕ) (site : ℕ) → At (Had (has web.rows)) base site → At (MustHave system) base site
      had_must None site on = on
      had_must (Some node) site on = is.sound node site on

-- what was said is said still
module _ (system : System) (old new : Web) (grows : Grows old new) (inclusion : Inclusion) where
  pub said_still : (own other : ℕ) → IsSaidAt system old inclusion own other → IsSaidAt system new inclusion own other
  said_still own other said = says_more system (Had (has old.rows)) (Had (has new.rows)) (Linked old) (Linked new) grows.had grows.linked inclusion own other said

  pub new_still : (looked : List (List ℕ)) (node site : ℕ) → IsSaidNew system looked old inclusion node site → IsSaidNew system looked new inclusion node site
  new_still looked node site said = record {
    first = λ base other at. said_still site other (said.first base other at);
    second = λ base own at. said_still own site (said.second base own at);
  }

-- with the site that was looked at
module _ (system : System) (looked : List (List ℕ)) (web : Web) (inclusion : Inclusion) (node site : ℕ) (low : node < length looked) where
  at_cases : (base : Option ℕ) (x : ℕ) → At (InRow (pushed looked node site)) base x → At (InRow looked) base x ⊎ ((base ≡ Some node) × (x ≡ site))
  at_cases None x at = inl at
  at_cases (Some other) x at = elim (in_cases looked node site low other x at) [ inl before ↦ inl before | inr new ↦ inr (ap Some new.0, new.1) ]

  pub said_of : IsSaidOf system looked web inclusion → IsSaidNew system looked web inclusion node site → IsSaidOf system (pushed looked node site) web inclusion
  said_of before new = λ own other first second. elim (at_cases (first_base inclusion) own first) [
    | inr here ↦ subst (λ x. IsSaidAt system web inclusion x other) (sym here.1) (new.first here.0 other second)
    | inl own_before ↦ elim (at_cases (second_base inclusion) other second) [
      | inr here ↦ subst (λ x. IsSaidAt system web inclusion own x) (sym here.1) (new.second here.0 own own_before)
      | inl other_before ↦ before own other own_before other_before
    ]
  ]

  -- by all targets that were looked at, and itself
  pub said_first : (target : ℕ) → second_base inclusion ≡ Some target → ((other : ℕ) → InRow looked target other → IsSaidAt system web inclusion site other)
      → (target ≡ node → IsSaidAt system web inclusion site site) → IsSaidFirst system looked web inclusion node site
  said_first target second all itself = λ base other at.
      elim (in_cases looked node site low target other (subst (λ b. At (InRow (pushed looked node site)) b other) second at)) [
        | inl before ↦ all other before
        | inr here ↦ subst (λ x. IsSaidAt system web inclusion site x) (sym here.1) (itself here.0)
      ]

  pub said_alone : second_base inclusion ≡ None → IsSaidAt system web inclusion site 0 → IsSaidFirst system looked web inclusion node site
  said_alone second said = λ base other at.
      let zero_is : At (InRow (pushed looked node site)) None other = subst (λ b. At (InRow (pushed looked node site)) b other) second at in
      subst (λ x. IsSaidAt system web inclusion site x) (sym zero_is) said

-- a site that was looked at for all inclusions, and went along all edges
pub looks_done : (system : System) (looked after : List (List ℕ)) (old mid new : Web) (node site : ℕ) → Had (has old.rows) node site → IsSaid system looked old
    → LooksAll system looked old mid node site → FollowedAll system looked mid new node site → after ≡ pushed looked node site → Looks system looked after old new node site
looks_done system looked after old mid new node site had said all followed is = record {
  is = is;
  web = subst (λ now. IsWeb system now new) (sym is) web_more;
  said = subst (λ now. IsSaid system now new) (sym is) (λ i inclusion there. said_of system looked new inclusion node site low
      (λ own other first second. still inclusion own other (said i inclusion there own other first second))
      (new_still system mid new followed.keeps.grows inclusion looked node site (all.says i inclusion there)));
  grows = grows_on old mid new all.keeps.grows followed.keeps.grows;
}
  where
    is_web : IsWeb system looked new
    is_web = followed.keeps.web

    had_now : Had (has new.rows) node site
    had_now = followed.keeps.grows.had node site (all.keeps.grows.had node site had)

    low : node < length looked
    low = omega (arith, is_web.looked_nodes, (is_web.sound node site had_now).node_in)

    still : (inclusion : Inclusion) (own other : ℕ) → IsSaidAt system old inclusion own other → IsSaidAt system new inclusion own other
    still inclusion own other before = said_still system mid new followed.keeps.grows inclusion own other (said_still system old mid all.keeps.grows inclusion own other before)

    web_more : IsWeb system (pushed looked node site) new
    web_more = record {
      is_system = is_web.is_system;
      nodes = is_web.nodes;
      each = is_web.each;
      edges = is_web.edges;
      looked_nodes = length-pushed looked node site ∙ is_web.looked_nodes;
      sound = is_web.sound;
      links = is_web.links;
      looked_had = λ other at there. elim (in_cases looked node site low other at there) [
        | inl before ↦ is_web.looked_had other at before
        | inr here ↦ subst (λ n. Had (has new.rows) n at) (sym here.0) (subst (λ s. Had (has new.rows) node s) (sym here.1) had_now)
      ];
      waiting_had = is_web.waiting_had;
      followed = λ from to filter at linked there passes. elim (in_cases looked node site low from at there) [
        | inl before ↦ is_web.followed from to filter at linked before passes
        | inr here ↦
            subst (λ s. Had (has new.rows) to s) (sym here.1)
            (followed.passed to filter (subst (λ n. Linked new n to filter) here.0 linked) (subst (λ s. lets system filter s ≡ true) here.1 passes))
      ];
    }

pub same_inclusion : (a b : Inclusion) → ◌≡◌ {A = Option Inclusion} (Some a) (Some b) → a ≡ b
same_inclusion a b e = cc
