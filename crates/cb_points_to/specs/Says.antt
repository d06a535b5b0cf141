-- What an inclusion says of one site of each of its bases, as facts and edges.
use Rattle.std.specs.Prelude.{◌≡◌, ◌<◌, ℕ, Bool, true, List, Option, Some, None, IfSome, slice_get, length}
use Rattle.cb_points_to.specs.declared.inclusion.Inclusion.{Inclusion}
use Rattle.cb_points_to.specs.declared.inclusion.Inclusion.TheVariants.{Between, Call, Copy, Has, HasEach, Load, Store, Through}
use Rattle.cb_points_to.specs.declared.tables.Callee.{Callee}
use Rattle.cb_points_to.specs.Closed.{IsClosed}
use Rattle.cb_points_to.specs.Inclusions.{Relation, System, callee_in, passes, slot_in}

-- the nodes by whose sites an inclusion is looked at
abbrev pub first_base : Inclusion → Option ℕ
first_base (Has node site) = None
first_base (HasEach base slots site) = Some base
first_base (Copy from to) = None
first_base (Through from to filter) = None
first_base (Load base slots to) = Some base
first_base (Store from base slots) = Some base
first_base (Between source target slots) = Some source
first_base (Call receiver calls arguments result) = Some receiver

abbrev pub second_base : Inclusion → Option ℕ
second_base (Has node site) = None
second_base (HasEach base slots site) = None
second_base (Copy from to) = None
second_base (Through from to filter) = None
second_base (Load base slots to) = None
second_base (Store from base slots) = None
second_base (Between source target slots) = Some target
second_base (Call receiver calls arguments result) = None

-- a site of a base; 0 where there is none
abbrev pub At : (ℕ → ℕ → Type 0) → Option ℕ → ℕ → Type 0
At Fact None site = site ≡ 0
At Fact (Some node) site = Fact node site

-- whether a site passes along an edge, that has a filter or none
abbrev pub lets : System → Option ℕ → ℕ → Bool
lets system None site = true
lets system (Some filter) site = passes system filter site

-- a receiver of a site enters its callee
pub record Enters (Fact : ℕ → ℕ → Type 0) (Edge : ℕ → ℕ → Option ℕ → Type 0) (own : ℕ) (arguments : List ℕ) (result : Option ℕ) (callee : Callee) : Type 0 where
  pub receiver : Fact callee.receiver own
  pub arguments_in : (i from to : ℕ) → slice_get arguments i ≡ Some from → slice_get callee.arguments i ≡ Some to → Edge from to None
  pub result_out : (from to : ℕ) → callee.result ≡ Some from → result ≡ Some to → Edge from to None

-- what an inclusion says of a site of its first base and one of its second
abbrev pub Says : System → (ℕ → ℕ → Type 0) → (ℕ → ℕ → Option ℕ → Type 0) → Inclusion → ℕ → ℕ → Type 0
Says system Fact Edge (Has node site) own other = Fact node site
Says system Fact Edge (HasEach base slots site) own other = (slot : ℕ) → slot_in system slots own ≡ Some slot → Fact slot site
Says system Fact Edge (Copy from to) own other = Edge from to None
Says system Fact Edge (Through from to filter) own other = Edge from to (Some filter)
Says system Fact Edge (Load base slots to) own other = (slot : ℕ) → slot_in system slots own ≡ Some slot → Edge slot to None
Says system Fact Edge (Store from base slots) own other = (slot : ℕ) → slot_in system slots own ≡ Some slot → Edge from slot None
Says system Fact Edge (Between source target slots) own other =
    (slot behind : ℕ) → slot_in system slots own ≡ Some slot → slot_in system slots other ≡ Some behind → Edge slot behind None
Says system Fact Edge (Call receiver calls arguments result) own other =
    (callee : Callee) → callee_in system calls own ≡ Some callee → Enters Fact Edge own arguments result callee

-- of a relation: what is had, and all that passes from one node is in the other
abbrev pub Had : Relation → ℕ → ℕ → Type 0
Had pts node site = pts node site ≡ true

abbrev pub Inside : System → Relation → ℕ → ℕ → Option ℕ → Type 0
Inside system pts from to filter = (site : ℕ) → pts from site ≡ true → lets system filter site ≡ true → pts to site ≡ true

-- of every closed relation
pub record MustHave (system : System) (node site : ℕ) : Type 0 where
  pub node_in : node < system.nodes
  pub site_in : site < system.sites
  pub had : (pts : Relation) → IsClosed system pts → Had pts node site

pub record MustLink (system : System) (from to : ℕ) (filter : Option ℕ) : Type 0 where
  pub from_in : from < system.nodes
  pub to_in : to < system.nodes
  pub filter_in : IfSome filter (λ place. place < length system.filters)
  pub inside : (pts : Relation) → IsClosed system pts → Inside system pts from to filter
