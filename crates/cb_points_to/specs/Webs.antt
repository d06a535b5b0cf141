-- A relation that grows, and what is still to be looked at.
use Rattle.std.specs.Prelude.{◌≡◌, ◌+◌, ◌<◌, ◌++◌, ◌∷◌, ◌⊎◌, ℕ, true, false, List, [], Option, None, Some, slice_get, length}
use Rattle.std.specs.List.{All, Contains}
use Rattle.cb_points_to.specs.Closed.{has}
use Rattle.cb_points_to.specs.Inclusions.{System}
use Rattle.cb_points_to.specs.Lists.{InRow}
use Rattle.cb_points_to.specs.Made.{IsSystem}
use Rattle.cb_points_to.specs.Rows.{unset, with_site}
use Rattle.cb_points_to.specs.Says.{Enters, Had, MustHave, MustLink, Says, lets}
use Rattle.cb_points_to.specs.declared.inclusion.Inclusion.{Inclusion}
use Rattle.cb_points_to.specs.declared.member.Member.{Member}
use Rattle.cb_points_to.specs.declared.tables.Callee.{Callee}
use Rattle.cb_points_to.specs.declared.web.Web.{Web}

-- what there is still to do
abbrev pub left : Web → ℕ
left web = unset web.rows + length web.waiting.items

abbrev pub member_of : ℕ → ℕ → Member
member_of node site = record { node = node; site = site }

abbrev pub Linked : Web → ℕ → ℕ → Option ℕ → Type 0
Linked web from to filter = InRow web.edges from (record { to = to; filter = filter })

-- all that a relation has every closed relation has, all its edges hold in each, and the sites that were looked at have gone along the edges
pub record IsWeb (system : System) (looked : List (List ℕ)) (web : Web) : Type 0 where
  pub is_system : IsSystem system
  pub nodes : length web.rows ≡ system.nodes
  pub each : All (λ row. length row ≡ system.sites) web.rows
  pub edges : length web.edges ≡ system.nodes
  pub looked_nodes : length looked ≡ system.nodes
  pub sound : (node site : ℕ) → Had (has web.rows) node site → MustHave system node site
  pub links : (from to : ℕ) → (filter : Option ℕ) → Linked web from to filter → MustLink system from to filter
  pub looked_had : (node site : ℕ) → InRow looked node site → Had (has web.rows) node site
  pub waiting_had : (node site : ℕ) → Contains web.waiting.items (member_of node site) → Had (has web.rows) node site
  pub followed : (from to : ℕ) → (filter : Option ℕ) → (site : ℕ) → Linked web from to filter → InRow looked from site → lets system filter site ≡ true
      → Had (has web.rows) to site

-- nothing is lost, what comes waits, and no more is left to do
pub record Grows (old new : Web) : Type 0 where
  pub had : (node site : ℕ) → Had (has old.rows) node site → Had (has new.rows) node site
  pub linked : (from to : ℕ) → (filter : Option ℕ) → Linked old from to filter → Linked new from to filter
  pub waits : (node site : ℕ) → Contains old.waiting.items (member_of node site) → Contains new.waiting.items (member_of node site)
  pub found : (node site : ℕ) → Had (has new.rows) node site → Had (has old.rows) node site ⊎ Contains new.waiting.items (member_of node site)
  pub amount : left new ≡ left old

pub record Keeps (system : System) (looked : List (List ℕ)) (old new : Web) : Type 0 where
  pub web : IsWeb system looked new
  pub grows : Grows old new

-- one site more, if it is new
pub record IsAdded (old : Web) (node site : ℕ) (new : Web) : Type 0 where
  pub absent : has old.rows node site ≡ false
  pub rows : new.rows ≡ with_site old.rows node site
  pub edges : new.edges ≡ old.edges
  pub waiting : new.waiting.items ≡ old.waiting.items ++ member_of node site ∷ []

abbrev pub Adds : Web → ℕ → ℕ → Web → Type 0
Adds old node site new = ((has old.rows node site ≡ true) × (new ≡ old)) ⊎ IsAdded old node site new

-- a site goes along an edge, if it passes
pub record Follows (system : System) (looked : List (List ℕ)) (now : Web) (from to : ℕ) (filter : Option ℕ) (site : ℕ) : Type 0 where
  pub web : IsWeb system looked now
  pub link : MustLink system from to filter
  pub member : MustHave system from site

pub record Followed (system : System) (looked : List (List ℕ)) (old new : Web) (to : ℕ) (filter : Option ℕ) (site : ℕ) : Type 0 where
  pub keeps : Keeps system looked old new
  pub edges : new.edges ≡ old.edges
  pub passed : lets system filter site ≡ true → Had (has new.rows) to site

pub record FollowedAll (system : System) (looked : List (List ℕ)) (old new : Web) (node site : ℕ) : Type 0 where
  pub keeps : Keeps system looked old new
  pub edges : new.edges ≡ old.edges
  pub passed : (to : ℕ) → (filter : Option ℕ) → Linked new node to filter → lets system filter site ≡ true → Had (has new.rows) to site

-- an edge more
pub record Linking (system : System) (looked : List (List ℕ)) (old new : Web) (from to : ℕ) (filter : Option ℕ) : Type 0 where
  pub keeps : Keeps system looked old new
  pub linked : Linked new from to filter

-- what parts of an inclusion say is had
pub record Holding (system : System) (looked : List (List ℕ)) (old new : Web) (node : Option ℕ) (site : ℕ) : Type 0 where
  pub keeps : Keeps system looked old new
  pub had : (at : ℕ) → node ≡ Some at → Had (has new.rows) at site

pub record Joining (system : System) (looked : List (List ℕ)) (old new : Web) (from to : Option ℕ) : Type 0 where
  pub keeps : Keeps system looked old new
  pub linked : (a b : ℕ) → from ≡ Some a → to ≡ Some b → Linked new a b None

-- so many arguments
pub record Passing (system : System) (looked : List (List ℕ)) (old new : Web) (given taken : List ℕ) (count : ℕ) : Type 0 where
  pub keeps : Keeps system looked old new
  pub linked : (i from to : ℕ) → i < count → slice_get given i ≡ Some from → slice_get taken i ≡ Some to → Linked new from to None

pub record Entering (system : System) (looked : List (List ℕ)) (old new : Web) (own : ℕ) (arguments : List ℕ) (outcome : Option ℕ) (callee : Callee) : Type 0 where
  pub keeps : Keeps system looked old new
  pub enters : Enters (Had (has new.rows)) (Linked new) own arguments outcome callee

-- what an inclusion says of a site of each of its bases
pub record Expands (system : System) (looked : List (List ℕ)) (old new : Web) (inclusion : Inclusion) (own other : ℕ) : Type 0 where
  pub keeps : Keeps system looked old new
  pub says : Says system (Had (has new.rows)) (Linked new) inclusion own other
