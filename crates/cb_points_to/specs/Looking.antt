-- What inclusions say of the sites that were looked at is had.
use Rattle.std.specs.Prelude.{◌≡◌, ◌<◌, ◌⊎◌, ℕ, List, [], Option, None, Some, slice_get, length}
use Rattle.std.specs.List.{Contains}
use Rattle.cb_points_to.specs.Closed.{has}
use Rattle.cb_points_to.specs.Inclusions.{System}
use Rattle.cb_points_to.specs.Lists.{InRow, pushed}
use Rattle.cb_points_to.specs.Says.{At, Had, Says, first_base, second_base}
use Rattle.cb_points_to.specs.Webs.{Grows, IsWeb, Keeps, Linked, member_of}
use Rattle.cb_points_to.specs.declared.inclusion.Inclusion.{Inclusion}
use Rattle.cb_points_to.specs.declared.web.Web.{Web}

-- an inclusion is one of them
abbrev pub IsOf : System → Inclusion → Type 0
IsOf system inclusion = (i : ℕ) × (slice_get system.inclusions i ≡ Some inclusion)

-- what it says of a site of each of its bases is had
abbrev pub IsSaidAt : System → Web → Inclusion → ℕ → ℕ → Type 0
IsSaidAt system web inclusion own other = Says system (Had (has web.rows)) (Linked web) inclusion own other

-- of all sites that were looked at
abbrev pub IsSaidOf : System → List (List ℕ) → Web → Inclusion → Type 0
IsSaidOf system looked web inclusion =
    (own other : ℕ) → At (InRow looked) (first_base inclusion) own → At (InRow looked) (second_base inclusion) other → IsSaidAt system web inclusion own other

abbrev pub IsSaid : System → List (List ℕ) → Web → Type 0
IsSaid system looked web = (i : ℕ) → (inclusion : Inclusion) → slice_get system.inclusions i ≡ Some inclusion → IsSaidOf system looked web inclusion

-- of a site that is being looked at, with itself and those that were
abbrev pub IsSaidFirst : System → List (List ℕ) → Web → Inclusion → ℕ → ℕ → Type 0
IsSaidFirst system looked web inclusion node site =
    first_base inclusion ≡ Some node → (other : ℕ) → At (InRow (pushed looked node site)) (second_base inclusion) other → IsSaidAt system web inclusion site other

abbrev pub IsSaidSecond : System → List (List ℕ) → Web → Inclusion → ℕ → ℕ → Type 0
IsSaidSecond system looked web inclusion node site =
    second_base inclusion ≡ Some node → (own : ℕ) → At (InRow looked) (first_base inclusion) own → IsSaidAt system web inclusion own site

pub record IsSaidNew (system : System) (looked : List (List ℕ)) (web : Web) (inclusion : Inclusion) (node site : ℕ) : Type 0 where
  pub first : IsSaidFirst system looked web inclusion node site
  pub second : IsSaidSecond system looked web inclusion node site

-- which inclusions are to be looked at for a site of each node
pub record Watches (system : System) (watching : List (List ℕ)) : Type 0 where
  pub nodes : length watching ≡ system.nodes
  pub there : (node i : ℕ) → InRow watching node i → i < length system.inclusions
  pub first : (i node : ℕ) → (inclusion : Inclusion) → slice_get system.inclusions i ≡ Some inclusion → first_base inclusion ≡ Some node → InRow watching node i
  pub second : (i node : ℕ) → (inclusion : Inclusion) → slice_get system.inclusions i ≡ Some inclusion → second_base inclusion ≡ Some node → InRow watching node i

-- what steps of looking at a site leave
pub record ExpandsTargets (system : System) (looked : List (List ℕ)) (old new : Web) (inclusion : Inclusion) (own target : ℕ) : Type 0 where
  pub keeps : Keeps system looked old new
  pub says : (other : ℕ) → InRow looked target other → IsSaidAt system new inclusion own other

pub record ExpandsSources (system : System) (looked : List (List ℕ)) (old new : Web) (inclusion : Inclusion) (source other : ℕ) : Type 0 where
  pub keeps : Keeps system looked old new
  pub says : (own : ℕ) → InRow looked source own → IsSaidAt system new inclusion own other

pub record LooksFirst (system : System) (looked : List (List ℕ)) (old new : Web) (inclusion : Inclusion) (node site : ℕ) : Type 0 where
  pub keeps : Keeps system looked old new
  pub says : IsSaidFirst system looked new inclusion node site

pub record LooksSecond (system : System) (looked : List (List ℕ)) (old new : Web) (inclusion : Inclusion) (node site : ℕ) : Type 0 where
  pub keeps : Keeps system looked old new
  pub says : IsSaidSecond system looked new inclusion node site

pub record LooksOne (system : System) (looked : List (List ℕ)) (old new : Web) (inclusion : Inclusion) (node site : ℕ) : Type 0 where
  pub keeps : Keeps system looked old new
  pub says : IsSaidNew system looked new inclusion node site

pub record LooksAll (system : System) (looked : List (List ℕ)) (old new : Web) (node site : ℕ) : Type 0 where
  pub keeps : Keeps system looked old new
  pub says : (i : ℕ) → (inclusion : Inclusion) → slice_get system.inclusions i ≡ Some inclusion → IsSaidNew system looked new inclusion node site

-- a site was looked at
pub record Looks (system : System) (before after : List (List ℕ)) (old new : Web) (node site : ℕ) : Type 0 where
  pub is : after ≡ pushed before node site
  pub web : IsWeb system after new
  pub said : IsSaid system after new
  pub grows : Grows old new

-- what each node has was looked at, or waits
abbrev pub IsCovered : List (List ℕ) → Web → Type 0
IsCovered looked web = (node site : ℕ) → Had (has web.rows) node site → InRow looked node site ⊎ Contains web.waiting.items (member_of node site)

pub record IsSolving (system : System) (looked : List (List ℕ)) (now : Web) : Type 0 where
  pub web : IsWeb system looked now
  pub said : IsSaid system looked now
  pub covered : IsCovered looked now

-- what an inclusion without a base says
pub record StartsOne (system : System) (looked : List (List ℕ)) (old new : Web) (inclusion : Inclusion) : Type 0 where
  pub keeps : Keeps system looked old new
  pub says : first_base inclusion ≡ None → IsSaidAt system new inclusion 0 0

-- what all inclusions without a base say
pub record Starts (system : System) (looked : List (List ℕ)) (old new : Web) : Type 0 where
  pub keeps : Keeps system looked old new
  pub said : IsSaid system looked new

-- nothing waits any more
pub record Ends (system : System) (looked : List (List ℕ)) (now : Web) : Type 0 where
  pub solving : IsSolving system looked now
  pub waiting : now.waiting.items ≡ []

-- one place more, at one node
pub record AddsWatch (old new : List (List ℕ)) (base : Option ℕ) (place : ℕ) : Type 0 where
  pub nodes : length new ≡ length old
  pub kept : (node i : ℕ) → InRow old node i → InRow new node i
  pub added : (node : ℕ) → base ≡ Some node → InRow new node place
  pub only : (node i : ℕ) → InRow new node i → InRow old node i ⊎ (i ≡ place)

-- the places below one
pub record WatchesTo (system : System) (watching : List (List ℕ)) (count : ℕ) : Type 0 where
  pub nodes : length watching ≡ system.nodes
  pub there : (node i : ℕ) → InRow watching node i → i < count
  pub first : (i node : ℕ) → (inclusion : Inclusion) → i < count → slice_get system.inclusions i ≡ Some inclusion → first_base inclusion ≡ Some node → InRow watching node i
  pub second : (i node : ℕ) → (inclusion : Inclusion) → i < count → slice_get system.inclusions i ≡ Some inclusion → second_base inclusion ≡ Some node → InRow watching node i
