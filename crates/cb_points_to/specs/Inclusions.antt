-- What inclusions say of a relation between nodes and sites (Andersen 1994, analysis by inclusion).
use Rattle.std.specs.Prelude.{◌≡◌, ◌==◌, ℕ, Bool, true, false, List, [], ◌∷◌, Option, Some, None, if◌then◌else◌, slice_get, slice_index_or}
use Rattle.cb_points_to.specs.declared.inclusion.Inclusion.{Inclusion}
use Rattle.cb_points_to.specs.declared.inclusion.Inclusion.TheVariants.{Between, Call, Copy, Has, HasEach, Load, Store, Through}
use Rattle.cb_points_to.specs.declared.tables.Callee.{Callee}
use Rattle.cb_points_to.specs.declared.tables.Slot.{Slot}

-- constraints: how many nodes and sites there are, the site of each node that stands for a field or for elements, which nodes stand for statics,
-- sets of sites, tables of nodes and of callees by site, and the inclusions
pub record System : Type 0 where
  pub nodes : ℕ
  pub sites : ℕ
  pub owners : List (Option ℕ)
  pub statics : List Bool
  pub filters : List (List Bool)
  pub slots : List (List Slot)
  pub calls : List (List Callee)
  pub inclusions : List Inclusion

-- the node, and the callee, of a site in a table
abbrev pub slot_of : List Slot → ℕ → Option ℕ
slot_of [] site = None
slot_of (slot ∷ slots) site = if slot.site == site then Some slot.node else slot_of slots site

abbrev pub callee_of : List Callee → ℕ → Option Callee
callee_of [] site = None
callee_of (callee ∷ callees) site = if callee.site == site then Some callee else callee_of callees site

-- by the place of a table
abbrev pub slot_in : System → ℕ → ℕ → Option ℕ
slot_in system slots site = slot_of (slice_index_or system.slots slots []) site

abbrev pub callee_in : System → ℕ → ℕ → Option Callee
callee_in system calls site = callee_of (slice_index_or system.calls calls []) site

abbrev pub passes : System → ℕ → ℕ → Bool
passes system filter site = slice_index_or (slice_index_or system.filters filter []) site false

-- a relation: whether a node has a site. All that one node has another has too
abbrev pub Relation : Type 0
Relation = ℕ → ℕ → Bool

abbrev pub Within : Relation → ℕ → ℕ → Type 0
Within pts from to = (site : ℕ) → pts from site ≡ true → pts to site ≡ true

-- a receiver of this site enters its callee: with the site, each argument in its place, and the result
pub record Enters (pts : Relation) (site : ℕ) (arguments : List ℕ) (result : Option ℕ) (callee : Callee) : Type 0 where
  pub receiver : pts callee.receiver site ≡ true
  pub arguments_in : (i from to : ℕ) → slice_get arguments i ≡ Some from → slice_get callee.arguments i ≡ Some to → Within pts from to
  pub result_out : (from to : ℕ) → callee.result ≡ Some from → result ≡ Some to → Within pts from to

-- an inclusion holds of a relation: a site is in a node; a site is in the slot of each site of a base; one node is within another; so are its
-- sites that a filter lets pass; the slot of each site of a base is within a node; a node is within the slot of each site of a base; the slot of
-- each site of a source is within that of each site of a target; each site of a receiver enters its callee
abbrev pub Holds : System → Relation → Inclusion → Type 0
Holds system pts (Has node site) = pts node site ≡ true
Holds system pts (HasEach base slots site) = (own slot : ℕ) → pts base own ≡ true → slot_in system slots own ≡ Some slot → pts slot site ≡ true
Holds system pts (Copy from to) = Within pts from to
Holds system pts (Through from to filter) = (site : ℕ) → pts from site ≡ true → passes system filter site ≡ true → pts to site ≡ true
Holds system pts (Load base slots to) = (own slot : ℕ) → pts base own ≡ true → slot_in system slots own ≡ Some slot → Within pts slot to
Holds system pts (Store from base slots) = (own slot : ℕ) → pts base own ≡ true → slot_in system slots own ≡ Some slot → Within pts from slot
Holds system pts (Between source target slots) =
    (own other slot behind : ℕ) → pts source own ≡ true → pts target other ≡ true → slot_in system slots own ≡ Some slot → slot_in system slots other ≡ Some behind
    → Within pts slot behind
Holds system pts (Call receiver calls arguments result) =
    (site : ℕ) → (callee : Callee) → pts receiver site ≡ true → callee_in system calls site ≡ Some callee → Enters pts site arguments result callee
