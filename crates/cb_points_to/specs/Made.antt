-- Constraints that are sound: what they name is there, and tables name sites in ascending order.
use Rattle.std.specs.Prelude.{◌≡◌, ◌<◌, ℕ, false, List, [], ◌∷◌, None, IfSome, length, map, replicate}
use Rattle.std.specs.List.{All}
use Rattle.cb_points_to.specs.Inclusions.{System}
use Rattle.cb_points_to.specs.declared.inclusion.Inclusion.{Inclusion}
use Rattle.cb_points_to.specs.declared.inclusion.Inclusion.TheVariants.{Between, Call, Copy, Has, HasEach, Load, Store, Through}
use Rattle.cb_points_to.specs.declared.tables.Callee.{Callee}
use Rattle.cb_points_to.specs.declared.tables.Slot.{Slot}

-- numbers that ascend
abbrev pub AreAbove : ℕ → List ℕ → Type 0
AreAbove low [] = Unit {0}
AreAbove low (number ∷ numbers) = (low < number) × AreAbove number numbers

abbrev pub Ascend : List ℕ → Type 0
Ascend [] = Unit {0}
Ascend (number ∷ numbers) = AreAbove number numbers

-- nodes that are there
abbrev pub AreNodes : System → List ℕ → Type 0
AreNodes system numbers = All (λ node. node < system.nodes) numbers

pub record IsSlot (system : System) (slot : Slot) : Type 0 where
  pub site : slot.site < system.sites
  pub node : slot.node < system.nodes

pub record IsCallee (system : System) (callee : Callee) : Type 0 where
  pub site : callee.site < system.sites
  pub receiver : callee.receiver < system.nodes
  pub arguments : AreNodes system callee.arguments
  pub result : IfSome callee.result (λ node. node < system.nodes)

-- what an inclusion names is there
abbrev pub IsInclusion : System → Inclusion → Type 0
IsInclusion system (Has node site) = (node < system.nodes) × (site < system.sites)
IsInclusion system (HasEach base slots site) = (base < system.nodes) × (slots < length system.slots) × (site < system.sites)
IsInclusion system (Copy from to) = (from < system.nodes) × (to < system.nodes)
IsInclusion system (Through from to filter) = (from < system.nodes) × (to < system.nodes) × (filter < length system.filters)
IsInclusion system (Load base slots to) = (base < system.nodes) × (slots < length system.slots) × (to < system.nodes)
IsInclusion system (Store from base slots) = (from < system.nodes) × (base < system.nodes) × (slots < length system.slots)
IsInclusion system (Between source target slots) = (source < system.nodes) × (target < system.nodes) × (slots < length system.slots)
IsInclusion system (Call receiver calls arguments result) =
    (receiver < system.nodes) × (calls < length system.calls) × AreNodes system arguments × IfSome result (λ node. node < system.nodes)

-- a table of slots, and of callees: each names what is there, in ascending order of sites
pub record AreSlots (system : System) (slots : List Slot) : Type 0 where
  pub each : All (IsSlot system) slots
  pub ascend : Ascend (map (λ slot. slot.site) slots)

pub record AreCallees (system : System) (callees : List Callee) : Type 0 where
  pub each : All (IsCallee system) callees
  pub ascend : Ascend (map (λ callee. callee.site) callees)

-- all of it is there
pub record IsSystem (system : System) : Type 0 where
  pub owners : length system.owners ≡ system.nodes
  pub statics : length system.statics ≡ system.nodes
  pub filters : All (λ filter. length filter ≡ system.sites) system.filters
  pub slots : All (AreSlots system) system.slots
  pub calls : All (AreCallees system) system.calls
  pub inclusions : All (IsInclusion system) system.inclusions

-- without an owner, a static, a table or an inclusion
abbrev pub empty_system : ℕ → ℕ → System
empty_system nodes sites = record {
  nodes = nodes;
  sites = sites;
  owners = replicate nodes None;
  statics = replicate nodes false;
  filters = [];
  slots = [];
  calls = [];
  inclusions = [];
}
