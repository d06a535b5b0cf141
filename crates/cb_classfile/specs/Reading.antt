-- What the readers answer.
use Rattle.std.specs.Prelude.{◌≡◌, ℕ, List, Result, MatchResult}
use denote.Ref.{Bor}
use Rattle.cb_classfile.specs.declared.fault.Fault.{Fault}
use Rattle.cb_classfile.specs.declared.fault.Fault.TheVariants.{OutOfMemory}
use Rattle.cb_text.specs.Fronts as fronts
use Rattle.cb_text.specs.Fronts.{ReadsOr}
pub use Rattle.cb_text.specs.Fronts.{IsFront}

-- the bytes, or whatever stands in their place, spell this item, and no other
pub record IsWhole {Bytes Item : Type 0} (Spells : Bytes → Item → Type 0) (bytes : Bytes) (item : Item) : Type 0 where
  pub found : Spells bytes item
  pub only : (other : Item) → Spells bytes other → item ≡ other

-- where an item stands at the front the fault is want of memory, and likewise where the bytes spell one
abbrev pub IsFrontless : {Item : Type 0} → (List ℕ → Item → Type 0) → List ℕ → Fault → Type 0
IsFrontless Spells bytes fault = fronts.IsFrontless OutOfMemory Spells bytes fault

abbrev pub IsUnspelled : {Bytes Item : Type 0} → (Bytes → Item → Type 0) → Bytes → Fault → Type 0
IsUnspelled Spells bytes fault = (item : _) → Spells bytes item → fault ≡ OutOfMemory

-- a reader of the front of some bytes gives the item there and what stands behind it, or a fault where none stands
-- there or there is no memory
abbrev pub Reads : {Item : Type 0} → (List ℕ → Item → Type 0) → List ℕ → Result (Item × Bor (List ℕ)) Fault → Type 0
Reads Spells bytes result = ReadsOr OutOfMemory Spells bytes result

-- a reader of whole bytes
abbrev pub ReadsWhole : {Bytes Item : Type 0} → (Bytes → Item → Type 0) → Bytes → Result Item Fault → Type 0
ReadsWhole Spells bytes result = MatchResult result (IsWhole Spells bytes) (IsUnspelled Spells bytes)

-- readers that give what is told of the item
abbrev pub Tells : {Item Told : Type 0} → (List ℕ → Item → Type 0) → (Told → Item → Type 0) → List ℕ → Result (Told × Bor (List ℕ)) Fault → Type 0
Tells {Item} Spells IsTold bytes result =
    MatchResult result (λ read. (item : Item) × IsFront Spells bytes item read.1.now × IsTold read.0 item) (IsFrontless Spells bytes)

abbrev pub TellsWhole : {Item Told : Type 0} → (List ℕ → Item → Type 0) → (Told → Item → Type 0) → List ℕ → Result Told Fault → Type 0
TellsWhole {Item} Spells IsTold bytes result =
    MatchResult result (λ told. (item : Item) × IsWhole Spells bytes item × IsTold told item) (IsUnspelled Spells bytes)
