-- Attributes that stand once have a spelling where their contents may stand.
use Rattle.std.proofs.Common.{◌≡◌, ◌↔◌, ℕ, ◌^◌, ◌<◌, Bool, true, false, IsTrue, List, [], length, Option, Some, None, sym, ◌∙◌, subst}
use Rattle.std.proofs.lemmas.Bool.{false≢true}
use Rattle.cb_text.specs.declared.constant.Constant.{Constant}
use Rattle.cb_classfile.specs.Attributes.{SpellsOnce, attributes_bytes, one_attribute}
use Rattle.cb_classfile.proofs.Laws.{IsCanonical, MayStand, held, none_stands, one_stands}
use Rattle.cb_writer.specs.Formed.{HasSpelling}
use Rattle.cb_writer.specs.Names.{HasName, HasOnce}

pub may_stand : {pool : List Constant} {name contents : List ℕ} → HasName pool name → length contents < 2 ^ 32 → MayStand pool name contents
may_stand has short = record { named = has.named; fits = has.fits; short = short }

pub named_so : {pool : List Constant} {name contents : List ℕ} → MayStand pool name contents → HasName pool name
named_so may = record { named = may.named; fits = may.fits }

-- none
pub none_once : {Item : Type 0} {Spells : List ℕ → Item → Type 0} {pool : List Constant} {name : List ℕ} → HasOnce Spells pool name None
none_once {Item} {Spells} {pool} {name} = record { bytes = attributes_bytes []; attributes = []; spelled = none_stands pool; told = tt }

-- one
pub one_once : {Item : Type 0} {Spells : List ℕ → Item → Type 0} {bytes_of : Item → List ℕ} {pool : List Constant} {name : List ℕ} {item : Item} → IsCanonical Spells bytes_of → HasSpelling Spells item → MayStand pool name (bytes_of item) → HasOnce Spells pool name (Some item)
one_once {Item} {Spells} {bytes_of} {pool} {name} {item} canonical has may =
    let one = one_stands pool name (bytes_of item) may in
    record {
      bytes = attributes_bytes (one_attribute pool name (Some (bytes_of item)));
      attributes = one_attribute pool name (Some (bytes_of item));
      spelled = one.spelled;
      told = subst (λ contents. SpellsOnce Spells contents (Some item)) (sym one.found) (canonical.spelled has.bytes item has.spelled);
    }

-- and what follows from one
pub of_one : {Item : Type 0} {Spells : List ℕ → Item → Type 0} {bytes_of : Item → List ℕ} {pool : List Constant} {name : List ℕ} {item : Item} → IsCanonical Spells bytes_of → HasOnce Spells pool name (Some item) → HasSpelling Spells item × MayStand pool name (bytes_of item)
of_one {Item} {Spells} {bytes_of} {pool} {name} {item} canonical once =
    let here = held canonical once.spelled item once.told in
    (record { bytes = here.here; spelled = here.spelled }, here.again.may)

-- so where a question has an answer
pub told_none : {Item : Type 0} (Spells : List ℕ → Item → Type 0) (pool : List Constant) (name : List ℕ) {item : Option Item} {answer : Bool} → item ≡ None → answer ≡ true → IsTrue answer ↔ HasOnce Spells pool name item
told_none Spells pool name none holds = (λ is. rw none none_once, λ has. holds)

pub told_some : {Item : Type 0} {Spells : List ℕ → Item → Type 0} {bytes_of : Item → List ℕ} {pool : List Constant} {name : List ℕ} {item : Option Item} {one : Item} {answer : Bool} → IsCanonical Spells bytes_of → item ≡ Some one → HasName pool name → IsTrue answer ↔ (HasSpelling Spells one × (length (bytes_of one) < 2 ^ 32)) → IsTrue answer ↔ HasOnce Spells pool name item
told_some {Item} {Spells} {bytes_of} {pool} {name} {item} {one} canonical some named told = (
  λ is. rw some (one_once canonical (told.0 is).0 (may_stand named (told.0 is).1)),
  λ has. told.1 (let both = of_one canonical (subst (HasOnce Spells pool name) some has) in (both.0, both.1.short)),
)

pub told_unnamed : {Item : Type 0} {Spells : List ℕ → Item → Type 0} {bytes_of : Item → List ℕ} {pool : List Constant} {name : List ℕ} {item : Option Item} {one : Item} {named : Bool} → IsCanonical Spells bytes_of → item ≡ Some one → IsTrue named ↔ HasName pool name → named ≡ false → IsTrue named ↔ HasOnce Spells pool name item
told_unnamed {Item} {Spells} {bytes_of} {pool} {name} {item} canonical some told not = (
  λ is. absurd (false≢true (sym not ∙ is)),
  λ has. told.1 (named_so (of_one canonical (subst (HasOnce Spells pool name) some has)).1),
)
