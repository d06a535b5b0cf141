-- What the readers' answers say of the class of a file.
use Rattle.std.proofs.Common.{◌≡◌, ◌↔◌, ℕ, ◌<◌, ◌≤◌, List, Some, IfOk, IsErrOf, Ok, Err, refl, sym, subst, arith}
use Rattle.std.specs.Prelude.{Result}
use Rattle.cb_classfile.specs.declared.class.ClassFile.{ClassFile}
use Rattle.cb_classfile.specs.declared.fault.ReadFault.{ReadFault}
use Rattle.cb_classfile.specs.declared.fault.ReadFault.TheVariants as unread
use Rattle.cb_classfile.specs.Answers.{HasNoOtherVersion}
use Rattle.cb_classfile.specs.Class.{HasVersion, IsAccepted, SpellsClass}
use Rattle.cb_classfile.specs.Pool.{class_at}
use Rattle.cb_classfile.proofs.Laws.{one_class_spelled}
use Rattle.cb_link.specs.declared.refusal.Refusal.TheVariants.{Malformed, BadVersion}
use Rattle.cb_load.specs.InnerTurns.{IsNoClassOf}

-- a version that isn't refused is accepted
accepted : (bytes : List ℕ) → ((major : ℕ) → HasVersion bytes major → (IsAccepted major → ⊥) → ⊥) → HasNoOtherVersion bytes
accepted bytes none major has =
    let low : major < 50 → ⊥ = λ less. none major has (λ is. let above : 50 ≤ major = is.0 in omega arith) in
    let high : 52 < major → ⊥ = λ more. none major has (λ is. let below : major ≤ 52 = is.1 in omega arith) in
    (omega (arith, low), omega (arith, high))

-- another version is refused
pub of_version : (name own bytes : List ℕ) (major : ℕ) (result : Result ClassFile ReadFault) → result ≡ Err (unread.BadVersion major) → (IsErrOf result (unread.BadVersion major) ↔ (HasVersion bytes major × (IsAccepted major → ⊥))) → own ≡ name → IsNoClassOf name bytes (BadVersion own major)
of_version name own bytes major result is says same =
    let (version, refused) = says.0 (subst (λ r. IsErrOf r (unread.BadVersion major)) (sym is) refl) in
    (same, version, refused)

-- bytes that spell no class are that of none
pub of_none : (name own bytes : List ℕ) (result : Result ClassFile ReadFault) → result ≡ Err unread.Malformed
    → (IsErrOf result unread.Malformed ↔ ((IsErrOf result unread.OutOfMemory → ⊥) × ((class : ClassFile) → SpellsClass bytes class → ⊥) × ((major : ℕ) → HasVersion bytes major → IsAccepted major)))
    → own ≡ name → IsNoClassOf name bytes (Malformed own)
of_none name own bytes result is says same =
    let (there, none, versions) = says.0 (subst (λ r. IsErrOf r unread.Malformed) (sym is) refl) in
    (same, versions, λ class spelled named. none class spelled)

-- nor are bytes that spell a class of another name
pub of_another : (name own bytes : List ℕ) (class : ClassFile) (result : Result ClassFile ReadFault) → result ≡ Ok class → IfOk result (λ class. SpellsClass bytes class × IsAccepted class.major)
    → ((major : ℕ) → IsErrOf result (unread.BadVersion major) ↔ (HasVersion bytes major × (IsAccepted major → ⊥)))
    → (class_at class.pool class.this_class ≡ Some name → ⊥) → own ≡ name → IsNoClassOf name bytes (Malformed own)
of_another name own bytes class result is reads says other same =
    let (spelled, versions) = subst (λ r. IfOk r (λ class. SpellsClass bytes class × IsAccepted class.major)) is reads in (
      same,
      accepted bytes (λ major has refused. let clash : Ok class ≡ Err (unread.BadVersion major) = subst (λ r. IsErrOf r (unread.BadVersion major)) is ((says major).1 (has, refused)) in cc),
      λ another spells named. other (subst (λ class. class_at class.pool class.this_class ≡ Some name) (one_class_spelled bytes another class spells spelled) named),
    )
