-- What the answers of the readers rest on.
use Rattle.std.proofs.Common.{◌≡◌, ℕ, List, Result, Ok, Err, Some, None, refl, sym, ◌∙◌, ap, subst}
use Rattle.std.specs.Prelude.{◌↔◌, MatchResult, IsErrOf}
use Rattle.std.proofs.lemmas.Option.{none-some, same_Some}
use Rattle.cb_classfile.specs.declared.class.ClassFile.{ClassFile}
use Rattle.cb_classfile.specs.declared.feature.Feature.{Feature}
use Rattle.cb_classfile.specs.declared.fault.ClassFault.{ClassFault}
use Rattle.cb_classfile.specs.declared.fault.ClassFault.TheVariants as answers
use Rattle.cb_classfile.specs.declared.fault.ReadFault.{ReadFault}
use Rattle.cb_classfile.specs.declared.fault.ReadFault.TheVariants as unread
use Rattle.cb_classfile.specs.declared.fault.Fault.{Fault}
use Rattle.cb_classfile.specs.declared.fault.Fault.TheVariants.{Malformed, OutOfMemory}
use Rattle.cb_classfile.specs.Answers.{HasNoOtherVersion, IsAcceptedClass, SpellsNone, Stands, StandsUnread}
use Rattle.cb_classfile.specs.Class.{HasVersion, IsAccepted, SpellsClass, SpellsClassOf, SpellsVersion}
use Rattle.cb_classfile.specs.Faults.{class_fault, read_fault}
use Rattle.cb_classfile.specs.Profile.{unsupported}
use Rattle.cb_classfile.specs.Reading.{IsFront, IsUnspelled}
use Rattle.cb_classfile.specs.Tables.{BeginsWith}
use Rattle.cb_classfile.proofs.OneClass.{exact_version, one_class_spelled}
use Rattle.cb_classfile.proofs.OneItem.{one_front}

-- where no class file begins, the bytes spell none and have no version
pub version_missing : (bytes : List ℕ) → ((version : ℕ × ℕ) (rest : List ℕ) → BeginsWith SpellsVersion bytes version rest → ⊥) → StandsUnread bytes unread.Malformed
version_missing bytes none = (
  λ class spelled. none _ spelled.second (spelled.first, spelled.here, spelled.spelled),
  λ major (minor, rest, begins). absurd (none _ rest begins),
)

-- bytes that begin with an accepted version have no other
pub accepted_alone : {bytes rest : List ℕ} {minor major : ℕ} → BeginsWith SpellsVersion bytes (minor, major) rest → IsAccepted major → HasNoOtherVersion bytes
accepted_alone begins accepted other (lower, behind, begins_too) =
    subst IsAccepted (ap (λ p. p.1) (one_front exact_version refl begins begins_too).0) accepted

-- a fault behind an accepted version stands in the bytes
pub fault_stands : {bytes rest : List ℕ} {minor major : ℕ} (fault : Fault) → IsFront SpellsVersion bytes (minor, major) rest → IsAccepted major → IsUnspelled (SpellsClassOf minor major) rest fault → StandsUnread bytes (read_fault fault)
fault_stands {bytes} {rest} Malformed here accepted none = (
  λ class spelled.
      let same = here.only (class.minor, class.major) spelled.second (spelled.first, spelled.here, spelled.spelled) in
      let missing = none class (sym (ap (λ p. p.0) same.0), sym (ap (λ p. p.1) same.0), rw same.1 spelled.behind) in
      cc,
  accepted_alone here.found accepted,
)
fault_stands OutOfMemory here accepted none = accepted_alone here.found accepted

-- a class behind an accepted version is an accepted class
pub class_stands : {bytes rest : List ℕ} {minor major : ℕ} {class : ClassFile} → IsFront SpellsVersion bytes (minor, major) rest → IsAccepted major → SpellsClassOf minor major rest class → IsAcceptedClass bytes class
class_stands {bytes} {rest} {minor} {major} {class} here accepted (minor_is, major_is, contents) =
    let (first, spelled, split) = here.found in
    record {
      spelled = record {
        first = first;
        second = rest;
        spelled = split;
        here = rw (minor_is, major_is) spelled;
        behind = contents;
      };
      accepted = rw major_is accepted;
    }

-- the version of an accepted class is the only one
class_alone : (bytes : List ℕ) (class : ClassFile) → IsAcceptedClass bytes class → HasNoOtherVersion bytes
class_alone bytes class accepted =
    let spelled = accepted.spelled in
    accepted_alone (spelled.first, spelled.here, spelled.spelled) accepted.accepted

version_same : (bytes : List ℕ) (one other : ℕ) → HasVersion bytes one → HasVersion bytes other → one ≡ other
version_same bytes one other (minor, rest, begins) (lower, behind, begins_too) = ap (λ p. p.1) (one_front exact_version refl begins begins_too).0

-- the answer of the reader of any class
abbrev pub AnswersUnread : List ℕ → Result ClassFile ReadFault → Type 0
AnswersUnread bytes result = MatchResult result (IsAcceptedClass bytes) (StandsUnread bytes)

-- an accepted class is the only one
pub exact_unread : (bytes : List ℕ) (result : Result ClassFile ReadFault) → AnswersUnread bytes result → (class : ClassFile) → SpellsClass bytes class → IsAccepted class.major → MatchResult result (λ read. read ≡ class) (λ fault. fault ≡ unread.OutOfMemory)
exact_unread bytes (Ok read) found class spelled accepted = one_class_spelled bytes read class found.spelled spelled
exact_unread bytes (Err (unread.BadVersion major)) found class spelled accepted =
    absurd (found.1 (class_alone bytes class (record { spelled = spelled; accepted = accepted }) major found.0))
exact_unread bytes (Err unread.Malformed) found class spelled accepted = absurd (found.0 class spelled)
exact_unread bytes (Err unread.OutOfMemory) found class spelled accepted = refl

pub bad_version_unread : (bytes : List ℕ) (result : Result ClassFile ReadFault) → AnswersUnread bytes result → (major : ℕ) → IsErrOf result (unread.BadVersion major) ↔ (HasVersion bytes major × (¬ IsAccepted major))
bad_version_unread bytes (Ok class) found major = (λ is. absurd cc, λ other. absurd (other.1 (class_alone bytes class found major other.0)))
bad_version_unread bytes (Err (unread.BadVersion told)) found major = (
  λ is. let same : told ≡ major = cc in subst (λ major. HasVersion bytes major × (¬ IsAccepted major)) same found,
  λ other. let same = version_same bytes told major found.0 other.0 in cc,
)
bad_version_unread bytes (Err unread.Malformed) found major = (λ is. absurd cc, λ other. absurd (other.1 (found.1 major other.0)))
bad_version_unread bytes (Err unread.OutOfMemory) found major = (λ is. absurd cc, λ other. absurd (other.1 (found major other.0)))

pub malformed_unread : (bytes : List ℕ) (result : Result ClassFile ReadFault) → AnswersUnread bytes result → IsErrOf result unread.Malformed ↔ ((¬ IsErrOf result unread.OutOfMemory) × SpellsNone bytes × HasNoOtherVersion bytes)
malformed_unread bytes (Ok class) found = (λ is. absurd cc, λ none. absurd (none.1 class found.spelled))
malformed_unread bytes (Err (unread.BadVersion major)) found = (λ is. absurd cc, λ none. absurd (found.1 (none.2 major found.0)))
malformed_unread bytes (Err unread.Malformed) found = (λ is. (λ memory. cc, found.0, found.1), λ none. refl)
malformed_unread bytes (Err unread.OutOfMemory) found = (λ is. absurd cc, λ none. absurd (none.0 refl))

-- why no class was read is why none was taken
pub unread_stands : (bytes : List ℕ) (fault : ReadFault) → StandsUnread bytes fault → Stands bytes (class_fault fault)
unread_stands bytes (unread.BadVersion major) stands = stands
unread_stands bytes unread.Malformed stands = stands
unread_stands bytes unread.OutOfMemory stands = stands

-- the answer of the reader of classes that this machine takes
abbrev pub Answers : List ℕ → Result ClassFile ClassFault → Type 0
Answers bytes result = MatchResult result (λ class. IsAcceptedClass bytes class × (unsupported class ≡ None)) (Stands bytes)

pub exact_class : (bytes : List ℕ) (result : Result ClassFile ClassFault) → Answers bytes result → (class : ClassFile) → SpellsClass bytes class → IsAccepted class.major → unsupported class ≡ None → MatchResult result (λ read. read ≡ class) (λ fault. fault ≡ answers.OutOfMemory)
exact_class bytes (Ok read) found class spelled accepted none = one_class_spelled bytes read class found.0.spelled spelled
exact_class bytes (Err (answers.BadVersion major)) found class spelled accepted none =
    absurd (found.1 (class_alone bytes class (record { spelled = spelled; accepted = accepted }) major found.0))
exact_class bytes (Err answers.Malformed) found class spelled accepted none = absurd (found.0 class spelled)
exact_class bytes (Err (answers.Unsupported item)) found class spelled accepted none =
    absurd (none-some item (sym none ∙ ap unsupported (one_class_spelled bytes class found.0 spelled found.1.spelled) ∙ found.2))
exact_class bytes (Err answers.OutOfMemory) found class spelled accepted none = refl

pub bad_version_exactly : (bytes : List ℕ) (result : Result ClassFile ClassFault) → Answers bytes result → (major : ℕ) → IsErrOf result (answers.BadVersion major) ↔ (HasVersion bytes major × (¬ IsAccepted major))
bad_version_exactly bytes (Ok class) found major = (λ is. absurd cc, λ other. absurd (other.1 (class_alone bytes class found.0 major other.0)))
bad_version_exactly bytes (Err (answers.BadVersion told)) found major = (
  λ is. let same : told ≡ major = cc in subst (λ major. HasVersion bytes major × (¬ IsAccepted major)) same found,
  λ other. let same = version_same bytes told major found.0 other.0 in cc,
)
bad_version_exactly bytes (Err answers.Malformed) found major = (λ is. absurd cc, λ other. absurd (other.1 (found.1 major other.0)))
bad_version_exactly bytes (Err (answers.Unsupported item)) found major = (λ is. absurd cc, λ other. absurd (other.1 (class_alone bytes found.0 found.1 major other.0)))
bad_version_exactly bytes (Err answers.OutOfMemory) found major = (λ is. absurd cc, λ other. absurd (other.1 (found major other.0)))

pub malformed_exactly : (bytes : List ℕ) (result : Result ClassFile ClassFault) → Answers bytes result → IsErrOf result answers.Malformed ↔ ((¬ IsErrOf result answers.OutOfMemory) × SpellsNone bytes × HasNoOtherVersion bytes)
malformed_exactly bytes (Ok class) found = (λ is. absurd cc, λ none. absurd (none.1 class found.0.spelled))
malformed_exactly bytes (Err (answers.BadVersion major)) found = (λ is. absurd cc, λ none. absurd (found.1 (none.2 major found.0)))
malformed_exactly bytes (Err answers.Malformed) found = (λ is. (λ memory. cc, found.0, found.1), λ none. refl)
malformed_exactly bytes (Err (answers.Unsupported item)) found = (λ is. absurd cc, λ none. absurd (none.1 found.0 found.1.spelled))
malformed_exactly bytes (Err answers.OutOfMemory) found = (λ is. absurd cc, λ none. absurd (none.0 refl))

-- the bytes spell an accepted class of which this is the first item that is left out
abbrev pub HasItem : List ℕ → Feature → Type 0
HasItem bytes item = (class : ClassFile) × SpellsClass bytes class × IsAccepted class.major × (unsupported class ≡ Some item)

pub unsupported_exactly : (bytes : List ℕ) (result : Result ClassFile ClassFault) → Answers bytes result → (item : Feature) → IsErrOf result (answers.Unsupported item) ↔ ((¬ IsErrOf result answers.OutOfMemory) × HasItem bytes item)
unsupported_exactly bytes (Ok read) found item = (
  λ is. absurd cc,
  λ (other, (class, spelled, accepted, is)).
      absurd (none-some item (sym found.1 ∙ ap unsupported (one_class_spelled bytes read class found.0.spelled spelled) ∙ is)),
)
unsupported_exactly bytes (Err (answers.Unsupported told)) found item = (
  λ is. let same : told ≡ item = cc in (λ memory. cc, (found.0, found.1.spelled, found.1.accepted, subst (λ item. unsupported found.0 ≡ Some item) same found.2)),
  λ (other, (class, spelled, accepted, is)).
      let same = same_Some told item (sym found.2 ∙ ap unsupported (one_class_spelled bytes found.0 class found.1.spelled spelled) ∙ is) in cc,
)
unsupported_exactly bytes (Err (answers.BadVersion major)) found item = (
  λ is. absurd cc,
  λ (other, (class, spelled, accepted, is)). absurd (found.1 (class_alone bytes class (record { spelled = spelled; accepted = accepted }) major found.0)),
)
unsupported_exactly bytes (Err answers.Malformed) found item = (λ is. absurd cc, λ (other, (class, spelled, accepted, is)). absurd (found.0 class spelled))
unsupported_exactly bytes (Err answers.OutOfMemory) found item = (λ is. absurd cc, λ (other, has). absurd (other refl))
