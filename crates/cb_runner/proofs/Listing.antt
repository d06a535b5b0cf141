-- How `list` ends.
use Rattle.std.proofs.Common.{◌≡◌, inr, ℕ, ◌≤◌, List, length, Option, Some, None, Err, IsErrOf, Result, Vec, refl, sym, ap, subst}
use Rattle.std.specs.declared.alloc.Global.{Global}
use Rattle.cb_asm_list.specs.Listing.{listing}
use Rattle.cb_classfile.specs.declared.class.ClassFile.{ClassFile}
use Rattle.cb_classfile.specs.declared.fault.ClassFault.{ClassFault}
use Rattle.cb_classfile.specs.declared.fault.ClassFault.TheVariants as faults
use Rattle.cb_classfile.specs.declared.feature.Feature.{Feature}
use Rattle.cb_classfile.specs.Answers.{HasNoOtherVersion, SpellsNone}
use Rattle.cb_classfile.specs.Class.{HasVersion, IsAccepted, SpellsClass}
use Rattle.cb_classfile.specs.Profile.{unsupported}
use Rattle.cb_runner.specs.declared.stop.Stop.{Stop}
use Rattle.cb_runner.specs.Ending.{returned}
use Rattle.cb_runner.specs.Inner.{IsUnlisted, Makes}
use Rattle.cb_runner.specs.List.{ListsBytes, ListsFile, OfVersion, OfNoClass, OfItem, Listed}
use Rattle.cb_runner.specs.Messages.{BadVersion, Malformed, Unsupported}
use Rattle.cb_runner.specs.Run.{file_limit}
use Rattle.cb_runner.proofs.Endings.{makes_as, refused_so}

-- a class that was read and listed
pub listed_so : (path bytes text : List ℕ) (class : ClassFile) → SpellsClass bytes class × IsAccepted class.major × (unsupported class ≡ None) → text ≡ listing class → ListsBytes path bytes (returned text 0)
listed_so path bytes text class (spelled, accepted, whole) is = Listed class (record { read = record { spelled = spelled; accepted = accepted }; whole = whole }) (ap (λ text. returned text 0) is)

-- one that wasn't read
pub unlisted_so : (path bytes : List ℕ) (fault : ClassFault) (stop : Stop) → ((major : ℕ) → IsErrOf {T = ClassFile} (Err fault) (faults.BadVersion major) → HasVersion bytes major × (¬ IsAccepted major)) → (IsErrOf {T = ClassFile} (Err fault) faults.Malformed → SpellsNone bytes × HasNoOtherVersion bytes) → ((item : Feature) → IsErrOf {T = ClassFile} (Err fault) (faults.Unsupported item) → (class : ClassFile) × SpellsClass bytes class × IsAccepted class.major × (unsupported class ≡ Some item)) → IsUnlisted path fault stop → Makes (ListsBytes path bytes) 0 (Err stop)
unlisted_so path bytes (faults.BadVersion major) stop version malformed item refusal =
    let (has, other) = version major refl in refused_so (ListsBytes path bytes) 0 (BadVersion path major) stop refusal (OfVersion major has other refl)
unlisted_so path bytes faults.Malformed stop version malformed item refusal =
    let (none, versions) = malformed refl in refused_so (ListsBytes path bytes) 0 (Malformed path) stop refusal (OfNoClass versions none refl)
unlisted_so path bytes (faults.Unsupported first) stop version malformed item refusal =
    let (class, spelled, accepted, is) = item first refl in
    refused_so (ListsBytes path bytes) 0 (Unsupported path first) stop refusal (OfItem first (record { class = class; read = record { spelled = spelled; accepted = accepted }; first = is }) refl)
unlisted_so path bytes faults.OutOfMemory stop version malformed item is = subst (λ stop. Makes (ListsBytes path bytes) 0 (Err stop)) (sym is) tt

-- the file that was found has these bytes
pub listed_file : (path : List ℕ) (file : Option (List ℕ)) (bytes : List ℕ) (made : Result (Vec ℕ Global) Stop) → file ≡ Some bytes → length bytes ≤ file_limit → Makes (ListsBytes path bytes) 0 made → Makes (ListsFile path file) 0 made
listed_file path file bytes made is short makes =
    subst (λ file. Makes (ListsFile path file) 0 made) (sym is) (makes_as (ListsBytes path bytes) (ListsFile path (Some bytes)) 0 made (λ ending lists. inr (short, lists)) makes)
