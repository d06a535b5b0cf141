-- The words that go to the error output.
use Rattle.std.specs.Prelude.{ℕ, List, ◌++◌, codes, string_bytes}
use Rattle.std.specs.Fmt.{decimal}
use Rattle.cb_classfile.specs.declared.feature.Feature.{Feature}
use Rattle.cb_classfile.specs.Messages.{feature_text}
use Rattle.cb_link.specs.Quantities.{quantity_text}
use Rattle.cb_link.specs.declared.refusal.Quantity.{Quantity}
use Rattle.cb_runner.specs.declared.refusal.Refusal.{Refusal}
use Rattle.cb_runner.specs.declared.refusal.Refusal.TheVariants as refusals

-- why a command is refused
pub data Reason : Type 0 where
  MissingClass : List ℕ → Reason
  Malformed : List ℕ → Reason
  BadVersion : List ℕ → ℕ → Reason
  Unsupported : List ℕ → Feature → Reason
  BadHierarchy : List ℕ → Reason
  MissingMember : List ℕ → List ℕ → Reason
  NoMain : List ℕ → Reason
  Unverified : List ℕ → List ℕ → ℕ → Reason
  TooLarge : Quantity → ℕ → ℕ → Reason
  BadLine : ℕ → Reason

-- the reason that a refusal of the program says
abbrev pub reason_of : Refusal → Reason
reason_of (refusals.MissingClass name) = MissingClass (string_bytes name)
reason_of (refusals.Malformed class) = Malformed (string_bytes class)
reason_of (refusals.BadVersion class major) = BadVersion (string_bytes class) major
reason_of (refusals.Unsupported class item) = Unsupported (string_bytes class) item
reason_of (refusals.BadHierarchy class) = BadHierarchy (string_bytes class)
reason_of (refusals.MissingMember class member) = MissingMember (string_bytes class) (string_bytes member)
reason_of (refusals.NoMain class) = NoMain (string_bytes class)
reason_of (refusals.Unverified class method pc) = Unverified (string_bytes class) (string_bytes method) pc
reason_of (refusals.TooLarge what count limit) = TooLarge what count limit
reason_of (refusals.BadLine line) = BadLine line

-- the words of a refusal
abbrev pub refusal_text : Reason → List ℕ
refusal_text (MissingClass class) = codes "E1 missing class " ++ class
refusal_text (Malformed class) = codes "E2 malformed class " ++ class
refusal_text (BadVersion class major) = codes "E3 version " ++ decimal major ++ codes " in class " ++ class
refusal_text (Unsupported class item) = codes "E4 unsupported " ++ feature_text item ++ codes " in class " ++ class
refusal_text (BadHierarchy class) = codes "E5 bad hierarchy at class " ++ class
refusal_text (MissingMember class member) = codes "E6 missing member " ++ member ++ codes " in class " ++ class
refusal_text (NoMain class) = codes "E9 no main in class " ++ class
refusal_text (Unverified class method pc) = codes "E7 not verified " ++ class ++ codes " " ++ method ++ codes " " ++ decimal pc
refusal_text (TooLarge what count limit) = codes "E8 too large " ++ quantity_text what ++ codes " " ++ decimal count ++ codes " over " ++ decimal limit
refusal_text (BadLine line) = codes "bad line " ++ decimal line

-- a line of the machine's own
abbrev pub line : List ℕ → List ℕ
line text = codes "cbvm: " ++ text ++ codes "\n"
