-- What holds of each program that is linked and typed: all that a typed state asks of it to have a next one.
use Rattle.cb_link.specs.Program.{Linked}
use Rattle.cb_safety.specs.Advancing.{HoldsOn, HoldsOwn, HoldsThrough, IsSpelled}
use Rattle.cb_safety.specs.Beginning.{HasCode}
use Rattle.cb_safety.specs.Calling.{GoesAbove}
use Rattle.cb_safety.specs.Causes.{KeepsCause}
use Rattle.cb_safety.specs.Constants.{HasClassObjects, HasMessage}
use Rattle.cb_safety.specs.Initialisers.{HasInitialisers}
use Rattle.cb_safety.specs.Main.{HasMain}
use Rattle.cb_safety.specs.Making.{HasSites}
use Rattle.cb_safety.specs.Naming.{HoldsElements, NamesFields, NamesKinds}
use Rattle.cb_safety.specs.Ready.{NamesClasses, NamesStatics}
use Rattle.cb_safety.specs.Starting.{HasStart}
use Rattle.cb_safety.specs.Strings.{HasConstants}
use Rattle.cb_safety.specs.Throwing.{AreThrown}

-- of its kinds and code, of what instructions name and make, of what the machine throws and places, and of what is run at first
pub record IsSound (program : Linked) : Type 0 where
  pub holds_on : HoldsOn program
  pub holds_through : HoldsThrough program
  pub holds_elements : HoldsElements program
  pub holds_own : HoldsOwn program
  pub goes_above : GoesAbove program
  pub spelled : IsSpelled program
  pub code : HasCode program
  pub fields : NamesFields program
  pub kinds : NamesKinds program
  pub statics : NamesStatics program
  pub classes : NamesClasses program
  pub sites : HasSites program
  pub thrown : AreThrown program
  pub cause : KeepsCause program
  pub message : HasMessage program
  pub constants : HasConstants program
  pub class_objects : HasClassObjects program
  pub main : HasMain program
  pub start : HasStart program
  pub initialisers : HasInitialisers program
