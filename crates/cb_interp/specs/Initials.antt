-- What a step of an initialisation comes to: whether there was room for a frame, and whether it looks at a class whose initialisation
-- failed (JVMS §5.5).
use Rattle.std.specs.Prelude.{Bool, true, false, Option, Some, None}
use Rattle.cb_plain.specs.State.{Roots}
use Rattle.cb_plain.specs.declared.class_state.ClassState.{ClassState}
use Rattle.cb_plain.specs.declared.class_state.ClassState.TheVariants.{Untouched}
use Rattle.cb_unwind.specs.declared.answers.InitStep.{InitStep}
use Rattle.cb_unwind.specs.declared.answers.InitStep.TheVariants.{Goes, Deep, FailedParent}

abbrev pub had_room : InitStep → Bool
had_room Goes = true
had_room Deep = false
had_room FailedParent = true

abbrev pub fails : Option (InitStep × Roots) → Bool
fails None = false
fails (Some (Goes, roots)) = false
fails (Some (Deep, roots)) = false
fails (Some (FailedParent, roots)) = true

-- whether a class wasn't looked at yet
abbrev pub is_untouched : ClassState → Bool
is_untouched Untouched = true
is_untouched other = false
