-- Values and the local variables in which they lie.
use Rattle.std.specs.Prelude.{◌≡◌, ℕ, ◌+◌, List, [], ◌∷◌, Option, Some, option_and_then, option_map, if◌then◌else◌}
use Rattle.cb_classfile.specs.declared.frame_map.MapFrame.{MapFrame}
use Rattle.cb_classfile.specs.FrameMap.{form_of_frame}
use Rattle.cb_verify.specs.declared.verification_type.VerificationType.{VerificationType}
use Rattle.cb_verify.specs.Expansion.{values_in}
use Rattle.cb_verify.specs.Frames.{Frame, has_this, is_this, laid}
use Rattle.cb_verify.specs.Within.{Within}

pub record Laid : Type 0 where
  pub values : List VerificationType
  pub locals : List VerificationType

-- values in so many local variables, if there is room for them
abbrev pub laid_in : ℕ → List VerificationType → Option Laid
laid_in most values = option_map (λ locals. record { values = values; locals = locals }) (laid most values)

-- they lie in so many
abbrev pub IsLaid : ℕ → Laid → Type 0
IsLaid most laid = laid_in most laid.values ≡ Some laid

-- a frame with these local variables and nothing on the stack
abbrev pub bare : Laid → Frame
bare laid = record { locals = laid.locals; stack = []; unfinished = has_this laid.values }

-- those of a frame of a file, by those before it
abbrev pub laid_behind : Within → MapFrame → Option Laid → Option Laid
laid_behind method frame before =
    option_and_then (laid_in method.body.max_locals) (values_in method (form_of_frame frame.kind) frame (option_map (λ laid. laid.values) before))

-- how many values are the object of a constructor that is unfinished
abbrev pub this_count : List VerificationType → ℕ
this_count [] = 0
this_count (value ∷ values) = (if is_this value then 1 else 0) + this_count values
