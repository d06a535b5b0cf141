-- Turns in which a native is performed that places objects or changes them.
use Rattle.std.specs.Prelude.{◌≡◌, ℕ, List, [], ◌∷◌, Option, Some, None, reverse, take}
use Rattle.cb_frames.specs.Tops.{top_stack}
use Rattle.cb_heap.specs.Reading.{View}
use Rattle.cb_heap.specs.Rules.{Rules}
use Rattle.cb_library.specs.declared.native.Native.{Native}
use Rattle.cb_link.specs.Program.{Linked}
use Rattle.cb_link.specs.declared.decoded.Decoded.{Decoded}
use Rattle.cb_natives.specs.Making.{Performs}
use Rattle.cb_plain.specs.State.{Roots}
use Rattle.cb_plain.specs.declared.value.Value.{Value}
use Rattle.cb_plain.specs.declared.value.Value.TheVariants as values
use Rattle.cb_interp.specs.Answering.{argument_count, behind_answer}

-- the arguments of a call as they stand on the stack, the lowest of them first
abbrev pub arguments_at : Linked → Decoded → Roots → List Value
arguments_at program decoded roots = reverse (take (argument_count program decoded) (top_stack roots))

-- what an answer lays on the stack that is a reference, or none
abbrev pub made_values : Option ℕ → List Value
made_values None = []
made_values (Some at) = values.Ref at ∷ []

-- the native was performed, and its answer stands in place of its arguments, at the next place
pub record Left {Facts : Type 0} (rules : Rules Facts) (program : Linked) (native : Native) (arguments : List Value) (count pc : ℕ)
    (before : View) (facts : Facts) (after : View) (now : Facts) : Type 0 where
  pub ran : Roots
  pub answer : List Value
  pub performs : Performs rules program native arguments before facts (record { roots = ran; objects = after.objects }) now answer
  pub frames : ran.frames ≡ before.roots.frames
  pub left : after.roots ≡ behind_answer count answer pc ran
