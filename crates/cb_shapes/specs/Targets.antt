-- Where instructions go (JVMS §4.7.3, §6.5).
use Rattle.std.specs.Prelude.{ℕ, Bool, true, false, List, [], ◌∷◌, map}
use Rattle.cb_insn.specs.declared.insn.Operand.{Operand}
use Rattle.cb_insn.specs.declared.insn.Operand.TheVariants as operands
use Rattle.cb_shapes.specs.declared.action.Action.{Action}
use Rattle.cb_shapes.specs.declared.action.Action.TheVariants as actions
use Rattle.cb_shapes.specs.declared.test.Condition.TheVariants as conditions

-- the targets of a branch or a switch, the default one first
abbrev pub targets_of : Operand → List ℕ
targets_of (operands.Branch target) = target ∷ []
targets_of (operands.Table default low targets) = default ∷ targets
targets_of (operands.Lookup default pairs) = default ∷ map (λ pair. pair.target) pairs
targets_of other = []

-- whether the next instruction may be reached from one. It isn't from goto, goto_w, the switches, athrow and the returns
abbrev pub goes_on : Action → Bool
goes_on (actions.Branch conditions.Always) = false
goes_on actions.Switch = false
goes_on actions.Throw = false
goes_on (actions.Return sort) = false
goes_on other = true
