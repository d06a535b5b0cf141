-- Instructions that make the operand stack longer by one value, whatever stands there.
use Rattle.std.specs.Prelude.{Bool, true, false}
use Rattle.cb_shapes.specs.declared.action.Action.{Action}
use Rattle.cb_shapes.specs.declared.action.Action.TheVariants as actions
use Rattle.cb_shapes.specs.declared.computation.Computation.{Computation}
use Rattle.cb_shapes.specs.declared.computation.Computation.TheVariants as computations

abbrev pub lays_number : Computation → Bool
lays_number (computations.IntConstant number) = true
lays_number (computations.LongConstant number) = true
lays_number other = false

abbrev pub lays_one : Action → Bool
lays_one (actions.Compute computation) = lays_number computation
lays_one actions.Null = true
lays_one (actions.Constant index) = true
lays_one (actions.Load sort local) = true
lays_one (actions.GetStatic index) = true
lays_one (actions.New index) = true
lays_one other = false
