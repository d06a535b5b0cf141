-- What stands on the stack where a native is called, and what is left where it has answered.
use Rattle.std.specs.Prelude.{ℕ, ◌+◌, List, [], ◌∷◌, ◌++◌, drop, length, Option, Some}
use Rattle.cb_act.specs.Effects.{stacked}
use Rattle.cb_frames.specs.Tops.{placed, top_stack}
use Rattle.cb_link.specs.Having.{parameters_at}
use Rattle.cb_link.specs.Program.{Linked}
use Rattle.cb_link.specs.declared.decoded.Decoded.{Decoded}
use Rattle.cb_link.specs.declared.named.Named.{Named}
use Rattle.cb_link.specs.declared.named.Named.TheVariants as meanings
use Rattle.cb_natives.specs.declared.answers.Answer.{Answer}
use Rattle.cb_natives.specs.declared.answers.Answer.TheVariants as answers
use Rattle.cb_plain.specs.State.{Roots}
use Rattle.cb_plain.specs.declared.value.Value.{Value}
use Rattle.cb_plain.specs.declared.value.Value.TheVariants as values
use Rattle.cb_shapes.specs.declared.action.Action.{Action}
use Rattle.cb_shapes.specs.declared.action.Action.TheVariants as actions

-- how many arguments a call takes: as many as the method that it names has parameters, and the object, unless it is an invokestatic
abbrev pub receiver_count : Option Action → ℕ
receiver_count (Some (actions.InvokeStatic index)) = 0
receiver_count other = 1

abbrev pub count_by : Linked → Option Action → Named → ℕ
count_by program action (meanings.Method method) = length (parameters_at program method) + receiver_count action
count_by program action other = 0

abbrev pub argument_count : Linked → Decoded → ℕ
argument_count program decoded = count_by program decoded.action decoded.named

-- what an answer lays on the stack, and the roots where it stands in place of so many arguments, at the next place
abbrev pub answer_values : Answer → List Value
answer_values answers.Nothing = []
answer_values (answers.Int number) = values.Int number ∷ []
answer_values (answers.Long number) = values.Long number ∷ []

abbrev pub behind_answer : (count : ℕ) → List Value → (pc : ℕ) → Roots → Roots
behind_answer count answer pc roots = placed (stacked roots (answer ++ drop count (top_stack roots))) pc
