-- The entry of a method (JVMS §2.5.2, §2.6, §6.5 invokestatic).
use Rattle.std.specs.Prelude.{ℕ, ◌+◌, List, ◌∷◌, if◌then◌else◌}
use Rattle.cb_classfile.specs.declared.body.Body.{Body}
use Rattle.cb_plain.specs.declared.value.Value.{Value}
use Rattle.cb_plain.specs.Depth.{frame_of, has_room}
use Rattle.cb_plain.specs.State.{Frame, State}
use Rattle.cb_plain.specs.Updates.{with_frames}
use Rattle.cb_machine.specs.Machine.{Machine}
use Rattle.cb_machine.specs.Plans.{Plan, leaving}
use Rattle.cb_machine.specs.Sites.{stack_overflow}
use Rattle.cb_machine.specs.Throwing.{throws}

-- a method with code is entered upon these frames, which leaves a state; or there is no room, and nothing else changes
abbrev pub entered_from : Machine → State → State → List Frame → ℕ → List Value → Body → Plan
entered_from machine state left frames method arguments body =
    if has_room machine.frames frames (body.max_locals + body.max_stack)
    then leaving (with_frames left (frame_of method body.max_locals body.max_stack arguments ∷ frames))
    else throws machine state stack_overflow

abbrev pub entered_upon : Machine → State → List Frame → ℕ → List Value → Body → Plan
entered_upon machine state frames method arguments body = entered_from machine state state frames method arguments body
