use Rattle.std.proofs.Common.{◌≡◌, ◌<◌, Some, arith, drop, length, length-drop, map, rules}
use Rattle.cb_frames.specs.declared.standing.What.TheVariants as whats
use Rattle.cb_frames.specs.Inner.{frame_as}
use Rattle.cb_frames.specs.Slots.{value_of}
use Rattle.cb_frames.specs.Tops.{shown_frame, topmost}
use Rattle.cb_frames.proofs.Stacked.{shown, topmost_is}
use Rattle.cb_frames.proofs.frame_stack.FrameStack.top.Goals as goal

pub returns-in-Method : goal.returns-in-Method
returns-in-Method c =
    let some : 0 < length (drop c.self.inside.free c.self.inside.below.items) = search (rules, length-drop, c.self.invariant.within) in
    shown (λ frames. Some (shown_frame (frame_as whats.Method (map value_of c.self.inside.slots) c.self.inside.top)) ≡ topmost frames) c.self.view_is
    (topmost_is (map value_of c.self.inside.slots) c.self.inside.top _ whats.Method some c.in-Method.is)

pub returns-in-Class : goal.returns-in-Class
returns-in-Class c =
    let some : 0 < length (drop c.self.inside.free c.self.inside.below.items) = omega (arith, length-drop c.self.inside.free c.self.inside.below.items, c.self.invariant.within) in
    shown (λ frames. Some (shown_frame (frame_as whats.Class (map value_of c.self.inside.slots) c.self.inside.top)) ≡ topmost frames) c.self.view_is
    (topmost_is (map value_of c.self.inside.slots) c.self.inside.top _ whats.Class some c.in-Class.is)
