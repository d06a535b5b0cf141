use Rattle.std.proofs.Common.{◌≡◌, ◌∙◌, ◌+◌, ap, length, nat_le, rules}
use Rattle.std.proofs.lemmas.Bool.{le-ltb}
use Rattle.cb_frames.proofs.Stacked.{room_decided, room_denied}
use Rattle.cb_frames.proofs.frame_stack.FrameStack.has_room.Goals as goal

pub returns-then-self-gt0 : goal.returns-then-self-gt0
returns-then-self-gt0 c =
    let size : c.len.result ≡ length c.self.inside.slots = search rules in
    ap (nat_le (c.self.inside.top.end + c.args.slots)) size ∙ room_decided _ _ _ _ _ _ _ _ c.self.view_is c.self.invariant c.if-self-gt0.true

pub returns-else-self-gt0 : goal.returns-else-self-gt0
returns-else-self-gt0 c = le-ltb 0 c.self.inside.free c.if-self-gt0.false ∙ room_denied _ _ _ _ _ _ _ _ c.self.view_is c.self.invariant c.if-self-gt0.false
