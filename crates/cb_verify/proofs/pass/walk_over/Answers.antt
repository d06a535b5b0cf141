use Rattle.std.proofs.Common.{◌≡◌, ◌∙◌, ap, sym, ℕ, List, [], Option, None, drop}
use Rattle.cb_insn.specs.declared.insn.Insn.{Insn}
use Rattle.cb_verify.specs.declared.pass.Walk.{Walk}
use Rattle.cb_verify.specs.InnerPassing.{walked}
use Rattle.cb_verify.specs.Typed.{Declared}
use Rattle.cb_verify.specs.Within.{Within}
use Rattle.cb_verify.specs.Frames.{Frame}
use Rattle.cb_verify.proofs.Dropped.{drop_end}
use Rattle.cb_verify.proofs.Walks.{walked_failing, walked_frames}
use Rattle.cb_verify.proofs.pass.walk_over.Goals as goal

ends : (method : Within) (frames : Declared) (first : Option Frame) (walk : Walk) (turn : ℕ) (code given own : List (ℕ × Insn))
    → drop turn code ≡ [] → code ≡ given → given ≡ own
    → walked method frames walk (drop turn code) ≡ walked method frames (record { arrived = first; frames = []; failing = None }) code
    → walk ≡ walked method frames (record { arrived = first; frames = []; failing = None }) own
ends method frames first walk turn code given own past one two so =
    sym (ap (walked method frames walk) past) ∙ so ∙ ap (walked method frames (record { arrived = first; frames = []; failing = None })) (one ∙ two)

whole : (c : goal.After-loop-turn) → c.loop-turn.walk ≡ walked c.args.method.now c.args.frames.now (record { arrived = c.args.first; frames = []; failing = None }) c.args.method.now.body.code
whole c =
    ends c.args.method.now c.args.frames.now c.args.first c.loop-turn.walk c.loop-turn.turn c.as_slice-code.result.now c.method.inside.body.now.code
    c.args.method.now.body.code (drop_end c.as_slice-code.result.now c.loop-turn.turn c.loop-turn-test.false) c.as_slice-code.ensures
    (ap (λ (method : Within). method.body.code) c.method.view_is) c.loop-turn.invariant

pub returns-clause-frames : goal.returns-clause-frames
returns-clause-frames c =
    ap (λ (walk : Walk). walk.frames) (whole c)
    ∙ walked_frames c.args.method.now c.args.frames.now (record { arrived = c.args.first; frames = []; failing = None }) c.args.method.now.body.code

pub returns-clause-failing : goal.returns-clause-failing
returns-clause-failing c =
    ap (λ (walk : Walk). walk.failing) (whole c)
    ∙ walked_failing c.args.method.now c.args.frames.now (record { arrived = c.args.first; frames = []; failing = None }) c.args.method.now.body.code
