use Rattle.std.proofs.Common.{sym, ◌∙◌}
use Rattle.cb_text.proofs.next_constant.next_constant.Goals as goal

pub returns-in-None : goal.returns-in-None
returns-in-None c = λ constant rest (first, spelled, split).
    absurd (c.in-None.ensures constant rest (first, spelled, sym c.in-Some.ensures.cases.0 ∙ split))
