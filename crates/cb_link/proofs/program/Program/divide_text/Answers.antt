use Rattle.std.proofs.Common.{◌≡◌, ◌∙◌, Some, ap, sym}
use Rattle.std.specs.Prelude.{slice_get}
use Rattle.std.proofs.lemmas.Option.{slice_get_within}
use Rattle.cb_link.specs.Making.{divide_text}
use Rattle.cb_link.proofs.program.Program.divide_text.Goals as goal

pub returns-clause-text : goal.returns-clause-text
returns-clause-text c = ap (λ program. slice_get program.constants 0) (sym c.self.view_is) ∙ ap (λ texts. slice_get texts 0) c.self.invariant.whole.texts

pub returns-clause-within : goal.returns-clause-within
returns-clause-within c =
    let first : slice_get c.args.self.now.constants 0 ≡ Some divide_text = ap (λ program. slice_get program.constants 0) (sym c.self.view_is) ∙ ap (λ texts. slice_get texts 0) c.self.invariant.whole.texts in
    slice_get_within c.args.self.now.constants 0 divide_text first
