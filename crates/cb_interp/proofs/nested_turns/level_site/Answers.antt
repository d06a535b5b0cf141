use Rattle.std.proofs.Common.{◌∙◌, ap, sym}
use Rattle.cb_machine.specs.Machine.{or_zero}
use Rattle.cb_interp.specs.Nested.{site_at}
use Rattle.cb_interp.proofs.nested_turns.level_site.Goals as goal

pub returns : goal.returns
returns c =
    let here = c.site_here.ensures.here in
    sym (ap (λ top. site_at c.args.program.now top c.args.dimension) here.top ∙ ap or_zero (c.requires.tells here.method here.pc c.args.dimension c.site_here.result here.is))
