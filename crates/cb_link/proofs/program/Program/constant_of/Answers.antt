use Rattle.std.proofs.Common.{◌∙◌, ◌≤◌, ap, length, arith}
use Rattle.cb_link.specs.InnerPlaces.{constant_of}
use Rattle.cb_link.proofs.ConstantAnswers.{nothing_there, told_there}
use Rattle.cb_link.proofs.program.Program.constant_of.Goals as goal

pub returns-then-class-len : goal.returns-then-class-len
returns-then-class-len c =
    c.told_at.ensures ∙ told_there c.self.inside.base c.self.inside.tables.code.constants.rows c.args.class c.row.result.now _ c.self.invariant.of_constants.rows c.row.ensures
    ∙ ap (λ program. constant_of program c.args.class c.args.index) c.self.view_is

pub returns-else-class-len : goal.returns-else-class-len
returns-else-class-len c =
    let past : length c.self.inside.tables.code.constants.rows ≤ c.args.class = omega (arith, c.if-class-len.false, c.len.ensures) in
    nothing_there c.self.inside.base c.self.inside.tables.code.constants.rows c.args.class c.args.index c.self.invariant.of_constants.rows past
    ∙ ap (λ program. constant_of program c.args.class c.args.index) c.self.view_is
