use Rattle.std.proofs.Common.{◌∙◌, ap, sym, subst, ◌++◌, map}
use Rattle.std.specs.List.{AllByRecursion}
use Rattle.cb_asm.proofs.Parts.{all_more, all_taken, fewer, one_more}
use Rattle.cb_asm.proofs.part.take_parts.Goals as goal

pub loop-part-smaller : goal.loop-part-smaller
loop-part-smaller g c = fewer c.loop-part.statements.items c.next_part.new.statements.items (g.T.Part.said c.in-Some.part) c.in-Some.ensures.1

pub loop-part-preserved : goal.loop-part-preserved
loop-part-preserved g c =
    let grown = c.in_ok-push.ensures.ok in (
      one_more g.T.Part.said c.args.statements.now.items c.loop-part.statements.items c.next_part.new.statements.items c.loop-part.parts c.in-Some.part c.loop-part.invariant.0 c.in-Some.ensures.1
          ∙ ap (λ parts. map g.T.Part.said parts ++ c.next_part.new.statements.items) (sym grown),
      subst (AllByRecursion g.T.Part.keeps) (sym grown) (all_more g.T.Part.keeps c.loop-part.parts c.in-Some.part c.loop-part.invariant.1 c.in-Some.ensures.0),
    )

pub returns : goal.returns
returns g c = all_taken g.T.Part.said g.T.Part.keeps c.args.statements.now.items c.loop-part.statements.items c.next_part.new.statements.items c.loop-part.parts c.loop-part.invariant.0 c.loop-part.invariant.1 c.in_default.ensures
