use Rattle.std.proofs.Common.{◌+◌, sym, ◌∙◌, ap, arith}
use Rattle.std.proofs.lemmas.List.{drop_all}
use Rattle.cb_classfile.specs.Attributes.{index_from}
use Rattle.cb_writer.proofs.Finding.{found_here, found_next}
use Rattle.cb_writer.proofs.attribute_names.least_index.Goals as goal

pub returns-then-is_text : goal.returns-then-is_text
returns-then-is_text c =
    let loop = c.loop-constant in
    sym (loop.invariant.1 ∙ found_here c.args.constants.now c.args.name.now loop.constant-index loop.index c.constant-item.result c.loop-constant-test.true c.constant-item.is (sym c.if-is_text.ensures))

pub loop-constant-preserved : goal.loop-constant-preserved
loop-constant-preserved c =
    let loop = c.loop-constant in (
      omega arith,
      loop.invariant.1 ∙ found_next c.args.constants.now c.args.name.now loop.constant-index loop.index (loop.index + 1) (loop.constant-index + 1) c.constant-item.result c.loop-constant-test.true c.constant-item.is (sym c.if-is_text.ensures) (omega arith) (omega arith),
    )

pub returns : goal.returns
returns c =
    let loop = c.loop-constant in
    sym (loop.invariant.1 ∙ ap (index_from loop.index c.args.name.now) (drop_all loop.constant-index c.args.constants.now c.loop-constant-test.false))
