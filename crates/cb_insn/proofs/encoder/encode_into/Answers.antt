use Rattle.std.proofs.Common.{sym, subst}
use Rattle.std.specs.List.{All}
use Rattle.std.proofs.lemmas.List.Elements.{All-get_or}
use Rattle.cb_insn.proofs.Written.{IsSpelled, each_spelled}
use Rattle.cb_insn.proofs.encoder.encode_into.Goals as goal

pub push_insn-requires : goal.push_insn-requires
push_insn-requires c =
    let all = subst (All IsSpelled) (sym c.as_slice-placed-items.ensures) (each_spelled c.args.code.now c.requires) in
    subst IsSpelled (sym c.placed-item.is) (All-get_or IsSpelled c.as_slice-placed-items.result.now c.loop-placed.placed-index c.placed-item.result c.loop-placed-test.true all)
