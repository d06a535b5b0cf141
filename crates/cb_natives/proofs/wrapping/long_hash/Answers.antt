use Rattle.std.proofs.Common.{◌∙◌, pos, sym, w32, w64}
use Rattle.std.proofs.lemmas.Int.{to_z-of_z}
use Rattle.cb_arith.specs.Shifts.{long_shift}
use Rattle.cb_arith.specs.declared.shift.ShiftOp.TheVariants as shifts
use Rattle.cb_natives.proofs.Wraps.{hash_of_long_so}
use Rattle.cb_natives.proofs.wrapping.long_hash.Goals as goal
use mir.Val.{SFits}

pub returns : goal.returns
returns c =
    let number : SFits w64 c.args.number = c.ranges.number in
    let shifted : SFits w64 c.long_shift.result = record { sfits = c.long_shift.type_inv } in
    let result = to_z-of_z w32 c.low_int.result (record { sfits = c.low_int.type_inv }) in
    let shift = simp to_z-of_z at c.long_shift.ensures.exact in
    let xor = simp to_z-of_z at c.long_op.ensures.exact in
    let low = c.low_int.ensures in
    result ∙ hash_of_long_so c.args.number c.long_shift.result (long_shift shifts.Ushr c.args.number (pos 32)) c.in-Some.bits c.low_int.result shift (sym xor ∙ c.in-Some.is) low
