use Rattle.std.proofs.Common.{All, sym, ◌∙◌, ap, subst, length, arith, length-drop}
use Rattle.std.proofs.lemmas.List.Elements.{All-nil}
use Rattle.cb_insn.specs.Faults.{standing_at}
use Rattle.cb_insn.specs.Inner.{IsRead, IsMarked}
use Rattle.cb_insn.proofs.Heads.{plain_read, plain_whole, plain_targets}
use Rattle.cb_insn.proofs.Walking.{apart, whole_size}
use Rattle.cb_insn.proofs.Building.{built_start, built_more, built_end}
use Rattle.cb_insn.proofs.decoder.instructions.Goals as goal

pub loop-pc-init : goal.loop-pc-init
loop-pc-init c = rw c.in_ok-code.ensures (built_start _ _)

pub instruction_at-requires-clause-whole : goal.instruction_at-requires-clause-whole
instruction_at-requires-clause-whole c =
    let parted = apart _ _ _ c.loop-pc.invariant.place c.requires.whole c.loop-pc-test.true in
    (parted.size, ap (standing_at c.loop-pc.pc) c.after-rest.ensures ∙ parted.reads)

pub overflow_add-pc-in-loop-pc : goal.overflow_add-pc-in-loop-pc
overflow_add-pc-in-loop-pc c =
    let size = whole_size c.loop-pc.pc c.after-rest.result.now c.in_ok-insn.size c.in_ok-insn.ensures.size in
    let rest = ap length c.after-rest.ensures in
    record { fits = omega (arith, size.1, rest, length-drop c.loop-pc.pc c.args.bytes.now, c.requires.short) }

pub loop-pc-smaller : goal.loop-pc-smaller
loop-pc-smaller c =
    let size = whole_size c.loop-pc.pc c.after-rest.result.now c.in_ok-insn.size c.in_ok-insn.ensures.size in
    let rest = ap length c.after-rest.ensures in
    omega (arith, size.0, size.1, rest, length-drop c.loop-pc.pc c.args.bytes.now)

pub loop-pc-preserved-in-Some : goal.loop-pc-preserved-in-Some
loop-pc-preserved-in-Some c =
    let plain = c.in-Some.ensures in
    let rest = c.after-rest.result.now in
    let read = subst (λ insn. IsRead c.loop-pc.pc insn rest) (sym c.plain.ensures) (plain_read c.loop-pc.pc c.in-Some.opcode rest plain) in
    let marked = subst (All (IsMarked c.args.starts.now)) (plain_targets c.loop-pc.pc c.in-Some.opcode rest plain) (All-nil (IsMarked c.args.starts.now)) in
    built_more _ _ _ _ _ _ _ _ c.loop-pc.invariant (λ i. omega (arith, c.type_inv.bytes i)) c.loop-pc-test.true c.after-rest.ensures read (plain_whole c.loop-pc.pc c.in-Some.opcode rest plain) marked c.in_ok-push.ensures.ok

pub loop-pc-preserved : goal.loop-pc-preserved
loop-pc-preserved c =
    built_more _ _ _ _ _ _ _ _ c.loop-pc.invariant (λ i. omega (arith, c.type_inv.bytes i)) c.loop-pc-test.true c.after-rest.ensures c.in_ok-insn.ensures.read c.in_ok-insn.ensures.size c.in_ok-insn.ensures.marked c.in_ok-push-2.ensures.ok

pub returns : goal.returns
returns c = built_end _ _ _ _ c.loop-pc.invariant c.requires.marks c.loop-pc-test.false c.requires.short
