use Rattle.std.proofs.Common.{◌∙◌, ap, arith, sym, List, map}
use Rattle.std.specs.Prelude.{zip}
use Rattle.cb_insn.specs.declared.insn.Insn.{Insn}
use Rattle.cb_core.specs.Recorded.{Entry, entered, with_insn}
use Rattle.cb_core.specs.Rowed.{insn_row}
use Rattle.cb_core.proofs.Making.{code_zipped, each_all_made, each_turn_made, insns_more}
use Rattle.cb_core.proofs.Coded.{code_all, code_more, code_room_turn, code_sound_turn, count}
use Rattle.cb_core.proofs.code.code_of.Goals as goal

pub insn_of-requires-clause-room : goal.insn_of-requires-clause-room
insn_of-requires-clause-room c = code_room_turn _ _ _ _ _ _ _ c.loop-i-test.true c.requires.room c.loop-i.invariant.gathers

pub insn_of-requires-clause-sound : goal.insn_of-requires-clause-sound
insn_of-requires-clause-sound c = code_sound_turn _ _ _ _ c.loop-i-test.true c.requires.placed c.requires.sound

pub get-requires : goal.get-requires
get-requires c = omega (arith, count _ _ c.requires.placed, c.loop-i-test.true)

pub loop-i-preserved : goal.loop-i-preserved
loop-i-preserved c = record {
  gathers = code_more _ _ _ _ _ _ _ _ _ _ _ c.loop-i-test.true c.in_ok-push.ensures.ok c.get.ensures c.loop-i.invariant.gathers c.in_ok-insn.ensures.put;
  made = each_turn_made insn_row (with_insn c.args.places.now) c.args.rows.now c.loop-i.i _ c.args.pool.now c.loop-i.pool _ (map (λ placed. placed.1) c.loop-i.code) _ _ c.loop-i-test.true
      (insns_more c.loop-i.code _ _ _ c.in_ok-push.ensures.ok) c.loop-i.invariant.made c.in_ok-insn.ensures.made;
}

pub returns-clause-put : goal.returns-clause-put
returns-clause-put c = code_all _ _ _ _ _ _ c.loop-i-test.false c.requires.placed c.loop-i.invariant.gathers

pub returns-clause-made : goal.returns-clause-made
returns-clause-made c =
    let put = code_all c.args.places.now c.args.rows.now c.loop-i.i c.args.pool.now c.loop-i.pool c.loop-i.code c.loop-i-test.false c.requires.placed c.loop-i.invariant.gathers in
    ap (λ (entry : Entry (List Insn)). entered entry.pool (zip c.args.places.now entry.thing)) (each_all_made insn_row (with_insn c.args.places.now) c.args.rows.now c.loop-i.i c.args.pool.now c.loop-i.pool (map (λ placed. placed.1) c.loop-i.code) c.loop-i-test.false c.loop-i.invariant.made)
    ∙ ap (λ code. entered c.loop-i.pool code) (code_zipped c.args.places.now c.loop-i.code (put.says.placed ∙ sym c.requires.placed))
