use Rattle.std.proofs.Common.{arith, refl, take}
use Rattle.cb_natives.proofs.Inputs.{asked_one, took_front}
use Rattle.cb_natives.proofs.input_natives.read_byte.Goals as goal

pub returns-clause-read : goal.returns-clause-read
returns-clause-read g c = record {
  bytes = take c.in_ok-moved.moved c.read_front.new.buffer;
  asked = asked_one g.I.Source.gave c.args.input.now c.read_front.new.input (take c.in_ok-moved.moved c.read_front.new.buffer) c.in_ok-moved.ensures.given
      (omega (arith, c.in_ok-moved.ensures.moved.size, c.in_ok-moved.ensures.moved.few));
  took = took_front (g.I.Source.left c.args.input.now) (g.I.Source.left c.read_front.new.input) 1 c.read_front.new.buffer c.in_ok-moved.moved refl c.in_ok-moved.ensures.moved;
  gives = c.byte_answer.ensures;
}
