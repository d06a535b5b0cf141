use Rattle.std.proofs.Common.{◌≡◌, ◌<◌, ◌^◌, ℕ, arith, get_or, length}
use Rattle.cb_natives.proofs.Inputs.{front_read, given_front}
use Rattle.cb_natives.proofs.input.read_front.Goals as goal

pub returns-clause-moved : goal.returns-clause-moved
returns-clause-moved g c =
    let buffer = c.read.new.buf in
    let same : length c.read.new.buf ≡ length c.args.buffer.now = omega arith in
    let each : (place : ℕ) → get_or c.read.new.buf place 0 < 2 ^ 8 = λ place. (c.type_inv.buffer place).fits in
    front_read (g.I.Source.left c.args.input.now) (g.I.Source.left c.read.new.self) c.args.most c.read.new.buf c.read.result c.read.ensures.bound c.read.ensures.moved
    (omega (arith, same, c.requires.some)) (omega (arith, same, c.requires.few)) each

pub returns-clause-given : goal.returns-clause-given
returns-clause-given g c = given_front g.I.Source.gave c.args.input.now c.read.new.self (length c.args.buffer.now) c.read.new.buf c.read.result c.read.ensures.given c.requires.some
