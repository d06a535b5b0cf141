use Rattle.std.proofs.Common.{arith}
use Rattle.cb_trace.proofs.Looking.{behind_next, looked_room, popped}
use Rattle.cb_trace.proofs.marking.mark_behind.Goals as goal

pub loop-at-smaller : goal.loop-at-smaller
loop-at-smaller g c =
    let first = c.requires.1 in
    let shapes = c.requires.2 in
    let b = c.loop-at.invariant c.requires.0 first shapes in
    let s = popped c.pop.new.self c.in-Some.at b.stands c.in-Some.ensures in
    let l = c.mark_object.ensures c.requires.0 b.looked (record { stands = s; shapes_are = shapes }) in
    omega (arith, l.counted, b.counted, l.some, looked_room l.stands, first.is.alike.blocks)

pub loop-at-preserved : goal.loop-at-preserved
loop-at-preserved g c given first shapes =
    let b = c.loop-at.invariant given first shapes in
    let s = popped c.pop.new.self c.in-Some.at b.stands c.in-Some.ensures in
    behind_next c.mark_object.new.words c.mark_object.new.grey c.in-Some.at c.mark_object.new.steps b (c.mark_object.ensures given b.looked (record { stands = s; shapes_are = shapes }))
