use Rattle.std.proofs.Common.{◌∙◌, ◌-◌, ap, sym, arith, get_or}
use Rattle.cb_mapheap.proofs.Found.{found, header_within, word_read}
use Rattle.cb_mapheap.proofs.Laws.{serial_is}
use Rattle.cb_mapheap.proofs.map_heap.MapHeapStore.serial.Goals as goal

pub place_of-requires-clause-high : goal.place_of-requires-clause-high
place_of-requires-clause-high c = omega (arith, (found c.args.at c.self.invariant c.self.view_is c.requires).high, c.deref.ensures.len, c.self.inside.starts.ok)

pub place_of-requires-clause-fits : goal.place_of-requires-clause-fits
place_of-requires-clause-fits c =
    let within = header_within {at = c.args.at} 1 (omega arith) (found c.args.at c.self.invariant c.self.view_is c.requires) in
    rw c.deref.ensures.value (omega (arith, within, c.self.inside.words.ok, c.self.inside.words.small))

pub index-requires : goal.index-requires
index-requires c =
    let within = header_within {at = c.args.at} 1 (omega arith) (found c.args.at c.self.invariant c.self.view_is c.requires) in
    omega (arith, within, c.self.inside.words.ok, c.place_of.ensures, ap (λ starts. get_or starts (c.args.at - 1) 0) c.deref.ensures.value)

pub returns : goal.returns
returns c =
    let here = found c.args.at c.self.invariant c.self.view_is c.requires in
    let word = word_read c.self.inside.words.items c.args.at 1 c.deref.ensures.value c.place_of.ensures (header_within {at = c.args.at} 1 (omega arith) here) c.index.ensures in
    sym word ∙ here.begins.numbered ∙ sym (serial_is c.args.at)
