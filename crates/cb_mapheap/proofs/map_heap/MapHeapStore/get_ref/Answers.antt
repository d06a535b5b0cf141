use Rattle.std.proofs.Common.{◌∙◌, ◌+◌, ◌-◌, ap, sym, refl, arith, get_or, Some}
use Rattle.cb_plain.specs.State.{Reference}
use Rattle.cb_heap.specs.Kept.{is_reference}
use Rattle.cb_mapheap.proofs.Found.{found_word, reference_in, word_read}
use Rattle.cb_mapheap.proofs.Laws.{serial_is}
use Rattle.cb_mapheap.proofs.map_heap.MapHeapStore.get_ref.Goals as goal

pub place_of-requires-clause-high : goal.place_of-requires-clause-high
place_of-requires-clause-high c = omega (arith, (found_word is_reference refl c.args.at c.args.i c.self.invariant c.self.view_is c.requires).found.high, c.deref.ensures.len, c.self.inside.starts.ok)

pub place_of-requires-clause-low : goal.place_of-requires-clause-low
place_of-requires-clause-low c = (found_word is_reference refl c.args.at c.args.i c.self.invariant c.self.view_is c.requires).found.low

pub place_of-requires-clause-fits : goal.place_of-requires-clause-fits
place_of-requires-clause-fits c =
    let within = (found_word is_reference refl c.args.at c.args.i c.self.invariant c.self.view_is c.requires).within in
    rw c.deref.ensures.value (omega (arith, within, c.self.inside.words.ok, c.self.inside.words.small))

pub index-requires : goal.index-requires
index-requires c =
    let within = (found_word is_reference refl c.args.at c.args.i c.self.invariant c.self.view_is c.requires).within in
    omega (arith, within, c.self.inside.words.ok, c.place_of.ensures, ap (λ starts. get_or starts (c.args.at - 1) 0) c.deref.ensures.value)

pub returns : goal.returns
returns c =
    let here = found_word is_reference refl c.args.at c.args.i c.self.invariant c.self.view_is c.requires in
    let word = word_read c.self.inside.words.items c.args.at (3 + c.args.i) c.deref.ensures.value c.place_of.ensures here.within c.index.ensures in
    here.content ∙ ap Some (reference_in _ _ _ here.passes) ∙ ap (λ word. Some (Reference word)) (word ∙ sym (serial_is c.index.result.now))
