use Rattle.std.proofs.Common.{◌∙◌, ◌+◌, ◌-◌, ap, sym, refl, pred, arith, get_or}
use Rattle.cb_plain.specs.State.{Reference}
use Rattle.cb_heap.specs.Kept.{is_reference}
use Rattle.cb_heap.specs.Reading.{serial_of}
use Rattle.cb_mapheap.proofs.Calls.{put_store}
use Rattle.cb_mapheap.proofs.Found.{found_word, reference_in, start_at, written, written_lies}
use Rattle.cb_mapheap.proofs.Laws.{serial_is}
use Rattle.cb_mapheap.proofs.map_heap.MapHeapStore.put_ref.Goals as goal

pub place_of-place-requires-clause-low : goal.place_of-place-requires-clause-low
place_of-place-requires-clause-low c = (found_word is_reference refl c.args.at c.args.i c.self.invariant c.self.view_is c.requires.there).found.low

pub place_of-place-requires-clause-high : goal.place_of-place-requires-clause-high
place_of-place-requires-clause-high c = omega (arith, (found_word is_reference refl c.args.at c.args.i c.self.invariant c.self.view_is c.requires.there).found.high, c.deref.ensures.len, c.self.inside.starts.ok)

pub place_of-place-requires-clause-fits : goal.place_of-place-requires-clause-fits
place_of-place-requires-clause-fits c =
    let within = (found_word is_reference refl c.args.at c.args.i c.self.invariant c.self.view_is c.requires.there).within in
    rw c.deref.ensures.value (omega (arith, within, c.self.inside.words.ok, c.self.inside.words.small))

pub index_mut-requires : goal.index_mut-requires
index_mut-requires c =
    let within = (found_word is_reference refl c.args.at c.args.i c.self.invariant c.self.view_is c.requires.there).within in
    omega (arith, within, c.self.inside.words.ok, c.place_of-place.ensures, ap (λ starts. get_or starts (c.args.at - 1) 0) c.deref.ensures.value)

pub invariant_of-self : goal.invariant_of-self
invariant_of-self c =
    let here = found_word is_reference refl c.args.at c.args.i c.self.invariant c.self.view_is c.requires.there in
    let place = c.place_of-place.ensures ∙ ap (λ starts. start_at starts c.args.at + (3 + c.args.i)) c.deref.ensures.value in
    put_store c.place_of-place.result c.args.to c.self.invariant (written_lies c.place_of-place.result c.args.to c.self.invariant here place)

pub returns-clause-kept : goal.returns-clause-kept
returns-clause-kept c =
    let here = found_word is_reference refl c.args.at c.args.i c.self.invariant c.self.view_is c.requires.there in
    let place = c.place_of-place.ensures ∙ ap (λ starts. start_at starts c.args.at + (3 + c.args.i)) c.deref.ensures.value in
    written c.place_of-place.result c.args.to (Reference (serial_of pred c.args.to)) c.self.invariant c.self.view_is here place (reference_in _ _ c.args.to here.passes ∙ ap Reference (sym (serial_is c.args.to)))
