use Rattle.std.proofs.Common.{◌∙◌, ◌+◌, ◌-◌, ap, refl, pos, arith, get_or}
use Rattle.std.specs.Int.{int_wrap, w64}
use Rattle.cb_plain.specs.State.{Number}
use Rattle.cb_heap.specs.Kept.{is_number}
use Rattle.cb_mapheap.proofs.Calls.{put_store}
use Rattle.cb_mapheap.proofs.Found.{found_word, number_in, start_at, written, written_lies}
use Rattle.cb_mapheap.proofs.map_heap.MapHeapStore.put.Goals as goal

pub place_of-place-requires-clause-low : goal.place_of-place-requires-clause-low
place_of-place-requires-clause-low c = (found_word is_number refl c.args.at c.args.i c.self.invariant c.self.view_is c.requires).found.low

pub place_of-place-requires-clause-high : goal.place_of-place-requires-clause-high
place_of-place-requires-clause-high c = omega (arith, (found_word is_number refl c.args.at c.args.i c.self.invariant c.self.view_is c.requires).found.high, c.deref.ensures.len, c.self.inside.starts.ok)

pub place_of-place-requires-clause-fits : goal.place_of-place-requires-clause-fits
place_of-place-requires-clause-fits c =
    let within = (found_word is_number refl c.args.at c.args.i c.self.invariant c.self.view_is c.requires).within in
    rw c.deref.ensures.value (omega (arith, within, c.self.inside.words.ok, c.self.inside.words.small))

pub index_mut-requires : goal.index_mut-requires
index_mut-requires c =
    let within = (found_word is_number refl c.args.at c.args.i c.self.invariant c.self.view_is c.requires).within in
    omega (arith, within, c.self.inside.words.ok, c.place_of-place.ensures, ap (λ starts. get_or starts (c.args.at - 1) 0) c.deref.ensures.value)

pub invariant_of-self : goal.invariant_of-self
invariant_of-self c =
    let here = found_word is_number refl c.args.at c.args.i c.self.invariant c.self.view_is c.requires in
    let place = c.place_of-place.ensures ∙ ap (λ starts. start_at starts c.args.at + (3 + c.args.i)) c.deref.ensures.value in
    put_store c.place_of-place.result c.args.word c.self.invariant (written_lies c.place_of-place.result c.args.word c.self.invariant here place)

pub returns-clause-kept : goal.returns-clause-kept
returns-clause-kept c =
    let here = found_word is_number refl c.args.at c.args.i c.self.invariant c.self.view_is c.requires in
    let place = c.place_of-place.ensures ∙ ap (λ starts. start_at starts c.args.at + (3 + c.args.i)) c.deref.ensures.value in
    written c.place_of-place.result c.args.word (Number (int_wrap w64 (pos c.args.word))) c.self.invariant c.self.view_is here place (number_in _ _ c.args.word here.passes)
