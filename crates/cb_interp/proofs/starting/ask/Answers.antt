use Rattle.std.proofs.Common.{◌∙◌, ap, arith, inr, min, subst, sym, ◌+◌, [], length, List}
use Rattle.std.proofs.lemmas.List.Sums.{fold-append}
use Rattle.std.specs.List.{flat_map, fold}
use Rattle.cb_machine.specs.Sites.{system_in, system_out}
use Rattle.cb_plain.specs.Requests.{add_want, most_words}
use Rattle.cb_plain.specs.declared.want.Want.{Want}
use Rattle.cb_interp.specs.Arguments.{AskedFor, TheArray, array_want, bare_want, stream_wants, text_wants}
use Rattle.cb_interp.proofs.TurnsStartingRoom.{added_length}
use Rattle.cb_interp.proofs.starting.ask.Goals as goal

pub ask_texts-requires-clause-asked : goal.ask_texts-requires-clause-asked
ask_texts-requires-clause-asked c =
    let count = length c.args.given.now in
    subst AskedFor (sym (c.add.ensures ∙ ap (λ (wants : List Want). add_want wants (array_want count)) c.clear.ensures)) (TheArray (min (3 + count) most_words))

pub add-requires-3 : goal.add-requires-3
add-requires-3 c =
    let few = c.ask_texts.ensures.few in
    let more = added_length c.ask_texts.new.request (bare_want system_out) in
    let same = ap (λ (wants : List Want). length wants) c.add-2.ensures in
    inr (omega (arith, few, more, same))

pub returns : goal.returns
returns c =
    let given = c.args.given.now in
    let first : List Want = add_want [] (array_want (length given)) in
    c.add-3.ensures
    ∙ ap (λ (wants : List Want). add_want wants (bare_want system_in))
    (c.add-2.ensures
    ∙ ap (λ (wants : List Want). add_want wants (bare_want system_out))
    (c.ask_texts.ensures.wants
    ∙ ap (λ (wants : List Want). fold add_want wants (flat_map text_wants given))
    (c.add.ensures ∙ ap (λ (wants : List Want). add_want wants (array_want (length given))) c.clear.ensures)))
    ∙ sym (fold-append add_want first (flat_map text_wants given) stream_wants)
