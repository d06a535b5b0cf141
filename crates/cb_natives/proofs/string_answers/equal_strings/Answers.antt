use Rattle.std.proofs.Common.{◌∙◌, ◌∷◌, [], ap, sym, List, ℕ}
use Rattle.cb_heap.specs.Reading.{serial_of}
use Rattle.cb_machine.specs.Performing.{gives}
use Rattle.cb_machine.specs.Testing.{int_of}
use Rattle.cb_natives.specs.Answers.{call_on, on_given, with_units}
use Rattle.cb_machine.specs.Answering.{equal_texts, of_kind}
use Rattle.cb_natives.proofs.string_answers.equal_strings.Goals as goal

pub returns : goal.returns
returns g c =
    let objects = (g.S.Store.storage c.args.store.now).kept in
    let index = (g.S.Store.storage c.args.store.now).index in
    λ machine beside.
    let call = call_on machine objects beside in
    let go = λ (units : List ℕ). gives call (int_of (equal_texts call.state units (of_kind objects 8 (serial_of index c.args.other))) ∷ []) in
    c.text_in.ensures.text machine beside go ∙ ap (on_given call (with_units call index go)) c.in_ok-array.was
    ∙ ap (λ is. gives call (int_of is ∷ [])) (c.is_string_of.ensures machine beside) ∙ sym (c.truth.ensures call)
