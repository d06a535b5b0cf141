use Rattle.std.proofs.Common.{◌∙◌, ap, sym}
use Rattle.cb_heap.specs.Reading.{serial_of}
use Rattle.cb_natives.specs.Input.{count_number}
use Rattle.cb_natives.specs.declared.answers.Answer.TheVariants as answers
use Rattle.cb_natives.proofs.Inputs.{took_all}
use Rattle.cb_natives.proofs.input_natives.read_into.Goals as goal

pub returns-clause-read : goal.returns-clause-read
returns-clause-read g c =
    let takes = c.in_ok-taken.ensures.taken in
    record {
      bytes = takes.moves.bytes;
      asked = takes.moves.known;
      took = took_all g.I.Source.gave c.args.input.now c.read_range.new.input (g.I.Source.left c.args.input.now) (g.I.Source.left c.read_range.new.input) c.args.range.count (g.S.Store.storage c.args.store.now).kept (g.S.Store.storage c.read_range.new.store).kept
          (serial_of (g.S.Store.storage c.args.store.now).index c.args.range.at) c.args.range.from c.in_ok-taken.taken takes;
      stand = takes.moves.stand;
      gives = c.count_answer.ensures ∙ ap (λ count. answers.Int (count_number count)) (sym takes.moves.size);
    }
