use Rattle.std.proofs.Common.{◌∙◌, arith, sym}
use Rattle.cb_heap.specs.Reading.{serial_of}
use Rattle.cb_natives.specs.Copies.{words_from}
use Rattle.cb_natives.specs.MakingOwn.{call_of}
use Rattle.cb_natives.proofs.RangeLaws.{numbers_fit, words_all}
use Rattle.cb_natives.proofs.range_copies.fitting_count.Goals as goal

pub returns-in_default : goal.returns-in_default
returns-in_default g c =
    let objects = (g.S.Store.storage c.args.store.now).kept in
    let source = serial_of (g.S.Store.storage c.args.store.now).index c.args.source in
    record {
      fit = λ frames beside.
          numbers_fit (call_of c.args.program.now objects frames beside) c.args.element (words_from objects source c.args.start c.args.count) c.in_default.not-Reference
          ∙ sym (words_all objects source c.args.start c.args.count);
      few = omega arith;
    }
