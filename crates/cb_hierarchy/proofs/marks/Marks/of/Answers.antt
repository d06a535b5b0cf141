use Rattle.std.proofs.Common.{ℕ, ◌<◌, List, length, get_or, sym, subst, arith}
use Rattle.std.proofs.lemmas.List.{take_more}
use Rattle.std.proofs.lemmas.List.Elements.{Contains-get_or}
use Rattle.cb_hierarchy.proofs.Once.{marks_more}
use Rattle.cb_hierarchy.specs.Inner.{MarksList}
use Rattle.cb_hierarchy.proofs.marks.Marks.of.Goals as goal

pub loop-number-preserved : goal.loop-number-preserved
loop-number-preserved c =
    let numbers = c.args.numbers.now in
    let place = c.loop-number.number-index in
    let within : place < length numbers = omega arith in
    record {
      marked = subst (λ (list : List ℕ). MarksList list c.add.new.self) (sym (take_more numbers place 0 within)) (marks_more _ (get_or numbers place 0) c.loop-number.marks _ c.loop-number.invariant.marked c.in_ok-add.ensures.added);
      length =
          λ below.
          let as_many = c.loop-number.invariant.length below in
          let less = below (get_or numbers place 0) (Contains-get_or numbers place 0 within) in
          let same = c.in_ok-add.ensures.length (omega (arith, as_many, less)) in
          omega (arith, as_many, same);
    }
