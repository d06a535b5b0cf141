use Rattle.std.proofs.Common.{◌∙◌, sym}
use Rattle.cb_runner.specs.Inner.{given_of}
use Rattle.cb_runner.specs.Words.{none_given}
use Rattle.cb_runner.proofs.Options.{one_split}
use Rattle.cb_runner.proofs.limits.limits_of.Goals as goal

pub returns : goal.returns
returns c =
    let taken = c.take_all-taken.ensures in
    record {
      front = taken.front;
      last = given_of c.take_all-taken.result.told;
      are = taken.adds;
      steps_are = c.unwrap_or.ensures;
      frames_are = c.unwrap_or-2.ensures;
      blocks_are = c.unwrap_or-3.ensures;
      words_are = taken.words_are;
      told = λ other options word behind are is none.
          one_split none_given (given_of c.take_all-taken.result.told) other taken.front options _ behind word taken.adds taken.stops are (sym taken.words_are ∙ is) none;
    }
