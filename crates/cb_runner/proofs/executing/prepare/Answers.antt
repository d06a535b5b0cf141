use Rattle.std.proofs.Common.{subst}
use Rattle.cb_runner.specs.Inner.{AreTexts}
use Rattle.cb_runner.proofs.executing.prepare.Goals as goal

pub returns : goal.returns
returns c = record {
  store = c.in_ok-store.ensures;
  new = c.in_ok-roots.ensures.new;
  limit = c.in_ok-roots.ensures.limit;
  given = c.in_ok-given.ensures.are;
  texts = subst AreTexts c.in_ok-given.ensures.are c.in_ok-given.ensures.texts;
}
