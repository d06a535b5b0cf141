use Rattle.cb_dag.proofs.Searches.{top_within}
use Rattle.cb_dag.proofs.search.Search.step.Goals as goal

pub next_unseen-requires-clause-within : goal.next_unseen-requires-clause-within
next_unseen-requires-clause-within c = top_within _ _ _ _ _ _ c.requires.before c.requires.top
