use Rattle.std.proofs.Common.{◌++◌, ◌∙◌, [], ◌∷◌, ap, sym, false, arith}
use Rattle.std.proofs.lemmas.List.FromFn.{map-range_with_len_more}
use Rattle.cb_collector.specs.Known.{first_facts}
use Rattle.cb_collector.proofs.making.first_facts.Goals as goal

pub loop-part-preserved : goal.loop-part-preserved
loop-part-preserved c = c.in_ok-push.ensures.ok ∙ ap (λ facts. facts ++ first_facts false c.loop-part.part ∷ []) c.loop-part.invariant ∙ sym (map-range_with_len_more (first_facts false) 0 c.loop-part.part c.loop-part.part (omega arith))
