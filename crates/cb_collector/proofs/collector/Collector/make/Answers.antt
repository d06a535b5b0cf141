use Rattle.std.proofs.Common.{◌∙◌, ap, replicate, true}
use Rattle.cb_collector.specs.Known.{facts_at_first}
use Rattle.cb_collector.proofs.New.{all_free, new_collecting}
use Rattle.cb_collector.proofs.collector.Collector.make.Goals as goal

pub invariant_of-result : goal.invariant_of-result
invariant_of-result g c =
    new_collecting c.args.heap c.args.graph c.requires c.args.output c.in_ok-facts.facts c.in_ok-all.all c.blocks_free-blocks.result c.parts-parts.ensures.graph
    (c.stay_unmarked.ensures.made c.args.heap.shapes c.args.heap.site_parts c.args.graph c.args.heap.memory.blocks c.args.heap c.requires) (c.in_ok-facts.ensures ∙ ap facts_at_first c.parts-parts.ensures.parts)
    (c.in_ok-all.ensures ∙ ap (λ n. replicate n true) c.parts-parts.ensures.parts) (all_free c.args.heap c.args.graph c.requires c.blocks_free-blocks.result c.blocks_free-blocks.ensures.free)
