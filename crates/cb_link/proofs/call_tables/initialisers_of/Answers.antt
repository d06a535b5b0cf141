use Rattle.std.proofs.Common.{◌∙◌}
use Rattle.std.specs.Prelude.{option_and_then}
use Rattle.cb_hierarchy.specs.Members.{method_of}
use Rattle.cb_link.specs.Calls.{initialiser}
use Rattle.cb_link.proofs.Grown.{all_more}
use Rattle.cb_link.proofs.call_tables.initialisers_of.Goals as goal

pub loop-index-preserved : goal.loop-index-preserved
loop-index-preserved c =
    all_more c.loop-index.index (initialiser c.args.resolver.now) c.loop-index.initialisers c.push.new.self c.declared.result c.loop-index.invariant
    (c.declared.ensures
    ∙ (λ i. option_and_then (λ signature. method_of (c.methods.ensures i) (c.in_ok-class.ensures.number i) signature) (c.method_signature-signature.ensures i)))
    c.in_ok-push.ensures.ok
