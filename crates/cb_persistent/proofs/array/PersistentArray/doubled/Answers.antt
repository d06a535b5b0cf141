use Rattle.std.proofs.Common.{◌∙◌, sym, ap, arith, length, length-append, replicate, ◌++◌}
use Rattle.std.proofs.lemmas.List.{length-replicate}
use Rattle.cb_persistent.specs.Trees.{items}
use Rattle.cb_persistent.proofs.Balance.{length-seen}
use Rattle.cb_persistent.proofs.Places.{filled_nothing}
use Rattle.cb_persistent.proofs.array.PersistentArray.doubled.Goals as goal

pub returns-then-self-eq0-clause-items : goal.returns-then-self-eq0-clause-items
returns-then-self-eq0-clause-items g c =
    c.empty.ensures ∙ filled_nothing c.args.self.now c.args.item (length-seen c.self.inside.tree c.self.inside.len c.args.self.now c.self.invariant c.self.view_is ∙ c.if-self-eq0.true)

pub returns-clause-items : goal.returns-clause-items
returns-clause-items g c =
    c.in_ok-tree.ensures.items
    ∙ ap (λ front. front ++ items c.in_ok-share.field-0) c.in_ok-front.ensures.less.same
    ∙ ap (λ behind. replicate c.self.inside.len c.args.item ++ behind) (c.in_ok-share.ensures.items ∙ c.self.view_is)
    ∙ ap (λ n. replicate n c.args.item ++ c.args.self.now) (sym (length-seen c.self.inside.tree c.self.inside.len c.args.self.now c.self.invariant c.self.view_is))

pub returns-clause-few : goal.returns-clause-few
returns-clause-few g c =
    omega (
      arith,
      ap length (returns-clause-items g c),
      length-append (replicate (length c.args.self.now) c.args.item) c.args.self.now,
      length-replicate (length c.args.self.now) c.args.item,
      length-seen c.self.inside.tree c.self.inside.len c.args.self.now c.self.invariant c.self.view_is,
    )
