use Rattle.std.proofs.Common.{ℕ, ◌<◌, List, ◌++◌, length, sym, ap, ◌∙◌, arith}
use Rattle.cb_hierarchy.proofs.Named.{lists_of_none, lists_of_one, superclass_among}
use Rattle.cb_hierarchy.specs.Inner.{list_at}
use Rattle.cb_hierarchy.specs.Layout.{own_fields}
use Rattle.cb_hierarchy.proofs.layout.LayoutRule.list.Goals as goal
use Rattle.cb_hierarchy.proofs.layout.LayoutRule.list.Goals.{in-Some+in_ok-append, in_default}

pub bounds-lists-parent : goal.bounds-lists-parent
bounds-lists-parent c =
    omega (arith, c.requires.known.below c.args.number c.in-Some.parent (superclass_among c.args.self.now.classes.now c.args.number c.get.result.now c.get.ensures c.in-Some.parent c.in-Some.is))

pub returns : goal.returns
returns c =
    let classes = c.args.self.now.classes.now in
    let lists = c.args.lists.now in
    let class = c.get.result.now in
    c.in_ok-add_own_fields.ensures
    ∙ ap (λ (list : List ℕ). list ++ own_fields c.args.self.now.fields.now c.args.number)
    (elim c.match-get.branch [
      | in-Some+in_ok-append w ↦
          let within : w.in-Some.parent < length lists = omega (arith, c.requires.known.below c.args.number w.in-Some.parent (superclass_among classes c.args.number class c.get.ensures w.in-Some.parent w.in-Some.is)) in
          w.list-is ∙ w.in_ok-append.ensures ∙ ap (λ (list : List ℕ). list ++ w.as_slice.result.now) c.new-list.ensures
          ∙ w.as_slice.ensures
          ∙ sym (lists_of_one classes c.args.number class c.get.ensures lists w.in-Some.parent w.index-lists-parent.result w.in-Some.is within w.index-lists-parent.is)
      | in_default w ↦
          w.list-is ∙ c.new-list.ensures ∙ sym (lists_of_none classes c.args.number class c.get.ensures (list_at lists) w.in_default.is)
    ])
