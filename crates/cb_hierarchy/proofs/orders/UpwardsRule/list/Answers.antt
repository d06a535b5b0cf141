use Rattle.std.proofs.Common.{◌≡◌, ℕ, ◌<◌, List, [], ◌∷◌, ◌++◌, length, sym, ap, ◌∙◌, arith}
use Rattle.cb_hierarchy.proofs.Named.{lists_of_none, lists_of_one, superclass_among}
use Rattle.cb_hierarchy.specs.Inner.{list_at}
use Rattle.cb_hierarchy.proofs.orders.UpwardsRule.list.Goals as goal
use Rattle.cb_hierarchy.proofs.orders.UpwardsRule.list.Goals.{in-Some+in_ok-append, in_default}

pub bounds-lists-parent : goal.bounds-lists-parent
bounds-lists-parent c =
    omega (arith, c.requires.known.below c.args.number c.in-Some.parent (superclass_among c.args.self.now.classes.now c.args.number c.get-class.result.now c.get-class.ensures c.in-Some.parent c.in-Some.is))

joined : (number : ℕ) (start list more above : List ℕ) → start ≡ number ∷ [] → list ≡ start ++ more → above ≡ more → list ≡ number ∷ above
joined number start list more above is next same = next ∙ ap (λ (start : List ℕ). start ++ more) is ∙ ap (λ (more : List ℕ). number ∷ more) (sym same)

pub returns : goal.returns
returns c =
    let classes = c.args.self.now.classes.now in
    let lists = c.args.lists.now in
    let class = c.get-class.result.now in
    let start : c.push.new.self ≡ c.args.number ∷ [] = c.in_ok-push.ensures.ok ∙ ap (λ (list : List ℕ). list ++ c.args.number ∷ []) c.new-list.ensures in
    elim c.match-class.branch [
      | in-Some+in_ok-append w ↦
          let within : w.in-Some.parent < length lists = omega (arith, c.requires.known.below c.args.number w.in-Some.parent (superclass_among classes c.args.number class c.get-class.ensures w.in-Some.parent w.in-Some.is)) in
          joined c.args.number c.push.new.self c.match-class.list w.as_slice.result.now _ start (w.list-is ∙ w.in_ok-append.ensures)
          (lists_of_one classes c.args.number class c.get-class.ensures lists w.in-Some.parent w.index-lists-parent.result w.in-Some.is within w.index-lists-parent.is ∙ sym w.as_slice.ensures)
      | in_default w ↦
          w.list-is ∙ start ∙ ap (λ (list : List ℕ). c.args.number ∷ list) (sym (lists_of_none classes c.args.number class c.get-class.ensures (list_at lists) w.in_default.is))
    ]
