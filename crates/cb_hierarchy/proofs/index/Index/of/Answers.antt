use Rattle.std.proofs.Common.{◌∙◌, ap, sym, subst, arith, map, take, ◌++◌, ◌∷◌, []}
use Rattle.std.specs.HashMap.{get}
use Rattle.cb_hierarchy.specs.InnerIndex.{IsIndexOf, same_member}
use Rattle.cb_hierarchy.proofs.IndexLaws.{inserted, kept, one_more, taken}
use Rattle.cb_hierarchy.proofs.index.Index.of.Goals as goal
use Rattle.cb_hierarchy.proofs.index.Index.of.Goals.{then-not-contains_key+in_ok-insert, else-not-contains_key}

pub loop-member-preserved : goal.loop-member-preserved
loop-member-preserved g c =
    let before = map g.T.Member.declared (take c.loop-member.member-index c.args.members.now) in
    let member = c.declared-declared.result in (
      omega arith,
      subst (λ members. IsIndexOf members (get same_member c.if-not-contains_key.numbers))
          (ap (λ member. before ++ member ∷ []) c.declared-declared.ensures
          ∙ sym (one_more g.T.Member.declared c.args.members.now c.loop-member.member-index c.member-item.result c.loop-member-test.true c.member-item.is))
          (elim c.if-not-contains_key.branch [
            | then-not-contains_key+in_ok-insert w ↦
                subst (λ numbers. IsIndexOf (before ++ member ∷ []) (get same_member numbers)) (sym w.numbers-is)
                (inserted before member c.loop-member.number (get same_member c.loop-member.numbers) (get same_member w.insert.new.self)
                (c.loop-member.invariant.0 ∙ taken g.T.Member.declared c.args.members.now c.loop-member.member-index c.loop-member-test.true)
                c.loop-member.invariant.1 (sym c.contains_key.ensures ∙ w.if-not-contains_key.true) w.in_ok-insert.ensures.updates.0)
            | else-not-contains_key w ↦
                subst (λ numbers. IsIndexOf (before ++ member ∷ []) (get same_member numbers)) (sym w.numbers-is)
                (kept before member (get same_member c.loop-member.numbers) c.loop-member.invariant.1 (sym c.contains_key.ensures ∙ w.if-not-contains_key.false))
          ]),
    )
