use Rattle.std.proofs.Common.{◌∙◌, ◌<◌, sym, subst, refl, arith, Some, None, length}
use Rattle.std.proofs.lemmas.Result.{on_ok_weaker}
use Rattle.cb_points_to.specs.Closed.{has}
use Rattle.cb_points_to.specs.Says.{Had}
use Rattle.cb_points_to.proofs.Growing.{keeps_on}
use Rattle.cb_points_to.proofs.Looked.{fine, first_low, must_of, said_first, said_still, second_low}
use Rattle.cb_points_to.proofs.look.look_as_first.Goals as goal

pub expand-requires-clause-says : goal.expand-requires-clause-says
expand-requires-clause-says c =
    must_of c.args.constraints.now c.args.looked.now c.args.web.now c.requires.web c.args.inclusion.now c.requires.among (Some c.args.member.node) None c.args.member.site 0 (sym c.first_base.ensures ∙ c.if-not-is_at.ensures.yes)
    (sym c.in_default.ensures) c.requires.had refl

pub expand_targets-requires-clause-target : goal.expand_targets-requires-clause-target
expand_targets-requires-clause-target c = second_low c.args.constraints.now c.args.looked.now c.args.web.now c.requires.web c.args.inclusion.now c.requires.among c.in-Some.target (sym c.in-Some.ensures)

pub expand_targets-requires-clause-must : goal.expand_targets-requires-clause-must
expand_targets-requires-clause-must c = λ other there.
    must_of c.args.constraints.now c.args.looked.now c.args.web.now c.requires.web c.args.inclusion.now c.requires.among (Some c.args.member.node) (Some c.in-Some.target) c.args.member.site other
    (sym c.first_base.ensures ∙ c.if-not-is_at.ensures.yes) (sym c.in-Some.ensures) c.requires.had (c.requires.web.looked_had c.in-Some.target other there)

pub expand-requires-2-clause-named : goal.expand-requires-2-clause-named
expand-requires-2-clause-named c = fine c.args.constraints.now c.args.looked.now c.args.web.now c.requires.web c.args.inclusion.now c.requires.among

pub expand-requires-2-clause-says : goal.expand-requires-2-clause-says
expand-requires-2-clause-says c =
    must_of c.args.constraints.now c.args.looked.now c.args.web.now c.requires.web c.args.inclusion.now c.requires.among (Some c.args.member.node) (Some c.in-Some.target) c.args.member.site c.args.member.site
    (sym c.first_base.ensures ∙ c.if-not-is_at.ensures.yes) (sym c.in-Some.ensures) c.requires.had
    (subst (λ node. Had (has c.args.web.now.rows) node c.args.member.site) (sym c.if-target-member.false) c.requires.had)

pub returns : goal.returns
returns c =
    let first = sym c.first_base.ensures ∙ c.if-not-is_at.ensures.yes in
    let low : c.args.member.node < length c.args.looked.now = omega (arith, c.requires.web.looked_nodes, first_low c.args.constraints.now c.args.looked.now c.args.web.now c.requires.web c.args.inclusion.now c.requires.among c.args.member.node first) in
    let targets = c.in_ok-expand_targets.ensures in
    on_ok_weaker c.expand-2.result
    (λ own. record {
      keeps = keeps_on c.args.constraints.now c.args.looked.now c.args.web.now c.expand_targets.new.web c.expand-2.new.web targets.keeps own.keeps;
      says = said_first c.args.constraints.now c.args.looked.now c.expand-2.new.web c.args.inclusion.now c.args.member.node c.args.member.site low c.in-Some.target (sym c.in-Some.ensures)
          (λ other there. said_still c.args.constraints.now c.expand_targets.new.web c.expand-2.new.web own.keeps.grows c.args.inclusion.now c.args.member.site other (targets.says other there))
          (λ _. own.says);
    })
    c.expand-2.ensures
