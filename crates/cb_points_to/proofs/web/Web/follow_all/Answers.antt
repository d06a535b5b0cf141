use Rattle.std.proofs.Common.{◌≡◌, ◌∙◌, sym, ap, subst, arith, true, List, [], None, length, get_or, below_more}
use Rattle.std.proofs.lemmas.Option.{get_or_from_slice_get}
use Rattle.cb_points_to.specs.Closed.{has}
use Rattle.cb_points_to.specs.Lists.{InRow}
use Rattle.cb_points_to.specs.Says.{Had, lets}
use Rattle.cb_points_to.specs.declared.member.Edge.{Edge}
use Rattle.cb_points_to.proofs.Growing.{keeps_on}
use Rattle.cb_points_to.proofs.Marked.{from_all, in_row_at}
use Rattle.cb_points_to.proofs.web.Web.follow_all.Goals as goal

pub follow-requires : goal.follow-requires
follow-requires c =
    let web = (c.loop-at.invariant.1 c.requires.0 c.requires.1 c.requires.2).0.web in
    let there = in_row_at c.loop-at.self.edges c.args.member.node c.row-in-loop-at.result.now c.loop-at.at c.get-edge.result.now c.row-in-loop-at.ensures c.get-edge.ensures in
    (c.requires.0, c.args.member.node, record { web = web; link = web.links c.args.member.node c.get-edge.result.now.to c.get-edge.result.now.filter there; member = c.requires.2 })

pub loop-at-preserved : goal.loop-at-preserved
loop-at-preserved c =
    let there = in_row_at c.loop-at.self.edges c.args.member.node c.row-in-loop-at.result.now c.loop-at.at c.get-edge.result.now c.row-in-loop-at.ensures c.get-edge.ensures in
    let is : get_or (get_or c.args.self.now.edges c.args.member.node []) c.loop-at.at (record { to = 0; filter = None }) ≡ c.get-edge.result.now =
    ap (λ (all : List (List Edge)). get_or (get_or all c.args.member.node []) c.loop-at.at (record { to = 0; filter = None })) (sym c.loop-at.invariant.0)
    ∙ ap (λ (row : List Edge). get_or row c.loop-at.at (record { to = 0; filter = None })) (sym c.row-in-loop-at.ensures)
    ∙ get_or_from_slice_get c.row-in-loop-at.result.now c.loop-at.at c.get-edge.result.now (record { to = 0; filter = None }) c.get-edge.ensures in
    let first = (c.loop-at.invariant.1 c.requires.0 c.requires.1 c.requires.2).0.web in
    let now = c.in_ok-follow.ensures c.requires.0 c.args.member.node (record { web = first; link = first.links c.args.member.node c.get-edge.result.now.to c.get-edge.result.now.filter there; member = c.requires.2 }) in (
      now.edges ∙ c.loop-at.invariant.0,
      λ looked web must.
          let before = c.loop-at.invariant.1 looked web must in
          let followed = c.in_ok-follow.ensures looked c.args.member.node (record { web = before.0.web; link = before.0.web.links c.args.member.node c.get-edge.result.now.to c.get-edge.result.now.filter there; member = must }) in (
            keeps_on c.args.constraints.now looked c.args.self.now c.loop-at.self c.follow.new.self before.0 followed.keeps,
            below_more (λ k. lets c.args.constraints.now (get_or (get_or c.args.self.now.edges c.args.member.node []) k (record { to = 0; filter = None })).filter c.args.member.site ≡ true
                → Had (has c.follow.new.self.rows) (get_or (get_or c.args.self.now.edges c.args.member.node []) k (record { to = 0; filter = None })).to c.args.member.site) c.loop-at.at
                (λ k low passes. followed.keeps.grows.had _ _ (before.1 k low passes))
                (subst (λ (e : Edge). lets c.args.constraints.now e.filter c.args.member.site ≡ true → Had (has c.follow.new.self.rows) e.to c.args.member.site) (sym is) followed.passed),
          ),
    )

pub returns : goal.returns
returns c = λ looked web must.
    let done = c.loop-at.invariant.1 looked web must in
    record {
      keeps = done.0;
      edges = c.loop-at.invariant.0;
      passed = λ to filter there passes.
          from_all (λ (e : Edge). lets c.args.constraints.now e.filter c.args.member.site ≡ true → Had (has c.loop-at.self.rows) e.to c.args.member.site) (get_or c.args.self.now.edges c.args.member.node []) c.loop-at.at (record { to = 0; filter = None })
          done.1 (omega (arith, ap length c.row.ensures, c.len-at-end.ensures)) (record { to = to; filter = filter })
          (subst (λ (all : List (List Edge)). InRow all c.args.member.node (record { to = to; filter = filter })) c.loop-at.invariant.0 there) passes;
    }
