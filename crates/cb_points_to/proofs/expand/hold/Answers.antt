use Rattle.std.proofs.Common.{◌≡◌, ◌∙◌, sym, subst, Some, Option, ℕ}
use Rattle.std.proofs.lemmas.Result.{on_ok_weaker}
use Rattle.cb_points_to.specs.Closed.{has}
use Rattle.cb_points_to.specs.Says.{Had}
use Rattle.cb_points_to.proofs.Growing.{adds_keeps}
use Rattle.cb_points_to.proofs.expand.hold.Goals as goal

pub returns-in-Some : goal.returns-in-Some
returns-in-Some c = λ system looked web must.
    on_ok_weaker c.add.result
    (λ adds.
    let done = adds_keeps system looked c.args.web.now c.add.new.self c.in-Some.node c.args.site web (must c.in-Some.node c.in-Some.is) adds in
    record {
      keeps = done.0;
      had = λ at is. let e : ◌≡◌ {A = Option ℕ} (Some c.in-Some.node) (Some at) = sym c.in-Some.is ∙ is in let f : c.in-Some.node ≡ at = cc in subst (λ n. Had (has c.add.new.self.rows) n c.args.site) f done.2;
    })
    c.add.ensures
