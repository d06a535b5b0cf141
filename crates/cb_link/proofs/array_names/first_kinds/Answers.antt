use Rattle.std.proofs.Common.{◌≡◌, ◌∙◌, ◌∷◌, [], ◌++◌, ◌-◌, ap, take, arith}
use Rattle.cb_kinds.specs.Kinds.{kinds_of_type}
use Rattle.cb_link.proofs.FirstOnes.{enough, none_left, one_more}
use Rattle.cb_link.proofs.array_names.first_kinds.Goals as goal

pub loop-init : goal.loop-init
loop-init c =
    let whole : c.args.most - 0 ≡ c.args.most = omega arith in
    λ i. c.new-names.ensures i ++ take (whole i) (kinds_of_type c.args.text.now)

pub returns-in_default : goal.returns-in_default
returns-in_default c = none_left c.args.most c.loop.counter c.loop.names (kinds_of_type c.loop.rest.now) (kinds_of_type c.args.text.now) c.loop.invariant c.in_default.ensures

pub loop-preserved : goal.loop-preserved
loop-preserved c =
    one_more c.args.most c.loop.counter c.loop.names (kinds_of_type c.loop.rest.now) (kinds_of_type c.args.text.now) c.loop.invariant c.loop-test.true
    c.in-Some.kind.now (kinds_of_type c.in-Some.components.now) c.push.new.self c.in-Some.ensures
    (c.in_ok-push.ensures.ok ∙ ap (λ kind. c.loop.names ++ kind ∷ []) c.in_ok-units_of.ensures)

pub returns : goal.returns
returns c =
    let many = c.loop-test.false in
    enough c.args.most c.loop.counter c.loop.names (kinds_of_type c.loop.rest.now) (kinds_of_type c.args.text.now) c.loop.invariant (omega (arith, many))
