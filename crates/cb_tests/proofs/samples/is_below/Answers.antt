use Rattle.std.proofs.Common.{ℕ, List, subst, arith}
use Rattle.std.specs.Bool.{OnTrue}
use Rattle.cb_tests.proofs.Classes.{AllBelow, with_none, with_some}
use Rattle.cb_tests.proofs.samples.is_below.Goals as goal

pub returns-in_default : goal.returns-in_default
returns-in_default c =
    let below = subst (λ (others : List ℕ). OnTrue c.are_below.result (AllBelow others c.args.count)) c.as_slice.ensures c.are_below.ensures in
    with_none c.are_below.result c.args.class.now.superclass c.args.class.now.interfaces c.args.count c.in_default.is below

pub returns : goal.returns
returns c =
    let below = subst (λ (others : List ℕ). OnTrue c.are_below-2.result (AllBelow others c.args.count)) c.as_slice-2.ensures c.are_below-2.ensures in
    with_some c.are_below-2.result c.args.class.now.superclass c.in-Some.superclass c.args.class.now.interfaces c.args.count c.in-Some.is (omega arith) below
