use Rattle.std.proofs.Common.{◌≡◌, ◌<◌, arith, subst, sym, true, false, refl, length}
use Rattle.std.proofs.lemmas.List.{get_or_default}
use Rattle.cb_dag.proofs.Among.{in_front, in_rest}
use Rattle.cb_dag.proofs.Gathers.{known_but}
use Rattle.cb_dag.specs.Graphs.{HasEdge}
use Rattle.cb_dag.specs.Search.{IsFinishing, is_in}
use Rattle.cb_dag.proofs.roots.roots.Goals as goal

pub gather-requires-clause-within : goal.gather-requires-clause-within
gather-requires-clause-within c =
    c.loop-root.invariant.4 c.in-Some.root (subst (λ nodes. is_in c.in-Some.root nodes ≡ true) (sym c.in-Some.ensures) (in_front c.in-Some.root c.pop.new.self))

pub returns-clause-within : goal.returns-clause-within
returns-clause-within c = λ k d within.
    let inside = c.loop-root.invariant.3 k (omega (arith, within, c.loop-root.invariant.0.each)) (subst (λ nodes. is_in k nodes ≡ false) (sym c.in_default.ensures.0) refl) in
    subst (λ n. n < length c.args.grid.now) (get_or_default c.loop-root.roots.items k 0 d within) inside

pub loop-root-preserved : goal.loop-root-preserved
loop-root-preserved c = (
  c.in_ok-gather.ensures.roots,
  (subst (IsFinishing (HasEdge c.args.grid.now) (length c.args.grid.now)) c.in-Some.ensures c.loop-root.invariant.1).1,
  c.in_ok-gather.ensures.none,
  known_but c.args.grid.now c.loop-root.roots.items c.gather.new.roots.items c.loop-root.left c.pop.new.self c.in-Some.root c.in-Some.ensures c.loop-root.invariant.3
      c.in_ok-gather.ensures.known c.in_ok-gather.ensures.kept,
  λ node there. c.loop-root.invariant.4 node (subst (λ nodes. is_in node nodes ≡ true) (sym c.in-Some.ensures) (in_rest node c.in-Some.root c.pop.new.self there)),
)
