use Rattle.std.proofs.Common.{◌≡◌, ◌∙◌, sym, ap, arith, ◌-◌, ◌∷◌, drop}
use Rattle.cb_persistent.proofs.Places.{drop_behind}
use Rattle.cb_persistent.proofs.stack.PersistentStack.push.Goals as goal

pub returns : goal.returns
returns g c =
    drop_behind (c.len-count.result - 1) c.args.item c.self.inside.places c.in_ok-places-3.places
    (λ none. omega (arith, c.if-count-eq0.false, c.len-count.ensures, none)) c.in_ok-places-3.ensures.items (ap (λ n. n - 1) c.len-count.ensures)
    ∙ ap (λ rest. c.args.item ∷ rest) (ap (λ n. drop n c.self.inside.places) (sym none_free) ∙ c.self.view_is)
  where
    none_free : c.self.inside.free ≡ 0
    none_free = omega (arith, c.if-self-gt0.false)
