use Rattle.std.proofs.Common.{◌≡◌, ◌∙◌, ap, sym, subst, [], nat_lt}
use Rattle.cb_verify.specs.Frames.{has_this}
use Rattle.cb_verify.specs.InnerLaid.{Laid, bare}
use Rattle.cb_verify.specs.InnerLocals.{IsKnownTo}
use Rattle.cb_verify.proofs.Known.{known_laid}
use Rattle.cb_verify.proofs.LaidValues.{some_this}
use Rattle.cb_verify.proofs.laid.Laid.bare.Goals as goal

pub of-locals-requires : goal.of-locals-requires
of-locals-requires c =
    subst (λ locals. IsKnownTo c.self.inside.words locals) (sym c.in_ok-share.ensures)
    (known_laid c.self.inside.values.items c.self.inside.locals c.self.inside.words c.self.invariant.0 c.self.invariant.1)

pub returns : goal.returns
returns c =
    c.with_empty_stack.ensures
    ∙ subst (λ (self : Laid). record { locals = c.of-locals.result; stack = []; unfinished = nat_lt 0 c.self.inside.unfinished } ≡ bare self) c.self.view_is
    (let marks : nat_lt 0 c.self.inside.unfinished ≡ has_this c.self.inside.values.items = ap (nat_lt 0) c.self.invariant.2 ∙ sym (some_this c.self.inside.values.items) in
    let same = c.of-locals.ensures ∙ c.in_ok-share.ensures in
    cc)
