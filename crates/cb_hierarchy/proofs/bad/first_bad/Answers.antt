use Rattle.std.proofs.Common.{◌≡◌, ℕ, ◌<◌, Bool, false, List, sym, ap, ◌∙◌, arith}
use Rattle.cb_hierarchy.proofs.Badly.{bad_found, not_bad}
use Rattle.cb_hierarchy.specs.InnerFinals.{is_bad}
use Rattle.cb_hierarchy.proofs.bad.first_bad.Goals as goal

pub returns-then-is_bad : goal.returns-then-is_bad
returns-then-is_bad c =
    let classes = c.args.classes.now in
    let methods = c.args.methods.now in
    let before : (other : ℕ) → other < c.loop-number.number → is_bad classes c.in_ok-above.above c.in_ok-overriding.overriding other ≡ false =
    λ other less. ap (λ (rows : List (List Bool)). is_bad classes rows c.in_ok-overriding.overriding other) (sym c.above.view_is)
    ∙ ap (λ (marks : List Bool). is_bad classes c.above.inside.rows.items marks other) (sym c.overriding-2.view_is)
    ∙ c.loop-number.invariant other less in (
      omega arith,
      bad_found classes methods c.in_ok-above.above c.in_ok-above.ensures.marks c.in_ok-overriding.overriding c.in_ok-overriding.ensures c.loop-number.number (sym c.is_bad.ensures ∙ c.if-is_bad.true),
      λ other less. not_bad classes methods c.in_ok-above.above c.in_ok-above.ensures.marks c.in_ok-overriding.overriding c.in_ok-overriding.ensures other (before other less),
    )

pub returns : goal.returns
returns c =
    let classes = c.args.classes.now in
    let methods = c.args.methods.now in
    let before : (other : ℕ) → other < c.loop-number.number → is_bad classes c.in_ok-above.above c.in_ok-overriding.overriding other ≡ false =
    λ other less. ap (λ (rows : List (List Bool)). is_bad classes rows c.in_ok-overriding.overriding other) (sym c.above.view_is)
    ∙ ap (λ (marks : List Bool). is_bad classes c.above.inside.rows.items marks other) (sym c.overriding-2.view_is)
    ∙ c.loop-number.invariant other less in
    λ class within. not_bad classes methods c.in_ok-above.above c.in_ok-above.ensures.marks c.in_ok-overriding.overriding c.in_ok-overriding.ensures class (before class (omega arith))
