use Rattle.std.proofs.Common.{◌≡◌, ℕ, ◌+◌, Bool, false, List, length, replicate, inl, inr, sym, subst, ap, ◌∙◌, arith}
use Rattle.std.proofs.lemmas.Bool.{cases_lt}
use Rattle.std.proofs.lemmas.List.{get_or-replicate, get_or_past, length-replicate}
use Rattle.cb_hierarchy.specs.Inner.{has}
use Rattle.cb_hierarchy.proofs.Badly.{AreOver, over_all, over_more, over_none, over_same}
use Rattle.cb_hierarchy.specs.InnerFinals.{overrides_final}
use Rattle.cb_hierarchy.proofs.overriding.overriding.Goals as goal
use Rattle.cb_hierarchy.proofs.overriding.overriding.Goals.{then-overrides_final+in_ok-add, else-overrides_final}

none_marked : (count class : ℕ) → has (replicate count false) class ≡ false
none_marked count class = elim (cases_lt class count) [
  | inl within ↦ get_or-replicate count class false false within
  | inr past ↦ get_or_past (replicate count false) class false (omega (arith, length-replicate count false))
]

pub loop-number-init : goal.loop-number-init
loop-number-init c = over_none c.args.classes.now c.args.methods.now c.in_ok-marks.marks (λ class. subst (λ (marks : List Bool). has marks class ≡ false) (sym c.in_ok-marks.ensures) (none_marked c.len.result class))

pub loop-number-preserved : goal.loop-number-preserved
loop-number-preserved c =
    let classes = c.args.classes.now in
    let methods = c.args.methods.now in
    let rows = c.in_ok-superclasses.superclasses in
    let lists = c.in_ok-lists.lists.items in
    let k = c.loop-number.number in
    let told : c.overrides_final.result ≡ overrides_final classes methods rows lists k = c.overrides_final.ensures ∙ ap (λ (lists : List (List ℕ)). overrides_final classes methods rows lists k) c.as_slice.ensures.value in
    elim c.if-overrides_final.branch [
      | then-overrides_final+in_ok-add w ↦
          subst (AreOver classes methods (k + 1)) (sym w.marks-is)
          (over_more classes methods rows c.in_ok-superclasses.ensures.marks lists c.in_ok-lists.ensures.lists k w.method.result.now c.loop-number.marks w.add.new.self w.method.ensures (sym told ∙ w.if-overrides_final.true) w.in_ok-add.ensures.added c.loop-number.invariant)
      | else-overrides_final w ↦
          subst (AreOver classes methods (k + 1)) (sym w.marks-is)
          (over_same classes methods rows c.in_ok-superclasses.ensures.marks lists c.in_ok-lists.ensures.lists k c.loop-number.marks (sym told ∙ w.if-overrides_final.false) c.loop-number.invariant)
    ]

pub returns : goal.returns
returns c =
    let all : c.loop-number.number ≡ length c.args.methods.now = omega arith in
    over_all c.args.classes.now c.args.methods.now c.loop-number.marks (subst (λ n. AreOver c.args.classes.now c.args.methods.now n c.loop-number.marks) all c.loop-number.invariant)
