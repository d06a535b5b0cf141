use Rattle.std.proofs.Common.{◌≡◌, ℕ, ◌<◌, List, length, get_or, take, sym, ap, subst, ◌∙◌, arith, length-set}
use Rattle.std.proofs.lemmas.List.{get_or_default, take_all}
use Rattle.std.proofs.lemmas.Result.{IfOk-weaker}
use Rattle.std.specs.Prelude.{slice_get, Some}
use Rattle.std.specs.List.{Contains}
use Rattle.cb_hierarchy.specs.Inner.{list_at}
use Rattle.cb_hierarchy.specs.Orders.{in_turns}
use Rattle.cb_hierarchy.proofs.Turned.{all_made, one_more}
use Rattle.cb_hierarchy.proofs.rule.lists_by.Goals as goal

pub list-requires-clause-within : goal.list-requires-clause-within
list-requires-clause-within g c =
    let order = c.args.order.now in
    let place = c.loop-number.number-index in
    let within : place < length order = omega arith in
    subst (λ classes. get_or order place 0 < length classes) (sym c.requires.same)
    (c.requires.order.below (get_or order place 0) (place, within, sym (get_or_default order place 0 (get_or order place 0) within)))

pub index_mut-requires : goal.index_mut-requires
index_mut-requires g c =
    let order = c.args.order.now in
    let place = c.loop-number.number-index in
    let within : place < length order = omega arith in
    let known = c.requires.order.below (get_or order place 0) (place, within, sym (get_or_default order place 0 (get_or order place 0) within)) in
    omega (arith, known, c.loop-number.invariant.as_many, c.loop-number.lists.ok.0)

pub loop-number-preserved : goal.loop-number-preserved
loop-number-preserved g c =
    let order = c.args.order.now in
    let place = c.loop-number.number-index in
    let lists = c.loop-number.lists.items in
    let within : place < length order = omega arith in
    record {
      as_many = length-set lists (get_or order place 0) c.in_ok-list.list ∙ c.loop-number.invariant.as_many;
      made =
          λ first. one_more c.args.classes.now order first (g.R.Rule.rule c.args.rule.now) c.requires.local lists place (get_or order place 0) c.in_ok-list.list within
          (get_or_default order place 0 (get_or order place 0) within) c.loop-number.invariant.as_many (c.loop-number.invariant.made first)
          (c.in_ok-list.ensures ∙ ap (λ (lists : List (List ℕ)). g.R.Rule.rule c.args.rule.now (list_at lists) (get_or order place 0)) c.as_slice.ensures.value);
    }

pub returns-clause-each : goal.returns-clause-each
returns-clause-each g c =
    let order = c.args.order.now in
    let lists = c.loop-number.lists.items in
    let taken : take c.loop-number.number-index order ≡ take (length order) order = take_all _ _ (omega arith) ∙ sym (take_all _ _ (omega arith)) in
    let rule = g.R.Rule.rule c.args.rule.now in
    let classes = c.args.classes.now in
    IfOk-weaker c.collected.result (λ (list : List (List ℕ)). list ≡ lists) (λ list. (class : ℕ) → class < length classes → slice_get list class ≡ Some (in_turns rule (length classes) class))
    (λ list is class within. subst (λ (list : List (List ℕ)). slice_get list class ≡ Some (in_turns rule (length classes) class)) (sym is)
    (all_made classes order c.requires.order rule c.requires.local lists class (λ class turns among. c.loop-number.invariant.made c.requires.order class turns (subst (λ taken. Contains taken class) (sym taken) among)) within))
    c.collected.ensures
