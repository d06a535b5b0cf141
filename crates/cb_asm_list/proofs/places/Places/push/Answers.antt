use Rattle.cb_asm_list.proofs.Placed.{pushed_again, pushed_first}
use Rattle.cb_asm_list.proofs.places.Places.push.Goals as goal

pub invariant_of-self-then-is_none : goal.invariant_of-self-then-is_none
invariant_of-self-then-is_none c =
    rw (c.in_ok-push.ensures.items, c.in_ok-lengthen.ensures.ok, c.len-number.ensures, c.self.inside.places.ok.0)
    (pushed_first c.self.inside.numbers.items c.self.inside.places.items c.args.place c.index.result.now c.self.invariant (rw c.in_ok-lengthen.ensures.ok at c.index.ensures) c.if-is_none.ensures)

pub invariant_of-self-else-is_none : goal.invariant_of-self-else-is_none
invariant_of-self-else-is_none c =
    rw (c.in_ok-push.ensures.items, c.in_ok-lengthen.ensures.ok)
    (pushed_again c.self.inside.numbers.items c.self.inside.places.items c.args.place c.index.result.now c.self.invariant (rw c.in_ok-lengthen.ensures.ok at c.index.ensures) c.if-is_none.ensures)
