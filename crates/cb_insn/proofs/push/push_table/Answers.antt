use Rattle.std.proofs.Common.{◌≡◌, ℕ, List, ◌++◌, refl, ◌∙◌, append_assoc}
use Rattle.std.specs.Int.{w32}
use Rattle.std.proofs.lemmas.Int.{to_z-of_z}
use Rattle.std.proofs.lemmas.Result.{on_ok_weaker}
use Rattle.cb_insn.proofs.push.push_table.Goals as goal

-- parts, one behind the other
together : (padded default low high offsets start one two : List ℕ) → start ≡ padded → one ≡ start ++ default → two ≡ (one ++ low) ++ high → two ++ offsets ≡ padded ++ (default ++ (low ++ (high ++ offsets)))
together padded default low high offsets start one two is_start is_one is_two = simp (is_start, is_one, is_two, append_assoc) refl

pub returns : goal.returns
returns c =
    let bounds = rw (to_z-of_z w32 c.args.low c.ranges.low) at c.in_ok-push_bounds.ensures in
    let whole = together _ _ _ _ _ _ _ _ c.in_ok-push_padding.ensures c.in_ok-push_offset.ensures bounds in
    on_ok_weaker c.push_targets.result (λ is. is ∙ whole) c.push_targets.ensures
