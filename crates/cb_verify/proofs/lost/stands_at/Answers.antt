use Rattle.std.proofs.Common.{◌∙◌, ap, sym, ℕ, List}
use Rattle.std.specs.Prelude.{◌==◌}
use Rattle.std.specs.List.{list_any}
use Rattle.std.specs.Option.{is_some}
use Rattle.cb_insn.specs.declared.insn.Insn.{Insn}
use Rattle.cb_link.specs.Named.{insn_in}
use Rattle.cb_verify.specs.Within.{Within}
use Rattle.cb_verify.proofs.Standing.{copied, stands}
use Rattle.cb_verify.proofs.lost.stands_at.Goals as goal

pub returns : goal.returns
returns c =
    c.is_some.ensures ∙ sym (copied c.instruction.result) ∙ ap is_some c.instruction.ensures
    ∙ ap (λ (code : List (ℕ × Insn)). is_some (insn_in code c.args.place)) c.method.invariant.2 ∙ stands c.method.inside.body.now.code c.args.place
    ∙ ap (λ (method : Within). list_any (λ (placed : ℕ × Insn). placed.0 == c.args.place) method.body.code) c.method.view_is
