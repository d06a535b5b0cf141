use Rattle.std.proofs.Common.{Err, ◌∙◌, ℕ, refl, subst, sym}
use Rattle.cb_link.specs.declared.refusal.Refusal.TheVariants.{OutOfMemory}
use Rattle.cb_link.specs.Having.{IsWhole}
use Rattle.cb_link.specs.Judging.{HindersProgram}
use Rattle.cb_link.proofs.Handed.{handed, handed_from}
use Rattle.cb_link.proofs.WholeLaws.{whole_program}
use Rattle.cb_link.proofs.judging.program_of.Goals as goal

pub returns-in_err-base-clause-refused : goal.returns-in_err-base-clause-refused
returns-in_err-base-clause-refused c =
    handed (HindersProgram c.args.classes c.args.main) _ _ c.from_residual.ensures c.in_err-base.ensures.refused

pub returns-in_err-tables-clause-refused : goal.returns-in_err-tables-clause-refused
returns-in_err-tables-clause-refused c =
    handed_from {Gave = ℕ} (HindersProgram c.args.classes c.args.main) c.from_residual-in_err-tables.result (Err OutOfMemory) OutOfMemory c.from_residual-in_err-tables.ensures refl tt

pub of-requires-2 : goal.of-requires-2
of-requires-2 c =
    let made = c.in_ok-base.ensures.made in
    let tables = c.in_ok-tables.ensures in record {
      whole = subst IsWhole (sym made.2) (whole_program c.args.classes c.args.main made.0 made.1 c.requires.named);
      of_kinds = tables.of_members.of_kinds;
      of_fields = tables.of_members.of_fields;
      of_calls = tables.of_members.of_calls;
      of_constants = tables.of_code.of_constants;
      of_places = tables.of_code.of_places;
    }

pub returns-clause-made : goal.returns-clause-made
returns-clause-made c =
    let made = c.in_ok-base.ensures.made in
    (made.0, made.1, c.of-2.ensures ∙ made.2)
