use Rattle.std.proofs.Common.{sym, ◌∙◌}
use Rattle.cb_classfile.proofs.ClassParts.{tables_on, tables_found}
use Rattle.cb_classfile.proofs.Failing.{handed}
use Rattle.cb_classfile.proofs.Sequence.{found_whole, whole_by_first, whole_by_second}
use Rattle.cb_classfile.proofs.read.tables_of.Goals as goal

pub returns-in_err-flags : goal.returns-in_err-flags
returns-in_err-flags c = handed _ _ _ _ c.from_residual.ensures (λ class (minor, major, pool, spelled).
    whole_by_first c.in_err-flags.ensures _ (tables_on pool spelled))

pub returns-in_err-interfaces : goal.returns-in_err-interfaces
returns-in_err-interfaces c = handed _ _ _ _ c.from_residual-in_err-interfaces.ensures (λ class (minor, major, pool, spelled).
    whole_by_second c.in_ok-flags.ensures (whole_by_first c.in_err-interfaces.ensures) _ (tables_on (pool ∙ sym c.described-constants.ensures) spelled))

pub returns-in_err-fields : goal.returns-in_err-fields
returns-in_err-fields c = handed _ _ _ _ c.from_residual-in_err-fields.ensures (λ class (minor, major, pool, spelled).
    whole_by_second c.in_ok-flags.ensures (whole_by_second c.in_ok-interfaces.ensures (whole_by_first c.in_err-fields.ensures)) _ (tables_on (pool ∙ sym c.described-constants.ensures) spelled))

pub returns-in_err-methods : goal.returns-in_err-methods
returns-in_err-methods c = handed _ _ _ _ c.from_residual-in_err-methods.ensures (λ class (minor, major, pool, spelled).
    whole_by_second c.in_ok-flags.ensures (whole_by_second c.in_ok-interfaces.ensures (whole_by_second c.in_ok-fields.ensures (whole_by_first c.in_err-methods.ensures))) _ (tables_on (pool ∙ sym c.described-constants.ensures) spelled))

pub returns-in_err-_skipped : goal.returns-in_err-_skipped
returns-in_err-_skipped c = handed _ _ _ _ c.from_residual-in_err-_skipped.ensures (λ class (minor, major, pool, spelled).
    whole_by_second c.in_ok-flags.ensures (whole_by_second c.in_ok-interfaces.ensures (whole_by_second c.in_ok-fields.ensures (whole_by_second c.in_ok-methods.ensures c.in_err-_skipped.ensures))) _ (tables_on (pool ∙ sym c.described-constants.ensures) spelled))

pub returns : goal.returns
returns c =
    let (attributes, here, told) = c.in_ok-_skipped.ensures in
    tables_found c.described-constants.ensures (found_whole c.in_ok-flags.ensures.found (found_whole c.in_ok-interfaces.ensures.found (found_whole c.in_ok-fields.ensures.found (found_whole c.in_ok-methods.ensures.found here.found))))
