use Rattle.std.proofs.Common.{inl, inr, sym, ◌∙◌}
use Rattle.std.proofs.lemmas.Bool.{false≢true}
use Rattle.cb_names.proofs.ClassNames.{behind_slash, behind_unit, no_rest}
use Rattle.cb_names.proofs.class_name.begun_behind.Goals as goal

pub returns-then-may_stand_in_name : goal.returns-then-may_stand_in_name
returns-then-may_stand_in_name c = λ rest. behind_unit c.args.begun c.args.unit rest (c.may_stand_in_name.ensures.0 c.if-may_stand_in_name.true)

pub returns-then-begun : goal.returns-then-begun
returns-then-begun c = λ rest. rw c.if-unit-eq-SLASH.true (behind_slash c.args.begun rest c.if-begun.true)

pub returns-else-unit-eq-SLASH : goal.returns-else-unit-eq-SLASH
returns-else-unit-eq-SLASH c = λ rest.
    no_rest _ _ rest (λ is begun. elim c.else-unit-eq-SLASH.either [ inl slashed ↦ false≢true (sym slashed.1 ∙ begun) | inr other ↦ other is ])
    (λ may. false≢true (sym c.if-may_stand_in_name.false ∙ c.may_stand_in_name.ensures.1 may))
