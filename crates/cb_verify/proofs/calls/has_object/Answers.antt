use Rattle.std.proofs.Common.{◌≡◌, ◌∙◌, ap, sym, subst, ◌∷◌, [], ◌+◌, drop, length, Bool, List, Option, Some, None, if◌then◌else◌}
use Rattle.cb_verify.specs.declared.verification_type.VerificationType.{VerificationType}
use Rattle.cb_verify.specs.declared.verification_type.VerificationType.TheVariants as types
use Rattle.cb_verify.specs.Calls.{popped}
use Rattle.cb_verify.specs.Members.{taken_types}
use Rattle.cb_verify.specs.Within.{Within}
use Rattle.cb_verify.proofs.Prefixes.{popped_nothing, popped_object}
use Rattle.cb_verify.proofs.calls.has_object.Goals as goal

abbrev left_if : Bool → List VerificationType → Option (List VerificationType)
left_if has rest = if has then Some rest else None

pub returns-then-has_arguments-clause-taken : goal.returns-then-has_arguments-clause-taken
returns-then-has_arguments-clause-taken c =
    popped_object c.args.method.now.program (taken_types c.args.member.now) c.args.frame.now.stack (types.Object c.args.kind) (length c.args.member.now.takes)
    (left_if c.has_value.result (drop (length c.args.member.now.takes + 1) c.args.frame.now.stack)) arguments object
  where
    arguments : popped c.args.method.now.program (taken_types c.args.member.now) c.args.frame.now.stack ≡ Some (drop (length c.args.member.now.takes) c.args.frame.now.stack)
    arguments =
        subst (λ (method : Within). popped method.program (taken_types c.args.member.now) c.args.frame.now.stack ≡ Some (drop (length c.args.member.now.takes) c.args.frame.now.stack)) c.method.view_is
        (c.has_arguments.ensures.taken ∙ ap (λ has. left_if has (drop (length c.args.member.now.takes) c.args.frame.now.stack)) c.if-has_arguments.true)

    object : popped c.args.method.now.program (types.Object c.args.kind ∷ []) (drop (length c.args.member.now.takes) c.args.frame.now.stack)
        ≡ left_if c.has_value.result (drop (length c.args.member.now.takes + 1) c.args.frame.now.stack)
    object = subst (λ n. popped c.args.method.now.program (types.Object c.args.kind ∷ []) (drop n c.args.frame.now.stack)
        ≡ left_if c.has_value.result (drop (n + 1) c.args.frame.now.stack)) c.count.ensures c.has_value.ensures.taken

pub returns-else-has_arguments-clause-taken : goal.returns-else-has_arguments-clause-taken
returns-else-has_arguments-clause-taken c =
    popped_nothing c.args.method.now.program (taken_types c.args.member.now) c.args.frame.now.stack (types.Object c.args.kind) arguments
    ∙ ap (λ has. left_if has (drop (length c.args.member.now.takes + 1) c.args.frame.now.stack)) (sym c.if-has_arguments.false)
  where
    arguments : popped c.args.method.now.program (taken_types c.args.member.now) c.args.frame.now.stack ≡ None
    arguments =
        subst (λ (method : Within). popped method.program (taken_types c.args.member.now) c.args.frame.now.stack ≡ None) c.method.view_is
        (c.has_arguments.ensures.taken ∙ ap (λ has. left_if has (drop (length c.args.member.now.takes) c.args.frame.now.stack)) c.if-has_arguments.false)
