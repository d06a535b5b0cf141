use Rattle.std.proofs.Common.{◌≡◌, ◌∙◌, ap, subst, sym, List, Option}
use Rattle.std.specs.Option.{option_and_then}
use Rattle.std.specs.Result.{IfOk}
use Rattle.cb_shapes.specs.Shuffles.{shuffled}
use Rattle.cb_verify.specs.declared.verification_type.VerificationType.{VerificationType}
use Rattle.cb_verify.specs.Frames.{with_stack}
use Rattle.cb_verify.specs.Types.{category}
use Rattle.cb_verify.proofs.Shuffling.{dup2_is, dup2_x1_is, dup2_x2_is, dup_is, dup_x1_is, dup_x2_is, pop2_is, pop_is, swap_is}
use Rattle.cb_verify.proofs.type_frame.TypeFrame.shuffled.Goals as goal

pub returns-in-Pop : goal.returns-in-Pop
returns-in-Pop c =
    subst (λ (stack : Option (List VerificationType)). IfOk c.dropped.result (λ frame. frame ≡ option_and_then (with_stack c.args.most c.args.self.now) stack))
    (sym (ap (λ shuffle. shuffled category shuffle c.args.self.now.stack) c.in-Pop.is ∙ pop_is c.args.self.now.stack)) c.dropped.ensures

pub returns-in-Pop2 : goal.returns-in-Pop2
returns-in-Pop2 c =
    subst (λ (stack : Option (List VerificationType)). IfOk c.dropped-in-Pop2.result (λ frame. frame ≡ option_and_then (with_stack c.args.most c.args.self.now) stack))
    (sym (ap (λ shuffle. shuffled category shuffle c.args.self.now.stack) c.in-Pop2.is ∙ pop2_is c.args.self.now.stack)) c.dropped-in-Pop2.ensures

pub returns-in-Dup : goal.returns-in-Dup
returns-in-Dup c =
    subst (λ (stack : Option (List VerificationType)). IfOk c.copied.result (λ frame. frame ≡ option_and_then (with_stack c.args.most c.args.self.now) stack))
    (sym (ap (λ shuffle. shuffled category shuffle c.args.self.now.stack) c.in-Dup.is ∙ dup_is c.args.self.now.stack)) c.copied.ensures

pub returns-in-DupX1 : goal.returns-in-DupX1
returns-in-DupX1 c =
    subst (λ (stack : Option (List VerificationType)). IfOk c.copied-in-DupX1.result (λ frame. frame ≡ option_and_then (with_stack c.args.most c.args.self.now) stack))
    (sym (ap (λ shuffle. shuffled category shuffle c.args.self.now.stack) c.in-DupX1.is ∙ dup_x1_is c.args.self.now.stack)) c.copied-in-DupX1.ensures

pub returns-in-DupX2 : goal.returns-in-DupX2
returns-in-DupX2 c =
    subst (λ (stack : Option (List VerificationType)). IfOk c.copied-in-DupX2.result (λ frame. frame ≡ option_and_then (with_stack c.args.most c.args.self.now) stack))
    (sym (ap (λ shuffle. shuffled category shuffle c.args.self.now.stack) c.in-DupX2.is ∙ dup_x2_is c.args.self.now.stack)) c.copied-in-DupX2.ensures

pub returns-in-Dup2 : goal.returns-in-Dup2
returns-in-Dup2 c =
    subst (λ (stack : Option (List VerificationType)). IfOk c.copied-in-Dup2.result (λ frame. frame ≡ option_and_then (with_stack c.args.most c.args.self.now) stack))
    (sym (ap (λ shuffle. shuffled category shuffle c.args.self.now.stack) c.in-Dup2.is ∙ dup2_is c.args.self.now.stack)) c.copied-in-Dup2.ensures

pub returns-in-Dup2X1 : goal.returns-in-Dup2X1
returns-in-Dup2X1 c =
    subst (λ (stack : Option (List VerificationType)). IfOk c.copied-in-Dup2X1.result (λ frame. frame ≡ option_and_then (with_stack c.args.most c.args.self.now) stack))
    (sym (ap (λ shuffle. shuffled category shuffle c.args.self.now.stack) c.in-Dup2X1.is ∙ dup2_x1_is c.args.self.now.stack)) c.copied-in-Dup2X1.ensures

pub returns-in-Dup2X2 : goal.returns-in-Dup2X2
returns-in-Dup2X2 c =
    subst (λ (stack : Option (List VerificationType)). IfOk c.copied-in-Dup2X2.result (λ frame. frame ≡ option_and_then (with_stack c.args.most c.args.self.now) stack))
    (sym (ap (λ shuffle. shuffled category shuffle c.args.self.now.stack) c.in-Dup2X2.is ∙ dup2_x2_is c.args.self.now.stack)) c.copied-in-Dup2X2.ensures

pub returns-in-Swap : goal.returns-in-Swap
returns-in-Swap c =
    subst (λ (stack : Option (List VerificationType)). IfOk c.swapped.result (λ frame. frame ≡ option_and_then (with_stack c.args.most c.args.self.now) stack))
    (sym (ap (λ shuffle. shuffled category shuffle c.args.self.now.stack) c.in-Swap.is ∙ swap_is c.args.self.now.stack)) c.swapped.ensures
