use Rattle.std.proofs.Common.{◌≡◌, ◌∙◌, ap, ap₂, arith, below_more, length, map, subst, sym, ℕ, List, [], ◌∷◌, ◌++◌}
use Rattle.std.specs.List.{range_with_len}
use Rattle.cb_verify.specs.Framed.{FramesStand, frames_in, typing_of}
use Rattle.cb_verify.specs.Frames.{Frame}
use Rattle.cb_verify.specs.Typed.{IsTyped}
use Rattle.cb_verify.specs.Within.{within}
use Rattle.cb_verify.proofs.FramedLaws.{frames_stand}
use Rattle.cb_verify.proofs.Numbered.{map_more}
use Rattle.cb_verify.proofs.verifying.verify.Goals as goal

pub loop-method-preserved : goal.loop-method-preserved
loop-method-preserved c = (
  c.in_ok-push-in-None.ensures.ok
      ∙ ap₂ (λ (list : List (List (ℕ × Frame))) (own : List (ℕ × Frame)). list ++ own ∷ []) c.loop-method.invariant.0 (c.in_ok-of-in-None.ensures ∙ c.in_ok-passed.ensures.frames)
      ∙ sym (map_more (λ (number : ℕ). frames_in (within c.args.program.now number)) c.loop-method.method),
  below_more _ _ c.loop-method.invariant.1 (sym c.in_ok-passed.ensures.failing ∙ c.in-None.is),
)

pub returns-clause-frames : goal.returns-clause-frames
returns-clause-frames c =
    let end : c.loop-method.method ≡ length c.args.program.now.methods = omega (arith, c.loop-method-test.false, c.loop-method.auto.method-end, c.method_count-method-end.ensures) in
    let same : c.of-2.result ≡ typing_of c.args.program.now =
    c.of-2.ensures ∙ c.loop-method.invariant.0 ∙ ap (λ count. map (λ number. frames_in (within c.args.program.now number)) (range_with_len 0 count)) end in
    let typed : IsTyped c.args.program.now = record { fit = λ method low. c.loop-method.invariant.1 method (omega (arith, low, end)) } in
    subst (FramesStand c.args.program.now) (sym same) (frames_stand c.args.program.now typed)
