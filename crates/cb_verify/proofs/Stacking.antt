-- Types on the operand stack, one after the other.
use Rattle.std.proofs.Common.{◌≡◌, ◌∙◌, ap, sym, refl, arith, ℕ, ◌+◌, ◌<◌, ◌≤◌, Bool, true, false, List, [], ◌∷◌, ◌++◌, drop, get_or, length, take, Option, Some, None, option_map, nat_le, cond}
use Rattle.std.proofs.lemmas.Bool.{cond-true, cond-false, leb-false, lt-leb}
use Rattle.std.proofs.lemmas.List.{take-append-drop, take_more, take_all}
use Rattle.std.proofs.lemmas.Option.{cond_some, same_Some}
use Rattle.cb_verify.specs.declared.verification_type.VerificationType.{VerificationType}
use Rattle.cb_verify.specs.Expansion.{frame_of, reversed}
use Rattle.cb_verify.specs.Frames.{Frame, has_this, height, is_legal, laid, with_stack}
use Rattle.cb_verify.specs.InnerLaid.{IsLaid, Laid, bare}
use Rattle.cb_verify.specs.Within.{Within}
use Rattle.cb_verify.proofs.LaidValues.{height-append}

reversed_push : (behind types : List VerificationType) (type : VerificationType) → reversed behind (types ++ type ∷ []) ≡ type ∷ reversed behind types
reversed_push behind [] type = refl
reversed_push behind (first ∷ types) type = reversed_push (first ∷ behind) types type

height-reversed : (behind types : List VerificationType) → height (reversed behind types) ≡ height behind + height types
height-reversed behind [] = omega arith
height-reversed behind (first ∷ types) = omega (arith, height-reversed (first ∷ behind) types)

-- a frame with a stack in place of another's
with_stack_of : (most : ℕ) (base frame : Frame) (stack : List VerificationType) → with_stack most base stack ≡ Some frame → record { locals = base.locals; stack = stack; unfinished = base.unfinished } ≡ frame
with_stack_of most base frame stack is = (cond_some (is_legal most stack) (record { locals = base.locals; stack = stack; unfinished = base.unfinished }) frame is).1

too_high : (most : ℕ) (base : Frame) (stack : List VerificationType) → with_stack most base stack ≡ None → most < height stack
too_high most base stack none = go (nat_le (height stack) most) refl
  where
    go : (legal : Bool) → nat_le (height stack) most ≡ legal → most < height stack
    go true is =
        let some : with_stack most base stack ≡ Some (record { locals = base.locals; stack = stack; unfinished = base.unfinished }) = cond-true (nat_le (height stack) most) (Some (record { locals = base.locals; stack = stack; unfinished = base.unfinished })) None is in
        cc
    go false is = leb-false (height stack) most is

pub stack_more : (most : ℕ) (base frame : Frame) (types : List VerificationType) (i : ℕ) (d : VerificationType) (next : Option Frame) → i < length types
    → with_stack most base (reversed [] (take i types)) ≡ Some frame → next ≡ with_stack most frame (get_or types i d ∷ frame.stack) → with_stack most base (reversed [] (take (i + 1) types)) ≡ next
stack_more most base frame types i d next within before pushed =
    ap (λ (some : List VerificationType). with_stack most base (reversed [] some)) (take_more types i d within)
    ∙ ap (with_stack most base) (reversed_push [] (take i types) (get_or types i d))
    ∙ ap (λ (own : Frame). with_stack most own (get_or types i d ∷ own.stack)) (with_stack_of most base frame (reversed [] (take i types)) before)
    ∙ sym pushed

pub stack_never : (most : ℕ) (base : Frame) (types : List VerificationType) (i : ℕ) → with_stack most base (reversed [] (take i types)) ≡ None → with_stack most base (reversed [] types) ≡ None
stack_never most base types i none =
    cond-false _ (Some (record { locals = base.locals; stack = reversed [] types; unfinished = base.unfinished })) None
    (lt-leb (height (reversed [] types)) most (omega (
      arith,
      too_high most base (reversed [] (take i types)) none,
      height-reversed [] (take i types),
      height-reversed [] types,
      height-append (take i types) (drop i types),
      ap height (take-append-drop i types),
    )))

-- a frame of values that lie
laid_from : (most : ℕ) (all : Laid) → IsLaid most all → laid most all.values ≡ Some all.locals
laid_from most all lies = go (laid most all.values) refl lies
  where
    go : (locals : Option (List VerificationType)) → laid most all.values ≡ locals
        → option_map {U = Laid} (λ (found : List VerificationType). record { values = all.values; locals = found }) locals ≡ Some all → laid most all.values ≡ Some all.locals
    go None at none = absurd (let never : None ≡ Some all = none in cc)
    go (Some locals) at some =
        let same : record { values = all.values; locals = locals } ≡ all = same_Some (record { values = all.values; locals = locals }) all some in
        at ∙ ap (λ (lain : Laid). Some lain.locals) same

pub framed : (method : Within) (all : Laid) (types : List VerificationType) → IsLaid method.body.max_locals all
    → frame_of method all.values types ≡ with_stack method.body.max_stack (bare all) (reversed [] types)
framed method all types lies =
    ap (λ (found : Option (List VerificationType)). cond (nat_le (height types) method.body.max_stack) (option_map whole found) None) (laid_from method.body.max_locals all lies)
    ∙ ap (λ (n : ℕ). cond (nat_le n method.body.max_stack) (Some (whole all.locals)) None) (let same : height types ≡ height (reversed [] types) = omega (arith, height-reversed [] types) in same)
  where
    whole : List VerificationType → Frame
    whole locals = record { locals = locals; stack = reversed [] types; unfinished = has_this all.values }
