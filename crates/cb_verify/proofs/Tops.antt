-- What is left by the topmost value, or by the one below so many.
use Rattle.std.proofs.Common.{◌≡◌, refl, ap, sym, subst, ◌∙◌, arith, ℕ, ◌+◌, ◌≤◌, Bool, true, false, List, [], ◌∷◌, length, drop, Option, Some, None, option_and_then, option_map, if◌then◌else◌}
use Rattle.std.specs.List.{slice_get}
use Rattle.cb_shapes.specs.declared.sort.Sort.{Sort}
use Rattle.cb_verify.specs.declared.verification_type.VerificationType.{VerificationType}
use Rattle.cb_verify.specs.Frames.{Frame, stored, with_locals, with_stack}
use Rattle.cb_verify.specs.Leaving.{all_replaced, constructed, finished, store, store_taken}
use Rattle.cb_verify.specs.Rules.{taken}
use Rattle.cb_verify.specs.Types.{is_of}
use Rattle.cb_verify.specs.Within.{Within}
use Rattle.cb_verify.proofs.Dropped.{drop_end, drop_next}

pub constructed_one : (method : Within) (kind : ℕ) (frame : Frame) (stack : List VerificationType) (i : ℕ) (object : VerificationType)
    → slice_get stack i ≡ Some object
    → constructed method kind frame (drop i stack)
    ≡ option_map (λ type. all_replaced object type frame (drop (i + 1) stack)) (finished method kind object)
constructed_one method kind frame stack i object have = ap (constructed method kind frame) (drop_next stack i object have)

pub constructed_none : (method : Within) (kind : ℕ) (frame : Frame) (stack : List VerificationType) (i : ℕ) → length stack ≤ i
    → constructed method kind frame (drop i stack) ≡ None
constructed_none method kind frame stack i short = ap (constructed method kind frame) (drop_end stack i short)

-- a store, by the value on top
whole : (stack : List VerificationType) (value : VerificationType) → slice_get stack 0 ≡ Some value → stack ≡ value ∷ drop 1 stack
whole [] value have = absurd (cc have)
whole (type ∷ stack) value have = cc have

abbrev off_if : VerificationType → List VerificationType → Bool → Option (List VerificationType × List VerificationType)
off_if value rest here = if here then option_map {T = List VerificationType × List VerificationType} {U = List VerificationType × List VerificationType} (λ more. (value ∷ more.0, more.1)) (Some ([], rest)) else None

off_top : (sort : Sort) (stack : List VerificationType) (value : VerificationType) (here : Bool) → slice_get stack 0 ≡ Some value → is_of sort value ≡ here
    → taken (sort ∷ []) stack ≡ off_if value (drop 1 stack) here
off_top sort stack value here have is = ap (taken (sort ∷ [])) (whole stack value have) ∙ ap (off_if value (drop 1 stack)) is

pub store_one : (method : Within) (sort : Sort) (local : ℕ) (frame : Frame) (value : VerificationType) → slice_get frame.stack 0 ≡ Some value
    → is_of sort value ≡ true
    → store method sort local frame
    ≡ option_and_then (λ locals. with_stack method.body.max_stack (with_locals frame locals) (drop 1 frame.stack)) (stored local value frame.locals)
store_one method sort local frame value have is = ap (option_and_then (store_taken method local frame)) (off_top sort frame.stack value true have is)

pub store_other : (method : Within) (sort : Sort) (local : ℕ) (frame : Frame) (value : VerificationType) → slice_get frame.stack 0 ≡ Some value
    → is_of sort value ≡ false → store method sort local frame ≡ None
store_other method sort local frame value have is = ap (option_and_then (store_taken method local frame)) (off_top sort frame.stack value false have is)

none_top : (sort : Sort) (stack : List VerificationType) → length stack ≡ 0 → taken (sort ∷ []) stack ≡ None
none_top sort [] none = refl
none_top sort (type ∷ stack) none = absurd (omega (arith, none))

pub store_none : (method : Within) (sort : Sort) (local : ℕ) (frame : Frame) → length frame.stack ≡ 0 → store method sort local frame ≡ None
store_none method sort local frame none = ap (option_and_then (store_taken method local frame)) (none_top sort frame.stack none)

-- what a store leaves, made in steps
pub store_left : (method : Within) (sort : Sort) (local : ℕ) (frame below left : Frame) (value : VerificationType) (legal : Option Frame)
    → slice_get frame.stack 0 ≡ Some value → is_of sort value ≡ true
    → below ≡ record { locals = frame.locals; stack = drop 1 frame.stack; unfinished = frame.unfinished }
    → Some left ≡ option_map (with_locals below) (stored local value below.locals) → legal ≡ with_stack method.body.max_stack left left.stack
    → legal ≡ store method sort local frame
store_left method sort local frame below left value legal have is under done whether =
    whether ∙ by (stored local value frame.locals) (subst (λ (own : Frame). Some left ≡ option_map (with_locals own) (stored local value own.locals)) under done)
    ∙ sym (store_one method sort local frame value have is)
  where
    by : (found : Option (List VerificationType))
        → Some left ≡ option_map (with_locals (record { locals = frame.locals; stack = drop 1 frame.stack; unfinished = frame.unfinished })) found
        → with_stack method.body.max_stack left left.stack
        ≡ option_and_then (λ locals. with_stack method.body.max_stack (with_locals frame locals) (drop 1 frame.stack)) found
    by None eq = absurd (cc eq)
    by (Some locals) eq =
        ap (λ (own : Frame). with_stack method.body.max_stack own own.stack)
        (let is : left ≡ record { locals = locals; stack = drop 1 frame.stack; unfinished = frame.unfinished } = cc eq in is)
