-- Frames and handlers are spelled by their own bytes alone.
use Rattle.std.proofs.Common.{◌≡◌, ℕ, ◌-◌, List, ◌∷◌, ◌++◌, sym, ap, append_assoc}
use Rattle.cb_text.specs.declared.constant.Constant.{Constant}
use Rattle.cb_classfile.specs.declared.frame_form.FrameForm.{FrameForm}
use Rattle.cb_classfile.specs.declared.frame_form.FrameForm.TheVariants as forms
use Rattle.cb_classfile.specs.Code.{SpellsHandler, handler_bytes}
use Rattle.cb_classfile.specs.FrameMap.{SpellsType, SpellsDelta, SpellsLocals, SpellsStack, SpellsFrame, type_bytes, delta_bytes, locals_bytes, stack_bytes, frame_bytes, form_of_frame}
use Rattle.cb_classfile.specs.Tables.{u2}
use Rattle.cb_classfile.proofs.Canonical.{IsCanonical, canonical_alone, canonical_part, canonical_u1, canonical_then, canonical_count, canonical_table}

-- a type
pub canonical_type : (pool : List Constant) → IsCanonical (SpellsType pool) type_bytes
canonical_type pool = canonical_alone (λ bytes kind spelled. spelled.spelled)

-- the parts of a frame
canonical_delta : (form : FrameForm) (kind : ℕ) → IsCanonical (SpellsDelta form kind) (delta_bytes form)
canonical_delta forms.Same kind = canonical_alone (λ bytes delta spelled. spelled.1)
canonical_delta forms.SameOneItem kind = canonical_alone (λ bytes delta spelled. spelled.1)
canonical_delta forms.Reserved kind = canonical_alone (λ bytes delta spelled. absurd spelled)
canonical_delta form kind = canonical_alone (λ bytes delta spelled. spelled.1)

canonical_locals : (pool : List Constant) (form : FrameForm) (kind : ℕ) → IsCanonical (SpellsLocals pool form kind) (locals_bytes form)
canonical_locals pool forms.Append kind = canonical_count (kind - 251) (canonical_type pool)
canonical_locals pool forms.Full kind = canonical_table (canonical_type pool)
canonical_locals pool form kind = canonical_alone (λ bytes locals spelled. spelled.1)

canonical_stack : (pool : List Constant) (form : FrameForm) → IsCanonical (SpellsStack pool form) (stack_bytes form)
canonical_stack pool forms.SameOneItem = canonical_count 1 (canonical_type pool)
canonical_stack pool forms.SameOneItemExtended = canonical_count 1 (canonical_type pool)
canonical_stack pool forms.Full = canonical_table (canonical_type pool)
canonical_stack pool form = canonical_alone (λ bytes stack spelled. spelled.1)

-- a frame
pub canonical_frame : (pool : List Constant) → IsCanonical (SpellsFrame pool) frame_bytes
canonical_frame pool =
    canonical_part (λ frame. (frame.kind, (frame.delta, (frame.locals, frame.stack)))) (λ frame. ap (λ behind. frame.kind ∷ behind) (sym (append_assoc (delta_bytes (form_of_frame frame.kind) frame.delta) (locals_bytes (form_of_frame frame.kind) frame.locals) (stack_bytes (form_of_frame frame.kind) frame.stack))))
    (canonical_then canonical_u1 (λ kind. canonical_then (canonical_delta (form_of_frame kind) kind) (λ delta. canonical_then (canonical_locals pool (form_of_frame kind) kind) (λ locals. canonical_stack pool (form_of_frame kind)))))

-- a handler
joined : (start end handler catch_type first second bytes : List ℕ) → bytes ≡ first ++ second → first ≡ start ++ end → second ≡ handler ++ catch_type → bytes ≡ start ++ end ++ handler ++ catch_type
joined start end handler catch_type first second bytes whole one other = rw (whole, one, other) (sym (append_assoc (start ++ end) handler catch_type))

pub canonical_handler : (pool : List Constant) → IsCanonical (SpellsHandler pool) handler_bytes
canonical_handler pool = canonical_alone (λ bytes handler spelled. joined (u2 handler.start) (u2 handler.end) (u2 handler.handler) (u2 handler.catch_type) _ _ bytes spelled.spelled.spelled spelled.spelled.here.2 spelled.spelled.behind.2)
