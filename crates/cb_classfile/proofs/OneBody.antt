-- Bytes spell at most one body of a method.
use Rattle.std.proofs.Common.{◌≡◌, ℕ, List, refl, ap}
use Rattle.std.specs.Prelude.{codes}
use Rattle.cb_text.specs.declared.constant.Constant.{Constant}
use Rattle.cb_insn.proofs.Laws.{one_code_spelled}
use Rattle.cb_classfile.specs.declared.body.Body.{Body}
use Rattle.cb_classfile.specs.declared.handler.Handler.{Handler}
use Rattle.cb_classfile.specs.Attributes.{SpellsAttribute, SpellsAttributes, contents_named}
use Rattle.cb_classfile.specs.Code.{SpellsCodeBytes, SpellsHandler, SpellsFramesIn, SpellsBody}
use Rattle.cb_classfile.proofs.Bodies.{body_same}
use Rattle.cb_classfile.proofs.OneFrame.{frames_told}
use Rattle.cb_classfile.proofs.OneItem.{IsExact, one_whole, exact_u2, exact_pair, exact_block, exact_within, exact_then, exact_table}

-- at most one attribute stands at the front
pub exact_attribute : (pool : List Constant) → IsExact (SpellsAttribute pool)
exact_attribute pool = exact_within (λ bytes attribute spelled. spelled.spelled) (exact_then exact_u2 (λ index. exact_block))

-- and at most one table of them
pub exact_attributes : (pool : List Constant) → IsExact (SpellsAttributes pool)
exact_attributes pool = exact_table (exact_attribute pool)

-- an entry of the exception table is its parts
handler_same : (start end handler catch_type : ℕ) (other : Handler) → start ≡ other.start → end ≡ other.end → handler ≡ other.handler → catch_type ≡ other.catch_type → record { start = start; end = end; handler = handler; catch_type = catch_type } ≡ other
handler_same start end handler catch_type other same_start same_end same_handler same_type = rw (same_start, same_end, same_handler, same_type) refl

-- at most one entry stands at the front
pub exact_handler : (pool : List Constant) → IsExact (SpellsHandler pool)
exact_handler pool = record {
  same = λ one other first second rest behind spelled spelled_too same.
      let parts = (exact_then exact_pair (λ range. exact_pair)).same _ _ _ _ _ _ spelled.spelled spelled_too.spelled same in
      (handler_same one.start one.end one.handler one.catch_type other (ap (λ p. p.0.0) parts.0) (ap (λ p. p.0.1) parts.0) (ap (λ p. p.1.0) parts.0) (ap (λ p. p.1.1) parts.0), parts.1);
}

-- the attributes of a body spell at most one list of frames
pub exact_frames_in : (pool : List Constant) → IsExact (SpellsFramesIn pool)
exact_frames_in pool = record {
  same = λ one other first second rest behind spelled spelled_too same.
      let attributes = (exact_attributes pool).same _ _ _ _ _ _ spelled.spelled spelled_too.spelled same in
      (frames_told pool (contents_named pool (codes "StackMapTable") spelled_too.attributes) one other (rw attributes.0 at spelled.told) spelled_too.told, attributes.1);
}

-- the bytes of the code are exact
pub exact_code_bytes : IsExact SpellsCodeBytes
exact_code_bytes = exact_within (λ bytes code spelled. spelled.spelled) exact_block

-- the contents of an attribute Code spell at most one body
pub one_body : (pool : List Constant) (bytes : List ℕ) (one other : Body) → SpellsBody pool bytes one → SpellsBody pool bytes other → one ≡ other
one_body pool bytes one other spelled spelled_too =
    let parts = one_whole (exact_then exact_pair (λ sizes. exact_then exact_code_bytes (λ code. exact_then (exact_table (exact_handler pool)) (λ handlers. exact_frames_in pool)))) spelled.spelled spelled_too.spelled in
    let code = ap (λ p. p.1.0) parts in
    let instructions = one_code_spelled spelled_too.code one.code other.code (rw (← code) spelled.instructions.spelled) spelled_too.instructions.spelled in
    body_same one.max_stack one.max_locals one.code one.handlers one.frames other (ap (λ p. p.0.0) parts) (ap (λ p. p.0.1) parts) instructions (ap (λ p. p.1.1.0) parts) (ap (λ p. p.1.1.1) parts)
