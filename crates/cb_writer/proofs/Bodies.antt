-- Bodies have a spelling where their parts do, and how many bytes they have.
use Rattle.std.proofs.Common.{◌≡◌, ◌≢◌, ◌⊎◌, IsSome, inl, inr, ℕ, ◌+◌, ◌*◌, ◌^◌, ◌<◌, List, [], ◌∷◌, ◌++◌, length, length-append, refl, sym, ap, subst, arith}
use Rattle.std.specs.Prelude.{codes}
use Rattle.std.specs.List.{AllByRecursion, flat_map}
use Rattle.std.proofs.lemmas.List.{append-nil}
use Rattle.cb_text.specs.declared.constant.Constant.{Constant}
use Rattle.cb_insn.specs.declared.insn.Insn.{Insn}
use Rattle.cb_insn.specs.Grammar.{SpellsCode}
use Rattle.cb_insn.specs.Writing.{code_bytes}
use Rattle.cb_insn.proofs.Laws.{code_length, code_spelled}
use Rattle.cb_classfile.specs.declared.body.Body.{Body}
use Rattle.cb_classfile.specs.declared.frame_map.MapFrame.{MapFrame}
use Rattle.cb_classfile.specs.declared.handler.Handler.{Handler}
use Rattle.cb_classfile.specs.Attributes.{attributes_bytes, contents_named, least_index, one_attribute}
use Rattle.cb_classfile.specs.Code.{IsPlaced, SpellsBody, SpellsFramesIn, SpellsHandler, body_bytes, frames_contents, frames_in_bytes, handler_bytes}
use Rattle.cb_classfile.specs.FrameMap.{SpellsFrame, SpellsFrames, frame_bytes}
use Rattle.cb_classfile.specs.Needed.{HasConstant}
use Rattle.cb_classfile.specs.Pool.{class_at}
use Rattle.cb_classfile.specs.Tables.{block_bytes, table_bytes, u2, SpellsTable}
use Rattle.cb_classfile.proofs.Laws.{MayStand, canonical_frame, canonical_table, frames_once, held, none_stands, one_stands}
use Rattle.cb_writer.specs.Formed.{HasSpelling, SpellsCodeOf}

-- code
pub code_has : {pool : List Constant} {code : List (ℕ × Insn)} {size : ℕ} → SpellsCode code (code_bytes code) → size ≡ length (code_bytes code) → 0 < size → size < 2 ^ 16 → AllByRecursion (λ placed. HasConstant pool placed.1) code → SpellsCodeOf pool (code_bytes code) code
code_has {pool} {code} {size} spelled is some few constants = record {
  block = record { spelled = (omega (arith, is, few), refl); some = omega (arith, is, some); few = omega (arith, is, few) };
  instructions = record { spelled = spelled; constants = constants };
}

-- bytes that spell it are as many as those that have nothing to skip
pub code_of : {pool : List Constant} {code : List (ℕ × Insn)} {size : ℕ} → size ≡ length (code_bytes code) → HasSpelling (SpellsCodeOf pool) code → (0 < size) × (size < 2 ^ 16) × AllByRecursion (λ placed. HasConstant pool placed.1) code
code_of {pool} {code} {size} is has =
    let long = code_length code has.bytes has.spelled.instructions.spelled in
    (omega (arith, is, long, has.spelled.block.some), omega (arith, is, long, has.spelled.block.few), has.spelled.instructions.constants)

-- no frames
pub no_frames : {pool : List Constant} {frames : List MapFrame} → frames ≡ [] → HasSpelling (SpellsFramesIn pool) frames × (2 ≡ length (frames_in_bytes pool frames))
no_frames {pool} {frames} none = rw none (record { bytes = attributes_bytes []; spelled = record { attributes = []; spelled = none_stands pool; told = refl } }, refl)

-- and some
abbrev stack_map_table : List ℕ
stack_map_table = codes "StackMapTable"

pub frames_have : {pool : List Constant} (frames : List MapFrame) → frames ≢ [] → HasSpelling (SpellsTable (SpellsFrame pool)) frames → MayStand pool stack_map_table (table_bytes frame_bytes frames) → HasSpelling (SpellsFramesIn pool) frames
frames_have [] some table may = absurd (some refl)
frames_have {pool} (frame ∷ frames) some table may =
    let one = one_stands pool stack_map_table (table_bytes frame_bytes (frame ∷ frames)) may in
    record {
      bytes = frames_in_bytes pool (frame ∷ frames);
      spelled = record {
        attributes = one_attribute pool stack_map_table (frames_contents (frame ∷ frames));
        spelled = one.spelled;
        told = subst (λ found. SpellsFrames pool found (frame ∷ frames)) (sym one.found) ((canonical_table (canonical_frame pool)).spelled table.bytes (frame ∷ frames) table.spelled);
      };
    }

pub of_frames : {pool : List Constant} (frames : List MapFrame) → frames ≢ [] → HasSpelling (SpellsFramesIn pool) frames → HasSpelling (SpellsTable (SpellsFrame pool)) frames × MayStand pool stack_map_table (table_bytes frame_bytes frames)
of_frames [] some has = absurd (some refl)
of_frames {pool} (frame ∷ frames) some has =
    let here = held (canonical_table (canonical_frame pool)) has.spelled.spelled (frame ∷ frames) (frames_once pool (contents_named pool stack_map_table has.spelled.attributes) frame frames has.spelled.told) in
    (record { bytes = here.here; spelled = here.spelled }, here.again.may)

-- an attribute's head takes six bytes, and the number of attributes two
pub frames_long : (pool : List Constant) (frames : List MapFrame) → frames ≢ [] → length (frames_in_bytes pool frames) ≡ 8 + length (table_bytes frame_bytes frames)
frames_long pool [] some = absurd (some refl)
frames_long pool (frame ∷ frames) some = omega (arith, ap length (append-nil (table_bytes frame_bytes (frame ∷ frames))))

-- they are the attribute alone
pub frames_alone : (pool : List Constant) (frames : List MapFrame) → frames ≢ [] → attributes_bytes ((least_index pool stack_map_table, table_bytes frame_bytes frames) ∷ []) ≡ frames_in_bytes pool frames
frames_alone pool [] some = absurd (some refl)
frames_alone pool (frame ∷ frames) some = refl

-- a handler takes eight bytes
handlers_long : (handlers : List Handler) → length (flat_map handler_bytes handlers) ≡ 8 * length handlers
handlers_long [] = refl
handlers_long (handler ∷ handlers) = omega (arith, handlers_long handlers)

-- a handler
pub handler_has : {pool : List Constant} {handler : Handler} → handler.start < 2 ^ 16 → handler.end < 2 ^ 16 → handler.handler < 2 ^ 16 → handler.catch_type < 2 ^ 16 → (handler.catch_type ≡ 0) ⊎ IsSome (class_at pool handler.catch_type) → HasSpelling (SpellsHandler pool) handler
handler_has {pool} {handler} start end place catch_type catches = record {
  bytes = u2 handler.start ++ u2 handler.end ++ (u2 handler.handler ++ u2 handler.catch_type);
  spelled = record {
    spelled = record { first = u2 handler.start ++ u2 handler.end; second = u2 handler.handler ++ u2 handler.catch_type; spelled = refl; here = (start, end, refl); behind = (place, catch_type, refl) };
    catches = catches;
  };
}

-- what it catches, where that is no 0
pub caught : {pool : List Constant} {handler : Handler} → handler.catch_type ≢ 0 → HasSpelling (SpellsHandler pool) handler → IsSome (class_at pool handler.catch_type)
caught {pool} {handler} not has = go has.spelled.catches where
  go : (handler.catch_type ≡ 0) ⊎ IsSome (class_at pool handler.catch_type) → IsSome (class_at pool handler.catch_type)
  go (inl none) = absurd (not none)
  go (inr some) = some

-- the parts of a body
pub record HasBody (pool : List Constant) (body : Body) : Type 0 where
  pub code : SpellsCodeOf pool (code_bytes body.code) body.code
  pub handlers : HasSpelling (SpellsTable (SpellsHandler pool)) body.handlers
  pub placed : AllByRecursion (IsPlaced body.code (length (code_bytes body.code))) body.handlers
  pub frames : HasSpelling (SpellsFramesIn pool) body.frames

pub body_has : {pool : List Constant} {body : Body} → body.max_stack < 2 ^ 16 → body.max_locals < 2 ^ 16 → HasBody pool body → HasSpelling (SpellsBody pool) body
body_has {pool} {body} stack locals parts =
    let code = code_bytes body.code in
    let tail = parts.handlers.bytes ++ parts.frames.bytes in
    record {
      bytes = u2 body.max_stack ++ u2 body.max_locals ++ (block_bytes code ++ tail);
      spelled = record {
        code = code;
        spelled = record {
          first = u2 body.max_stack ++ u2 body.max_locals;
          second = block_bytes code ++ tail;
          spelled = refl;
          here = (stack, locals, refl);
          behind = record {
            first = block_bytes code;
            second = tail;
            spelled = refl;
            here = parts.code.block;
            behind = record { first = parts.handlers.bytes; second = parts.frames.bytes; spelled = refl; here = parts.handlers.spelled; behind = parts.frames.spelled };
          };
        };
        instructions = parts.code.instructions;
        handlers_placed = parts.placed;
      };
    }

pub of_body : {pool : List Constant} {body : Body} → HasSpelling (SpellsBody pool) body → HasBody pool body
of_body {pool} {body} has =
    let spelled = has.spelled in
    let block = spelled.spelled.behind.here in
    let long = code_length body.code spelled.code spelled.instructions.spelled in
    record {
      code = record {
        block = record { spelled = (omega (arith, long, block.few), refl); some = omega (arith, long, block.some); few = omega (arith, long, block.few) };
        instructions = record { spelled = code_spelled body.code spelled.code spelled.instructions.spelled; constants = spelled.instructions.constants };
      };
      handlers = record { bytes = spelled.spelled.behind.behind.first; spelled = spelled.spelled.behind.behind.here };
      placed = rw long spelled.handlers_placed;
      frames = record { bytes = spelled.spelled.behind.behind.second; spelled = spelled.spelled.behind.behind.behind };
    }

-- how many bytes it has
pub body_long : (pool : List Constant) (body : Body) → length (body_bytes pool body) ≡ 10 + length (code_bytes body.code) + 8 * length body.handlers + length (frames_in_bytes pool body.frames)
body_long pool body =
    let sizes = u2 body.max_stack ++ u2 body.max_locals in
    let block = block_bytes (code_bytes body.code) in
    let table = table_bytes handler_bytes body.handlers in
    let frames = frames_in_bytes pool body.frames in
    omega (arith, handlers_long body.handlers, length-append (sizes ++ block ++ table) frames, length-append (sizes ++ block) table, length-append sizes block, length-append (u2 (length body.handlers)) (flat_map handler_bytes body.handlers))
