-- Bodies by their parts, and how many bytes they have.
use Rattle.std.proofs.Common.{◌≡◌, ◌≢◌, ◌⊎◌, IsSome, ℕ, ◌+◌, ◌*◌, ◌^◌, ◌<◌, List, [], ◌∷◌, ◌++◌, length, length-append, refl, sym, ap, subst, arith}
use Rattle.std.specs.Prelude.{codes}
use Rattle.std.specs.List.{AllByRecursion, flat_map}
use Rattle.std.proofs.lemmas.List.{append-nil}
use Rattle.cb_text.specs.declared.constant.Constant.{Constant}
use Rattle.cb_insn.specs.Grammar.{SpellsCode}
use Rattle.cb_insn.specs.Writing.{code_bytes}
use Rattle.cb_insn.proofs.Laws.{code_length, code_spelled}
use Rattle.cb_classfile.specs.declared.body.Body.{Body}
use Rattle.cb_classfile.specs.declared.frame_map.MapFrame.{MapFrame}
use Rattle.cb_classfile.specs.declared.handler.Handler.{Handler}
use Rattle.cb_classfile.specs.Attributes.{attributes_bytes, contents_named, least_index, one_attribute}
use Rattle.cb_classfile.specs.Code.{IsPlaced, SpellsBody, SpellsFramesIn, SpellsHandler, body_bytes, frames_contents, frames_in_bytes, handler_bytes}
use Rattle.cb_classfile.specs.FrameMap.{SpellsFrame, SpellsFrames, frame_bytes}
use Rattle.cb_classfile.specs.Needed.{HasConstant}
use Rattle.cb_classfile.specs.Pool.{class_at}
use Rattle.cb_classfile.specs.Tables.{block_bytes, table_bytes, u2}
use Rattle.cb_classfile.proofs.Canonical.{canonical_table}
use Rattle.cb_classfile.proofs.CanonicalFrames.{canonical_frame}
use Rattle.cb_classfile.proofs.CanonicalMembers.{frames_once}
use Rattle.cb_classfile.proofs.OneAttribute.{held, none_stands, one_stands}
use Rattle.cb_classfile.proofs.FormedTables.{all_each}
use Rattle.cb_classfile.proofs.FormedTables.{HasName, HasSpelling, IsTable, may_stand, of_table, table_has}

abbrev pub stack_map_table : List ℕ
stack_map_table = codes "StackMapTable"

-- how many bytes the attributes of a body have, and a body
abbrev pub frames_size : List MapFrame → ℕ
frames_size [] = 2
frames_size (frame ∷ frames) = 8 + length (table_bytes frame_bytes (frame ∷ frames))

abbrev pub body_size : Body → ℕ
body_size body = 10 + length (code_bytes body.code) + 8 * length body.handlers + frames_size body.frames

frames_long : (pool : List Constant) (frames : List MapFrame) → length (frames_in_bytes pool frames) ≡ frames_size frames
frames_long pool [] = refl
frames_long pool (frame ∷ frames) = omega (arith, ap length (append-nil (table_bytes frame_bytes (frame ∷ frames))))

handlers_long : (handlers : List Handler) → length (flat_map handler_bytes handlers) ≡ 8 * length handlers
handlers_long [] = refl
handlers_long (handler ∷ handlers) = omega (arith, handlers_long handlers)

pub body_long : (pool : List Constant) (body : Body) → length (body_bytes pool body) ≡ body_size body
body_long pool body =
    let sizes = u2 body.max_stack ++ u2 body.max_locals in
    let block = block_bytes (code_bytes body.code) in
    let table = table_bytes handler_bytes body.handlers in
    let frames = frames_in_bytes pool body.frames in
    omega (arith, frames_long pool body.frames, handlers_long body.handlers, length-append (sizes ++ block ++ table) frames, length-append (sizes ++ block) table, length-append sizes block, length-append (u2 (length body.handlers)) (flat_map handler_bytes body.handlers))

-- an entry of the exception table
pub record IsHandler (pool : List Constant) (entry : Handler) : Type 0 where
  pub start : entry.start < 2 ^ 16
  pub end : entry.end < 2 ^ 16
  pub handler : entry.handler < 2 ^ 16
  pub catch_type : entry.catch_type < 2 ^ 16
  pub catches : (entry.catch_type ≡ 0) ⊎ IsSome (class_at pool entry.catch_type)

handler_has : {pool : List Constant} (handler : Handler) → IsHandler pool handler → HasSpelling (SpellsHandler pool) handler
handler_has {pool} handler is = record {
  bytes = u2 handler.start ++ u2 handler.end ++ (u2 handler.handler ++ u2 handler.catch_type);
  spelled = record {
    spelled = record { first = u2 handler.start ++ u2 handler.end; second = u2 handler.handler ++ u2 handler.catch_type; spelled = refl; here = (is.start, is.end, refl); behind = (is.handler, is.catch_type, refl) };
    catches = is.catches;
  };
}

of_handler : {pool : List Constant} (handler : Handler) → HasSpelling (SpellsHandler pool) handler → IsHandler pool handler
of_handler {pool} handler has =
    let spelled = has.spelled.spelled in
    record { start = spelled.here.0; end = spelled.here.1; handler = spelled.behind.0; catch_type = spelled.behind.1; catches = has.spelled.catches }

-- the parts of a body
pub record IsBody (pool : List Constant) (body : Body) : Type 0 where
  pub stack : body.max_stack < 2 ^ 16
  pub locals : body.max_locals < 2 ^ 16
  pub code : SpellsCode body.code (code_bytes body.code)
  pub some : 0 < length (code_bytes body.code)
  pub few : length (code_bytes body.code) < 2 ^ 16
  pub constants : AllByRecursion (λ placed. HasConstant pool placed.1) body.code
  pub handlers_few : length body.handlers < 2 ^ 16
  pub handlers : AllByRecursion (IsHandler pool) body.handlers
  pub placed : AllByRecursion (IsPlaced body.code (length (code_bytes body.code))) body.handlers
  pub frames : IsTable (SpellsFrame pool) body.frames
  pub name : body.frames ≢ [] → HasName pool stack_map_table

frames_have : {pool : List Constant} (frames : List MapFrame) → IsTable (SpellsFrame pool) frames → (frames ≢ [] → HasName pool stack_map_table) → frames_size frames < 2 ^ 32 → HasSpelling (SpellsFramesIn pool) frames
frames_have {pool} [] table name short = record { bytes = attributes_bytes []; spelled = record { attributes = []; spelled = none_stands pool; told = refl } }
frames_have {pool} (frame ∷ frames) table name short =
    let has = table_has (SpellsFrame pool) (frame ∷ frames) table in
    let one = one_stands pool stack_map_table (table_bytes frame_bytes (frame ∷ frames)) (may_stand (table_bytes frame_bytes (frame ∷ frames)) (name (λ none. absurd cc)) (omega (arith, short))) in
    record {
      bytes = frames_in_bytes pool (frame ∷ frames);
      spelled = record {
        attributes = one_attribute pool stack_map_table (frames_contents (frame ∷ frames));
        spelled = one.spelled;
        told = subst (λ found. SpellsFrames pool found (frame ∷ frames)) (sym one.found) ((canonical_table (canonical_frame pool)).spelled has.bytes (frame ∷ frames) has.spelled);
      };
    }

record OfFrames (pool : List Constant) (frames : List MapFrame) : Type 0 where
  table : IsTable (SpellsFrame pool) frames
  name : frames ≢ [] → HasName pool stack_map_table

of_frames : {pool : List Constant} (frames : List MapFrame) (bytes : List ℕ) → SpellsFramesIn pool bytes frames → OfFrames pool frames
of_frames {pool} [] bytes spelled = record { table = record { few = omega arith; each = tt }; name = λ some. absurd (some refl) }
of_frames {pool} (frame ∷ frames) bytes spelled =
    let here = held (canonical_table (canonical_frame pool)) spelled.spelled (frame ∷ frames) (frames_once pool (contents_named pool stack_map_table spelled.attributes) frame frames spelled.told) in
    record {
      table = of_table (SpellsFrame pool) (frame ∷ frames) here.here here.spelled;
      name = λ some. record { index = least_index pool stack_map_table; fits = here.again.may.fits; named = here.again.may.named };
    }

pub body_has : {pool : List Constant} (body : Body) → IsBody pool body → body_size body < 2 ^ 32 → HasSpelling (SpellsBody pool) body
body_has {pool} body is short =
    let code = code_bytes body.code in
    let handlers = table_has (SpellsHandler pool) body.handlers (record { few = is.handlers_few; each = all_each (IsHandler pool) (HasSpelling (SpellsHandler pool)) handler_has body.handlers is.handlers }) in
    let frames = frames_have body.frames is.frames is.name (omega (arith, short)) in
    let tail = handlers.bytes ++ frames.bytes in
    record {
      bytes = u2 body.max_stack ++ u2 body.max_locals ++ (block_bytes code ++ tail);
      spelled = record {
        code = code;
        spelled = record {
          first = u2 body.max_stack ++ u2 body.max_locals;
          second = block_bytes code ++ tail;
          spelled = refl;
          here = (is.stack, is.locals, refl);
          behind = record {
            first = block_bytes code;
            second = tail;
            spelled = refl;
            here = record { spelled = (omega (arith, is.few), refl); some = is.some; few = is.few };
            behind = record { first = handlers.bytes; second = frames.bytes; spelled = refl; here = handlers.spelled; behind = frames.spelled };
          };
        };
        instructions = record { spelled = is.code; constants = is.constants };
        handlers_placed = is.placed;
      };
    }

pub of_body : {pool : List Constant} (body : Body) (bytes : List ℕ) → SpellsBody pool bytes body → IsBody pool body
of_body {pool} body bytes spelled =
    let parts = spelled.spelled in
    let block = parts.behind.here in
    let long = code_length body.code spelled.code spelled.instructions.spelled in
    let handlers = of_table (SpellsHandler pool) body.handlers parts.behind.behind.first parts.behind.behind.here in
    let frames = of_frames body.frames parts.behind.behind.second parts.behind.behind.behind in
    record {
      stack = parts.here.0;
      locals = parts.here.1;
      code = code_spelled body.code spelled.code spelled.instructions.spelled;
      some = omega (arith, long, block.some);
      few = omega (arith, long, block.few);
      constants = spelled.instructions.constants;
      handlers_few = handlers.few;
      handlers = all_each (HasSpelling (SpellsHandler pool)) (IsHandler pool) of_handler body.handlers handlers.each;
      placed = rw long spelled.handlers_placed;
      frames = frames.table;
      name = frames.name;
    }
