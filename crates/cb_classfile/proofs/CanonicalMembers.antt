-- Bodies, fields and methods in bytes that have nothing to skip.
use Rattle.std.proofs.Common.{◌≡◌, ℕ, ◌≤◌, List, [], ◌∷◌, ◌++◌, length, length-append, Some, refl, sym, ◌∙◌, ap, subst, arith, append_assoc}
use Rattle.std.specs.Prelude.{codes, option_map}
use Rattle.cb_text.specs.declared.constant.Constant.{Constant}
use Rattle.cb_insn.proofs.Laws.{code_spelled, code_length}
use Rattle.cb_insn.specs.Writing.{code_bytes}
use Rattle.cb_classfile.specs.declared.body.Body.{Body}
use Rattle.cb_classfile.specs.declared.field.Field.{Field}
use Rattle.cb_classfile.specs.declared.frame_map.MapFrame.{MapFrame}
use Rattle.cb_classfile.specs.declared.handler.Handler.{Handler}
use Rattle.cb_classfile.specs.declared.method.Method.{Method}
use Rattle.cb_classfile.specs.Attributes.{Attribute, SpellsOnce, attributes_bytes, contents_named, one_attribute}
use Rattle.cb_classfile.specs.Code.{SpellsBody, SpellsFramesIn, SpellsHandler, body_bytes, frames_contents, frames_in_bytes, handler_bytes}
use Rattle.cb_classfile.specs.FrameMap.{SpellsFrame, SpellsFrames, frame_bytes}
use Rattle.cb_classfile.specs.Members.{SpellsField, SpellsMember, SpellsMethod, SpellsValue, field_bytes, method_bytes}
use Rattle.cb_classfile.specs.Tables.{u2, block_bytes, table_bytes, SpellsTable, Then}
use Rattle.cb_classfile.proofs.Canonical.{IsCanonical, canonical_alone, canonical_table, canonical_then}
use Rattle.cb_classfile.proofs.CanonicalFrames.{canonical_frame, canonical_handler}
use Rattle.cb_classfile.proofs.OneAttribute.{IsOnce, held, none_stands, none_short, once_respelled, one_stands}

-- parts, one behind the other
grouped : (one two three four : List ℕ) → one ++ (two ++ (three ++ four)) ≡ one ++ two ++ three ++ four
grouped one two three four = sym (append_assoc one two (three ++ four)) ∙ sym (append_assoc (one ++ two) three four)

-- frames stand in the contents of the only attribute of their name
pub frames_once : (pool : List Constant) (found : List (List ℕ)) (frame : MapFrame) (frames : List MapFrame) → SpellsFrames pool found (frame ∷ frames) → SpellsOnce (SpellsTable (SpellsFrame pool)) found (Some (frame ∷ frames))
frames_once pool [] frame frames told = absurd cc
frames_once pool (contents ∷ []) frame frames told = told
frames_once pool (one ∷ two ∷ found) frame frames told = absurd told

-- the frames of a body
frames_respelled : (pool : List Constant) (bytes : List ℕ) (frames : List MapFrame) → SpellsFramesIn pool bytes frames → SpellsFramesIn pool (frames_in_bytes pool frames) frames × (length (frames_in_bytes pool frames) ≤ length bytes)
frames_respelled pool bytes [] spelled = (record { attributes = []; spelled = none_stands pool; told = refl }, none_short spelled.spelled)
frames_respelled pool bytes (frame ∷ frames) spelled =
    let table = canonical_table (canonical_frame pool) in
    let here = held table spelled.spelled (frame ∷ frames) (frames_once pool (contents_named pool (codes "StackMapTable") spelled.attributes) frame frames spelled.told) in
    let one = one_stands pool (codes "StackMapTable") (table_bytes frame_bytes (frame ∷ frames)) here.again.may in (
      record {
        attributes = one_attribute pool (codes "StackMapTable") (frames_contents (frame ∷ frames));
        spelled = one.spelled;
        told = subst (λ found. SpellsFrames pool found (frame ∷ frames)) (sym one.found) (table.spelled here.here (frame ∷ frames) here.spelled);
      },
      here.again.short,
    )

pub canonical_frames_in : (pool : List Constant) → IsCanonical (SpellsFramesIn pool) (frames_in_bytes pool)
canonical_frames_in pool = record {
  spelled = λ bytes frames spelled. (frames_respelled pool bytes frames spelled).0;
  short = λ bytes frames spelled. (frames_respelled pool bytes frames spelled).1;
}

-- what stands behind the code of a body
abbrev Tail : List Constant → List ℕ → List Handler × List MapFrame → Type 0
Tail pool = Then (SpellsTable (SpellsHandler pool)) (SpellsFramesIn pool)

canonical_tail : (pool : List Constant) → IsCanonical (Tail pool) (λ pair. table_bytes handler_bytes pair.0 ++ frames_in_bytes pool pair.1)
canonical_tail pool = canonical_then (canonical_table (canonical_handler pool)) (λ handlers. canonical_frames_in pool)

-- a body
pub canonical_body : (pool : List Constant) → IsCanonical (SpellsBody pool) (body_bytes pool)
canonical_body pool = record { spelled = again; short = short } where
  again : (bytes : List ℕ) (body : Body) → SpellsBody pool bytes body → SpellsBody pool (body_bytes pool body) body
  again bytes body spelled =
      let long = code_length body.code spelled.code spelled.instructions.spelled in
      record {
        code = code_bytes body.code;
        spelled = record {
          first = u2 body.max_stack ++ u2 body.max_locals;
          second = block_bytes (code_bytes body.code) ++ (table_bytes handler_bytes body.handlers ++ frames_in_bytes pool body.frames);
          spelled = sym (grouped (u2 body.max_stack ++ u2 body.max_locals) (block_bytes (code_bytes body.code)) (table_bytes handler_bytes body.handlers) (frames_in_bytes pool body.frames));
          here = (spelled.spelled.here.0, spelled.spelled.here.1, refl);
          behind = record {
            first = block_bytes (code_bytes body.code);
            second = table_bytes handler_bytes body.handlers ++ frames_in_bytes pool body.frames;
            spelled = refl;
            here = record {
              spelled = (omega (arith, long, spelled.spelled.behind.here.few), refl);
              some = omega (arith, long, spelled.spelled.behind.here.some);
              few = omega (arith, long, spelled.spelled.behind.here.few);
            };
            behind = (canonical_tail pool).spelled spelled.spelled.behind.second (body.handlers, body.frames) spelled.spelled.behind.behind;
          };
        };
        instructions = record { spelled = code_spelled body.code spelled.code spelled.instructions.spelled; constants = spelled.instructions.constants };
        handlers_placed = rw long spelled.handlers_placed;
      }

  short : (bytes : List ℕ) (body : Body) → SpellsBody pool bytes body → length (body_bytes pool body) ≤ length bytes
  short bytes body spelled =
      let parts = spelled.spelled in
      let long = code_length body.code spelled.code spelled.instructions.spelled in
      let sizes = u2 body.max_stack ++ u2 body.max_locals in
      let block = block_bytes (code_bytes body.code) in
      let tail = table_bytes handler_bytes body.handlers ++ frames_in_bytes pool body.frames in
      omega (
        arith,
        ap length parts.spelled,
        length-append parts.first parts.second,
        ap length parts.here.2,
        ap length parts.behind.spelled,
        length-append parts.behind.first parts.behind.second,
        ap length parts.behind.here.spelled.1,
        long,
        (canonical_tail pool).short parts.behind.second (body.handlers, body.frames) parts.behind.behind,
        ap length (grouped sizes block (table_bytes handler_bytes body.handlers) (frames_in_bytes pool body.frames)),
        length-append sizes (block ++ tail),
        length-append block tail,
      )

-- a field
pub canonical_value : (pool : List Constant) (descriptor : ℕ) → IsCanonical (SpellsValue pool descriptor) u2
canonical_value pool descriptor = canonical_alone (λ bytes index spelled. spelled.spelled)

-- a member with other attributes
head_length : {pool : List Constant} {bytes : List ℕ} {flags name descriptor : ℕ} {attributes : List Attribute} (other : List ℕ) → (member : SpellsMember pool bytes ((flags, name, descriptor), attributes)) → length other ≤ length member.second → length (u2 flags ++ u2 name ++ u2 descriptor ++ other) ≤ length bytes
head_length {pool} {bytes} {flags} {name} {descriptor} other member short =
    omega (arith, short, ap length member.spelled, length-append member.first member.second, ap length member.here.3, length-append (u2 flags ++ u2 name ++ u2 descriptor) other)

pub canonical_field : (pool : List Constant) → IsCanonical (SpellsField pool) (field_bytes pool)
canonical_field pool = record { spelled = again; short = short } where
  once : (bytes : List ℕ) (field : Field) → (spelled : SpellsField pool bytes field) → IsOnce (SpellsValue pool field.descriptor) pool (codes "ConstantValue") spelled.member.second field.constant (option_map u2 field.constant)
  once bytes field spelled = once_respelled (canonical_value pool field.descriptor) spelled.member.behind field.constant spelled.constant

  again : (bytes : List ℕ) (field : Field) → SpellsField pool bytes field → SpellsField pool (field_bytes pool field) field
  again bytes field spelled = record {
    attribute_list = one_attribute pool (codes "ConstantValue") (option_map u2 field.constant);
    member = record {
      first = u2 field.flags.0 ++ u2 field.name ++ u2 field.descriptor;
      second = attributes_bytes (one_attribute pool (codes "ConstantValue") (option_map u2 field.constant));
      spelled = refl;
      here = (spelled.member.here.0, spelled.member.here.1, spelled.member.here.2, refl);
      behind = (once bytes field spelled).spelled;
    };
    named = spelled.named;
    constant = (once bytes field spelled).told;
  }

  short : (bytes : List ℕ) (field : Field) → SpellsField pool bytes field → length (field_bytes pool field) ≤ length bytes
  short bytes field spelled = head_length (attributes_bytes (one_attribute pool (codes "ConstantValue") (option_map u2 field.constant))) spelled.member (once bytes field spelled).short

-- a method
pub canonical_method : (pool : List Constant) → IsCanonical (SpellsMethod pool) (method_bytes pool)
canonical_method pool = record { spelled = again; short = short } where
  once : (bytes : List ℕ) (method : Method) → (spelled : SpellsMethod pool bytes method) → IsOnce (SpellsBody pool) pool (codes "Code") spelled.member.second method.body (option_map (body_bytes pool) method.body)
  once bytes method spelled = once_respelled (canonical_body pool) spelled.member.behind method.body spelled.body

  again : (bytes : List ℕ) (method : Method) → SpellsMethod pool bytes method → SpellsMethod pool (method_bytes pool method) method
  again bytes method spelled = record {
    attribute_list = one_attribute pool (codes "Code") (option_map (body_bytes pool) method.body);
    member = record {
      first = u2 method.flags.0 ++ u2 method.name ++ u2 method.descriptor;
      second = attributes_bytes (one_attribute pool (codes "Code") (option_map (body_bytes pool) method.body));
      spelled = refl;
      here = (spelled.member.here.0, spelled.member.here.1, spelled.member.here.2, refl);
      behind = (once bytes method spelled).spelled;
    };
    named = spelled.named;
    body = (once bytes method spelled).told;
    rules = spelled.rules;
  }

  short : (bytes : List ℕ) (method : Method) → SpellsMethod pool bytes method → length (method_bytes pool method) ≤ length bytes
  short bytes method spelled = head_length (attributes_bytes (one_attribute pool (codes "Code") (option_map (body_bytes pool) method.body))) spelled.member (once bytes method spelled).short
