-- The attribute Code (JVMS §4.7.3, §4.9.1).
use Rattle.std.specs.Prelude.{◌≡◌, ◌⊎◌, ℕ, ◌^◌, ◌<◌, List, [], ◌∷◌, ◌++◌, length, Option, Some, None, IsSome, codes}
use Rattle.std.specs.List.{AllByRecursion}
use Rattle.cb_text.specs.declared.constant.Constant.{Constant}
use Rattle.cb_insn.specs.declared.insn.Insn.{Insn}
use Rattle.cb_insn.specs.Grammar.{SpellsCode}
use Rattle.cb_insn.specs.Places.{HasPlace}
use Rattle.cb_insn.specs.Writing.{code_bytes}
use Rattle.cb_classfile.specs.declared.body.Body.{Body}
use Rattle.cb_classfile.specs.declared.frame_map.MapFrame.{MapFrame}
use Rattle.cb_classfile.specs.declared.handler.Handler.{Handler}
use Rattle.cb_classfile.specs.Attributes.{Attribute, SpellsAttributes, attributes_bytes, contents_named, one_attribute}
use Rattle.cb_classfile.specs.FrameMap.{SpellsFrames, frame_bytes}
use Rattle.cb_classfile.specs.Needed.{HasConstant}
use Rattle.cb_classfile.specs.Pool.{class_at}
use Rattle.cb_classfile.specs.Tables.{u2, block_bytes, table_bytes, SpellsBlock, SpellsPair, SpellsTable, Then}

-- an entry of the exception table
pub record SpellsHandler (pool : List Constant) (bytes : List ℕ) (handler : Handler) : Type 0 where
  pub spelled : Then SpellsPair SpellsPair bytes ((handler.start, handler.end), (handler.handler, handler.catch_type))
  pub catches : (handler.catch_type ≡ 0) ⊎ IsSome (class_at pool handler.catch_type)

-- the start of an entry is below its end. Instructions begin at its start and at its handler, and one at its end, or the
-- end is that of the code
pub record IsPlaced (code : List (ℕ × Insn)) (size : ℕ) (entry : Handler) : Type 0 where
  pub rises : entry.start < entry.end
  pub start : HasPlace code entry.start
  pub end : HasPlace code entry.end ⊎ (entry.end ≡ size)
  pub handler : HasPlace code entry.handler

-- the bytes are the attributes of a body, and these are its frames
pub record SpellsFramesIn (pool : List Constant) (bytes : List ℕ) (frames : List MapFrame) : Type 0 where
  pub attributes : List Attribute
  pub spelled : SpellsAttributes pool bytes attributes
  pub told : SpellsFrames pool (contents_named pool (codes "StackMapTable") attributes) frames

-- the bytes of the code behind their number: at least one and at most 65535
pub record SpellsCodeBytes (bytes code : List ℕ) : Type 0 where
  pub spelled : SpellsBlock bytes code
  pub some : 0 < length code
  pub few : length code < 2 ^ 16

-- the instructions in these bytes, each with a constant of the kind that it needs
pub record SpellsInstructions (pool : List Constant) (bytes : List ℕ) (code : List (ℕ × Insn)) : Type 0 where
  pub spelled : SpellsCode code bytes
  pub constants : AllByRecursion (λ placed. HasConstant pool placed.1) code

-- the parts of an attribute Code: the greatest size of the stack and the number of locals, the code, the exception table
-- and attributes
abbrev pub SpellsParts : List Constant → List ℕ → (ℕ × ℕ) × (List ℕ × (List Handler × List MapFrame)) → Type 0
SpellsParts pool = Then SpellsPair (Then SpellsCodeBytes (Then (SpellsTable (SpellsHandler pool)) (SpellsFramesIn pool)))

-- the contents of an attribute Code
pub record SpellsBody (pool : List Constant) (bytes : List ℕ) (body : Body) : Type 0 where
  pub code : List ℕ
  pub spelled : SpellsParts pool bytes ((body.max_stack, body.max_locals), (code, (body.handlers, body.frames)))
  pub instructions : SpellsInstructions pool code body.code
  pub handlers_placed : AllByRecursion (IsPlaced body.code (length code)) body.handlers

-- the bytes of a handler: no others spell it
abbrev pub handler_bytes : Handler → List ℕ
handler_bytes handler = u2 handler.start ++ u2 handler.end ++ u2 handler.handler ++ u2 handler.catch_type

-- the contents of the attribute StackMapTable of a body. One without frames needs none
abbrev pub frames_contents : List MapFrame → Option (List ℕ)
frames_contents [] = None
frames_contents (frame ∷ frames) = Some (table_bytes frame_bytes (frame ∷ frames))

-- the bytes of the attributes of a body: frames alone stand there
abbrev pub frames_in_bytes : List Constant → List MapFrame → List ℕ
frames_in_bytes pool frames = attributes_bytes (one_attribute pool (codes "StackMapTable") (frames_contents frames))

-- the bytes of a body that have nothing to skip: the padding of its code is 0
abbrev pub body_bytes : List Constant → Body → List ℕ
body_bytes pool body =
    u2 body.max_stack ++ u2 body.max_locals ++ block_bytes (code_bytes body.code) ++ table_bytes handler_bytes body.handlers ++ frames_in_bytes pool body.frames
