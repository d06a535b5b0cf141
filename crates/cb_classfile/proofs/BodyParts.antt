-- Bodies of methods, by what was read of them.
use Rattle.std.proofs.Common.{◌≡◌, ℕ, ◌^◌, ◌<◌, ◌≤◌, List, [], ◌∷◌, length, Result, Ok, Err, refl, sym, ◌∙◌, ap, subst, arith}
use Rattle.std.specs.Prelude.{codes}
use Rattle.std.specs.List.{AllByRecursion}
use Rattle.cb_text.specs.declared.constant.Constant.{Constant}
use Rattle.cb_classfile.specs.declared.body.Body.{Body}
use Rattle.cb_classfile.specs.declared.fault.Fault.{Fault}
use Rattle.cb_classfile.specs.declared.frame_map.MapFrame.{MapFrame}
use Rattle.cb_classfile.specs.Attributes.{Attribute, SpellsAttributes, contents_named}
use Rattle.cb_classfile.specs.Code.{IsPlaced, SpellsBody, SpellsCodeBytes, SpellsFramesIn, SpellsHandler, SpellsInstructions}
use Rattle.cb_classfile.specs.FrameMap.{SpellsFrame, SpellsFrames}
use Rattle.cb_classfile.specs.Reading.{IsFront, IsWhole, ReadsWhole}
use Rattle.cb_classfile.specs.Tables.{BeginsWith, SpellsBlock, SpellsPair, SpellsTable, Then}
use Rattle.cb_classfile.proofs.OneBody.{exact_code_bytes, exact_frames_in, one_body}
use Rattle.cb_classfile.proofs.OneItem.{front, whole}
use Rattle.cb_classfile.proofs.Sequence.{found_whole}

-- the code is a block
pub code_block : {bytes code rest : List ℕ} → BeginsWith SpellsCodeBytes bytes code rest → BeginsWith SpellsBlock bytes code rest
code_block (first, spelled, split) = (first, spelled.spelled, split)

pub code_found : {bytes contents block rest : List ℕ} → IsFront SpellsBlock bytes block rest → contents ≡ block → 0 < length contents → length contents < 2 ^ 16 → IsFront SpellsCodeBytes bytes block rest
code_found {bytes} {contents} {block} {rest} here told some few =
    let (first, spelled, split) = here.found in
    let long = ap length told in
    front exact_code_bytes (first, record { spelled = spelled; some = omega (arith, some, long); few = omega (arith, few, long) }, split)

-- no frame stands where no attribute of the name does
pub frames_none : {pool : List Constant} {bytes : List ℕ} {attributes : List Attribute} {frames : List MapFrame} → IsWhole (SpellsAttributes pool) bytes attributes → contents_named pool (codes "StackMapTable") attributes ≡ [] → frames ≡ [] → IsWhole (SpellsFramesIn pool) bytes frames
frames_none {pool} {bytes} {attributes} {frames} here none is =
    whole (exact_frames_in pool) (record { attributes = attributes; spelled = here.found; told = rw (none, is) refl })

-- those of the only one stand in its contents
pub frames_once : {pool : List Constant} {bytes contents : List ℕ} {attributes : List Attribute} (result : Result (List MapFrame) Fault) → IsWhole (SpellsAttributes pool) bytes attributes → contents_named pool (codes "StackMapTable") attributes ≡ contents ∷ [] → ReadsWhole (SpellsTable (SpellsFrame pool)) contents result → ReadsWhole (SpellsFramesIn pool) bytes result
frames_once {pool} {bytes} {contents} {attributes} (Ok frames) here once read =
    whole (exact_frames_in pool) (record { attributes = attributes; spelled = here.found; told = rw once read.found })
frames_once {pool} {bytes} {contents} {attributes} (Err fault) here once read = λ frames spelled.
    let same = here.only spelled.attributes spelled.spelled in
    let told : SpellsFrames pool (contents ∷ []) frames = subst (λ contents. SpellsFrames pool contents frames) (ap (contents_named pool (codes "StackMapTable")) (sym same) ∙ once) spelled.told in
    read frames told

-- and where there are more, none are spelled
pub frames_again : {P : Type 0} {pool : List Constant} {bytes : List ℕ} {attributes : List Attribute} → IsWhole (SpellsAttributes pool) bytes attributes → 2 ≤ length (contents_named pool (codes "StackMapTable") attributes) → (frames : List MapFrame) → SpellsFramesIn pool bytes frames → P
frames_again {P} {pool} {bytes} {attributes} here again frames spelled =
    let same = here.only spelled.attributes spelled.spelled in
    go (contents_named pool (codes "StackMapTable") attributes) again (subst (λ attributes. SpellsFrames pool (contents_named pool (codes "StackMapTable") attributes) frames) (sym same) spelled.told)
  where
    go : (contents : List (List ℕ)) → 2 ≤ length contents → SpellsFrames pool contents frames → P
    go [] again told = absurd (omega (arith, again))
    go (one ∷ []) again told = absurd (omega (arith, again))
    go (one ∷ two ∷ contents) again told = absurd told

-- the sizes and the code were read
pub record IsHead (pool : List Constant) (contents : List ℕ) (max_stack max_locals : ℕ) (code rest : List ℕ) : Type 0 where
  pub behind : List ℕ
  pub sizes : IsFront SpellsPair contents (max_stack, max_locals) behind
  pub code_here : IsFront SpellsCodeBytes behind code rest

pub head_of : {pool : List Constant} {contents behind told rest : List ℕ} {max_stack max_locals : ℕ} → IsFront SpellsPair contents (max_stack, max_locals) behind → (code : List ℕ) × IsFront SpellsCodeBytes behind code rest × (told ≡ code) → IsHead pool contents max_stack max_locals told rest
head_of {pool} {contents} {behind} {told} {rest} sizes (code, here, is) = record {
  behind = behind;
  sizes = sizes;
  code_here = subst (λ code. IsFront SpellsCodeBytes behind code rest) (sym is) here;
}

-- what stands behind them, in a body that the contents spell
pub record IsTail (pool : List Constant) (code rest : List ℕ) (body : Body) : Type 0 where
  pub instructions : SpellsInstructions pool code body.code
  pub placed : AllByRecursion (IsPlaced body.code (length code)) body.handlers
  pub tables : Then (SpellsTable (SpellsHandler pool)) (SpellsFramesIn pool) rest (body.handlers, body.frames)

pub tail_of : {pool : List Constant} {contents code rest : List ℕ} {max_stack max_locals : ℕ} {body : Body} → IsHead pool contents max_stack max_locals code rest → SpellsBody pool contents body → IsTail pool code rest body
tail_of {pool} {contents} {code} {rest} {max_stack} {max_locals} {body} head spelled =
    let parts = spelled.spelled in
    let first = head.sizes.only (body.max_stack, body.max_locals) parts.second (parts.first, parts.here, parts.spelled) in
    let second = head.code_here.only spelled.code parts.behind.second (parts.behind.first, parts.behind.here, first.1 ∙ parts.behind.spelled) in
    record {
      instructions = rw second.0 spelled.instructions;
      placed = rw second.0 spelled.handlers_placed;
      tables = rw second.1 parts.behind.behind;
    }

-- all of it was read
pub body_found : {pool : List Constant} {contents code rest : List ℕ} {body : Body} → IsHead pool contents body.max_stack body.max_locals code rest → IsTail pool code rest body → IsWhole (SpellsBody pool) contents body
body_found {pool} {contents} {code} {rest} {body} head tail = record { found = found; only = λ other too. one_body pool contents body other found too } where
  found : SpellsBody pool contents body
  found = record {
    code = code;
    spelled = found_whole head.sizes.found (found_whole head.code_here.found tail.tables);
    instructions = tail.instructions;
    handlers_placed = tail.placed;
  }
