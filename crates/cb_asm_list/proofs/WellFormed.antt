-- What is known of the methods and superinterfaces of a well-formed record.
use Rattle.std.proofs.Common.{sym, subst, arith, ℕ, suc, zero, ◌^◌, ◌<◌, List, [], ◌∷◌, length, get_or, Option, Some, None, IfSome}
use Rattle.std.specs.List.{AllByRecursion}
use Rattle.cb_text.specs.declared.constant.Constant.{Constant}
use Rattle.cb_classfile.specs.Attributes.{SpellsOnce}
use Rattle.cb_classfile.specs.Class.{IsWellFormed, SpellsInterface}
use Rattle.cb_classfile.specs.Code.{SpellsBody}
use Rattle.cb_classfile.specs.FrameMap.{SpellsFrames}
use Rattle.cb_classfile.specs.Members.{SpellsMethod}
use Rattle.cb_classfile.specs.Tables.{SpellsEach}
use Rattle.cb_classfile.specs.declared.body.Body.{Body}
use Rattle.cb_classfile.specs.declared.class.ClassFile.{ClassFile}
use Rattle.cb_classfile.specs.declared.frame_map.MapFrame.{MapFrame}
use Rattle.cb_classfile.specs.declared.method.Method.{Method}
use Rattle.cb_asm_list.specs.Inner.{IsCoded, IsListable, IsListed}

-- what holds of each item that some bytes spell holds of all that they spell
each_item : {Item : Type 0} (Spells : List ℕ → Item → Type 0) (Is : Item → Type 0) → ((bytes : List ℕ) (item : Item) → Spells bytes item → Is item)
    → (bytes : List ℕ) (items : List Item) → SpellsEach Spells bytes items → AllByRecursion Is items
each_item Spells Is each bytes [] spells = tt
each_item Spells Is each bytes (item ∷ items) (first, rest, here, behind, is) = (each first item here, each_item Spells Is each rest items behind)

few_frames : (pool : List Constant) (contents : List (List ℕ)) (frames : List MapFrame) → SpellsFrames pool contents frames → length frames < 2 ^ 16
few_frames pool [] frames spells = subst (λ these. length these < 2 ^ 16) (sym spells) (omega arith)
few_frames pool (one ∷ []) frames spells = spells.counted
few_frames pool (one ∷ other ∷ contents) frames spells = absurd spells

coded : (pool : List Constant) (bytes : List ℕ) (body : Body) → SpellsBody pool bytes body → IsCoded body
coded pool bytes body spells = record {
  bytes = spells.code;
  spelled = spells.instructions.spelled;
  few = few_frames pool _ body.frames spells.spelled.behind.behind.behind.told;
}

coded_once : (pool : List Constant) (contents : List (List ℕ)) (body : Option Body) → SpellsOnce (SpellsBody pool) contents body → IfSome body IsCoded
coded_once pool [] None spells = tt
coded_once pool (one ∷ []) (Some body) spells = coded pool one body spells
coded_once pool contents None spells = tt
coded_once pool [] (Some body) spells = absurd spells
coded_once pool (one ∷ other ∷ contents) (Some body) spells = absurd spells

listable : (pool : List Constant) (bytes : List ℕ) (method : Method) → SpellsMethod pool bytes method → IsListable pool method
listable pool bytes method spells = record { described = spells.named.1; coded = coded_once pool _ method.body spells.body }

pub listed : (class : ClassFile) → IsWellFormed class → IsListed class
listed class (bytes, spells) =
    let tables = spells.behind.spelled.behind.spelled.behind in
    record {
      interfaces = each_item (SpellsInterface class.pool) (λ index. index < 2 ^ 16) (λ bytes index spells. spells.fits) _ class.interfaces tables.here.each;
      methods = each_item (SpellsMethod class.pool) (IsListable class.pool) (listable class.pool) _ class.methods tables.behind.behind.here.each;
    }

-- what holds of all holds of one that is read
pub at_place : {Item : Type 0} (Is : Item → Type 0) (items : List Item) (i : ℕ) (other : Item) → AllByRecursion Is items → i < length items → Is (get_or items i other)
at_place Is [] i other all within = absurd (omega (arith, within))
at_place Is (item ∷ items) zero other all within = all.0
at_place Is (item ∷ items) (suc i) other all within = at_place Is items i other all.1 (omega (arith, within))
