-- The types of frames by their words.
use Rattle.std.proofs.Common.{◌≢◌, ◌∙◌, ap, sym, refl, arith, inl, inr, codes, List, [], ◌∷◌, ◌++◌, map, Option, Some, None, MatchOption, Result, Ok, Err, IfOk}
use Rattle.std.specs.List.{AllByRecursion, join_with_byte}
use Rattle.cb_asm_line.specs.Inner.{AreClear, Lacks, is_clear}
use Rattle.cb_asm_line.specs.Label.{Label}
use Rattle.cb_asm_line.specs.Lines.{Line, Word}
use Rattle.cb_asm_line.specs.Quoting.{comma}
use Rattle.cb_asm_line.specs.SaidFrames.{AreApart, AreEach, AreTypes, IsNew, IsObject, IsPlainType, IsTypeWord, SaysType}
use Rattle.cb_asm_line.specs.Spelling.{type_word}
use Rattle.cb_asm_line.specs.Statements.{IsType}
use Rattle.cb_asm_line.specs.declared.frame.FrameType.{FrameType}
use Rattle.cb_asm_line.specs.declared.frame.FrameType.TheVariants.{Top, Int, Long, Null, This, Object, New}
use Rattle.cb_asm_line.proofs.Apart.{one_parting}
use Rattle.cb_asm_line.proofs.Inked.{each_one}
use Rattle.cb_asm_line.proofs.Shown.{type_clear}

-- a word that is a type says it, and the other way round
type_said : (word : Word) (type : FrameType Label) → IsTypeWord word type → SaysType word type
type_said word Top told = inl told.spelled
type_said word Int told = inl told.spelled
type_said word Long told = inl told.spelled
type_said word Null told = inl told.spelled
type_said word This told = inl told.spelled
type_said word (Object name) told = inr (inl (record { name = name; rest = _; is = refl; have = told.spelled; says = record { units = told.is; spelled = refl } }))
type_said word (New label) told = inr (inr (record { label = label; rest = _; is = refl; have = told.spelled; says = record { digits = told.is; spelled = refl } }))

plain_spelled : (word : Word) (type : FrameType Label) → IsPlainType word type → IsTypeWord word type
plain_spelled word Top is = record { is = tt; spelled = is }
plain_spelled word Int is = record { is = tt; spelled = is }
plain_spelled word Long is = record { is = tt; spelled = is }
plain_spelled word Null is = record { is = tt; spelled = is }
plain_spelled word This is = record { is = tt; spelled = is }
plain_spelled word (Object name) is = absurd is
plain_spelled word (New label) is = absurd is

object_spelled : (word : Word) (type : FrameType Label) → IsObject word type → IsTypeWord word type
object_spelled word type told = rw told.is (record { is = told.says.units; spelled = told.have ∙ ap (λ rest. codes "object:" ++ rest) told.says.spelled })

new_spelled : (word : Word) (type : FrameType Label) → IsNew word type → IsTypeWord word type
new_spelled word type told = rw told.is (record { is = told.says.digits; spelled = told.have ∙ ap (λ rest. codes "new:" ++ rest) told.says.spelled })

type_spelled : (word : Word) (type : FrameType Label) → SaysType word type → IsTypeWord word type
type_spelled word type (inl is) = plain_spelled word type is
type_spelled word type (inr (inl is)) = object_spelled word type is
type_spelled word type (inr (inr is)) = new_spelled word type is

pub type_told : {E : Type 0} (word : Word) (result : Result (Option (FrameType Label)) E)
    → IfOk result (λ found. MatchOption found ((type : FrameType Label) → SaysType word type → ⊥) (λ type. SaysType word type))
    → IfOk result (λ found. MatchOption found ((type : FrameType Label) → IsTypeWord word type → ⊥) (λ type. IsTypeWord word type))
type_told word (Err fault) told = tt
type_told word (Ok None) none = λ type is. none type (type_said word type is)
type_told word (Ok (Some type)) says = type_spelled word type says

-- a word of types, which stand between its commas
commaless : (word : Word) → AreClear word → Lacks comma word
commaless [] are = tt
commaless (unit ∷ word) are = let told = each_one is_clear unit word are in ((λ is. let clear = told.0 in grind (arith, clear, is)), commaless word told.1)

pub each_commaless : (types : List (FrameType Label)) → AllByRecursion IsType types → AllByRecursion (Lacks comma) (map type_word types)
each_commaless [] are = tt
each_commaless (type ∷ types) are = (commaless (type_word type) (type_clear type are.0), each_commaless types are.1)

pub types_told : {E : Type 0} (word : Word) (words : Line) (result : Result (Option (List (FrameType Label))) E) → word ≢ codes "-" → AreApart comma word words
    → IfOk result (λ found. MatchOption found ((types : List (FrameType Label)) → AreEach words types → ⊥) (λ types. AreEach words types))
    → IfOk result (λ found. MatchOption found ((types : List (FrameType Label)) → AreTypes word types → ⊥) (λ types. AreTypes word types))
types_told word words (Err fault) other apart told = tt
types_told word words (Ok None) other apart none = none_are
  where
    none_are : (types : List (FrameType Label)) → AreTypes word types → ⊥
    none_are [] are = other are.spelled
    none_are (type ∷ types) are =
        none (type ∷ types) (record { each = are.each; are = one_parting comma words (map type_word (type ∷ types)) apart.some (λ is. absurd (cc is)) apart.lack (each_commaless (type ∷ types) are.each) (apart.whole ∙ are.spelled) })
types_told word words (Ok (Some [])) other apart told = absurd (apart.some told.are)
types_told word words (Ok (Some (type ∷ types))) other apart told = record { each = told.each; spelled = sym apart.whole ∙ ap (join_with_byte comma) told.are }
