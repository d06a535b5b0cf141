-- Finding the attributes of a name in a table.
use Rattle.std.proofs.Common.{◌≡◌, ℕ, Bool, true, false, List, [], ◌∷◌, ◌++◌, None, refl, sym, ◌∙◌, ap, subst, append_assoc, if◌then◌else◌}
use Rattle.std.specs.Option.{IsSome}
use Rattle.std.proofs.lemmas.Bool.{false≢true}
use Rattle.std.proofs.lemmas.List.{append-nil}
use Rattle.cb_text.specs.declared.constant.Constant.{Constant}
use Rattle.cb_classfile.specs.declared.attribute.Occurrence.{Occurrence}
use Rattle.cb_classfile.specs.Attributes.{Attribute, SpellsAttribute, contents_named, is_text, IsTold}
use Rattle.cb_classfile.specs.Pool.{text_at}
use Rattle.cb_classfile.specs.Reading.{IsFront}
use Rattle.cb_classfile.specs.Tables.{BeginsWith, SpellsBlock, SpellsU2, Then}
use Rattle.cb_classfile.proofs.OneBody.{exact_attribute}
use Rattle.cb_classfile.proofs.OneItem.{front}
use Rattle.cb_classfile.proofs.Sequence.{found_both}
use Rattle.cb_classfile.proofs.Tabling.{Reached}

-- an attribute is its index and its contents
pub attribute_parts : {pool : List Constant} {bytes : List ℕ} {attribute : Attribute} {rest : List ℕ} → BeginsWith (SpellsAttribute pool) bytes attribute rest → BeginsWith (Then SpellsU2 SpellsBlock) bytes attribute rest
attribute_parts (first, spelled, split) = (first, spelled.spelled, split)

-- none stands where its index names no text
pub attribute_unnamed : {P : Type 0} {pool : List Constant} {bytes middle : List ℕ} {index : ℕ} → IsFront SpellsU2 bytes index middle → text_at pool index ≡ None → (attribute : Attribute) (rest : List ℕ) → BeginsWith (SpellsAttribute pool) bytes attribute rest → P
attribute_unnamed {P} {pool} here none attribute rest (first, spelled, split) =
    let parts = spelled.spelled in
    let same = here.only attribute.0 (parts.second ++ rest) (parts.first, parts.here, split ∙ ap (λ bytes. bytes ++ rest) parts.spelled ∙ append_assoc parts.first parts.second rest) in
    let named = subst (λ text. IsSome {T = List ℕ} text) (ap (text_at pool) (sym same.0) ∙ none) spelled.named in
    absurd (false≢true named)

-- and one stands where its parts do
pub attribute_found : {pool : List Constant} {bytes middle rest contents block : List ℕ} {index : ℕ} → IsFront SpellsU2 bytes index middle → IsFront SpellsBlock middle block rest → contents ≡ block → IsSome (text_at pool index) → IsFront (SpellsAttribute pool) bytes (index, contents) rest
attribute_found {pool} {bytes} {middle} {rest} {contents} {block} {index} here behind told named = front (exact_attribute pool) (go (found_both here.found (subst (λ block. BeginsWith SpellsBlock middle block rest) (sym told) behind.found))) where
  go : BeginsWith (Then SpellsU2 SpellsBlock) bytes (index, contents) rest → BeginsWith (SpellsAttribute pool) bytes (index, contents) rest
  go (first, spelled, split) = (first, record { spelled = spelled; named = named }, split)

-- those of two tables are those of the first and then those of the second
pub contents_named-more : (pool : List Constant) (name : List ℕ) (attributes : List Attribute) (attribute : Attribute) → contents_named pool name (attributes ++ attribute ∷ []) ≡ contents_named pool name attributes ++ contents_named pool name (attribute ∷ [])
contents_named-more pool name [] attribute = refl
contents_named-more pool name (first ∷ attributes) attribute = go (is_text name (text_at pool first.0)) (contents_named-more pool name attributes attribute) where
  go : (named : Bool) → contents_named pool name (attributes ++ attribute ∷ []) ≡ contents_named pool name attributes ++ contents_named pool name (attribute ∷ [])
      → (if named then first.1 ∷ contents_named pool name (attributes ++ attribute ∷ []) else contents_named pool name (attributes ++ attribute ∷ []))
      ≡ (if named then first.1 ∷ contents_named pool name attributes else contents_named pool name attributes) ++ contents_named pool name (attribute ∷ [])
  go true more = ap (λ contents. first.1 ∷ contents) more
  go false more = more

-- so many attributes were read, and this is told of those of the name
pub record Found (pool : List Constant) (name : List ℕ) (count done : ℕ) (bytes rest : List ℕ) (occurrence : Occurrence) : Type 0 where
  pub attributes : List Attribute
  pub reached : Reached (SpellsAttribute pool) count done bytes attributes rest
  pub told : IsTold occurrence (contents_named pool name attributes)

-- one more of the name, or of another
pub named_more : (pool : List Constant) (name : List ℕ) (attributes : List Attribute) (attribute : Attribute) → is_text name (text_at pool attribute.0) ≡ true → contents_named pool name (attributes ++ attribute ∷ []) ≡ contents_named pool name attributes ++ attribute.1 ∷ []
named_more pool name attributes attribute is =
    contents_named-more pool name attributes attribute ∙ ap (λ named. contents_named pool name attributes ++ (if named then attribute.1 ∷ [] else [])) is

pub other_more : (pool : List Constant) (name : List ℕ) (attributes : List Attribute) (attribute : Attribute) → is_text name (text_at pool attribute.0) ≡ false → contents_named pool name (attributes ++ attribute ∷ []) ≡ contents_named pool name attributes
other_more pool name attributes attribute other =
    contents_named-more pool name attributes attribute ∙ ap (λ named. contents_named pool name attributes ++ (if named then attribute.1 ∷ [] else [])) other ∙ append-nil (contents_named pool name attributes)

-- what is found at the index that is told holds at that of the attribute
pub told_at : (pool : List Constant) (name : List ℕ) {contents : List ℕ} {index : ℕ} {attribute : Attribute} {named : Bool} → attribute ≡ (index, contents) → is_text name (text_at pool index) ≡ named → is_text name (text_at pool attribute.0) ≡ named
told_at pool name told is = ap (λ attribute. is_text name (text_at pool attribute.0)) told ∙ is
