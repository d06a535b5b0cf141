-- Attributes (JVMS §4.7). Those that no rule asks for are skipped by their length.
use Rattle.std.specs.Prelude.{◌≡◌, ℕ, suc, ◌≤◌, Bool, false, List, [], ◌∷◌, ◌++◌, length, Option, Some, None, IsSome, if◌then◌else◌, nat_eq}
use Rattle.std.specs.Cmp.Lexicographic.{pointwise}
use denote.Ref.{Bor}
use Rattle.cb_text.specs.declared.constant.Constant.{Constant}
use Rattle.cb_classfile.specs.declared.attribute.Occurrence.{Occurrence}
use Rattle.cb_classfile.specs.declared.attribute.Occurrence.TheVariants.{Never, Once, Again}
use Rattle.cb_text.specs.Naming.{units_of}
use Rattle.cb_classfile.specs.Pool.{text_at}
use Rattle.cb_classfile.specs.Tables.{u2, block_bytes, table_bytes, SpellsBlock, SpellsTable, SpellsU2, Then}

-- the index of an attribute's name, and its contents
abbrev pub Attribute : Type 0
Attribute = ℕ × List ℕ

-- an attribute_info: the index of a text, the length of the contents, and the contents
pub record SpellsAttribute (pool : List Constant) (bytes : List ℕ) (attribute : Attribute) : Type 0 where
  pub spelled : Then SpellsU2 SpellsBlock bytes attribute
  pub named : IsSome (text_at pool attribute.0)

abbrev pub SpellsAttributes : List Constant → List ℕ → List Attribute → Type 0
SpellsAttributes pool bytes attributes = SpellsTable (SpellsAttribute pool) bytes attributes

-- whether an index names this text
abbrev pub is_text : List ℕ → Option (List ℕ) → Bool
is_text name None = false
is_text name (Some text) = pointwise nat_eq text name

-- the contents of the attributes of a name, in order
abbrev pub contents_named : List Constant → List ℕ → List Attribute → List (List ℕ)
contents_named pool name [] = []
contents_named pool name (attribute ∷ attributes) =
    if is_text name (text_at pool attribute.0) then attribute.1 ∷ contents_named pool name attributes
    else contents_named pool name attributes

-- an attribute that stands at most once, by the contents of all of its name: what the one spells, or nothing where
-- there is none
abbrev pub SpellsOnce : {Item : Type 0} → (List ℕ → Item → Type 0) → List (List ℕ) → Option Item → Type 0
SpellsOnce Spells [] None = Unit {0}
SpellsOnce Spells (contents ∷ []) (Some item) = Spells contents item
SpellsOnce Spells contents item = ⊥

-- the least index of a text in a pool, counted on from the index of its first constant. Where none is the text it is one
-- more than the greatest
abbrev pub index_from : ℕ → List ℕ → List Constant → ℕ
index_from index name [] = index
index_from index name (constant ∷ pool) = if is_text name (units_of constant) then index else index_from (suc index) name pool

abbrev pub least_index : List Constant → List ℕ → ℕ
least_index pool name = index_from 1 name pool

-- an attribute of a name, at its least index, where it has contents: the only one of a table
abbrev pub one_attribute : List Constant → List ℕ → Option (List ℕ) → List Attribute
one_attribute pool name None = []
one_attribute pool name (Some contents) = (least_index pool name, contents) ∷ []

-- the bytes of attributes
abbrev pub attribute_bytes : Attribute → List ℕ
attribute_bytes attribute = u2 attribute.0 ++ block_bytes attribute.1

abbrev pub attributes_bytes : List Attribute → List ℕ
attributes_bytes attributes = table_bytes attribute_bytes attributes

-- what is told of an attribute: all of it
abbrev pub TellsAttribute : ℕ × Bor (List ℕ) → Attribute → Type 0
TellsAttribute told attribute = attribute ≡ (told.0, told.1.now)

-- what is told of these contents: that there are none, one or more
abbrev pub IsTold : Occurrence → List (List ℕ) → Type 0
IsTold Never contents = contents ≡ []
IsTold (Once one) contents = contents ≡ one.now ∷ []
IsTold Again contents = 2 ≤ length contents

-- that of the attributes of a name
abbrev pub TellsOfName : List Constant → List ℕ → Occurrence → List Attribute → Type 0
TellsOfName pool name occurrence attributes = IsTold occurrence (contents_named pool name attributes)
