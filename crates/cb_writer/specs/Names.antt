-- The names of the attributes that are written (JVMS §4.7). What private contracts and proofs cite: no public clause
-- names this file.
use Rattle.std.specs.Prelude.{◌≡◌, ℕ, ◌^◌, ◌<◌, List, Option, Some, codes}
use Rattle.cb_text.specs.declared.constant.Constant.{Constant}
use Rattle.cb_classfile.specs.Attributes.{Attribute as AnyAttribute, SpellsAttributes, SpellsOnce, contents_named, least_index}
use Rattle.cb_classfile.specs.Pool.{text_at}
use Rattle.cb_writer.specs.declared.attribute_names.Attribute.{Attribute}
use Rattle.cb_writer.specs.declared.attribute_names.Attribute.TheVariants.{ConstantValue, Code, StackMapTable}

abbrev pub name_of : Attribute → List ℕ
name_of ConstantValue = codes "ConstantValue"
name_of Code = codes "Code"
name_of StackMapTable = codes "StackMapTable"

-- a text stands in the pool
pub record HasName (pool : List Constant) (name : List ℕ) : Type 0 where
  pub named : text_at pool (least_index pool name) ≡ Some name
  pub fits : least_index pool name < 2 ^ 16

-- some attributes have an item in that of a name, which stands once, or none
pub record HasOnce {Item : Type 0} (Spells : List ℕ → Item → Type 0) (pool : List Constant) (name : List ℕ) (item : Option Item) : Type 0 where
  pub bytes : List ℕ
  pub attributes : List AnyAttribute
  pub spelled : SpellsAttributes pool bytes attributes
  pub told : SpellsOnce Spells (contents_named pool name attributes) item
