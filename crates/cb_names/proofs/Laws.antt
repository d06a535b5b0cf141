-- What holds of descriptors, for the proofs of crates above.
use Rattle.std.proofs.Common.{◌≡◌, ℕ, List}
use Rattle.cb_names.specs.Types.{JavaType, JavaMethodType, SpellsType, SpellsMethodType}
use Rattle.cb_names.proofs.ParameterTypes.{same_method}
use Rattle.cb_names.proofs.TypeTexts.{whole_type}

-- a text is the descriptor of at most one type
pub one_type : (text : List ℕ) (one other : JavaType) → SpellsType text one → SpellsType text other → one ≡ other
one_type = whole_type

-- and of at most one type of a method
pub one_method_type : (text : List ℕ) (one other : JavaMethodType) → SpellsMethodType text one → SpellsMethodType text other → one ≡ other
one_method_type = same_method
