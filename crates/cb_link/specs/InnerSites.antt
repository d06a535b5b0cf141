-- The objects that parts of classes make, for the walk over them.
use Rattle.std.specs.Prelude.{ℕ, ◌+◌, ◌<◌, List, [], ◌∷◌, length, map, take, Option, Some, None}
use Rattle.std.specs.List.{enumerate_from, flat_map}
use Rattle.cb_text.specs.declared.constant.Constant.{Constant}
use Rattle.cb_insn.specs.declared.insn.Insn.{Insn}
use Rattle.cb_insn.specs.declared.insn.Operand.{Operand}
use Rattle.cb_insn.specs.declared.insn.Operand.TheVariants as operands
use Rattle.cb_classfile.specs.declared.body.Body.{Body}
use Rattle.cb_classfile.specs.declared.class.ClassFile.{ClassFile}
use Rattle.cb_text.specs.Naming.{class_at}
use Rattle.cb_kinds.specs.Kinds.{kinds_of_type}
use Rattle.cb_link.specs.declared.linked.Site.{Site}
use Rattle.cb_link.specs.Judging.{site_limit}
use Rattle.cb_link.specs.Making.{Making, base_array, fixed_kinds, made_by}
use Rattle.cb_link.specs.Numbers.{or_none}

-- the arrays that an operand tells of
abbrev pub operand_arrays : List Constant → Operand → List (List ℕ)
operand_arrays pool (operands.ArrayCode code) = base_array code ∷ []
operand_arrays pool (operands.Dimensions index dimensions) = take dimensions (kinds_of_type (or_none (class_at pool index)))
operand_arrays pool other = []

-- objects of these kinds, made at a place of a method
abbrev pub made_at : ℕ → ℕ → List (List ℕ) → List Making
made_at method place kinds =
    map (λ made. record { method = method; place = place; dimension = made.0; kind = made.1 }) (enumerate_from 0 kinds)

-- those of an instruction, of a body, and of the methods of a class that count from a number on
abbrev pub insn_makings : ℕ → List Constant → ℕ × Insn → List Making
insn_makings method pool placed = made_at method placed.0 (made_by pool placed.1)

abbrev pub body_makings : ℕ → List Constant → Option Body → List Making
body_makings method pool None = []
body_makings method pool (Some body) = flat_map (insn_makings method pool) body.code

abbrev pub class_makings : ℕ → ClassFile → List Making
class_makings first class = flat_map (λ own. body_makings own.0 class.pool own.1.body) (enumerate_from first class.methods)

-- with so many more there would be too many sites
abbrev pub Exceeds : List Site → ℕ → Type 0
Exceeds sites more = site_limit < length fixed_kinds + (length sites + more)
