-- The code of a class that is well formed has fewer bytes than 2^32.
use Rattle.std.proofs.Common.{ℕ, ◌<◌, ◌^◌, arith, List, [], ◌∷◌, length, Option, Some, None, IfSome}
use Rattle.std.specs.List.{AllByRecursion}
use Rattle.std.specs.Prelude.{codes}
use Rattle.cb_text.specs.declared.constant.Constant.{Constant}
use Rattle.cb_insn.specs.Writing.{code_bytes}
use Rattle.cb_insn.proofs.Laws.{code_length}
use Rattle.cb_classfile.specs.declared.body.Body.{Body}
use Rattle.cb_classfile.specs.declared.class.ClassFile.{ClassFile}
use Rattle.cb_classfile.specs.declared.method.Method.{Method}
use Rattle.cb_classfile.specs.Attributes.{SpellsOnce, contents_named}
use Rattle.cb_classfile.specs.Class.{IsWellFormed}
use Rattle.cb_classfile.specs.Code.{SpellsBody}
use Rattle.cb_classfile.specs.Members.{SpellsMethod}
use Rattle.cb_classfile.specs.Tables.{SpellsEach}

abbrev pub IsShort : Body → Type 0
IsShort body = length (code_bytes body.code) < 2 ^ 32

once_short : (pool : List Constant) (found : List (List ℕ)) (body : Option Body) → SpellsOnce (SpellsBody pool) found body → IfSome body IsShort
once_short pool [] None spelled = tt
once_short pool (contents ∷ []) (Some body) spelled =
    let long = code_length body.code spelled.code spelled.instructions.spelled in
    let short = spelled.instructions.spelled.short in
    omega (arith, long, short)
once_short pool found body spelled = absurd spelled

each_short : (pool : List Constant) (bytes : List ℕ) (methods : List Method) → SpellsEach (SpellsMethod pool) bytes methods → AllByRecursion (λ method. IfSome method.body IsShort) methods
each_short pool bytes [] spelled = tt
each_short pool bytes (method ∷ methods) spelled =
    (once_short pool (contents_named pool (codes "Code") spelled.2.attribute_list) method.body spelled.2.body, each_short pool spelled.1 methods spelled.3)

pub bodies_short : (class : ClassFile) → IsWellFormed class → AllByRecursion (λ method. IfSome method.body IsShort) class.methods
bodies_short class formed =
    let table = formed.1.behind.spelled.behind.spelled.behind.behind.behind.here in
    each_short class.pool table.entries class.methods table.each
