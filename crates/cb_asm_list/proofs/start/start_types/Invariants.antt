use Rattle.std.proofs.Common.{◌≡◌, drop, map}
use Rattle.cb_names.specs.Types.{type_of}
use Rattle.cb_classfile.specs.Expansion.{all_of}
use Rattle.cb_asm_list.specs.Expansion.{parameter_type, start_types}
use Rattle.cb_asm_list.proofs.AllOf.{behind_these}
use Rattle.cb_asm_list.proofs.start.start_types.Given as goal

abbrev pub invariant-loop-parameter : goal.invariant-loop-parameter
invariant-loop-parameter l = start_types l.class l.method ≡ behind_these l.types (all_of (map (λ parameter. parameter_type (type_of parameter)) (drop l.parameter-index l.parameter-items)))
