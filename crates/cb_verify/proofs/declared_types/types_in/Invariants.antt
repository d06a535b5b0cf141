use Rattle.std.proofs.Common.{◌≡◌, drop}
use Rattle.cb_verify.specs.Expansion.{types_in}
use Rattle.cb_verify.proofs.TypesIn.{behind_known}
use Rattle.cb_verify.proofs.declared_types.types_in.Given as goal

abbrev pub invariant-loop-kind : goal.invariant-loop-kind
invariant-loop-kind l = behind_known l.method l.types (drop l.kind-index l.kinds) ≡ types_in l.method l.kinds
