use Rattle.std.proofs.Common.{◌<◌, length, map, take}
use Rattle.std.specs.List.{AllByRecursion}
use Rattle.cb_tests.proofs.samples.are_fields.Given as goal

abbrev pub invariant-loop-field : goal.invariant-loop-field
invariant-loop-field l = AllByRecursion (λ member. member.signature < length l.fields) (map (λ field. field.declared) (take l.field-index l.fields))
