use Rattle.std.proofs.Common.{◌≡◌, ◌+◌, drop}
use Rattle.cb_classfile.specs.Attributes.{index_from, least_index}
use Rattle.cb_writer.proofs.attribute_names.least_index.Given as goal

abbrev pub invariant-loop-constant : goal.invariant-loop-constant
invariant-loop-constant l = (l.index ≡ l.constant-index + 1) × (least_index l.constants l.name ≡ index_from l.index l.name (drop l.constant-index l.constants))
