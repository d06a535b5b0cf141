use Rattle.std.specs.BTreeMap.{get_by}
use Rattle.std.specs.Cmp.Lexicographic.{slice_cmp}
use Rattle.std.specs.Ordering.{nat_cmp}
use Rattle.cb_classfile.proofs.Numbering.{Numbered}
use Rattle.cb_classfile.proofs.text_numbers.numbers_of_texts.Given as goal

abbrev pub invariant-loop-index : goal.invariant-loop-index
invariant-loop-index l = Numbered l.constants l.index l.numbers.items (λ text. get_by (λ key. slice_cmp nat_cmp text key.now) l.first)
