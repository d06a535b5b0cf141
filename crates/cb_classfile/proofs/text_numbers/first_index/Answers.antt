use Rattle.std.proofs.lemmas.Map.Text.{btree_map_updates_str}
use Rattle.std.specs.BTreeMap.{get_by}
use Rattle.std.specs.Cmp.Lexicographic.{slice_cmp}
use Rattle.std.specs.Ordering.{nat_cmp}
use Rattle.cb_classfile.proofs.Numbering.{number_of_equal}
use Rattle.cb_classfile.proofs.text_numbers.first_index.Goals as goal

pub returns-in-Some-clause-others : goal.returns-in-Some-clause-others
returns-in-Some-clause-others c = λ other.
    number_of_equal (λ text. get_by (λ key. slice_cmp nat_cmp text key.now) c.args.first.now) c.args.text.now other _ c.in-Some.ensures.value

pub returns-clause-others : goal.returns-clause-others
returns-clause-others c = λ other.
    btree_map_updates_str c.args.text.now c.args.first.now c.insert.new.self _ c.in_ok-insert.ensures.updates other
