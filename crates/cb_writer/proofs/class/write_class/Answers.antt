use Rattle.cb_classfile.proofs.Laws.{one_class_spelled}
use Rattle.cb_writer.proofs.Classes.{class_written}
use Rattle.cb_writer.proofs.class.write_class.Goals as goal

pub returns-clause-spelled : goal.returns-clause-spelled
returns-clause-spelled c = class_written c.args.class.now c.requires c.new-bytes.ensures.items c.in_ok-push_class.ensures

pub returns-clause-read_back : goal.returns-clause-read_back
returns-clause-read_back c = λ other spells.
    one_class_spelled c.push_class.new.bytes.items other c.args.class.now spells (class_written c.args.class.now c.requires c.new-bytes.ensures.items c.in_ok-push_class.ensures)
