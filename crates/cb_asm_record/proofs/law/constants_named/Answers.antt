use Rattle.cb_asm_record.specs.Constants.{entries_of}
use Rattle.cb_asm_record.specs.Entries.{Class, Member, String, Text}
use Rattle.cb_asm_record.proofs.Growing.{index_stays}
use Rattle.cb_asm_record.proofs.Naming.{class_read, member_read, string_read, text_read}
use Rattle.cb_asm_record.proofs.Pooling.{among, at_index}
use Rattle.cb_asm_record.proofs.law.constants_named.Goals as goal

pub returns-clause-named : goal.returns-clause-named
returns-clause-named c = at_index

pub returns-clause-texts : goal.returns-clause-texts
returns-clause-texts c = λ used text there. text_read used text (among (entries_of used) (Text text) there)

pub returns-clause-classes : goal.returns-clause-classes
returns-clause-classes c = λ used name there. class_read used name (among (entries_of used) (Class name) there)

pub returns-clause-strings : goal.returns-clause-strings
returns-clause-strings c = λ used text there. string_read used text (among (entries_of used) (String text) there)

pub returns-clause-members : goal.returns-clause-members
returns-clause-members c = λ used member there. member_read used member (among (entries_of used) (Member member) there)

pub returns-clause-standing : goal.returns-clause-standing
returns-clause-standing c = λ used more entry there. index_stays used more entry (among (entries_of used) entry there)
