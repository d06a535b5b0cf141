use Rattle.std.proofs.Common.{refl}
use Rattle.cb_heap.specs.Kept.{is_number}
use Rattle.cb_partheap.proofs.Calls.{content_word}
use Rattle.cb_partheap.proofs.PutCalls.{put_number}
use Rattle.cb_partheap.proofs.part_heap.PartHeap.put.Goals as goal

pub set_word_at-requires : goal.set_word_at-requires
set_word_at-requires c = content_word is_number refl c.args.at c.args.i c.self.invariant c.self.view_is c.requires

pub invariant_of-self : goal.invariant_of-self
invariant_of-self c = (put_number c.args.at c.args.i c.args.word c.set_word_at.new.words c.self.invariant c.self.view_is c.requires c.set_word_at.ensures).heap_is

pub returns-clause-kept : goal.returns-clause-kept
returns-clause-kept c = (put_number c.args.at c.args.i c.args.word c.set_word_at.new.words c.self.invariant c.self.view_is c.requires c.set_word_at.ensures).objects

pub returns-clause-places : goal.returns-clause-places
returns-clause-places c = (put_number c.args.at c.args.i c.args.word c.set_word_at.new.words c.self.invariant c.self.view_is c.requires c.set_word_at.ensures).index

pub returns-clause-words : goal.returns-clause-words
returns-clause-words c = (put_number c.args.at c.args.i c.args.word c.set_word_at.new.words c.self.invariant c.self.view_is c.requires c.set_word_at.ensures).words

pub returns-clause-unmarked : goal.returns-clause-unmarked
returns-clause-unmarked c = (put_number c.args.at c.args.i c.args.word c.set_word_at.new.words c.self.invariant c.self.view_is c.requires c.set_word_at.ensures).unmarked
