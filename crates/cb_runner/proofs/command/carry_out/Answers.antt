use Rattle.std.proofs.Common.{◌∙◌, inr, map, string_bytes, ap, subst, sym}
use Rattle.std.proofs.lemmas.Bool.{false≢true}
use Rattle.cb_runner.specs.Inner.{cause_of, run_of, said}
use Rattle.cb_runner.specs.Words.{Assemble, ListOf, RunIn, Says}
use Rattle.cb_runner.proofs.Endings.{carried, done_so, list_ends, unchanged_count, unsaid}
use Rattle.cb_runner.proofs.Bounded.{blocks_said, steps_said}
use Rattle.cb_runner.proofs.RunSaid.{few_said}
use Rattle.cb_runner.proofs.Laws.{asks_folder, asks_input}
use Rattle.cb_runner.proofs.command.carry_out.Goals as goal

pub run_class-requires : goal.run_class-requires
run_class-requires g c =
    let asked = c.in-Some-Run.asked in
    let says = subst (λ command. Says (map string_bytes c.args.words.now) (said command)) c.in-Some-Run.field-0-is c.in-Some-Run.ensures in
    record {
      few = few_said _ asked.folder.now (run_of asked) says c.requires.few;
      steps = steps_said _ asked.folder.now (run_of asked) says;
      blocks = blocks_said _ asked.folder.now (run_of asked) says;
    }

pub returns-in-Some-Run-clause-ends : goal.returns-in-Some-Run-clause-ends
returns-in-Some-Run-clause-ends g c =
    let asked = c.in-Some-Run.asked in
    let says = subst (λ command. Says (map string_bytes c.args.words.now) (said command)) c.in-Some-Run.field-0-is c.in-Some-Run.ensures in
    done_so g.S.Source.left g.S.Source.gave _ _ _ _ _ _ (RunIn asked.folder.now (run_of asked)) c.run_class.result.store c.run_class.result.stop says c.run_class.ensures.ends

pub returns-in-Some-Run-clause-alone : goal.returns-in-Some-Run-clause-alone
returns-in-Some-Run-clause-alone g c = λ all.
    let asked = c.in-Some-Run.asked in
    let says = subst (λ command. Says (map string_bytes c.args.words.now) (said command)) c.in-Some-Run.field-0-is c.in-Some-Run.ensures in
    absurd (false≢true (sym (all (RunIn asked.folder.now (run_of asked)) says)))

pub returns-in-Some-List-clause-ends : goal.returns-in-Some-List-clause-ends
returns-in-Some-List-clause-ends g c =
    let says = subst (λ command. Says (map string_bytes c.args.words.now) (said command)) c.in-Some-List.field-0-is c.in-Some-List.ensures in
    let (printed, appends, ends) = c.list_file.ensures.ends in
    rw (c.of.ensures.stop, c.of.ensures.store) (carried g.S.Source.left g.S.Source.gave _ _ c.args.input.now _ _ (ListOf c.in-Some-List.path.now) c.list_file.result printed says appends
    (list_ends g.S.Source.left g.S.Source.gave _ c.args.input.now c.args.input.now c.in-Some-List.path.now c.list_file.result printed ends))

pub returns-in-Some-List-clause-input_fault : goal.returns-in-Some-List-clause-input_fault
returns-in-Some-List-clause-input_fault g c =
    let (printed, appends, ends) = c.list_file.ensures.ends in
    unchanged_count _ (λ is. asks_input g.S.Source.left g.S.Source.gave c.in-Some-List.path.now _ c.args.input.now c.args.input.now _
    (list_ends g.S.Source.left g.S.Source.gave _ c.args.input.now c.args.input.now c.in-Some-List.path.now c.list_file.result printed ends) (ap cause_of (sym c.of.ensures.stop ∙ is)))

pub returns-in-Some-Assemble-clause-ends : goal.returns-in-Some-Assemble-clause-ends
returns-in-Some-Assemble-clause-ends g c =
    let says = subst (λ command. Says (map string_bytes c.args.words.now) (said command)) c.in-Some-Assemble.field-0-is c.in-Some-Assemble.ensures in
    let done = c.assemble_input.ensures.ends in
    rw (c.of-in-Some-Assemble.ensures.stop, c.of-in-Some-Assemble.ensures.store) (record {
      printed = done.printed;
      read = done.read;
      appends = done.appends;
      left = done.left;
      ends = inr (Assemble, says, done.ends _);
    })

pub returns-in-Some-Assemble-clause-alone : goal.returns-in-Some-Assemble-clause-alone
returns-in-Some-Assemble-clause-alone g c = λ all.
    let says = subst (λ command. Says (map string_bytes c.args.words.now) (said command)) c.in-Some-Assemble.field-0-is c.in-Some-Assemble.ensures in
    absurd (false≢true (sym (all Assemble says)))

pub returns-in-Some-Assemble-clause-folder_fault : goal.returns-in-Some-Assemble-clause-folder_fault
returns-in-Some-Assemble-clause-folder_fault g c =
    unchanged_count _ (λ is. asks_folder g.S.Source.left g.S.Source.gave _ c.args.input.now _ _ (c.assemble_input.ensures.ends.ends (g.F.Folder.files c.args.folder.now)) (ap cause_of (sym c.of-in-Some-Assemble.ensures.stop ∙ is)))

pub returns-in-None-clause-ends : goal.returns-in-None-clause-ends
returns-in-None-clause-ends g c = rw (c.of-in-None.ensures.stop, c.of-in-None.ensures.store) (unsaid g.S.Source.left g.S.Source.gave _ _ c.args.input.now _ c.in-None.ensures)
