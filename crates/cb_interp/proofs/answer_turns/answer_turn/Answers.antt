use Rattle.cb_heap.specs.Storage.{view_in}
use Rattle.std.proofs.Common.{◌≡◌, ◌∙◌, ap, subst, sym, ℕ, ◌<◌, ◌≤◌, List, length, map, reverse, take, true, Some, rules}
use Rattle.std.specs.declared.result.Result.{Result}
use Rattle.std.specs.declared.result.Result.TheVariants.{Err}
use Rattle.cb_frames.specs.Limited.{Limited}
use Rattle.cb_frames.specs.Tops.{top_stack}
use Rattle.cb_heap.specs.Reading.{read_value}
use Rattle.cb_machine.specs.Machine.{kind_of_site}
use Rattle.cb_machine.specs.Throwing.{throws}
use Rattle.cb_natives.specs.Answers.{Tells}
use Rattle.cb_natives.specs.Given.{AreGiven, have_sorts, roles, sorts_of}
use Rattle.cb_natives.specs.declared.answers.Answer.{Answer}
use Rattle.cb_natives.specs.declared.answers.Thrown.{Thrown}
use Rattle.cb_plain.specs.declared.value.Value.{Value}
use Rattle.cb_safety.specs.Throwing.{IsThrown}
use Rattle.cb_act.specs.Turning.{machine_of, state_of}
use Rattle.cb_interp.specs.Answering.{answer_values, behind_answer}
use Rattle.cb_interp.proofs.NativesAnswered.{answered_turn, core_there, divides_so, enough, few_there, gives_so, given_there, goes_on, low_site, some_there, sorts_there, standing, standing_size, taken_there, thrown_site, throws_so}
use Rattle.cb_interp.proofs.TurnsNeed.{steps_on}
use Rattle.cb_interp.proofs.answer_turns.answer_turn.Goals as goal

pub arguments_on-arguments-requires-clause-few : goal.arguments_on-arguments-requires-clause-few
arguments_on-arguments-requires-clause-few g c =
    subst (λ (count : ℕ). count ≤ 5) (sym c.argument_count-count.ensures)
    (few_there c.args.program.now (g.S.Store.storage c.args.store.now).index (g.S.Store.storage c.args.store.now).kept c.args.roots.now.limit c.args.roots.now.roots g.outside c.args.decoded.now c.requires.1.1.1.0.method
    c.requires.1.1.0 c.requires.1.1.1.0.asked c.args.native c.requires.1.1.1.0.is c.requires.1.0.linked c.requires.1.0.fits c.requires.1.0.typed
    (c.linked_has_natives.ensures c.args.program.now c.requires.1.0.linked c.requires.1.0.fits))

pub arguments_on-arguments-requires-clause-there : goal.arguments_on-arguments-requires-clause-there
arguments_on-arguments-requires-clause-there g c =
    subst (λ (count : ℕ). count ≤ length (top_stack c.args.roots.now.roots)) (sym c.argument_count-count.ensures)
    (enough c.args.program.now (g.S.Store.storage c.args.store.now).index (g.S.Store.storage c.args.store.now).kept c.args.roots.now.limit c.args.roots.now.roots g.outside c.args.decoded.now c.requires.1.1.1.0.method
    c.requires.1.1.0 c.requires.1.1.1.0.asked)

pub slice_bounds-arguments-end : goal.slice_bounds-arguments-end
slice_bounds-arguments-end g c =
    taken_there c.argument_count-count.result c.arguments_on-arguments.result
    (ap (λ (held : List Value). length held) (c.arguments_on-arguments.ensures ∙ ap (λ (count : ℕ). reverse (take count (top_stack c.args.roots.now.roots))) c.argument_count-count.ensures)
    ∙ standing_size c.args.program.now (g.S.Store.storage c.args.store.now).index (g.S.Store.storage c.args.store.now).kept c.args.roots.now.limit c.args.roots.now.roots g.outside c.args.decoded.now c.requires.1.1.1.0.method
    c.requires.1.1.0 c.requires.1.1.1.0.asked ∙ sym c.argument_count-count.ensures)

pub slice_bounds-answer-end : goal.slice_bounds-answer-end
slice_bounds-answer-end g c =
    sym
    (ap (λ (held : List Value). length held) (c.arguments_on-arguments.ensures ∙ ap (λ (count : ℕ). reverse (take count (top_stack c.args.roots.now.roots))) c.argument_count-count.ensures)
    ∙ standing_size c.args.program.now (g.S.Store.storage c.args.store.now).index (g.S.Store.storage c.args.store.now).kept c.args.roots.now.limit c.args.roots.now.roots g.outside c.args.decoded.now c.requires.1.1.1.0.method
    c.requires.1.1.0 c.requires.1.1.1.0.asked ∙ sym c.argument_count-count.ensures)

pub answer-requires-clause-sorts : goal.answer-requires-clause-sorts
answer-requires-clause-sorts g c =
    subst (λ (held : List Value). have_sorts (sorts_of c.args.native) held ≡ true) (sym (c.arguments_on-arguments.ensures ∙ ap (λ (count : ℕ). reverse (take count (top_stack c.args.roots.now.roots))) c.argument_count-count.ensures))
    (sorts_there c.args.program.now (g.S.Store.storage c.args.store.now).index (g.S.Store.storage c.args.store.now).kept c.args.roots.now.limit c.args.roots.now.roots g.outside c.args.decoded.now c.requires.1.1.1.0.method
    c.requires.1.1.0 c.requires.1.1.1.0.asked c.args.native c.requires.1.1.1.0.is c.requires.1.0.linked c.requires.1.0.fits c.requires.1.0.typed
    (c.linked_has_natives.ensures c.args.program.now c.requires.1.0.linked c.requires.1.0.fits))

pub answer-requires-clause-given : goal.answer-requires-clause-given
answer-requires-clause-given g c =
    subst (λ (held : List Value). AreGiven (g.S.Store.storage c.args.store.now).kept (roles c.args.native) (map (read_value (g.S.Store.storage c.args.store.now).index) held)) (sym (c.arguments_on-arguments.ensures ∙ ap (λ (count : ℕ). reverse (take count (top_stack c.args.roots.now.roots))) c.argument_count-count.ensures))
    (given_there c.args.program.now (g.S.Store.storage c.args.store.now).index (g.S.Store.storage c.args.store.now).kept c.args.roots.now.limit c.args.roots.now.roots g.outside c.args.decoded.now c.requires.1.1.1.0.method
    c.requires.1.1.0 c.requires.1.1.1.0.asked c.args.native c.requires.1.1.1.0.is c.requires.1.0.linked c.requires.1.0.fits c.requires.1.0.typed
    (c.linked_has_natives.ensures c.args.program.now c.requires.1.0.linked c.requires.1.0.fits))

pub answer-requires-clause-core : goal.answer-requires-clause-core
answer-requires-clause-core g c =
    core_there c.args.program.now (g.S.Store.storage c.args.store.now).index (g.S.Store.storage c.args.store.now).kept c.args.roots.now.limit c.args.roots.now.roots g.outside c.args.decoded.now c.requires.1.1.1.0.method
    c.requires.1.1.0 c.requires.1.1.1.0.asked c.args.native c.requires.1.1.1.0.is c.requires.1.0.linked c.requires.1.0.fits c.requires.1.0.typed
    (c.linked_has_natives.ensures c.args.program.now c.requires.1.0.linked c.requires.1.0.fits)

pub unreachable-requires : goal.unreachable-requires
unreachable-requires g c =
    goes_on c.args.program.now (g.S.Store.storage c.args.store.now).index (g.S.Store.storage c.args.store.now).kept c.args.roots.now.limit c.args.roots.now.roots g.outside c.args.decoded.now c.requires.1.1.1.0.method
    c.requires.1.1.0 c.requires.1.1.1.0.asked c.args.native c.requires.1.1.1.0.is c.in-Ok.answer
    (gives_so c.args.program.now (g.S.Store.storage c.args.store.now).index (g.S.Store.storage c.args.store.now).kept c.args.roots.now.limit c.args.roots.now.roots g.outside c.args.decoded.now c.requires.1.1.1.0.method
    c.requires.1.1.0 c.requires.1.1.1.0.asked c.args.native c.requires.1.1.1.0.is c.requires.1.1.1.1 c.in-Ok.answer (subst (λ (result : Result Answer Thrown). Tells (g.S.Store.storage c.args.store.now).kept c.args.native
    (map (read_value (g.S.Store.storage c.args.store.now).index) (standing c.args.program.now (g.S.Store.storage c.args.store.now).index (g.S.Store.storage c.args.store.now).kept c.args.roots.now.limit c.args.roots.now.roots g.outside c.args.decoded.now c.requires.1.1.1.0.method
    c.requires.1.1.0 c.requires.1.1.1.0.asked)) result) c.in-Ok.is
    (subst (λ (held : List Value). Tells (g.S.Store.storage c.args.store.now).kept c.args.native (map (read_value (g.S.Store.storage c.args.store.now).index) held) c.answer.result)
    (c.arguments_on-arguments.ensures ∙ ap (λ (count : ℕ). reverse (take count (top_stack c.args.roots.now.roots))) c.argument_count-count.ensures) c.answer.ensures)))
    (steps_on (machine_of c.args.program.now c.args.roots.now.limit) (state_of (view_in (g.S.Store.storage c.args.store.now) c.args.roots.now.roots) g.outside) c.args.decoded.now c.requires.1.1.0 c.requires.1.0.linked c.requires.1.0.fits c.requires.1.0.typed)
    c.in_default.is

pub leave_answer-requires-clause-some : goal.leave_answer-requires-clause-some
leave_answer-requires-clause-some g c =
    subst (λ (count : ℕ). 0 < count) (sym c.argument_count-count.ensures)
    (some_there c.args.program.now (g.S.Store.storage c.args.store.now).index (g.S.Store.storage c.args.store.now).kept c.args.roots.now.limit c.args.roots.now.roots g.outside c.args.decoded.now c.requires.1.1.1.0.method
    c.requires.1.1.0 c.requires.1.1.1.0.asked c.args.native c.requires.1.1.1.0.is c.requires.1.0.linked c.requires.1.0.fits c.requires.1.0.typed
    (c.linked_has_natives.ensures c.args.program.now c.requires.1.0.linked c.requires.1.0.fits) c.requires.1.1.1.1)

pub leave_answer-requires-clause-few : goal.leave_answer-requires-clause-few
leave_answer-requires-clause-few g c =
    subst (λ (count : ℕ). count ≤ 5) (sym c.argument_count-count.ensures)
    (few_there c.args.program.now (g.S.Store.storage c.args.store.now).index (g.S.Store.storage c.args.store.now).kept c.args.roots.now.limit c.args.roots.now.roots g.outside c.args.decoded.now c.requires.1.1.1.0.method
    c.requires.1.1.0 c.requires.1.1.1.0.asked c.args.native c.requires.1.1.1.0.is c.requires.1.0.linked c.requires.1.0.fits c.requires.1.0.typed
    (c.linked_has_natives.ensures c.args.program.now c.requires.1.0.linked c.requires.1.0.fits))

pub leave_answer-requires-clause-there : goal.leave_answer-requires-clause-there
leave_answer-requires-clause-there g c =
    subst (λ (count : ℕ). count ≤ length (top_stack c.args.roots.now.roots)) (sym c.argument_count-count.ensures)
    (enough c.args.program.now (g.S.Store.storage c.args.store.now).index (g.S.Store.storage c.args.store.now).kept c.args.roots.now.limit c.args.roots.now.roots g.outside c.args.decoded.now c.requires.1.1.1.0.method
    c.requires.1.1.0 c.requires.1.1.1.0.asked)

pub throw_of-requires : goal.throw_of-requires
throw_of-requires g c = λ κs lives. (
  lives,
  (
    c.requires.1.0,
    (
      subst (λ (site : ℕ). site < 32) (sym c.site.ensures) (low_site c.in-Err-Of.exception),
      (
        subst (λ (site : ℕ). IsThrown c.args.program.now (kind_of_site c.args.program.now site)) (sym c.site.ensures)
            (thrown_site c.args.program.now (c.linked_has_natives.ensures c.args.program.now c.requires.1.0.linked c.requires.1.0.fits) c.in-Err-Of.exception),
        throws_so c.args.program.now (g.S.Store.storage c.args.store.now).index (g.S.Store.storage c.args.store.now).kept c.args.roots.now.limit c.args.roots.now.roots g.outside c.args.decoded.now c.requires.1.1.1.0.method
            c.requires.1.1.0 c.requires.1.1.1.0.asked c.args.native c.requires.1.1.1.0.is c.requires.1.1.1.1 c.in-Err-Of.exception (subst (λ (result : Result Answer Thrown). Tells (g.S.Store.storage c.args.store.now).kept c.args.native
            (map (read_value (g.S.Store.storage c.args.store.now).index) (standing c.args.program.now (g.S.Store.storage c.args.store.now).index (g.S.Store.storage c.args.store.now).kept c.args.roots.now.limit c.args.roots.now.roots g.outside c.args.decoded.now c.requires.1.1.1.0.method
            c.requires.1.1.0 c.requires.1.1.1.0.asked)) result) (c.in-Err-Of.is ∙ ap Err c.in-Err-Of.field-0-is)
            (subst (λ (held : List Value). Tells (g.S.Store.storage c.args.store.now).kept c.args.native (map (read_value (g.S.Store.storage c.args.store.now).index) held) c.answer.result)
            (c.arguments_on-arguments.ensures ∙ ap (λ (count : ℕ). reverse (take count (top_stack c.args.roots.now.roots))) c.argument_count-count.ensures) c.answer.ensures))
            ∙ ap (λ (site : ℕ). Some (throws (machine_of c.args.program.now c.args.roots.now.limit) (state_of (view_in (g.S.Store.storage c.args.store.now) c.args.roots.now.roots) g.outside) site)) (sym c.site.ensures),
      ),
    ),
  ),
)

pub divide_need-requires : goal.divide_need-requires
divide_need-requires g c = λ κs lives. (
  lives,
  (
    c.requires.1.0,
    divides_so c.args.program.now (g.S.Store.storage c.args.store.now).index (g.S.Store.storage c.args.store.now).kept c.args.roots.now.limit c.args.roots.now.roots g.outside c.args.decoded.now c.requires.1.1.1.0.method
        c.requires.1.1.0 c.requires.1.1.1.0.asked c.args.native c.requires.1.1.1.0.is c.requires.1.1.1.1 (subst (λ (result : Result Answer Thrown). Tells (g.S.Store.storage c.args.store.now).kept c.args.native
        (map (read_value (g.S.Store.storage c.args.store.now).index) (standing c.args.program.now (g.S.Store.storage c.args.store.now).index (g.S.Store.storage c.args.store.now).kept c.args.roots.now.limit c.args.roots.now.roots g.outside c.args.decoded.now c.requires.1.1.1.0.method
        c.requires.1.1.0 c.requires.1.1.1.0.asked)) result) (c.in-Err-ByZero.is ∙ ap Err c.in-Err-ByZero.field-0-is)
        (subst (λ (held : List Value). Tells (g.S.Store.storage c.args.store.now).kept c.args.native (map (read_value (g.S.Store.storage c.args.store.now).index) held) c.answer.result)
        (c.arguments_on-arguments.ensures ∙ ap (λ (count : ℕ). reverse (take count (top_stack c.args.roots.now.roots))) c.argument_count-count.ensures) c.answer.ensures)),
  ),
)

pub returns-in-Some : goal.returns-in-Some
returns-in-Some g c = record {
  made = answered_turn c.args.program.now (g.S.Store.storage c.args.store.now).index (g.S.Store.storage c.args.store.now).kept c.args.roots.now.limit c.args.roots.now.roots g.outside c.args.decoded.now c.requires.1.1.1.0.method
      c.requires.1.1.0 c.requires.1.1.1.0.asked c.args.native c.requires.1.1.1.0.is c.in-Ok.answer
      (gives_so c.args.program.now (g.S.Store.storage c.args.store.now).index (g.S.Store.storage c.args.store.now).kept c.args.roots.now.limit c.args.roots.now.roots g.outside c.args.decoded.now c.requires.1.1.1.0.method
      c.requires.1.1.0 c.requires.1.1.1.0.asked c.args.native c.requires.1.1.1.0.is c.requires.1.1.1.1 c.in-Ok.answer (subst (λ (result : Result Answer Thrown). Tells (g.S.Store.storage c.args.store.now).kept c.args.native
      (map (read_value (g.S.Store.storage c.args.store.now).index) (standing c.args.program.now (g.S.Store.storage c.args.store.now).index (g.S.Store.storage c.args.store.now).kept c.args.roots.now.limit c.args.roots.now.roots g.outside c.args.decoded.now c.requires.1.1.1.0.method
      c.requires.1.1.0 c.requires.1.1.1.0.asked)) result) c.in-Ok.is
      (subst (λ (held : List Value). Tells (g.S.Store.storage c.args.store.now).kept c.args.native (map (read_value (g.S.Store.storage c.args.store.now).index) held) c.answer.result)
      (c.arguments_on-arguments.ensures ∙ ap (λ (count : ℕ). reverse (take count (top_stack c.args.roots.now.roots))) c.argument_count-count.ensures) c.answer.ensures)))
      g.S.Store.rules (g.S.Store.storage c.args.store.now).facts c.leave_answer.new.roots.roots c.in-Some.next c.in-Some.is
      (ap (λ (held : Limited). held.roots) c.leave_answer.ensures
      ∙ ap (λ (count : ℕ). behind_answer count (answer_values c.in-Ok.answer) c.in-Some.next c.args.roots.now.roots) c.argument_count-count.ensures);
  stopped = search rules;
  counted = search rules;
  limit = search rules;
  settings = search rules;
}
