use Rattle.cb_heap.specs.Storage.{view_in}
use Rattle.std.proofs.Common.{◌≡◌, ◌∙◌, ◌<◌, ◌≤◌, ◌∷◌, [], ap, arith, subst, sym, true, ℕ, List, Some, length, map, reverse, take, rules}
use Rattle.cb_frames.specs.Limited.{Limited}
use Rattle.cb_frames.specs.Tops.{top_stack}
use Rattle.cb_heap.specs.Reading.{read_value}
use Rattle.cb_library.specs.declared.native.Native.TheVariants as natives
use Rattle.cb_machine.specs.Machine.{kind_of_site}
use Rattle.cb_machine.specs.Throwing.{throws}
use Rattle.cb_natives.specs.Enums.{FindsConstant}
use Rattle.cb_natives.specs.Given.{AreGiven, have_sorts, roles, sorts_of}
use Rattle.cb_natives.specs.declared.enums.EnumAnswer.TheVariants as enums
use Rattle.cb_plain.specs.declared.value.Value.{Value}
use Rattle.cb_safety.specs.Throwing.{IsThrown}
use Rattle.cb_act.specs.Turning.{machine_of, state_of}
use Rattle.cb_interp.specs.Answering.{behind_answer}
use Rattle.cb_interp.proofs.EnumTurns.{begins_so, constant_turn, goes_on, throws_so}
use Rattle.cb_interp.proofs.NativesAnswered.{count_there, enough, few_there, given_there, low_site, sorts_there, standing_size, taken_there, thrown_site}
use Rattle.cb_interp.proofs.TurnsFrameFew.{statics_read}
use Rattle.cb_interp.proofs.TurnsNeed.{steps_on}
use Rattle.cb_interp.proofs.enum_turns.enum_turn.Goals as goal

pub arguments_on-arguments-requires-clause-few : goal.arguments_on-arguments-requires-clause-few
arguments_on-arguments-requires-clause-few g c =
    subst (λ (count : ℕ). count ≤ 5) (sym c.argument_count-count.ensures)
    (few_there c.args.program.now (g.S.Store.storage c.args.store.now).index (g.S.Store.storage c.args.store.now).kept c.args.roots.now.limit c.args.roots.now.roots g.outside c.args.decoded.now c.requires.1.1.1.method
    c.requires.1.1.0 c.requires.1.1.1.asked natives.EnumValueOf c.requires.1.1.1.is c.requires.1.0.linked c.requires.1.0.fits c.requires.1.0.typed
    (c.linked_has_natives.ensures c.args.program.now c.requires.1.0.linked c.requires.1.0.fits))

pub arguments_on-arguments-requires-clause-there : goal.arguments_on-arguments-requires-clause-there
arguments_on-arguments-requires-clause-there g c =
    subst (λ (count : ℕ). count ≤ length (top_stack c.args.roots.now.roots)) (sym c.argument_count-count.ensures)
    (enough c.args.program.now (g.S.Store.storage c.args.store.now).index (g.S.Store.storage c.args.store.now).kept c.args.roots.now.limit c.args.roots.now.roots g.outside c.args.decoded.now c.requires.1.1.1.method
    c.requires.1.1.0 c.requires.1.1.1.asked)

pub slice_bounds-arguments-end : goal.slice_bounds-arguments-end
slice_bounds-arguments-end g c =
    taken_there c.argument_count-count.result c.arguments_on-arguments.result
    (ap (λ (held : List Value). length held) (c.arguments_on-arguments.ensures ∙ ap (λ (count : ℕ). reverse (take count (top_stack c.args.roots.now.roots))) c.argument_count-count.ensures)
    ∙ standing_size c.args.program.now (g.S.Store.storage c.args.store.now).index (g.S.Store.storage c.args.store.now).kept c.args.roots.now.limit c.args.roots.now.roots g.outside c.args.decoded.now c.requires.1.1.1.method
    c.requires.1.1.0 c.requires.1.1.1.asked ∙ sym c.argument_count-count.ensures)

pub slice_bounds-find_constant-end : goal.slice_bounds-find_constant-end
slice_bounds-find_constant-end g c =
    sym
    (ap (λ (held : List Value). length held) (c.arguments_on-arguments.ensures ∙ ap (λ (count : ℕ). reverse (take count (top_stack c.args.roots.now.roots))) c.argument_count-count.ensures)
    ∙ standing_size c.args.program.now (g.S.Store.storage c.args.store.now).index (g.S.Store.storage c.args.store.now).kept c.args.roots.now.limit c.args.roots.now.roots g.outside c.args.decoded.now c.requires.1.1.1.method
    c.requires.1.1.0 c.requires.1.1.1.asked ∙ sym c.argument_count-count.ensures)

pub find_constant-requires-clause-sorts : goal.find_constant-requires-clause-sorts
find_constant-requires-clause-sorts g c =
    subst (λ (held : List Value). have_sorts (sorts_of natives.EnumValueOf) held ≡ true) (sym (c.arguments_on-arguments.ensures ∙ ap (λ (count : ℕ). reverse (take count (top_stack c.args.roots.now.roots))) c.argument_count-count.ensures))
    (sorts_there c.args.program.now (g.S.Store.storage c.args.store.now).index (g.S.Store.storage c.args.store.now).kept c.args.roots.now.limit c.args.roots.now.roots g.outside c.args.decoded.now c.requires.1.1.1.method
    c.requires.1.1.0 c.requires.1.1.1.asked natives.EnumValueOf c.requires.1.1.1.is c.requires.1.0.linked c.requires.1.0.fits c.requires.1.0.typed
    (c.linked_has_natives.ensures c.args.program.now c.requires.1.0.linked c.requires.1.0.fits))

pub find_constant-requires-clause-given : goal.find_constant-requires-clause-given
find_constant-requires-clause-given g c =
    subst (λ (held : List Value). AreGiven (g.S.Store.storage c.args.store.now).kept (roles natives.EnumValueOf) (map (read_value (g.S.Store.storage c.args.store.now).index) held)) (sym (c.arguments_on-arguments.ensures ∙ ap (λ (count : ℕ). reverse (take count (top_stack c.args.roots.now.roots))) c.argument_count-count.ensures))
    (given_there c.args.program.now (g.S.Store.storage c.args.store.now).index (g.S.Store.storage c.args.store.now).kept c.args.roots.now.limit c.args.roots.now.roots g.outside c.args.decoded.now c.requires.1.1.1.method
    c.requires.1.1.0 c.requires.1.1.1.asked natives.EnumValueOf c.requires.1.1.1.is c.requires.1.0.linked c.requires.1.0.fits c.requires.1.0.typed
    (c.linked_has_natives.ensures c.args.program.now c.requires.1.0.linked c.requires.1.0.fits))

pub find_constant-requires-clause-classes : goal.find_constant-requires-clause-classes
find_constant-requires-clause-classes g c = c.requires.1.0.typed.roots.classes

pub find_constant-requires-clause-statics : goal.find_constant-requires-clause-statics
find_constant-requires-clause-statics g c =
    statics_read c.args.program.now (g.S.Store.storage c.args.store.now).index (g.S.Store.storage c.args.store.now).kept c.args.roots.now.roots g.outside c.requires.1.0.linked c.requires.1.0.typed

pub unreachable-requires : goal.unreachable-requires
unreachable-requires g c =
    goes_on c.args.program.now (g.S.Store.storage c.args.store.now).index (g.S.Store.storage c.args.store.now).kept c.args.roots.now.limit c.args.roots.now.roots g.outside c.args.decoded.now c.requires.1.1.1.method
    c.requires.1.1.0 c.requires.1.1.1.asked c.requires.1.1.1.is c.in-Gives.value
    (subst (λ (held : List Value). FindsConstant c.args.program.now (g.S.Store.storage c.args.store.now).index (view_in (g.S.Store.storage c.args.store.now) c.args.roots.now.roots)
    (map (read_value (g.S.Store.storage c.args.store.now).index) held) (enums.Gives c.in-Gives.value)) (c.arguments_on-arguments.ensures ∙ ap (λ (count : ℕ). reverse (take count (top_stack c.args.roots.now.roots))) c.argument_count-count.ensures) c.in-Gives.ensures.found)
    (steps_on (machine_of c.args.program.now c.args.roots.now.limit) (state_of (view_in (g.S.Store.storage c.args.store.now) c.args.roots.now.roots) g.outside) c.args.decoded.now c.requires.1.1.0 c.requires.1.0.linked c.requires.1.0.fits c.requires.1.0.typed)
    c.in_default.is

pub leave_value-requires-clause-some : goal.leave_value-requires-clause-some
leave_value-requires-clause-some g c =
    subst (λ (count : ℕ). 0 < count) (sym (c.argument_count-count.ensures ∙ count_there c.args.program.now (g.S.Store.storage c.args.store.now).index (g.S.Store.storage c.args.store.now).kept c.args.roots.now.limit c.args.roots.now.roots g.outside c.args.decoded.now c.requires.1.1.1.method
    c.requires.1.1.0 c.requires.1.1.1.asked natives.EnumValueOf c.requires.1.1.1.is c.requires.1.0.linked c.requires.1.0.fits c.requires.1.0.typed
    (c.linked_has_natives.ensures c.args.program.now c.requires.1.0.linked c.requires.1.0.fits))) (omega arith)

pub leave_value-requires-clause-few : goal.leave_value-requires-clause-few
leave_value-requires-clause-few g c =
    subst (λ (count : ℕ). count ≤ 5) (sym c.argument_count-count.ensures)
    (few_there c.args.program.now (g.S.Store.storage c.args.store.now).index (g.S.Store.storage c.args.store.now).kept c.args.roots.now.limit c.args.roots.now.roots g.outside c.args.decoded.now c.requires.1.1.1.method
    c.requires.1.1.0 c.requires.1.1.1.asked natives.EnumValueOf c.requires.1.1.1.is c.requires.1.0.linked c.requires.1.0.fits c.requires.1.0.typed
    (c.linked_has_natives.ensures c.args.program.now c.requires.1.0.linked c.requires.1.0.fits))

pub leave_value-requires-clause-there : goal.leave_value-requires-clause-there
leave_value-requires-clause-there g c =
    subst (λ (count : ℕ). count ≤ length (top_stack c.args.roots.now.roots)) (sym c.argument_count-count.ensures)
    (enough c.args.program.now (g.S.Store.storage c.args.store.now).index (g.S.Store.storage c.args.store.now).kept c.args.roots.now.limit c.args.roots.now.roots g.outside c.args.decoded.now c.requires.1.1.1.method
    c.requires.1.1.0 c.requires.1.1.1.asked)

pub throw_of-requires : goal.throw_of-requires
throw_of-requires g c = λ κs lives. (
  lives,
  (
    c.requires.1.0,
    (
      subst (λ (site : ℕ). site < 32) (sym c.site.ensures) (low_site c.in-Throws.exception),
      (
        subst (λ (site : ℕ). IsThrown c.args.program.now (kind_of_site c.args.program.now site)) (sym c.site.ensures)
            (thrown_site c.args.program.now (c.linked_has_natives.ensures c.args.program.now c.requires.1.0.linked c.requires.1.0.fits) c.in-Throws.exception),
        throws_so c.args.program.now (g.S.Store.storage c.args.store.now).index (g.S.Store.storage c.args.store.now).kept c.args.roots.now.limit c.args.roots.now.roots g.outside c.args.decoded.now c.requires.1.1.1.method
            c.requires.1.1.0 c.requires.1.1.1.asked c.requires.1.1.1.is c.in-Throws.exception
            (subst (λ (held : List Value). FindsConstant c.args.program.now (g.S.Store.storage c.args.store.now).index (view_in (g.S.Store.storage c.args.store.now) c.args.roots.now.roots)
            (map (read_value (g.S.Store.storage c.args.store.now).index) held) (enums.Throws c.in-Throws.exception)) (c.arguments_on-arguments.ensures ∙ ap (λ (count : ℕ). reverse (take count (top_stack c.args.roots.now.roots))) c.argument_count-count.ensures) c.in-Throws.ensures.found)
            ∙ ap (λ (site : ℕ). Some (throws (machine_of c.args.program.now c.args.roots.now.limit) (state_of (view_in (g.S.Store.storage c.args.store.now) c.args.roots.now.roots) g.outside) site)) (sym c.site.ensures),
      ),
    ),
  ),
)

pub begins_class-requires : goal.begins_class-requires
begins_class-requires g c = λ κs lives. (
  lives,
  (
    c.requires.1.0,
    (
      begins_so c.args.program.now (g.S.Store.storage c.args.store.now).index (g.S.Store.storage c.args.store.now).kept c.args.roots.now.limit c.args.roots.now.roots g.outside c.args.decoded.now c.requires.1.1.1.method
          c.requires.1.1.0 c.requires.1.1.1.asked c.requires.1.1.1.is c.in-Begins.class
          (subst (λ (held : List Value). FindsConstant c.args.program.now (g.S.Store.storage c.args.store.now).index (view_in (g.S.Store.storage c.args.store.now) c.args.roots.now.roots)
          (map (read_value (g.S.Store.storage c.args.store.now).index) held) (enums.Begins c.in-Begins.class)) (c.arguments_on-arguments.ensures ∙ ap (λ (count : ℕ). reverse (take count (top_stack c.args.roots.now.roots))) c.argument_count-count.ensures) c.in-Begins.ensures.found),
      c.in-Begins.ensures.class,
    ),
  ),
)

pub returns-in-Some : goal.returns-in-Some
returns-in-Some g c = record {
  made = constant_turn c.args.program.now (g.S.Store.storage c.args.store.now).index (g.S.Store.storage c.args.store.now).kept c.args.roots.now.limit c.args.roots.now.roots g.outside c.args.decoded.now c.requires.1.1.1.method
      c.requires.1.1.0 c.requires.1.1.1.asked c.requires.1.1.1.is c.in-Gives.value
      (subst (λ (held : List Value). FindsConstant c.args.program.now (g.S.Store.storage c.args.store.now).index (view_in (g.S.Store.storage c.args.store.now) c.args.roots.now.roots)
      (map (read_value (g.S.Store.storage c.args.store.now).index) held) (enums.Gives c.in-Gives.value)) (c.arguments_on-arguments.ensures ∙ ap (λ (count : ℕ). reverse (take count (top_stack c.args.roots.now.roots))) c.argument_count-count.ensures) c.in-Gives.ensures.found)
      g.S.Store.rules (g.S.Store.storage c.args.store.now).facts c.leave_value.new.roots.roots c.in-Some.next c.in-Some.is
      (ap (λ (held : Limited). held.roots) c.leave_value.ensures
      ∙ ap (λ (count : ℕ). behind_answer count (c.in-Gives.value ∷ []) c.in-Some.next c.args.roots.now.roots) c.argument_count-count.ensures);
  stopped = search rules;
  counted = search rules;
  limit = search rules;
  settings = search rules;
}
