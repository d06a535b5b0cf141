use Rattle.cb_heap.specs.Storage.{view_in}
use Rattle.std.proofs.Common.{◌≡◌, ◌∙◌, ◌<◌, ◌≤◌, ap, subst, sym, true, ℕ, List, Some, length, map, reverse, rules, take}
use Rattle.std.specs.declared.result.Result.TheVariants.{Err, Ok}
use Rattle.cb_frames.specs.Tops.{top_stack}
use Rattle.cb_heap.specs.Reading.{read_value}
use Rattle.cb_library.specs.declared.native.Native.TheVariants as natives
use Rattle.cb_machine.specs.Machine.{kind_of_site}
use Rattle.cb_machine.specs.Throwing.{throws}
use Rattle.cb_natives.specs.Given.{AreGiven, have_sorts, roles, sorts_of}
use Rattle.cb_natives.specs.Input.{PlansRange}
use Rattle.cb_plain.specs.declared.value.Value.{Value}
use Rattle.cb_safety.specs.Throwing.{IsThrown}
use Rattle.cb_act.specs.Turning.{machine_of, moment_of, state_of}
use Rattle.cb_interp.proofs.NativesAnswered.{enough, few_there, given_there, low_site, sorts_there, standing_size, taken_there, thrown_site}
use Rattle.cb_interp.proofs.NativesRead.{silent_ins}
use Rattle.cb_interp.proofs.RunCounts.{counts_as, counts_none}
use Rattle.cb_interp.specs.declared.stop.Stop.TheVariants as stops
use Rattle.cb_heap.specs.declared.no_room.NoRoom.TheVariants as rooms
use Rattle.cb_io.specs.Faults.{CountsFaults}
use Rattle.std.specs.Prelude.{IsErrOf}
use Rattle.cb_interp.proofs.RunReads.{fails_read, never_input, never_room, stays_still, stops_read}
use Rattle.cb_interp.proofs.TurnsNativeRead.{range_throws}
use Rattle.cb_interp.proofs.read_turns.range_turn.Goals as goal

pub arguments_on-arguments-requires-clause-few : goal.arguments_on-arguments-requires-clause-few
arguments_on-arguments-requires-clause-few g c =
    subst (λ (count : ℕ). count ≤ 5) (sym c.argument_count-count.ensures)
    (few_there c.args.program.now (g.S.Store.storage c.args.store.now).index (g.S.Store.storage c.args.store.now).kept c.args.roots.now.limit c.args.roots.now.roots g.outside c.args.decoded.now c.requires.1.1.1.1.method
    c.requires.1.1.1.0 c.requires.1.1.1.1.asked natives.ReadRange c.requires.1.1.1.1.is c.requires.1.1.0.linked c.requires.1.1.0.fits c.requires.1.1.0.typed
    (c.linked_has_natives.ensures c.args.program.now c.requires.1.1.0.linked c.requires.1.1.0.fits))

pub arguments_on-arguments-requires-clause-there : goal.arguments_on-arguments-requires-clause-there
arguments_on-arguments-requires-clause-there g c =
    subst (λ (count : ℕ). count ≤ length (top_stack c.args.roots.now.roots)) (sym c.argument_count-count.ensures)
    (enough c.args.program.now (g.S.Store.storage c.args.store.now).index (g.S.Store.storage c.args.store.now).kept c.args.roots.now.limit c.args.roots.now.roots g.outside c.args.decoded.now c.requires.1.1.1.1.method
    c.requires.1.1.1.0 c.requires.1.1.1.1.asked)

pub slice_bounds-arguments-end : goal.slice_bounds-arguments-end
slice_bounds-arguments-end g c =
    taken_there c.argument_count-count.result c.arguments_on-arguments.result
    (ap (λ (held : List Value). length held) (c.arguments_on-arguments.ensures ∙ ap (λ (count : ℕ). reverse (take count (top_stack c.args.roots.now.roots))) c.argument_count-count.ensures)
    ∙ standing_size c.args.program.now (g.S.Store.storage c.args.store.now).index (g.S.Store.storage c.args.store.now).kept c.args.roots.now.limit c.args.roots.now.roots g.outside c.args.decoded.now c.requires.1.1.1.1.method
    c.requires.1.1.1.0 c.requires.1.1.1.1.asked ∙ sym c.argument_count-count.ensures)

pub slice_bounds-range_to_read-end : goal.slice_bounds-range_to_read-end
slice_bounds-range_to_read-end g c =
    sym
    (ap (λ (held : List Value). length held) (c.arguments_on-arguments.ensures ∙ ap (λ (count : ℕ). reverse (take count (top_stack c.args.roots.now.roots))) c.argument_count-count.ensures)
    ∙ standing_size c.args.program.now (g.S.Store.storage c.args.store.now).index (g.S.Store.storage c.args.store.now).kept c.args.roots.now.limit c.args.roots.now.roots g.outside c.args.decoded.now c.requires.1.1.1.1.method
    c.requires.1.1.1.0 c.requires.1.1.1.1.asked ∙ sym c.argument_count-count.ensures)

pub range_to_read-requires-clause-sorts : goal.range_to_read-requires-clause-sorts
range_to_read-requires-clause-sorts g c =
    subst (λ (held : List Value). have_sorts (sorts_of natives.ReadRange) held ≡ true) (sym (c.arguments_on-arguments.ensures ∙ ap (λ (count : ℕ). reverse (take count (top_stack c.args.roots.now.roots))) c.argument_count-count.ensures))
    (sorts_there c.args.program.now (g.S.Store.storage c.args.store.now).index (g.S.Store.storage c.args.store.now).kept c.args.roots.now.limit c.args.roots.now.roots g.outside c.args.decoded.now c.requires.1.1.1.1.method
    c.requires.1.1.1.0 c.requires.1.1.1.1.asked natives.ReadRange c.requires.1.1.1.1.is c.requires.1.1.0.linked c.requires.1.1.0.fits c.requires.1.1.0.typed
    (c.linked_has_natives.ensures c.args.program.now c.requires.1.1.0.linked c.requires.1.1.0.fits))

pub range_to_read-requires-clause-given : goal.range_to_read-requires-clause-given
range_to_read-requires-clause-given g c =
    subst (λ (held : List Value). AreGiven (g.S.Store.storage c.args.store.now).kept (roles natives.ReadRange) (map (read_value (g.S.Store.storage c.args.store.now).index) held)) (sym (c.arguments_on-arguments.ensures ∙ ap (λ (count : ℕ). reverse (take count (top_stack c.args.roots.now.roots))) c.argument_count-count.ensures))
    (given_there c.args.program.now (g.S.Store.storage c.args.store.now).index (g.S.Store.storage c.args.store.now).kept c.args.roots.now.limit c.args.roots.now.roots g.outside c.args.decoded.now c.requires.1.1.1.1.method
    c.requires.1.1.1.0 c.requires.1.1.1.1.asked natives.ReadRange c.requires.1.1.1.1.is c.requires.1.1.0.linked c.requires.1.1.0.fits c.requires.1.1.0.typed
    (c.linked_has_natives.ensures c.args.program.now c.requires.1.1.0.linked c.requires.1.1.0.fits))

pub in_range_turn-requires : goal.in_range_turn-requires
in_range_turn-requires g c κs within = (
  search rules,
  (
    search rules,
    (
      c.requires.1.1.0,
      (
        c.requires.1.1.1.0,
        (
          c.requires.1.1.1.1,
          subst (λ (held : List Value). PlansRange (g.S.Store.storage c.args.store.now).kept (g.S.Store.storage c.args.store.now).index (map (read_value (g.S.Store.storage c.args.store.now).index) held) (Ok c.in-Ok.range)) (c.arguments_on-arguments.ensures ∙ ap (λ (count : ℕ). reverse (take count (top_stack c.args.roots.now.roots))) c.argument_count-count.ensures) c.in-Ok.ensures,
        ),
      ),
    ),
  ),
)

pub throw_of-requires : goal.throw_of-requires
throw_of-requires g c = λ κs lives. (
  lives,
  (
    c.requires.1.1.0,
    (
      subst (λ (site : ℕ). site < 32) (sym c.site.ensures) (low_site c.in-Err.exception),
      (
        subst (λ (site : ℕ). IsThrown c.args.program.now (kind_of_site c.args.program.now site)) (sym c.site.ensures)
            (thrown_site c.args.program.now (c.linked_has_natives.ensures c.args.program.now c.requires.1.1.0.linked c.requires.1.1.0.fits) c.in-Err.exception),
        range_throws c.args.program.now (g.S.Store.storage c.args.store.now).index (g.S.Store.storage c.args.store.now).kept c.args.roots.now.limit c.args.roots.now.roots g.outside c.args.decoded.now c.requires.1.1.1.1.method
            c.requires.1.1.1.0 c.requires.1.1.1.1.asked c.requires.1.1.1.1.is c.in-Err.exception
            (subst (λ (held : List Value). PlansRange (g.S.Store.storage c.args.store.now).kept (g.S.Store.storage c.args.store.now).index (map (read_value (g.S.Store.storage c.args.store.now).index) held) (Err c.in-Err.exception)) (c.arguments_on-arguments.ensures ∙ ap (λ (count : ℕ). reverse (take count (top_stack c.args.roots.now.roots))) c.argument_count-count.ensures) c.in-Err.ensures)
            ∙ ap (λ (site : ℕ). Some (throws (machine_of c.args.program.now c.args.roots.now.limit) (state_of (view_in (g.S.Store.storage c.args.store.now) c.args.roots.now.roots) g.outside) site)) (sym c.site.ensures),
      ),
    ),
  ),
)

pub returns-in-Ok-clause-stopped : goal.returns-in-Ok-clause-stopped
returns-in-Ok-clause-stopped g c =
    fails_read g.S.Store.rules (machine_of c.args.program.now c.args.roots.now.limit)
    (moment_of (view_in (g.S.Store.storage c.args.store.now) c.args.roots.now.roots) g.outside (g.S.Store.storage c.args.store.now).facts)
    (moment_of (view_in (g.S.Store.storage c.in_range_turn.new.store) c.in_range_turn.new.roots.roots) g.outside (g.S.Store.storage c.in_range_turn.new.store).facts)
    c.in_range_turn.ensures.known c.in_range_turn.result c.in_range_turn.ensures.fails

pub returns-in-Ok-clause-counted : goal.returns-in-Ok-clause-counted
returns-in-Ok-clause-counted g c =
    subst (λ (now : ℕ). CountsFaults (g.S.Store.storage c.args.store.now).faults now (IsErrOf c.in_range_turn.result (stops.NoRoom rooms.ReportFault))) (sym c.in_range_turn.ensures.faults)
    (counts_as (g.S.Store.storage c.args.store.now).faults (g.S.Store.storage c.args.store.now).faults (λ never. absurd never)
    (never_room (machine_of c.args.program.now c.args.roots.now.limit) (state_of (view_in (g.S.Store.storage c.args.store.now) c.args.roots.now.roots) g.outside) c.in_range_turn.result c.in_range_turn.ensures.fails)
    (counts_none (g.S.Store.storage c.args.store.now).faults))

pub returns-in-Err-clause-made : goal.returns-in-Err-clause-made
returns-in-Err-clause-made g c =
    silent_ins g.I.Source.left g.I.Source.gave g.S.Store.rules (machine_of c.args.program.now c.args.roots.now.limit) g.outside
    (view_in (g.S.Store.storage c.args.store.now) c.args.roots.now.roots)
    (view_in (g.S.Store.storage c.throw_of.new.store) c.throw_of.new.roots.roots)
    (g.S.Store.storage c.args.store.now).facts (g.S.Store.storage c.throw_of.new.store).facts c.args.input.now c.throw_of.result c.throw_of.ensures.made

pub returns-in-Err-clause-stopped : goal.returns-in-Err-clause-stopped
returns-in-Err-clause-stopped g c =
    stops_read g.S.Store.rules (machine_of c.args.program.now c.args.roots.now.limit)
    (moment_of (view_in (g.S.Store.storage c.args.store.now) c.args.roots.now.roots) g.outside (g.S.Store.storage c.args.store.now).facts)
    (moment_of (view_in (g.S.Store.storage c.throw_of.new.store) c.throw_of.new.roots.roots) g.outside (g.S.Store.storage c.throw_of.new.store).facts)
    c.throw_of.result c.throw_of.ensures.stopped

pub returns-in-Err-clause-lost : goal.returns-in-Err-clause-lost
returns-in-Err-clause-lost g c =
    stays_still g.S.Store.rules (machine_of c.args.program.now c.args.roots.now.limit)
    (moment_of (view_in (g.S.Store.storage c.args.store.now) c.args.roots.now.roots) g.outside (g.S.Store.storage c.args.store.now).facts)
    (moment_of (view_in (g.S.Store.storage c.throw_of.new.store) c.throw_of.new.roots.roots) g.outside (g.S.Store.storage c.throw_of.new.store).facts)
    g.I.Source.left g.I.Source.gave c.args.input.now c.throw_of.result c.throw_of.ensures.stopped

pub returns-in-Err-clause-read : goal.returns-in-Err-clause-read
returns-in-Err-clause-read g c =
    counts_as (g.I.Source.faults c.args.input.now) (g.I.Source.faults c.args.input.now) (λ never. absurd never)
    (never_input g.S.Store.rules (machine_of c.args.program.now c.args.roots.now.limit)
    (moment_of (view_in (g.S.Store.storage c.args.store.now) c.args.roots.now.roots) g.outside (g.S.Store.storage c.args.store.now).facts)
    (moment_of (view_in (g.S.Store.storage c.throw_of.new.store) c.throw_of.new.roots.roots) g.outside (g.S.Store.storage c.throw_of.new.store).facts)
    c.throw_of.result c.throw_of.ensures.stopped)
    (counts_none (g.I.Source.faults c.args.input.now))
