use Rattle.std.proofs.Common.{◌≡◌, ◌∙◌, ap, subst, sym, true, List, ℕ, map, reverse, take}
use Rattle.cb_frames.specs.Tops.{top_stack}
use Rattle.cb_heap.specs.Reading.{read_value}
use Rattle.cb_library.specs.declared.native.Native.TheVariants as natives
use Rattle.cb_natives.specs.ArrayRanges.{PlansCopy}
use Rattle.cb_natives.specs.Given.{have_sorts, sorts_of}
use Rattle.cb_natives.specs.MakingArrays.{AreLaid}
use Rattle.cb_plain.specs.declared.value.Value.{Value}
use Rattle.cb_interp.proofs.copy_turns.plan_here.Goals as goal

pub plan_copy-requires-clause-sorts : goal.plan_copy-requires-clause-sorts
plan_copy-requires-clause-sorts g c =
    subst (λ (held : List Value). have_sorts (sorts_of natives.SystemArraycopy) held ≡ true)
    (sym (c.arguments_on-arguments.ensures ∙ ap (λ (count : ℕ). reverse (take count (top_stack c.args.roots.now.roots))) c.argument_count-count.ensures)) c.requires.sorts

pub plan_copy-requires-clause-laid : goal.plan_copy-requires-clause-laid
plan_copy-requires-clause-laid g c =
    subst (λ (held : List Value). AreLaid c.args.program.now (g.S.Store.storage c.args.store.now).kept natives.SystemArraycopy (map (read_value (g.S.Store.storage c.args.store.now).index) held))
    (sym (c.arguments_on-arguments.ensures ∙ ap (λ (count : ℕ). reverse (take count (top_stack c.args.roots.now.roots))) c.argument_count-count.ensures)) c.requires.laid

pub returns : goal.returns
returns g c =
    subst (λ (held : List Value). PlansCopy c.args.program.now (g.S.Store.storage c.args.store.now).kept (g.S.Store.storage c.args.store.now).index (map (read_value (g.S.Store.storage c.args.store.now).index) held) c.plan_copy.result)
    (c.arguments_on-arguments.ensures ∙ ap (λ (count : ℕ). reverse (take count (top_stack c.args.roots.now.roots))) c.argument_count-count.ensures) c.plan_copy.ensures
