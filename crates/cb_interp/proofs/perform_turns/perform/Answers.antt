use Rattle.cb_heap.specs.Storage.{view_in}
use Rattle.std.proofs.Common.{◌≡◌, ◌∙◌, ap, rules, subst, sym, true, List, ℕ, map, reverse, take}
use Rattle.cb_frames.specs.Limited.{Limited}
use Rattle.cb_frames.specs.Tops.{top_stack}
use Rattle.cb_heap.specs.Reading.{read_roots, read_value, seen}
use Rattle.cb_natives.specs.Given.{AreGiven, have_sorts, roles, sorts_of}
use Rattle.cb_natives.specs.Making.{Asks, MayLeave, Performs, given_back}
use Rattle.cb_natives.specs.MakingArrays.{AreLaid}
use Rattle.cb_plain.specs.declared.value.Value.{Value}
use Rattle.cb_interp.specs.Answering.{argument_count, behind_answer}
use Rattle.cb_interp.specs.Performing.{made_values}
use Rattle.cb_interp.proofs.NativesMade.{behind_made}
use Rattle.cb_interp.proofs.perform_turns.perform.Goals as goal

pub run_native-made-requires : goal.run_native-made-requires
run_native-made-requires g c κs within =
    let same = c.arguments_on-arguments.ensures ∙ ap (λ (count : ℕ). reverse (take count (top_stack c.args.roots.now.roots))) c.argument_count-count.ensures in
    let view = view_in (g.S.Store.storage c.args.store.now) c.args.roots.now.roots in
    let behind = c.requires.1.1.1.1.1.1.1 in (
      search rules,
      (
        c.requires.1.0,
        (
          behind.0,
          (
            subst (λ (held : List Value). have_sorts (sorts_of c.args.native) held ≡ true) (sym same) behind.1.0,
            (
              subst (λ (held : List Value). AreGiven (g.S.Store.storage c.args.store.now).kept (roles c.args.native) (map (read_value (g.S.Store.storage c.args.store.now).index) held)) (sym same) behind.1.1.0,
              (
                subst (λ (held : List Value). AreLaid c.args.program.now (g.S.Store.storage c.args.store.now).kept c.args.native (map (read_value (g.S.Store.storage c.args.store.now).index) held)) (sym same) behind.1.1.1.0,
                (
                  subst (λ (held : List Value). Asks c.args.program.now view c.args.native (map (read_value (g.S.Store.storage c.args.store.now).index) held) g.asked.1) (sym same) behind.1.1.1.1.0,
                  (
                    behind.1.1.1.1.1.0,
                    (
                      behind.1.1.1.1.1.1.0,
                      (
                        behind.1.1.1.1.1.1.1.0,
                        (
                          subst (λ (held : List Value). MayLeave c.args.program.now (g.S.Store.storage c.args.store.now).settings.allows view c.args.native (map (read_value (g.S.Store.storage c.args.store.now).index) held)) (sym same) behind.1.1.1.1.1.1.1.1.0,
                          behind.1.1.1.1.1.1.1.1.1,
                        ),
                      ),
                    ),
                  ),
                ),
              ),
            ),
          ),
        ),
      ),
    )

pub returns-clause-left : goal.returns-clause-left
returns-clause-left g c =
    let same = c.arguments_on-arguments.ensures ∙ ap (λ (count : ℕ). reverse (take count (top_stack c.args.roots.now.roots))) c.argument_count-count.ensures in
    let before = view_in (g.S.Store.storage c.args.store.now) c.args.roots.now.roots in
    let index = (g.S.Store.storage c.run_native-made.new.store).index in
    let ran = c.run_native-made.new.roots.roots in
    let back = c.run_native-made.result in
    record {
      ran = read_roots index ran;
      answer = given_back index back;
      performs = subst (λ (held : List Value). Performs g.S.Store.rules c.args.program.now c.args.native (map (read_value (g.S.Store.storage c.args.store.now).index) held) before
          (g.S.Store.storage c.args.store.now).facts (seen index (g.S.Store.storage c.run_native-made.new.store).kept ran) (g.S.Store.storage c.run_native-made.new.store).facts (given_back index back))
          same c.run_native-made.ensures.made;
      frames = c.run_native-made.ensures.frames;
      left = ap (λ (held : Limited). read_roots index held.roots) c.leave_made.ensures
          ∙ ap (λ (count : ℕ). read_roots index (behind_answer count (made_values back) c.args.next ran)) c.argument_count-count.ensures
          ∙ behind_made index (argument_count c.args.program.now c.args.decoded.now) c.args.next back ran;
    }
