use Rattle.std.proofs.Common.{◌≡◌, ◌∙◌, ap, arith, sym, false, pos, take, true, w32}
use Rattle.std.proofs.lemmas.Int.{to_z-of_z}
use lib.Signed.{lt_z}
use Rattle.std.specs.List.{list_all}
use Rattle.cb_frames.specs.Tops.{top_stack}
use Rattle.cb_machine.specs.Creating.{is_size}
use Rattle.cb_act.proofs.CallLaws.{ints_there, no_size, size_next, sizes_so}
use Rattle.cb_act.proofs.acting_calls.makes_arrays.Goals as goal

pub int_at-requires : goal.int_at-requires
int_at-requires g c =
    ints_there (g.S.Store.storage c.args.store.now).index (g.S.Store.storage c.args.store.now).kept c.args.roots.now.roots c.args.dimensions c.requires.there c.loop-depth.depth c.loop-depth-test.true

pub returns-then-int_at-lt0 : goal.returns-then-int_at-lt0
returns-then-int_at-lt0 g c =
    sizes_so (g.S.Store.storage c.args.store.now).index (g.S.Store.storage c.args.store.now).kept c.args.roots.now.roots c.args.dimensions c.requires.there false
    (no_size (g.S.Store.storage c.args.store.now).index (g.S.Store.storage c.args.store.now).kept c.args.roots.now.roots c.args.dimensions c.loop-depth.depth c.int_at.result c.loop-depth-test.true c.int_at.ensures
    (ap (λ number. lt_z number (pos 0)) (sym (to_z-of_z w32 c.int_at.result (record { sfits = c.int_at.type_inv }))) ∙ c.if-int_at-lt0.true))

pub loop-depth-preserved : goal.loop-depth-preserved
loop-depth-preserved g c =
    size_next (g.S.Store.storage c.args.store.now).index (g.S.Store.storage c.args.store.now).kept c.args.roots.now.roots c.args.dimensions c.loop-depth.depth c.int_at.result c.int_at.ensures
    (ap (λ number. lt_z number (pos 0)) (sym (to_z-of_z w32 c.int_at.result (record { sfits = c.int_at.type_inv }))) ∙ c.if-int_at-lt0.false) c.loop-depth.invariant

pub returns : goal.returns
returns g c =
    let end : c.loop-depth.depth ≡ c.args.dimensions = omega arith in
    sizes_so (g.S.Store.storage c.args.store.now).index (g.S.Store.storage c.args.store.now).kept c.args.roots.now.roots c.args.dimensions c.requires.there true
    (ap (λ count. list_all is_size (take count (top_stack c.args.roots.now.roots))) (sym end) ∙ c.loop-depth.invariant)
