use Rattle.cb_heap.specs.Storage.{view_in}
use Rattle.std.proofs.Common.{◌∙◌, sym}
use Rattle.cb_interp.proofs.TurnsNeedMakes.{makes_others}
use Rattle.cb_interp.proofs.need_turns.makes_need.Goals as goal

pub new_need-requires : goal.new_need-requires
new_need-requires g c = λ κs lives. (lives, (c.requires.1.0, (c.requires.1.1.0, (sym c.is_new.ensures ∙ c.if-is_new.true, c.requires.1.1.1))))

pub array_need-requires : goal.array_need-requires
array_need-requires g c = λ κs lives. (lives, (c.requires.1.0, (c.requires.1.1.0, (sym c.is_new_array.ensures ∙ c.if-is_new_array.true, c.requires.1.1.1))))

pub nested_need-requires : goal.nested_need-requires
nested_need-requires g c = λ κs lives.
    let makes =
    makes_others c.args.program.now c.args.roots.now.limit c.args.decoded.now (view_in (g.S.Store.storage c.args.store.now) c.args.roots.now.roots)
    c.requires.1.1.1 (sym c.is_new.ensures ∙ c.if-is_new.false) (sym c.is_new_array.ensures ∙ c.if-is_new_array.false) in (lives, (c.requires.1.0, (c.requires.1.1.0, (makes, c.requires.1.1.1))))
