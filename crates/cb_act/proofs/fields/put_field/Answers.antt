use Rattle.cb_heap.specs.Storage.{view_in}
use Rattle.std.proofs.Common.{◌∙◌, ap, refl, sym, ◌∷◌, [], drop, map, Some}
use Rattle.cb_frames.specs.Entries.{referent}
use Rattle.cb_frames.specs.Tops.{top_stack}
use Rattle.cb_heap.specs.Kept.{content_at, is_held}
use Rattle.cb_heap.specs.Reading.{read_value, seen, serial_of}
use Rattle.cb_machine.specs.Values.{content_of, sort_of_basic}
use Rattle.cb_shapes.specs.declared.sort.Sort.TheVariants as sorts
use Rattle.cb_act.specs.Effects.{has_sort, stacked}
use Rattle.cb_act.specs.Objects.{Goes, put_on, takes}
use Rattle.cb_act.proofs.FollowLaws.{some_word, value_allowed}
use Rattle.cb_act.proofs.FieldLaws.{kept_read, kept_refers, null_so, put_so, puts_so, referred_so, some_there, suits_so, takes_so, unless_so}
use Rattle.cb_act.proofs.Taken.{stands}
use Rattle.cb_act.proofs.fields.put_field.Goals as goal

pub operand_of-requires : goal.operand_of-requires
operand_of-requires g c =
    stands (g.S.Store.storage c.args.store.now).index c.args.roots.now.roots _ (sort_of_basic c.args.basic ∷ sorts.Reference ∷ []) c.requires.there 0 (sort_of_basic c.args.basic) refl

pub reference_at-at-requires : goal.reference_at-at-requires
reference_at-at-requires g c = stands (g.S.Store.storage c.args.store.now).index c.args.roots.now.roots _ (sort_of_basic c.args.basic ∷ sorts.Reference ∷ []) c.requires.there 1 sorts.Reference refl

pub returns-then-at-eq0-clause-behind : goal.returns-then-at-eq0-clause-behind
returns-then-at-eq0-clause-behind g c =
    put_so (g.S.Store.storage c.args.store.now).index (g.S.Store.storage c.args.store.now).kept c.args.roots.now.roots c.args.slot c.reference_at-at.result c.args.basic c.operand_of.result
    (ap (has_sort (sort_of_basic c.args.basic)) (sym c.operand_of.ensures)
    ∙ stands (g.S.Store.storage c.args.store.now).index c.args.roots.now.roots _ (sort_of_basic c.args.basic ∷ sorts.Reference ∷ []) c.requires.there 0 (sort_of_basic c.args.basic) refl)
    c.operand_of.ensures c.reference_at-at.ensures
    ∙ null_so (g.S.Store.storage c.args.store.now).index c.reference_at-at.result _ c.if-at-eq0.true

pub put_value-requires-clause-takes : goal.put_value-requires-clause-takes
put_value-requires-clause-takes g c =
    let index = (g.S.Store.storage c.args.store.now).index in
    let objects = (g.S.Store.storage c.args.store.now).kept in
    let held = c.args.roots.now.roots in
    ap (λ value. takes value (content_at objects (serial_of index c.reference_at-at.result) c.args.slot)) c.kept_value-value.ensures
    ∙ takes_so c.args.basic c.operand_of.result (content_at objects (serial_of index c.reference_at-at.result) c.args.slot)
    (ap (has_sort (sort_of_basic c.args.basic)) (sym c.operand_of.ensures)
    ∙ stands index held _ (sort_of_basic c.args.basic ∷ sorts.Reference ∷ []) c.requires.there 0 (sort_of_basic c.args.basic) refl)
    (suits_so index objects held c.args.basic 1 c.args.slot c.reference_at-at.result c.reference_at-at.ensures c.if-at-eq0.false c.requires.suits)

pub put_value-requires-clause-held : goal.put_value-requires-clause-held
put_value-requires-clause-held g c =
    let index = (g.S.Store.storage c.args.store.now).index in
    let objects = (g.S.Store.storage c.args.store.now).kept in
    ap (λ value. is_held objects (serial_of index (referent value))) c.kept_value-value.ensures
    ∙ ap (λ place. is_held objects (serial_of index place)) (kept_refers c.args.basic c.operand_of.result)
    ∙ ap (is_held objects) (sym (referred_so index objects c.args.roots.now.roots 0 c.operand_of.result c.operand_of.ensures)) ∙ c.requires.held

pub put_value-requires-clause-allowed : goal.put_value-requires-clause-allowed
put_value-requires-clause-allowed g c =
    let index = (g.S.Store.storage c.args.store.now).index in
    let objects = (g.S.Store.storage c.args.store.now).kept in
    let held = c.args.roots.now.roots in
    let serial = serial_of index c.reference_at-at.result in
    let suits = suits_so index objects held c.args.basic 1 c.args.slot c.reference_at-at.result c.reference_at-at.ensures c.if-at-eq0.false c.requires.suits in
    let left = put_so index objects held c.args.slot c.reference_at-at.result c.args.basic c.operand_of.result
    (ap (has_sort (sort_of_basic c.args.basic)) (sym c.operand_of.ensures)
    ∙ stands index held _ (sort_of_basic c.args.basic ∷ sorts.Reference ∷ []) c.requires.there 0 (sort_of_basic c.args.basic) refl)
    c.operand_of.ensures c.reference_at-at.ensures
    ∙ unless_so index c.reference_at-at.result _ c.if-at-eq0.false
    ∙ ap (λ value. put_on (seen index objects held) (map (read_value index) (drop 2 (top_stack held))) serial c.args.slot (content_of value))
    (kept_read index c.args.basic c.operand_of.result ∙ ap (read_value index) (sym c.kept_value-value.ensures))
    ∙ puts_so index objects held c.reference_at-at.result c.args.slot c.kept_value-value.result 2 (some_there objects serial c.args.slot c.args.basic suits) in
    value_allowed (g.S.Store.storage c.args.store.now).settings.allows objects index serial c.args.slot c.kept_value-value.result
    (some_word c.args.basic (content_at objects serial c.args.slot) suits) (c.requires.follows _ left)

pub returns-clause-behind : goal.returns-clause-behind
returns-clause-behind g c =
    let index = (g.S.Store.storage c.args.store.now).index in
    let objects = (g.S.Store.storage c.args.store.now).kept in
    let held = c.args.roots.now.roots in
    let serial = serial_of index c.reference_at-at.result in
    let is = put_so index objects held c.args.slot c.reference_at-at.result c.args.basic c.operand_of.result
    (ap (has_sort (sort_of_basic c.args.basic)) (sym c.operand_of.ensures)
    ∙ stands index held _ (sort_of_basic c.args.basic ∷ sorts.Reference ∷ []) c.requires.there 0 (sort_of_basic c.args.basic) refl)
    c.operand_of.ensures c.reference_at-at.ensures
    ∙ unless_so index c.reference_at-at.result _ c.if-at-eq0.false in
    is
    ∙ ap (λ value. put_on (seen index objects held) (map (read_value index) (drop 2 (top_stack held))) serial c.args.slot (content_of value))
    (kept_read index c.args.basic c.operand_of.result ∙ ap (read_value index) (sym c.kept_value-value.ensures))
    ∙ puts_so index objects held c.reference_at-at.result c.args.slot c.kept_value-value.result 2
    (some_there objects serial c.args.slot c.args.basic (suits_so index objects held c.args.basic 1 c.args.slot c.reference_at-at.result c.reference_at-at.ensures c.if-at-eq0.false c.requires.suits))
    ∙ ap (λ kept. Some (Goes (seen index kept (stacked held (drop 2 (top_stack held)))))) (sym c.put_value.ensures.kept)
    ∙ ap (λ index. Some (Goes (seen index (g.S.Store.storage c.put_value.new.store).kept (stacked held (drop 2 (top_stack held)))))) (sym c.put_value.ensures.places)
    ∙ ap (λ roots. Some (Goes (view_in (g.S.Store.storage c.put_value.new.store) roots.roots))) (sym c.take_two.ensures)
