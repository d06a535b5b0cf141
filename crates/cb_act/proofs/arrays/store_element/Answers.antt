use Rattle.cb_heap.specs.Storage.{view_in}
use Rattle.std.proofs.Common.{◌≡◌, ◌∙◌, ap, refl, sym, ◌∷◌, [], drop, map, Some, w32}
use Rattle.std.proofs.lemmas.Int.{to_z-of_z}
use Rattle.std.specs.Prelude.{is_some}
use Rattle.cb_frames.specs.Entries.{referent}
use Rattle.cb_frames.specs.Tops.{top_stack}
use Rattle.cb_heap.specs.Kept.{content_at, is_held}
use Rattle.cb_heap.specs.Reading.{read_value, seen, serial_of}
use Rattle.cb_machine.specs.Values.{content_of, kept_value, sort_of_basic}
use Rattle.cb_shapes.specs.declared.sort.Sort.TheVariants as sorts
use Rattle.cb_act.specs.Effects.{has_sort, stacked}
use Rattle.cb_act.specs.Objects.{Goes, place_of, put_on, takes}
use Rattle.cb_act.proofs.ArrayLaws.{counted_there, index_out, kept_so, natural_place, of_null, place_in, place_low, stored_so, words_so}
use Rattle.cb_act.proofs.FollowLaws.{some_word, value_allowed}
use Rattle.cb_act.proofs.FieldLaws.{kept_read, kept_refers, puts_so, referred_so, takes_so}
use Rattle.cb_act.proofs.Taken.{stands}
use Rattle.cb_act.proofs.arrays.store_element.Goals as goal

pub operand_of-requires : goal.operand_of-requires
operand_of-requires g c =
    stands (g.S.Store.storage c.args.store.now).index c.args.roots.now.roots _ (sort_of_basic c.args.basic ∷ sorts.Int ∷ sorts.Reference ∷ []) c.requires.there 0 (sort_of_basic c.args.basic) refl

pub int_at-index-requires : goal.int_at-index-requires
int_at-index-requires g c =
    stands (g.S.Store.storage c.args.store.now).index c.args.roots.now.roots _ (sort_of_basic c.args.basic ∷ sorts.Int ∷ sorts.Reference ∷ []) c.requires.there 1 sorts.Int refl

pub reference_at-at-requires : goal.reference_at-at-requires
reference_at-at-requires g c =
    stands (g.S.Store.storage c.args.store.now).index c.args.roots.now.roots _ (sort_of_basic c.args.basic ∷ sorts.Int ∷ sorts.Reference ∷ []) c.requires.there 2 sorts.Reference refl

pub returns-then-at-eq0-clause-behind : goal.returns-then-at-eq0-clause-behind
returns-then-at-eq0-clause-behind g c =
    let index = (g.S.Store.storage c.args.store.now).index in
    let objects = (g.S.Store.storage c.args.store.now).kept in
    let held = c.args.roots.now.roots in
    stored_so index objects held c.reference_at-at.result c.int_at-index.result (sort_of_basic c.args.basic) c.args.basic c.operand_of.result
    (ap (has_sort (sort_of_basic c.args.basic)) (sym c.operand_of.ensures)
    ∙ stands index held _ (sort_of_basic c.args.basic ∷ sorts.Int ∷ sorts.Reference ∷ []) c.requires.there 0 (sort_of_basic c.args.basic) refl)
    c.operand_of.ensures c.int_at-index.ensures c.reference_at-at.ensures
    ∙ of_null (seen index objects held) index c.reference_at-at.result c.int_at-index.result _ c.if-at-eq0.true

pub length-count-requires : goal.length-count-requires
length-count-requires g c =
    let index = (g.S.Store.storage c.args.store.now).index in
    let objects = (g.S.Store.storage c.args.store.now).kept in
    let held = c.args.roots.now.roots in
    kept_so (seen index objects held) index c.reference_at-at.result c.int_at-index.result _ c.if-at-eq0.false
    (ap is_some (sym (stored_so index objects held c.reference_at-at.result c.int_at-index.result (sort_of_basic c.args.basic) c.args.basic c.operand_of.result
    (ap (has_sort (sort_of_basic c.args.basic)) (sym c.operand_of.ensures)
    ∙ stands index held _ (sort_of_basic c.args.basic ∷ sorts.Int ∷ sorts.Reference ∷ []) c.requires.there 0 (sort_of_basic c.args.basic) refl)
    c.operand_of.ensures c.int_at-index.ensures c.reference_at-at.ensures)) ∙ c.requires.there)

pub returns-in_default-clause-behind : goal.returns-in_default-clause-behind
returns-in_default-clause-behind g c =
    let index = (g.S.Store.storage c.args.store.now).index in
    let objects = (g.S.Store.storage c.args.store.now).kept in
    let held = c.args.roots.now.roots in
    stored_so index objects held c.reference_at-at.result c.int_at-index.result (sort_of_basic c.args.basic) c.args.basic c.operand_of.result
    (ap (has_sort (sort_of_basic c.args.basic)) (sym c.operand_of.ensures)
    ∙ stands index held _ (sort_of_basic c.args.basic ∷ sorts.Int ∷ sorts.Reference ∷ []) c.requires.there 0 (sort_of_basic c.args.basic) refl)
    c.operand_of.ensures c.int_at-index.ensures c.reference_at-at.ensures
    ∙ index_out (seen index objects held) index c.reference_at-at.result c.length-count.result c.int_at-index.result _ c.if-at-eq0.false c.length-count.ensures
    (ap (λ i. place_of i c.length-count.result) (sym (to_z-of_z w32 c.int_at-index.result (record { sfits = c.int_at-index.type_inv }))) ∙ sym c.place_of.ensures ∙ c.in_default.is)

pub put_value-requires-clause-takes : goal.put_value-requires-clause-takes
put_value-requires-clause-takes g c =
    let index = (g.S.Store.storage c.args.store.now).index in
    let objects = (g.S.Store.storage c.args.store.now).kept in
    let held = c.args.roots.now.roots in
    let there : place_of c.int_at-index.result c.length-count.result ≡ Some c.in-Some.place = ap (λ i. place_of i c.length-count.result) (sym (to_z-of_z w32 c.int_at-index.result (record { sfits = c.int_at-index.type_inv }))) ∙ sym c.place_of.ensures ∙ c.in-Some.is in
    ap (λ value. takes value (content_at objects (serial_of index c.reference_at-at.result) c.in-Some.place)) c.kept_value-value.ensures
    ∙ takes_so c.args.basic c.operand_of.result (content_at objects (serial_of index c.reference_at-at.result) c.in-Some.place)
    (ap (has_sort (sort_of_basic c.args.basic)) (sym c.operand_of.ensures)
    ∙ stands index held _ (sort_of_basic c.args.basic ∷ sorts.Int ∷ sorts.Reference ∷ []) c.requires.there 0 (sort_of_basic c.args.basic) refl)
    (words_so index objects held c.args.basic 2 c.reference_at-at.result c.in-Some.place c.length-count.result c.reference_at-at.ensures c.length-count.ensures
    (place_low c.int_at-index.result c.length-count.result c.in-Some.place there) c.requires.suits)

pub put_value-requires-clause-held : goal.put_value-requires-clause-held
put_value-requires-clause-held g c =
    let index = (g.S.Store.storage c.args.store.now).index in
    let objects = (g.S.Store.storage c.args.store.now).kept in
    ap (λ value. is_held objects (serial_of index (referent value))) c.kept_value-value.ensures
    ∙ ap (λ place. is_held objects (serial_of index place)) (kept_refers c.args.basic c.operand_of.result)
    ∙ ap (is_held objects) (sym (referred_so index objects c.args.roots.now.roots 0 c.operand_of.result c.operand_of.ensures)) ∙ c.requires.held

pub put_value-requires-clause-allowed : goal.put_value-requires-clause-allowed
put_value-requires-clause-allowed g c =
    let index = (g.S.Store.storage c.args.store.now).index in
    let objects = (g.S.Store.storage c.args.store.now).kept in
    let held = c.args.roots.now.roots in
    let serial = serial_of index c.reference_at-at.result in
    let there : place_of c.int_at-index.result c.length-count.result ≡ Some c.in-Some.place = ap (λ i. place_of i c.length-count.result) (sym (to_z-of_z w32 c.int_at-index.result (record { sfits = c.int_at-index.type_inv }))) ∙ sym c.place_of.ensures ∙ c.in-Some.is in
    let left =
    stored_so index objects held c.reference_at-at.result c.int_at-index.result (sort_of_basic c.args.basic) c.args.basic c.operand_of.result
    (ap (has_sort (sort_of_basic c.args.basic)) (sym c.operand_of.ensures)
    ∙ stands index held _ (sort_of_basic c.args.basic ∷ sorts.Int ∷ sorts.Reference ∷ []) c.requires.there 0 (sort_of_basic c.args.basic) refl)
    c.operand_of.ensures c.int_at-index.ensures c.reference_at-at.ensures
    ∙ place_in (seen index objects held) index c.reference_at-at.result c.length-count.result c.in-Some.place c.int_at-index.result _ c.if-at-eq0.false c.length-count.ensures there
    ∙ ap (λ word. put_on (seen index objects held) (map (read_value index) (drop 3 (top_stack held))) serial word (content_of (kept_value c.args.basic (read_value index c.operand_of.result))))
    (natural_place c.int_at-index.result c.length-count.result c.in-Some.place there)
    ∙ ap (λ value. put_on (seen index objects held) (map (read_value index) (drop 3 (top_stack held))) serial c.in-Some.place (content_of value))
    (kept_read index c.args.basic c.operand_of.result ∙ ap (read_value index) (sym c.kept_value-value.ensures))
    ∙ puts_so index objects held c.reference_at-at.result c.in-Some.place c.kept_value-value.result 3 (counted_there objects serial c.length-count.result c.length-count.ensures) in
    value_allowed (g.S.Store.storage c.args.store.now).settings.allows objects index serial c.in-Some.place c.kept_value-value.result
    (some_word c.args.basic (content_at objects serial c.in-Some.place)
    (words_so index objects held c.args.basic 2 c.reference_at-at.result c.in-Some.place c.length-count.result c.reference_at-at.ensures c.length-count.ensures
    (place_low c.int_at-index.result c.length-count.result c.in-Some.place there) c.requires.suits))
    (c.requires.follows _ left)

pub returns-clause-behind : goal.returns-clause-behind
returns-clause-behind g c =
    let index = (g.S.Store.storage c.args.store.now).index in
    let objects = (g.S.Store.storage c.args.store.now).kept in
    let held = c.args.roots.now.roots in
    let serial = serial_of index c.reference_at-at.result in
    let there : place_of c.int_at-index.result c.length-count.result ≡ Some c.in-Some.place = ap (λ i. place_of i c.length-count.result) (sym (to_z-of_z w32 c.int_at-index.result (record { sfits = c.int_at-index.type_inv }))) ∙ sym c.place_of.ensures ∙ c.in-Some.is in
    stored_so index objects held c.reference_at-at.result c.int_at-index.result (sort_of_basic c.args.basic) c.args.basic c.operand_of.result
    (ap (has_sort (sort_of_basic c.args.basic)) (sym c.operand_of.ensures)
    ∙ stands index held _ (sort_of_basic c.args.basic ∷ sorts.Int ∷ sorts.Reference ∷ []) c.requires.there 0 (sort_of_basic c.args.basic) refl)
    c.operand_of.ensures c.int_at-index.ensures c.reference_at-at.ensures
    ∙ place_in (seen index objects held) index c.reference_at-at.result c.length-count.result c.in-Some.place c.int_at-index.result _ c.if-at-eq0.false c.length-count.ensures there
    ∙ ap (λ word. put_on (seen index objects held) (map (read_value index) (drop 3 (top_stack held))) serial word (content_of (kept_value c.args.basic (read_value index c.operand_of.result))))
    (natural_place c.int_at-index.result c.length-count.result c.in-Some.place there)
    ∙ ap (λ value. put_on (seen index objects held) (map (read_value index) (drop 3 (top_stack held))) serial c.in-Some.place (content_of value))
    (kept_read index c.args.basic c.operand_of.result ∙ ap (read_value index) (sym c.kept_value-value.ensures))
    ∙ puts_so index objects held c.reference_at-at.result c.in-Some.place c.kept_value-value.result 3 (counted_there objects serial c.length-count.result c.length-count.ensures)
    ∙ ap (λ kept. Some (Goes (seen index kept (stacked held (drop 3 (top_stack held)))))) (sym c.put_value.ensures.kept)
    ∙ ap (λ index. Some (Goes (seen index (g.S.Store.storage c.put_value.new.store).kept (stacked held (drop 3 (top_stack held)))))) (sym c.put_value.ensures.places)
    ∙ ap (λ roots. Some (Goes (view_in (g.S.Store.storage c.put_value.new.store) roots.roots))) (sym c.take_three.ensures)
