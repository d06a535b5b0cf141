use Rattle.cb_heap.specs.Storage.{view_in}
use Rattle.std.proofs.Common.{◌≡◌, ◌∙◌, ap, refl, sym, ◌∷◌, [], drop, map, Some, w32}
use Rattle.std.proofs.lemmas.Int.{to_z-of_z}
use Rattle.std.specs.Prelude.{is_some, if◌then◌else◌}
use Rattle.cb_frames.specs.Tops.{top_stack}
use Rattle.cb_heap.specs.Kept.{content_at, is_held}
use Rattle.cb_heap.specs.Reading.{read_value, seen, serial_of}
use Rattle.cb_kinds.specs.declared.basic.Basic.TheVariants as basics
use Rattle.cb_machine.specs.Sites.{array_store}
use Rattle.cb_machine.specs.Values.{natural}
use Rattle.cb_plain.specs.declared.value.Value.TheVariants as values
use Rattle.cb_plain.specs.State.{Reference}
use Rattle.cb_shapes.specs.declared.sort.Sort.TheVariants as sorts
use Rattle.cb_act.specs.Effects.{stacked}
use Rattle.cb_act.specs.Objects.{Goes, Throws, place_of, put_on}
use Rattle.cb_act.proofs.ArrayLaws.{counted_there, index_out, kept_so, natural_place, of_null, place_in, place_low, reference_there, stored_reference_so, words_so}
use Rattle.cb_act.proofs.FollowLaws.{put_allowed, some_word}
use Rattle.cb_act.proofs.FieldLaws.{puts_so, referred_so}
use Rattle.cb_act.proofs.Taken.{stands}
use Rattle.cb_act.proofs.arrays.store_reference.Goals as goal

pub reference_at-to-requires : goal.reference_at-to-requires
reference_at-to-requires g c = stands (g.S.Store.storage c.args.store.now).index c.args.roots.now.roots _ (sorts.Reference ∷ sorts.Int ∷ sorts.Reference ∷ []) c.requires.there 0 sorts.Reference refl

pub int_at-index-requires : goal.int_at-index-requires
int_at-index-requires g c = stands (g.S.Store.storage c.args.store.now).index c.args.roots.now.roots _ (sorts.Reference ∷ sorts.Int ∷ sorts.Reference ∷ []) c.requires.there 1 sorts.Int refl

pub reference_at-at-requires : goal.reference_at-at-requires
reference_at-at-requires g c = stands (g.S.Store.storage c.args.store.now).index c.args.roots.now.roots _ (sorts.Reference ∷ sorts.Int ∷ sorts.Reference ∷ []) c.requires.there 2 sorts.Reference refl

pub returns-then-at-eq0-clause-behind : goal.returns-then-at-eq0-clause-behind
returns-then-at-eq0-clause-behind g c =
    let index = (g.S.Store.storage c.args.store.now).index in
    let objects = (g.S.Store.storage c.args.store.now).kept in
    let held = c.args.roots.now.roots in
    stored_reference_so index objects held c.reference_at-at.result c.reference_at-to.result c.int_at-index.result c.args.fits c.reference_at-to.ensures c.int_at-index.ensures c.reference_at-at.ensures
    ∙ of_null (seen index objects held) index c.reference_at-at.result c.int_at-index.result _ c.if-at-eq0.true

pub length-count-requires : goal.length-count-requires
length-count-requires g c =
    let index = (g.S.Store.storage c.args.store.now).index in
    let objects = (g.S.Store.storage c.args.store.now).kept in
    let held = c.args.roots.now.roots in
    kept_so (seen index objects held) index c.reference_at-at.result c.int_at-index.result _ c.if-at-eq0.false
    (ap is_some (sym (stored_reference_so index objects held c.reference_at-at.result c.reference_at-to.result c.int_at-index.result c.args.fits c.reference_at-to.ensures c.int_at-index.ensures c.reference_at-at.ensures)) ∙ c.requires.there)

pub returns-in_default-clause-behind : goal.returns-in_default-clause-behind
returns-in_default-clause-behind g c =
    let index = (g.S.Store.storage c.args.store.now).index in
    let objects = (g.S.Store.storage c.args.store.now).kept in
    let held = c.args.roots.now.roots in
    stored_reference_so index objects held c.reference_at-at.result c.reference_at-to.result c.int_at-index.result c.args.fits c.reference_at-to.ensures c.int_at-index.ensures c.reference_at-at.ensures
    ∙ index_out (seen index objects held) index c.reference_at-at.result c.length-count.result c.int_at-index.result _ c.if-at-eq0.false c.length-count.ensures
    (ap (λ i. place_of i c.length-count.result) (sym (to_z-of_z w32 c.int_at-index.result (record { sfits = c.int_at-index.type_inv }))) ∙ sym c.place_of.ensures ∙ c.in_default.is)

pub returns-then-not-fits-clause-behind : goal.returns-then-not-fits-clause-behind
returns-then-not-fits-clause-behind g c =
    let index = (g.S.Store.storage c.args.store.now).index in
    let objects = (g.S.Store.storage c.args.store.now).kept in
    let held = c.args.roots.now.roots in
    let there : place_of c.int_at-index.result c.length-count.result ≡ Some c.in-Some.place =
    ap (λ i. place_of i c.length-count.result) (sym (to_z-of_z w32 c.int_at-index.result (record { sfits = c.int_at-index.type_inv }))) ∙ sym c.place_of.ensures ∙ c.in-Some.is in
    stored_reference_so index objects held c.reference_at-at.result c.reference_at-to.result c.int_at-index.result c.args.fits c.reference_at-to.ensures c.int_at-index.ensures c.reference_at-at.ensures
    ∙ place_in (seen index objects held) index c.reference_at-at.result c.length-count.result c.in-Some.place c.int_at-index.result _ c.if-at-eq0.false c.length-count.ensures there
    ∙ ap (λ fits. if fits then put_on (seen index objects held) (map (read_value index) (drop 3 (top_stack held))) (serial_of index c.reference_at-at.result) (natural c.int_at-index.result) (Reference (serial_of index c.reference_at-to.result)) else Some (Throws array_store))
    c.if-not-fits.true

pub put_ref-requires-clause-there : goal.put_ref-requires-clause-there
put_ref-requires-clause-there g c =
    let index = (g.S.Store.storage c.args.store.now).index in
    let objects = (g.S.Store.storage c.args.store.now).kept in
    let held = c.args.roots.now.roots in
    let there : place_of c.int_at-index.result c.length-count.result ≡ Some c.in-Some.place =
    ap (λ i. place_of i c.length-count.result) (sym (to_z-of_z w32 c.int_at-index.result (record { sfits = c.int_at-index.type_inv }))) ∙ sym c.place_of.ensures ∙ c.in-Some.is in
    reference_there 0 (content_at objects (serial_of index c.reference_at-at.result) c.in-Some.place)
    (words_so index objects held (basics.Reference 0) 2 c.reference_at-at.result c.in-Some.place c.length-count.result c.reference_at-at.ensures c.length-count.ensures
    (place_low c.int_at-index.result c.length-count.result c.in-Some.place there) c.requires.suits)

pub put_ref-requires-clause-held : goal.put_ref-requires-clause-held
put_ref-requires-clause-held g c =
    let index = (g.S.Store.storage c.args.store.now).index in
    let objects = (g.S.Store.storage c.args.store.now).kept in
    let held = c.args.roots.now.roots in
    ap (is_held objects) (sym (referred_so index objects held 0 (values.Ref c.reference_at-to.result) c.reference_at-to.ensures)) ∙ c.requires.held

pub put_ref-requires-clause-allowed : goal.put_ref-requires-clause-allowed
put_ref-requires-clause-allowed g c =
    let index = (g.S.Store.storage c.args.store.now).index in
    let objects = (g.S.Store.storage c.args.store.now).kept in
    let held = c.args.roots.now.roots in
    let serial = serial_of index c.reference_at-at.result in
    let there : place_of c.int_at-index.result c.length-count.result ≡ Some c.in-Some.place =
    ap (λ i. place_of i c.length-count.result) (sym (to_z-of_z w32 c.int_at-index.result (record { sfits = c.int_at-index.type_inv }))) ∙ sym c.place_of.ensures ∙ c.in-Some.is in
    let left =
    stored_reference_so index objects held c.reference_at-at.result c.reference_at-to.result c.int_at-index.result c.args.fits c.reference_at-to.ensures c.int_at-index.ensures c.reference_at-at.ensures
    ∙ place_in (seen index objects held) index c.reference_at-at.result c.length-count.result c.in-Some.place c.int_at-index.result _ c.if-at-eq0.false c.length-count.ensures there
    ∙ ap (λ fits. if fits then put_on (seen index objects held) (map (read_value index) (drop 3 (top_stack held))) serial (natural c.int_at-index.result) (Reference (serial_of index c.reference_at-to.result)) else Some (Throws array_store))
    c.if-not-fits.false
    ∙ ap (λ word. put_on (seen index objects held) (map (read_value index) (drop 3 (top_stack held))) serial word (Reference (serial_of index c.reference_at-to.result)))
    (natural_place c.int_at-index.result c.length-count.result c.in-Some.place there)
    ∙ puts_so index objects held c.reference_at-at.result c.in-Some.place (values.Ref c.reference_at-to.result) 3 (counted_there objects serial c.length-count.result c.length-count.ensures) in
    put_allowed (g.S.Store.storage c.args.store.now).settings.allows objects serial c.in-Some.place (serial_of index c.reference_at-to.result)
    (some_word (basics.Reference 0) (content_at objects serial c.in-Some.place)
    (words_so index objects held (basics.Reference 0) 2 c.reference_at-at.result c.in-Some.place c.length-count.result c.reference_at-at.ensures c.length-count.ensures
    (place_low c.int_at-index.result c.length-count.result c.in-Some.place there) c.requires.suits))
    (c.requires.follows _ left)

pub returns-clause-behind : goal.returns-clause-behind
returns-clause-behind g c =
    let index = (g.S.Store.storage c.args.store.now).index in
    let objects = (g.S.Store.storage c.args.store.now).kept in
    let held = c.args.roots.now.roots in
    let serial = serial_of index c.reference_at-at.result in
    let there : place_of c.int_at-index.result c.length-count.result ≡ Some c.in-Some.place =
    ap (λ i. place_of i c.length-count.result) (sym (to_z-of_z w32 c.int_at-index.result (record { sfits = c.int_at-index.type_inv }))) ∙ sym c.place_of.ensures ∙ c.in-Some.is in
    stored_reference_so index objects held c.reference_at-at.result c.reference_at-to.result c.int_at-index.result c.args.fits c.reference_at-to.ensures c.int_at-index.ensures c.reference_at-at.ensures
    ∙ place_in (seen index objects held) index c.reference_at-at.result c.length-count.result c.in-Some.place c.int_at-index.result _ c.if-at-eq0.false c.length-count.ensures there
    ∙ ap (λ fits. if fits then put_on (seen index objects held) (map (read_value index) (drop 3 (top_stack held))) serial (natural c.int_at-index.result) (Reference (serial_of index c.reference_at-to.result)) else Some (Throws array_store))
    c.if-not-fits.false
    ∙ ap (λ word. put_on (seen index objects held) (map (read_value index) (drop 3 (top_stack held))) serial word (Reference (serial_of index c.reference_at-to.result)))
    (natural_place c.int_at-index.result c.length-count.result c.in-Some.place there)
    ∙ puts_so index objects held c.reference_at-at.result c.in-Some.place (values.Ref c.reference_at-to.result) 3 (counted_there objects serial c.length-count.result c.length-count.ensures)
    ∙ ap (λ kept. Some (Goes (seen index kept (stacked held (drop 3 (top_stack held)))))) (sym c.put_ref.ensures.kept)
    ∙ ap (λ index. Some (Goes (seen index (g.S.Store.storage c.put_ref.new.self).kept (stacked held (drop 3 (top_stack held)))))) (sym c.put_ref.ensures.places)
    ∙ ap (λ roots. Some (Goes (view_in (g.S.Store.storage c.put_ref.new.self) roots.roots))) (sym c.take_three.ensures)
