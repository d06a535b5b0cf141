use Rattle.std.proofs.Common.{◌≡◌, ◌∙◌, ap, refl, sym, ◌∷◌, [], drop, map, Some, w32}
use Rattle.std.proofs.lemmas.Int.{to_z-of_z}
use Rattle.std.specs.Prelude.{is_some}
use Rattle.cb_frames.specs.Tops.{top_stack}
use Rattle.cb_heap.specs.Kept.{content_at}
use Rattle.cb_heap.specs.Reading.{read_value, seen, serial_of}
use Rattle.cb_shapes.specs.declared.sort.Sort.TheVariants as sorts
use Rattle.cb_act.specs.Objects.{Goes, place_of, read_on}
use Rattle.cb_act.proofs.ArrayLaws.{element_so, index_out, kept_so, natural_place, of_null, place_in, place_low, words_so}
use Rattle.cb_act.proofs.FieldLaws.{read_so, unless_so}
use Rattle.cb_act.proofs.Taken.{stands}
use Rattle.cb_act.proofs.arrays.load_element.Goals as goal

pub int_at-index-requires : goal.int_at-index-requires
int_at-index-requires g c = stands (g.S.Store.storage c.args.store.now).index c.args.roots.now.roots _ (sorts.Int ∷ sorts.Reference ∷ []) c.requires.there 0 sorts.Int refl

pub reference_at-at-requires : goal.reference_at-at-requires
reference_at-at-requires g c = stands (g.S.Store.storage c.args.store.now).index c.args.roots.now.roots _ (sorts.Int ∷ sorts.Reference ∷ []) c.requires.there 1 sorts.Reference refl

pub returns-then-at-eq0-clause-behind : goal.returns-then-at-eq0-clause-behind
returns-then-at-eq0-clause-behind g c =
    let index = (g.S.Store.storage c.args.store.now).index in
    let objects = (g.S.Store.storage c.args.store.now).kept in
    let held = c.args.roots.now.roots in
    element_so index objects held c.reference_at-at.result c.int_at-index.result c.args.basic c.int_at-index.ensures c.reference_at-at.ensures
    ∙ of_null (seen index objects held) index c.reference_at-at.result c.int_at-index.result _ c.if-at-eq0.true

pub length-count-requires : goal.length-count-requires
length-count-requires g c =
    let index = (g.S.Store.storage c.args.store.now).index in
    let objects = (g.S.Store.storage c.args.store.now).kept in
    let held = c.args.roots.now.roots in
    kept_so (seen index objects held) index c.reference_at-at.result c.int_at-index.result _ c.if-at-eq0.false
    (ap is_some (sym (element_so index objects held c.reference_at-at.result c.int_at-index.result c.args.basic c.int_at-index.ensures c.reference_at-at.ensures)) ∙ c.requires.there)

pub returns-in_default-clause-behind : goal.returns-in_default-clause-behind
returns-in_default-clause-behind g c =
    let index = (g.S.Store.storage c.args.store.now).index in
    let objects = (g.S.Store.storage c.args.store.now).kept in
    let held = c.args.roots.now.roots in
    element_so index objects held c.reference_at-at.result c.int_at-index.result c.args.basic c.int_at-index.ensures c.reference_at-at.ensures
    ∙ index_out (seen index objects held) index c.reference_at-at.result c.length-count.result c.int_at-index.result _ c.if-at-eq0.false c.length-count.ensures
    (ap (λ i. place_of i c.length-count.result) (sym (to_z-of_z w32 c.int_at-index.result (record { sfits = c.int_at-index.type_inv }))) ∙ sym c.place_of.ensures ∙ c.in_default.is)

pub value_at-value-requires : goal.value_at-value-requires
value_at-value-requires g c =
    let index = (g.S.Store.storage c.args.store.now).index in
    let objects = (g.S.Store.storage c.args.store.now).kept in
    let held = c.args.roots.now.roots in
    let there : place_of c.int_at-index.result c.length-count.result ≡ Some c.in-Some.place =
    ap (λ i. place_of i c.length-count.result) (sym (to_z-of_z w32 c.int_at-index.result (record { sfits = c.int_at-index.type_inv }))) ∙ sym c.place_of.ensures ∙ c.in-Some.is in
    record {
      suits = words_so index objects held c.args.basic 1 c.reference_at-at.result c.in-Some.place c.length-count.result c.reference_at-at.ensures c.length-count.ensures
          (place_low c.int_at-index.result c.length-count.result c.in-Some.place there) c.requires.suits;
    }

pub returns-clause-behind : goal.returns-clause-behind
returns-clause-behind g c =
    let index = (g.S.Store.storage c.args.store.now).index in
    let objects = (g.S.Store.storage c.args.store.now).kept in
    let held = c.args.roots.now.roots in
    let there : place_of c.int_at-index.result c.length-count.result ≡ Some c.in-Some.place =
    ap (λ i. place_of i c.length-count.result) (sym (to_z-of_z w32 c.int_at-index.result (record { sfits = c.int_at-index.type_inv }))) ∙ sym c.place_of.ensures ∙ c.in-Some.is in
    element_so index objects held c.reference_at-at.result c.int_at-index.result c.args.basic c.int_at-index.ensures c.reference_at-at.ensures
    ∙ place_in (seen index objects held) index c.reference_at-at.result c.length-count.result c.in-Some.place c.int_at-index.result _ c.if-at-eq0.false c.length-count.ensures there
    ∙ ap (λ word. read_on (seen index objects held) (map (read_value index) (drop 2 (top_stack held))) c.args.basic (content_at objects (serial_of index c.reference_at-at.result) word))
    (natural_place c.int_at-index.result c.length-count.result c.in-Some.place there)
    ∙ sym (unless_so index c.reference_at-at.result _ c.if-at-eq0.false)
    ∙ read_so index objects held c.args.basic c.in-Some.place c.reference_at-at.result c.value_at-value.result (drop 2 (top_stack held)) c.if-at-eq0.false c.value_at-value.ensures
    ∙ ap (λ roots. Some (Goes (seen index objects roots.roots))) (sym c.give_for_two.ensures)
