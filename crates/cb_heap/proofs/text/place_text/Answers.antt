use Rattle.cb_heap.proofs.SettingsLaws.{same_shapes, same_allows}
use Rattle.std.proofs.Common.{◌≡◌, ◌∙◌, ap, subst, ◌++◌, ◌∷◌, [], ◌+◌, length, List, Option, Some}
use Rattle.cb_plain.specs.State.{Object, Reference}
use Rattle.cb_heap.specs.Kept.{is_held, with_content}
use Rattle.cb_heap.specs.Reading.{serial_of}
use Rattle.cb_heap.specs.Shaped.{new_object}
use Rattle.cb_heap.specs.Store.{ReadsAsBefore, may_point}
use Rattle.cb_heap.specs.Text.{array_of}
use Rattle.cb_heap.proofs.KeptLaws.{held_further}
use Rattle.cb_heap.proofs.TextLaws.{allowed_so, string_blank, text_so}
use Rattle.cb_heap.proofs.text.place_text.Goals as goal

pub put_ref-requires-clause-allowed : goal.put_ref-requires-clause-allowed
put_ref-requires-clause-allowed g c =
    let objects : List (Option Object) = (g.S.Store.storage c.args.store.now).kept in
    let first : Object = array_of c.args.sites.characters c.args.sites.array c.args.units.now in
    let second : Object = new_object (g.S.Store.storage c.place_units-array.new.store).settings.shapes c.args.sites.site c.args.sites.kind 1 in
    let between = (g.S.Store.storage c.place_units-array.new.store).index in
    let after = (g.S.Store.storage c.place-at.new.self).index in
    let array = c.place_units-array.result in
    let at = c.place-at.result in
    let again : ReadsAsBefore (objects ++ Some first ∷ []) between after = subst (λ kept. ReadsAsBefore kept between after) c.place_units-array.ensures.kept c.place-at.ensures.places in
    let two : serial_of after at ≡ length (objects ++ Some first ∷ []) + 1 = c.place-at.ensures.serial ∙ ap (λ kept. length kept + 1) c.place_units-array.ensures.kept in
    let both : (g.S.Store.storage c.place-at.new.self).kept ≡ (objects ++ Some first ∷ []) ++ Some second ∷ [] = c.place-at.ensures.kept ∙ ap (λ kept. kept ++ Some second ∷ []) c.place_units-array.ensures.kept in
    let blank : second.contents ≡ Reference 0 ∷ [] =
    ap (λ shapes. (new_object shapes c.args.sites.site c.args.sites.kind 1).contents) (same_shapes c.place_units-array.ensures.settings)
    ∙ string_blank (g.S.Store.storage c.args.store.now).settings.shapes c.args.sites.site c.args.sites.kind c.requires.field in
    ap (λ kept. may_point (g.S.Store.storage c.place-at.new.self).settings.allows kept (serial_of after at) (serial_of after array)) both
    ∙ allowed_so objects first second between after array at again c.place_units-array.ensures.serial two blank (g.S.Store.storage c.place-at.new.self).settings.allows
    (ap (λ allows. allows c.args.sites.site c.args.sites.characters) ((same_allows c.place-at.ensures.settings) ∙ (same_allows c.place_units-array.ensures.settings)) ∙ c.requires.allowed)

pub returns-clause-kept : goal.returns-clause-kept
returns-clause-kept g c =
    let objects : List (Option Object) = (g.S.Store.storage c.args.store.now).kept in
    let first : Object = array_of c.args.sites.characters c.args.sites.array c.args.units.now in
    let second : Object = new_object (g.S.Store.storage c.place_units-array.new.store).settings.shapes c.args.sites.site c.args.sites.kind 1 in
    let between = (g.S.Store.storage c.place_units-array.new.store).index in
    let after = (g.S.Store.storage c.place-at.new.self).index in
    let array = c.place_units-array.result in
    let at = c.place-at.result in
    let again : ReadsAsBefore (objects ++ Some first ∷ []) between after = subst (λ kept. ReadsAsBefore kept between after) c.place_units-array.ensures.kept c.place-at.ensures.places in
    let two : serial_of after at ≡ length (objects ++ Some first ∷ []) + 1 = c.place-at.ensures.serial ∙ ap (λ kept. length kept + 1) c.place_units-array.ensures.kept in
    let both : (g.S.Store.storage c.place-at.new.self).kept ≡ (objects ++ Some first ∷ []) ++ Some second ∷ [] = c.place-at.ensures.kept ∙ ap (λ kept. kept ++ Some second ∷ []) c.place_units-array.ensures.kept in
    let blank : second.contents ≡ Reference 0 ∷ [] =
    ap (λ shapes. (new_object shapes c.args.sites.site c.args.sites.kind 1).contents) (same_shapes c.place_units-array.ensures.settings)
    ∙ string_blank (g.S.Store.storage c.args.store.now).settings.shapes c.args.sites.site c.args.sites.kind c.requires.field in
    c.put_ref.ensures.kept ∙ ap (λ kept. with_content kept (serial_of after at) 0 (Reference (serial_of after array))) both ∙ text_so objects first second between after array at again c.place_units-array.ensures.serial two blank

pub returns-clause-places : goal.returns-clause-places
returns-clause-places g c = λ place held.
    let objects : List (Option Object) = (g.S.Store.storage c.args.store.now).kept in
    let first : Object = array_of c.args.sites.characters c.args.sites.array c.args.units.now in
    let between = (g.S.Store.storage c.place_units-array.new.store).index in
    let after = (g.S.Store.storage c.place-at.new.self).index in
    let again : ReadsAsBefore (objects ++ Some first ∷ []) between after = subst (λ kept. ReadsAsBefore kept between after) c.place_units-array.ensures.kept c.place-at.ensures.places in
    let same : serial_of between place ≡ serial_of (g.S.Store.storage c.args.store.now).index place = c.place_units-array.ensures.places place held in
    ap (λ index. serial_of index place) c.put_ref.ensures.places
    ∙ again place (ap (is_held (objects ++ Some first ∷ [])) same ∙ held_further objects first (serial_of (g.S.Store.storage c.args.store.now).index place) held)
    ∙ same
