use Rattle.cb_heap.proofs.Laws.{same_shapes, same_allows}
use Rattle.std.proofs.Common.{◌≡◌, ◌∙◌, ap, ◌∷◌, [], List, Option}
use Rattle.cb_heap.specs.Shaped.{new_object}
use Rattle.cb_machine.specs.Sites.{made_characters, made_strings}
use Rattle.cb_plain.specs.State.{Object, Reference}
use Rattle.cb_natives.specs.MakingTexts.{new_array}
use Rattle.cb_natives.specs.Pieces.{text_units}
use Rattle.cb_natives.proofs.Placed.{allowed_so, reads_so, serial_so, string_blank, string_so}
use Rattle.cb_natives.proofs.placing_texts.place_text.Goals as goal

pub put_ref-requires-clause-allowed : goal.put_ref-requires-clause-allowed
put_ref-requires-clause-allowed g c =
    let objects : List (Option Object) = (g.S.Store.storage c.args.store.now).kept in
    let index = (g.S.Store.storage c.args.store.now).index in
    let first : Object = new_array c.args.array (text_units c.args.program.now objects index c.args.text.now) in
    let second : Object = new_object (g.S.Store.storage c.place_array-characters.new.store).settings.shapes made_strings c.args.string 1 in
    let blank : second.contents ≡ Reference 0 ∷ [] =
    ap (λ shapes. (new_object shapes made_strings c.args.string 1).contents) (same_shapes c.place_array-characters.ensures.settings)
    ∙ string_blank (g.S.Store.storage c.args.store.now).settings.shapes made_strings c.args.string c.requires.may.field in
    allowed_so objects (g.S.Store.storage c.place_array-characters.new.store).kept (g.S.Store.storage c.place-at.new.self).kept first second index (g.S.Store.storage c.place_array-characters.new.store).index (g.S.Store.storage c.place-at.new.self).index c.place_array-characters.result c.place-at.result
    c.place_array-characters.ensures.kept c.place_array-characters.ensures.serial c.place_array-characters.ensures.places c.place-at.ensures.kept c.place-at.ensures.serial c.place-at.ensures.places blank (g.S.Store.storage c.place-at.new.self).settings.allows
    (ap (λ allows. allows made_strings made_characters) ((same_allows c.place-at.ensures.settings) ∙ (same_allows c.place_array-characters.ensures.settings)) ∙ c.requires.may.allowed)

pub returns-clause-kept : goal.returns-clause-kept
returns-clause-kept g c =
    let objects : List (Option Object) = (g.S.Store.storage c.args.store.now).kept in
    let index = (g.S.Store.storage c.args.store.now).index in
    let first : Object = new_array c.args.array (text_units c.args.program.now objects index c.args.text.now) in
    let second : Object = new_object (g.S.Store.storage c.place_array-characters.new.store).settings.shapes made_strings c.args.string 1 in
    let blank : second.contents ≡ Reference 0 ∷ [] =
    ap (λ shapes. (new_object shapes made_strings c.args.string 1).contents) (same_shapes c.place_array-characters.ensures.settings)
    ∙ string_blank (g.S.Store.storage c.args.store.now).settings.shapes made_strings c.args.string c.requires.may.field in
    string_so objects (g.S.Store.storage c.place_array-characters.new.store).kept (g.S.Store.storage c.place-at.new.self).kept first second index (g.S.Store.storage c.place_array-characters.new.store).index (g.S.Store.storage c.place-at.new.self).index c.place_array-characters.result c.place-at.result
    c.place_array-characters.ensures.kept c.place_array-characters.ensures.serial c.place_array-characters.ensures.places c.place-at.ensures.kept c.place-at.ensures.serial c.place-at.ensures.places blank (g.S.Store.storage c.put_ref.new.self).kept c.put_ref.ensures.kept

pub returns-clause-serial : goal.returns-clause-serial
returns-clause-serial g c =
    let objects : List (Option Object) = (g.S.Store.storage c.args.store.now).kept in
    let index = (g.S.Store.storage c.args.store.now).index in
    let first : Object = new_array c.args.array (text_units c.args.program.now objects index c.args.text.now) in
    let second : Object = new_object (g.S.Store.storage c.place_array-characters.new.store).settings.shapes made_strings c.args.string 1 in
    let blank : second.contents ≡ Reference 0 ∷ [] =
    ap (λ shapes. (new_object shapes made_strings c.args.string 1).contents) (same_shapes c.place_array-characters.ensures.settings)
    ∙ string_blank (g.S.Store.storage c.args.store.now).settings.shapes made_strings c.args.string c.requires.may.field in
    serial_so objects (g.S.Store.storage c.place_array-characters.new.store).kept (g.S.Store.storage c.place-at.new.self).kept first second index (g.S.Store.storage c.place_array-characters.new.store).index (g.S.Store.storage c.place-at.new.self).index c.place_array-characters.result c.place-at.result
    c.place_array-characters.ensures.kept c.place_array-characters.ensures.serial c.place_array-characters.ensures.places c.place-at.ensures.kept c.place-at.ensures.serial c.place-at.ensures.places blank (g.S.Store.storage c.put_ref.new.self).index c.put_ref.ensures.places

pub returns-clause-places : goal.returns-clause-places
returns-clause-places g c =
    let objects : List (Option Object) = (g.S.Store.storage c.args.store.now).kept in
    let index = (g.S.Store.storage c.args.store.now).index in
    let first : Object = new_array c.args.array (text_units c.args.program.now objects index c.args.text.now) in
    let second : Object = new_object (g.S.Store.storage c.place_array-characters.new.store).settings.shapes made_strings c.args.string 1 in
    let blank : second.contents ≡ Reference 0 ∷ [] =
    ap (λ shapes. (new_object shapes made_strings c.args.string 1).contents) (same_shapes c.place_array-characters.ensures.settings)
    ∙ string_blank (g.S.Store.storage c.args.store.now).settings.shapes made_strings c.args.string c.requires.may.field in
    reads_so objects (g.S.Store.storage c.place_array-characters.new.store).kept (g.S.Store.storage c.place-at.new.self).kept first second index (g.S.Store.storage c.place_array-characters.new.store).index (g.S.Store.storage c.place-at.new.self).index c.place_array-characters.result c.place-at.result
    c.place_array-characters.ensures.kept c.place_array-characters.ensures.serial c.place_array-characters.ensures.places c.place-at.ensures.kept c.place-at.ensures.serial c.place-at.ensures.places blank (g.S.Store.storage c.put_ref.new.self).index c.put_ref.ensures.places
