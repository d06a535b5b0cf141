use Rattle.std.proofs.Common.{◌≡◌, ◌∙◌, ◌++◌, ◌∷◌, [], ℕ, Some, ap, slice_get, subst, sym, false}
use Rattle.cb_heap.specs.Reading.{serial_of}
use Rattle.cb_machine.specs.Machine.{kind_of_site, or_zero}
use Rattle.cb_machine.specs.Plans.{object_of}
use Rattle.cb_plain.specs.State.{Object}
use Rattle.cb_plain.specs.declared.shape.Shape.TheVariants.{Elements}
use Rattle.cb_natives.specs.MakingOwn.{roomy}
use Rattle.cb_natives.specs.Pieces.{text_units}
use Rattle.cb_natives.proofs.OwnPlacing.{array_apart, array_few, array_numbers, array_room, array_there, array_written, blank_array, blank_so, sized_so, text_there}
use Rattle.cb_natives.proofs.own_placing.place_chars.Goals as goal

pub place-at-requires-clause-shaped : goal.place-at-requires-clause-shaped
place-at-requires-clause-shaped g c =
    let kind : kind_of_site c.args.program.now c.args.site ≡ c.site_kind.result = ap or_zero c.site_kind.ensures.kind in
    sized_so (g.S.Store.storage c.args.store.now).settings.shapes c.site_kind.result c.args.room
    (subst (λ (kind : ℕ). slice_get (g.S.Store.storage c.args.store.now).settings.shapes kind ≡ Some (Elements false)) kind c.requires.shape)

pub write_text-requires-clause-there : goal.write_text-requires-clause-there
write_text-requires-clause-there g c =
    let objects = (g.S.Store.storage c.args.store.now).kept in
    let index = (g.S.Store.storage c.args.store.now).index in
    let kind : kind_of_site c.args.program.now c.args.site ≡ c.site_kind.result = ap or_zero c.site_kind.ensures.kind in
    let shape : slice_get (g.S.Store.storage c.args.store.now).settings.shapes c.site_kind.result ≡ Some (Elements false) =
    subst (λ (kind : ℕ). slice_get (g.S.Store.storage c.args.store.now).settings.shapes kind ≡ Some (Elements false)) kind c.requires.shape in
    let placed : (g.S.Store.storage c.place-at.new.self).kept ≡ objects ++ Some (blank_array c.args.site c.site_kind.result c.args.room) ∷ [] =
    c.place-at.ensures.kept ∙ ap (λ (object : Object). objects ++ Some object ∷ []) (blank_so (g.S.Store.storage c.args.store.now).settings.shapes c.args.site c.site_kind.result c.args.room shape) in
    let after = (g.S.Store.storage c.place-at.new.self).index in
    let serial = serial_of after c.place-at.result in
    array_there c.args.program.now objects index after c.place-at.ensures.places c.args.text.now c.requires.text c.args.site c.site_kind.result c.args.room c.requires.fits c.requires.few
    (g.S.Store.storage c.place-at.new.self).kept placed serial c.place-at.ensures.serial

pub write_text-requires-clause-numbers : goal.write_text-requires-clause-numbers
write_text-requires-clause-numbers g c =
    let objects = (g.S.Store.storage c.args.store.now).kept in
    let index = (g.S.Store.storage c.args.store.now).index in
    let kind : kind_of_site c.args.program.now c.args.site ≡ c.site_kind.result = ap or_zero c.site_kind.ensures.kind in
    let shape : slice_get (g.S.Store.storage c.args.store.now).settings.shapes c.site_kind.result ≡ Some (Elements false) =
    subst (λ (kind : ℕ). slice_get (g.S.Store.storage c.args.store.now).settings.shapes kind ≡ Some (Elements false)) kind c.requires.shape in
    let placed : (g.S.Store.storage c.place-at.new.self).kept ≡ objects ++ Some (blank_array c.args.site c.site_kind.result c.args.room) ∷ [] =
    c.place-at.ensures.kept ∙ ap (λ (object : Object). objects ++ Some object ∷ []) (blank_so (g.S.Store.storage c.args.store.now).settings.shapes c.args.site c.site_kind.result c.args.room shape) in
    let after = (g.S.Store.storage c.place-at.new.self).index in
    let serial = serial_of after c.place-at.result in
    array_numbers c.args.program.now objects index after c.place-at.ensures.places c.args.text.now c.requires.text c.args.site c.site_kind.result c.args.room c.requires.fits c.requires.few
    (g.S.Store.storage c.place-at.new.self).kept placed serial c.place-at.ensures.serial

pub write_text-requires-clause-text : goal.write_text-requires-clause-text
write_text-requires-clause-text g c =
    let objects = (g.S.Store.storage c.args.store.now).kept in
    let index = (g.S.Store.storage c.args.store.now).index in
    let kind : kind_of_site c.args.program.now c.args.site ≡ c.site_kind.result = ap or_zero c.site_kind.ensures.kind in
    let shape : slice_get (g.S.Store.storage c.args.store.now).settings.shapes c.site_kind.result ≡ Some (Elements false) =
    subst (λ (kind : ℕ). slice_get (g.S.Store.storage c.args.store.now).settings.shapes kind ≡ Some (Elements false)) kind c.requires.shape in
    let placed : (g.S.Store.storage c.place-at.new.self).kept ≡ objects ++ Some (blank_array c.args.site c.site_kind.result c.args.room) ∷ [] =
    c.place-at.ensures.kept ∙ ap (λ (object : Object). objects ++ Some object ∷ []) (blank_so (g.S.Store.storage c.args.store.now).settings.shapes c.args.site c.site_kind.result c.args.room shape) in
    let after = (g.S.Store.storage c.place-at.new.self).index in
    let serial = serial_of after c.place-at.result in
    text_there c.args.program.now objects index after c.place-at.ensures.places c.args.text.now c.requires.text c.args.site c.site_kind.result c.args.room c.requires.fits c.requires.few
    (g.S.Store.storage c.place-at.new.self).kept placed serial c.place-at.ensures.serial

pub write_text-requires-clause-apart : goal.write_text-requires-clause-apart
write_text-requires-clause-apart g c =
    let objects = (g.S.Store.storage c.args.store.now).kept in
    let index = (g.S.Store.storage c.args.store.now).index in
    let kind : kind_of_site c.args.program.now c.args.site ≡ c.site_kind.result = ap or_zero c.site_kind.ensures.kind in
    let shape : slice_get (g.S.Store.storage c.args.store.now).settings.shapes c.site_kind.result ≡ Some (Elements false) =
    subst (λ (kind : ℕ). slice_get (g.S.Store.storage c.args.store.now).settings.shapes kind ≡ Some (Elements false)) kind c.requires.shape in
    let placed : (g.S.Store.storage c.place-at.new.self).kept ≡ objects ++ Some (blank_array c.args.site c.site_kind.result c.args.room) ∷ [] =
    c.place-at.ensures.kept ∙ ap (λ (object : Object). objects ++ Some object ∷ []) (blank_so (g.S.Store.storage c.args.store.now).settings.shapes c.args.site c.site_kind.result c.args.room shape) in
    let after = (g.S.Store.storage c.place-at.new.self).index in
    let serial = serial_of after c.place-at.result in
    array_apart c.args.program.now objects index after c.place-at.ensures.places c.args.text.now c.requires.text c.args.site c.site_kind.result c.args.room c.requires.fits c.requires.few
    (g.S.Store.storage c.place-at.new.self).kept placed serial c.place-at.ensures.serial

pub write_text-requires-clause-room : goal.write_text-requires-clause-room
write_text-requires-clause-room g c =
    let objects = (g.S.Store.storage c.args.store.now).kept in
    let index = (g.S.Store.storage c.args.store.now).index in
    let kind : kind_of_site c.args.program.now c.args.site ≡ c.site_kind.result = ap or_zero c.site_kind.ensures.kind in
    let shape : slice_get (g.S.Store.storage c.args.store.now).settings.shapes c.site_kind.result ≡ Some (Elements false) =
    subst (λ (kind : ℕ). slice_get (g.S.Store.storage c.args.store.now).settings.shapes kind ≡ Some (Elements false)) kind c.requires.shape in
    let placed : (g.S.Store.storage c.place-at.new.self).kept ≡ objects ++ Some (blank_array c.args.site c.site_kind.result c.args.room) ∷ [] =
    c.place-at.ensures.kept ∙ ap (λ (object : Object). objects ++ Some object ∷ []) (blank_so (g.S.Store.storage c.args.store.now).settings.shapes c.args.site c.site_kind.result c.args.room shape) in
    let after = (g.S.Store.storage c.place-at.new.self).index in
    let serial = serial_of after c.place-at.result in
    array_room c.args.program.now objects index after c.place-at.ensures.places c.args.text.now c.requires.text c.args.site c.site_kind.result c.args.room c.requires.fits c.requires.few
    (g.S.Store.storage c.place-at.new.self).kept placed serial c.place-at.ensures.serial

pub write_text-requires-clause-few : goal.write_text-requires-clause-few
write_text-requires-clause-few g c =
    let objects = (g.S.Store.storage c.args.store.now).kept in
    let index = (g.S.Store.storage c.args.store.now).index in
    let kind : kind_of_site c.args.program.now c.args.site ≡ c.site_kind.result = ap or_zero c.site_kind.ensures.kind in
    let shape : slice_get (g.S.Store.storage c.args.store.now).settings.shapes c.site_kind.result ≡ Some (Elements false) =
    subst (λ (kind : ℕ). slice_get (g.S.Store.storage c.args.store.now).settings.shapes kind ≡ Some (Elements false)) kind c.requires.shape in
    let placed : (g.S.Store.storage c.place-at.new.self).kept ≡ objects ++ Some (blank_array c.args.site c.site_kind.result c.args.room) ∷ [] =
    c.place-at.ensures.kept ∙ ap (λ (object : Object). objects ++ Some object ∷ []) (blank_so (g.S.Store.storage c.args.store.now).settings.shapes c.args.site c.site_kind.result c.args.room shape) in
    let after = (g.S.Store.storage c.place-at.new.self).index in
    let serial = serial_of after c.place-at.result in
    array_few c.args.program.now objects index after c.place-at.ensures.places c.args.text.now c.requires.text c.args.site c.site_kind.result c.args.room c.requires.fits c.requires.few
    (g.S.Store.storage c.place-at.new.self).kept placed serial c.place-at.ensures.serial

pub returns-clause-kept : goal.returns-clause-kept
returns-clause-kept g c =
    let objects = (g.S.Store.storage c.args.store.now).kept in
    let index = (g.S.Store.storage c.args.store.now).index in
    let kind : kind_of_site c.args.program.now c.args.site ≡ c.site_kind.result = ap or_zero c.site_kind.ensures.kind in
    let shape : slice_get (g.S.Store.storage c.args.store.now).settings.shapes c.site_kind.result ≡ Some (Elements false) =
    subst (λ (kind : ℕ). slice_get (g.S.Store.storage c.args.store.now).settings.shapes kind ≡ Some (Elements false)) kind c.requires.shape in
    let placed : (g.S.Store.storage c.place-at.new.self).kept ≡ objects ++ Some (blank_array c.args.site c.site_kind.result c.args.room) ∷ [] =
    c.place-at.ensures.kept ∙ ap (λ (object : Object). objects ++ Some object ∷ []) (blank_so (g.S.Store.storage c.args.store.now).settings.shapes c.args.site c.site_kind.result c.args.room shape) in
    let after = (g.S.Store.storage c.place-at.new.self).index in
    let serial = serial_of after c.place-at.result in
    c.write_text.ensures.kept
    ∙ array_written c.args.program.now objects index after c.place-at.ensures.places c.args.text.now c.requires.text c.args.site c.site_kind.result c.args.room c.requires.fits c.requires.few
    (g.S.Store.storage c.place-at.new.self).kept placed serial c.place-at.ensures.serial
    ∙ ap (λ (kind : ℕ). objects ++ Some (object_of c.args.site kind (roomy (text_units c.args.program.now objects index c.args.text.now) c.args.room)) ∷ []) (sym kind)

pub returns-clause-serial : goal.returns-clause-serial
returns-clause-serial g c = ap (λ (index : ℕ → ℕ). serial_of index c.place-at.result) c.write_text.ensures.places ∙ c.place-at.ensures.serial

pub returns-clause-places : goal.returns-clause-places
returns-clause-places g c = λ place held. ap (λ (index : ℕ → ℕ). serial_of index place) c.write_text.ensures.places ∙ c.place-at.ensures.places place held
