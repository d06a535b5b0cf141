use Rattle.cb_heap.proofs.Laws.{same_allows}
use Rattle.std.proofs.Common.{◌≡◌, ◌+◌, ◌∙◌, ◌++◌, ◌∷◌, [], ℕ, IsTrue, List, Option, Some, ap, arith, length, refl, slice_get, subst, sym}
use Rattle.std.proofs.lemmas.List.{length-append}
use Rattle.cb_heap.specs.Kept.{contents_at, is_held}
use Rattle.cb_heap.specs.Reading.{serial_of}
use Rattle.cb_machine.specs.Copying.{suppressed_slot}
use Rattle.cb_machine.specs.Machine.{kind_of_site, or_zero}
use Rattle.cb_machine.specs.Plans.{object_of}
use Rattle.cb_machine.specs.Sites.{suppressed}
use Rattle.cb_plain.specs.State.{Object, Reference}
use Rattle.cb_natives.specs.Following.{FollowsFrom}
use Rattle.cb_natives.specs.MakingArrays.{with_reference}
use Rattle.cb_natives.proofs.CopyAdded.{array_follows, array_held, array_may, slot_put, slot_there}
use Rattle.cb_natives.proofs.OwnChanging.{room_asked}
use Rattle.cb_natives.proofs.OwnLaws.{held_so, reference_kept, there_kept}
use Rattle.cb_natives.proofs.copy_placing.add.Goals as goal

pub site_kind-requires : goal.site_kind-requires
site_kind-requires g c =
    let sites = c.requires.shaped.sites in omega (arith, sites)

pub place_longer-array-requires-clause-granted : goal.place_longer-array-requires-clause-granted
place_longer-array-requires-clause-granted g c =
    room_asked (g.S.Store.storage c.args.store.now).granted suppressed (c.args.size + 1) c.requires.may.few c.requires.room.granted

pub place_longer-array-requires-clause-shape : goal.place_longer-array-requires-clause-shape
place_longer-array-requires-clause-shape g c =
    ap (slice_get (g.S.Store.storage c.args.store.now).settings.shapes) (sym (ap or_zero c.site_kind.ensures.kind)) ∙ c.requires.holds.suppressed

pub place_longer-array-requires-clause-serials : goal.place_longer-array-requires-clause-serials
place_longer-array-requires-clause-serials g c =
    let serials = c.requires.room.serials in omega (arith, serials)

pub place_longer-array-requires-clause-follows : goal.place_longer-array-requires-clause-follows
place_longer-array-requires-clause-follows g c =
    let allows = (g.S.Store.storage c.args.store.now).settings.allows in
    let objects = (g.S.Store.storage c.args.store.now).kept in
    let index = (g.S.Store.storage c.args.store.now).index in
    let serial = serial_of index c.args.at in
    let array : Object = object_of suppressed (kind_of_site c.args.program.now suppressed) (with_reference objects (serial_of index c.args.from) (serial_of index c.args.other)) in
    let behind : List (Option Object) = objects ++ Some array ∷ [] in
    let kind : kind_of_site c.args.program.now suppressed ≡ c.site_kind.result = ap or_zero c.site_kind.ensures.kind in
    subst (λ (kind : ℕ). FollowsFrom allows (objects ++ Some (object_of suppressed kind (with_reference objects (serial_of index c.args.from) (serial_of index c.args.other))) ∷ []) (length objects + 1)) kind
    (array_follows objects array serial suppressed_slot c.requires.may.refers behind refl serial refl (length objects + 1) refl allows c.requires.follows)

pub put_ref-requires-clause-there : goal.put_ref-requires-clause-there
put_ref-requires-clause-there g c =
    let objects = (g.S.Store.storage c.args.store.now).kept in
    let index = (g.S.Store.storage c.args.store.now).index in
    let serial = serial_of index c.args.at in
    let array : Object = object_of suppressed (kind_of_site c.args.program.now suppressed) (with_reference objects (serial_of index c.args.from) (serial_of index c.args.other)) in
    let now = (g.S.Store.storage c.place_longer-array.new.store).kept in
    let after = (g.S.Store.storage c.place_longer-array.new.store).index in
    let kind : kind_of_site c.args.program.now suppressed ≡ c.site_kind.result = ap or_zero c.site_kind.ensures.kind in
    let placed : now ≡ objects ++ Some array ∷ [] =
    c.place_longer-array.ensures.kept
    ∙ ap (λ (kind : ℕ). objects ++ Some (object_of suppressed kind (with_reference objects (serial_of index c.args.from) (serial_of index c.args.other))) ∷ []) (sym kind) in
    let found = reference_kept objects serial suppressed_slot c.requires.may.refers in
    let held : IsTrue (is_held objects serial) = held_so objects serial (there_kept objects serial found.0 found.1) in
    slot_there objects array serial suppressed_slot c.requires.may.refers now placed (serial_of after c.args.at) (c.place_longer-array.ensures.places c.args.at held) (serial_of after c.place_longer-array.result) c.place_longer-array.ensures.serial

pub put_ref-requires-clause-held : goal.put_ref-requires-clause-held
put_ref-requires-clause-held g c =
    let objects = (g.S.Store.storage c.args.store.now).kept in
    let index = (g.S.Store.storage c.args.store.now).index in
    let serial = serial_of index c.args.at in
    let array : Object = object_of suppressed (kind_of_site c.args.program.now suppressed) (with_reference objects (serial_of index c.args.from) (serial_of index c.args.other)) in
    let now = (g.S.Store.storage c.place_longer-array.new.store).kept in
    let after = (g.S.Store.storage c.place_longer-array.new.store).index in
    let kind : kind_of_site c.args.program.now suppressed ≡ c.site_kind.result = ap or_zero c.site_kind.ensures.kind in
    let placed : now ≡ objects ++ Some array ∷ [] =
    c.place_longer-array.ensures.kept
    ∙ ap (λ (kind : ℕ). objects ++ Some (object_of suppressed kind (with_reference objects (serial_of index c.args.from) (serial_of index c.args.other))) ∷ []) (sym kind) in
    let found = reference_kept objects serial suppressed_slot c.requires.may.refers in
    let held : IsTrue (is_held objects serial) = held_so objects serial (there_kept objects serial found.0 found.1) in
    array_held objects array serial suppressed_slot c.requires.may.refers now placed (serial_of after c.args.at) (c.place_longer-array.ensures.places c.args.at held) (serial_of after c.place_longer-array.result) c.place_longer-array.ensures.serial

pub put_ref-requires-clause-allowed : goal.put_ref-requires-clause-allowed
put_ref-requires-clause-allowed g c =
    let objects = (g.S.Store.storage c.args.store.now).kept in
    let index = (g.S.Store.storage c.args.store.now).index in
    let serial = serial_of index c.args.at in
    let array : Object = object_of suppressed (kind_of_site c.args.program.now suppressed) (with_reference objects (serial_of index c.args.from) (serial_of index c.args.other)) in
    let now = (g.S.Store.storage c.place_longer-array.new.store).kept in
    let after = (g.S.Store.storage c.place_longer-array.new.store).index in
    let kind : kind_of_site c.args.program.now suppressed ≡ c.site_kind.result = ap or_zero c.site_kind.ensures.kind in
    let placed : now ≡ objects ++ Some array ∷ [] =
    c.place_longer-array.ensures.kept
    ∙ ap (λ (kind : ℕ). objects ++ Some (object_of suppressed kind (with_reference objects (serial_of index c.args.from) (serial_of index c.args.other))) ∷ []) (sym kind) in
    let found = reference_kept objects serial suppressed_slot c.requires.may.refers in
    let held : IsTrue (is_held objects serial) = held_so objects serial (there_kept objects serial found.0 found.1) in
    array_may objects array serial suppressed_slot c.requires.may.refers now placed (serial_of after c.args.at) (c.place_longer-array.ensures.places c.args.at held) (serial_of after c.place_longer-array.result) c.place_longer-array.ensures.serial
    (g.S.Store.storage c.args.store.now).settings.allows (g.S.Store.storage c.place_longer-array.new.store).settings.allows (same_allows c.place_longer-array.ensures.settings) c.requires.follows

pub returns-clause-kept : goal.returns-clause-kept
returns-clause-kept g c =
    let objects = (g.S.Store.storage c.args.store.now).kept in
    let index = (g.S.Store.storage c.args.store.now).index in
    let serial = serial_of index c.args.at in
    let array : Object = object_of suppressed (kind_of_site c.args.program.now suppressed) (with_reference objects (serial_of index c.args.from) (serial_of index c.args.other)) in
    let now = (g.S.Store.storage c.place_longer-array.new.store).kept in
    let after = (g.S.Store.storage c.place_longer-array.new.store).index in
    let kind : kind_of_site c.args.program.now suppressed ≡ c.site_kind.result = ap or_zero c.site_kind.ensures.kind in
    let placed : now ≡ objects ++ Some array ∷ [] =
    c.place_longer-array.ensures.kept
    ∙ ap (λ (kind : ℕ). objects ++ Some (object_of suppressed kind (with_reference objects (serial_of index c.args.from) (serial_of index c.args.other))) ∷ []) (sym kind) in
    let found = reference_kept objects serial suppressed_slot c.requires.may.refers in
    let held : IsTrue (is_held objects serial) = held_so objects serial (there_kept objects serial found.0 found.1) in
    c.put_ref.ensures.kept ∙ slot_put objects array serial suppressed_slot c.requires.may.refers now placed (serial_of after c.args.at) (c.place_longer-array.ensures.places c.args.at held) (serial_of after c.place_longer-array.result) c.place_longer-array.ensures.serial

pub returns-clause-facts : goal.returns-clause-facts
returns-clause-facts g c =
    let objects = (g.S.Store.storage c.args.store.now).kept in
    let source = serial_of (g.S.Store.storage c.args.store.now).index c.args.from in
    let other = serial_of (g.S.Store.storage c.args.store.now).index c.args.other in
    let size : c.args.size + 1 ≡ length (with_reference objects source other) = omega (arith, length-append (contents_at objects source) (Reference other ∷ []), c.requires.may.whole) in
    c.put_ref.ensures.facts ∙ c.place_longer-array.ensures.facts ∙ ap (g.S.Store.rules.placed (g.S.Store.storage c.args.store.now).facts suppressed) size

pub returns-clause-places : goal.returns-clause-places
returns-clause-places g c =
    λ place held. ap (λ (index : ℕ → ℕ). serial_of index place) c.put_ref.ensures.places ∙ c.place_longer-array.ensures.places place held
