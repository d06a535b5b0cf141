use Rattle.cb_heap.proofs.Laws.{same_allows}
use Rattle.std.proofs.Common.{◌≡◌, ◌∙◌, ap, refl, subst, sym, true, Bool, ℕ}
use Rattle.std.specs.Prelude.{IfSome}
use Rattle.cb_heap.specs.Reading.{serial_of}
use Rattle.cb_plain.specs.Updates.{object_in}
use Rattle.cb_interp.specs.Nested.{new_array}
use Rattle.cb_interp.proofs.TurnsNested.{new_allowed, new_held, refers_so, word_held, word_there}
use Rattle.cb_interp.proofs.TurnsStarting.{still}
use Rattle.cb_interp.proofs.nested_turns.place_row.Goals as goal

pub put_ref-requires-clause-there : goal.put_ref-requires-clause-there
put_ref-requires-clause-there g c =
    let objects = (g.S.Store.storage c.args.store.now).kept in
    let first = (g.S.Store.storage c.args.store.now).index in
    let second = (g.S.Store.storage c.place_array-at.new.store).index in
    let one = still objects first second c.place_array-at.ensures.places c.args.array (serial_of first c.args.array) refl (word_held objects (serial_of first c.args.array) c.args.turn c.requires.there) in
    word_there objects (serial_of first c.args.array) c.args.turn (new_array c.args.program.now c.args.site c.args.size) c.requires.there
    (g.S.Store.storage c.place_array-at.new.store).kept (serial_of second c.args.array) (serial_of second c.place_array-at.result) c.place_array-at.ensures.kept one c.place_array-at.ensures.serial

pub put_ref-requires-clause-held : goal.put_ref-requires-clause-held
put_ref-requires-clause-held g c =
    let objects = (g.S.Store.storage c.args.store.now).kept in
    let first = (g.S.Store.storage c.args.store.now).index in
    let second = (g.S.Store.storage c.place_array-at.new.store).index in
    let one = still objects first second c.place_array-at.ensures.places c.args.array (serial_of first c.args.array) refl (word_held objects (serial_of first c.args.array) c.args.turn c.requires.there) in
    new_held objects (serial_of first c.args.array) c.args.turn (new_array c.args.program.now c.args.site c.args.size) c.requires.there
    (g.S.Store.storage c.place_array-at.new.store).kept (serial_of second c.args.array) (serial_of second c.place_array-at.result) c.place_array-at.ensures.kept one c.place_array-at.ensures.serial

pub put_ref-requires-clause-allowed : goal.put_ref-requires-clause-allowed
put_ref-requires-clause-allowed g c =
    let objects = (g.S.Store.storage c.args.store.now).kept in
    let first = (g.S.Store.storage c.args.store.now).index in
    let second = (g.S.Store.storage c.place_array-at.new.store).index in
    let one = still objects first second c.place_array-at.ensures.places c.args.array (serial_of first c.args.array) refl (word_held objects (serial_of first c.args.array) c.args.turn c.requires.there) in
    new_allowed objects (serial_of first c.args.array) c.args.turn (new_array c.args.program.now c.args.site c.args.size) c.requires.there
    (g.S.Store.storage c.place_array-at.new.store).kept (serial_of second c.args.array) (serial_of second c.place_array-at.result) c.place_array-at.ensures.kept one c.place_array-at.ensures.serial
    (g.S.Store.storage c.place_array-at.new.store).settings.allows
    (subst (λ (allows : ℕ → ℕ → Bool). IfSome (object_in objects (serial_of first c.args.array)) (λ object. allows object.site c.args.site ≡ true)) (sym (same_allows c.place_array-at.ensures.settings)) c.requires.allowed)

pub returns-clause-kept : goal.returns-clause-kept
returns-clause-kept g c =
    let objects = (g.S.Store.storage c.args.store.now).kept in
    let first = (g.S.Store.storage c.args.store.now).index in
    let second = (g.S.Store.storage c.place_array-at.new.store).index in
    let one = still objects first second c.place_array-at.ensures.places c.args.array (serial_of first c.args.array) refl (word_held objects (serial_of first c.args.array) c.args.turn c.requires.there) in
    c.put_ref.ensures.kept
    ∙ refers_so objects (serial_of first c.args.array) c.args.turn (new_array c.args.program.now c.args.site c.args.size) c.requires.there
    (g.S.Store.storage c.place_array-at.new.store).kept (serial_of second c.args.array) (serial_of second c.place_array-at.result) c.place_array-at.ensures.kept one c.place_array-at.ensures.serial

pub returns-clause-array : goal.returns-clause-array
returns-clause-array g c =
    let objects = (g.S.Store.storage c.args.store.now).kept in
    let first = (g.S.Store.storage c.args.store.now).index in
    let second = (g.S.Store.storage c.place_array-at.new.store).index in
    ap (λ index. serial_of index c.args.array) c.put_ref.ensures.places
    ∙ still objects first second c.place_array-at.ensures.places c.args.array (serial_of first c.args.array) refl (word_held objects (serial_of first c.args.array) c.args.turn c.requires.there)

pub returns-clause-places : goal.returns-clause-places
returns-clause-places g c = λ place held. ap (λ index. serial_of index place) c.put_ref.ensures.places ∙ c.place_array-at.ensures.places place held
