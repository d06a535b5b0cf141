use Rattle.cb_heap.proofs.Laws.{same_allows}
use Rattle.std.proofs.Common.{◌≡◌, ◌∙◌, ap, ◌+◌, List, ℕ}
use Rattle.cb_heap.specs.Reading.{serial_of}
use Rattle.cb_heap.specs.Text.{with_text}
use Rattle.cb_heap.specs.declared.text_sites.TextSites.{TextSites}
use Rattle.cb_machine.specs.Sites.{argument_strings, arguments}
use Rattle.cb_interp.specs.Arguments.{argument_sites}
use Rattle.cb_interp.proofs.TurnsStarting.{still}
use Rattle.cb_interp.proofs.TurnsStartingTexts.{array_held, array_site, is_allowed, is_held_so, is_there, refers_so}
use Rattle.cb_interp.proofs.arguments.place_argument.Goals as goal

pub place_text-at-requires-clause-allowed : goal.place_text-at-requires-clause-allowed
place_text-at-requires-clause-allowed g c =
    ap (λ (sites : TextSites). (g.S.Store.storage c.args.store.now).settings.allows sites.site sites.characters) c.argument_sites-sites.ensures ∙ c.requires.holds

pub put_ref-requires-clause-there : goal.put_ref-requires-clause-there
put_ref-requires-clause-there g c =
    let program = c.args.program.now in
    let objects = (g.S.Store.storage c.args.store.now).kept in
    let first = (g.S.Store.storage c.args.store.now).index in
    let second = (g.S.Store.storage c.place_text-at.new.store).index in
    let is : (g.S.Store.storage c.place_text-at.new.store).kept ≡ with_text (argument_sites program) c.args.text.now objects =
    c.place_text-at.ensures.kept ∙ ap (λ (sites : TextSites). with_text sites c.as_slice.result.now objects) c.argument_sites-sites.ensures
    ∙ ap (λ (units : List ℕ). with_text (argument_sites program) units objects) c.as_slice.ensures in
    let one : serial_of second c.args.array ≡ 1 =
    still objects first second c.place_text-at.ensures.places c.args.array 1 c.requires.array (array_held objects (c.args.turn + 1) c.requires.there) in
    is_there (argument_sites program) c.args.text.now objects c.args.turn c.requires.there (g.S.Store.storage c.place_text-at.new.store).kept
    (serial_of second c.args.array) (serial_of second c.place_text-at.result) is one c.place_text-at.ensures.serial

pub put_ref-requires-clause-held : goal.put_ref-requires-clause-held
put_ref-requires-clause-held g c =
    let program = c.args.program.now in
    let objects = (g.S.Store.storage c.args.store.now).kept in
    let first = (g.S.Store.storage c.args.store.now).index in
    let second = (g.S.Store.storage c.place_text-at.new.store).index in
    let is : (g.S.Store.storage c.place_text-at.new.store).kept ≡ with_text (argument_sites program) c.args.text.now objects =
    c.place_text-at.ensures.kept ∙ ap (λ (sites : TextSites). with_text sites c.as_slice.result.now objects) c.argument_sites-sites.ensures
    ∙ ap (λ (units : List ℕ). with_text (argument_sites program) units objects) c.as_slice.ensures in
    let one : serial_of second c.args.array ≡ 1 =
    still objects first second c.place_text-at.ensures.places c.args.array 1 c.requires.array (array_held objects (c.args.turn + 1) c.requires.there) in
    is_held_so (argument_sites program) c.args.text.now objects c.args.turn c.requires.there (g.S.Store.storage c.place_text-at.new.store).kept
    (serial_of second c.args.array) (serial_of second c.place_text-at.result) is one c.place_text-at.ensures.serial

pub put_ref-requires-clause-allowed : goal.put_ref-requires-clause-allowed
put_ref-requires-clause-allowed g c =
    let program = c.args.program.now in
    let objects = (g.S.Store.storage c.args.store.now).kept in
    let first = (g.S.Store.storage c.args.store.now).index in
    let second = (g.S.Store.storage c.place_text-at.new.store).index in
    let is : (g.S.Store.storage c.place_text-at.new.store).kept ≡ with_text (argument_sites program) c.args.text.now objects =
    c.place_text-at.ensures.kept ∙ ap (λ (sites : TextSites). with_text sites c.as_slice.result.now objects) c.argument_sites-sites.ensures
    ∙ ap (λ (units : List ℕ). with_text (argument_sites program) units objects) c.as_slice.ensures in
    let one : serial_of second c.args.array ≡ 1 =
    still objects first second c.place_text-at.ensures.places c.args.array 1 c.requires.array (array_held objects (c.args.turn + 1) c.requires.there) in
    is_allowed (argument_sites program) c.args.text.now objects c.args.turn c.requires.there (g.S.Store.storage c.place_text-at.new.store).kept
    (serial_of second c.args.array) (serial_of second c.place_text-at.result) is one c.place_text-at.ensures.serial (g.S.Store.storage c.place_text-at.new.store).settings.allows
    (ap (λ allows. allows c.requires.there.array.site argument_strings) (same_allows c.place_text-at.ensures.settings)
    ∙ ap (λ (site : ℕ). (g.S.Store.storage c.args.store.now).settings.allows site argument_strings)
    (array_site objects (c.args.turn + 1) arguments c.requires.there c.requires.sited) ∙ c.requires.refers)

pub returns-clause-kept : goal.returns-clause-kept
returns-clause-kept g c =
    let program = c.args.program.now in
    let objects = (g.S.Store.storage c.args.store.now).kept in
    let first = (g.S.Store.storage c.args.store.now).index in
    let second = (g.S.Store.storage c.place_text-at.new.store).index in
    let is : (g.S.Store.storage c.place_text-at.new.store).kept ≡ with_text (argument_sites program) c.args.text.now objects =
    c.place_text-at.ensures.kept ∙ ap (λ (sites : TextSites). with_text sites c.as_slice.result.now objects) c.argument_sites-sites.ensures
    ∙ ap (λ (units : List ℕ). with_text (argument_sites program) units objects) c.as_slice.ensures in
    let one : serial_of second c.args.array ≡ 1 =
    still objects first second c.place_text-at.ensures.places c.args.array 1 c.requires.array (array_held objects (c.args.turn + 1) c.requires.there) in
    c.put_ref.ensures.kept ∙ refers_so (argument_sites program) c.args.text.now objects c.args.turn c.requires.there (g.S.Store.storage c.place_text-at.new.store).kept
    (serial_of second c.args.array) (serial_of second c.place_text-at.result) is one c.place_text-at.ensures.serial

pub returns-clause-array : goal.returns-clause-array
returns-clause-array g c =
    let program = c.args.program.now in
    let objects = (g.S.Store.storage c.args.store.now).kept in
    let first = (g.S.Store.storage c.args.store.now).index in
    let second = (g.S.Store.storage c.place_text-at.new.store).index in
    let is : (g.S.Store.storage c.place_text-at.new.store).kept ≡ with_text (argument_sites program) c.args.text.now objects =
    c.place_text-at.ensures.kept ∙ ap (λ (sites : TextSites). with_text sites c.as_slice.result.now objects) c.argument_sites-sites.ensures
    ∙ ap (λ (units : List ℕ). with_text (argument_sites program) units objects) c.as_slice.ensures in
    let one : serial_of second c.args.array ≡ 1 =
    still objects first second c.place_text-at.ensures.places c.args.array 1 c.requires.array (array_held objects (c.args.turn + 1) c.requires.there) in
    ap (λ index. serial_of index c.args.array) c.put_ref.ensures.places ∙ one

pub returns-clause-places : goal.returns-clause-places
returns-clause-places g c = λ place held. ap (λ index. serial_of index place) c.put_ref.ensures.places ∙ c.place_text-at.ensures.places place held
