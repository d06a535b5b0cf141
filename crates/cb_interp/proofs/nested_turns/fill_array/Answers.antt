use Rattle.cb_heap.proofs.Laws.{same_shapes, same_allows}
use Rattle.std.proofs.Common.{◌≡◌, ◌≤◌, ◌∙◌, ap, arith, refl, subst, sym, true, ◌+◌, ◌/◌, ◌^◌, ◌<◌, length, Bool, List, ℕ, Option, IsTrue}
use Rattle.std.specs.Prelude.{IfSome}
use Rattle.cb_heap.specs.Grants.{words_granted}
use Rattle.cb_heap.specs.Kept.{content_at, is_held, is_reference}
use Rattle.cb_heap.specs.Reading.{serial_of}
use Rattle.cb_plain.specs.Requests.{spent, words_at}
use Rattle.cb_plain.specs.State.{Object, words_of}
use Rattle.cb_plain.specs.Updates.{object_in}
use Rattle.cb_plain.specs.declared.shape.Shape.{Shape}
use Rattle.cb_plain.specs.declared.want.Want.{Want}
use Rattle.cb_interp.specs.Nested.{ArrayFits, knows_rows, spent_rows, with_row}
use Rattle.cb_interp.proofs.TurnsNested.{filled_so, filling_allowed, filling_first, filling_last, filling_next, filling_there, knows_next, reads_on, row_held, row_length}
use Rattle.cb_interp.proofs.TurnsNestedRoom.{row_room, serials_next, spent_next}
use Rattle.cb_interp.proofs.nested_turns.fill_array.Goals as goal

pub loop-word-init : goal.loop-word-init
loop-word-init g c = record {
  kept = filling_first c.args.program.now (g.S.Store.storage c.args.store.now).kept (serial_of (g.S.Store.storage c.args.store.now).index c.args.array) c.args.count c.args.site c.args.size c.requires.blank;
  array = refl;
  held = λ serial held. held;
  places = λ place held. refl;
  facts = refl;
  granted = refl;
  serials = c.requires.serials;
  faults = refl;
  settings = refl;
}

pub place_row-requires-clause-site : goal.place_row-requires-clause-site
place_row-requires-clause-site g c = c.requires.site

pub place_row-requires-clause-fits : goal.place_row-requires-clause-fits
place_row-requires-clause-fits g c =
    subst (λ (shapes : List Shape). ArrayFits c.args.program.now shapes c.args.site c.args.size) (sym (same_shapes c.loop-word.invariant.settings)) c.requires.fits

pub place_row-requires-clause-granted : goal.place_row-requires-clause-granted
place_row-requires-clause-granted g c =
    subst (λ (granted : List Want). words_of c.args.size ≤ words_at granted c.args.site) (sym c.loop-word.invariant.granted)
    (row_room (g.S.Store.storage c.args.store.now).granted c.args.site (words_of c.args.size) c.args.count c.loop-word.word c.loop-word-test.true c.requires.granted)

pub place_row-requires-clause-serials : goal.place_row-requires-clause-serials
place_row-requires-clause-serials g c = let few = c.loop-word.invariant.serials in omega (arith, few)

pub place_row-requires-clause-there : goal.place_row-requires-clause-there
place_row-requires-clause-there g c =
    let objects = (g.S.Store.storage c.loop-word.store).kept in
    ap (λ (serial : ℕ). is_reference (content_at objects serial c.loop-word.word)) c.loop-word.invariant.array
    ∙ ap (λ (objects : List (Option Object)). is_reference (content_at objects (serial_of (g.S.Store.storage c.args.store.now).index c.args.array) c.loop-word.word)) c.loop-word.invariant.kept
    ∙ filling_there c.args.program.now (g.S.Store.storage c.args.store.now).kept (serial_of (g.S.Store.storage c.args.store.now).index c.args.array) c.args.count c.args.site c.args.size c.requires.blank
    c.loop-word.word c.loop-word-test.true

pub place_row-requires-clause-allowed : goal.place_row-requires-clause-allowed
place_row-requires-clause-allowed g c =
    let start = (g.S.Store.storage c.args.store.now).kept in
    let objects = (g.S.Store.storage c.loop-word.store).kept in
    let serial = serial_of (g.S.Store.storage c.args.store.now).index c.args.array in
    let now = (g.S.Store.storage c.loop-word.store).settings.allows in
    let allows = (g.S.Store.storage c.args.store.now).settings.allows in
    let test = c.loop-word-test.true in
    let is : object_in objects (serial_of (g.S.Store.storage c.loop-word.store).index c.args.array)
    ≡ object_in (filled_so c.args.program.now start serial c.args.count c.loop-word.word c.args.site c.args.size) serial =
    ap (object_in objects) c.loop-word.invariant.array ∙ ap (λ (objects : List (Option Object)). object_in objects serial) c.loop-word.invariant.kept in
    subst (λ (found : Option Object). IfSome found (λ object. now object.site c.args.site ≡ true)) (sym is)
    (subst (λ (allows : ℕ → ℕ → Bool). IfSome (object_in (filled_so c.args.program.now start serial c.args.count c.loop-word.word c.args.site c.args.size) serial)
    (λ object. allows object.site c.args.site ≡ true)) (sym (same_allows c.loop-word.invariant.settings))
    (filling_allowed c.args.program.now start serial c.args.count c.args.site c.args.size c.requires.blank allows c.loop-word.word (c.requires.allowed (omega (arith, test)))))

pub loop-word-preserved : goal.loop-word-preserved
loop-word-preserved g c =
    let program = c.args.program.now in
    let before = (g.S.Store.storage c.args.store.now).kept in
    let objects = (g.S.Store.storage c.loop-word.store).kept in
    let serial = serial_of (g.S.Store.storage c.args.store.now).index c.args.array in
    let word = c.loop-word.word in
    let was = c.loop-word.invariant in
    let did = c.place_row.ensures in
    let room : words_of c.args.size ≤ words_at (g.S.Store.storage c.loop-word.store).granted c.args.site =
    subst (λ (granted : List Want). words_of c.args.size ≤ words_at granted c.args.site) (sym was.granted)
    (row_room (g.S.Store.storage c.args.store.now).granted c.args.site (words_of c.args.size) c.args.count word c.loop-word-test.true c.requires.granted) in
    record {
      kept = did.kept ∙ ap (λ (serial : ℕ). with_row program objects serial word c.args.site c.args.size) was.array
          ∙ ap (λ (objects : List (Option Object)). with_row program objects serial word c.args.site c.args.size) was.kept
          ∙ filling_next program before serial c.args.count c.args.site c.args.size c.requires.blank word c.loop-word-test.true;
      array = did.array ∙ was.array;
      held = λ own held.
          subst (λ (objects : List (Option Object)). IsTrue (is_held objects own)) (sym did.kept)
          (row_held program objects (serial_of (g.S.Store.storage c.loop-word.store).index c.args.array) word c.args.site c.args.size own (was.held own held));
      places = reads_on before objects (g.S.Store.storage c.args.store.now).index (g.S.Store.storage c.loop-word.store).index (g.S.Store.storage c.place_row.new.store).index was.held was.places did.places;
      facts = did.facts ∙ ap (λ facts. g.S.Store.rules.placed facts c.args.site c.args.size) was.facts
          ∙ knows_next g.S.Store.rules (g.S.Store.storage c.args.store.now).facts c.args.site c.args.size word;
      granted = did.granted ∙ ap (λ (granted : List Want). spent granted c.args.site (words_of c.args.size)) was.granted
          ∙ spent_next (g.S.Store.storage c.args.store.now).granted c.args.site (words_of c.args.size) word;
      serials =
          let longer = ap (λ (objects : List (Option Object)). length objects) did.kept ∙ row_length program objects (serial_of (g.S.Store.storage c.loop-word.store).index c.args.array) word c.args.site c.args.size in
          subst (λ (granted : List Want). length (g.S.Store.storage c.place_row.new.store).kept + 1 + words_granted granted / 3 < 2 ^ 63) (sym did.granted)
          (serials_next (length objects) (length (g.S.Store.storage c.place_row.new.store).kept) (g.S.Store.storage c.loop-word.store).granted c.args.site c.args.size longer room was.serials);
      faults = did.faults ∙ was.faults;
      settings = did.settings ∙ was.settings;
    }

pub returns-clause-kept : goal.returns-clause-kept
returns-clause-kept g c =
    let before = (g.S.Store.storage c.args.store.now).kept in
    let serial = serial_of (g.S.Store.storage c.args.store.now).index c.args.array in
    let end : c.loop-word.word ≡ c.args.count = omega arith in
    c.loop-word.invariant.kept ∙ ap (λ (word : ℕ). filled_so c.args.program.now before serial c.args.count word c.args.site c.args.size) end
    ∙ filling_last c.args.program.now before serial c.args.count c.args.site c.args.size c.requires.blank

pub returns-clause-facts : goal.returns-clause-facts
returns-clause-facts g c =
    let end : c.loop-word.word ≡ c.args.count = omega arith in
    c.loop-word.invariant.facts ∙ ap (knows_rows g.S.Store.rules (g.S.Store.storage c.args.store.now).facts c.args.site c.args.size) end

pub returns-clause-granted : goal.returns-clause-granted
returns-clause-granted g c =
    let end : c.loop-word.word ≡ c.args.count = omega arith in
    c.loop-word.invariant.granted ∙ ap (spent_rows (g.S.Store.storage c.args.store.now).granted c.args.site (words_of c.args.size)) end
