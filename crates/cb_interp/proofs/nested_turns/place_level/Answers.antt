use Rattle.cb_heap.proofs.Laws.{same_shapes, same_allows}
use Rattle.std.proofs.Common.{◌≡◌, ◌≤◌, ◌<◌, ◌∙◌, add-one, ap, arith, refl, subst, sym, true, ◌+◌, ◌*◌, length, List, replicate, ℕ, suc, Option, IsTrue, Some}
use Rattle.std.specs.Prelude.{IfSome, option_map}
use Rattle.cb_heap.specs.Kept.{is_held}
use Rattle.cb_heap.specs.Reading.{serial_of}
use Rattle.cb_link.specs.Having.{site_kinds}
use Rattle.cb_plain.specs.Requests.{words_at}
use Rattle.cb_plain.specs.State.{Object, Reference, words_of}
use Rattle.cb_plain.specs.Updates.{object_in}
use Rattle.cb_plain.specs.declared.shape.Shape.{Shape}
use Rattle.cb_plain.specs.declared.want.Want.{Want}
use Rattle.cb_interp.specs.Nested.{ArrayFits, Grid, LeadsDown, count_of, first_of, grid_on, knows_rows, new_array, size_of, spent_rows, with_rows}
use Rattle.cb_interp.proofs.FollowNested.{rows_some}
use Rattle.cb_interp.proofs.TurnsNested.{knows_more, reads_on}
use Rattle.cb_interp.proofs.TurnsNestedLevels.{head_held, level_at_turn, level_begins, level_ends, turn_blank, turn_leads, turn_next, turn_there}
use Rattle.cb_interp.proofs.TurnsNestedRoom.{rows_room, spent_more}
use Rattle.cb_interp.proofs.TurnsStarting.{still}
use Rattle.cb_interp.proofs.nested_turns.place_level.Goals as goal

pub level_site-site-requires-clause-makes : goal.level_site-site-requires-clause-makes
level_site-site-requires-clause-makes g c =
    let low = c.requires.1.0 in
    let grid = c.requires.1.1.1.0 in
    let all = grid.makes.all in
    record { method = grid.makes.method; pc = grid.makes.pc; top = grid.makes.top; all = omega (arith, low, all) }

pub level_site-site-requires-clause-tells : goal.level_site-site-requires-clause-tells
level_site-site-requires-clause-tells g c = c.requires.1.1.1.0.tells

pub level_size-size-requires-clause-low : goal.level_size-size-requires-clause-low
level_size-size-requires-clause-low g c = let low = c.requires.1.0 in omega (arith, low)

pub level_size-size-requires-clause-many : goal.level_size-size-requires-clause-many
level_size-size-requires-clause-many g c = let many = c.requires.1.1.1.0.many in omega (arith, many)

pub level_size-size-requires-clause-sized : goal.level_size-size-requires-clause-sized
level_size-size-requires-clause-sized g c = c.requires.1.1.1.0.sized

pub level_size-words-requires-clause-low : goal.level_size-words-requires-clause-low
level_size-words-requires-clause-low g c = let low = c.requires.1.0 in omega (arith, low)

pub level_size-words-requires-clause-many : goal.level_size-words-requires-clause-many
level_size-words-requires-clause-many g c = let many = c.requires.1.1.1.0.many in omega (arith, many)

pub level_size-words-requires-clause-sized : goal.level_size-words-requires-clause-sized
level_size-words-requires-clause-sized g c = c.requires.1.1.1.0.sized

pub loop-turn-init : goal.loop-turn-init
loop-turn-init g c =
    let grid : Grid = grid_on c.args.program.now c.args.roots.now.roots (c.args.last + 1) in
    let none : 0 ≡ 0 * c.level_size-words.result = omega arith in
    record {
      kept = c.requires.1.1.1.1.1.1.1.0 ∙ level_begins c.args.program.now grid g.before c.args.dimension;
      array = c.requires.1.1.1.1.1.1.0;
      held = λ serial held. held;
      places = λ place held. refl;
      facts = ap (knows_rows g.S.Store.rules (g.S.Store.storage c.args.store.now).facts c.level_site-site.result c.level_size-size.result) none;
      granted = ap (spent_rows (g.S.Store.storage c.args.store.now).granted c.level_site-site.result (words_of c.level_size-size.result)) none;
      serials = c.requires.1.1.1.1.1.1.1.1.1.0;
      faults = refl;
      settings = refl;
    }

pub array_at-above-requires-clause-low : goal.array_at-above-requires-clause-low
array_at-above-requires-clause-low g c = let low = c.requires.1.0 in omega (arith, low)

pub array_at-above-requires-clause-many : goal.array_at-above-requires-clause-many
array_at-above-requires-clause-many g c = let many = c.requires.1.1.1.0.many in omega (arith, many)

pub array_at-above-requires-clause-sized : goal.array_at-above-requires-clause-sized
array_at-above-requires-clause-sized g c = c.requires.1.1.1.0.sized

pub array_at-above-requires-clause-turn : goal.array_at-above-requires-clause-turn
array_at-above-requires-clause-turn g c = subst (λ (count : ℕ). c.loop-turn.turn < count) c.requires.1.1.1.1.1.0 c.loop-turn-test.true

pub array_at-above-requires-clause-leads : goal.array_at-above-requires-clause-leads
array_at-above-requires-clause-leads g c =
    let grid : Grid = grid_on c.args.program.now c.args.roots.now.roots (c.args.last + 1) in
    subst (λ (first : ℕ). LeadsDown (g.S.Store.storage c.loop-turn.store).kept grid.sizes first c.args.dimension) (sym c.loop-turn.invariant.array)
    (subst (λ (objects : List (Option Object)). LeadsDown objects grid.sizes (length g.before + 1) c.args.dimension) (sym c.loop-turn.invariant.kept)
    (turn_leads c.args.program.now grid g.before c.args.dimension c.loop-turn.turn))

pub fill_array-requires-clause-site : goal.fill_array-requires-clause-site
fill_array-requires-clause-site g c =
    let low = c.requires.1.0 in
    subst (λ (site : ℕ). site < length (site_kinds c.args.program.now)) (sym c.level_site-site.ensures) (c.requires.1.1.1.1.0.there (c.args.dimension + 1) (omega (arith, low)))

pub fill_array-requires-clause-fits : goal.fill_array-requires-clause-fits
fill_array-requires-clause-fits g c =
    let low = c.requires.1.0 in
    let grid : Grid = grid_on c.args.program.now c.args.roots.now.roots (c.args.last + 1) in
    subst (λ (shapes : List Shape). ArrayFits c.args.program.now shapes c.level_site-site.result c.level_size-size.result) (sym (same_shapes c.loop-turn.invariant.settings))
    (subst (λ (site : ℕ). ArrayFits c.args.program.now (g.S.Store.storage c.args.store.now).settings.shapes site c.level_size-size.result) (sym c.level_site-site.ensures)
    (subst (λ (size : ℕ). ArrayFits c.args.program.now (g.S.Store.storage c.args.store.now).settings.shapes (grid.site (c.args.dimension + 1)) size) (sym c.level_size-size.ensures)
    (c.requires.1.1.1.1.0.arrays (c.args.dimension + 1) (omega (arith, low)))))

pub fill_array-requires-clause-granted : goal.fill_array-requires-clause-granted
fill_array-requires-clause-granted g c =
    let grid : Grid = grid_on c.args.program.now c.args.roots.now.roots (c.args.last + 1) in
    let count : c.args.count * c.level_size-words.result ≡ count_of grid.sizes (c.args.dimension + 1) =
    ap (λ (count : ℕ). count * c.level_size-words.result) c.requires.1.1.1.1.1.0
    ∙ ap (λ (size : ℕ). count_of grid.sizes c.args.dimension * size) c.level_size-words.ensures
    ∙ ap (count_of grid.sizes) (sym (add-one c.args.dimension)) in
    let enough : c.args.count * c.level_size-words.result * words_of c.level_size-size.result ≤ words_at (g.S.Store.storage c.args.store.now).granted c.level_site-site.result =
    subst (λ (site : ℕ). c.args.count * c.level_size-words.result * words_of c.level_size-size.result ≤ words_at (g.S.Store.storage c.args.store.now).granted site) (sym c.level_site-site.ensures)
    (subst (λ (size : ℕ). c.args.count * c.level_size-words.result * words_of size ≤ words_at (g.S.Store.storage c.args.store.now).granted (grid.site (c.args.dimension + 1))) (sym c.level_size-size.ensures)
    (subst (λ (count : ℕ). count * words_of (size_of grid.sizes (c.args.dimension + 1)) ≤ words_at (g.S.Store.storage c.args.store.now).granted (grid.site (c.args.dimension + 1))) (sym count)
    c.requires.1.1.1.1.1.1.1.1.0)) in
    subst (λ (granted : List Want). c.level_size-words.result * words_of c.level_size-size.result ≤ words_at granted c.level_site-site.result) (sym c.loop-turn.invariant.granted)
    (rows_room (g.S.Store.storage c.args.store.now).granted c.level_site-site.result (words_of c.level_size-size.result) c.args.count c.level_size-words.result c.loop-turn.turn c.loop-turn-test.true enough)

pub fill_array-requires-clause-serials : goal.fill_array-requires-clause-serials
fill_array-requires-clause-serials g c = c.loop-turn.invariant.serials

pub fill_array-requires-clause-blank : goal.fill_array-requires-clause-blank
fill_array-requires-clause-blank g c =
    let grid : Grid = grid_on c.args.program.now c.args.roots.now.roots (c.args.last + 1) in
    let low = c.requires.1.0 in
    let turn : c.loop-turn.turn < count_of grid.sizes c.args.dimension = subst (λ (count : ℕ). c.loop-turn.turn < count) c.requires.1.1.1.1.1.0 c.loop-turn-test.true in
    let at : serial_of (g.S.Store.storage c.loop-turn.store).index c.array_at-above.result ≡ first_of grid.sizes (length g.before + 1) c.args.dimension + c.loop-turn.turn =
    c.array_at-above.ensures ∙ ap (λ (first : ℕ). first_of grid.sizes first c.args.dimension + c.loop-turn.turn) c.loop-turn.invariant.array in
    ap (λ (serial : ℕ). option_map (λ object. object.contents) (object_in (g.S.Store.storage c.loop-turn.store).kept serial)) at
    ∙ ap (λ (objects : List (Option Object)). option_map (λ object. object.contents) (object_in objects (first_of grid.sizes (length g.before + 1) c.args.dimension + c.loop-turn.turn))) c.loop-turn.invariant.kept
    ∙ turn_blank c.args.program.now grid g.before c.args.dimension c.loop-turn.turn turn (c.requires.1.1.1.1.0.nulls c.args.dimension (omega (arith, low)))
    ∙ ap (λ (size : ℕ). Some (replicate size (Reference 0))) (sym c.level_size-words.ensures)

pub fill_array-requires-clause-allowed : goal.fill_array-requires-clause-allowed
fill_array-requires-clause-allowed g c = λ some.
    let grid : Grid = grid_on c.args.program.now c.args.roots.now.roots (c.args.last + 1) in
    let now = (g.S.Store.storage c.loop-turn.store).settings.allows in
    let turn : c.loop-turn.turn < count_of grid.sizes c.args.dimension = subst (λ (count : ℕ). c.loop-turn.turn < count) c.requires.1.1.1.1.1.0 c.loop-turn-test.true in
    let at : serial_of (g.S.Store.storage c.loop-turn.store).index c.array_at-above.result ≡ first_of grid.sizes (length g.before + 1) c.args.dimension + c.loop-turn.turn =
    c.array_at-above.ensures ∙ ap (λ (first : ℕ). first_of grid.sizes first c.args.dimension + c.loop-turn.turn) c.loop-turn.invariant.array in
    let there : object_in (g.S.Store.storage c.loop-turn.store).kept (serial_of (g.S.Store.storage c.loop-turn.store).index c.array_at-above.result)
    ≡ Some (new_array c.args.program.now (grid.site c.args.dimension) (size_of grid.sizes c.args.dimension)) =
    ap (λ (serial : ℕ). object_in (g.S.Store.storage c.loop-turn.store).kept serial) at
    ∙ ap (λ (objects : List (Option Object)). object_in objects (first_of grid.sizes (length g.before + 1) c.args.dimension + c.loop-turn.turn)) c.loop-turn.invariant.kept
    ∙ turn_there c.args.program.now grid g.before c.args.dimension c.loop-turn.turn turn in
    let words : 0 < size_of grid.sizes c.args.dimension = subst (λ (size : ℕ). 0 < size) c.level_size-words.ensures some in
    let rows : 0 < count_of grid.sizes (c.args.dimension + 1) =
    subst (λ (next : ℕ). 0 < count_of grid.sizes next) (sym (add-one c.args.dimension)) (rows_some (count_of grid.sizes c.args.dimension) (size_of grid.sizes c.args.dimension) (omega (arith, turn)) words) in
    let allowed : now (grid.site c.args.dimension) c.level_site-site.result ≡ true =
    ap (λ allows. allows (grid.site c.args.dimension) c.level_site-site.result) (same_allows c.loop-turn.invariant.settings)
    ∙ ap ((g.S.Store.storage c.args.store.now).settings.allows (grid.site c.args.dimension)) c.level_site-site.ensures ∙ c.requires.1.1.1.1.1.1.1.1.1.1 rows in
    subst (λ (found : Option Object). IfSome found (λ object. now object.site c.level_site-site.result ≡ true)) (sym there) allowed

pub loop-turn-preserved : goal.loop-turn-preserved
loop-turn-preserved g c =
    let program = c.args.program.now in
    let grid : Grid = grid_on c.args.program.now c.args.roots.now.roots (c.args.last + 1) in
    let dimension : ℕ = c.args.dimension in
    let turn : ℕ = c.loop-turn.turn in
    let words : ℕ = c.level_size-words.result in
    let site : ℕ = c.level_site-site.result in
    let size : ℕ = c.level_size-size.result in
    let was = c.loop-turn.invariant in
    let did = c.fill_array.ensures in
    let low : turn < count_of grid.sizes dimension = subst (λ (count : ℕ). turn < count) c.requires.1.1.1.1.1.0 c.loop-turn-test.true in
    let at : serial_of (g.S.Store.storage c.loop-turn.store).index c.array_at-above.result ≡ first_of grid.sizes (length g.before + 1) dimension + turn =
    c.array_at-above.ensures ∙ ap (λ (first : ℕ). first_of grid.sizes first dimension + turn) was.array in
    let more : turn * words + words ≡ (turn + 1) * words = omega arith in
    let places =
    reads_on (g.S.Store.storage c.args.store.now).kept (g.S.Store.storage c.loop-turn.store).kept (g.S.Store.storage c.args.store.now).index (g.S.Store.storage c.loop-turn.store).index (g.S.Store.storage c.fill_array.new.store).index
    was.held was.places did.places in
    record {
      kept = did.kept
          ∙ ap (λ (serial : ℕ). with_rows program (g.S.Store.storage c.loop-turn.store).kept serial words site size) at
          ∙ ap (λ (objects : List (Option Object)). with_rows program objects (first_of grid.sizes (length g.before + 1) dimension + turn) words site size) was.kept
          ∙ ap (λ (words : ℕ). with_rows program (level_at_turn program grid g.before dimension turn) (first_of grid.sizes (length g.before + 1) dimension + turn) words site size) c.level_size-words.ensures
          ∙ ap (λ (site : ℕ). with_rows program (level_at_turn program grid g.before dimension turn) (first_of grid.sizes (length g.before + 1) dimension + turn) (size_of grid.sizes dimension) site size) c.level_site-site.ensures
          ∙ ap (λ (size : ℕ). with_rows program (level_at_turn program grid g.before dimension turn) (first_of grid.sizes (length g.before + 1) dimension + turn) (size_of grid.sizes dimension) (grid.site (dimension + 1)) size) c.level_size-size.ensures
          ∙ turn_next program grid g.before dimension turn low;
      array = still (g.S.Store.storage c.args.store.now).kept (g.S.Store.storage c.args.store.now).index (g.S.Store.storage c.fill_array.new.store).index places c.args.array (length g.before + 1) c.requires.1.1.1.1.1.1.0
          (subst (λ (objects : List (Option Object)). IsTrue (is_held objects (length g.before + 1))) (sym c.requires.1.1.1.1.1.1.1.0) (head_held program grid g.before dimension));
      held = λ own held. did.held own (was.held own held);
      places = places;
      facts = did.facts ∙ ap (λ facts. knows_rows g.S.Store.rules facts site size words) was.facts
          ∙ knows_more g.S.Store.rules (g.S.Store.storage c.args.store.now).facts site size (turn * words) words
          ∙ ap (knows_rows g.S.Store.rules (g.S.Store.storage c.args.store.now).facts site size) more;
      granted = did.granted ∙ ap (λ (granted : List Want). spent_rows granted site (words_of size) words) was.granted
          ∙ spent_more (g.S.Store.storage c.args.store.now).granted site (words_of size) (turn * words) words
          ∙ ap (spent_rows (g.S.Store.storage c.args.store.now).granted site (words_of size)) more;
      serials = did.serials;
      faults = did.faults ∙ was.faults;
      settings = did.settings ∙ was.settings;
    }

pub returns-clause-kept : goal.returns-clause-kept
returns-clause-kept g c =
    let grid : Grid = grid_on c.args.program.now c.args.roots.now.roots (c.args.last + 1) in
    let end : c.loop-turn.turn ≡ c.args.count = omega arith in
    c.loop-turn.invariant.kept ∙ ap (level_at_turn c.args.program.now grid g.before c.args.dimension) (end ∙ c.requires.1.1.1.1.1.0)
    ∙ level_ends c.args.program.now grid g.before c.args.dimension

pub returns-clause-array : goal.returns-clause-array
returns-clause-array g c = c.loop-turn.invariant.array ∙ sym c.requires.1.1.1.1.1.1.0

pub returns-clause-facts : goal.returns-clause-facts
returns-clause-facts g c =
    let grid : Grid = grid_on c.args.program.now c.args.roots.now.roots (c.args.last + 1) in
    let end : c.loop-turn.turn ≡ c.args.count = omega arith in
    let facts = (g.S.Store.storage c.args.store.now).facts in
    c.loop-turn.invariant.facts
    ∙ ap (λ (turn : ℕ). knows_rows g.S.Store.rules facts c.level_site-site.result c.level_size-size.result (turn * c.level_size-words.result)) (end ∙ c.requires.1.1.1.1.1.0)
    ∙ ap (λ (words : ℕ). knows_rows g.S.Store.rules facts c.level_site-site.result c.level_size-size.result (count_of grid.sizes c.args.dimension * words)) c.level_size-words.ensures
    ∙ ap (λ (site : ℕ). knows_rows g.S.Store.rules facts site c.level_size-size.result (count_of grid.sizes (suc c.args.dimension))) c.level_site-site.ensures
    ∙ ap (λ (size : ℕ). knows_rows g.S.Store.rules facts (grid.site (c.args.dimension + 1)) size (count_of grid.sizes (suc c.args.dimension))) c.level_size-size.ensures
    ∙ ap (λ (next : ℕ). knows_rows g.S.Store.rules facts (grid.site (c.args.dimension + 1)) (size_of grid.sizes (c.args.dimension + 1)) (count_of grid.sizes next)) (sym (add-one c.args.dimension))

pub returns-clause-granted : goal.returns-clause-granted
returns-clause-granted g c =
    let grid : Grid = grid_on c.args.program.now c.args.roots.now.roots (c.args.last + 1) in
    let end : c.loop-turn.turn ≡ c.args.count = omega arith in
    let granted = (g.S.Store.storage c.args.store.now).granted in
    c.loop-turn.invariant.granted
    ∙ ap (λ (turn : ℕ). spent_rows granted c.level_site-site.result (words_of c.level_size-size.result) (turn * c.level_size-words.result)) (end ∙ c.requires.1.1.1.1.1.0)
    ∙ ap (λ (words : ℕ). spent_rows granted c.level_site-site.result (words_of c.level_size-size.result) (count_of grid.sizes c.args.dimension * words)) c.level_size-words.ensures
    ∙ ap (λ (site : ℕ). spent_rows granted site (words_of c.level_size-size.result) (count_of grid.sizes (suc c.args.dimension))) c.level_site-site.ensures
    ∙ ap (λ (size : ℕ). spent_rows granted (grid.site (c.args.dimension + 1)) (words_of size) (count_of grid.sizes (suc c.args.dimension))) c.level_size-size.ensures
    ∙ ap (λ (next : ℕ). spent_rows granted (grid.site (c.args.dimension + 1)) (words_of (size_of grid.sizes (c.args.dimension + 1))) (count_of grid.sizes next)) (sym (add-one c.args.dimension))
