use Rattle.cb_heap.proofs.Laws.{same_shapes, same_allows}
use Rattle.std.proofs.Common.{◌≡◌, ◌≤◌, ◌<◌, ◌∙◌, add-one, ap, arith, refl, subst, sym, ◌+◌, ◌-◌, ◌*◌, ◌/◌, ◌^◌, ◌++◌, ◌∷◌, [], length, List, min, ℕ, Option, IsTrue, Some}
use Rattle.std.specs.Prelude.{take}
use Rattle.std.proofs.lemmas.List.{length-append}
use Rattle.cb_heap.specs.Grants.{words_granted}
use Rattle.cb_heap.specs.Kept.{is_held}
use Rattle.cb_heap.specs.Reading.{serial_of}
use Rattle.cb_link.specs.Having.{site_kinds}
use Rattle.cb_plain.specs.Requests.{spent, words_at}
use Rattle.cb_plain.specs.State.{Object, words_of}
use Rattle.cb_plain.specs.declared.shape.Shape.{Shape}
use Rattle.cb_plain.specs.declared.want.Want.{Want}
use Rattle.cb_interp.specs.Nested.{ArrayFits, Grid, GridFits, count_of, grid_on, knows_nested, knows_rows, nested_objects, new_array, size_of}
use Rattle.cb_interp.proofs.FollowNested.{nested_pair}
use Rattle.cb_interp.proofs.TurnsNested.{front_taken, held_before, reads_on}
use Rattle.cb_interp.proofs.TurnsNestedRoom.{RoomLeft, count_few, room_first, room_here, room_next, serials_next}
use Rattle.cb_interp.proofs.nested_turns.place_nested.Goals as goal

pub level_size-first-requires-clause-low : goal.level_size-first-requires-clause-low
level_size-first-requires-clause-low g c = omega arith

pub level_size-first-requires-clause-many : goal.level_size-first-requires-clause-many
level_size-first-requires-clause-many g c = let many = c.requires.grid.many in omega (arith, many)

pub level_size-first-requires-clause-sized : goal.level_size-first-requires-clause-sized
level_size-first-requires-clause-sized g c = c.requires.grid.sized

pub level_site-requires-clause-makes : goal.level_site-requires-clause-makes
level_site-requires-clause-makes g c =
    let all = c.requires.grid.makes.all in
    record { method = c.requires.grid.makes.method; pc = c.requires.grid.makes.pc; top = c.requires.grid.makes.top; all = omega (arith, all) }

pub level_site-requires-clause-tells : goal.level_site-requires-clause-tells
level_site-requires-clause-tells g c = c.requires.grid.tells

pub place_array-array-requires-clause-site : goal.place_array-array-requires-clause-site
place_array-array-requires-clause-site g c =
    subst (λ (site : ℕ). site < length (site_kinds c.args.program.now)) (sym c.level_site.ensures) (c.requires.fits.there 0 (omega arith))

pub place_array-array-requires-clause-fits : goal.place_array-array-requires-clause-fits
place_array-array-requires-clause-fits g c =
    let grid : Grid = grid_on c.args.program.now c.args.roots.now.roots (c.args.last + 1) in
    subst (λ (site : ℕ). ArrayFits c.args.program.now (g.S.Store.storage c.args.store.now).settings.shapes site c.level_size-first.result) (sym c.level_site.ensures)
    (subst (λ (size : ℕ). ArrayFits c.args.program.now (g.S.Store.storage c.args.store.now).settings.shapes (grid.site 0) size) (sym c.level_size-first.ensures)
    (c.requires.fits.arrays 0 (omega arith)))

pub place_array-array-requires-clause-granted : goal.place_array-array-requires-clause-granted
place_array-array-requires-clause-granted g c =
    let grid : Grid = grid_on c.args.program.now c.args.roots.now.roots (c.args.last + 1) in
    let room : 1 * words_of (size_of grid.sizes 0) ≤ words_at (g.S.Store.storage c.args.store.now).granted (grid.site 0) =
    room_here (g.S.Store.storage c.args.store.now).granted grid (c.args.last + 1) 0 (omega arith) (room_first (g.S.Store.storage c.args.store.now).granted grid (c.args.last + 1) c.requires.granted) in
    let one : words_of (size_of grid.sizes 0) ≤ words_at (g.S.Store.storage c.args.store.now).granted (grid.site 0) = omega (arith, room) in
    subst (λ (site : ℕ). words_of c.level_size-first.result ≤ words_at (g.S.Store.storage c.args.store.now).granted site) (sym c.level_site.ensures)
    (subst (λ (size : ℕ). words_of size ≤ words_at (g.S.Store.storage c.args.store.now).granted (grid.site 0)) (sym c.level_size-first.ensures) one)

pub place_array-array-requires-clause-serials : goal.place_array-array-requires-clause-serials
place_array-array-requires-clause-serials g c = let few = c.requires.serials in omega (arith, few)

pub loop-dimension-init : goal.loop-dimension-init
loop-dimension-init g c =
    let program = c.args.program.now in
    let grid : Grid = grid_on c.args.program.now c.args.roots.now.roots (c.args.last + 1) in
    let before = (g.S.Store.storage c.args.store.now).kept in
    let granted = (g.S.Store.storage c.args.store.now).granted in
    let did = c.place_array-array.ensures in
    let room : 1 * words_of (size_of grid.sizes 0) ≤ words_at granted (grid.site 0) =
    room_here granted grid (c.args.last + 1) 0 (omega arith) (room_first granted grid (c.args.last + 1) c.requires.granted) in
    let one : words_of (size_of grid.sizes 0) ≤ words_at granted (grid.site 0) = omega (arith, room) in
    let left : (g.S.Store.storage c.place_array-array.new.store).granted ≡ spent granted (grid.site 0) (words_of (size_of grid.sizes 0)) =
    did.granted ∙ ap (λ (site : ℕ). spent granted site (words_of c.level_size-first.result)) c.level_site.ensures
    ∙ ap (λ (size : ℕ). spent granted (grid.site 0) (words_of size)) c.level_size-first.ensures in
    let longer : length (g.S.Store.storage c.place_array-array.new.store).kept ≡ length before + 1 =
    ap (λ (objects : List (Option Object)). length objects) did.kept ∙ length-append before (Some (new_array program c.level_site.result c.level_size-first.result) ∷ []) in
    record {
      kept = did.kept ∙ ap (λ (site : ℕ). before ++ Some (new_array program site c.level_size-first.result) ∷ []) c.level_site.ensures
          ∙ ap (λ (size : ℕ). before ++ Some (new_array program (grid.site 0) size) ∷ []) c.level_size-first.ensures;
      array = did.serial;
      places = did.places;
      facts = did.facts ∙ ap (λ (site : ℕ). g.S.Store.rules.placed (g.S.Store.storage c.args.store.now).facts site c.level_size-first.result) c.level_site.ensures
          ∙ ap (λ (size : ℕ). g.S.Store.rules.placed (g.S.Store.storage c.args.store.now).facts (grid.site 0) size) c.level_size-first.ensures;
      room = subst (λ (granted : List Want). RoomLeft granted grid (c.args.last + 1) 1) (sym left)
          (room_next granted grid (c.args.last + 1) 0 (room_first granted grid (c.args.last + 1) c.requires.granted));
      serials = subst (λ (granted : List Want). length (g.S.Store.storage c.place_array-array.new.store).kept + 1 + words_granted granted / 3 < 2 ^ 63) (sym left)
          (serials_next (length before) (length (g.S.Store.storage c.place_array-array.new.store).kept) granted (grid.site 0) (size_of grid.sizes 0) longer one c.requires.serials);
      counted = refl;
      faults = did.faults;
      settings = did.settings;
    }

pub place_level-requires : goal.place_level-requires
place_level-requires g c = λ κs lives.
    let program = c.args.program.now in
    let grid : Grid = grid_on c.args.program.now c.args.roots.now.roots (c.args.last + 1) in
    let before = (g.S.Store.storage c.args.store.now).kept in
    let dimension : ℕ = c.loop-dimension.dimension in
    let low = c.loop-dimension-test.true in
    let was = c.loop-dimension.invariant in
    let ghost : take (serial_of (g.S.Store.storage c.loop-dimension.store).index c.place_array-array.result - 1) (g.S.Store.storage c.loop-dimension.store).kept ≡ before =
    front_taken before (nested_objects program grid (length before + 1) dimension) (g.S.Store.storage c.loop-dimension.store).kept (serial_of (g.S.Store.storage c.loop-dimension.store).index c.place_array-array.result) was.kept was.array in (
      lives,
      (
        low,
        (
          c.requires.few,
          (
            c.requires.grid,
            (
              subst (λ (shapes : List Shape). GridFits program shapes grid (c.args.last + 1)) (sym (same_shapes was.settings)) c.requires.fits,
              (
                was.counted,
                (
                  was.array ∙ ap (λ (objects : List (Option Object)). length objects + 1) (sym ghost),
                  (
                    subst (λ (objects : List (Option Object)). (g.S.Store.storage c.loop-dimension.store).kept ≡ objects ++ nested_objects program grid (length objects + 1) dimension) (sym ghost) was.kept,
                    (
                      room_here (g.S.Store.storage c.loop-dimension.store).granted grid (c.args.last + 1) (dimension + 1) (omega (arith, low)) was.room,
                      (
                        was.serials,
                        λ some. ap (λ allows. allows (grid.site dimension) (grid.site (dimension + 1))) (same_allows was.settings)
                            ∙ nested_pair (g.S.Store.storage c.args.store.now).settings.allows program grid before c.args.last dimension low some c.requires.follows,
                      ),
                    ),
                  ),
                ),
              ),
            ),
          ),
        ),
      ),
    )

pub level_size-requires-clause-low : goal.level_size-requires-clause-low
level_size-requires-clause-low g c = let low = c.loop-dimension-test.true in omega (arith, low)

pub level_size-requires-clause-many : goal.level_size-requires-clause-many
level_size-requires-clause-many g c = let many = c.requires.grid.many in omega (arith, many)

pub level_size-requires-clause-sized : goal.level_size-requires-clause-sized
level_size-requires-clause-sized g c = c.requires.grid.sized

pub loop-dimension-preserved : goal.loop-dimension-preserved
loop-dimension-preserved g c =
    let program = c.args.program.now in
    let grid : Grid = grid_on c.args.program.now c.args.roots.now.roots (c.args.last + 1) in
    let before = (g.S.Store.storage c.args.store.now).kept in
    let dimension : ℕ = c.loop-dimension.dimension in
    let low = c.loop-dimension-test.true in
    let was = c.loop-dimension.invariant in
    let did = c.place_level.ensures in
    let ghost : take (serial_of (g.S.Store.storage c.loop-dimension.store).index c.place_array-array.result - 1) (g.S.Store.storage c.loop-dimension.store).kept ≡ before =
    front_taken before (nested_objects program grid (length before + 1) dimension) (g.S.Store.storage c.loop-dimension.store).kept (serial_of (g.S.Store.storage c.loop-dimension.store).index c.place_array-array.result) was.kept was.array in
    let room = room_here (g.S.Store.storage c.loop-dimension.store).granted grid (c.args.last + 1) (dimension + 1) (omega (arith, low)) was.room in
    record {
      kept = did.kept ∙ ap (λ (objects : List (Option Object)). objects ++ nested_objects program grid (length objects + 1) (dimension + 1)) ghost;
      array = did.array ∙ was.array;
      places = reads_on before (g.S.Store.storage c.loop-dimension.store).kept (g.S.Store.storage c.args.store.now).index (g.S.Store.storage c.loop-dimension.store).index (g.S.Store.storage c.place_level.new.store).index
          (λ serial held. subst (λ (objects : List (Option Object)). IsTrue (is_held objects serial)) (sym was.kept) (held_before before _ serial held))
          was.places did.places;
      facts = did.facts
          ∙ ap (λ facts. knows_rows g.S.Store.rules facts (grid.site (dimension + 1)) (size_of grid.sizes (dimension + 1)) (count_of grid.sizes (dimension + 1))) was.facts
          ∙ ap (λ (next : ℕ). knows_nested g.S.Store.rules (g.S.Store.storage c.args.store.now).facts grid next) (sym (add-one (dimension + 1)));
      room = subst (λ (granted : List Want). RoomLeft granted grid (c.args.last + 1) (dimension + 1 + 1)) (sym did.granted)
          (room_next (g.S.Store.storage c.loop-dimension.store).granted grid (c.args.last + 1) (dimension + 1) was.room);
      serials = did.serials;
      counted = c.times-count.ensures
          ∙ ap (λ (size : ℕ). min (c.loop-dimension.count * size) (2 ^ 64 - 1)) c.level_size.ensures
          ∙ ap (λ (count : ℕ). min (count * size_of grid.sizes dimension) (2 ^ 64 - 1)) was.counted
          ∙ ap (λ (next : ℕ). min (count_of grid.sizes next) (2 ^ 64 - 1)) (sym (add-one dimension))
          ∙ count_few (length (g.S.Store.storage c.loop-dimension.store).kept) (g.S.Store.storage c.loop-dimension.store).granted (grid.site (dimension + 1)) (size_of grid.sizes (dimension + 1))
          (count_of grid.sizes (dimension + 1)) was.serials room;
      faults = did.faults ∙ was.faults;
      settings = did.settings ∙ was.settings;
    }

pub returns-clause-kept : goal.returns-clause-kept
returns-clause-kept g c =
    let grid : Grid = grid_on c.args.program.now c.args.roots.now.roots (c.args.last + 1) in
    let before = (g.S.Store.storage c.args.store.now).kept in
    let end : c.loop-dimension.dimension ≡ c.args.last = omega arith in
    c.loop-dimension.invariant.kept ∙ ap (λ (last : ℕ). before ++ nested_objects c.args.program.now grid (length before + 1) last) end

pub returns-clause-facts : goal.returns-clause-facts
returns-clause-facts g c =
    let grid : Grid = grid_on c.args.program.now c.args.roots.now.roots (c.args.last + 1) in
    let end : c.loop-dimension.dimension ≡ c.args.last = omega arith in
    c.loop-dimension.invariant.facts ∙ ap (λ (last : ℕ). knows_nested g.S.Store.rules (g.S.Store.storage c.args.store.now).facts grid (last + 1)) end
