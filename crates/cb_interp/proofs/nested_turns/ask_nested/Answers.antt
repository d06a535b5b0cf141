use Rattle.std.proofs.Common.{◌≡◌, ◌∙◌, add-one, ap, arith, refl, sym, ◌+◌, ◌-◌, ◌*◌, ◌^◌, [], length, List, min, ℕ}
use Rattle.std.specs.List.{fold}
use Rattle.cb_plain.specs.Requests.{add_want}
use Rattle.cb_plain.specs.declared.want.Want.{Want}
use Rattle.cb_interp.specs.Nested.{Grid, count_of, grid_on, nested_wants, rows_wants, size_of}
use Rattle.cb_interp.proofs.TurnsNestedRoom.{asks_counted, asks_next, counted_times, rows_short}
use Rattle.cb_interp.proofs.nested_turns.ask_nested.Goals as goal

pub loop-dimension-init : goal.loop-dimension-init
loop-dimension-init c = record {
  asked = c.requires.empty;
  counted = refl;
  short = let none = ap (λ (wants : List Want). length wants) c.requires.empty in omega (arith, none);
}

pub level_size-size-requires-clause-low : goal.level_size-size-requires-clause-low
level_size-size-requires-clause-low c = let low = c.loop-dimension-test.true in omega (arith, low)

pub level_size-size-requires-clause-many : goal.level_size-size-requires-clause-many
level_size-size-requires-clause-many c = let many = c.requires.grid.many in omega (arith, many)

pub level_size-size-requires-clause-sized : goal.level_size-size-requires-clause-sized
level_size-size-requires-clause-sized c = c.requires.grid.sized

pub level_site-requires-clause-makes : goal.level_site-requires-clause-makes
level_site-requires-clause-makes c =
    let low = c.loop-dimension-test.true in
    let all = c.requires.grid.makes.all in
    record { method = c.requires.grid.makes.method; pc = c.requires.grid.makes.pc; top = c.requires.grid.makes.top; all = omega (arith, low, all) }

pub level_site-requires-clause-tells : goal.level_site-requires-clause-tells
level_site-requires-clause-tells c = c.requires.grid.tells

pub ask_rows-requires : goal.ask_rows-requires
ask_rows-requires c =
    let short = c.loop-dimension.invariant.short in
    let low = c.loop-dimension-test.true in
    let few = c.requires.few in
    omega (arith, short, low, few)

pub loop-dimension-preserved : goal.loop-dimension-preserved
loop-dimension-preserved c =
    let grid : Grid = grid_on c.args.program.now c.args.roots.now.roots (c.args.last + 1) in
    let dimension : ℕ = c.loop-dimension.dimension in
    let wants : List Want = c.loop-dimension.request in
    let was = c.loop-dimension.invariant in
    let asked : c.ask_rows.new.request ≡ fold add_want wants (rows_wants (grid.site dimension) (size_of grid.sizes dimension) (count_of grid.sizes dimension)) =
    c.ask_rows.ensures
    ∙ ap (λ (site : ℕ). fold add_want wants (rows_wants site c.level_size-size.result c.loop-dimension.count)) c.level_site.ensures
    ∙ ap (λ (size : ℕ). fold add_want wants (rows_wants (grid.site dimension) size c.loop-dimension.count)) c.level_size-size.ensures
    ∙ ap (λ (count : ℕ). fold add_want wants (rows_wants (grid.site dimension) (size_of grid.sizes dimension) count)) was.counted
    ∙ asks_counted wants (grid.site dimension) (size_of grid.sizes dimension) (count_of grid.sizes dimension) in
    record {
      asked = asked ∙ asks_next grid dimension wants was.asked;
      counted = c.times-count.ensures
          ∙ ap (λ (size : ℕ). min (c.loop-dimension.count * size) (2 ^ 64 - 1)) c.level_size-size.ensures
          ∙ ap (λ (count : ℕ). min (count * size_of grid.sizes dimension) (2 ^ 64 - 1)) was.counted
          ∙ counted_times (2 ^ 64 - 1) (count_of grid.sizes dimension) (size_of grid.sizes dimension)
          ∙ ap (λ (next : ℕ). min (count_of grid.sizes next) (2 ^ 64 - 1)) (sym (add-one dimension));
      short =
          let more = ap (λ (wants : List Want). length wants) asked in
          let longer = rows_short wants (grid.site dimension) (size_of grid.sizes dimension) (count_of grid.sizes dimension) in
          let short = was.short in
          omega (arith, more, longer, short);
    }

pub returns : goal.returns
returns c =
    let end : c.loop-dimension.dimension ≡ c.args.last + 1 = omega arith in
    c.loop-dimension.invariant.asked
    ∙ ap (λ (dimension : ℕ). fold add_want [] (nested_wants (grid_on c.args.program.now c.args.roots.now.roots (c.args.last + 1)) dimension)) end
