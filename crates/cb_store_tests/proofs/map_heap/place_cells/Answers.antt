use Rattle.std.proofs.Common.{◌≡◌, ◌∙◌, ◌+◌, ◌*◌, ◌-◌, ◌∷◌, [], Some, ap, arith, map}
use Rattle.cb_store_tests.specs.Cells.{cells}
use Rattle.cb_store_tests.proofs.map_heap.place_cells.Goals as goal

pub loop-number-init : goal.loop-number-init
unfolding cells
loop-number-init c =
    let all : c.args.count ≡ c.args.count - 0 = omega arith in
    (c.requires.shapes, ap (map Some) c.requires.objects, c.requires.room ∙ ap (λ count. record { site = 7; words = 5 * count + c.args.more } ∷ []) all)
