use Rattle.std.proofs.Common.{◌≡◌, ◌∙◌, ◌+◌, ◌*◌, max, ◌<◌, ◌≤◌, length, get_or, set, take, sym, ap, subst, arith, lit<, length-set}
use Rattle.cb_raw.specs.Words.{zeroed}
use Rattle.cb_blocks.specs.Parted.{Parted, blocks_for}
use Rattle.cb_blocks.specs.Rows.{row}
use Rattle.cb_blocks.proofs.Laid.{fewer_pages}
use Rattle.cb_blocks.proofs.Parted.{part_of, used_of}
use Rattle.cb_blocks.specs.Parted.{with_fewer}
use Rattle.cb_blocks.proofs.Changed.{few_blocks, shrunk_blocks, shrunk_parts}
use Rattle.cb_blocks.proofs.Ends.{ends_set}
use Rattle.cb_blocks.proofs.Opened.{cleared, end_touched}
use Rattle.cb_blocks.proofs.Rowed.{row_set_other, row_set_same}
use Rattle.std.proofs.lemmas.List.{length-take-le}
use Rattle.cb_blocks.proofs.blocks.Blocks.shrink.Goals as goal

pub index-had-requires : goal.index-had-requires
index-had-requires c = omega (arith, (part_of c.self.inside.region c.self.inside.blocks c.self.inside.used.items c.args.part (subst (λ (v : Parted). c.args.part < length v.words) (sym c.self.view_is) c.requires.part)), c.self.inside.used.ok.0)

pub overflow_cast-count_blocks : goal.overflow_cast-count_blocks
overflow_cast-count_blocks c = omega (arith, few_blocks c.self.inside.region c.self.inside.blocks c.self.inside.used.items c.args.part c.args.used c.self.invariant.blocks_are (part_of c.self.inside.region c.self.inside.blocks c.self.inside.used.items c.args.part (subst (λ (v : Parted). c.args.part < length v.words) (sym c.self.view_is) c.requires.part)) (omega (arith, used_of c.self.inside.region c.self.inside.blocks c.self.inside.used.items c.args.part (subst (λ (v : Parted). c.args.part < length v.words) (sym c.self.view_is) c.requires.part), (subst (λ (v : Parted). c.args.used ≤ length (row v.words c.args.part)) (sym c.self.view_is) c.requires.fewer))), c.count_blocks.ensures)

pub keep-requires-clause-part : goal.keep-requires-clause-part
keep-requires-clause-part c = omega (arith, (part_of c.self.inside.region c.self.inside.blocks c.self.inside.used.items c.args.part (subst (λ (v : Parted). c.args.part < length v.words) (sym c.self.view_is) c.requires.part)), c.self.invariant.blocks_are.laid.parts)

pub index_mut-requires : goal.index_mut-requires
index_mut-requires c = omega (arith, (part_of c.self.inside.region c.self.inside.blocks c.self.inside.used.items c.args.part (subst (λ (v : Parted). c.args.part < length v.words) (sym c.self.view_is) c.requires.part)), c.self.inside.used.ok.0)

pub end_of-end-requires-clause-part : goal.end_of-end-requires-clause-part
end_of-end-requires-clause-part c = omega (arith, (part_of c.self.inside.region c.self.inside.blocks c.self.inside.used.items c.args.part (subst (λ (v : Parted). c.args.part < length v.words) (sym c.self.view_is) c.requires.part)), c.self.invariant.blocks_are.laid.parts, ap length c.keep.ensures.rows, length-set c.self.inside.blocks.rows c.args.part (take c.count_blocks.result (row c.self.inside.blocks.rows c.args.part)))

pub end_of-end-requires-clause-exact : goal.end_of-end-requires-clause-exact
end_of-end-requires-clause-exact c =
    let fewer = fewer_pages 256 c.args.used (get_or c.self.inside.used.items c.args.part 0) (lit< tt) (omega (arith, used_of c.self.inside.region c.self.inside.blocks c.self.inside.used.items c.args.part (subst (λ (v : Parted). c.args.part < length v.words) (sym c.self.view_is) c.requires.part), (subst (λ (v : Parted). c.args.used ≤ length (row v.words c.args.part)) (sym c.self.view_is) c.requires.fewer))) in
    ap (λ r. length (row r c.args.part)) c.keep.ensures.rows ∙ ap length (row_set_same c.self.inside.blocks.rows c.args.part (take c.count_blocks.result (row c.self.inside.blocks.rows c.args.part)) (omega (arith, (part_of c.self.inside.region c.self.inside.blocks c.self.inside.used.items c.args.part (subst (λ (v : Parted). c.args.part < length v.words) (sym c.self.view_is) c.requires.part)), c.self.invariant.blocks_are.laid.parts)))
    ∙ length-take-le c.count_blocks.result (row c.self.inside.blocks.rows c.args.part) (omega (arith, fewer, c.count_blocks.ensures, c.self.invariant.blocks_are.laid.exact c.args.part (part_of c.self.inside.region c.self.inside.blocks c.self.inside.used.items c.args.part (subst (λ (v : Parted). c.args.part < length v.words) (sym c.self.view_is) c.requires.part)))) ∙ c.count_blocks.ensures

pub index_mut-requires-2 : goal.index_mut-requires-2
index_mut-requires-2 c = omega (arith, (part_of c.self.inside.region c.self.inside.blocks c.self.inside.used.items c.args.part (subst (λ (v : Parted). c.args.part < length v.words) (sym c.self.view_is) c.requires.part)), c.self.invariant.ends_are.long, c.self.inside.ends.ok.0)

pub left_behind-requires : goal.left_behind-requires
left_behind-requires c =
    let exact : length (row c.keep.new.self.rows c.args.part) ≡ blocks_for c.args.used =
    let fewer = fewer_pages 256 c.args.used (get_or c.self.inside.used.items c.args.part 0) (lit< tt) (omega (arith, used_of c.self.inside.region c.self.inside.blocks c.self.inside.used.items c.args.part (subst (λ (v : Parted). c.args.part < length v.words) (sym c.self.view_is) c.requires.part), (subst (λ (v : Parted). c.args.used ≤ length (row v.words c.args.part)) (sym c.self.view_is) c.requires.fewer))) in
    ap (λ r. length (row r c.args.part)) c.keep.ensures.rows ∙ ap length (row_set_same c.self.inside.blocks.rows c.args.part (take c.count_blocks.result (row c.self.inside.blocks.rows c.args.part)) (omega (arith, (part_of c.self.inside.region c.self.inside.blocks c.self.inside.used.items c.args.part (subst (λ (v : Parted). c.args.part < length v.words) (sym c.self.view_is) c.requires.part)), c.self.invariant.blocks_are.laid.parts)))
    ∙ length-take-le c.count_blocks.result (row c.self.inside.blocks.rows c.args.part) (omega (arith, fewer, c.count_blocks.ensures, c.self.invariant.blocks_are.laid.exact c.args.part (part_of c.self.inside.region c.self.inside.blocks c.self.inside.used.items c.args.part (subst (λ (v : Parted). c.args.part < length v.words) (sym c.self.view_is) c.requires.part)))) ∙ c.count_blocks.ensures in
    let ending = end_touched c.self.inside.region c.keep.new.self c.args.part c.args.used c.end_of-end.result c.keep.ensures.sound (c.self.invariant.blocks_are.touched ∙ ap (λ n. n * 256) (sym c.keep.ensures.fresh)) exact c.end_of-end.ensures in
    omega (arith, ending, c.self.invariant.blocks_are.touched, c.self.invariant.blocks_are.laid.sound.within, c.self.invariant.blocks_are.laid.sound.bound)

pub zero-requires : goal.zero-requires
zero-requires c =
    let exact : length (row c.keep.new.self.rows c.args.part) ≡ blocks_for c.args.used =
    let fewer = fewer_pages 256 c.args.used (get_or c.self.inside.used.items c.args.part 0) (lit< tt) (omega (arith, used_of c.self.inside.region c.self.inside.blocks c.self.inside.used.items c.args.part (subst (λ (v : Parted). c.args.part < length v.words) (sym c.self.view_is) c.requires.part), (subst (λ (v : Parted). c.args.used ≤ length (row v.words c.args.part)) (sym c.self.view_is) c.requires.fewer))) in
    ap (λ r. length (row r c.args.part)) c.keep.ensures.rows ∙ ap length (row_set_same c.self.inside.blocks.rows c.args.part (take c.count_blocks.result (row c.self.inside.blocks.rows c.args.part)) (omega (arith, (part_of c.self.inside.region c.self.inside.blocks c.self.inside.used.items c.args.part (subst (λ (v : Parted). c.args.part < length v.words) (sym c.self.view_is) c.requires.part)), c.self.invariant.blocks_are.laid.parts)))
    ∙ length-take-le c.count_blocks.result (row c.self.inside.blocks.rows c.args.part) (omega (arith, fewer, c.count_blocks.ensures, c.self.invariant.blocks_are.laid.exact c.args.part (part_of c.self.inside.region c.self.inside.blocks c.self.inside.used.items c.args.part (subst (λ (v : Parted). c.args.part < length v.words) (sym c.self.view_is) c.requires.part)))) ∙ c.count_blocks.ensures in
    let ending = end_touched c.self.inside.region c.keep.new.self c.args.part c.args.used c.end_of-end.result c.keep.ensures.sound (c.self.invariant.blocks_are.touched ∙ ap (λ n. n * 256) (sym c.keep.ensures.fresh)) exact c.end_of-end.ensures in
    omega (arith, ending, c.left_behind.ensures, c.self.invariant.blocks_are.touched, c.self.invariant.blocks_are.laid.sound.within, c.self.invariant.blocks_are.laid.whole)

pub invariant_of-self : goal.invariant_of-self
invariant_of-self c =
    let exact : length (row c.keep.new.self.rows c.args.part) ≡ blocks_for c.args.used =
    let fewer = fewer_pages 256 c.args.used (get_or c.self.inside.used.items c.args.part 0) (lit< tt) (omega (arith, used_of c.self.inside.region c.self.inside.blocks c.self.inside.used.items c.args.part (subst (λ (v : Parted). c.args.part < length v.words) (sym c.self.view_is) c.requires.part), (subst (λ (v : Parted). c.args.used ≤ length (row v.words c.args.part)) (sym c.self.view_is) c.requires.fewer))) in
    ap (λ r. length (row r c.args.part)) c.keep.ensures.rows ∙ ap length (row_set_same c.self.inside.blocks.rows c.args.part (take c.count_blocks.result (row c.self.inside.blocks.rows c.args.part)) (omega (arith, (part_of c.self.inside.region c.self.inside.blocks c.self.inside.used.items c.args.part (subst (λ (v : Parted). c.args.part < length v.words) (sym c.self.view_is) c.requires.part)), c.self.invariant.blocks_are.laid.parts)))
    ∙ length-take-le c.count_blocks.result (row c.self.inside.blocks.rows c.args.part) (omega (arith, fewer, c.count_blocks.ensures, c.self.invariant.blocks_are.laid.exact c.args.part (part_of c.self.inside.region c.self.inside.blocks c.self.inside.used.items c.args.part (subst (λ (v : Parted). c.args.part < length v.words) (sym c.self.view_is) c.requires.part)))) ∙ c.count_blocks.ensures in
    let clear = cleared c.self.inside.region c.zero.new.self c.keep.new.self c.args.part c.args.used c.end_of-end.result c.keep.ensures.sound (c.self.invariant.blocks_are.laid.whole ∙ ap (λ n. n * 256) (sym c.keep.ensures.count)) (c.self.invariant.blocks_are.touched ∙ ap (λ n. n * 256) (sym c.keep.ensures.fresh)) exact c.end_of-end.ensures
    (c.zero.ensures.words ∙ ap (zeroed c.self.inside.region.words c.end_of-end.result) c.left_behind.ensures) (c.zero.ensures.touched ∙ ap (λ n. max c.self.inside.region.touched (c.end_of-end.result + n)) c.left_behind.ensures) in
    let rows = c.keep.ensures.rows ∙ ap (λ n. set c.self.inside.blocks.rows c.args.part (take n (row c.self.inside.blocks.rows c.args.part))) c.count_blocks.ensures in
    record {
      blocks_are = shrunk_blocks c.self.inside.region c.zero.new.self c.self.inside.blocks c.keep.new.self c.self.inside.used.items c.args.part c.args.used c.self.invariant.blocks_are (part_of c.self.inside.region c.self.inside.blocks c.self.inside.used.items c.args.part (subst (λ (v : Parted). c.args.part < length v.words) (sym c.self.view_is) c.requires.part)) (omega (arith, used_of c.self.inside.region c.self.inside.blocks c.self.inside.used.items c.args.part (subst (λ (v : Parted). c.args.part < length v.words) (sym c.self.view_is) c.requires.part), (subst (λ (v : Parted). c.args.used ≤ length (row v.words c.args.part)) (sym c.self.view_is) c.requires.fewer))) rows c.keep.ensures.fresh c.keep.ensures.count c.keep.ensures.longest c.keep.ensures.sound clear;
      ends_are = ends_set c.self.inside.blocks.rows c.keep.new.self.rows c.self.inside.used.items c.self.inside.ends.items c.args.part c.args.used c.end_of-end.result c.self.invariant.ends_are (part_of c.self.inside.region c.self.inside.blocks c.self.inside.used.items c.args.part (subst (λ (v : Parted). c.args.part < length v.words) (sym c.self.view_is) c.requires.part))
          (λ other differs. ap (λ r. row r other) rows ∙ row_set_other c.self.inside.blocks.rows c.args.part other _ differs) c.end_of-end.ensures;
    }

pub returns : goal.returns
returns c =
    let exact : length (row c.keep.new.self.rows c.args.part) ≡ blocks_for c.args.used =
    let fewer = fewer_pages 256 c.args.used (get_or c.self.inside.used.items c.args.part 0) (lit< tt) (omega (arith, used_of c.self.inside.region c.self.inside.blocks c.self.inside.used.items c.args.part (subst (λ (v : Parted). c.args.part < length v.words) (sym c.self.view_is) c.requires.part), (subst (λ (v : Parted). c.args.used ≤ length (row v.words c.args.part)) (sym c.self.view_is) c.requires.fewer))) in
    ap (λ r. length (row r c.args.part)) c.keep.ensures.rows ∙ ap length (row_set_same c.self.inside.blocks.rows c.args.part (take c.count_blocks.result (row c.self.inside.blocks.rows c.args.part)) (omega (arith, (part_of c.self.inside.region c.self.inside.blocks c.self.inside.used.items c.args.part (subst (λ (v : Parted). c.args.part < length v.words) (sym c.self.view_is) c.requires.part)), c.self.invariant.blocks_are.laid.parts)))
    ∙ length-take-le c.count_blocks.result (row c.self.inside.blocks.rows c.args.part) (omega (arith, fewer, c.count_blocks.ensures, c.self.invariant.blocks_are.laid.exact c.args.part (part_of c.self.inside.region c.self.inside.blocks c.self.inside.used.items c.args.part (subst (λ (v : Parted). c.args.part < length v.words) (sym c.self.view_is) c.requires.part)))) ∙ c.count_blocks.ensures in
    let clear = cleared c.self.inside.region c.zero.new.self c.keep.new.self c.args.part c.args.used c.end_of-end.result c.keep.ensures.sound (c.self.invariant.blocks_are.laid.whole ∙ ap (λ n. n * 256) (sym c.keep.ensures.count)) (c.self.invariant.blocks_are.touched ∙ ap (λ n. n * 256) (sym c.keep.ensures.fresh)) exact c.end_of-end.ensures
    (c.zero.ensures.words ∙ ap (zeroed c.self.inside.region.words c.end_of-end.result) c.left_behind.ensures) (c.zero.ensures.touched ∙ ap (λ n. max c.self.inside.region.touched (c.end_of-end.result + n)) c.left_behind.ensures) in
    let rows = c.keep.ensures.rows ∙ ap (λ n. set c.self.inside.blocks.rows c.args.part (take n (row c.self.inside.blocks.rows c.args.part))) c.count_blocks.ensures in
    shrunk_parts c.self.inside.region c.zero.new.self c.self.inside.blocks c.keep.new.self c.self.inside.used.items c.args.part c.args.used c.self.invariant.blocks_are (part_of c.self.inside.region c.self.inside.blocks c.self.inside.used.items c.args.part (subst (λ (v : Parted). c.args.part < length v.words) (sym c.self.view_is) c.requires.part)) (omega (arith, used_of c.self.inside.region c.self.inside.blocks c.self.inside.used.items c.args.part (subst (λ (v : Parted). c.args.part < length v.words) (sym c.self.view_is) c.requires.part), (subst (λ (v : Parted). c.args.used ≤ length (row v.words c.args.part)) (sym c.self.view_is) c.requires.fewer))) rows c.keep.ensures.count c.keep.ensures.sound clear
    ∙ ap (λ (v : Parted). with_fewer v c.args.part c.args.used) c.self.view_is
