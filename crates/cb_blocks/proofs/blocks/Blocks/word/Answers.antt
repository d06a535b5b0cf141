use Rattle.std.proofs.Common.{◌≡◌, sym, subst}
use Rattle.std.specs.List.{slice_get}
use Rattle.std.specs.declared.option.Option.TheVariants.{Some}
use Rattle.cb_blocks.specs.Parted.{IsAt, Parted}
use Rattle.cb_blocks.specs.Rows.{row}
use Rattle.cb_blocks.proofs.Parted.{at_touched, at_word}
use Rattle.cb_blocks.proofs.blocks.Blocks.word.Goals as goal

pub read_touched-requires : goal.read_touched-requires
read_touched-requires c = at_touched c.self.inside.region c.self.inside.blocks c.self.inside.used.items c.args.part c.args.i c.index_of-index.result c.self.invariant.blocks_are (subst (λ (v : Parted). IsAt v c.args.part c.args.i c.index_of-index.result) (sym c.self.view_is) c.index_of-index.ensures)

pub returns : goal.returns
returns c = subst (λ (v : Parted). slice_get (row v.words c.args.part) c.args.i ≡ Some c.read_touched.result) c.self.view_is (at_word c.self.inside.region c.self.inside.blocks c.self.inside.used.items c.args.part c.args.i c.index_of-index.result c.read_touched.result (subst (λ (v : Parted). IsAt v c.args.part c.args.i c.index_of-index.result) (sym c.self.view_is) c.index_of-index.ensures) c.read_touched.ensures)
