use Rattle.std.proofs.Common.{◌≡◌, ℕ, sym, subst}
use Rattle.std.specs.List.{slice_get}
use Rattle.std.specs.declared.option.Option.TheVariants.{Some}
use Rattle.cb_blocks.specs.Parted.{IsAt, Parted}
use Rattle.cb_blocks.specs.Rows.{row}
use Rattle.cb_blocks.proofs.Parted.{at_touched, at_word, parts_of}
use Rattle.cb_blocks.proofs.blocks.Blocks.region_word.Goals as goal

pub read_touched-requires : goal.read_touched-requires
read_touched-requires c =
    let is : (part : ℕ) × (i : ℕ) × IsAt (parts_of c.self.inside.region c.self.inside.blocks c.self.inside.used.items) part i c.args.index = (subst (λ (v : Parted). (part : ℕ) × (i : ℕ) × IsAt v part i c.args.index) (sym c.self.view_is) c.requires) in
    at_touched c.self.inside.region c.self.inside.blocks c.self.inside.used.items is.0 is.1 c.args.index c.self.invariant.blocks_are is.2

pub returns : goal.returns
returns c =
    subst (λ (v : Parted). (part i : ℕ) → IsAt v part i c.args.index → slice_get (row v.words part) i ≡ Some c.read_touched.result) c.self.view_is
    (λ part i at. at_word c.self.inside.region c.self.inside.blocks c.self.inside.used.items part i c.args.index c.read_touched.result at c.read_touched.ensures)
