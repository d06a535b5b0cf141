use Rattle.std.proofs.Common.{◌≡◌, ◌∙◌, ◌+◌, sym, ap, subst}
use Rattle.cb_blocks.specs.Parted.{IsParted, Parted, taken}
use Rattle.cb_blocks.proofs.Parted.{held_taken, parted, parts_of}
use Rattle.cb_blocks.proofs.blocks.Blocks.blocks_free.Goals as goal

pub returns-clause-sound : goal.returns-clause-sound
returns-clause-sound c = subst (λ (v : Parted). IsParted v) c.self.view_is (parted c.self.inside.region c.self.inside.blocks c.self.inside.used.items c.self.invariant.blocks_are)

pub returns-clause-free : goal.returns-clause-free
returns-clause-free c =
    let is = parted c.self.inside.region c.self.inside.blocks c.self.inside.used.items c.self.invariant.blocks_are in
    let all = held_taken c.self.inside.blocks.rows (parts_of c.self.inside.region c.self.inside.blocks c.self.inside.used.items).words is.same is.exact in
    subst (λ (v : Parted). taken v.words + c.free.result ≡ v.blocks) c.self.view_is (ap (λ n. n + c.free.result) (sym all) ∙ c.free.ensures)
