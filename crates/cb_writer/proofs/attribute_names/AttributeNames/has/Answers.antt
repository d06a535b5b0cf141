use Rattle.std.proofs.Common.{◌≡◌, ◌+◌, length, ◌∙◌, ap, arith}
use Rattle.cb_classfile.proofs.Laws.{least_within_exactly}
use Rattle.cb_writer.specs.Names.{name_of}
use Rattle.cb_writer.proofs.Finding.{tested}
use Rattle.cb_writer.proofs.attribute_names.AttributeNames.has.Goals as goal

pub returns : goal.returns
returns c =
    let pool = c.args.self.now in
    let exactly = least_within_exactly pool (name_of c.args.attribute) in
    let seen : c.self.inside.pool.now ≡ pool = c.self.view_is in
    tested _ _ _ (length pool + 1) c.index.ensures (c.len.ensures ∙ ap (λ pool. length pool + 1) seen) (λ below. record { named = exactly.0 below; fits = omega (arith, c.index.ensures, c.index.type_inv) }, λ has. exactly.1 has.named)
