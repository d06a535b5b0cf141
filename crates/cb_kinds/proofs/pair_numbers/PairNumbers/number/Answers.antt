use Rattle.std.proofs.Common.{◌∙◌, ap}
use Rattle.cb_kinds.specs.Texts.{number_of_pair}
use Rattle.cb_kinds.proofs.NumberedItems.{no_descriptor, no_name, pair_first}
use Rattle.cb_kinds.proofs.pair_numbers.PairNumbers.number.Goals as goal

pub returns-in_err-name_number : goal.returns-in_err-name_number
returns-in_err-name_number c =
    rw c.from_residual.ensures (no_name c.self.inside.texts c.self.inside.places c.args.name.now c.args.descriptor.now c.self.invariant c.in_err-name_number.ensures
    ∙ ap (λ pairs. number_of_pair pairs (c.args.name.now, c.args.descriptor.now)) c.self.view_is)

pub returns-in_err-descriptor_number : goal.returns-in_err-descriptor_number
returns-in_err-descriptor_number c =
    rw c.from_residual-in_err-descriptor_number.ensures (no_descriptor c.self.inside.texts c.self.inside.places c.args.name.now c.args.descriptor.now c.self.invariant c.in_err-descriptor_number.ensures
    ∙ ap (λ pairs. number_of_pair pairs (c.args.name.now, c.args.descriptor.now)) c.self.view_is)

pub returns : goal.returns
returns c =
    c.first.ensures
    ∙ pair_first c.self.inside.texts c.self.inside.places c.args.name.now c.args.descriptor.now c.in_ok-name_number.name_number c.in_ok-descriptor_number.descriptor_number c.self.invariant c.in_ok-name_number.ensures c.in_ok-descriptor_number.ensures
    ∙ ap (λ pairs. number_of_pair pairs (c.args.name.now, c.args.descriptor.now)) c.self.view_is
