use Rattle.cb_interp.proofs.FieldsFew.{fields_few}
use Rattle.cb_interp.proofs.need_sites.fields_are_few.Goals as goal

pub returns : goal.returns
returns c = fields_few
