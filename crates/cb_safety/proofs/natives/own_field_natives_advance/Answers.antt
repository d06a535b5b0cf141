use Rattle.cb_safety.proofs.SettingFields.{own_fields_advance}
use Rattle.cb_safety.proofs.natives.own_field_natives_advance.Goals as goal

pub returns : goal.returns
returns c = own_fields_advance
