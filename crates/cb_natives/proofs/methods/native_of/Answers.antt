use Rattle.std.proofs.Common.{◌∙◌}
use Rattle.cb_natives.proofs.NativesNamed.{native_so}
use Rattle.cb_natives.proofs.methods.native_of.Goals as goal

pub returns : goal.returns
returns c = c.native_in.ensures ∙ native_so c.args.program.now c.args.method c.class_of.result c.place_of.result c.class_of.ensures.declares c.place_of.ensures
