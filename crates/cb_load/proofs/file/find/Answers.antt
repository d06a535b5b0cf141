use Rattle.std.proofs.Common.{◌∙◌, ap, sym, Some}
use Rattle.std.specs.Prelude.{option_map, string_bytes}
use Rattle.cb_load.proofs.LoadFiles.{found_absent, found_there}
use Rattle.cb_load.proofs.file.find.Goals as goal

pub returns-then-has-clause-found : goal.returns-then-has-clause-found
returns-then-has-clause-found g c = found_absent (g.F.Folder.files c.args.folder.now) c.args.root.now c.args.name.now (c.requires c.args.name.now (sym c.has.ensures ∙ c.if-has.true))

pub returns-in-Ok-clause-found : goal.returns-in-Ok-clause-found
returns-in-Ok-clause-found g c =
    found_there (g.F.Folder.files c.args.folder.now) c.args.root.now c.args.name.now c.as_str.result.now c.in-Ok.found
    (sym c.in_ok-path.ensures ∙ ap (option_map string_bytes) c.in-Some.is ∙ ap Some (sym c.as_str.ensures.value)) c.in-Ok.ensures.found c.in-Ok.ensures.within
