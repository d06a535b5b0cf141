use Rattle.std.proofs.Common.{◌≡◌, arith, length, Some, sym, ap, ◌∙◌}
use Rattle.cb_io.proofs.Files.{file_read}
use Rattle.cb_io.proofs.sure_folder.SureFolderFolder.read.Goals as goal

pub returns-in_default-clause-found : goal.returns-in_default-clause-found
returns-in_default-clause-found c = file_read c.self.inside.files _ _ _ _ c.self.view_is c.get.ensures.value c.in_default.is

pub returns-then-len-limit-clause-found : goal.returns-then-len-limit-clause-found
returns-then-len-limit-clause-found c = rw (file_read c.self.inside.files _ _ _ _ c.self.view_is c.get.ensures.value c.in-Some.is) (omega arith)

pub returns-clause-found : goal.returns-clause-found
returns-clause-found c =
    let copied : c.in_ok-from_slice.field-0.items ≡ c.in-Some.bytes.now.items = c.in_ok-from_slice.ensures.items ∙ c.deref.ensures.value in
    (file_read c.self.inside.files _ _ _ _ c.self.view_is c.get.ensures.value c.in-Some.is ∙ ap Some (sym copied), omega (arith, ap length copied))
