use Rattle.std.proofs.Common.{◌∙◌, ap, [], true}
use Rattle.std.specs.List.{list_any}
use Rattle.cb_link.specs.Numbers.{is_named}
use Rattle.cb_load.specs.Inner.{entered}
use Rattle.cb_load.proofs.TurnStands.{first_taken}
use Rattle.cb_load.proofs.loading.Loading.begin.Goals as goal

pub returns-clause-stands : goal.returns-clause-stands
returns-clause-stands c = λ files root. (
  [],
  first_taken files root c.args.main.now c.args.library c.enter.new.self c.in_ok-names.names c.requires
      (λ name. c.in_ok-names.ensures name ∙ ap (list_any (is_named name)) c.as_slice.ensures)
      (c.in_ok-enter.ensures ∙ ap (λ entries. entered entries (record { name = c.args.main.now; needed = true })) c.new-entries.ensures),
)
