use Rattle.std.proofs.Common.{◌≡◌, ◌∙◌, ◌<◌, ap, length, subst, sym}
use Rattle.std.specs.Prelude.{slice_get}
use Rattle.cb_link.specs.Calls.{initial_parents}
use Rattle.cb_link.specs.Numbers.{ranked_methods}
use Rattle.cb_link.proofs.Grown.{entry_is}
use Rattle.cb_link.proofs.NumbersLow.{initial_within}
use Rattle.cb_link.proofs.program.Program.parent.Goals as goal
use Rattle.cb_link.proofs.program.Program.parent.Goals.{After-get}

row : (c : After-get) → c.get.result.now ≡ initial_parents c.args.self.now.classes c.args.class
row c =
    let classes = c.self.inside.base.classes in
    entry_is (length classes) (initial_parents classes) c.self.inside.tables.members.calls.parents c.args.class c.get.result.now c.self.invariant.of_calls.parents c.get.ensures
    ∙ ap (λ program. initial_parents program.classes c.args.class) c.self.view_is

pub get-requires-2 : goal.get-requires-2
get-requires-2 c = subst (λ list. c.args.place < length list) (sym (row (goal.at.get-requires-2 c).After-get)) c.requires.place

pub returns-clause-found : goal.returns-clause-found
returns-clause-found c = ap (λ list. slice_get list c.args.place) (sym (row (goal.at.returns-clause-found c).After-get)) ∙ c.get-2.ensures

pub returns-clause-within : goal.returns-clause-within
returns-clause-within c =
    initial_within c.args.self.now.classes (ranked_methods c.args.self.now.classes) c.args.class c.args.place c.get-2.result.now
    (ap (λ list. slice_get list c.args.place) (sym (row (goal.at.returns-clause-within c).After-get)) ∙ c.get-2.ensures)
