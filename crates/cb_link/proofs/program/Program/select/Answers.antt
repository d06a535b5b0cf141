use Rattle.std.proofs.Common.{◌≡◌, ◌∙◌, ◌<◌, IsSome, ap, refl, length, subst, sym}
use Rattle.cb_hierarchy.specs.Selection.{entry_at}
use Rattle.cb_link.specs.Calls.{IsOneOf, class_of_kind, or_object, select}
use Rattle.cb_link.specs.Having.{IsWhole}
use Rattle.cb_link.proofs.NamedThere.{select_one_of}
use Rattle.cb_link.proofs.SelectedMethods.{entry_selected, has_entry}
use Rattle.cb_link.proofs.program.Program.select.Goals as goal

pub select-requires : goal.select-requires
select-requires c =
    let base = c.self.inside.base in
    let method = c.args.method in
    let same : or_object (class_of_kind base c.args.kind) ≡ c.object_class.result = ap (λ program. or_object (class_of_kind program c.args.kind)) c.self.view_is ∙ sym c.object_class.ensures in
    let low : method < length base.methods = subst (λ program. method < length program.methods) (sym c.self.view_is) c.requires.method in
    subst IsSome
    (sym (has_entry base c.self.invariant.whole c.self.inside.tables.members.calls.selection c.self.invariant.of_calls.selection c.args.kind method low)
    ∙ ap (λ class. entry_at c.self.inside.tables.members.calls.selection class method) same) refl

pub returns : goal.returns
returns c =
    let base = c.self.inside.base in
    let method = c.args.method in
    let same : or_object (class_of_kind base c.args.kind) ≡ c.object_class.result = ap (λ program. or_object (class_of_kind program c.args.kind)) c.self.view_is ∙ sym c.object_class.ensures in
    let low : method < length base.methods = subst (λ program. method < length program.methods) (sym c.self.view_is) c.requires.method in
    let found : c.select.result ≡ select c.args.self.now c.args.kind method =
    entry_selected base c.self.invariant.whole c.self.inside.tables.members.calls.selection c.self.invariant.of_calls.selection c.args.kind method low c.select.result
    (ap (λ class. entry_at c.self.inside.tables.members.calls.selection class method) same ∙ c.select.ensures)
    ∙ ap (λ program. select program c.args.kind method) c.self.view_is in
    record { found = found; within = subst (IsOneOf (length c.args.self.now.methods)) (sym found) (select_one_of c.args.self.now (subst IsWhole c.self.view_is c.self.invariant.whole) c.args.kind method) }
