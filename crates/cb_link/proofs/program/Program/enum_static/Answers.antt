use Rattle.std.proofs.Common.{◌≡◌, ◌∙◌, ◌<◌, IfSome, Option, None, Some, ℕ, ap, arith, length, refl, sym}
use Rattle.std.specs.Prelude.{slice_get}
use Rattle.std.proofs.lemmas.Option.{slice_get_read}
use Rattle.cb_link.specs.Slots.{enum_statics, statics}
use Rattle.cb_link.proofs.Grown.{entry_is}
use Rattle.cb_link.proofs.SlotPlaces.{enum_within}
use Rattle.cb_link.proofs.program.Program.enum_static.Goals as goal

-- what is found is within
within : (found : Option ℕ) (count : ℕ) → ((slot : ℕ) → found ≡ Some slot → slot < count) → IfSome found (λ slot. slot < count)
within None count low = tt
within (Some slot) count low = low slot refl

pub returns-clause-within : goal.returns-clause-within
returns-clause-within c =
    let classes = c.args.self.now.classes in
    let class = c.args.class in
    let base = c.self.inside.base.classes in
    let rows = c.self.inside.tables.members.fields.enums.items in
    let same : length base ≡ length classes = ap (λ program. length program.classes) c.self.view_is in
    let low : class < length rows = omega (arith, c.requires, c.self.invariant.of_fields.enums.as_many, same) in
    let there : slice_get rows class ≡ Some c.index.result.now = slice_get_read rows (length rows) class c.index.result.now refl low c.index.ensures in
    let row : c.index.result.now ≡ enum_statics classes class =
    entry_is (length base) (enum_statics base) rows class c.index.result.now c.self.invariant.of_fields.enums there ∙ ap (λ program. enum_statics program.classes class) c.self.view_is in
    within c.entry.result (length (statics classes))
    (λ slot is. enum_within classes class c.args.constant slot (ap (λ row. slice_get row c.args.constant) (sym row) ∙ sym c.entry.ensures ∙ is))
