use Rattle.cb_heap.specs.Storage.{view_in}
use Rattle.std.proofs.Common.{◌∙◌, ap, sym, Some}
use Rattle.std.specs.Prelude.{is_some, option_and_then, option_map}
use Rattle.cb_act.specs.Acting.{going_on, of_left}
use Rattle.cb_act.specs.Objects.{Goes, behind_put_field, left_by}
use Rattle.cb_act.specs.Placing.{at_place}
use Rattle.cb_act.proofs.Going.{going_there}
use Rattle.cb_act.proofs.SortLaws.{field_on, field_told}
use Rattle.cb_act.proofs.acting_objects.puts_field.Goals as goal

pub basic_of-requires-clause-there : goal.basic_of-requires-clause-there
basic_of-requires-clause-there g c =
    let view = view_in (g.S.Store.storage c.args.store.now) c.args.roots.now.roots in
    field_told c.args.program.now (λ slot basic. going_on c.args.decoded.now (behind_put_field slot basic view)) c.args.decoded.now.named c.requires.there

pub put_field-left-requires-clause-there : goal.put_field-left-requires-clause-there
put_field-left-requires-clause-there g c =
    let view = view_in (g.S.Store.storage c.args.store.now) c.args.roots.now.roots in
    let told = field_on c.args.program.now (λ slot basic. going_on c.args.decoded.now (behind_put_field slot basic view)) c.args.decoded.now.named _ _ c.basic_of.result c.in-Field.is (c.basic_of.ensures.field _ _ c.in-Field.is) in
    going_there c.args.decoded.now (behind_put_field c.in-Field.slot c.basic_of.result view) (ap is_some (sym told) ∙ c.requires.there)

pub put_field-left-requires-clause-suits : goal.put_field-left-requires-clause-suits
put_field-left-requires-clause-suits g c = c.requires.suits _ _ _ c.in-Field.is (c.basic_of.ensures.field _ _ c.in-Field.is)

pub put_field-left-requires-clause-follows : goal.put_field-left-requires-clause-follows
put_field-left-requires-clause-follows g c = λ after goes.
    let view = view_in (g.S.Store.storage c.args.store.now) c.args.roots.now.roots in
    c.requires.follows (at_place after c.in-Some.next)
    (field_on c.args.program.now (λ slot basic. going_on c.args.decoded.now (behind_put_field slot basic view)) c.args.decoded.now.named _ _ c.basic_of.result c.in-Field.is (c.basic_of.ensures.field _ _ c.in-Field.is)
    ∙ ap (going_on c.args.decoded.now) goes
    ∙ ap (λ next. option_and_then (λ pc. option_map (of_left pc) (Some (Goes after))) next) c.in-Some.is)

pub returns-clause-deed : goal.returns-clause-deed
returns-clause-deed g c =
    let view = view_in (g.S.Store.storage c.args.store.now) c.args.roots.now.roots in
    let later = view_in (g.S.Store.storage c.put_field-left.new.store) c.put_field-left.new.roots.roots in
    field_on c.args.program.now (λ slot basic. going_on c.args.decoded.now (behind_put_field slot basic view)) c.args.decoded.now.named _ _ c.basic_of.result c.in-Field.is (c.basic_of.ensures.field _ _ c.in-Field.is)
    ∙ ap (going_on c.args.decoded.now) c.put_field-left.ensures.behind
    ∙ ap (λ next. option_and_then (λ pc. option_map (of_left pc) (Some (left_by c.put_field-left.result later))) next) c.in-Some.is
    ∙ ap Some (sym c.goes_on.ensures.deed)
