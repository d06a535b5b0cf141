use Rattle.cb_heap.specs.Storage.{view_in}
use Rattle.std.proofs.Common.{◌∙◌, ap, subst, sym, Some}
use Rattle.std.specs.Prelude.{is_some, option_and_then, option_map}
use Rattle.cb_act.specs.Acting.{basic_on, going_on, of_left}
use Rattle.cb_act.specs.Objects.{SuitsWords, behind_load_element, left_by}
use Rattle.cb_act.proofs.Going.{going_there}
use Rattle.cb_act.proofs.SortLaws.{loads_so, words_so}
use Rattle.cb_act.proofs.acting_objects.loads.Goals as goal

pub load_element-left-requires-clause-there : goal.load_element-left-requires-clause-there
load_element-left-requires-clause-there g c =
    let view = view_in (g.S.Store.storage c.args.store.now) c.args.roots.now.roots in
    let basic = basic_on c.args.program.now c.args.sort view 1 in
    ap is_some (ap (λ basic. behind_load_element basic view) c.default_of.ensures ∙ sym (loads_so view basic c.args.sort c.requires.suits.sorted))
    ∙ going_there c.args.decoded.now (behind_load_element basic view) c.requires.there

pub load_element-left-requires-clause-suits : goal.load_element-left-requires-clause-suits
load_element-left-requires-clause-suits g c =
    let view = view_in (g.S.Store.storage c.args.store.now) c.args.roots.now.roots in
    let basic = basic_on c.args.program.now c.args.sort view 1 in
    subst (λ basic. SuitsWords basic 1 view) (sym c.default_of.ensures) (words_so view basic c.args.sort 1 c.requires.suits.sorted c.requires.suits.words)

pub returns-clause-deed : goal.returns-clause-deed
returns-clause-deed g c =
    let view = view_in (g.S.Store.storage c.args.store.now) c.args.roots.now.roots in
    let later = view_in (g.S.Store.storage c.args.store.now) c.load_element-left.new.roots.roots in
    let basic = basic_on c.args.program.now c.args.sort view 1 in
    ap (going_on c.args.decoded.now) (loads_so view basic c.args.sort c.requires.suits.sorted ∙ ap (λ basic. behind_load_element basic view) (sym c.default_of.ensures)
    ∙ c.load_element-left.ensures.behind)
    ∙ ap (λ next. option_and_then (λ pc. option_map (of_left pc) (Some (left_by c.load_element-left.result later))) next) c.in-Some.is
    ∙ ap Some (sym c.goes_on.ensures.deed)
