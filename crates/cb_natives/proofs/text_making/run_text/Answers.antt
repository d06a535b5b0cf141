use Rattle.std.proofs.Common.{◌≡◌, ◌∙◌, ap, length, map, slice_get, subst, sym}
use Rattle.cb_heap.specs.Reading.{read_value}
use Rattle.cb_machine.specs.Machine.{kind_of_site, or_zero}
use Rattle.cb_machine.specs.Sites.{made_characters, made_strings}
use Rattle.cb_natives.specs.MakingTexts.{TellsText, text_wants}
use Rattle.cb_natives.specs.Pieces.{text_units}
use Rattle.cb_natives.proofs.MakingLaws.{array_room, few_so, no_exception, pair_so, performs_so, short_so, some_wants, string_room}
use Rattle.cb_natives.proofs.text_making.run_text.Goals as goal

pub unreachable-requires : goal.unreachable-requires
unreachable-requires g c =
    let objects = (g.S.Store.storage c.args.store.now).kept in
    let index = (g.S.Store.storage c.args.store.now).index in
    let held = map (read_value index) c.args.arguments.now in
    no_exception c.args.program.now objects index c.args.native held c.requires.1.0 g.asked.0 g.asked.1 c.requires.1.1.1.1.0 c.in_default.field-0
    (subst (TellsText objects index c.args.native held) c.in_default.is c.text_of.ensures.text)

pub place_text-requires-clause-text : goal.place_text-requires-clause-text
place_text-requires-clause-text g c = c.in-Ok.ensures.is c.args.program.now

pub place_text-requires-clause-may : goal.place_text-requires-clause-may
place_text-requires-clause-may g c =
    let program = c.args.program.now in
    let objects = (g.S.Store.storage c.args.store.now).kept in
    let index = (g.S.Store.storage c.args.store.now).index in
    let held = map (read_value index) c.args.arguments.now in
    let shapes = (g.S.Store.storage c.args.store.now).settings.shapes in
    let granted = (g.S.Store.storage c.args.store.now).granted in
    let size = length (text_units program objects index c.in-Ok.text) in
    let short = short_so program objects index c.args.native held c.requires.1.0 g.asked.0 g.asked.1 c.requires.1.1.1.1.0 c.in-Ok.text c.in-Ok.ensures.text in
    let room = c.requires.1.1.1.1.1.0 (λ none. some_wants size (sym short.1 ∙ none)) in
    let is : granted ≡ text_wants size = room.granted ∙ short.1 in
    let array : kind_of_site program made_characters ≡ c.site_kind-array.result = ap or_zero c.site_kind-array.ensures.kind in
    let string : kind_of_site program made_strings ≡ c.site_kind-string.result = ap or_zero c.site_kind-string.ensures.kind in
    let shaped = c.requires.1.1.1.1.1.1.0 in
    record {
      array_room = array_room granted size is (few_so size short.0);
      string_room = string_room granted size is;
      elements = ap (slice_get shapes) (sym array) ∙ shaped.characters;
      field = ap (slice_get shapes) (sym string) ∙ shaped.strings;
      serials = room.serials;
      few = few_so size short.0;
      allowed = pair_so program objects index c.args.native held c.requires.1.0 g.asked.0 (g.S.Store.storage c.args.store.now).settings.allows c.requires.1.1.1.1.1.1.1 c.in-Ok.text c.in-Ok.ensures.text short.0;
    }

pub returns-clause-made : goal.returns-clause-made
returns-clause-made g c =
    let program = c.args.program.now in
    let objects = (g.S.Store.storage c.args.store.now).kept in
    let index = (g.S.Store.storage c.args.store.now).index in
    let held = map (read_value index) c.args.arguments.now in
    let short = short_so program objects index c.args.native held c.requires.1.0 g.asked.0 g.asked.1 c.requires.1.1.1.1.0 c.in-Ok.text c.in-Ok.ensures.text in
    λ roots.
    performs_so program objects index c.args.native held c.requires.1.0 roots g.S.Store.rules (g.S.Store.storage c.args.store.now).facts (g.S.Store.storage c.place_text.new.store).facts c.in-Ok.text c.in-Ok.ensures.text short.0
    c.site_kind-array.result c.site_kind-string.result (ap or_zero c.site_kind-array.ensures.kind) (ap or_zero c.site_kind-string.ensures.kind)
    (g.S.Store.storage c.place_text.new.store).kept c.place_text.ensures.kept (g.S.Store.storage c.place_text.new.store).index c.place_text.result c.place_text.ensures.serial c.place_text.ensures.facts
