use Rattle.cb_heap.proofs.Laws.{same_shapes, same_allows}
use Rattle.std.proofs.Common.{◌≡◌, ◌∙◌, ap, arith, subst, sym, ◌+◌, ◌*◌, ◌∷◌, ◌++◌, [], length, List, Option, Some}
use Rattle.std.proofs.lemmas.List.{length-append}
use Rattle.std.specs.List.{flat_map}
use Rattle.std.specs.Prelude.{option_map}
use Rattle.cb_heap.specs.Reading.{serial_of}
use Rattle.cb_machine.specs.Machine.{kind_of_site}
use Rattle.cb_machine.specs.Sites.{argument_characters, argument_strings, arguments, system_in, system_out}
use Rattle.cb_plain.specs.State.{Object}
use Rattle.cb_plain.specs.Updates.{object_in}
use Rattle.cb_plain.specs.declared.shape.Shape.{Shape}
use Rattle.cb_plain.specs.declared.want.Want.{Want}
use Rattle.cb_interp.specs.Arguments.{Covers, HasArray, MayHold, array_want, bare_want, knows_texts, stream_wants, text_wants, with_texts}
use Rattle.cb_interp.specs.Fit.{IsPlacedAs}
use Rattle.cb_interp.specs.Starting.{bare}
use Rattle.cb_interp.proofs.FollowStarting.{first_pairs}
use Rattle.cb_interp.proofs.TurnsStarting.{nulls_then, still}
use Rattle.cb_interp.proofs.TurnsStartingRoom.{covers_first, covers_rest}
use Rattle.cb_interp.proofs.TurnsStartingTexts.{array_held, blank_has, has_behind, last_held}
use Rattle.cb_interp.proofs.starting.place_first.Goals as goal

pub place_array-array-requires-clause-granted : goal.place_array-array-requires-clause-granted
place_array-array-requires-clause-granted g c =
    covers_first (g.S.Store.storage c.args.store.now).granted (array_want (length c.args.given.now)) (flat_map text_wants c.args.given.now ++ stream_wants) c.requires.granted

pub place_texts-requires-clause-fits : goal.place_texts-requires-clause-fits
place_texts-requires-clause-fits g c = subst (MayHold c.args.program.now) (sym (same_shapes c.place_array-array.ensures.settings)) c.requires.fits.strings

pub place_texts-requires-clause-granted : goal.place_texts-requires-clause-granted
place_texts-requires-clause-granted g c =
    let rest : List Want = flat_map text_wants c.args.given.now ++ stream_wants in
    subst (λ (granted : List Want). Covers granted rest) (sym c.place_array-array.ensures.granted)
    (covers_rest (g.S.Store.storage c.args.store.now).granted (array_want (length c.args.given.now)) rest c.requires.granted)

pub place_texts-requires-clause-there : goal.place_texts-requires-clause-there
place_texts-requires-clause-there g c =
    subst (λ (objects : List (Option Object)). HasArray objects (length c.args.given.now)) (sym c.place_array-array.ensures.kept)
    (blank_has c.args.program.now (length c.args.given.now))

pub place_texts-requires-clause-alone : goal.place_texts-requires-clause-alone
place_texts-requires-clause-alone g c = ap (λ (objects : List (Option Object)). length objects) c.place_array-array.ensures.kept

pub place_texts-requires-clause-sited : goal.place_texts-requires-clause-sited
place_texts-requires-clause-sited g c = ap (λ (objects : List (Option Object)). option_map (λ (object : Object). object.site) (object_in objects 1)) c.place_array-array.ensures.kept

pub place_texts-requires-clause-refers : goal.place_texts-requires-clause-refers
place_texts-requires-clause-refers g c = λ some.
    ap (λ allows. allows arguments argument_strings) (same_allows c.place_array-array.ensures.settings)
    ∙ (first_pairs (g.S.Store.storage c.args.store.now).settings.allows c.args.program.now c.args.given.now some c.requires.follows).refers

pub place_texts-requires-clause-holds : goal.place_texts-requires-clause-holds
place_texts-requires-clause-holds g c = λ some.
    ap (λ allows. allows argument_strings argument_characters) (same_allows c.place_array-array.ensures.settings)
    ∙ (first_pairs (g.S.Store.storage c.args.store.now).settings.allows c.args.program.now c.args.given.now some c.requires.follows).holds

pub place_bare-out-requires-clause-site : goal.place_bare-out-requires-clause-site
place_bare-out-requires-clause-site g c = c.requires.fits.sites system_out (omega arith)

pub place_bare-out-requires-clause-granted : goal.place_bare-out-requires-clause-granted
place_bare-out-requires-clause-granted g c =
    covers_first (g.S.Store.storage c.place_texts.new.store).granted (bare_want system_out) (bare_want system_in ∷ []) c.place_texts.ensures.granted

pub place_bare-out-requires-clause-fits : goal.place_bare-out-requires-clause-fits
place_bare-out-requires-clause-fits g c =
    subst (λ (shapes : List Shape). IsPlacedAs shapes system_out (kind_of_site c.args.program.now system_out) 0 [])
    (sym ((same_shapes c.place_texts.ensures.settings) ∙ (same_shapes c.place_array-array.ensures.settings))) c.requires.fits.out

pub place_bare-out-requires-clause-serials : goal.place_bare-out-requires-clause-serials
place_bare-out-requires-clause-serials g c =
    let long = c.place_texts.ensures.long in
    let few = c.requires.few in
    omega (arith, long, few)

pub place_bare-input-requires-clause-site : goal.place_bare-input-requires-clause-site
place_bare-input-requires-clause-site g c = c.requires.fits.sites system_in (omega arith)

pub place_bare-input-requires-clause-granted : goal.place_bare-input-requires-clause-granted
place_bare-input-requires-clause-granted g c =
    covers_first (g.S.Store.storage c.place_bare-out.new.store).granted (bare_want system_in) []
    (subst (λ (granted : List Want). Covers granted (bare_want system_in ∷ [])) (sym c.place_bare-out.ensures.granted)
    (covers_rest (g.S.Store.storage c.place_texts.new.store).granted (bare_want system_out) (bare_want system_in ∷ []) c.place_texts.ensures.granted))

pub place_bare-input-requires-clause-fits : goal.place_bare-input-requires-clause-fits
place_bare-input-requires-clause-fits g c =
    subst (λ (shapes : List Shape). IsPlacedAs shapes system_in (kind_of_site c.args.program.now system_in) 0 [])
    (sym ((same_shapes c.place_bare-out.ensures.settings) ∙ (same_shapes c.place_texts.ensures.settings) ∙ (same_shapes c.place_array-array.ensures.settings))) c.requires.fits.input

pub place_bare-input-requires-clause-serials : goal.place_bare-input-requires-clause-serials
place_bare-input-requires-clause-serials g c =
    let long = c.place_texts.ensures.long in
    let few = c.requires.few in
    let longer = ap (λ (objects : List (Option Object)). length objects) c.place_bare-out.ensures.kept in
    let more = length-append (g.S.Store.storage c.place_texts.new.store).kept (Some (bare c.args.program.now system_out) ∷ []) in
    omega (arith, long, few, longer, more)

pub returns-clause-kept : goal.returns-clause-kept
returns-clause-kept g c =
    let program = c.args.program.now in
    c.place_bare-input.ensures.kept
    ∙ ap (λ (objects : List (Option Object)). objects ++ Some (bare program system_in) ∷ [])
    (c.place_bare-out.ensures.kept
    ∙ ap (λ (objects : List (Option Object)). objects ++ Some (bare program system_out) ∷ [])
    (c.place_texts.ensures.kept ∙ ap (λ (objects : List (Option Object)). with_texts program objects 0 c.args.given.now) c.place_array-array.ensures.kept))

pub returns-clause-array : goal.returns-clause-array
returns-clause-array g c =
    let count = length c.args.given.now in
    let array = c.place_array-array.result in
    let texts = (g.S.Store.storage c.place_texts.new.store).kept in
    let both = (g.S.Store.storage c.place_bare-out.new.store).kept in
    let second = (g.S.Store.storage c.place_texts.new.store).index in
    let third = (g.S.Store.storage c.place_bare-out.new.store).index in
    let fourth = (g.S.Store.storage c.place_bare-input.new.store).index in
    let has : HasArray both count =
    subst (λ (objects : List (Option Object)). HasArray objects count) (sym c.place_bare-out.ensures.kept)
    (has_behind texts (Some (bare c.args.program.now system_out) ∷ []) count c.place_texts.ensures.there) in
    let then : serial_of third array ≡ 1 =
    still texts second third c.place_bare-out.ensures.places array 1 c.place_texts.ensures.array (array_held texts count c.place_texts.ensures.there) in
    still both third fourth c.place_bare-input.ensures.places array 1 then (array_held both count has)

pub returns-clause-out : goal.returns-clause-out
returns-clause-out g c =
    let count = length c.args.given.now in
    let out = c.place_bare-out.result in
    let texts = (g.S.Store.storage c.place_texts.new.store).kept in
    let both = (g.S.Store.storage c.place_bare-out.new.store).kept in
    let third = (g.S.Store.storage c.place_bare-out.new.store).index in
    let fourth = (g.S.Store.storage c.place_bare-input.new.store).index in
    let long = c.place_texts.ensures.long in
    let serial : 2 * count + 2 ≡ length texts + 1 = omega (arith, long) in
    still both third fourth c.place_bare-input.ensures.places out (2 * count + 2) (c.place_bare-out.ensures.serial ∙ sym serial)
    (last_held texts both (bare c.args.program.now system_out) (2 * count + 2) c.place_bare-out.ensures.kept serial)

pub returns-clause-input : goal.returns-clause-input
returns-clause-input g c =
    let long = c.place_texts.ensures.long in
    let serial = c.place_bare-input.ensures.serial in
    let longer = ap (λ (objects : List (Option Object)). length objects) c.place_bare-out.ensures.kept in
    let more = length-append (g.S.Store.storage c.place_texts.new.store).kept (Some (bare c.args.program.now system_out) ∷ []) in
    omega (arith, long, serial, longer, more)

pub returns-clause-places : goal.returns-clause-places
returns-clause-places g c =
    let start = (g.S.Store.storage c.args.store.now).index in
    let first = (g.S.Store.storage c.place_array-array.new.store).index in
    let second = (g.S.Store.storage c.place_texts.new.store).index in
    let third = (g.S.Store.storage c.place_bare-out.new.store).index in
    let fourth = (g.S.Store.storage c.place_bare-input.new.store).index in
    nulls_then (g.S.Store.storage c.place_bare-out.new.store).kept start third fourth
    (nulls_then (g.S.Store.storage c.place_texts.new.store).kept start second third
    (nulls_then [] start first second c.place_array-array.ensures.places c.place_texts.ensures.places) c.place_bare-out.ensures.places)
    c.place_bare-input.ensures.places

pub returns-clause-facts : goal.returns-clause-facts
returns-clause-facts g c =
    let rules = g.S.Store.rules in
    c.place_bare-input.ensures.facts
    ∙ ap (λ facts. rules.placed facts system_in 0)
    (c.place_bare-out.ensures.facts
    ∙ ap (λ facts. rules.placed facts system_out 0)
    (c.place_texts.ensures.facts ∙ ap (λ facts. knows_texts rules facts c.args.given.now) c.place_array-array.ensures.facts))
