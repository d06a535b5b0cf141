use Rattle.cb_heap.proofs.Laws.{same_shapes, same_allows}
use Rattle.std.proofs.Common.{◌≡◌, ◌∙◌, ap, arith, refl, subst, sym, ◌+◌, ◌∷◌, ◌++◌, [], drop, length, List, ℕ, Option}
use Rattle.std.proofs.Math.Seq.{drop-length}
use Rattle.std.specs.List.{flat_map}
use Rattle.std.specs.Prelude.{option_map}
use Rattle.cb_machine.specs.Sites.{argument_characters, argument_strings, arguments}
use Rattle.cb_plain.specs.State.{Object}
use Rattle.cb_plain.specs.Updates.{object_in}
use Rattle.cb_plain.specs.declared.want.Want.{Want}
use Rattle.cb_interp.specs.Arguments.{Covers, HasArray, MayHold, knows_texts, stream_wants, text_wants, with_texts}
use Rattle.cb_interp.proofs.TurnsStarting.{nulls_then}
use Rattle.cb_interp.proofs.TurnsStartingRoom.{room_behind, room_characters, room_string}
use Rattle.cb_interp.proofs.TurnsStartingTexts.{fewer_hold, has_still, next_of, one_longer, short_of, site_still}
use Rattle.cb_interp.proofs.arguments.place_texts.Goals as goal

pub loop-i-init : goal.loop-i-init
loop-i-init g c = record {
  kept = refl;
  long = c.requires.alone;
  array = c.requires.array;
  places = λ place held. refl;
  facts = refl;
  granted = c.requires.granted;
  there = c.requires.there;
  sited = c.requires.sited;
  faults = refl;
  settings = refl;
}

pub place_argument-requires-clause-fits : goal.place_argument-requires-clause-fits
place_argument-requires-clause-fits g c = subst (MayHold c.args.program.now) (sym (same_shapes c.loop-i.invariant.settings)) c.requires.fits

pub place_argument-requires-clause-characters : goal.place_argument-requires-clause-characters
place_argument-requires-clause-characters g c =
    let given : List (List ℕ) = c.args.texts.now in
    let turn : ℕ = c.loop-i.i in
    let units : List ℕ = c.index-texts-i.result in
    let before = c.loop-i.invariant in
    let next : drop turn given ≡ units ∷ drop (turn + 1) given = next_of given turn units c.loop-i-test.true c.index-texts-i.is in
    let granted : List Want = (g.S.Store.storage c.loop-i.store).granted in
    let rest : List Want = flat_map text_wants (drop (turn + 1) given) ++ stream_wants in
    let covers : Covers granted (text_wants units ++ rest) =
    subst (λ (texts : List (List ℕ)). Covers granted (flat_map text_wants texts ++ stream_wants)) next before.granted in
    room_characters granted units rest covers

pub place_argument-requires-clause-string : goal.place_argument-requires-clause-string
place_argument-requires-clause-string g c =
    let given : List (List ℕ) = c.args.texts.now in
    let turn : ℕ = c.loop-i.i in
    let units : List ℕ = c.index-texts-i.result in
    let before = c.loop-i.invariant in
    let next : drop turn given ≡ units ∷ drop (turn + 1) given = next_of given turn units c.loop-i-test.true c.index-texts-i.is in
    let granted : List Want = (g.S.Store.storage c.loop-i.store).granted in
    let rest : List Want = flat_map text_wants (drop (turn + 1) given) ++ stream_wants in
    let covers : Covers granted (text_wants units ++ rest) =
    subst (λ (texts : List (List ℕ)). Covers granted (flat_map text_wants texts ++ stream_wants)) next before.granted in
    room_string granted units rest covers

pub place_argument-requires-clause-there : goal.place_argument-requires-clause-there
place_argument-requires-clause-there g c =
    fewer_hold (g.S.Store.storage c.loop-i.store).kept (length c.args.texts.now) c.loop-i.i c.loop-i-test.true c.loop-i.invariant.there

pub place_argument-requires-clause-serials : goal.place_argument-requires-clause-serials
place_argument-requires-clause-serials g c =
    let low = c.loop-i-test.true in
    let long = c.loop-i.invariant.long in
    let few = c.requires.few in
    omega (arith, low, long, few)

pub place_argument-requires-clause-short : goal.place_argument-requires-clause-short
place_argument-requires-clause-short g c =
    let few = short_of c.args.texts.now c.loop-i.i c.index-texts-i.result c.requires.short c.loop-i-test.true c.index-texts-i.is in
    omega (arith, few)

pub place_argument-requires-clause-refers : goal.place_argument-requires-clause-refers
place_argument-requires-clause-refers g c =
    let low = c.loop-i-test.true in
    ap (λ allows. allows arguments argument_strings) (same_allows c.loop-i.invariant.settings) ∙ c.requires.refers (omega (arith, low))

pub place_argument-requires-clause-holds : goal.place_argument-requires-clause-holds
place_argument-requires-clause-holds g c =
    let low = c.loop-i-test.true in
    ap (λ allows. allows argument_strings argument_characters) (same_allows c.loop-i.invariant.settings) ∙ c.requires.holds (omega (arith, low))

pub loop-i-preserved : goal.loop-i-preserved
loop-i-preserved g c =
    let given : List (List ℕ) = c.args.texts.now in
    let turn : ℕ = c.loop-i.i in
    let units : List ℕ = c.index-texts-i.result in
    let before = c.loop-i.invariant in
    let next : drop turn given ≡ units ∷ drop (turn + 1) given = next_of given turn units c.loop-i-test.true c.index-texts-i.is in
    let granted : List Want = (g.S.Store.storage c.loop-i.store).granted in
    let rest : List Want = flat_map text_wants (drop (turn + 1) given) ++ stream_wants in
    let covers : Covers granted (text_wants units ++ rest) =
    subst (λ (texts : List (List ℕ)). Covers granted (flat_map text_wants texts ++ stream_wants)) next before.granted in
    let program = c.args.program.now in
    let objects : List (Option Object) = (g.S.Store.storage c.loop-i.store).kept in
    let did = c.place_argument.ensures in
    record {
      kept = ap (λ (objects : List (Option Object)). with_texts program objects (turn + 1) (drop (turn + 1) given)) did.kept
          ∙ ap (with_texts program objects turn) (sym next) ∙ before.kept;
      long =
          let longer = ap (λ (objects : List (Option Object)). length objects) did.kept in
          let more = one_longer program objects turn units in
          let old = before.long in
          omega (arith, longer, more, old);
      array = did.array;
      places = nulls_then objects (g.S.Store.storage c.args.store.now).index (g.S.Store.storage c.loop-i.store).index (g.S.Store.storage c.place_argument.new.store).index before.places did.places;
      facts = ap (λ facts. knows_texts g.S.Store.rules facts (drop (turn + 1) given)) did.facts
          ∙ ap (knows_texts g.S.Store.rules (g.S.Store.storage c.loop-i.store).facts) (sym next) ∙ before.facts;
      granted = subst (λ (granted : List Want). Covers granted rest) (sym did.granted) (room_behind granted units rest covers);
      sited = ap (λ (objects : List (Option Object)). option_map (λ (object : Object). object.site) (object_in objects 1)) did.kept
          ∙ site_still program objects turn units (length given) arguments before.there before.sited;
      there = subst (λ (objects : List (Option Object)). HasArray objects (length given)) (sym did.kept) (has_still program objects turn units (length given) before.there);
      faults = did.faults ∙ before.faults;
      settings = did.settings ∙ before.settings;
    }

pub returns-clause-kept : goal.returns-clause-kept
returns-clause-kept g c =
    let given : List (List ℕ) = c.args.texts.now in
    let end : c.loop-i.i ≡ length given = omega arith in
    let none : drop c.loop-i.i given ≡ [] = ap (λ (place : ℕ). drop place given) end ∙ drop-length given in
    sym (ap (with_texts c.args.program.now (g.S.Store.storage c.loop-i.store).kept c.loop-i.i) none) ∙ c.loop-i.invariant.kept

pub returns-clause-facts : goal.returns-clause-facts
returns-clause-facts g c =
    let given : List (List ℕ) = c.args.texts.now in
    let end : c.loop-i.i ≡ length given = omega arith in
    let none : drop c.loop-i.i given ≡ [] = ap (λ (place : ℕ). drop place given) end ∙ drop-length given in
    sym (ap (knows_texts g.S.Store.rules (g.S.Store.storage c.loop-i.store).facts) none) ∙ c.loop-i.invariant.facts

pub returns-clause-granted : goal.returns-clause-granted
returns-clause-granted g c =
    let given : List (List ℕ) = c.args.texts.now in
    let end : c.loop-i.i ≡ length given = omega arith in
    let none : drop c.loop-i.i given ≡ [] = ap (λ (place : ℕ). drop place given) end ∙ drop-length given in
    subst (λ (texts : List (List ℕ)). Covers (g.S.Store.storage c.loop-i.store).granted (flat_map text_wants texts ++ stream_wants)) none
    c.loop-i.invariant.granted
