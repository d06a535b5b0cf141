use Rattle.std.proofs.Common.{◌≡◌, ◌∙◌, ap, subst, sym, ◌+◌, ◌∷◌, drop, List, ℕ}
use Rattle.std.specs.List.{flat_map, fold}
use Rattle.cb_plain.specs.Requests.{add_want}
use Rattle.cb_plain.specs.declared.want.Want.{Want}
use Rattle.cb_interp.specs.Arguments.{AskedFor, text_wants}
use Rattle.cb_interp.proofs.TurnsStartingRoom.{asked_more, few_asked}
use Rattle.cb_interp.proofs.TurnsStartingTexts.{next_of, short_of}
use Rattle.cb_interp.proofs.arguments.ask_texts.Goals as goal

pub ask_text-requires-clause-short : goal.ask_text-requires-clause-short
ask_text-requires-clause-short c = short_of c.args.texts.now c.loop-i.i c.index-texts-i.result c.requires.short c.loop-i-test.true c.index-texts-i.is

pub loop-i-preserved : goal.loop-i-preserved
loop-i-preserved c =
    let given = c.args.texts.now in
    let turn = c.loop-i.i in
    let units : List ℕ = c.index-texts-i.result in
    let request : List Want = c.loop-i.request in
    let next : drop turn given ≡ units ∷ drop (turn + 1) given = next_of given turn units c.loop-i-test.true c.index-texts-i.is in
    record {
      wants = ap (λ (request : List Want). fold add_want request (flat_map text_wants (drop (turn + 1) given))) c.ask_text.ensures
          ∙ ap (λ (rest : List (List ℕ)). fold add_want request (flat_map text_wants rest)) (sym next) ∙ c.loop-i.invariant.wants;
      asked = subst AskedFor (sym c.ask_text.ensures) (asked_more request units c.loop-i.invariant.asked);
    }

pub returns-clause-few : goal.returns-clause-few
returns-clause-few c = few_asked c.loop-i.request c.loop-i.invariant.asked
