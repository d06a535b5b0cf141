use Rattle.std.proofs.Common.{sym, ◌∙◌, refl}
use Rattle.cb_text.proofs.Decoding.{stops, decoded_all}
use Rattle.cb_text.proofs.Lists.{nothing, something}
use Rattle.cb_text.proofs.Spelling.{text_same}
use Rattle.cb_text.proofs.text.decode_modified.Goals as goal

pub returns-in_default-clause-exact : goal.returns-in_default-clause-exact
returns-in_default-clause-exact c = λ units fit spelled.
    let some = something _ c.loop-rest-test.ensures in
    absurd (stops _ _ _ c.loop-rest.invariant.0 some c.in_default.ensures units fit spelled)

pub returns-in_default-clause-bad : goal.returns-in_default-clause-bad
returns-in_default-clause-bad c =
    let some = something _ c.loop-rest-test.ensures in
    (λ is. (λ memory. cc, stops _ _ _ c.loop-rest.invariant.0 some c.in_default.ensures), λ none. refl)

pub returns-clause-exact : goal.returns-clause-exact
returns-clause-exact c = λ units fit spelled.
    let found = decoded_all _ _ _ c.loop-rest.invariant.0 (nothing _ c.loop-rest-test.ensures) in
    c.of.ensures ∙ text_same _ units found.0 fit (sym found.1 ∙ spelled)
