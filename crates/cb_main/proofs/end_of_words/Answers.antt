use Rattle.std.proofs.Common.{◌∙◌, ◌⊎◌, ap, drop, map, string_bytes, subst, sym}
use Rattle.cb_runner.specs.Words.{AreFew, SaysNone, SaysRun}
use Rattle.cb_main.proofs.end_of_words.Goals as goal

pub returns-in-Ok-clause-usage : goal.returns-in-Ok-clause-usage
returns-in-Ok-clause-usage c =
    let same = c.behind_name.ensures ∙ ap (drop 1) c.as_slice.ensures.value in
    rw c.in-Ok.is (λ status few.
    subst (λ words. SaysNone (map string_bytes words) ⊎ SaysRun (map string_bytes words)) same
    (c.run.ensures.usage status (subst (λ words. AreFew (map string_bytes words)) (sym same) few)))

pub returns-in-Ok-clause-many : goal.returns-in-Ok-clause-many
returns-in-Ok-clause-many c =
    let same = c.behind_name.ensures ∙ ap (drop 1) c.as_slice.ensures.value in
    rw c.in-Ok.is (λ many. c.run.ensures.many (λ few. many (subst (λ words. AreFew (map string_bytes words)) same few)))

pub returns-in-Ok-clause-none : goal.returns-in-Ok-clause-none
returns-in-Ok-clause-none c = rw c.in-Ok.is (λ none. c.run.ensures.none (rw c.behind_name.ensures (rw c.as_slice.ensures.value none)))
