use Rattle.std.proofs.Common.{◌≡◌, ◌∙◌, ap, ◌+◌, ◌-◌, ◌*◌, ◌^◌, min, ℕ}
use Rattle.cb_plain.specs.Requests.{add_want}
use Rattle.cb_plain.specs.State.{words_of}
use Rattle.cb_interp.proofs.TurnsNestedRoom.{asks_rows}
use Rattle.cb_interp.proofs.nested_turns.ask_rows.Goals as goal

pub returns-then-count-gt0 : goal.returns-then-count-gt0
returns-then-count-gt0 c =
    let words : c.saturating_mul.result ≡ min (c.args.count * words_of c.args.size) (2 ^ 64 - 1) =
    c.saturating_mul.ensures ∙ ap (λ (size : ℕ). min (c.args.count * (3 + size)) (2 ^ 64 - 1)) c.from-words.ensures in
    c.add.ensures ∙ ap (λ (words : ℕ). add_want c.args.request.now (record { site = c.args.site; words = words })) words
    ∙ asks_rows c.args.request.now c.args.site c.args.size c.args.count c.if-count-gt0.true
