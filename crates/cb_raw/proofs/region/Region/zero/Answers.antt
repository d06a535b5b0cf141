use Rattle.std.proofs.Common.{◌≡◌, ◌+◌, ◌-◌, ◌∙◌, sym, ap, arith, ℕ, List, length, vec_len, length-append}
use Rattle.std.proofs.lemmas.List.{length-replicate, with_items_is}
use Rattle.cb_raw.specs.Words.{RawWords}
use Rattle.cb_raw.proofs.Zeros.{zeroed_in_front}
use Rattle.cb_raw.proofs.region.Region.zero.Goals as goal

pub returns-clause-words : goal.returns-clause-words
returns-clause-words c =
    let items : List ℕ = c.self.inside.words.items in
    let behind : ℕ = c.self.inside.room - vec_len c.self.inside.words in
    let lens : vec_len c.self.inside.words ≡ length c.self.inside.words.items = c.self.inside.words.ok.0 in
    let all : length c.args.self.now.words ≡ length c.self.inside.words.items + (c.self.inside.room - vec_len c.self.inside.words) =
    ap (λ (r : RawWords). length r.words) (sym c.self.view_is) ∙ simp (length-append, length-replicate) in
    let kept : length c.clear.new.words ≡ vec_len c.self.inside.words = c.clear.auto.words ∙ c.as_mut_slice.ensures.len in
    let laid = with_items_is c.self.inside.words c.clear.new.words kept in
    let front = zeroed_in_front items behind c.args.from c.args.count (omega (arith, c.requires)) in
    let seen = ap (λ (r : RawWords). r.words) c.self.view_is in
    cc (c.clear.ensures, c.touch.ensures.words)
