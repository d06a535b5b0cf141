use Rattle.std.proofs.Common.{◌≡◌, codes, string_bytes, map, ap, sym, ◌∙◌, ◌∷◌, [], arith, rules}
use Rattle.std.proofs.lemmas.Slice.Eq.{bytes_eq-Decides}
use Rattle.cb_runner.proofs.FewItems.{one}
use Rattle.cb_runner.proofs.words.is_assemble.Goals as goal

head_is : {X : Type 0} {one other : X} → one ∷ [] ≡ other ∷ [] → one ≡ other
head_is same = cc

pub returns : goal.returns
returns c =
    let words = ap (map string_bytes) (one c.args.words.now c.command-item.result (omega arith) c.command-item.is) in (
      λ same. let is_asm : string_bytes c.command-item.result ≡ codes "asm" = search (rules, bytes_eq-Decides) in words ∙ (λ i. is_asm i ∷ []),
      λ is. let is_asm : string_bytes c.command-item.result ≡ codes "asm" = head_is (sym words ∙ is) in search (rules, bytes_eq-Decides),
    )
