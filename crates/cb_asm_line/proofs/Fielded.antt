-- The words of fields.
use Rattle.std.proofs.Common.{◌≡◌, sym, refl, subst, ◌∷◌, Option, Some, None, MatchOption, Result, Ok, Err, IfOk}
use Rattle.cb_asm_line.specs.Lines.{Line, Word}
use Rattle.cb_asm_line.specs.Said.{IsField, SaysField, SaysOptional}
use Rattle.cb_asm_line.specs.declared.program.FieldText.{FieldText}
use Rattle.cb_asm_line.specs.declared.operand.Value.{Value}

found : (words : Line) (a b c : Word) (rest : Line) (value : Option Value) (given : Option FieldText) → words ≡ a ∷ b ∷ c ∷ rest → SaysOptional rest value
    → MatchOption given ((line : FieldText) → SaysField a b c value line → ⊥) (λ line. SaysField a b c value line)
    → MatchOption given ((line : FieldText) → IsField words line → ⊥) (λ line. IsField words line)
found words a b c rest value None are has none = λ line is.
    let one : a ≡ is.first = cc (are, is.are) in let two : b ≡ is.second = cc (are, is.are) in let three : c ≡ is.third = cc (are, is.are) in
    let says : SaysField is.first is.second is.third value (record line { value = value }) = record { flags = is.says.flags; name = is.says.name; descriptor = is.says.descriptor; has = refl } in
    none (record line { value = value }) (subst (λ each. SaysField each b c value (record line { value = value })) (sym one) (subst (λ each. SaysField is.first each c value (record line { value = value })) (sym two) (subst (λ each. SaysField is.first is.second each value (record line { value = value })) (sym three) says)))
found words a b c rest value (Some line) are has says = record {
  first = a;
  second = b;
  third = c;
  rest = rest;
  are = are;
  says = record { flags = says.flags; name = says.name; descriptor = says.descriptor; has = refl };
  value = subst (SaysOptional rest) (sym says.has) has;
}

pub field_read : {E : Type 0} (words : Line) (a b c : Word) (rest : Line) (value : Option Value) (result : Result (Option FieldText) E) → words ≡ a ∷ b ∷ c ∷ rest → SaysOptional rest value
    → IfOk result (λ given. MatchOption given ((line : FieldText) → SaysField a b c value line → ⊥) (λ line. SaysField a b c value line))
    → IfOk result (λ given. MatchOption given ((line : FieldText) → IsField words line → ⊥) (λ line. IsField words line))
field_read words a b c rest value (Err fault) are has told = tt
field_read words a b c rest value (Ok given) are has told = found words a b c rest value given are has told
