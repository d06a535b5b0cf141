-- What so many words say, which are known one by one.
use Rattle.std.proofs.Common.{◌≡◌, sym, subst, [], ◌∷◌, Option, Some, None, MatchOption, Result, Ok, Err, IfOk}
use Rattle.cb_asm_line.specs.Lines.{Line, Word}
use Rattle.cb_asm_line.specs.Said.{Four, Three}

-- three
three_found : {T : Type 0} (Says : Word → Word → Word → T → Type 0) (words : Line) (a b c : Word) (found : Option T) → words ≡ a ∷ b ∷ c ∷ []
    → MatchOption found ((line : T) → Says a b c line → ⊥) (λ line. Says a b c line)
    → MatchOption found ((line : T) → Three Says words line → ⊥) (λ line. Three Says words line)
three_found Says words a b c None are none = λ line is.
    let one : a ≡ is.first = cc (are, is.are) in let two : b ≡ is.second = cc (are, is.are) in let three : c ≡ is.third = cc (are, is.are) in
    none line (subst (λ each. Says each b c line) (sym one) (subst (λ each. Says is.first each c line) (sym two) (subst (λ each. Says is.first is.second each line) (sym three) is.says)))
three_found Says words a b c (Some line) are says = record { first = a; second = b; third = c; are = are; says = says }

pub three_read : {T E : Type 0} (Says : Word → Word → Word → T → Type 0) (words : Line) (a b c : Word) (result : Result (Option T) E) → words ≡ a ∷ b ∷ c ∷ []
    → IfOk result (λ found. MatchOption found ((line : T) → Says a b c line → ⊥) (λ line. Says a b c line))
    → IfOk result (λ found. MatchOption found ((line : T) → Three Says words line → ⊥) (λ line. Three Says words line))
three_read Says words a b c (Err fault) are told = tt
three_read Says words a b c (Ok found) are told = three_found Says words a b c found are told

-- four
four_found : {T : Type 0} (Says : Word → Word → Word → Word → T → Type 0) (words : Line) (a b c d : Word) (found : Option T) → words ≡ a ∷ b ∷ c ∷ d ∷ []
    → MatchOption found ((line : T) → Says a b c d line → ⊥) (λ line. Says a b c d line)
    → MatchOption found ((line : T) → Four Says words line → ⊥) (λ line. Four Says words line)
four_found Says words a b c d None are none = λ line is.
    let one : a ≡ is.first = cc (are, is.are) in let two : b ≡ is.second = cc (are, is.are) in let three : c ≡ is.third = cc (are, is.are) in let four : d ≡ is.fourth = cc (are, is.are) in
    none line (subst (λ each. Says each b c d line) (sym one) (subst (λ each. Says is.first each c d line) (sym two) (subst (λ each. Says is.first is.second each d line) (sym three) (subst (λ each. Says is.first is.second is.third each line) (sym four) is.says))))
four_found Says words a b c d (Some line) are says = record { first = a; second = b; third = c; fourth = d; are = are; says = says }

pub four_read : {T E : Type 0} (Says : Word → Word → Word → Word → T → Type 0) (words : Line) (a b c d : Word) (result : Result (Option T) E) → words ≡ a ∷ b ∷ c ∷ d ∷ []
    → IfOk result (λ found. MatchOption found ((line : T) → Says a b c d line → ⊥) (λ line. Says a b c d line))
    → IfOk result (λ found. MatchOption found ((line : T) → Four Says words line → ⊥) (λ line. Four Says words line))
four_read Says words a b c d (Err fault) are told = tt
four_read Says words a b c d (Ok found) are told = four_found Says words a b c d found are told
