-- Numbers and the bytes that spell them.
use Rattle.std.proofs.Common.{◌≡◌, ℕ, zero, suc, length-take, ◌<◌, ◌≤◌, ◌^◌, ℤ, List, [], ◌∷◌, ◌++◌, length, take, drop, get_or, refl, sym, ◌∙◌, ap, arith, FitsSigned, rules, length-drop}
use Rattle.std.specs.Int.{w16, w32, cast_signed, cast_unsigned, to_be_bytes, from_be_bytes}
use Rattle.std.proofs.Math.Seq.{take-add}
use Rattle.std.proofs.lemmas.Int.{to_z-of_z, of_z-to_z, ints}
use Rattle.std.proofs.lemmas.Nat.{be_bytes_2, be_bytes_4, from_be_bytes-to_be_bytes_2, from_be_bytes-to_be_bytes_4}
use Rattle.cb_insn.specs.Grammar.{u2, s2, s4}
use Rattle.cb_insn.specs.Faults.{u2_at, s2_at, s4_at}

-- each byte is below 256
abbrev pub IsBytes : List ℕ → Type 0
IsBytes bytes = (i : ℕ) → get_or bytes i 0 < 256

pub take_bytes : (n : ℕ) (bytes : List ℕ) → IsBytes bytes → IsBytes (take n bytes)
take_bytes zero bytes are i = omega arith
take_bytes (suc n) [] are i = omega arith
take_bytes (suc n) (byte ∷ bytes) are zero = are 0
take_bytes (suc n) (byte ∷ bytes) are (suc i) = take_bytes n bytes (λ k. are (suc k)) i

pub drop_bytes : (n : ℕ) (bytes : List ℕ) → IsBytes bytes → IsBytes (drop n bytes)
drop_bytes zero bytes are = are
drop_bytes (suc n) [] are = are
drop_bytes (suc n) (byte ∷ bytes) are = drop_bytes n bytes (λ k. are (suc k))

-- what a number spells is read again
pub u2_front : (n : ℕ) (rest : List ℕ) → n < 2 ^ 16 → u2_at (u2 n ++ rest) ≡ n
u2_front n rest fits = from_be_bytes-to_be_bytes_2 n fits

pub s2_front : (z : ℤ) (rest : List ℕ) → FitsSigned w16 z → s2_at (s2 z ++ rest) ≡ z
s2_front z rest fits =
    let below : cast_unsigned w16 z < 2 ^ 16 = omega (arith, ints) in
    ap (cast_signed w16) (from_be_bytes-to_be_bytes_2 (cast_unsigned w16 z) below) ∙ to_z-of_z w16 z fits

pub s4_front : (z : ℤ) (rest : List ℕ) → FitsSigned w32 z → s4_at (s4 z ++ rest) ≡ z
s4_front z rest fits =
    let below : cast_unsigned w32 z < 2 ^ 32 = omega (arith, ints) in
    ap (cast_signed w32) (from_be_bytes-to_be_bytes_4 (cast_unsigned w32 z) below) ∙ to_z-of_z w32 z fits

-- and what is read fits and is spelled so
pub u2_below : (bytes : List ℕ) → IsBytes bytes → u2_at bytes < 2 ^ 16
u2_below bytes are = omega (arith, take_bytes 2 bytes are 0, take_bytes 2 bytes are 1)

pub u2_back : (bytes : List ℕ) → IsBytes bytes → 2 ≤ length bytes → u2 (u2_at bytes) ≡ take 2 bytes
u2_back bytes are long = be_bytes_2 (take 2 bytes) (u2_at bytes) (omega (arith, length-take 2 bytes)) (take_bytes 2 bytes are) refl

pub s2_back : (bytes : List ℕ) → IsBytes bytes → 2 ≤ length bytes → s2 (s2_at bytes) ≡ take 2 bytes
s2_back bytes are long = ap (to_be_bytes w16) (of_z-to_z w16 (u2_at bytes) (u2_below bytes are)) ∙ u2_back bytes are long

pub s2_fits : (bytes : List ℕ) → IsBytes bytes → FitsSigned w16 (s2_at bytes)
s2_fits bytes are = let below = u2_below bytes are in search (rules, ints)

u4_below : (bytes : List ℕ) → IsBytes bytes → from_be_bytes w32 (take 4 bytes) < 2 ^ 32
u4_below bytes are = omega (arith, take_bytes 4 bytes are 0, take_bytes 4 bytes are 1, take_bytes 4 bytes are 2, take_bytes 4 bytes are 3)

pub s4_back : (bytes : List ℕ) → IsBytes bytes → 4 ≤ length bytes → s4 (s4_at bytes) ≡ take 4 bytes
s4_back bytes are long = ap (to_be_bytes w32) (of_z-to_z w32 (from_be_bytes w32 (take 4 bytes)) (u4_below bytes are)) ∙ be_bytes_4 (take 4 bytes) _ (omega (arith, length-take 4 bytes)) (take_bytes 4 bytes are) refl

pub s4_fits : (bytes : List ℕ) → IsBytes bytes → FitsSigned w32 (s4_at bytes)
s4_fits bytes are = let below = u4_below bytes are in search (rules, ints)

-- two such numbers, one behind the other
pub two_back : (bytes : List ℕ) → IsBytes bytes → 8 ≤ length bytes → s4 (s4_at bytes) ++ s4 (s4_at (drop 4 bytes)) ≡ take 8 bytes
two_back bytes are long =
    ap (λ b. b ++ s4 (s4_at (drop 4 bytes))) (s4_back bytes are (omega arith))
    ∙ ap (λ b. take 4 bytes ++ b) (s4_back (drop 4 bytes) (drop_bytes 4 bytes are) (omega (arith, length-drop 4 bytes)))
    ∙ sym (take-add 4 4 bytes)
