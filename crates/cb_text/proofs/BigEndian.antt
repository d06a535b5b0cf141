-- A number at the front of some bytes.
use Rattle.std.proofs.Common.{◌≡◌, ℕ, ◌^◌, ◌<◌, List, ◌++◌, length, take, drop, Option, Some, refl, sym, ◌∙◌, ap}
use Rattle.std.specs.Int.{Width, w16, w32, w64, byte_len, from_be_bytes, to_be_bytes}
use Rattle.std.proofs.lemmas.List.{take_at, drop_at}
use Rattle.std.proofs.lemmas.Option.{same_Some}
use Rattle.std.proofs.lemmas.Nat.{from_be_bytes-to_be_bytes_2, from_be_bytes-to_be_bytes_4, from_be_bytes-to_be_bytes_8}

-- the number at the front of some bytes, and what stands behind it
abbrev pub number_at : Width → List ℕ → Option (ℕ × List ℕ)
number_at w bytes = Some (from_be_bytes w (take (byte_len w) bytes), drop (byte_len w) bytes)

-- a number that is spelled at the front is read there
pub record IsWidth (w : Width) (limit : ℕ) : Type 0 where
  pub size : (number : ℕ) → length (to_be_bytes w number) ≡ byte_len w
  pub again : (number : ℕ) → number < limit → from_be_bytes w (to_be_bytes w number) ≡ number

pub width_16 : IsWidth w16 (2 ^ 16)
width_16 = record { size = λ number. refl; again = from_be_bytes-to_be_bytes_2 }

pub width_32 : IsWidth w32 (2 ^ 32)
width_32 = record { size = λ number. refl; again = from_be_bytes-to_be_bytes_4 }

pub width_64 : IsWidth w64 (2 ^ 64)
width_64 = record { size = λ number. refl; again = from_be_bytes-to_be_bytes_8 }

pub number_again : (w : Width) (limit number : ℕ) (bytes rest : List ℕ) → IsWidth w limit → number < limit → bytes ≡ to_be_bytes w number ++ rest → number_at w bytes ≡ Some (number, rest)
number_again w limit number bytes rest width fits spelled =
    let size = width.size number in
    rw (spelled, take_at (to_be_bytes w number) rest (byte_len w) size, drop_at (to_be_bytes w number) rest (byte_len w) size, width.again number fits) refl

-- so at most one number stands there
pub one_number : {w : Width} {limit one other : ℕ} {rest behind : List ℕ} → IsWidth w limit → one < limit → other < limit → to_be_bytes w one ++ rest ≡ to_be_bytes w other ++ behind → (one ≡ other) × (rest ≡ behind)
one_number {w} {limit} {one} {other} {rest} {behind} width fits fits_too same =
    let read = same_Some (one, rest) (other, behind) (sym (number_again w limit one _ rest width fits refl) ∙ number_again w limit other _ behind width fits_too same) in
    (ap (λ read. read.0) read, ap (λ read. read.1) read)
