-- A reader that was read to its end.
use Rattle.std.proofs.Common.{◌≡◌, ℕ, ◌<◌, ◌≤◌, List, length, take, Option, Some, None, sym, ap, ◌∙◌, arith, length-take}
use Rattle.std.specs.Prelude.{IfSome}
use Rattle.std.specs.Option.{option_map}
use Rattle.std.proofs.lemmas.List.{take_all}

-- where fewer bytes came than were asked for, they are all that the reader had
pub all_read : (most limit : ℕ) (known : Option (List ℕ)) (bytes : List ℕ) → IfSome (option_map (take most) known) (λ xs. bytes ≡ xs) → length bytes < most → length bytes ≤ limit → IfSome known (λ xs. (Some xs ≡ Some bytes) × (length bytes ≤ limit))
all_read most limit None bytes read fewer within = tt
all_read most limit (Some xs) bytes read fewer within =
    let all : length xs ≤ most = omega (arith, ap length read, length-take most xs) in
    (ap Some (sym (take_all most xs all) ∙ sym read), within)
