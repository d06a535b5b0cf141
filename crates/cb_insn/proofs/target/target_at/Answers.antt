use Rattle.std.proofs.Common.{◌≡◌, ◌<◌, ◌≤◌, sym, ◌∙◌, ap, ◌^◌, ℕ, ℤ, Bool, true, false, List, length, slice_index_or, refl, arith, ◌+ℤ◌, pos, FitsSigned}
use Rattle.std.specs.Int.{w32, w64, cast_signed, cast_unsigned}
use Rattle.std.specs.Int.RustNames.{unsigned_abs}
use lib.Signed.{lt_z, le_z}
use Rattle.std.proofs.lemmas.Int.{ints}
use Rattle.std.proofs.lemmas.List.{get_or_past}
use Rattle.cb_insn.specs.Inner.{IsMarked}
use Rattle.cb_insn.proofs.target.target_at.Goals as goal
use Rattle.cb_insn.proofs.target.target_at.Goals.{then-target-lt0-via-then-target-lt0, then-target-lt0-via-else-target-lt0+then-target-starts, then-target-lt0-via-else-target-lt0+else-target-starts+then-not-starts-target}

-- the sum of a place and an offset is reckoned in eight bytes
is_reckoned : (pc : ℕ) (offset wide : ℤ) (place : ℕ) → pc < 2 ^ 32 → FitsSigned w32 offset → wide ≡ cast_signed w32 (cast_unsigned w32 offset) → pos pc +ℤ offset ≡ pos place → cast_signed w64 (cast_unsigned w64 (cast_signed w64 pc +ℤ cast_signed w64 (cast_unsigned w64 wide))) ≡ pos place
is_reckoned pc offset wide place small fits is_wide is = omega (arith, ints)

by_negative : (pc : ℕ) (offset wide : ℤ) (place : ℕ) → pc < 2 ^ 32 → FitsSigned w32 offset → wide ≡ cast_signed w32 (cast_unsigned w32 offset) → pos pc +ℤ offset ≡ pos place → lt_z (cast_signed w64 (cast_unsigned w64 (cast_signed w64 pc +ℤ cast_signed w64 (cast_unsigned w64 wide)))) (pos 0) ≡ true → ⊥
by_negative pc offset wide place small fits is_wide is negative = let same = is_reckoned pc offset wide place small fits is_wide is in grind (arith, ints)

by_length : (starts : List Bool) (pc : ℕ) (offset wide : ℤ) (place : ℕ) → pc < 2 ^ 32 → length starts < 2 ^ 32 → FitsSigned w32 offset → wide ≡ cast_signed w32 (cast_unsigned w32 offset) → pos pc +ℤ offset ≡ pos place → le_z (cast_signed w64 (length starts)) (cast_signed w64 (cast_unsigned w64 (cast_signed w64 pc +ℤ cast_signed w64 (cast_unsigned w64 wide)))) ≡ true → slice_index_or starts place false ≡ true → ⊥
by_length starts pc offset wide place small few fits is_wide is beyond marked =
    let same = is_reckoned pc offset wide place small fits is_wide is in
    let past : length starts ≤ place = grind (arith, ints) in
    let unmarked : slice_index_or starts place false ≡ false = get_or_past starts place false past in
    let both : false ≡ true = sym unmarked ∙ marked in
    cc

by_mark : (starts : List Bool) (pc : ℕ) (offset wide : ℤ) (place : ℕ) → pc < 2 ^ 32 → FitsSigned w32 offset → wide ≡ cast_signed w32 (cast_unsigned w32 offset) → pos pc +ℤ offset ≡ pos place → slice_index_or starts (unsigned_abs (cast_signed w64 (cast_unsigned w64 (cast_signed w64 pc +ℤ cast_signed w64 (cast_unsigned w64 wide))))) false ≡ false → slice_index_or starts place false ≡ true → ⊥
by_mark starts pc offset wide place small fits is_wide is unmarked marked =
    let same = ap unsigned_abs (is_reckoned pc offset wide place small fits is_wide is) in
    let both : false ≡ true = sym unmarked ∙ ap (λ at. slice_index_or starts at false) same ∙ marked in
    cc

pub returns-then-target-lt0-clause-err : goal.returns-then-target-lt0-clause-err
returns-then-target-lt0-clause-err c =
    let astray : IsMarked c.args.starts.now (pos c.args.pc +ℤ c.args.offset) → ⊥ = λ m. elim c.then-target-lt0.branch [
      | then-target-lt0-via-then-target-lt0 w ↦ by_negative _ c.args.offset c.from.result m.place c.requires.place c.ranges.offset c.from.ensures m.is w.if-target-lt0.true
      | then-target-lt0-via-else-target-lt0+then-target-starts w ↦ by_length c.args.starts.now _ c.args.offset c.from.result m.place c.requires.place c.requires.few c.ranges.offset c.from.ensures m.is w.if-target-starts.true m.marked
      | then-target-lt0-via-else-target-lt0+else-target-starts+then-not-starts-target w ↦ by_mark c.args.starts.now _ c.args.offset c.from.result m.place c.requires.place c.ranges.offset c.from.ensures m.is w.if-not-starts-target.true m.marked
    ] in
    (refl, ((pos c.args.pc +ℤ c.args.offset), (0, omega arith, refl), astray))
