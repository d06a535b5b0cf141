use Rattle.std.proofs.Common.{true, ◌≡◌, ◌∙◌, ap, arith, sym, subst, List, ℕ, Option, MatchOption}
use Rattle.cb_asm_line.specs.Inner.{SpellUnits}
use Rattle.std.specs.List.{flat_map}
use Rattle.cb_asm_line.specs.Quoting.{quoted_unit}
use Rattle.cb_asm_line.proofs.Units.{are_units, text_spelled, units_one}
use Rattle.cb_asm_line.proofs.word.text_within.Goals as goal

-- what is told of the units of a word
Found : List ℕ → Option (List ℕ) → Type 0
Found word found = MatchOption found ((units : List ℕ) → SpellUnits true word units → ⊥) (λ units. SpellUnits true word units)

pub returns-then-branch : goal.returns-then-branch
unfolding Found
returns-then-branch c =
    let spelled : SpellUnits true c.args.word.now c.in-Some.units = subst (Found c.args.word.now) c.in-Some.is c.in_ok-units.ensures in
    (are_units true c.args.word.now c.in-Some.units spelled, c.in_ok-says_text-in-Some.ensures.0 c.if-branch.true ∙ ap (flat_map quoted_unit) c.as_slice.ensures)

pub returns-else-branch : goal.returns-else-branch
unfolding Found
returns-else-branch c = λ name fits is.
    let spelled : SpellUnits true c.args.word.now c.in-Some.units = subst (Found c.args.word.now) c.in-Some.is c.in_ok-units.ensures in
    let other : SpellUnits true c.args.word.now name = subst (λ word. SpellUnits true word name) (sym is) (text_spelled name fits) in
    let same : name ≡ c.as_slice.result.now = units_one true c.args.word.now name c.in-Some.units other spelled ∙ sym c.as_slice.ensures in
    let told = c.in_ok-says_text-in-Some.ensures.1 (is ∙ ap (flat_map quoted_unit) same) in
    grind (arith, told, c.if-branch.false)

pub returns-in-None : goal.returns-in-None
unfolding Found
returns-in-None c = λ name fits is.
    let none : (units : List ℕ) → SpellUnits true c.args.word.now units → ⊥ = subst (Found c.args.word.now) c.in-None.is c.in_ok-units.ensures in
    none name (subst (λ word. SpellUnits true word name) (sym is) (text_spelled name fits))
