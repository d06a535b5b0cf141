use Rattle.std.proofs.Common.{false, ◌≡◌, ◌∙◌, ap, arith, sym, subst, List, ℕ, Option, MatchOption}
use Rattle.cb_asm_line.specs.Inner.{SpellUnits}
use Rattle.cb_asm_line.specs.Quoting.{name_word}
use Rattle.cb_asm_line.proofs.Units.{are_units, name_spelled, units_one}
use Rattle.cb_asm_line.proofs.word.name_of.Goals as goal

-- what is told of the units of a word
Found : List ℕ → Option (List ℕ) → Type 0
Found word found = MatchOption found ((units : List ℕ) → SpellUnits false word units → ⊥) (λ units. SpellUnits false word units)

pub returns-then-branch : goal.returns-then-branch
unfolding Found
returns-then-branch c =
    let spelled : SpellUnits false c.args.word.now c.in-Some.units = subst (Found c.args.word.now) c.in-Some.is c.in_ok-units.ensures in
    (are_units false c.args.word.now c.in-Some.units spelled, c.in_ok-says_name-in-Some.ensures.0 c.if-branch.true ∙ ap name_word c.as_slice.ensures)

pub returns-else-branch : goal.returns-else-branch
unfolding Found
returns-else-branch c = λ name fits is.
    let spelled : SpellUnits false c.args.word.now c.in-Some.units = subst (Found c.args.word.now) c.in-Some.is c.in_ok-units.ensures in
    let other : SpellUnits false c.args.word.now name = subst (λ word. SpellUnits false word name) (sym is) (name_spelled name fits) in
    let same : name ≡ c.as_slice.result.now = units_one false c.args.word.now name c.in-Some.units other spelled ∙ sym c.as_slice.ensures in
    let told = c.in_ok-says_name-in-Some.ensures.1 (is ∙ ap name_word same) in
    grind (arith, told, c.if-branch.false)

pub returns-in-None : goal.returns-in-None
unfolding Found
returns-in-None c = λ name fits is.
    let none : (units : List ℕ) → SpellUnits false c.args.word.now units → ⊥ = subst (Found c.args.word.now) c.in-None.is c.in_ok-units.ensures in
    none name (subst (λ word. SpellUnits false word name) (sym is) (name_spelled name fits))
