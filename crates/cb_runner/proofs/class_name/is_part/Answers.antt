use Rattle.std.proofs.Common.{rules, tests, ◌≡◌, ◌<◌, ℕ, Bool, not, List, [], ◌∷◌, length, arith}
use Rattle.std.specs.List.{list_all}
use Rattle.std.proofs.lemmas.Iterator.{YieldsList-from_slice}
use Rattle.std.proofs.lemmas.Iterator.Search.{all_from_yields_List}
use Rattle.cb_runner.specs.Words.{is_barred, is_part}
use Rattle.cb_runner.proofs.class_name.is_part.Goals as goal

some_part : (part : List ℕ) (whole : Bool) → 0 < length part → whole ≡ list_all (λ sign. not (is_barred sign)) part → whole ≡ is_part part
some_part [] whole some is = absurd (omega arith)
some_part (sign ∷ part) whole some is = is

pub returns-then-not-is_empty : goal.returns-then-not-is_empty
returns-then-not-is_empty c =
    let all = all_from_yields_List (λ sign. not (is_barred sign)) _ _ c.all.result c.all.ensures.ran (YieldsList-from_slice c.args.part.now cc) (λ x b q k. search (rules, tests)) in
    some_part c.args.part.now c.all.result (search rules) all
