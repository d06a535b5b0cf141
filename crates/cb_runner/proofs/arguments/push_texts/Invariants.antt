use Rattle.std.proofs.Common.{◌≡◌, ◌++◌, map, string_bytes, take}
use Rattle.std.specs.List.{AllByRecursion}
use Rattle.cb_runner.specs.Words.{text_units}
use Rattle.cb_safety.specs.Strings.{IsText}
use Rattle.cb_runner.proofs.arguments.push_texts.Given as goal

abbrev pub invariant-loop-word : goal.invariant-loop-word
invariant-loop-word l =
    (l.texts ≡ l.fn.texts ++ map text_units (map string_bytes (take l.word-index l.fn.words)))
    × (AllByRecursion IsText l.fn.texts → AllByRecursion IsText l.texts)
