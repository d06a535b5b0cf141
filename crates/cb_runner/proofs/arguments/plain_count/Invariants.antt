use Rattle.std.proofs.Common.{◌≡◌, string_bytes}
use Rattle.std.specs.List.{AllWithin}
use Rattle.cb_runner.specs.Words.{IsDashed}
use Rattle.cb_runner.proofs.arguments.plain_count.Given as goal

abbrev pub invariant-loop-word : goal.invariant-loop-word
invariant-loop-word l = (l.count ≡ l.word-index) × AllWithin (λ word. ¬ IsDashed (string_bytes word)) l.fn.words 0 l.word-index
