use Rattle.std.proofs.Common.{◌≡◌, ◌++◌, take, string_bytes}
use Rattle.std.specs.List.{flat_map}
use Rattle.cb_asm_list.specs.Inner.{catch_text}
use Rattle.cb_asm_list.proofs.body.push_catches.Given as goal

abbrev pub invariant-loop-handler : goal.invariant-loop-handler
invariant-loop-handler l = string_bytes l.text ≡ string_bytes l.initial.text ++ flat_map (catch_text l.class l.labels) (take l.handler-index l.handlers)
