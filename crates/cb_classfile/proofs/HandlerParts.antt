-- Entries of the exception table, by what was read of them.
use Rattle.std.proofs.Common.{◌≡◌, ◌⊎◌, ℕ, List}
use Rattle.std.specs.Option.{IsSome}
use Rattle.cb_text.specs.declared.constant.Constant.{Constant}
use Rattle.cb_classfile.specs.declared.handler.Handler.{Handler}
use Rattle.cb_classfile.specs.Code.{SpellsHandler}
use Rattle.cb_classfile.specs.Pool.{class_at}
use Rattle.cb_classfile.specs.Reading.{IsFront}
use Rattle.cb_classfile.specs.Tables.{BeginsWith, SpellsPair, Then}
use Rattle.cb_classfile.proofs.OneBody.{exact_handler}
use Rattle.cb_classfile.proofs.OneItem.{front}

-- an entry is two pairs of numbers
pub handler_parts : {pool : List Constant} {bytes rest : List ℕ} {handler : Handler} → BeginsWith (SpellsHandler pool) bytes handler rest → BeginsWith (Then SpellsPair SpellsPair) bytes ((handler.start, handler.end), (handler.handler, handler.catch_type)) rest
handler_parts (first, spelled, split) = (first, spelled.spelled, split)

pub handler_found : {pool : List Constant} {bytes rest : List ℕ} {start end handler catch_type : ℕ} → BeginsWith (Then SpellsPair SpellsPair) bytes ((start, end), (handler, catch_type)) rest → (catch_type ≡ 0) ⊎ IsSome (class_at pool catch_type) → IsFront (SpellsHandler pool) bytes (record { start = start; end = end; handler = handler; catch_type = catch_type }) rest
handler_found {pool} (first, spelled, split) catches = front (exact_handler pool) (first, record { spelled = spelled; catches = catches }, split)
