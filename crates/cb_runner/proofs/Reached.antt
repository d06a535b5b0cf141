-- A run over any store: the machine that never frees makes its steps, and an input that tells its bytes has lost what was read.
use Rattle.std.proofs.Common.{◌++◌, ℕ, List, [], Option}
use Rattle.std.specs.Io.KnownBytes.{Consumes}
use Rattle.std.proofs.KnownBytes.{Consumes-nil, Consumes-trans}
use Rattle.cb_act.specs.Turning.{Moment}
use Rattle.cb_heap.specs.Rules.{Rules}
use Rattle.cb_interp.specs.Running.{Begins, Goes, Reads, Went}
use Rattle.cb_machine.specs.Machine.{Machine}
use Rattle.cb_plain.specs.State.{State}
use Rattle.cb_runner.specs.Running.{Begins as AtStart, Goes as Behind, Reaches, Reads as Given}

module _ {In Facts : Type 0} (left : In → Option (List ℕ)) (gave : In → ℕ → List ℕ → In → Type 0) (rules : Rules Facts) (machine : Machine) (first : Moment Facts) (start : State) (source : In) where
  pub reaches : (count : ℕ) (read : List ℕ) (moment : Moment Facts) (state : State) (last : In) → Went left gave rules machine first start source count read moment state last
      → Reaches left gave machine start source count read state last
  reaches count read moment state last Begins = AtStart
  reaches count read moment state last (Goes before taken mid own here after input went asks turn steps stands) = Behind before taken here state input (reaches before taken mid here input went) asks steps
  reaches count read moment state last (Reads before taken more rest mid own here after input behind went asks is_given turn steps unread stands) =
      Given before taken more rest here state input last (reaches before taken mid here input went) asks is_given steps unread

  pub consumes : (count : ℕ) (read : List ℕ) (moment : Moment Facts) (state : State) (last : In) → Went left gave rules machine first start source count read moment state last
      → Consumes (left source) (left last) read
  consumes count read moment state last Begins = Consumes-nil (left source)
  consumes count read moment state last (Goes before taken mid own here after input went asks turn steps stands) = consumes before taken mid here input went
  consumes count read moment state last (Reads before taken more rest mid own here after input behind went asks is_given turn steps unread stands) =
      Consumes-trans (left source) (left input) (left last) taken more (consumes before taken mid here input went) is_given.consumes
