-- Counts of faults over several calls, of which the last alone may fail.
use Rattle.std.proofs.Common.{◌≡◌, ◌<◌, ◌≤◌, ◌-◌, ◌^◌, ◌↔◌, arith, refl, ℕ, suc}
use Rattle.std.proofs.Math.Nat.{lt_of_not-le}
use Rattle.cb_heap.specs.Reading.{View}
use Rattle.cb_heap.specs.declared.no_room.NoRoom.TheVariants as rooms
use Rattle.cb_io.specs.Faults.{CountsFaults}
use Rattle.cb_interp.specs.Running.{IsEndOf}
use Rattle.cb_interp.specs.declared.end.End.{End}
use Rattle.cb_interp.specs.declared.end.End.TheVariants as ends
use Rattle.cb_interp.specs.declared.stop.Stop.{Stop}
use Rattle.cb_interp.specs.declared.stop.Stop.TheVariants as stops

-- no call has failed
pub counts_none : (count : ℕ) → CountsFaults count count ⊥
counts_none count = record { never_falls = omega arith; exact = λ low. ((λ never. absurd never), λ rose. absurd (falls count rose)) } where
  falls : (count : ℕ) → count < count → ⊥
  falls count rose = omega (arith, rose)

stays : (first before : ℕ) → first ≤ before → ¬ (first < before) → before ≤ first
stays first before rises still =
    let below : before < suc first = lt_of_not-le still in
    omega (arith, below)

pub counts_then : {Failed : Type 0} (first before now : ℕ) → CountsFaults first before ⊥ → CountsFaults before now Failed → CountsFaults first now Failed
counts_then {Failed} first before now one other = record {
  never_falls = omega (arith, one.never_falls, other.never_falls);
  exact = λ low. exactly low (stays first before one.never_falls (λ rose. (one.exact low).1 rose));
} where
  exactly : first < 2 ^ 64 - 1 → before ≤ first → Failed ↔ (first < now)
  exactly low same =
      let below : before < 2 ^ 64 - 1 = omega (arith, low, same) in
      ((λ failed. let rose : before < now = (other.exact below).0 failed in omega (arith, rose, one.never_falls)), λ rose. (other.exact below).1 (omega (arith, rose, same)))

-- calls fail where they do
pub counts_as : {One Other : Type 0} (before now : ℕ) → (One → Other) → (Other → One) → CountsFaults before now One → CountsFaults before now Other
counts_as before now on back counts = record {
  never_falls = counts.never_falls;
  exact = λ low. ((λ other. (counts.exact low).0 (back other)), λ rose. on ((counts.exact low).1 rose));
}

pub counts_still : {Failed : Type 0} (before now : ℕ) → (Failed → ⊥) → CountsFaults before now Failed → CountsFaults before now ⊥
counts_still before now never counts = counts_as before now never (λ never. absurd never) counts

-- a run ends for a report, and for what is printed, where its last turn is stopped for it
pub report_ends : (view : View) (stop : Stop) (end : End) → IsEndOf view stop end → stop ≡ stops.NoRoom rooms.ReportFault → end ≡ ends.ReportFault
report_ends view stops.Returned end is same = absurd (cc same)
report_ends view (stops.Exited status) end is same = absurd (cc same)
report_ends view stops.Uncaught end is same = absurd (cc same)
report_ends view (stops.NoRoom (rooms.Full live asked limit)) end is same = absurd (cc same)
report_ends view (stops.NoRoom rooms.ReportFault) end is same = is
report_ends view (stops.NoRoom rooms.OutOfMemory) end is same = absurd (cc same)
report_ends view stops.InputFault end is same = absurd (cc same)
report_ends view stops.OutputFault end is same = absurd (cc same)

pub report_stops : (view : View) (stop : Stop) (end : End) → IsEndOf view stop end → end ≡ ends.ReportFault → stop ≡ stops.NoRoom rooms.ReportFault
report_stops view stops.Returned end is same = absurd (cc (is, same))
report_stops view (stops.Exited status) end is same = absurd (cc (is, same))
report_stops view stops.Uncaught end (class, at, is, kind) same = absurd (cc (is, same))
report_stops view (stops.NoRoom (rooms.Full live asked limit)) end is same = absurd (cc (is, same))
report_stops view (stops.NoRoom rooms.ReportFault) end is same = refl
report_stops view (stops.NoRoom rooms.OutOfMemory) end is same = absurd (cc (is, same))
report_stops view stops.InputFault end is same = absurd (cc (is, same))
report_stops view stops.OutputFault end is same = absurd (cc (is, same))

pub output_ends : (view : View) (stop : Stop) (end : End) → IsEndOf view stop end → stop ≡ stops.OutputFault → end ≡ ends.OutputFault
output_ends view stops.Returned end is same = absurd (cc same)
output_ends view (stops.Exited status) end is same = absurd (cc same)
output_ends view stops.Uncaught end is same = absurd (cc same)
output_ends view (stops.NoRoom reason) end is same = absurd (cc same)
output_ends view stops.InputFault end is same = absurd (cc same)
output_ends view stops.OutputFault end is same = is

pub output_stops : (view : View) (stop : Stop) (end : End) → IsEndOf view stop end → end ≡ ends.OutputFault → stop ≡ stops.OutputFault
output_stops view stops.Returned end is same = absurd (cc (is, same))
output_stops view (stops.Exited status) end is same = absurd (cc (is, same))
output_stops view stops.Uncaught end (class, at, is, kind) same = absurd (cc (is, same))
output_stops view (stops.NoRoom (rooms.Full live asked limit)) end is same = absurd (cc (is, same))
output_stops view (stops.NoRoom rooms.ReportFault) end is same = absurd (cc (is, same))
output_stops view (stops.NoRoom rooms.OutOfMemory) end is same = absurd (cc (is, same))
output_stops view stops.InputFault end is same = absurd (cc (is, same))
output_stops view stops.OutputFault end is same = refl

-- and for what is read
pub input_ends : (view : View) (stop : Stop) (end : End) → IsEndOf view stop end → stop ≡ stops.InputFault → end ≡ ends.InputFault
input_ends view stops.Returned end is same = absurd (cc same)
input_ends view (stops.Exited status) end is same = absurd (cc same)
input_ends view stops.Uncaught end is same = absurd (cc same)
input_ends view (stops.NoRoom reason) end is same = absurd (cc same)
input_ends view stops.OutputFault end is same = absurd (cc same)
input_ends view stops.InputFault end is same = is

pub input_stops : (view : View) (stop : Stop) (end : End) → IsEndOf view stop end → end ≡ ends.InputFault → stop ≡ stops.InputFault
input_stops view stops.Returned end is same = absurd (cc (is, same))
input_stops view (stops.Exited status) end is same = absurd (cc (is, same))
input_stops view stops.Uncaught end (class, at, is, kind) same = absurd (cc (is, same))
input_stops view (stops.NoRoom (rooms.Full live asked limit)) end is same = absurd (cc (is, same))
input_stops view (stops.NoRoom rooms.ReportFault) end is same = absurd (cc (is, same))
input_stops view (stops.NoRoom rooms.OutOfMemory) end is same = absurd (cc (is, same))
input_stops view stops.OutputFault end is same = absurd (cc (is, same))
input_stops view stops.InputFault end is same = refl

pub uncaught_stops : (view : View) (stop : Stop) (end : End) (class at : ℕ) → IsEndOf view stop end → end ≡ ends.Uncaught class at → stop ≡ stops.Uncaught
uncaught_stops view stops.Uncaught end class at is same = refl
uncaught_stops view (stops.NoRoom (rooms.Full live asked limit)) end class at is same = absurd (cc (is, same))
uncaught_stops view (stops.NoRoom rooms.ReportFault) end class at is same = absurd (cc (is, same))
uncaught_stops view (stops.NoRoom rooms.OutOfMemory) end class at is same = absurd (cc (is, same))
uncaught_stops view stops.Returned end class at is same = absurd (cc (is, same))
uncaught_stops view (stops.Exited status) end class at is same = absurd (cc (is, same))
uncaught_stops view stops.InputFault end class at is same = absurd (cc (is, same))
uncaught_stops view stops.OutputFault end class at is same = absurd (cc (is, same))
