-- Over a store of fixed size turns place few objects.
use Rattle.std.proofs.Common.{◌≡◌, ◌≤◌, arith, ℕ, ◌+◌, ◌*◌, ◌++◌, true, List, length, Option}
use Rattle.cb_heap.specs.Reading.{View}
use Rattle.cb_heap.specs.Rules.{AreBounded, Rules}
use Rattle.cb_machine.specs.Machine.{Machine}
use Rattle.cb_act.specs.Turning.{Outside, moment_of, most_at_once}
use Rattle.cb_act.proofs.Laws.{turn_grows, turns_grow}
use Rattle.cb_interp.specs.Quick.{AdvancedBy, Read, Unread}
use Rattle.cb_interp.specs.Reading.{Reading, Silent, with_given}

pub advanced_grows : {Facts In : Type 0} (left : In → Option (List ℕ)) (gave : In → ℕ → List ℕ → In → Type 0) (rules : Rules Facts) (bounded : AreBounded rules) (machine : Machine) (fixed : rules.fixed ≡ true)
    (count : ℕ) (outside : Outside) (before after : View) (facts now : Facts) (taken takes : Option (List ℕ)) (source behind : In)
    → AdvancedBy count left gave rules machine outside before after facts now taken takes source behind → length after.objects ≤ length before.objects + count * most_at_once
advanced_grows left gave rules bounded machine fixed count outside before after facts now taken takes source behind (Unread turned same) =
    turns_grow rules bounded machine fixed count (moment_of before outside facts) (moment_of after turned.next now) turned.made
advanced_grows left gave rules bounded machine fixed count outside before after facts now taken takes source behind (Read one still (Silent turned same) silent) =
    let more = turn_grows rules bounded machine fixed (moment_of before outside facts) (moment_of after outside now) turned in
    omega (arith, one, more)
advanced_grows left gave rules bounded machine fixed count outside before after facts now taken takes source behind (Read one still (Reading read rest asks given turned) silent) =
    let more = turn_grows rules bounded machine fixed (moment_of before (with_given outside (read ++ rest)) facts) (moment_of after (with_given outside rest) now) turned in
    omega (arith, one, more)
