-- Last lines, piece by piece.
use Rattle.std.proofs.Common.{◌≡◌, ◌∙◌, ◌++◌, ap, append_assoc, refl, sym, ℕ, [], List, Option}
use Rattle.std.specs.Fmt.{decimal}
use Rattle.std.specs.Prelude.{codes}
use Rattle.cb_heap.specs.declared.no_room.NoRoom.TheVariants.{Full}
use Rattle.cb_interp.specs.Texts.{TellsException}
use Rattle.cb_io.specs.Utf8.{utf8}
use Rattle.cb_link.specs.Numbers.{or_none}
use Rattle.cb_link.specs.Program.{Linked}
use Rattle.cb_machine.specs.Starting.{empty_state}
use Rattle.cb_plain.specs.State.{Object}
use Rattle.cb_plain.specs.Updates.{with_objects}
use Rattle.cb_runner.specs.Inner.{units_told}
use Rattle.cb_runner.specs.Running.{exception_line, full_line, spent_line}

-- the words of two of them
pub spent_is : (steps : ℕ) → (codes "cbvm: budget spent after " ++ decimal steps) ++ codes " steps\n" ≡ spent_line steps
spent_is steps = ap (λ tail. codes "cbvm: budget spent after " ++ tail) (sym (append_assoc (decimal steps) (codes " steps") (codes "\n")))

pub full_is : (live asked limit : ℕ)
    → (((codes "cbvm: heap full " ++ decimal live) ++ (codes " live " ++ decimal asked)) ++ (codes " asked " ++ decimal limit)) ++ codes " allowed\n" ≡ full_line (Full live asked limit)
full_is live asked limit =
    let kept = decimal live in
    let wanted = decimal asked in
    let most = decimal limit in
    let front = kept ++ codes " live " ++ wanted in
    ap (λ tail. codes "cbvm: heap full " ++ tail)
    (ap (λ words. words ++ codes " allowed\n")
    (ap (λ words. words ++ (codes " asked " ++ most)) (sym (append_assoc kept (codes " live ") wanted)) ∙ sym (append_assoc front (codes " asked ") most))
    ∙ sym (append_assoc (front ++ codes " asked " ++ most) (codes " allowed") (codes "\n")))

-- that of an exception
pub told_units : (program : Linked) (objects : List (Option Object)) (serial : ℕ) (units : List ℕ) → TellsException program objects serial units → units_told program objects serial ≡ units
told_units program objects serial units tells = ap or_none (tells (with_objects (empty_state program []) objects) refl)

pub unhandled_is : (units : List ℕ) → codes "Exception in thread \"main\" " ++ (utf8 units ++ codes "\n") ≡ exception_line units
unhandled_is units = sym (append_assoc (codes "Exception in thread \"main\" ") (utf8 units) (codes "\n"))
