use Rattle.std.proofs.Common.{rules, arith, ◌∙◌, ap}
use Rattle.std.proofs.lemmas.Bool.{false≢true}
use Rattle.std.proofs.lemmas.Bool.Decides.{nat_tests}
use Rattle.std.proofs.lemmas.List.{nil_from_length}
use Rattle.cb_io.specs.Utf8.{utf8}
use Rattle.cb_io.proofs.Characters.{no_bytes}
use Rattle.cb_io.proofs.Writing.{written_all, written_part, written_piece}
use Rattle.cb_io.proofs.utf8.utf8_of.Goals as goal

pub returns-in_err-write_all-clause-part : goal.returns-in_err-write_all-clause-part
returns-in_err-write_all-clause-part g c =
    let part = written_part _ _ _ _ _ _ _ _ _ c.loop-rest.invariant c.fill-filled.ensures.read c.in_err-write_all.ensures.part in
    search (rules, part)

pub loop-rest-preserved : goal.loop-rest-preserved
loop-rest-preserved g c =
    let rises = c.in_ok-write_all.ensures.cause in
    written_piece _ _ _ _ _ _ _ _ _ _ c.loop-rest.invariant c.fill-filled.ensures.read c.in_ok-write_all.ensures.all rises.never_falls (λ below rose. false≢true ((rises.exact below).1 rose))

pub returns-clause-all : goal.returns-clause-all
returns-clause-all g c =
    let none = nil_from_length c.loop-rest.rest.now (grind (arith, nat_tests, c.loop-rest-test.ensures)) in
    written_all _ _ _ _ _ _ c.loop-rest.invariant (ap utf8 none ∙ no_bytes)
