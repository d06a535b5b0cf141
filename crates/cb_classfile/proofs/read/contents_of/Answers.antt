use Rattle.std.proofs.Common.{refl, sym, ◌∙◌, subst}
use Rattle.std.proofs.lemmas.Bool.{false≢true}
use Rattle.cb_classfile.specs.Class.{IsClass}
use Rattle.cb_classfile.specs.Pool.{AreNamed}
use Rattle.cb_classfile.proofs.ClassParts.{on_pool, contents_found}
use Rattle.cb_classfile.proofs.Failing.{handed}
use Rattle.cb_classfile.proofs.Sequence.{whole_by_first}
use Rattle.cb_classfile.proofs.read.contents_of.Goals as goal

pub returns-in_err-pool : goal.returns-in_err-pool
returns-in_err-pool c = handed _ _ _ _ c.from_residual.ensures (λ class (minor, major, contents). whole_by_first c.in_err-pool.ensures _ contents.spelled)

pub returns-in_err-class : goal.returns-in_err-class
returns-in_err-class c = handed _ _ _ _ c.from_residual-in_err-class.ensures (λ class (minor, major, contents).
    let (pool, tables) = on_pool c.in_ok-pool.ensures contents in
    c.in_err-class.ensures class (minor, major, pool, tables))

pub returns-then-not-branch : goal.returns-then-not-branch
returns-then-not-branch c = λ class (minor, major, contents).
    let (pool, tables) = on_pool c.in_ok-pool.ensures contents in
    let same = c.in_ok-class.ensures.only class (minor, major, pool, tables) in
    absurd (false≢true (sym c.if-not-branch.true ∙ c.in_ok-keeps_rules.ensures.1 (subst (λ class. AreNamed class.pool × IsClass class) (sym same) (contents.pool_named, contents.rules))))

pub returns : goal.returns
returns c =
    let tables = c.in_ok-class.ensures.found in
    (c.in_ok-class.class, contents_found c.in_ok-pool.ensures tables (c.in_ok-keeps_rules.ensures.0 c.if-not-branch.false), (refl, rw tables.2 c.in_ok-facts.ensures))
