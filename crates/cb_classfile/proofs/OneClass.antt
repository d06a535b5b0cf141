-- Bytes spell at most one class.
use Rattle.std.proofs.Common.{◌≡◌, ℕ, List, ◌++◌, length, drop, refl, sym, ◌∙◌, ap}
use Rattle.cb_text.specs.declared.constant.Constant.{Constant}
use Rattle.cb_text.specs.Pool.{SpellsPool}
use Rattle.cb_text.proofs.Laws.{one_pool_front}
use Rattle.cb_classfile.specs.declared.class.ClassFile.{ClassFile}
use Rattle.cb_classfile.specs.Class.{SpellsInterface, SpellsVersion, SpellsEachTable, SpellsClassOf, SpellsClassOn, SpellsClass}
use Rattle.cb_classfile.specs.Tables.{u2}
use Rattle.cb_classfile.proofs.Classes.{class_same}
use Rattle.cb_classfile.proofs.OneBody.{exact_attributes}
use Rattle.cb_classfile.proofs.OneItem.{IsExact, one_u2, one_list, respelled, exact_u2, exact_triple, exact_within, exact_then, exact_table, one_whole, pair_same}
use Rattle.cb_classfile.proofs.OneMember.{exact_field, exact_method}

-- at most one pool stands at the front
pub exact_pool : IsExact SpellsPool
exact_pool = record {
  same = λ one other first second rest behind spelled spelled_too same.
      let both = one_pool_front (first ++ rest) one other (length first) (length second) (first, rest, spelled, refl, refl) (second, behind, spelled_too, same, refl) in
      (both.0, (one_list both.1 same).1);
}

-- at most one version stands at the front
pub exact_version : IsExact SpellsVersion
exact_version = record {
  same = λ one other first second rest behind spelled spelled_too same.
      let whole = respelled rest behind spelled.2 spelled_too.2 same in
      let minor = one_u2 {rest = u2 one.1 ++ rest} {behind = u2 other.1 ++ behind} spelled.0 spelled_too.0 (ap (drop 4) whole) in
      let major = one_u2 spelled.1 spelled_too.1 minor.1 in
      (pair_same one.0 one.1 other minor.0 major.0, major.1);
}

-- at most one index of a superinterface stands at the front
pub exact_interface : (pool : List Constant) → IsExact (SpellsInterface pool)
exact_interface pool = exact_within (λ bytes index spelled. (spelled.fits, spelled.spelled)) exact_u2

-- the tables of a class of this pool
pub exact_each_table : (pool : List Constant) → IsExact (SpellsEachTable pool)
exact_each_table pool =
    exact_then exact_triple (λ head. exact_then (exact_table (exact_interface pool)) (λ interfaces. exact_then (exact_table (exact_field pool)) (λ fields. exact_then (exact_table (exact_method pool)) (λ methods. exact_attributes pool))))

-- of two classes of one version and pool, by their tables, both are one
pub one_on : (minor major : ℕ) (pool : List Constant) (bytes : List ℕ) (one other : ClassFile) → SpellsClassOn minor major pool bytes one → SpellsClassOn minor major pool bytes other → one ≡ other
one_on minor major pool bytes one other (minor_is, major_is, pool_is, spelled) (minor_too, major_too, pool_too, spelled_too) =
    let parts = one_whole (exact_each_table pool) (rw pool_is at spelled.spelled) (rw pool_too at spelled_too.spelled) in
    class_same one.minor one.major one.pool one.flags.0 one.this_class one.super_class one.interfaces one.fields one.methods other (minor_is ∙ sym minor_too) (major_is ∙ sym major_too) (pool_is ∙ sym pool_too)
    (ap (λ p. p.0.0) parts) (ap (λ p. p.0.1) parts) (ap (λ p. p.0.2) parts) (ap (λ p. p.1.0) parts) (ap (λ p. p.1.1.0) parts) (ap (λ p. p.1.1.1.0) parts)

-- what stands behind the version spells at most one class of it
pub one_of : (minor major : ℕ) (bytes : List ℕ) (one other : ClassFile) → SpellsClassOf minor major bytes one → SpellsClassOf minor major bytes other → one ≡ other
one_of minor major bytes one other (minor_is, major_is, contents) (minor_too, major_too, contents_too) =
    let spelled = contents.spelled in
    let spelled_too = contents_too.spelled in
    let pool = exact_pool.same _ _ _ _ _ _ spelled.here spelled_too.here (sym spelled.spelled ∙ spelled_too.spelled) in
    one_on minor major other.pool spelled_too.second one other (minor_is, major_is, pool.0, rw (← pool.1) spelled.behind) (minor_too, major_too, refl, spelled_too.behind)

-- and so do the bytes of a whole class
pub one_class_spelled : (bytes : List ℕ) (one other : ClassFile) → SpellsClass bytes one → SpellsClass bytes other → one ≡ other
one_class_spelled bytes one other spelled spelled_too =
    let version = exact_version.same _ _ _ _ _ _ spelled.here spelled_too.here (sym spelled.spelled ∙ spelled_too.spelled) in
    one_of other.minor other.major spelled_too.second one other (ap (λ p. p.0) version.0, ap (λ p. p.1) version.0, rw (← version.1) spelled.behind) (refl, refl, spelled_too.behind)
