use Rattle.std.proofs.Common.{◌≡◌, ℕ, ◌<◌, ◌++◌, List, length, refl, sym, subst, ap, inl, inr, arith, Some}
use Rattle.std.specs.Prelude.{slice_get}
use Rattle.std.specs.List.{Contains}
use Rattle.std.proofs.lemmas.Bool.{cases_eq}
use Rattle.std.proofs.lemmas.Option.{slice_get_read}
use Rattle.cb_hierarchy.specs.declared.class.Class.{Class}
use Rattle.cb_hierarchy.specs.Classes.{listed, parents}
use Rattle.cb_tests.proofs.Classes.{named_in}
use Rattle.cb_tests.proofs.samples.are_classes.Goals as goal

parents_at : (classes : List Class) (number : ℕ) (class : Class) → slice_get classes number ≡ Some class → parents classes number ≡ listed class.superclass ++ class.interfaces
parents_at classes number class is = rw is refl

pub loop-class-preserved : goal.loop-class-preserved
loop-class-preserved c = λ k less number among.
    let items = c.as_slice-class-items.result.now in
    let place = c.loop-class.class-index in
    let class = c.class-item.result in
    elim (cases_eq k place) [
      | inl same ↦
          let at : slice_get items place ≡ Some class = slice_get_read items (length items) place class refl (omega arith) c.class-item.is in
          let here : Contains (parents items place) number = subst (λ (k : ℕ). Contains (parents items k) number) same among in
          let low : number < c.len-in-loop-class.result = c.if-not-is_below.ensures number (subst (λ (list : List ℕ). Contains list number) (parents_at items place class at) here) in
          omega (arith, low, c.len-in-loop-class.ensures, ap length c.as_slice-class-items.ensures)
      | inr apart ↦ c.loop-class.invariant k (omega arith) number among
    ]

pub returns : goal.returns
returns c =
    let items = c.as_slice-class-items.result.now in
    let same : length items ≡ length c.args.classes.now = ap length c.as_slice-class-items.ensures in
    record {
      few = omega arith;
      below = λ number parent among.
          let there : Contains (parents items number) parent = subst (λ (list : List Class). Contains (parents list number) parent) (sym c.as_slice-class-items.ensures) among in
          let low : number < length items = named_in items number parent there in
          let found : parent < length items = c.loop-class.invariant number (omega (arith, low)) parent there in
          omega (arith, found, same);
    }
