use Rattle.std.proofs.Common.{◌≡◌, ℕ, ◌+◌, ◌<◌, ◌≤◌, List, Option, length, get_or, map, sym, ap, ◌∙◌, arith}
use Rattle.std.specs.Prelude.{option_map}
use Rattle.std.specs.List.{enumerate_from}
use Rattle.std.proofs.lemmas.List.FromFn.{get_or-enumerate_from, length-enumerate_from}
use Rattle.cb_classfile.specs.declared.class.ClassFile.{ClassFile}
use Rattle.cb_hierarchy.specs.Resolution.{first_some}
use Rattle.cb_link.specs.InnerLacked.{class_lacks, entry_lacks}
use Rattle.cb_link.proofs.LackedLaws.{first_here, lacking_by_class, none_all, none_here}
use Rattle.cb_link.proofs.lacking.first_lacking.Goals as goal

-- what is lacked at a place
lacked_at : (classes items : List ClassFile) (place number : ℕ) (item : ClassFile) (text : Option (List ℕ)) → place < length items → number ≡ place → item ≡ get_or items place item → text ≡ class_lacks classes number item
    → entry_lacks classes (get_or (enumerate_from 0 items) place (number, item)) ≡ option_map (λ text. (number, text)) text
lacked_at classes items place number item text within at is told =
    let first : 0 + place ≡ number = omega arith in
    let here : get_or (enumerate_from 0 items) place (number, item) ≡ (number, item) =
    get_or-enumerate_from 0 items place (number, item) within ∙ ap (λ n. (n, get_or items place item)) first ∙ ap (λ (item : ClassFile). (number, item)) (sym is) in
    ap (entry_lacks classes) here ∙ ap (option_map (λ text. (number, text))) (sym told)

-- the list of all, by another name
by_items : (classes items : List ClassFile) → items ≡ classes → first_some (map (entry_lacks classes) (enumerate_from 0 classes)) ≡ first_some (map (entry_lacks classes) (enumerate_from 0 items))
by_items classes items same = ap (λ (items : List ClassFile). first_some (map (entry_lacks classes) (enumerate_from 0 items))) (sym same)

pub returns-in-Some : goal.returns-in-Some
returns-in-Some c =
    let classes = c.args.resolver.now in
    let items = c.as_slice-class-items.result.now in
    let place = c.loop-class.class-index in
    let number = c.loop-class.number in
    let item = c.class-item.result in
    let within : place < length items = omega arith in
    let behind : place < length (enumerate_from 0 items) = omega (arith, length-enumerate_from 0 items) in
    sym (lacking_by_class classes ∙ by_items classes items (c.as_slice-class-items.ensures ∙ c.classes-classes.ensures)
    ∙ first_here (entry_lacks classes) (enumerate_from 0 items) place (number, item) (number, c.in-Some.text) behind c.loop-class.invariant.none
    (lacked_at classes items place number item c.in_ok-text.field-0 within c.loop-class.invariant.number c.class-item.is c.in_ok-text.ensures ∙ ap (option_map (λ text. (number, text))) c.in-Some.is))

pub loop-class-preserved : goal.loop-class-preserved
loop-class-preserved c =
    let classes = c.args.resolver.now in
    let items = c.as_slice-class-items.result.now in
    let place = c.loop-class.class-index in
    let number = c.loop-class.number in
    let item = c.class-item.result in
    let within : place < length items = omega arith in
    let behind : place < length (enumerate_from 0 items) = omega (arith, length-enumerate_from 0 items) in
    record {
      number = c.in_ok-number.ensures.more ∙ ap (λ n. n + 1) c.loop-class.invariant.number;
      none = none_here (entry_lacks classes) (enumerate_from 0 items) place (number, item) behind c.loop-class.invariant.none
          (lacked_at classes items place number item c.in_ok-text.field-0 within c.loop-class.invariant.number c.class-item.is c.in_ok-text.ensures ∙ ap (option_map (λ text. (number, text))) c.in_default.is);
    }

pub returns : goal.returns
returns c =
    let classes = c.args.resolver.now in
    let items = c.as_slice-class-items.result.now in
    let past : length (enumerate_from 0 items) ≤ c.loop-class.class-index = omega (arith, length-enumerate_from 0 items) in
    sym (lacking_by_class classes ∙ by_items classes items (c.as_slice-class-items.ensures ∙ c.classes-classes.ensures)
    ∙ none_all (entry_lacks classes) (enumerate_from 0 items) c.loop-class.class-index past c.loop-class.invariant.none)
