use Rattle.std.proofs.Common.{◌≡◌, ℕ, ◌+◌, ◌<◌, ◌==◌, Bool, List, [], ◌∷◌, ◌++◌, length, get_or, sym, subst, ap, ◌∙◌, arith}
use Rattle.std.specs.List.{Contains, list_any}
use Rattle.std.proofs.lemmas.List.{get_or_read, length_push}
use Rattle.cb_hierarchy.proofs.Closing.{row_more}
use Rattle.cb_hierarchy.specs.Inner.{has, list_at}
use Rattle.cb_hierarchy.specs.InnerRows.{marked}
use Rattle.cb_hierarchy.proofs.ancestors.rows_of.Goals as goal

pub loop-list-preserved : goal.loop-list-preserved
loop-list-preserved c =
    let lists = c.args.lists.now in
    let place = c.loop-list.list-index in
    let rows = c.loop-list.rows.items in
    let row = c.in_ok-of.field-0 in
    let within : place < length lists = omega (arith, ap length c.as_slice-list-items.ensures) in
    let pushed : c.push.new.self.items ≡ rows ++ row ∷ [] = c.in_ok-push.ensures.items in
    let list : c.as_slice.result.now ≡ list_at lists place =
    let read : c.list-item.result ≡ get_or lists place c.list-item.result = subst (λ (items : List (List ℕ)). c.list-item.result ≡ get_or items place c.list-item.result) c.as_slice-list-items.ensures c.list-item.is in
    c.as_slice.ensures ∙ get_or_read lists place c.list-item.result within read [] in
    let wide : ((class number : ℕ) → Contains (list_at lists class) number → number < length lists) → length row ≡ length lists = λ below. c.in_ok-of.ensures.length (λ number among. subst (λ n. number < n) (sym c.len.ensures) (below place number (subst (λ (list : List ℕ). Contains list number) list among))) ∙ c.len.ensures in
    record {
      as_many = ap length pushed ∙ length_push rows row ∙ ap (λ n. n + 1) c.loop-list.invariant.as_many;
      wide = λ below. subst (λ (rows : List (List Bool)). (class : ℕ) → class < place + 1 → length (get_or rows class []) ≡ length lists) (sym pushed)
          (row_more (λ class row. length row ≡ length lists) rows row place c.loop-list.invariant.as_many (c.loop-list.invariant.wide below) (wide below));
      marks = λ class other less. subst (λ (rows : List (List Bool)). marked rows class other ≡ list_any (λ number. number == other) (list_at lists class)) (sym pushed)
          (row_more (λ class row. has row other ≡ list_any (λ number. number == other) (list_at lists class)) rows row place c.loop-list.invariant.as_many (λ class less. c.loop-list.invariant.marks class other less)
          (c.in_ok-of.ensures.marked other ∙ ap (list_any (λ number. number == other)) list) class less);
    }
