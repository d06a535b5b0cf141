use Rattle.std.proofs.Common.{◌≡◌, ℕ, ◌+◌, ◌<◌, List, [], ◌++◌, length, get_or, take, sym, ap, subst, ◌∙◌, arith}
use Rattle.std.specs.List.{flat_map}
use Rattle.std.proofs.lemmas.List.{flat_map_more, get_or_read, take_more}
use Rattle.std.proofs.lemmas.List.Elements.{Contains-get_or}
use Rattle.cb_hierarchy.specs.Inner.{AreDistinct, list_at}
use Rattle.cb_hierarchy.proofs.orders.append_lists.Goals as goal

pub bounds-lists-number : goal.bounds-lists-number
bounds-lists-number c = c.requires _ (Contains-get_or c.args.numbers.now c.loop-number.number-index 0 (omega arith))

pub loop-number-preserved : goal.loop-number-preserved
loop-number-preserved c =
    λ taken are. subst (λ (list : List ℕ). AreDistinct list c.append.new.self.numbers c.append.new.self.marks) (next taken)
    (c.in_ok-append.ensures (taken ++ flat_map (list_at lists) (take place numbers)) (c.loop-number.invariant taken are)) where
      numbers : List ℕ
      numbers = c.args.numbers.now

      lists : List (List ℕ)
      lists = c.args.lists.now

      place : ℕ
      place = c.loop-number.number-index

      next : (taken : List ℕ) → taken ++ flat_map (list_at lists) (take place numbers) ++ c.as_slice.result.now ≡ taken ++ flat_map (list_at lists) (take (place + 1) numbers)
      next taken =
          let within : place < length numbers = omega arith in
          let number : ℕ = get_or numbers place 0 in
          let below : number < length lists = c.requires number (Contains-get_or numbers place 0 within) in
          let read : c.as_slice.result.now ≡ list_at lists number = c.as_slice.ensures ∙ get_or_read lists number c.index-lists-number.result below c.index-lists-number.is [] in
          ap (λ (list : List ℕ). taken ++ flat_map (list_at lists) (take place numbers) ++ list) read
          ∙ flat_map_more (list_at lists) taken (take place numbers) number
          ∙ ap (λ (list : List ℕ). taken ++ flat_map (list_at lists) list) (sym (take_more numbers place 0 within))
