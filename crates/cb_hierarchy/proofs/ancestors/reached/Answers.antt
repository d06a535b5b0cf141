use Rattle.std.proofs.Common.{◌≡◌, ℕ, ◌<◌, ◌++◌, List, [], length, get_or, take, sym, subst, ◌∙◌, arith}
use Rattle.std.specs.List.{flat_map}
use Rattle.std.proofs.lemmas.Option.{get_or_from_slice_get}
use Rattle.cb_hierarchy.specs.Inner.{AreDistinct, list_at}
use Rattle.cb_hierarchy.proofs.Closing.{reached_all, reached_below, reached_few, reached_longer, reached_more, reached_none}
use Rattle.cb_hierarchy.proofs.ancestors.reached.Goals as goal

pub loop-next-init : goal.loop-next-init
loop-next-init c =
    let lists = c.args.lists.now in
    let first : c.as_slice.result.now ≡ list_at lists c.args.class = c.as_slice.ensures ∙ sym (get_or_from_slice_get lists c.args.class c.get.result.now [] c.get.ensures) in
    record {
      inside = omega arith;
      reached = reached_none (list_at lists) c.args.class c.append.new.self.numbers c.append.new.self.marks
          (subst (λ (list : List ℕ). AreDistinct list c.append.new.self.numbers c.append.new.self.marks) first (c.in_ok-append.ensures [] c.in_ok-found.ensures));
    }

pub get-parents-requires : goal.get-parents-requires
get-parents-requires c =
    let numbers = c.loop-next.found.numbers in
    subst (λ n. n < length c.args.lists.now) (get_or_from_slice_get numbers c.loop-next.next c.get-in-loop-next.result.now 0 c.get-in-loop-next.ensures)
    (reached_below (list_at c.args.lists.now) c.args.class c.loop-next.next (length c.args.lists.now) c.loop-next.next numbers c.loop-next.found.marks c.requires.below c.loop-next.invariant.reached (omega arith))

pub loop-next-smaller : goal.loop-next-smaller
loop-next-smaller c =
    let few = reached_few (list_at c.args.lists.now) c.args.class c.loop-next.next (length c.args.lists.now) c.loop-next.found.numbers c.loop-next.found.marks c.requires.below c.loop-next.invariant.reached in
    omega (arith, few)

pub loop-next-preserved : goal.loop-next-preserved
loop-next-preserved c =
    let lists = c.args.lists.now in
    let class = c.args.class in
    let next = c.loop-next.next in
    let numbers = c.loop-next.found.numbers in
    let marks = c.loop-next.found.marks in
    let number = c.get-in-loop-next.result.now in
    let later = c.append-in-loop-next.new.self in
    let within : next < length numbers = omega arith in
    let is : number ≡ get_or numbers next 0 = sym (get_or_from_slice_get numbers next number 0 c.get-in-loop-next.ensures) in
    let parents : c.as_slice-in-loop-next.result.now ≡ list_at lists number = c.as_slice-in-loop-next.ensures ∙ sym (get_or_from_slice_get lists number c.get-parents.result.now [] c.get-parents.ensures) in
    let before : List ℕ = list_at lists class ++ flat_map (list_at lists) (take next numbers) in
    let new : AreDistinct (before ++ list_at lists number) later.numbers later.marks =
    subst (λ (list : List ℕ). AreDistinct (before ++ list) later.numbers later.marks) parents (c.in_ok-append-2.ensures before c.loop-next.invariant.reached.distinct) in
    record {
      inside = let long = reached_longer (list_at lists) class next number numbers later.numbers marks later.marks c.loop-next.invariant.reached new in omega (arith, long, within);
      reached = reached_more (list_at lists) class next number numbers later.numbers marks later.marks within is c.loop-next.invariant.reached new;
    }

pub returns : goal.returns
returns c =
    reached_all (list_at c.args.lists.now) c.args.class c.loop-next.next c.loop-next.found.numbers c.loop-next.found.marks (omega arith) c.loop-next.invariant.reached
