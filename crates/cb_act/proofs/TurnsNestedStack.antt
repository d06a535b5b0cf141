-- Values are taken from a stack, one after the other, and one is laid on it in their place.
use Rattle.std.proofs.Common.{◌≡◌, ◌∙◌, add-one, ap, refl, sym, subst, arith, ℕ, zero, suc, ◌+◌, ◌-◌, ◌<◌, List, [], ◌∷◌, drop, length}
use Rattle.std.proofs.lemmas.List.{length-drop}
use Rattle.cb_frames.specs.Tops.{changed_in, on_top, stack_in, top_stack, with_stack, without}
use Rattle.cb_plain.specs.Roots.{with_frames}
use Rattle.cb_plain.specs.State.{Frame, Initialising, OfMethod, Roots}
use Rattle.cb_plain.specs.declared.value.Value.{Value}
use Rattle.cb_act.specs.Effects.{stacked}

-- what is so of the roots where a method's frame is the topmost one
record HasStack (roots : Roots) : Type 0 where
  own : stacked roots (top_stack roots) ≡ roots
  top : (stack : List Value) → top_stack (stacked roots stack) ≡ stack
  again : (stack other : List Value) → stacked (stacked roots stack) other ≡ stacked roots other
  fewer : (stack : List Value) → without (stacked roots stack) 1 ≡ stacked roots (drop 1 stack)

has_stack : (roots : Roots) → 0 < length (top_stack roots) → HasStack roots
has_stack roots some = go roots.frames refl some where
  go : (frames : List Frame) → roots.frames ≡ frames → 0 < length (on_top [] stack_in frames) → HasStack roots
  go [] is some = absurd (omega (arith, some))
  go (Initialising class place ∷ below) is some = absurd (omega (arith, some))
  go (OfMethod frame ∷ below) is some = record {
    own =
        let unchanged : changed_in (with_stack (λ before. top_stack roots)) roots.frames ≡ roots.frames = rw is refl in
        ap (with_frames roots) unchanged;
    top = λ stack. rw is refl;
    again = λ stack other. rw is refl;
    fewer = λ stack. rw is refl;
  }

drop_more : (stack : List Value) (count : ℕ) → drop 1 (drop count stack) ≡ drop (count + 1) stack
drop_more stack count = go stack count ∙ ap (λ (count : ℕ). drop count stack) (sym (add-one count)) where
  go : (stack : List Value) (count : ℕ) → drop 1 (drop count stack) ≡ drop (suc count) stack
  go stack zero = refl
  go [] (suc count) = refl
  go (value ∷ stack) (suc count) = go stack count

module _ (roots : Roots) (some : 0 < length (top_stack roots)) where
  pub taken_none : roots ≡ stacked roots (drop 0 (top_stack roots))
  taken_none = sym (has_stack roots some).own

  pub taken_left : (count : ℕ) → count < length (top_stack roots) → 0 < length (top_stack (stacked roots (drop count (top_stack roots))))
  taken_left count low =
      let rest : length (drop count (top_stack roots)) ≡ length (top_stack roots) - count = length-drop count (top_stack roots) in
      subst (λ (stack : List Value). 0 < length stack) (sym ((has_stack roots some).top (drop count (top_stack roots)))) (omega (arith, rest, low))

  pub taken_next : (count : ℕ) → without (stacked roots (drop count (top_stack roots))) 1 ≡ stacked roots (drop (count + 1) (top_stack roots))
  taken_next count =
      (has_stack roots some).fewer (drop count (top_stack roots)) ∙ ap (stacked roots) (drop_more (top_stack roots) count)

  pub taken_last : (count : ℕ) (value : Value)
      → stacked (stacked roots (drop count (top_stack roots))) (value ∷ drop 1 (top_stack (stacked roots (drop count (top_stack roots)))))
      ≡ stacked roots (value ∷ drop (count + 1) (top_stack roots))
  taken_last count value =
      (has_stack roots some).again (drop count (top_stack roots)) (value ∷ drop 1 (top_stack (stacked roots (drop count (top_stack roots)))))
      ∙ ap (λ (stack : List Value). stacked roots (value ∷ drop 1 stack)) ((has_stack roots some).top (drop count (top_stack roots)))
      ∙ ap (λ (stack : List Value). stacked roots (value ∷ stack)) (drop_more (top_stack roots) count)
