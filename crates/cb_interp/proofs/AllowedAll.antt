-- What may come from a typed state is typed; and a store that allows each reference allows those of all of it.
use Rattle.std.proofs.Common.{◌≡◌, ◌∙◌, ap, arith, refl, sym, ℕ, zero, suc, true, List, [], Option, None, Some, IsTrue, is_some}
use Rattle.std.proofs.lemmas.Bool.{false≢true}
use Rattle.cb_act.specs.Coming.{AreAllowed, MayCome}
use Rattle.cb_act.specs.Steps.{view_of}
use Rattle.cb_heap.specs.Closed.{IsClosed}
use Rattle.cb_heap.specs.Follows.{Follows}
use Rattle.cb_heap.specs.Reading.{View}
use Rattle.cb_heap.specs.Store.{may_point}
use Rattle.cb_machine.specs.Machine.{Machine}
use Rattle.cb_plain.specs.Reach.{Points}
use Rattle.cb_plain.specs.State.{Object, State}
use Rattle.cb_plain.specs.Updates.{object_in}
use Rattle.cb_safety.proofs.Laws.{kept_states_are_typed, typed_states_are_closed}
use Rattle.cb_safety.specs.Linked.{IsLinked}
use Rattle.cb_safety.specs.States.{IsTypedState}
use Rattle.cb_verify.specs.Typed.{IsTyped}
use Rattle.cb_interp.proofs.FollowCopies.{held_before}
use Rattle.cb_interp.proofs.RunTyped.{step_typed}

may_all : (objects : List (Option Object)) (one place : ℕ) (first second : Object) → object_in objects one ≡ Some first → object_in objects (suc place) ≡ Some second
    → IsTrue (may_point (λ one other. true) objects one (suc place))
may_all objects one place first second is also = rw (is, also) refl

follows_all : (view : View) → IsClosed view → Follows (λ one other. true) view.objects
follows_all view closed = record { each = each } where
  among : (one place : ℕ) (points : Points view.objects one (suc place)) (found : Option Object) → object_in view.objects (suc place) ≡ found
      → IsTrue (may_point (λ one other. true) view.objects one (suc place))
  among one place points None is = absurd (false≢true (sym (ap is_some is) ∙ held_before view.objects [] view.roots closed one (suc place) points))
  among one place points (Some other) is = may_all view.objects one place points.object other points.there is

  each : (one other : ℕ) → Points view.objects one other → IsTrue (may_point (λ one other. true) view.objects one other)
  each one zero points = absurd (omega (arith, points.is_some))
  each one (suc place) points = among one place points (object_in view.objects (suc place)) refl

module _ (machine : Machine) (linked : IsLinked machine.program) (fits : IsTyped machine.program) (first : State) (typed : IsTypedState machine.program first) where
  come_typed : (later : State) → MayCome machine first later → IsTypedState machine.program later
  come_typed later MayCome.Here = typed
  come_typed later (MayCome.Step state own more is) = step_typed machine linked fits state own (come_typed state more) is
  come_typed later (MayCome.Given state input more all) = let own = come_typed state more in record { heap = own.heap; roots = own.roots; input = all }
  come_typed later (MayCome.Printed state printed more) = let own = come_typed state more in record { heap = own.heap; roots = own.roots; input = own.input }
  come_typed later (MayCome.Kept kept state more keeping) = kept_states_are_typed machine.program kept state (come_typed state more) keeping.closed

  pub all_allowed : AreAllowed (λ one other. true) machine first
  all_allowed = record { each = λ later comes. follows_all (view_of later) (typed_states_are_closed machine.program later (come_typed later comes)) }
