-- A turn in which an exception of the machine is thrown.
use Rattle.std.proofs.Common.{◌≡◌, ◌∙◌, ap, refl, sym, ℕ, List, [], ◌∷◌, Bool, length, Some}
use Rattle.std.specs.declared.result.Result.TheVariants.{Ok}
use Rattle.cb_heap.specs.Closed.{Collects}
use Rattle.cb_heap.specs.Kept.{residents}
use Rattle.cb_heap.specs.Rules.{Rules}
use Rattle.cb_heap.specs.Shaped.{new_object}
use Rattle.cb_machine.specs.Machine.{Machine, kind_of_site}
use Rattle.cb_machine.specs.Plans.{made, object_of}
use Rattle.cb_machine.specs.Steps.{plan}
use Rattle.cb_machine.specs.Throwing.{exception_contents, throws}
use Rattle.cb_plain.specs.State.{State}
use Rattle.cb_plain.specs.Updates.{with_objects}
use Rattle.cb_plain.specs.declared.shape.Shape.{Shape}
use Rattle.cb_plain.specs.declared.want.Want.{Want}
use Rattle.cb_act.specs.Keeping.{kept_plan, kept_state}
use Rattle.cb_act.specs.Placing.{exception_size, thrown, with_view}
use Rattle.cb_act.specs.Steps.{view_of}
use Rattle.cb_act.specs.Turning.{Moment, TurnMade}
use Rattle.cb_act.proofs.Laws.{length_kept, thrown_so}
use Rattle.cb_interp.proofs.TurnsMade.{asked_turn, collected, collected_keeping}

-- what is asked for
abbrev pub exception_want : ℕ → Want
exception_want site = record { site = site; words = 6 }

-- what is kept of it is thrown by what is kept
throws_kept : (kept : List Bool) (machine : Machine) (state : State) (site : ℕ) → length kept ≡ length state.objects
    → kept_plan kept (throws machine state site) ≡ throws machine (kept_state kept state) site
throws_kept kept machine state site same = rw (sym (length_kept kept state.objects same)) refl

pub thrown_turn : {Facts : Type 0} (rules : Rules Facts) (machine : Machine) (before middle after : Moment Facts) (site : ℕ) (shapes : List Shape)
    → plan machine before.state ≡ Some (throws machine before.state site)
    → new_object shapes site (kind_of_site machine.program site) exception_size ≡ object_of site (kind_of_site machine.program site) (exception_contents 0 0)
    → rules.makes_room before.facts (view_of before.state) (exception_want site ∷ []) (Ok tt) (record { facts = middle.facts; residents = residents middle.state.objects })
    → Collects (view_of before.state) (view_of middle.state) → middle.state ≡ with_objects before.state middle.state.objects
    → after.state ≡ with_view middle.state (thrown shapes site (kind_of_site machine.program site) (view_of middle.state))
    → after.facts ≡ rules.placed middle.facts site exception_size → TurnMade rules machine before after
thrown_turn rules machine before middle after site shapes is shaped ruled collects same steps knows =
    asked_turn rules machine before middle after (throws machine before.state site) (exception_want site) [] is refl ruled collects same
    (steps ∙ sym (thrown_so machine middle.state site shapes shaped)
    ∙ ap (λ (state : State). made (throws machine state site)) (collected rules machine before middle collects same)
    ∙ ap made (sym (throws_kept (residents middle.state.objects) machine before.state site (collected_keeping rules machine before middle collects same).count)))
    knows
