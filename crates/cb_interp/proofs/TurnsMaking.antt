-- Turns in which an instruction makes an object or an array.
use Rattle.std.proofs.Common.{◌≡◌, ◌∙◌, ap, refl, subst, sym, ◌<◌, ℕ, ◌+◌, ◌*◌, ◌==◌, arith, Bool, false, List, [], ◌∷◌, length, min, replicate, slice_get, Option, Some, None, IsTrue}
use Rattle.std.proofs.lemmas.Bool.{eqb-true}
use Rattle.std.proofs.lemmas.List.{length-map, length-replicate}
use Rattle.std.specs.Prelude.{IfErr, IsErr, IsErrAnd}
use Rattle.std.specs.declared.result.Result.{Result}
use Rattle.std.specs.declared.result.Result.TheVariants.{Err, Ok}
use Rattle.cb_frames.specs.Tops.{top_room, top_stack}
use Rattle.cb_heap.proofs.Laws.{reads_stack}
use Rattle.cb_heap.specs.Closed.{Collects}
use Rattle.cb_heap.specs.Kept.{residents}
use Rattle.cb_heap.specs.declared.no_room.NoRoom.{NoRoom}
use Rattle.cb_heap.specs.Reading.{read_roots, read_value}
use Rattle.cb_heap.specs.Rules.{Rules}
use Rattle.cb_heap.specs.Shaped.{has_size, new_object}
use Rattle.cb_machine.specs.Creating.{blank_element, blank_fields}
use Rattle.cb_machine.specs.Machine.{Machine, kind_of_site}
use Rattle.cb_machine.specs.Plans.{made, object_of}
use Rattle.cb_machine.specs.Steps.{asked_of, plan}
use Rattle.cb_plain.specs.Requests.{most_words}
use Rattle.cb_plain.specs.State.{Content, Frame, Initialising, Object, OfMethod, Roots, State, words_of}
use Rattle.cb_plain.specs.Updates.{with_objects}
use Rattle.cb_plain.specs.declared.shape.Shape.{Shape}
use Rattle.cb_plain.specs.declared.shape.Shape.TheVariants as shapes
use Rattle.cb_plain.specs.declared.want.Want.{Want}
use Rattle.cb_act.specs.Keeping.{kept_plan, kept_state}
use Rattle.cb_interp.specs.Making.{makes_array, makes_one}
use Rattle.cb_act.specs.Placing.{at_place, made_array, made_object, with_view}
use Rattle.cb_act.specs.Steps.{view_of}
use Rattle.cb_act.specs.Turning.{Moment, TurnMade, TurnRefused}
use Rattle.cb_act.proofs.Laws.{length_kept}
use Rattle.cb_interp.proofs.TurnsMade.{asked_turn, collected, collected_keeping}

-- what is asked for
abbrev pub size_want : (site size : ℕ) → Want
size_want site size = record { site = site; words = min (words_of size) most_words }

one_time : (words : ℕ) → (0 + 1) * words ≡ words
one_time words = omega arith

pub asks_so : (site size : ℕ) → record { site = site; words = min ((0 + 1) * words_of size) most_words } ∷ [] ≡ size_want site size ∷ []
asks_so site size = ap (λ words. record { site = site; words = min words most_words } ∷ []) (one_time (words_of size))

-- a new object has as many words as it is asked to have
words_so : (all : List Shape) (site kind size : ℕ) (contents : List Content) → IsTrue (has_size all kind size)
    → new_object all site kind size ≡ object_of site kind contents → length contents ≡ size
words_so all site kind size contents sized shaped =
    sym (ap (λ (object : Object). length object.contents) shaped) ∙ go (slice_get all kind) refl where
      go : (found : Option Shape) → slice_get all kind ≡ found → length (new_object all site kind size).contents ≡ size
      go None at = let not : has_size all kind size ≡ false = rw at refl in absurd (cc (not, sized))
      go (Some (shapes.Elements mark)) at = rw at (length-replicate size _)
      go (Some (shapes.Fields marks)) at =
          let same : has_size all kind size ≡ (length marks == size) = rw at refl in
          rw at (length-map marks _ ∙ eqb-true (length marks) size (sym same ∙ sized))

-- there is as much on the stack when roots are read, and as much room
stack_read : (index : ℕ → ℕ) (held : Roots) → length (top_stack (read_roots index held)) ≡ length (top_stack held)
stack_read index held = ap length (reads_stack index held) ∙ length-map (top_stack held) (read_value index)

pub room_read : (index : ℕ → ℕ) (held : Roots) → top_room (read_roots index held) ≡ top_room held
room_read index held = go held.frames refl where
  go : (frames : List Frame) → held.frames ≡ frames → top_room (read_roots index held) ≡ top_room held
  go [] is = rw is refl
  go (Initialising class place ∷ below) is = rw is refl
  go (OfMethod frame ∷ below) is = rw (is, length-map frame.locals (read_value index), length-map frame.stack (read_value index)) refl

-- what is kept of them is made of what is kept
one_kept : (kept : List Bool) (machine : Machine) (state : State) (site pc : ℕ) → length kept ≡ length state.objects
    → kept_plan kept (makes_one machine state site pc) ≡ makes_one machine (kept_state kept state) site pc
one_kept kept machine state site pc same = rw (sym (length_kept kept state.objects same)) refl

array_kept : (kept : List Bool) (machine : Machine) (state : State) (site size pc : ℕ) → length kept ≡ length state.objects
    → kept_plan kept (makes_array machine state site size pc) ≡ makes_array machine (kept_state kept state) site size pc
array_kept kept machine state site size pc same = rw (sym (length_kept kept state.objects same)) refl

one_so : (machine : Machine) (state : State) (site size pc : ℕ) (shapes : List Shape)
    → new_object shapes site (kind_of_site machine.program site) size
    ≡ object_of site (kind_of_site machine.program site) (blank_fields machine.program (kind_of_site machine.program site))
    → made (makes_one machine state site pc) ≡ with_view state (at_place (made_object shapes site (kind_of_site machine.program site) size (view_of state)) pc)
one_so machine state site size pc shapes is = rw is refl

array_so : (machine : Machine) (state : State) (site size pc : ℕ) (shapes : List Shape)
    → new_object shapes site (kind_of_site machine.program site) size
    ≡ object_of site (kind_of_site machine.program site) (replicate size (blank_element machine.program (kind_of_site machine.program site)))
    → made (makes_array machine state site size pc) ≡ with_view state (at_place (made_array shapes site (kind_of_site machine.program site) size (view_of state)) pc)
array_so machine state site size pc shapes is = rw is refl

module _ {Facts : Type 0} (rules : Rules Facts) (machine : Machine) (before middle after : Moment Facts) (site size pc : ℕ) (shapes : List Shape)
    (ruled : rules.makes_room before.facts (view_of before.state) (size_want site size ∷ []) (Ok tt) (record { facts = middle.facts; residents = residents middle.state.objects }))
    (collects : Collects (view_of before.state) (view_of middle.state)) (same : middle.state ≡ with_objects before.state middle.state.objects)
    (knows : after.facts ≡ rules.placed middle.facts site size) where
  abbrev kind : ℕ
  kind = kind_of_site machine.program site

  pub object_turn : plan machine before.state ≡ Some (makes_one machine before.state site pc)
      → new_object shapes site kind size ≡ object_of site kind (blank_fields machine.program kind) → IsTrue (has_size shapes kind size)
      → after.state ≡ with_view middle.state (at_place (made_object shapes site kind size (view_of middle.state)) pc) → TurnMade rules machine before after
  object_turn is shaped sized steps =
      let words : length (blank_fields machine.program kind) ≡ size = words_so shapes site kind size (blank_fields machine.program kind) sized shaped in
      asked_turn rules machine before middle after (makes_one machine before.state site pc) (size_want site size) [] is
      (asks_so site (length (blank_fields machine.program kind)) ∙ ap (λ size. size_want site size ∷ []) words) ruled collects same
      (steps ∙ sym (one_so machine middle.state site size pc shapes shaped)
      ∙ ap (λ (state : State). made (makes_one machine state site pc)) (collected rules machine before middle collects same)
      ∙ ap made (sym (one_kept (residents middle.state.objects) machine before.state site pc (collected_keeping rules machine before middle collects same).count)))
      (knows ∙ ap (rules.placed middle.facts site) (sym words))

  pub array_turn : plan machine before.state ≡ Some (makes_array machine before.state site size pc)
      → new_object shapes site kind size ≡ object_of site kind (replicate size (blank_element machine.program kind))
      → after.state ≡ with_view middle.state (at_place (made_array shapes site kind size (view_of middle.state)) pc) → TurnMade rules machine before after
  array_turn is shaped steps =
      asked_turn rules machine before middle after (makes_array machine before.state site size pc) (size_want site size) [] is
      (asks_so site size) ruled collects same
      (steps ∙ sym (array_so machine middle.state site size pc shapes shaped)
      ∙ ap (λ (state : State). made (makes_array machine state site size pc)) (collected rules machine before middle collects same)
      ∙ ap made (sym (array_kept (residents middle.state.objects) machine before.state site size pc (collected_keeping rules machine before middle collects same).count)))
      (knows ∙ ap (rules.placed middle.facts site) (sym (length-replicate size (blank_element machine.program kind))))

-- and room for the object is refused
pub object_refused : {Facts : Type 0} (rules : Rules Facts) (machine : Machine) (before after : Moment Facts) (site size pc : ℕ) (shapes : List Shape) (reason : NoRoom)
    → plan machine before.state ≡ Some (makes_one machine before.state site pc)
    → new_object shapes site (kind_of_site machine.program site) size
    ≡ object_of site (kind_of_site machine.program site) (blank_fields machine.program (kind_of_site machine.program site))
    → IsTrue (has_size shapes (kind_of_site machine.program site) size)
    → rules.makes_room before.facts (view_of before.state) (size_want site size ∷ []) (Err reason) (record { facts = after.facts; residents = residents after.state.objects })
    → Collects (view_of before.state) (view_of after.state) → after.state ≡ with_objects before.state after.state.objects → TurnRefused rules machine before reason after
object_refused rules machine before after site size pc shapes reason is shaped sized ruled collects same =
    let kind : ℕ = kind_of_site machine.program site in
    let words : length (blank_fields machine.program kind) ≡ size = words_so shapes site kind size (blank_fields machine.program kind) sized shaped in
    let asked : asked_of (plan machine before.state) ≡ size_want site size ∷ [] =
    ap asked_of is ∙ asks_so site (length (blank_fields machine.program kind)) ∙ ap (λ size. size_want site size ∷ []) words in
    record {
      refused = record {
        asked = λ none. let both : size_want site size ∷ [] ≡ [] = sym asked ∙ none in cc both;
        ruled = subst (λ (wants : List Want). rules.makes_room before.facts (view_of before.state) wants (Err reason) (record { facts = after.facts; residents = residents after.state.objects }))
            (sym asked) ruled;
        collects = collects;
        same = same;
      };
    }

-- room and values on the stack stay as they are where the same is seen
pub room_again : (index now : ℕ → ℕ) (held after : Roots) → read_roots now after ≡ read_roots index held → 0 < top_room held → 0 < top_room after
room_again index now held after same room =
    subst (λ (room : ℕ). 0 < room) (sym (room_read index held) ∙ ap top_room (sym same) ∙ room_read now after) room

pub stack_again : (index now : ℕ → ℕ) (held after : Roots) → read_roots now after ≡ read_roots index held → 0 < length (top_stack held) → 0 < length (top_stack after)
stack_again index now held after same there =
    subst (λ (count : ℕ). 0 < count) (sym (stack_read index held) ∙ ap (λ (roots : Roots). length (top_stack roots)) (sym same) ∙ stack_read now after) there

-- a refusal that is handed on
pub handed_on : {Made Fault : Type 0} (Is : Fault → Type 0) (result : Result Made Fault) (fault : Fault) → IsErr result × IsErrAnd result (λ told. told ≡ fault) → Is fault
    → IfErr result Is
handed_on Is (Ok made) fault on is = tt
handed_on Is (Err told) fault on is = subst Is (sym on.1) is
