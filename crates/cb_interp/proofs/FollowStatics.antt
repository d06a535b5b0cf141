-- What is left where the constants of the static fields of a class are placed: objects only grow, and a text that is new has a string there.
use Rattle.std.proofs.Common.{◌≡◌, ◌∙◌, ap, append_assoc, refl, sym, subst, ℕ, zero, suc, ◌+◌, Bool, true, List, [], ◌∷◌, ◌++◌, length, Option}
use Rattle.std.proofs.lemmas.List.{append-nil}
use Rattle.std.specs.List.{fold}
use Rattle.cb_heap.specs.Follows.{Follows}
use Rattle.cb_heap.specs.Reading.{View}
use Rattle.cb_heap.specs.Rules.{Rules}
use Rattle.cb_link.specs.Named.{static_initial}
use Rattle.cb_link.specs.Program.{Linked}
use Rattle.cb_link.specs.declared.named.Named.{Named}
use Rattle.cb_link.specs.declared.named.Named.TheVariants as meanings
use Rattle.cb_machine.specs.Machine.{Machine, listed}
use Rattle.cb_machine.specs.Plans.{Plan, made}
use Rattle.cb_machine.specs.Sites.{constant_characters, constant_strings}
use Rattle.cb_plain.specs.State.{Object, State}
use Rattle.cb_plain.specs.declared.want.Want.{Want}
use Rattle.cb_unwind.specs.Strings.{constant_or_new, new_constant}
use Rattle.cb_interp.specs.TextStatics.{seen_to, set_initial}
use Rattle.cb_act.specs.Turning.{Outside, state_of}
use Rattle.cb_interp.proofs.FollowTexts.{text_pair}
use Rattle.cb_interp.proofs.TurnsTextPlaced.{PlacedSoFar, made_to, next_to}

-- more objects
pub record Grows (before after : List (Option Object)) : Type 0 where
  pub more : List (Option Object)
  pub is : after ≡ before ++ more

same_grows : (objects : List (Option Object)) → Grows objects objects
same_grows objects = record { more = []; is = sym (append-nil objects) }

both_grow : (before middle after : List (Option Object)) → Grows before middle → Grows middle after → Grows before after
both_grow before middle after first last = record {
  more = first.more ++ last.more;
  is = last.is ∙ ap (λ (objects : List (Option Object)). objects ++ last.more) first.is ∙ append_assoc before first.more last.more;
}

module _ (program : Linked) (slot : ℕ) (view : View) where
  text_grows : (text serial : ℕ) → Grows view.objects (constant_or_new program text view serial).1.objects
  text_grows text zero = record { more = _; is = refl }
  text_grows text (suc place) = same_grows view.objects

  seen_grows : (named : Named) → Grows view.objects (seen_to program slot view named).objects
  seen_grows (meanings.Text text) = text_grows text (listed view.roots.tables.constants text)
  seen_grows meanings.Nothing = same_grows view.objects
  seen_grows (meanings.Kind kind) = same_grows view.objects
  seen_grows (meanings.Static class other) = same_grows view.objects
  seen_grows (meanings.Field class other) = same_grows view.objects
  seen_grows (meanings.Method method) = same_grows view.objects
  seen_grows (meanings.Whole value) = same_grows view.objects

  text_new : (text : ℕ) → listed view.roots.tables.constants text ≡ 0 → (named : Named) → named ≡ meanings.Text text
      → (seen_to program slot view named).objects ≡ (new_constant program text view).1.objects
  text_new text none named is =
      ap (λ (named : Named). (seen_to program slot view named).objects) is
      ∙ ap (λ (serial : ℕ). (constant_or_new program text view serial).1.objects) none

-- whatever comes after
pub fold_grows : (machine : Machine) (slots : List ℕ) (plan : Plan) (view : View) (outside : Outside) → made plan ≡ state_of view outside → plan.next ≡ length view.objects + 1
    → Grows view.objects (made (fold (set_initial machine) plan slots)).objects
fold_grows machine [] plan view outside is next =
    subst (Grows view.objects) (sym (ap (λ (state : State). state.objects) is)) (same_grows view.objects)
fold_grows machine (slot ∷ slots) plan view outside is next =
    let named : Named = static_initial machine.program slot in
    let after : View = seen_to machine.program slot view named in
    both_grow view.objects after.objects (made (fold (set_initial machine) plan (slot ∷ slots))).objects (seen_grows machine.program slot view named)
    (fold_grows machine slots (set_initial machine plan slot) after outside (made_to machine slot plan view outside is next named) (next_to machine slot plan view outside is next named))

module _ {Facts : Type 0} (rules : Rules Facts) (machine : Machine) (first : Facts) (whole : Plan) (outside : Outside) (slot : ℕ) (slots : List ℕ) (view : View) (facts : Facts) (granted : List Want)
    (so : PlacedSoFar rules machine first whole outside (slot ∷ slots) view facts granted) where
  -- where a text is new, the pair of its string and characters is allowed where all that is left follows
  pub new_pair : (allows : ℕ → ℕ → Bool) (text : ℕ) → static_initial machine.program slot ≡ meanings.Text text → listed view.roots.tables.constants text ≡ 0
      → Follows allows (made whole).objects → allows constant_strings constant_characters ≡ true
  new_pair allows text is new follows =
      let named : Named = static_initial machine.program slot in
      let after : View = seen_to machine.program slot view named in
      let grown : Grows after.objects (made (fold (set_initial machine) (set_initial machine so.plan slot) slots)).objects =
      fold_grows machine slots (set_initial machine so.plan slot) after outside (made_to machine slot so.plan view outside so.makes so.next named)
      (next_to machine slot so.plan view outside so.makes so.next named) in
      text_pair allows machine.program text view grown.more (made whole).objects
      (sym (ap (λ (plan : Plan). (made plan).objects) so.leads) ∙ grown.is
      ∙ ap (λ (objects : List (Option Object)). objects ++ grown.more) (text_new machine.program slot view text new named is))
      follows
