-- The handlers of a method, and what the one that is found says of the exception that it takes (JVMS §2.10).
use Rattle.std.proofs.Common.{◌≡◌, ◌∙◌, inl, inr, ap, arith, refl, sym, subst, ℕ, suc, ◌<◌, ◌==◌, ◌&&◌, Bool, true, false, List, [], ◌∷◌, length, nat_lt, Option, Some, None, option_and_then, option_map, slice_get, if◌then◌else◌}
use Rattle.std.specs.List.{Contains, find}
use Rattle.std.proofs.lemmas.Bool.{and_parts, ltb-true}
use Rattle.std.proofs.lemmas.Option.{same_Some}
use Rattle.cb_classfile.specs.declared.body.Body.{Body}
use Rattle.cb_classfile.specs.declared.handler.Handler.{Handler}
use Rattle.cb_classfile.specs.declared.method.Method.{Method}
use Rattle.cb_link.specs.declared.linked.LinkedMethod.{LinkedMethod}
use Rattle.cb_link.specs.Named.{handlers_at, handlers_in, kind_at}
use Rattle.cb_link.specs.Numbers.{Numbered, methods_of}
use Rattle.cb_link.specs.Program.{Linked}
use Rattle.cb_link.specs.Subtypes.{assignable, instance}
use Rattle.cb_machine.specs.Machine.{class_declaring}
use Rattle.cb_machine.specs.Unwinding.{takes}
use Rattle.cb_verify.specs.Typed.{caught_kind, covers}
use Rattle.cb_verify.specs.Types.{kind_goes_to}
use Rattle.cb_verify.specs.Within.{Within, kind_named, kind_of_throwable, of_class, with_body, within}
use Rattle.cb_safety.specs.Kinds.{holds_kind}
use Rattle.cb_safety.proofs.Assigned.{never}
use Rattle.cb_safety.proofs.Entries.{within_method}
use Rattle.cb_safety.proofs.Holding.{instance_goes}
use Rattle.cb_safety.proofs.Searching.{found_either}

-- ---- the handlers and the class of a method

pub record IsHandled (program : Linked) (number : ℕ) (method : Within) : Type 0 where
  pub class : class_declaring program number ≡ Some method.class
  pub handlers : handlers_at program number ≡ method.body.handlers

abbrev class_within : Option Within → ℕ
class_within None = 0
class_within (Some method) = method.class

abbrev handlers_within : Option Within → List Handler
handlers_within None = []
handlers_within (Some method) = method.body.handlers

handlers_are : (program : Linked) (number : ℕ) (own : Numbered Method) → slice_get (methods_of program.classes) number ≡ Some own → handlers_at program number ≡ handlers_in own.member.body
handlers_are program number own there = rw there refl

handled_by : (program : Linked) (number : ℕ) (method : Within) (linked : Option LinkedMethod) (found : Option (Numbered Method))
    → slice_get program.methods number ≡ linked → slice_get (methods_of program.classes) number ≡ found
    → option_and_then (λ (linked : LinkedMethod). option_and_then (of_class program number linked.class) (option_map (λ (own : Numbered Method). own.member) found)) linked ≡ Some method
    → IsHandled program number method
handled_by program number method None found is there so = never so
handled_by program number method (Some linked) None is there so = never so
handled_by program number method (Some linked) (Some own) is there so = go own.member.body refl so where
  go : (body : Option Body) → own.member.body ≡ body → with_body program number linked.class own.member body ≡ Some method → IsHandled program number method
  go None has so = never so
  go (Some body) has so = record {
    class = ap (option_map (λ (linked : LinkedMethod). linked.class)) is ∙ ap {B = Option ℕ} Some (ap class_within so);
    handlers = handlers_are program number own there ∙ ap handlers_in has ∙ ap handlers_within so;
  }

pub handled : (program : Linked) (number : ℕ) (method : Within) → within program number ≡ Some method → IsHandled program number method
handled program number method so = handled_by program number method (slice_get program.methods number) (slice_get (methods_of program.classes) number) refl refl so

-- ---- what is found is among those that were looked through

pub found_among : {Item : Type 0} (test : Item → Bool) (items : List Item) (item : Item) → find test items ≡ Some item → Contains items item
found_among test [] item so = never so
found_among test (first ∷ items) item so = elim (found_either test first items item so) [
  | inl here ↦ (0, omega arith, here.1)
  | inr later ↦ let (place, low, there) = found_among test items item later.1 in (suc place, omega (arith, low), there)
]

-- ---- what a handler says that takes an exception

abbrev caught_as : Linked → ℕ → Option ℕ → Bool
caught_as program own None = false
caught_as program own (Some kind) = instance program own kind

pub record IsTaken (program : Linked) (method : Within) (pc own : ℕ) (handler : Handler) : Type 0 where
  pub covered : covers pc handler ≡ true
  pub holds : (kind : ℕ) → caught_kind method handler ≡ Some kind → kind < length program.kinds → holds_kind program own kind ≡ true

module _ (program : Linked) (number : ℕ) (method : Within) (own : ℕ) (so : within program number ≡ Some method) (low : own < length program.kinds)
    (throwable : holds_kind program own kind_of_throwable ≡ true) where
  named_by : (index : ℕ) → option_and_then (λ (class : ℕ). kind_at program class index) (class_declaring program number) ≡ kind_named method index
  named_by index =
      ap (option_and_then (λ (class : ℕ). kind_at program class index)) (handled program number method so).class
      ∙ ap (λ (own : Linked). kind_at own method.class index) (sym (within_method program number method so).own)

  taken_kind : (handler : Handler) (all : Bool)
      → (if all then true else caught_as program own (option_and_then (λ (class : ℕ). kind_at program class handler.catch_type) (class_declaring program number))) ≡ true
      → (kind : ℕ) → (if all then Some kind_of_throwable else kind_named method handler.catch_type) ≡ Some kind → kind < length program.kinds → holds_kind program own kind ≡ true
  taken_kind handler true caught kind is few = subst (λ (kind : ℕ). holds_kind program own kind ≡ true) (same_Some kind_of_throwable kind is) throwable
  taken_kind handler false caught kind is few =
      instance_goes program own kind low few (sym (ap (caught_as program own) (named_by handler.catch_type ∙ is)) ∙ caught)

  pub taken : (pc : ℕ) (handler : Handler) → takes program (class_declaring program number) pc own handler ≡ true → IsTaken program method pc own handler
  taken pc handler is =
      let both = and_parts (covers pc handler)
      (if handler.catch_type == 0 then true else caught_as program own (option_and_then (λ (class : ℕ). kind_at program class handler.catch_type) (class_declaring program number))) is in
      record { covered = both.0; holds = taken_kind handler (handler.catch_type == 0) both.1 }

-- a kind that is assignable to another is one of the program's
pub goes_low : (program : Linked) (kind other : ℕ) → kind_goes_to program kind other ≡ true → kind < length program.kinds
goes_low program kind other goes =
    ltb-true kind (length program.kinds)
    (and_parts (nat_lt kind (length program.kinds)) (nat_lt other (length program.kinds))
    (and_parts (nat_lt kind (length program.kinds) && nat_lt other (length program.kinds)) (assignable program kind other) goes).0).0
