-- What natives over arrays are given in a typed state has the words that its kind's shape says, and these refer to what is there.
use Rattle.std.proofs.Common.{◌≡◌, ◌∙◌, ap, ap₂, arith, refl, sym, subst, ℕ, zero, suc, ◌<◌, ◌&&◌, Bool, true, false, IsTrue, List, [], ◌∷◌, get_or, length, map, Option, Some, None, option_and_then, slice_get, nat_lt}
use Rattle.std.proofs.lemmas.Bool.{and_parts, ltb-true}
use Rattle.std.proofs.lemmas.List.{length-map}
use Rattle.cb_heap.specs.Kept.{content_at, is_held, is_kept, is_reference}
use Rattle.cb_kinds.specs.Basics.{is_reference as refers}
use Rattle.cb_kinds.specs.declared.basic.Basic.{Basic}
use Rattle.cb_kinds.specs.declared.basic.Basic.TheVariants as basics
use Rattle.cb_library.specs.declared.native.Native.{Native}
use Rattle.cb_library.specs.declared.native.Native.TheVariants as natives
use Rattle.cb_link.specs.Calls.{class_of_kind}
use Rattle.cb_link.specs.Having.{IsWhole}
use Rattle.cb_link.specs.Numbers.{class_number, or_none}
use Rattle.cb_link.specs.Program.{Linked}
use Rattle.cb_link.specs.Slots.{basic_of_field, field_marks, is_some_reference, object_fields, shape, shape_with}
use Rattle.cb_link.specs.Subtypes.{type_of_kind}
use Rattle.cb_machine.specs.Arrays.{element_of}
use Rattle.cb_machine.specs.Copying.{suppressed_slot}
use Rattle.cb_machine.specs.Library.{cloneable}
use Rattle.cb_machine.specs.Machine.{Machine, kind_of_site}
use Rattle.cb_machine.specs.Sites.{made_strings}
use Rattle.cb_machine.specs.Values.{sort_of_basic}
use Rattle.cb_natives.specs.Copies.{RefersHeld, holds, refers_at}
use Rattle.cb_natives.specs.Given.{referred_word}
use Rattle.cb_natives.specs.MakingArrays.{AreLaid, HasSize, HoldsSuppressed, IsLaid, IsOfKind as IsShaped, MayClone}
use Rattle.cb_plain.specs.State.{Content, Object, Reference, State}
use Rattle.cb_plain.specs.Updates.{object_in}
use Rattle.cb_plain.specs.declared.shape.Shape.{Shape}
use Rattle.cb_plain.specs.declared.shape.Shape.TheVariants as shapes
use Rattle.cb_plain.specs.declared.value.Value.{Value}
use Rattle.cb_safety.proofs.Laws.{Found, field_there, found, is_its_reference}
use Rattle.cb_safety.specs.Heap.{Holds, IsObject}
use Rattle.cb_safety.specs.Held.{HasContent, HasType, HaveTypes}
use Rattle.cb_safety.specs.Kinds.{Kinds, Refers, holds_kind, is_held_as, kinds_of}
use Rattle.cb_safety.specs.Naming.{Components, HasElements}
use Rattle.cb_safety.specs.Performing.{HasNatives}
use Rattle.cb_safety.specs.Signatures.{object, takes_of, throwables}
use Rattle.cb_safety.specs.States.{IsTypedState}
use Rattle.cb_shapes.specs.declared.sort.Sort.TheVariants as sorts
use Rattle.cb_verify.specs.Within.{Within, kind_of_string, kind_of_throwable}
use Rattle.cb_interp.specs.Fit.{ShapesOf}
use Rattle.cb_interp.proofs.LinkedConstants.{elements_shape}
use Rattle.cb_interp.proofs.LinkedFit.{field_there as declared_there, fields_shape, there_at}
use Rattle.cb_interp.proofs.NativesGiven.{contents_there, kept_there}

-- ---- lists

marked : (mark : ℕ → Bool) (numbers : List ℕ) (slot number : ℕ) → slice_get numbers slot ≡ Some number → get_or (map mark numbers) slot false ≡ mark number
marked mark [] slot number is = absurd (cc is)
marked mark (first ∷ numbers) zero number is = let same : first ≡ number = cc is in ap mark same
marked mark (first ∷ numbers) (suc slot) number is = marked mark numbers slot number is

-- ---- words

kept_held : (objects : List (Option Object)) (serial : ℕ) → IsTrue (is_kept objects serial) → IsTrue (is_held objects serial)
kept_held objects zero kept = refl
kept_held objects (suc place) kept = kept

no_number : (basic : Basic) → sort_of_basic basic ≡ sorts.Int → refers basic ≡ false
no_number (basics.Reference kind) sort = absurd (cc sort)
no_number other sort = refl

component_refers : (program : Linked) (one other : Basic) → Components program one other → refers other ≡ true → refers one ≡ true
component_refers program one other (Components.Alike own is) refer = refer
component_refers program one other (Components.References kind wanted goes) refer = refl

module _ (machine : Machine) (state : State) (has : HasNatives machine.program) (typed : IsTypedState machine.program state) (runs : state.roots.pending ≡ 0)
    (whole : IsWhole machine.program) (all : List Shape) (are : ShapesOf machine.program all) where
  abbrev program : Linked
  program = machine.program

  abbrev objects : List (Option Object)
  objects = state.objects

  abbrev kinds : Kinds
  kinds = kinds_of objects

  held_so : (kind serial : ℕ) → Refers program kinds kind serial → IsTrue (is_held objects serial)
  held_so kind serial Refers.ToNull = refl
  held_so kind serial (Refers.To own is) =
      let it : Found program objects kind own = found program objects kind own typed.heap is in
      kept_held objects own (kept_there objects own it.object it.there)

  word_refers : (basic : Basic) (content : Content) → HasContent program kinds basic content → RefersHeld objects (Some content)
  word_refers basic content (HasContent.AReference kind serial refers) = held_so kind serial refers
  word_refers basic content (HasContent.ALong number fits) = tt
  word_refers basic content (HasContent.AnInt own number sort fits kept) = tt

  word_holds : (basic : Basic) (content : Content) → HasContent program kinds basic content → holds (refers basic) (Some content) ≡ true
  word_holds basic content (HasContent.AReference kind serial refers) = refl
  word_holds basic content (HasContent.ALong number fits) = refl
  word_holds basic content (HasContent.AnInt own number sort fits kept) = rw (no_number own sort) refl

  -- a word of an object, as its kind's shape says
  record IsWord (own : Object) (place : ℕ) : Type 0 where
    pub basic : Basic
    pub marks : refers_at (shape program own.kind) place ≡ refers basic
    pub word : Holds program kinds own.contents place basic

  field_word : (own : Object) (is : IsObject program kinds own) (class place : ℕ) → class_of_kind program own.kind ≡ Some class → place < length own.contents → IsWord own place
  field_word own is class place classed low =
      let shape_is = fields_shape program whole all are own.kind class classed in
      let numbers = object_fields program.classes class in
      let mark = λ (number : ℕ). is_some_reference (basic_of_field program number) in
      let size = is.sized (field_marks program (Some class)) shape_is in
      let (number, there) = there_at numbers place (omega (arith, low, size, length-map numbers mark)) in
      let (basic, declared) = declared_there program whole all are class place number there in
      record {
        basic = basic;
        marks = ap (λ (shape : Shape). refers_at shape place) shape_is ∙ marked mark numbers place number there ∙ ap is_some_reference declared;
        word = is.fields class place basic classed (ap (option_and_then (basic_of_field program)) there ∙ declared);
      }

  no_class : (own : Object) (is : IsObject program kinds own) (place : ℕ) → shape program own.kind ≡ shapes.Fields [] → place < length own.contents → IsWord own place
  no_class own is place none low = let size = is.sized [] none in absurd (omega (arith, low, size))

  class_word : (own : Object) (is : IsObject program kinds own) (name : List ℕ) (place : ℕ) → slice_get program.kinds own.kind ≡ Some name → element_of program own.kind ≡ None
      → place < length own.contents → IsWord own place
  class_word own is name place named elements low = by (class_number program.classes name) refl where
    by : (class : Option ℕ) → class_number program.classes name ≡ class → IsWord own place
    by None none =
        no_class own is place
        (ap (shape_with program (or_none (slice_get program.kinds own.kind))) elements
        ∙ ap (λ (found : Option (List ℕ)). shapes.Fields (field_marks program (class_number program.classes (or_none found)))) named
        ∙ ap (λ (class : Option ℕ). shapes.Fields (field_marks program class)) none) low
    by (Some class) classed = field_word own is class place (ap (option_and_then (class_number program.classes)) named ∙ classed) low

  word_there : (own : Object) (is : IsObject program kinds own) (place : ℕ) → place < length own.contents → IsWord own place
  word_there own is place low = by (element_of program own.kind) refl where
    by : (element : Option Basic) → element_of program own.kind ≡ element → IsWord own place
    by (Some basic) elements = record {
      basic = basic;
      marks = ap (λ (shape : Shape). refers_at shape place) (elements_shape program whole all are own.kind basic elements);
      word = is.elements basic place elements low;
    }
    by None elements = let (name, named) = there_at program.kinds own.kind is.kind in class_word own is name place named elements low

  size_there : (own : Object) (is : IsObject program kinds own) (it : Shape) → shape program own.kind ≡ it → HasSize it (length own.contents)
  size_there own is (shapes.Fields marks) same = is.sized marks same
  size_there own is (shapes.Elements mark) same = tt

  -- ---- an object

  abbrev IsLaidAs : Shape → List Content → Type 0
  IsLaidAs shape contents =
      (place : ℕ) → place < length contents → (holds (refers_at shape place) (slice_get contents place) ≡ true) × RefersHeld objects (slice_get contents place)

  words_laid : (own : Object) → IsObject program kinds own → IsLaidAs (shape program own.kind) own.contents
  words_laid own is place low =
      let it : IsWord own place = word_there own is place low in (
        ap₂ (λ (mark : Bool) (content : Option Content). holds mark content) it.marks it.word.there ∙ word_holds it.basic it.word.content it.word.fits,
        subst (RefersHeld objects) (sym it.word.there) (word_refers it.basic it.word.content it.word.fits),
      )

  pub object_laid : (serial : ℕ) (own : Object) → object_in objects serial ≡ Some own → IsObject program kinds own → IsLaid objects (shape program own.kind) serial
  object_laid serial own there is =
      let contents = contents_there objects serial own there in
      let laid = subst (IsLaidAs (shape program own.kind)) (sym contents) (words_laid own is) in
      record {
        held = kept_held objects serial (kept_there objects serial own there);
        sized = subst (λ (contents : List Content). HasSize (shape program own.kind) (length contents)) (sym contents) (size_there own is (shape program own.kind) refl);
        each = λ place low. (laid place low).0;
        refers = λ place low. (laid place low).1;
      }

  -- ---- what an exception suppressed

  no_laid : (shape : Shape) → HasSize shape 0 → IsLaid objects shape 0
  no_laid shape sized = record { held = refl; sized = sized; each = λ place low. absurd (omega (arith, low)); refers = λ place low. absurd (omega (arith, low)) }

  array_laid : (serial : ℕ) → Refers program kinds (throwables program) serial → IsLaid objects (shapes.Elements true) serial
  array_laid serial Refers.ToNull = no_laid (shapes.Elements true) tt
  array_laid serial (Refers.To own is) =
      let it : Found program objects (throwables program) own = found program objects (throwables program) own typed.heap is in
      let elements : HasElements program it.object.kind (basics.Reference kind_of_throwable) =
      has.core.elements it.object.kind (throwables program) (basics.Reference kind_of_throwable) it.goes has.core.throwable_elements in
      subst (λ (shape : Shape). IsLaid objects shape own)
      (elements_shape program whole all are it.object.kind elements.element elements.is
      ∙ ap shapes.Elements (component_refers program elements.element (basics.Reference kind_of_throwable) elements.held refl))
      (object_laid own it.object it.there it.is)

  suppressed_laid : (serial : ℕ) (own : Object) → object_in objects serial ≡ Some own → IsObject program kinds own → holds_kind program own.kind kind_of_throwable ≡ true
      → HoldsSuppressed objects serial
  suppressed_laid serial own there is goes =
      let word : Holds program kinds own.contents 2 (basics.Reference (throwables program)) =
      field_there machine state has typed runs kind_of_throwable 2 (basics.Reference (throwables program)) own has.core.suppressed_fields goes is in
      let one = is_its_reference program kinds (throwables program) word.content word.fits in
      let at : content_at objects serial suppressed_slot ≡ Some (Reference one.serial) =
      ap (λ (contents : List Content). slice_get contents 2) (contents_there objects serial own there) ∙ word.there ∙ ap (λ (content : Content). Some content) one.is in
      record {
        refers = ap is_reference at;
        array = subst (IsLaid objects (shapes.Elements true)) (sym (ap referred_word at)) (array_laid one.serial one.refers);
      }

  -- ---- one argument

  some_kinds : cloneable < length program.kinds
  some_kinds =
      let own = kind_of_site program made_strings in
      let goes = and_parts (nat_lt own (length program.kinds) && nat_lt kind_of_string (length program.kinds))
      (is_held_as program.classes (type_of_kind program own) (type_of_kind program kind_of_string)) has.texts.string in
      let low = ltb-true kind_of_string (length program.kinds) (and_parts (nat_lt own (length program.kinds)) (nat_lt kind_of_string (length program.kinds)) goes.0).1 in
      omega (arith, low)

  may_clone : (serial : ℕ) → Refers program kinds object serial → (serial ≡ 0 → ⊥) → MayClone program objects serial
  may_clone serial Refers.ToNull some = absurd (some refl)
  may_clone serial (Refers.To own is) some =
      let it : Found program objects object own = found program objects object own typed.heap is in
      record { object = it.object; is = it.there; site = it.is.site; kind = it.is.kind; known = some_kinds; laid = object_laid own it.object it.there it.is }

  is_shaped : (serial : ℕ) → Refers program kinds object serial → (serial ≡ 0 → ⊥) → IsShaped program objects serial
  is_shaped serial Refers.ToNull some = absurd (some refl)
  is_shaped serial (Refers.To own is) some =
      let it : Found program objects object own = found program objects object own typed.heap is in
      record { object = it.object; is = it.there; kind = it.is.kind; laid = object_laid own it.object it.there it.is }

  may_suppress : (serial : ℕ) → Refers program kinds kind_of_throwable serial → (serial ≡ 0 → ⊥) → HoldsSuppressed objects serial
  may_suppress serial Refers.ToNull some = absurd (some refl)
  may_suppress serial (Refers.To own is) some =
      let it : Found program objects kind_of_throwable own = found program objects kind_of_throwable own typed.heap is in
      suppressed_laid own it.object it.there it.is it.goes

  module _ (method : Within) (own : method.program ≡ program) where
    as_own : (kind serial : ℕ) → Refers method.program kinds kind serial → Refers program kinds kind serial
    as_own kind serial refers = subst (λ (program : Linked). Refers program kinds kind serial) own refers

    -- all of them
    pub natives_laid : (native : Native) (held : List Value) → HaveTypes method kinds (takes_of program native) held → AreLaid program objects native held
    natives_laid natives.ObjectClone _ (HaveTypes.And _ _ _ _ (HasType.AReference _ serial refers) rest) = may_clone serial (as_own object serial refers)
    natives_laid natives.SystemArraycopy _ (HaveTypes.And _ _ _ _ (HasType.AReference _ source refers)
        (HaveTypes.And _ _ _ _ start (HaveTypes.And _ _ _ _ (HasType.AReference _ to given) rest))) =
        (is_shaped source (as_own object source refers), is_shaped to (as_own object to given))
    natives_laid natives.ThrowableAddSuppressed _ (HaveTypes.And _ _ _ _ (HasType.AReference _ serial refers) rest) =
        may_suppress serial (as_own kind_of_throwable serial refers)
    natives_laid natives.ThrowableGetSuppressed _ (HaveTypes.And _ _ _ _ (HasType.AReference _ serial refers) rest) =
        may_suppress serial (as_own kind_of_throwable serial refers)
    natives_laid other held have = tt
