-- What an invokeinterface asks for: the interface that its constant names, in the class of the method that runs.
use Rattle.std.proofs.Common.{◌≡◌, ◌∙◌, ◌⊎◌, inl, inr, ap, refl, sym, ℕ, true, List, [], ◌∷◌, map, Option, Some, None, zero, suc}
use Rattle.std.proofs.lemmas.Bool.{false≢true}
use Rattle.std.proofs.lemmas.Option.{none-some, same_Some, slice_get-map}
use Rattle.std.specs.Prelude.{IsSomeAnd, is_some, option_and_then, option_map, slice_get}
use Rattle.cb_classfile.specs.declared.class.ClassFile.{ClassFile}
use Rattle.cb_classfile.specs.declared.method.Method.{Method}
use Rattle.cb_frames.specs.Tops.{topmost}
use Rattle.cb_frames.specs.declared.frame.Frame.TheVariants as shown
use Rattle.cb_heap.specs.Reading.{read_frame, read_roots, seen}
use Rattle.cb_kinds.specs.Texts.{number_of}
use Rattle.cb_link.proofs.Laws.{placed}
use Rattle.cb_link.specs.Named.{kind_at}
use Rattle.cb_link.specs.Numbers.{Numbered, methods_of}
use Rattle.cb_link.specs.Places.{IsPlaced}
use Rattle.cb_link.specs.Program.{Linked, linked_method}
use Rattle.cb_link.specs.Special.{holder_named}
use Rattle.cb_link.specs.declared.linked.LinkedMethod.{LinkedMethod}
use Rattle.cb_link.specs.declared.named.Named.{Named}
use Rattle.cb_plain.specs.State.{Frame, Initialising, Object, OfMethod, Roots}
use Rattle.cb_text.specs.Naming.{MemberNames, class_at, member_at, member_from, name_and_type_at, text_at}
use Rattle.cb_text.specs.Pool.{HasIndices, IsMember, IsPool, IsText, Names, constant_at}
use Rattle.cb_text.specs.declared.constant.Constant.{Constant}
use Rattle.cb_text.specs.declared.constant.Constant.TheVariants.{Fieldref, InterfaceMethodref, Methodref, NameAndType, Utf8}
use Rattle.cb_text.specs.declared.naming.MemberKind.{MemberKind}
use Rattle.cb_text.specs.declared.naming.MemberKind.TheVariants as members
use Rattle.cb_act.specs.Acting.{ListsMethods, holder_kind, interface_called, interface_deed, method_shown, on_method, running}
use Rattle.cb_act.proofs.EachOf.{all_at}

-- ---- the method that runs

module _ (index : ℕ → ℕ) (objects : List (Option Object)) (held : Roots) where
  runs_read : running (read_roots index held) ≡ running held
  runs_read = go held.frames where
    go : (frames : List Frame) → method_shown (topmost (map (read_frame index) frames)) ≡ method_shown (topmost frames)
    go [] = refl
    go (OfMethod frame ∷ below) = refl
    go (Initialising class place ∷ below) = refl

  module _ (program : Linked) (number : ℕ) (named : Named) where
    pub called_in : (caller pc : ℕ) → Some (shown.Running caller pc) ≡ topmost held.frames → (limit : ℕ)
        → interface_called program limit (seen index objects held) number named ≡ on_method (interface_deed program limit (seen index objects held) caller number) named
    called_in caller pc top limit =
        ap (option_and_then (λ caller. on_method (interface_deed program limit (seen index objects held) caller number) named)) (runs_read ∙ ap method_shown (sym top))

-- ---- the constant

abbrev holder_of : Constant → Option ℕ
holder_of (Fieldref holder member) = Some holder
holder_of (Methodref holder member) = Some holder
holder_of (InterfaceMethodref holder member) = Some holder
holder_of other = None

abbrev pub class_named : List Constant → ℕ → Option (List ℕ)
class_named pool index = option_map (λ (member : MemberNames). member.class) (member_at pool index)

module _ (pool : List Constant) (is : IsPool pool) where
  indices : (index : ℕ) (constant : Constant) → constant_at pool index ≡ Some constant → HasIndices pool constant
  indices zero constant there = absurd (cc there)
  indices (suc before) constant there = all_at (HasIndices pool) pool before constant is.indexed there

  text_there : (index : ℕ) → Names pool index IsText → is_some (text_at pool index) ≡ true
  text_there index names = go (constant_at pool index) refl names where
    go : (found : Option Constant) → constant_at pool index ≡ found → IsSomeAnd found IsText → is_some (text_at pool index) ≡ true
    go None at names = absurd names
    go (Some (Utf8 units)) at names = rw at refl
    go (Some other) at names = absurd names

  texts : (name descriptor : Option (List ℕ)) → is_some name ≡ true → is_some descriptor ≡ true
      → is_some {T = List ℕ × List ℕ} (option_and_then (λ (one : List ℕ). option_map (λ (other : List ℕ). (one, other)) descriptor) name) ≡ true
  texts None descriptor first second = first
  texts (Some name) None first second = second
  texts (Some name) (Some descriptor) first second = refl

  type_there : (index : ℕ) → Names pool index IsMember → is_some (name_and_type_at pool index) ≡ true
  type_there index names = go (constant_at pool index) refl names where
    go : (found : Option Constant) → constant_at pool index ≡ found → IsSomeAnd found IsMember → is_some (name_and_type_at pool index) ≡ true
    go None at names = absurd names
    go (Some (NameAndType name descriptor)) at names =
        let own = indices index (NameAndType name descriptor) at in
        rw at (texts (text_at pool name) (text_at pool descriptor) (text_there name own.0) (text_there descriptor own.1))
    go (Some other) at names = absurd names

  holder_is : (kind : MemberKind) (holder member : ℕ) → is_some (name_and_type_at pool member) ≡ true
      → class_at pool holder ≡ option_map (λ (member : MemberNames). member.class) (member_from pool (kind, holder, member))
  holder_is kind holder member typed = go (class_at pool holder) (name_and_type_at pool member) typed where
    go : (class : Option (List ℕ)) (names : Option (List ℕ × List ℕ)) → is_some names ≡ true
        → class ≡ option_map (λ (member : MemberNames). member.class)
        (option_and_then (λ (class : List ℕ). option_map (λ (names : List ℕ × List ℕ). record { kind = kind; class = class; name = names.0; descriptor = names.1 }) names) class)
    go None names typed = refl
    go (Some class) None typed = absurd (false≢true typed)
    go (Some class) (Some names) typed = refl

  holder_so : (index : ℕ) (constant : Constant) → constant_at pool index ≡ Some constant → option_and_then (class_at pool) (holder_of constant) ≡ class_named pool index
  holder_so index (Fieldref holder member) at =
      let own = indices index (Fieldref holder member) at in rw at (holder_is members.Field holder member (type_there member own.1))
  holder_so index (Methodref holder member) at =
      let own = indices index (Methodref holder member) at in rw at (holder_is members.Method holder member (type_there member own.1))
  holder_so index (InterfaceMethodref holder member) at =
      let own = indices index (InterfaceMethodref holder member) at in rw at (holder_is members.InterfaceMethod holder member (type_there member own.1))
  holder_so index other at = rw at refl

  pub holder_found : (index holder : ℕ) (constant : Constant) → constant_at pool index ≡ Some constant
      → ((member : ℕ) × (constant ≡ Fieldref holder member)) ⊎ ((member : ℕ) × (constant ≡ Methodref holder member)) ⊎ ((member : ℕ) × (constant ≡ InterfaceMethodref holder member))
      → class_at pool holder ≡ class_named pool index
  holder_found index holder constant at (inl (member, same)) = holder_so index (Fieldref holder member) (at ∙ ap Some same)
  holder_found index holder constant at (inr (inl (member, same))) = holder_so index (Methodref holder member) (at ∙ ap Some same)
  holder_found index holder constant at (inr (inr (member, same))) = holder_so index (InterfaceMethodref holder member) (at ∙ ap Some same)

-- ---- the kind that it names

module _ (program : Linked) (listed : ListsMethods program) (caller : ℕ) where
  listed_at : slice_get program.methods caller ≡ option_map (linked_method program.kinds) (slice_get (methods_of program.classes) caller)
  listed_at = ap (λ (methods : List LinkedMethod). slice_get methods caller) listed ∙ slice_get-map (linked_method program.kinds) (methods_of program.classes) caller

  module _ (class : ℕ) (declares : option_map (λ (linked : LinkedMethod). linked.class) (slice_get program.methods caller) ≡ Some class)
      (file : ClassFile) (there : slice_get program.classes class ≡ Some file) (index : ℕ) where
    class_so : holder_named program caller index ≡ class_named file.pool index
    class_so = go (slice_get (methods_of program.classes) caller) refl where
      go : (found : Option (Numbered Method)) → slice_get (methods_of program.classes) caller ≡ found → holder_named program caller index ≡ class_named file.pool index
      go None at = absurd (none-some class (sym (ap (option_map (λ (linked : LinkedMethod). linked.class)) (listed_at ∙ ap (option_map (linked_method program.kinds)) at)) ∙ declares))
      go (Some numbered) at =
          let own : numbered.class ≡ class =
          same_Some numbered.class class (sym (ap (option_map (λ (linked : LinkedMethod). linked.class)) (listed_at ∙ ap (option_map (linked_method program.kinds)) at)) ∙ declares) in
          let stands : IsPlaced (λ (class : ClassFile). class.methods) program.classes numbered = placed (λ (class : ClassFile). class.methods) program.classes caller numbered at in
          let same : stands.declaring ≡ file = same_Some stands.declaring file (sym stands.declares ∙ ap (slice_get program.classes) own ∙ there) in
          let here : holder_named program caller index ≡ class_named numbered.pool index = rw at refl in
          here ∙ ap (λ (pool : List Constant). class_named pool index) (stands.of_pool ∙ ap (λ (file : ClassFile). file.pool) same)

    pub kind_found : (holder : ℕ) → class_at file.pool holder ≡ class_named file.pool index → kind_at program class holder ≡ holder_kind program caller index
    kind_found holder is =
        let own : kind_at program class holder ≡ option_and_then (number_of program.kinds) (class_at file.pool holder) = rw there refl in
        own ∙ ap (option_and_then (number_of program.kinds)) (is ∙ sym class_so)

    pub kind_none : None ≡ class_named file.pool index → None ≡ holder_kind program caller index
    kind_none is = ap (option_and_then (number_of program.kinds)) (is ∙ sym class_so)
