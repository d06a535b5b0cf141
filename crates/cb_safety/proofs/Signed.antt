-- Methods of one signature take and give the same; and the objects of a class are of each class that is above it.
use Rattle.std.proofs.Common.{◌≡◌, ◌∙◌, inl, inr, ap, ap₂, refl, sym, subst, arith, ℕ, zero, suc, ◌+◌, ◌<◌, ◌==◌, Bool, true, false, cond, not, ◌||◌, ◌&&◌, List, [], ◌∷◌, ◌++◌, get_or, length, map, Option, Some, None, option_and_then, option_map, position, slice_get}
use Rattle.std.specs.Prelude.{IfSome, codes}
use Rattle.std.specs.Cmp.Lexicographic.{bytes_decides}
use Rattle.std.specs.List.{AllByRecursion, Contains, flat_map, position_or_len}
use Rattle.std.proofs.lemmas.Bool.{and_parts, false≢true, or_left, or_right}
use Rattle.std.proofs.lemmas.List.{append_assoc}
use Rattle.std.proofs.lemmas.Option.{option_and_then_some, same_Some, slice_get-get_or, slice_get-map, slice_get_within}
use Rattle.cb_classfile.specs.Class.{IsWellFormed}
use Rattle.cb_classfile.specs.declared.class.ClassFile.{ClassFile}
use Rattle.cb_classfile.specs.declared.method.Method.{Method}
use Rattle.cb_hierarchy.specs.declared.class.Class.{Class as Ranked}
use Rattle.cb_hierarchy.specs.declared.member.Method.{Method as RankedMethod}
use Rattle.cb_hierarchy.specs.Above.{IsAcyclic}
use Rattle.cb_hierarchy.specs.Bad.{AreGood}
use Rattle.cb_hierarchy.specs.Classes.{parents}
use Rattle.cb_hierarchy.specs.Orders.{is_subclass}
use Rattle.cb_hierarchy.specs.Resolution.{resolved_method}
use Rattle.cb_kinds.proofs.Laws.{text_at}
use Rattle.cb_kinds.specs.Basics.{basic_of}
use Rattle.cb_kinds.specs.Descriptors.{parameters_of, result_of}
use Rattle.cb_kinds.specs.Kinds.{is_array, kinds_of_name, name_in, type_of_name}
use Rattle.cb_kinds.specs.Texts.{firsts, number_of, number_of_pair, own_number, same_text, same_texts}
use Rattle.cb_link.specs.Calls.{class_of_kind, or_object}
use Rattle.cb_link.specs.Having.{IsWhole}
use Rattle.cb_link.specs.Making.{class_kinds, fixed_kinds}
use Rattle.cb_link.specs.Numbers.{Numbered, class_number, hierarchy, method_texts, methods_of, name_of, or_none, ranked_method, ranked_methods, texts_in}
use Rattle.cb_link.specs.Program.{Linked, linked_method}
use Rattle.cb_link.specs.Resolving.{found_method, holder, object}
use Rattle.cb_link.specs.Subtypes.{between, is_above_arrays, is_below, is_instance, is_object, is_subtype, type_of_kind}
use Rattle.cb_names.specs.Names.{IsClassName}
use Rattle.cb_names.specs.Signs.{letter_class, semicolon}
use Rattle.cb_text.specs.Naming.{MemberNames}
use Rattle.cb_safety.specs.ClassNames.{AreOwnKinds, NamedOnce}
use Rattle.cb_safety.specs.Kinds.{holds_kind}
use Rattle.cb_safety.proofs.Assigned.{mapped}
use Rattle.cb_safety.proofs.Chosen.{IsPosition, Signs, position_there, resolved_signs}
use Rattle.cb_safety.proofs.Holding.{instance_goes}
use Rattle.cb_safety.proofs.Lists.{all_at}
use Rattle.cb_safety.proofs.Ordered.{IsFronted, acyclic, named_low}
use Rattle.cb_safety.proofs.OwnKinds.{firsts_front}
use Rattle.cb_safety.proofs.Searching.{position_here, position_later}
use Rattle.cb_safety.proofs.Subclasses.{none_above, subclass_above}
use Rattle.cb_safety.proofs.Superclasses.{own_class_name, types_below}

-- ---- texts by their signature

same_pair : (one other : List ℕ × List ℕ) → same_texts one other ≡ true → one ≡ other
same_pair (name, descriptor) (other, another) is =
    let both = and_parts (same_text name other) (same_text descriptor another) is in
    ap₂ (λ (name descriptor : List ℕ). (name, descriptor)) ((bytes_decides name other).0 both.0) ((bytes_decides descriptor another).0 both.1)

pair_itself : (one : List ℕ × List ℕ) → same_texts one one ≡ true
pair_itself one =
    ap (λ (test : Bool). test && same_text one.1 one.1) ((bytes_decides one.0 one.0).1 refl) ∙ (bytes_decides one.1 one.1).1 refl

own_there : (pairs : List (List ℕ × List ℕ)) (place : ℕ) (own : List ℕ × List ℕ) → slice_get pairs place ≡ Some own → slice_get pairs (own_number pairs own) ≡ Some own
own_there [] place own is = absurd (cc is)
own_there (first ∷ pairs) zero own is =
    let same : first ≡ own = same_Some first own is in
    ap (λ (test : Bool). slice_get (first ∷ pairs) (cond (not test) (1 + position_or_len (same_texts own) pairs) 0))
    (ap (λ (first : List ℕ × List ℕ). same_texts own first) same ∙ pair_itself own) ∙ is
own_there (first ∷ pairs) (suc place) own is = go (same_texts own first) refl (own_there pairs place own is) where
  go : (test : Bool) → same_texts own first ≡ test → slice_get pairs (own_number pairs own) ≡ Some own
      → slice_get (first ∷ pairs) (cond (not test) (1 + position_or_len (same_texts own) pairs) 0) ≡ Some own
  go true same later = ap {B = Option (List ℕ × List ℕ)} Some (sym (same_pair own first same))
  go false same later =
      ap (slice_get (first ∷ pairs)) (let next : 1 + position_or_len (same_texts own) pairs ≡ suc (position_or_len (same_texts own) pairs) = omega arith in next) ∙ later

abbrev pub texts_of : Numbered Method → List ℕ × List ℕ
texts_of own = texts_in own.pool own.member.name own.member.descriptor

module _ (classes : List ClassFile) where
  text_there : (number : ℕ) (own : Numbered Method) → slice_get (methods_of classes) number ≡ Some own → slice_get (method_texts classes) number ≡ Some (texts_of own)
  text_there number own there = slice_get-map texts_of (methods_of classes) number ∙ ap (option_map texts_of) there

  pub same_signature : (one other : ℕ) (own another : Numbered Method) → slice_get (methods_of classes) one ≡ Some own → slice_get (methods_of classes) other ≡ Some another
      → (ranked_method classes own).declared.signature ≡ (ranked_method classes another).declared.signature → texts_of own ≡ texts_of another
  same_signature one other own another there also same =
      same_Some (texts_of own) (texts_of another)
      (sym (own_there (method_texts classes) one (texts_of own) (text_there one own there))
      ∙ ap (slice_get (method_texts classes)) same
      ∙ own_there (method_texts classes) other (texts_of another) (text_there other another also))

pub same_parameters : (kinds : List (List ℕ)) (own another : Numbered Method) → texts_of own ≡ texts_of another → (linked_method kinds own).parameters ≡ (linked_method kinds another).parameters
same_parameters kinds own another same = ap (λ (texts : List ℕ × List ℕ). map (basic_of kinds) (parameters_of texts.1)) same

pub same_result : (kinds : List (List ℕ)) (own another : Numbered Method) → texts_of own ≡ texts_of another → (linked_method kinds own).result ≡ (linked_method kinds another).result
same_result kinds own another same = ap (λ (texts : List ℕ × List ℕ). option_map (basic_of kinds) (result_of texts.1)) same

-- ---- objects of a class may be held as each class above it

-- an array and an object of a class are instances of Object
instance_object : (classes : List ClassFile) (name : List ℕ) → is_subtype (is_instance classes) (type_of_name name) (letter_class ∷ codes "java/lang/Object;") ≡ true
instance_object classes name = go (is_array name) refl where
  with_bracket : (name : List ℕ) → is_array name ≡ true → is_subtype (is_instance classes) name (letter_class ∷ codes "java/lang/Object;") ≡ true
  with_bracket [] is = absurd (false≢true is)
  with_bracket (unit ∷ rest) is =
      ap (λ (test : Bool). cond test (is_above_arrays (name_in (codes "java/lang/Object;")))
      (cond ((unit == letter_class) && true) (is_instance classes (name_in rest) (name_in (codes "java/lang/Object;"))) (unit == letter_class))) is

  with_letter : is_instance classes (name_in (name ++ semicolon ∷ [])) (codes "java/lang/Object") ≡ true
  with_letter =
      or_left (same_text (name_in (name ++ semicolon ∷ [])) (codes "java/lang/Object") || is_object (codes "java/lang/Object"))
      (is_below classes (name_in (name ++ semicolon ∷ [])) (codes "java/lang/Object"))
      (or_right (same_text (name_in (name ++ semicolon ∷ [])) (codes "java/lang/Object")) (is_object (codes "java/lang/Object")) refl)

  go : (array : Bool) → is_array name ≡ array → is_subtype (is_instance classes) (cond array name (letter_class ∷ name ++ semicolon ∷ [])) (letter_class ∷ codes "java/lang/Object;") ≡ true
  go true is = with_bracket name is
  go false is = with_letter

there_at : (classes : List ClassFile) (number : ℕ) → number < length classes → (class : ClassFile) × (slice_get classes number ≡ Some class)
there_at [] number low = absurd (omega (arith, low))
there_at (class ∷ classes) zero low = (class, refl)
there_at (class ∷ classes) (suc number) low = there_at classes number (omega (arith, low))

module _ (program : Linked) (formed : AllByRecursion IsWellFormed program.classes) (kinds : AreOwnKinds program) (front : IsFronted program.classes) where
  pub class_there : (number : ℕ) → number < length program.classes → (class : ClassFile) × (slice_get program.classes number ≡ Some class)
  class_there number low = there_at program.classes number low

  pub class_low : (number : ℕ) → number < length program.classes → number < length program.kinds
  class_low number low =
      let (class, there) = class_there number low in
      slice_get_within program.kinds number (name_of class) (kinds.kind number class there)

  -- the class of a name
  named_class : (name : List ℕ) (number : ℕ) → class_number program.classes name ≡ Some number → (class : ClassFile) × ((slice_get program.classes number ≡ Some class) × (name ≡ name_of class))
  named_class name number is = go (slice_get program.classes number) refl where
    there : slice_get (map name_of program.classes) number ≡ Some name
    there = text_at (map name_of program.classes) name number is

    go : (found : Option ClassFile) → slice_get program.classes number ≡ found → (class : ClassFile) × ((slice_get program.classes number ≡ Some class) × (name ≡ name_of class))
    go None at = absurd (cc (sym (slice_get-map name_of program.classes number ∙ ap (option_map name_of) at) ∙ there))
    go (Some class) at =
        (class, (at, same_Some name (name_of class) (sym there ∙ slice_get-map name_of program.classes number ∙ ap (option_map name_of) at)))

  object_held : (own : ℕ) (name : List ℕ) → slice_get program.kinds own ≡ Some name → holds_kind program own 0 ≡ true
  object_held own name there =
      let (class, (at, same)) = named_class (codes "java/lang/Object") 0 front.object in
      instance_goes program own 0 (slice_get_within program.kinds own name there) (slice_get_within program.kinds 0 (name_of class) (kinds.kind 0 class at))
      (ap (λ (found : Option (List ℕ)). is_subtype (is_instance program.classes) (type_of_name (or_none found)) (type_of_kind program 0)) there
      ∙ ap (λ (found : Option (List ℕ)). is_subtype (is_instance program.classes) (type_of_name name) (type_of_name (or_none found))) (kinds.kind 0 class at ∙ ap {B = Option (List ℕ)} Some (sym same))
      ∙ instance_object program.classes name)

  class_held : (own number other : ℕ) (name : List ℕ) → slice_get program.kinds own ≡ Some name → class_number program.classes name ≡ Some number
      → is_subclass (hierarchy program.classes) number other ≡ true → other < length program.classes → holds_kind program own other ≡ true
  class_held own number other name there numbered below low =
      let (class, (at, same)) = named_class name number numbered in
      let (above, up) = class_there other low in
      let spelled : IsClassName name = subst IsClassName (sym same) (own_class_name class (all_at IsWellFormed program.classes number class formed at)) in
      let also : IsClassName (name_of above) = own_class_name above (all_at IsWellFormed program.classes other above formed up) in
      instance_goes program own other (slice_get_within program.kinds own name there) (slice_get_within program.kinds other (name_of above) (kinds.kind other above up))
      (ap (λ (found : Option (List ℕ)). is_subtype (is_instance program.classes) (type_of_name (or_none found)) (type_of_kind program other)) there
      ∙ ap (λ (found : Option (List ℕ)). is_subtype (is_instance program.classes) (type_of_name name) (type_of_name (or_none found))) (kinds.kind other above up)
      ∙ types_below (is_instance program.classes) name (name_of above) spelled also
      (or_right (same_text name (name_of above) || is_object (name_of above)) (is_below program.classes name (name_of above))
      (ap (λ (found : Option ℕ). between program.classes found (class_number program.classes (name_of above))) numbered
      ∙ ap (between program.classes (Some number)) (kinds.number other above up) ∙ below)))

  -- an object's class, which is Object where its kind has none, or what is above it
  pub held_above : (own number other : ℕ) → own < length program.kinds → or_object (class_of_kind program own) ≡ number
      → is_subclass (hierarchy program.classes) number other ≡ true → other < length program.classes → holds_kind program own other ≡ true
  held_above own number other low is below other_low = go (class_number program.classes name) refl where
    name : List ℕ
    name = get_or program.kinds own []

    there : slice_get program.kinds own ≡ Some name
    there = slice_get-get_or program.kinds own [] low

    number_is : (found : Option ℕ) → class_number program.classes name ≡ found → number ≡ or_object found
    number_is found numbered = sym is ∙ ap (λ (found : Option (List ℕ)). or_object (option_and_then (class_number program.classes) found)) there ∙ ap or_object numbered

    at_root : number ≡ 0 → other ≡ 0
    at_root zeroth = elim (subclass_above (hierarchy program.classes) number other below) [
      | inl same ↦ sym same ∙ zeroth
      | inr above ↦ absurd (none_above (parents (hierarchy program.classes)) number other (ap (parents (hierarchy program.classes)) zeroth ∙ front.last) above)
    ]

    go : (found : Option ℕ) → class_number program.classes name ≡ found → holds_kind program own other ≡ true
    go None numbered = subst (λ (other : ℕ). holds_kind program own other ≡ true) (sym (at_root (number_is None numbered))) (object_held own name there)
    go (Some class) numbered =
        class_held own class other name there numbered
        (subst (λ (number : ℕ). is_subclass (hierarchy program.classes) number other ≡ true) (number_is (Some class) numbered) below) other_low

-- ---- the kind of a class by its name

position_front : {Item : Type 0} (test : Item → Bool) (items more : List Item) (place : ℕ) → position test items ≡ Some place → position test (items ++ more) ≡ Some place
position_front test [] more place is = absurd (cc is)
position_front {Item} test (first ∷ items) more place is = go (test first) refl (position_front test items more) where
  go : (passes : Bool) → test first ≡ passes → ((place : ℕ) → position test items ≡ Some place → position test (items ++ more) ≡ Some place)
      → position test (first ∷ items ++ more) ≡ Some place
  go true here later = position_here test first (items ++ more) here ∙ sym (position_here test first items here) ∙ is
  go false here later =
      mapped (λ (turn : ℕ). 1 + turn) (position test items) place (sym (position_later test first items here) ∙ is)
      (λ turn found same. position_later test first (items ++ more) here ∙ ap (option_map (λ (turn : ℕ). 1 + turn)) (later turn found) ∙ ap {B = Option ℕ} Some same)

pub kind_numbered : (program : Linked) → IsWhole program → NamedOnce program.classes → (name : List ℕ) (number : ℕ) → class_number program.classes name ≡ Some number
    → number_of program.kinds name ≡ Some number
kind_numbered program whole once name number is =
    let names : List (List ℕ) = map name_of program.classes in
    let others : List (List ℕ) = flat_map class_kinds program.classes ++ flat_map kinds_of_name fixed_kinds in
    let (rest, first) = firsts_front names others once in
    ap (λ (kinds : List (List ℕ)). number_of kinds name)
    (whole.kinds ∙ ap firsts (append_assoc names (flat_map class_kinds program.classes) (flat_map kinds_of_name fixed_kinds)) ∙ first)
    ∙ position_front (same_text name) names rest number is

-- ---- the texts of a method that is found

pub record FoundIn (classes : List ClassFile) (member : MemberNames) (number : ℕ) : Type 0 where
  pub class : ℕ
  pub held : holder classes member.class ≡ Some class
  pub signature : ℕ
  pub signed : number_of_pair (method_texts classes) (member.name, member.descriptor) ≡ Some signature
  pub ranked : RankedMethod
  pub there : slice_get (ranked_methods classes) number ≡ Some ranked
  pub signature_is : ranked.declared.signature ≡ signature

some_signs : (classes : List Ranked) (methods : List RankedMethod) (acyclic : IsAcyclic classes) (low : (class parent : ℕ) → Contains (parents classes class) parent → parent < length classes)
    (signature number : ℕ) (found : Option ℕ) → IfSome found (Signs classes acyclic low methods signature) → found ≡ Some number → Signs classes acyclic low methods signature number
some_signs classes methods acyclic low signature number None is found = absurd (cc found)
some_signs classes methods acyclic low signature number (Some own) is found = subst (Signs classes acyclic low methods signature) (same_Some own number found) is

pub found_in : (classes : List ClassFile) (member : MemberNames) (number : ℕ) → AreGood (hierarchy classes) (ranked_methods classes) → found_method classes member ≡ Some number
    → FoundIn classes member number
found_in classes member number good found =
    let ranks : List Ranked = hierarchy classes in
    let methods : List RankedMethod = ranked_methods classes in
    option_and_then_some (λ (class : ℕ). option_and_then (λ (signature : ℕ). resolved_method ranks methods object class signature) (number_of_pair (method_texts classes) (member.name, member.descriptor)))
    (holder classes member.class) number found
    (λ class held rest. option_and_then_some (λ (signature : ℕ). resolved_method ranks methods object class signature) (number_of_pair (method_texts classes) (member.name, member.descriptor)) number rest
    (λ signature signed is.
    let own : Signs ranks (acyclic ranks methods good) (named_low classes) methods signature number =
    some_signs ranks methods (acyclic ranks methods good) (named_low classes) signature number (resolved_method ranks methods object class signature)
    (resolved_signs ranks (acyclic ranks methods good) (named_low classes) methods object class signature) is in
    record { class = class; held = held; signature = signature; signed = signed; ranked = own.method; there = own.there; signature_is = own.signature_is }))

pub found_texts : (classes : List ClassFile) (member : MemberNames) (number : ℕ) (own : Numbered Method) → AreGood (hierarchy classes) (ranked_methods classes)
    → found_method classes member ≡ Some number → slice_get (methods_of classes) number ≡ Some own → texts_of own ≡ (member.name, member.descriptor)
found_texts classes member number own good found there =
    let at : FoundIn classes member number = found_in classes member number good found in
    let pair : IsPosition (same_texts (member.name, member.descriptor)) (method_texts classes) at.signature =
    position_there (same_texts (member.name, member.descriptor)) (method_texts classes) at.signature at.signed in
    let same : ranked_method classes own ≡ at.ranked =
    same_Some (ranked_method classes own) at.ranked (sym (slice_get-map (ranked_method classes) (methods_of classes) number ∙ ap (option_map (ranked_method classes)) there) ∙ at.there) in
    let signature : own_number (method_texts classes) (texts_of own) ≡ at.signature = ap (λ (method : RankedMethod). method.declared.signature) same ∙ at.signature_is in
    same_Some (texts_of own) pair.item
    (sym (own_there (method_texts classes) number (texts_of own) (text_there classes number own there)) ∙ ap (slice_get (method_texts classes)) signature ∙ pair.there)
    ∙ sym (same_pair (member.name, member.descriptor) pair.item pair.passes)
