-- What a program names of kinds is among its kinds, with all that it consists of.
use Rattle.std.proofs.Common.{◌≡◌, ◌∙◌, ap, refl, sym, subst, append_assoc, ℕ, zero, suc, Bool, true, false, cond, not, List, [], ◌∷◌, ◌++◌, map, length, Option, Some, None, IfSome, ◌<◌, ◌||◌, ◌==◌}
use Rattle.std.specs.Prelude.{option_and_then, slice_get}
use Rattle.std.specs.Cmp.Lexicographic.{bytes_decides}
use Rattle.std.specs.List.{AllByRecursion, flat_map, list_any}
use Rattle.std.proofs.lemmas.Bool.{false≢true}
use Rattle.std.proofs.lemmas.List.Folds.{list_any-append}
use Rattle.std.proofs.lemmas.List.Sums.{take_while-cons}
use Rattle.cb_text.specs.declared.constant.Constant.{Constant}
use Rattle.cb_text.specs.Naming.{MemberNames, class_at, member_at}
use Rattle.cb_names.specs.Signs.{bracket, letter_boolean, letter_byte, letter_char, letter_class, letter_double, letter_long, letter_short, semicolon}
use Rattle.cb_insn.specs.declared.insn.Insn.{Insn}
use Rattle.cb_classfile.specs.declared.body.Body.{Body}
use Rattle.cb_classfile.specs.declared.class.ClassFile.{ClassFile}
use Rattle.cb_classfile.specs.declared.frame_map.MapFrame.{MapFrame}
use Rattle.cb_classfile.specs.declared.map_type.MapType.{MapType}
use Rattle.cb_classfile.specs.declared.map_type.MapType.TheVariants as types
use Rattle.cb_classfile.specs.declared.method.Method.{Method}
use Rattle.cb_classfile.specs.Needed.{index_in}
use Rattle.cb_classfile.specs.Pool.{text_at}
use Rattle.cb_hierarchy.specs.Classes.{listed}
use Rattle.cb_kinds.specs.declared.basic.Basic.{Basic}
use Rattle.cb_kinds.specs.declared.basic.Basic.TheVariants.{Boolean, Byte, Char, Short, Int, Long, Reference}
use Rattle.cb_kinds.specs.Basics.{basic_of, component_of, kind_number}
use Rattle.cb_kinds.specs.Descriptors.{types_of}
use Rattle.cb_kinds.specs.Kinds.{ends_name, is_array, kinds_of_name, kinds_of_type, name_in}
use Rattle.cb_kinds.specs.Texts.{firsts, same_text}
use Rattle.cb_kinds.proofs.Laws.{among_all, entered_firsts, number_among}
use Rattle.cb_link.specs.Having.{HasOwnName, IsBelow}
use Rattle.cb_link.specs.Making.{body_kinds, class_kinds, descriptor_kinds, field_kinds, fixed_kinds, frame_kinds, handler_kinds, insn_kinds, kinds, made_by, member_kinds, method_kinds, named_in, named_kinds, type_kinds}
use Rattle.cb_link.specs.Numbers.{name_of, or_none}
use Rattle.cb_link.proofs.NumbersLow.{all_back, all_front}
use Rattle.cb_link.proofs.Ranged.{all_both, number_low}

-- no name in a type is an array's
abbrev in_name : ℕ → Bool
in_name unit = not (ends_name unit)

no_array : (rest : List ℕ) → is_array (name_in rest) ≡ false
no_array [] = refl
no_array (unit ∷ more) = ap is_array (take_while-cons in_name unit more) ∙ go (unit == semicolon) (unit == bracket) refl where
  go : (ends array : Bool) → (unit == bracket) ≡ array → is_array (cond (not (ends || array)) (unit ∷ name_in more) []) ≡ false
  go true array is = refl
  go false true is = refl
  go false false is = is

-- where a claim is so of all kinds of names
module _ (P : List ℕ → Type 0) where
  abbrev pub Whole : List ℕ → Type 0
  Whole name = AllByRecursion P (kinds_of_name name)

  -- of those of a type, it is so of the kinds of each
  of_type : (type : List ℕ) → AllByRecursion P (kinds_of_type type) → AllByRecursion Whole (kinds_of_type type)
  of_type [] all = tt
  of_type (unit ∷ rest) all = go (unit == bracket) (unit == letter_class) refl (of_type rest) all where
    go : (array class : Bool) → (unit == bracket) ≡ array → (AllByRecursion P (kinds_of_type rest) → AllByRecursion Whole (kinds_of_type rest))
        → AllByRecursion P (cond array ((unit ∷ rest) ∷ kinds_of_type rest) (cond class (name_in rest ∷ []) []))
        → AllByRecursion Whole (cond array ((unit ∷ rest) ∷ kinds_of_type rest) (cond class (name_in rest ∷ []) []))
    go true class is more all = (
      subst (λ test. AllByRecursion P (cond test (cond test ((unit ∷ rest) ∷ kinds_of_type rest) (cond (unit == letter_class) (name_in rest ∷ []) [])) ((unit ∷ rest) ∷ []))) (sym is) all,
      more all.1,
    )
    go false true is more all = (subst (λ test. AllByRecursion P (cond test (kinds_of_type (name_in rest)) (name_in rest ∷ []))) (sym (no_array rest)) (all.0, tt), tt)
    go false false is more all = tt

  -- and of those of a name
  of_name : (name : List ℕ) → Whole name → AllByRecursion Whole (kinds_of_name name)
  of_name name all = go (is_array name) refl all where
    go : (array : Bool) → is_array name ≡ array → AllByRecursion P (cond array (kinds_of_type name) (name ∷ [])) → AllByRecursion Whole (cond array (kinds_of_type name) (name ∷ []))
    go true is all = of_type name all
    go false is all = (subst (λ test. AllByRecursion P (cond test (kinds_of_type name) (name ∷ []))) (sym is) all, tt)

  -- a name is itself one of its kinds
  pub own : (name : List ℕ) → Whole name → P name
  own [] all = all.0
  own (unit ∷ rest) all = go (unit == bracket) all where
    go : (array : Bool) → AllByRecursion P (cond array (cond array ((unit ∷ rest) ∷ kinds_of_type rest) (cond (unit == letter_class) (name_in rest ∷ []) [])) ((unit ∷ rest) ∷ [])) → P (unit ∷ rest)
    go true all = all.0
    go false all = all.0

  -- a list of kinds that leaves out none of which its kinds consist
  abbrev Closed : List (List ℕ) → Type 0
  Closed names = AllByRecursion P names → AllByRecursion Whole names

  closed_both : (one other : List (List ℕ)) → Closed one → Closed other → Closed (one ++ other)
  closed_both one other here there all = all_both Whole one other (here (all_front P one other all)) (there (all_back P one other all))

  closed_lists : {X : Type 0} (f : X → List (List ℕ)) (items : List X) → ((x : X) → Closed (f x)) → Closed (flat_map f items)
  closed_lists f [] each all = tt
  closed_lists f (x ∷ items) each all = closed_both (f x) (flat_map f items) (each x) (closed_lists f items each) all

  closed_names : (names : List (List ℕ)) → Closed (flat_map kinds_of_name names)
  closed_names names = closed_lists kinds_of_name names of_name

  -- those of the parts of a class
  closed_member : (member : Option MemberNames) → Closed (member_kinds member)
  closed_member None all = tt
  closed_member (Some member) all = of_name member.class all

  closed_insn : (pool : List Constant) (insn : Insn) → Closed (insn_kinds pool insn)
  closed_insn pool insn =
      let named = flat_map kinds_of_name (listed (named_in pool insn.operand)) in
      let member = option_and_then (member_at pool) (index_in insn.operand) in
      closed_both (named ++ member_kinds member) (flat_map kinds_of_name (made_by pool insn))
      (closed_both named (member_kinds member) (closed_names (listed (named_in pool insn.operand))) (closed_member member)) (closed_names (made_by pool insn))

  closed_type : (pool : List Constant) (type : MapType) → Closed (type_kinds pool type)
  closed_type pool (types.Object class) all = closed_names (listed (class_at pool class)) all
  closed_type pool other all = tt

  closed_frame : (pool : List Constant) (frame : MapFrame) → Closed (frame_kinds pool frame)
  closed_frame pool frame = closed_lists (type_kinds pool) (frame.locals ++ frame.stack) (closed_type pool)

  closed_body : (pool : List Constant) (body : Option Body) → Closed (body_kinds pool body)
  closed_body pool None all = tt
  closed_body pool (Some body) all =
      let code = flat_map (λ (placed : ℕ × Insn). insn_kinds pool placed.1) body.code in
      closed_both (code ++ flat_map (handler_kinds pool) body.handlers) (flat_map (frame_kinds pool) body.frames)
      (closed_both code (flat_map (handler_kinds pool) body.handlers)
      (closed_lists (λ (placed : ℕ × Insn). insn_kinds pool placed.1) body.code (λ placed. closed_insn pool placed.1))
      (closed_lists (handler_kinds pool) body.handlers (λ handler. closed_names (listed (class_at pool handler.catch_type)))))
      (closed_lists (frame_kinds pool) body.frames (closed_frame pool)) all

  closed_method : (pool : List Constant) (method : Method) → Closed (method_kinds pool method)
  closed_method pool method =
      closed_both (descriptor_kinds pool method.descriptor) (body_kinds pool method.body)
      (closed_lists kinds_of_type (types_of (or_none (text_at pool method.descriptor))) of_type) (closed_body pool method.body)

  closed_class : (class : ClassFile) → Closed (class_kinds class)
  closed_class class =
      closed_both (flat_map (field_kinds class.pool) class.fields) (flat_map (method_kinds class.pool) class.methods)
      (closed_lists (field_kinds class.pool) class.fields (λ field. of_type (or_none (text_at class.pool field.descriptor))))
      (closed_lists (method_kinds class.pool) class.methods (closed_method class.pool))

  -- those of classes, and of a program
  closed_classes : (classes : List ClassFile) → AllByRecursion HasOwnName classes → Closed (map name_of classes)
  closed_classes [] named all = tt
  closed_classes (class ∷ classes) named all = (
    subst (λ test. AllByRecursion P (cond test (kinds_of_type (name_of class)) (name_of class ∷ []))) (sym named.0) (all.0, tt),
    closed_classes classes named.1 all.1,
  )

  pub closed_kinds : (classes : List ClassFile) → AllByRecursion HasOwnName classes → Closed (named_kinds classes)
  closed_kinds classes named =
      closed_both (map name_of classes ++ flat_map class_kinds classes) (flat_map kinds_of_name fixed_kinds)
      (closed_both (map name_of classes) (flat_map class_kinds classes) (closed_classes classes named) (closed_lists class_kinds classes closed_class))
      (closed_names fixed_kinds)

-- a name is among others
abbrev pub Among : List (List ℕ) → List ℕ → Type 0
Among names name = list_any (same_text name) names ≡ true

or_true : (one : Bool) → (one || true) ≡ true
or_true true = refl
or_true false = refl

among_middle : (front rest : List (List ℕ)) (name : List ℕ) → Among (front ++ name ∷ rest) name
among_middle front rest name =
    list_any-append (same_text name) front (name ∷ rest)
    ∙ ap (λ test. list_any (same_text name) front || (test || list_any (same_text name) rest)) ((bytes_decides name name).1 refl)
    ∙ or_true (list_any (same_text name) front)

all_among : (front rest : List (List ℕ)) → AllByRecursion (Among (front ++ rest)) rest
all_among front [] = tt
all_among front (name ∷ rest) = (
  among_middle front rest name,
  subst (λ all. AllByRecursion (Among all) rest) (append_assoc front (name ∷ []) rest) (all_among (front ++ name ∷ []) rest),
)

-- also where each stands once
once : (names : List (List ℕ)) (name : List ℕ) → list_any (same_text name) (firsts names) ≡ list_any (same_text name) names
once names name = ap (list_any (same_text name)) (sym (entered_firsts names)) ∙ among_all [] names name

pub all_weaker : {X : Type 0} (P Q : X → Type 0) → ((x : X) → P x → Q x) → (items : List X) → AllByRecursion P items → AllByRecursion Q items
all_weaker P Q more [] all = tt
all_weaker P Q more (x ∷ items) all = (more x all.0, all_weaker P Q more items all.1)

pub all_named : (classes : List ClassFile) → AllByRecursion (Among (kinds classes)) (named_kinds classes)
all_named classes =
    all_weaker (Among (named_kinds classes)) (Among (kinds classes)) (λ name is. once (named_kinds classes) name ∙ is) (named_kinds classes)
    (all_among [] (named_kinds classes))

-- what is so of all is so of one that is among them
one_of_all : (Q : List ℕ → Type 0) (names : List (List ℕ)) (name : List ℕ) → AllByRecursion Q names → Among names name → Q name
one_of_all Q [] name all is = absurd (false≢true is)
one_of_all Q (first ∷ names) name all is = go (same_text name first) refl is (one_of_all Q names name all.1) where
  go : (same : Bool) → same_text name first ≡ same → (same || list_any (same_text name) names) ≡ true → (Among names name → Q name) → Q name
  go true told is more = subst Q (sym ((bytes_decides name first).0 told)) all.0
  go false told is more = more is

-- the number of a name that is there
pub number_of_low : (names : List (List ℕ)) (name : List ℕ) → Among names name → kind_number names name < length names
number_of_low names name is = number_low names name (kind_number names name) (number_among names name is)

-- the values of a type whose kinds are there
base_low : (count : ℕ) (one two three four five : Bool) → IsBelow count (cond one Boolean (cond two Byte (cond three Char (cond four Short (cond five Long Int)))))
base_low count true two three four five = tt
base_low count false true three four five = tt
base_low count false false true four five = tt
base_low count false false false true five = tt
base_low count false false false false true = tt
base_low count false false false false false = tt

pub basic_low : (names : List (List ℕ)) (type : List ℕ) → AllByRecursion (Among names) (kinds_of_type type) → IsBelow (length names) (basic_of names type)
basic_low names [] all = tt
basic_low names (unit ∷ rest) all = go (unit == bracket) (unit == letter_class) all where
  base : Basic
  base = cond (unit == letter_boolean) Boolean (cond (unit == letter_byte) Byte (cond (unit == letter_char) Char (cond (unit == letter_short) Short (cond (unit == letter_long || unit == letter_double) Long Int))))

  go : (array class : Bool) → AllByRecursion (Among names) (cond array ((unit ∷ rest) ∷ kinds_of_type rest) (cond class (name_in rest ∷ []) []))
      → IsBelow (length names) (cond array (Reference (kind_number names (unit ∷ rest))) (cond class (Reference (kind_number names (name_in rest))) base))
  go true class all = number_of_low names (unit ∷ rest) all.0
  go false true all = number_of_low names (name_in rest) all.0
  go false false all = base_low (length names) (unit == letter_boolean) (unit == letter_byte) (unit == letter_char) (unit == letter_short) (unit == letter_long || unit == letter_double)

-- of a kind's components
component_low : (names : List (List ℕ)) (name : List ℕ) → Whole (Among names) name → IfSome (component_of names name) (IsBelow (length names))
component_low names [] all = tt
component_low names (unit ∷ rest) all = go (unit == bracket) all where
  go : (array : Bool) → AllByRecursion (Among names) (cond array (cond array ((unit ∷ rest) ∷ kinds_of_type rest) (cond (unit == letter_class) (name_in rest ∷ []) [])) ((unit ∷ rest) ∷ []))
      → IfSome (cond array (Some (basic_of names rest)) None) (IsBelow (length names))
  go true all = basic_low names rest all.1
  go false all = tt

place_among : (names : List (List ℕ)) (place : ℕ) (name : List ℕ) → slice_get names place ≡ Some name → Among names name
place_among [] place name is = absurd (cc)
place_among (first ∷ names) zero name is = let same : name ≡ first = cc in ap (λ test. test || list_any (same_text name) names) ((bytes_decides name first).1 same)
place_among (first ∷ names) (suc place) name is = ap (λ test. same_text name first || test) (place_among names place name is) ∙ or_true (same_text name first)

pub element_low : (classes : List ClassFile) → AllByRecursion HasOwnName classes → (kind : ℕ) (name : List ℕ) → slice_get (kinds classes) kind ≡ Some name
    → IfSome (component_of (kinds classes) name) (IsBelow (length (kinds classes)))
element_low classes named kind name is =
    component_low (kinds classes) name
    (one_of_all (Whole (Among (kinds classes))) (named_kinds classes) name (closed_kinds (Among (kinds classes)) classes named (all_named classes))
    (sym (once (named_kinds classes) name) ∙ place_among (kinds classes) kind name is))
