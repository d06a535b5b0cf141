-- The kinds that the members of a program name are among its kinds.
use Rattle.std.proofs.Common.{◌≡◌, ◌∙◌, ap, sym, subst, arith, ℕ, ◌+◌, ◌-◌, ◌≤◌, List, [], ◌∷◌, ◌++◌, map, length, Option, Some, None, IfSome, ◌<◌}
use Rattle.std.specs.Prelude.{option_and_then, option_map, slice_get}
use Rattle.std.specs.List.{AllByRecursion, enumerate_from, flat_map}
use Rattle.std.proofs.lemmas.Option.{slice_get-map}
use Rattle.cb_text.specs.declared.constant.Constant.{Constant}
use Rattle.cb_text.specs.Naming.{member_at}
use Rattle.cb_insn.specs.declared.insn.Insn.{Insn}
use Rattle.cb_classfile.specs.declared.body.Body.{Body}
use Rattle.cb_classfile.specs.declared.class.ClassFile.{ClassFile}
use Rattle.cb_classfile.specs.declared.field.Field.{Field}
use Rattle.cb_classfile.specs.declared.method.Method.{Method}
use Rattle.cb_classfile.specs.Needed.{index_in}
use Rattle.cb_classfile.specs.Pool.{text_at}
use Rattle.cb_hierarchy.specs.Classes.{listed}
use Rattle.cb_kinds.specs.declared.basic.Basic.{Basic}
use Rattle.cb_kinds.specs.Basics.{basic_of, kind_number}
use Rattle.cb_kinds.specs.Descriptors.{all_types, behind, in_front, parameters_of, result_of, signs, types_of}
use Rattle.cb_kinds.specs.Kinds.{kinds_of_name, kinds_of_type}
use Rattle.cb_link.specs.declared.linked.LinkedField.{LinkedField}
use Rattle.cb_link.specs.declared.linked.LinkedMethod.{LinkedMethod}
use Rattle.cb_link.specs.declared.linked.Site.{Site}
use Rattle.cb_link.specs.Having.{HasMethod, IsBelow, IsWhole, site_kinds}
use Rattle.cb_link.specs.Making.{Making, body_kinds, class_kinds, descriptor_kinds, field_kinds, fixed_kinds, frame_kinds, handler_kinds, insn_kinds, kinds, made_by, makings, makings_of, member_kinds, method_kinds, named_in}
use Rattle.cb_link.specs.Numbers.{Numbered, fields_of, methods_of, name_of, numbered, or_none}
use Rattle.cb_link.specs.Program.{Linked, linked_field, linked_method, linked_site}
use Rattle.cb_link.specs.InnerCounts.{HasField}
use Rattle.cb_link.proofs.KindsAmong.{Among, Whole, all_named, all_weaker, basic_low, number_of_low, own}
use Rattle.cb_link.proofs.NumbersLow.{all_back, all_front, all_lists_of, each_at}
use Rattle.cb_link.proofs.Ranged.{all_both}
use Rattle.cb_link.proofs.SlotLaws.{before, behind as behind_front}

-- what is so of all in lists is so of all in each
each_list : {X Y : Type 0} (P : Y → Type 0) (f : X → List Y) (items : List X) → AllByRecursion P (flat_map f items) → AllByRecursion (λ x. AllByRecursion P (f x)) items
each_list P f [] all = tt
each_list P f (x ∷ items) all = (all_front P (f x) (flat_map f items) all, each_list P f items (all_back P (f x) (flat_map f items) all))

all_of : {X Y : Type 0} (P : Y → Type 0) (f : X → Y) (items : List X) → AllByRecursion (λ x. P (f x)) items → AllByRecursion P (map f items)
all_of P f [] all = tt
all_of P f (x ∷ items) all = (all.0, all_of P f items all.1)

all_counted : {X : Type 0} (P : X → Type 0) (first : ℕ) (items : List X) → AllByRecursion P items → AllByRecursion (λ (entry : ℕ × X). P entry.1) (enumerate_from first items)
all_counted P first [] all = tt
all_counted P first (x ∷ items) all = (all.0, all_counted P (first + 1) items all.1)

-- members by number
of_members : {Member : Type 0} (P : List Constant → Member → Type 0) (members : ClassFile → List Member) (classes : List ClassFile)
    → AllByRecursion (λ class. AllByRecursion (P class.pool) (members class)) classes
    → AllByRecursion (λ (own : Numbered Member). P own.pool own.member) (numbered members classes)
of_members {Member} P members classes all =
    all_lists_of (λ (entry : ℕ × ClassFile). AllByRecursion (P entry.1.pool) (members entry.1)) (λ (own : Numbered Member). P own.pool own.member)
    (λ (entry : ℕ × ClassFile). map (λ (own : ℕ × Member). record { class = entry.0; place = own.0; pool = entry.1.pool; member = own.1 }) (enumerate_from 0 (members entry.1)))
    (enumerate_from 0 classes)
    (λ entry each.
    all_of (λ (own : Numbered Member). P own.pool own.member) (λ (own : ℕ × Member). record { class = entry.0; place = own.0; pool = entry.1.pool; member = own.1 })
    (enumerate_from 0 (members entry.1)) (all_counted (P entry.1.pool) 0 (members entry.1) each))
    (all_counted (λ class. AllByRecursion (P class.pool) (members class)) 0 classes all)

module _ (classes : List ClassFile) where
  abbrev There : List (List ℕ) → Type 0
  There names = AllByRecursion (Among (kinds classes)) names

  of_classes : AllByRecursion (λ class. There (class_kinds class)) classes
  of_classes =
      each_list (Among (kinds classes)) class_kinds classes
      (all_back (Among (kinds classes)) (map name_of classes) (flat_map class_kinds classes)
      (all_front (Among (kinds classes)) (map name_of classes ++ flat_map class_kinds classes) (flat_map kinds_of_name fixed_kinds) (all_named classes)))

  of_fields : AllByRecursion (λ (field : Numbered Field). There (field_kinds field.pool field.member)) (fields_of classes)
  of_fields =
      of_members (λ pool (field : Field). There (field_kinds pool field)) (λ class. class.fields) classes
      (all_weaker (λ class. There (class_kinds class)) (λ class. AllByRecursion (λ field. There (field_kinds class.pool field)) class.fields)
      (λ class all.
      each_list (Among (kinds classes)) (field_kinds class.pool) class.fields
      (all_front (Among (kinds classes)) (flat_map (field_kinds class.pool) class.fields) (flat_map (method_kinds class.pool) class.methods) all)) classes of_classes)

  of_methods : AllByRecursion (λ (method : Numbered Method). There (method_kinds method.pool method.member)) (methods_of classes)
  of_methods =
      of_members (λ pool (method : Method). There (method_kinds pool method)) (λ class. class.methods) classes
      (all_weaker (λ class. There (class_kinds class)) (λ class. AllByRecursion (λ method. There (method_kinds class.pool method)) class.methods)
      (λ class all.
      each_list (Among (kinds classes)) (method_kinds class.pool) class.methods
      (all_back (Among (kinds classes)) (flat_map (field_kinds class.pool) class.fields) (flat_map (method_kinds class.pool) class.methods) all)) classes of_classes)

  -- what an instruction makes
  made_there : (pool : List Constant) (insn : Insn) → There (insn_kinds pool insn) → There (made_by pool insn)
  made_there pool insn all =
      let named = flat_map kinds_of_name (listed (named_in pool insn.operand)) ++ member_kinds (option_and_then (member_at pool) (index_in insn.operand)) in
      all_weaker (Whole (Among (kinds classes))) (Among (kinds classes)) (own (Among (kinds classes))) (made_by pool insn)
      (each_list (Among (kinds classes)) kinds_of_name (made_by pool insn) (all_back (Among (kinds classes)) named (flat_map kinds_of_name (made_by pool insn)) all))

  abbrev IsKnown : Making → Type 0
  IsKnown making = Among (kinds classes) making.kind

  made_in_body : (number : ℕ) (pool : List Constant) (body : Option Body) → There (body_kinds pool body) → AllByRecursion IsKnown (makings_of number pool body)
  made_in_body number pool None all = tt
  made_in_body number pool (Some body) all =
      let code = flat_map (λ (placed : ℕ × Insn). insn_kinds pool placed.1) body.code in
      let of_code =
      all_front (Among (kinds classes)) code (flat_map (handler_kinds pool) body.handlers)
      (all_front (Among (kinds classes)) (code ++ flat_map (handler_kinds pool) body.handlers) (flat_map (frame_kinds pool) body.frames) all) in
      all_lists_of (λ (placed : ℕ × Insn). There (insn_kinds pool placed.1)) IsKnown
      (λ (placed : ℕ × Insn). map (λ (made : ℕ × List ℕ). record { method = number; place = placed.0; dimension = made.0; kind = made.1 }) (enumerate_from 0 (made_by pool placed.1)))
      body.code
      (λ placed there.
      all_of IsKnown (λ (made : ℕ × List ℕ). record { method = number; place = placed.0; dimension = made.0; kind = made.1 }) (enumerate_from 0 (made_by pool placed.1))
      (all_counted (Among (kinds classes)) 0 (made_by pool placed.1) (made_there pool placed.1 there)))
      (each_list (Among (kinds classes)) (λ (placed : ℕ × Insn). insn_kinds pool placed.1) body.code of_code)

  of_makings : AllByRecursion IsKnown (makings classes)
  of_makings =
      all_lists_of (λ (entry : ℕ × Numbered Method). There (method_kinds entry.1.pool entry.1.member)) IsKnown (λ (entry : ℕ × Numbered Method). makings_of entry.0 entry.1.pool entry.1.member.body)
      (enumerate_from 0 (methods_of classes))
      (λ entry all.
      made_in_body entry.0 entry.1.pool entry.1.member.body
      (all_back (Among (kinds classes)) (descriptor_kinds entry.1.pool entry.1.member.descriptor) (body_kinds entry.1.pool entry.1.member.body) all))
      (all_counted (λ (method : Numbered Method). There (method_kinds method.pool method.member)) 0 (methods_of classes) of_methods)

-- the types of a descriptor are its parameters and its result
front_of : (Q : List ℕ → Type 0) (said : List (Option (List ℕ))) → AllByRecursion Q (all_types said) → AllByRecursion Q (in_front said)
front_of Q [] all = tt
front_of Q (None ∷ said) all = tt
front_of Q (Some type ∷ said) all = (all.0, front_of Q said all.1)

behind_of : (Q : List ℕ → Type 0) (said : List (Option (List ℕ))) → AllByRecursion Q (all_types said) → IfSome (behind said) Q
behind_of Q [] all = tt
behind_of Q (None ∷ []) all = tt
behind_of Q (None ∷ None ∷ said) all = tt
behind_of Q (None ∷ Some type ∷ said) all = all.0
behind_of Q (Some type ∷ said) all = behind_of Q said all.1

if_mapped : {X Y : Type 0} (P : Y → Type 0) (f : X → Y) (found : Option X) → IfSome found (λ x. P (f x)) → IfSome (option_map f found) P
if_mapped P f None is = tt
if_mapped P f (Some x) is = is

if_weaker : {X : Type 0} (P Q : X → Type 0) (found : Option X) → ((x : X) → P x → Q x) → IfSome found P → IfSome found Q
if_weaker P Q None more is = tt
if_weaker P Q (Some x) more is = more x is

-- the values of fields, of parameters and of results
module _ (classes : List ClassFile) where
  field_low : (number : ℕ) (field : Numbered Field) → slice_get (fields_of classes) number ≡ Some field → IsBelow (length (kinds classes)) (linked_field (kinds classes) field).basic
  field_low number field is =
      basic_low (kinds classes) (or_none (text_at field.pool field.member.descriptor))
      (each_at (λ (field : Numbered Field). There classes (field_kinds field.pool field.member)) (fields_of classes) number field (of_fields classes) is)

  types_there : (number : ℕ) (method : Numbered Method) → slice_get (methods_of classes) number ≡ Some method
      → AllByRecursion (λ type. There classes (kinds_of_type type)) (types_of (or_none (text_at method.pool method.member.descriptor)))
  types_there number method is =
      each_list (Among (kinds classes)) kinds_of_type (types_of (or_none (text_at method.pool method.member.descriptor)))
      (all_front (Among (kinds classes)) (descriptor_kinds method.pool method.member.descriptor) (body_kinds method.pool method.member.body)
      (each_at (λ (method : Numbered Method). There classes (method_kinds method.pool method.member)) (methods_of classes) number method (of_methods classes) is))

  parameters_low : (number : ℕ) (method : Numbered Method) → slice_get (methods_of classes) number ≡ Some method
      → AllByRecursion (IsBelow (length (kinds classes))) (linked_method (kinds classes) method).parameters
  parameters_low number method is =
      let descriptor = or_none (text_at method.pool method.member.descriptor) in
      all_of (IsBelow (length (kinds classes))) (basic_of (kinds classes)) (parameters_of descriptor)
      (all_weaker (λ type. There classes (kinds_of_type type)) (λ type. IsBelow (length (kinds classes)) (basic_of (kinds classes) type)) (basic_low (kinds classes)) (parameters_of descriptor)
      (front_of (λ type. There classes (kinds_of_type type)) (signs descriptor) (types_there number method is)))

  result_low : (number : ℕ) (method : Numbered Method) → slice_get (methods_of classes) number ≡ Some method
      → IfSome (linked_method (kinds classes) method).result (IsBelow (length (kinds classes)))
  result_low number method is =
      let descriptor = or_none (text_at method.pool method.member.descriptor) in
      if_mapped (IsBelow (length (kinds classes))) (basic_of (kinds classes)) (result_of descriptor)
      (if_weaker (λ type. There classes (kinds_of_type type)) (λ type. IsBelow (length (kinds classes)) (basic_of (kinds classes) type)) (result_of descriptor) (basic_low (kinds classes))
      (behind_of (λ type. There classes (kinds_of_type type)) (signs descriptor) (types_there number method is)))

  -- the kinds of all sites
  fixed_low : AllByRecursion (λ kind. kind < length (kinds classes)) (map (kind_number (kinds classes)) fixed_kinds)
  fixed_low =
      all_of (λ kind. kind < length (kinds classes)) (kind_number (kinds classes)) fixed_kinds
      (all_weaker (Whole (Among (kinds classes))) (λ name. kind_number (kinds classes) name < length (kinds classes))
      (λ name all. number_of_low (kinds classes) name (own (Among (kinds classes)) name all)) fixed_kinds
      (each_list (Among (kinds classes)) kinds_of_name fixed_kinds
      (all_back (Among (kinds classes)) (map name_of classes ++ flat_map class_kinds classes) (flat_map kinds_of_name fixed_kinds) (all_named classes))))

  made_low : AllByRecursion (λ (site : Site). site.kind < length (kinds classes)) (map (linked_site (kinds classes)) (makings classes))
  made_low =
      all_of (λ (site : Site). site.kind < length (kinds classes)) (linked_site (kinds classes)) (makings classes)
      (all_weaker (IsKnown classes) (λ making. kind_number (kinds classes) making.kind < length (kinds classes)) (λ making. number_of_low (kinds classes) making.kind) (makings classes) (of_makings classes))

-- of a program
module _ (program : Linked) (whole : IsWhole program) where
  pub field_within : (number : ℕ) (field : LinkedField) → HasField program number field → IsBelow (length program.kinds) field.basic
  field_within number field has =
      subst (λ (field : LinkedField). IsBelow (length program.kinds) field.basic) (sym has.is)
      (subst (λ names. IsBelow (length names) (linked_field names has.numbered).basic) (sym whole.kinds) (field_low program.classes number has.numbered has.there))

  parameters_within : (number : ℕ) (method : LinkedMethod) → HasMethod program number method → AllByRecursion (IsBelow (length program.kinds)) method.parameters
  parameters_within number method has =
      subst (λ (method : LinkedMethod). AllByRecursion (IsBelow (length program.kinds)) method.parameters) (sym has.is)
      (subst (λ names. AllByRecursion (IsBelow (length names)) (linked_method names has.numbered).parameters) (sym whole.kinds) (parameters_low program.classes number has.numbered has.there))

  pub result_within : (number : ℕ) (method : LinkedMethod) → HasMethod program number method → IfSome method.result (IsBelow (length program.kinds))
  result_within number method has =
      subst (λ (method : LinkedMethod). IfSome method.result (IsBelow (length program.kinds))) (sym has.is)
      (subst (λ names. IfSome (linked_method names has.numbered).result (IsBelow (length names))) (sym whole.kinds) (result_low program.classes number has.numbered has.there))

  site_kinds_low : AllByRecursion (λ kind. kind < length program.kinds) (site_kinds program)
  site_kinds_low =
      all_both (λ kind. kind < length program.kinds) program.fixed (map (λ (site : Site). site.kind) program.sites)
      (subst (AllByRecursion (λ kind. kind < length program.kinds)) (sym whole.fixed)
      (subst (λ names. AllByRecursion (λ kind. kind < length names) (map (kind_number names) fixed_kinds)) (sym whole.kinds) (fixed_low program.classes)))
      (all_of (λ kind. kind < length program.kinds) (λ (site : Site). site.kind) program.sites
      (subst (AllByRecursion (λ (site : Site). site.kind < length program.kinds)) (sym whole.sites)
      (subst (λ names. AllByRecursion (λ (site : Site). site.kind < length names) (map (linked_site names) (makings program.classes))) (sym whole.kinds) (made_low program.classes))))

  pub site_kind_within : (site kind : ℕ) → slice_get (site_kinds program) site ≡ Some kind → kind < length program.kinds
  site_kind_within site kind is = each_at (λ kind. kind < length program.kinds) (site_kinds program) site kind site_kinds_low is

  -- as they stand, the machine's own first
  pub site_front : (site kind : ℕ) → slice_get program.fixed site ≡ Some kind → slice_get (site_kinds program) site ≡ Some kind
  site_front site kind is = before program.fixed (map (λ (site : Site). site.kind) program.sites) site kind is

  pub site_behind : (site many : ℕ) (made : Site) → many ≡ length program.fixed → many ≤ site → slice_get program.sites (site - many) ≡ Some made
      → slice_get (site_kinds program) site ≡ Some made.kind
  site_behind site many made fixed past is =
      let place : site ≡ length program.fixed + (site - many) = omega (arith, fixed, past) in
      let kinds_of = map (λ (site : Site). site.kind) program.sites in
      ap (slice_get (site_kinds program)) place ∙ behind_front program.fixed kinds_of (site - many) ∙ slice_get-map (λ (site : Site). site.kind) program.sites (site - many)
      ∙ ap (option_map (λ (site : Site). site.kind)) is

  -- a parameter
  pub parameter_within : (number : ℕ) (method : LinkedMethod) → HasMethod program number method → (place : ℕ) (basic : Basic) → slice_get method.parameters place ≡ Some basic
      → IsBelow (length program.kinds) basic
  parameter_within number method has place basic is = each_at (IsBelow (length program.kinds)) method.parameters place basic (parameters_within number method has) is
