-- What is answered of the constants of a program.
use Rattle.std.proofs.Common.{◌≡◌, ◌∙◌, ap, refl, sym, subst, Bool, true, false, ℕ, zero, suc, List, [], ◌∷◌, Option, None, Some, filter, get_or, length, map, ◌+◌, ◌<◌, ◌≤◌, arith}
use Rattle.std.specs.Prelude.{option_and_then, option_map, slice_get}
use Rattle.std.specs.List.{enumerate_from}
use Rattle.std.specs.Option.{option_or}
use Rattle.std.proofs.lemmas.List.{length-map}
use Rattle.std.proofs.lemmas.Option.{slice_get-get_or, slice_get-map, slice_get_past, slice_get_within}
use Rattle.cb_text.specs.declared.constant.Constant.{Constant}
use Rattle.cb_text.specs.declared.constant.Constant.TheVariants as constants
use Rattle.cb_text.specs.declared.naming.MemberKind.{MemberKind}
use Rattle.cb_text.specs.declared.naming.MemberKind.TheVariants as members
use Rattle.cb_text.specs.Naming.{MemberNames, member_from, name_of_class, text_at}
use Rattle.cb_text.specs.Pool.{constant_at}
use Rattle.cb_classfile.specs.declared.class.ClassFile.{ClassFile}
use Rattle.cb_classfile.specs.declared.field.Field.{Field}
use Rattle.cb_classfile.specs.declared.handler.Handler.{Handler}
use Rattle.cb_classfile.specs.declared.method.Method.{Method}
use Rattle.cb_hierarchy.specs.declared.member.Field.{Field as RankedField}
use Rattle.cb_kinds.specs.Texts.{number_of}
use Rattle.cb_link.specs.declared.linked.LinkedField.{LinkedField}
use Rattle.cb_link.specs.declared.linked.LinkedMethod.{LinkedMethod}
use Rattle.cb_link.specs.declared.named.Named.{Named}
use Rattle.cb_link.specs.declared.named.Named.TheVariants as meanings
use Rattle.cb_link.specs.Having.{HasMethod, IsWhole}
use Rattle.cb_link.specs.Named.{catch_kind, constant_named, field_named, handlers_at, handlers_in, kind_at, kind_in, member_named, named_at, or_nothing, static_initial}
use Rattle.cb_link.specs.Numbers.{Numbered, fields_of, methods_of, ranked_field, ranked_fields}
use Rattle.cb_link.specs.Program.{Linked, linked_field}
use Rattle.cb_link.specs.Resolving.{found_field, found_method}
use Rattle.cb_link.specs.Slots.{statics}
use Rattle.cb_link.specs.InnerPlaces.{HasField, constant_of, constants_in, constants_of, kind_of, told_at}
use Rattle.cb_link.proofs.PlaceAnswers.{as_many_methods}
use Rattle.cb_link.proofs.ConstantRows.{constant_as, told_named}

-- a member is no kind
no_field : (classes : List ClassFile) (number : ℕ) → kind_of (field_named classes number) ≡ None
no_field classes number = go (slice_get (ranked_fields classes) number) refl where
  go : (found : Option RankedField) → slice_get (ranked_fields classes) number ≡ found → kind_of (field_named classes number) ≡ None
  go None is = rw is refl
  go (Some field) is = by_test field.is_static refl where
    by_test : (test : Bool) → field.is_static ≡ test → kind_of (field_named classes number) ≡ None
    by_test true told = rw is (rw told refl)
    by_test false told = rw is (rw told refl)

no_member : (classes : List ClassFile) (member : Option MemberNames) → kind_of (or_nothing (option_and_then (member_named classes) member)) ≡ None
no_member classes None = refl
no_member classes (Some member) = go member.kind refl where
  fields : (found : Option ℕ) → kind_of (or_nothing (option_map (field_named classes) found)) ≡ None
  fields None = refl
  fields (Some number) = no_field classes number

  methods : (found : Option ℕ) → kind_of (or_nothing (option_map meanings.Method found)) ≡ None
  methods None = refl
  methods (Some number) = refl

  go : (kind : MemberKind) → member.kind ≡ kind → kind_of (or_nothing (member_named classes member)) ≡ None
  go members.Field is = rw is (fields (found_field classes member))
  go members.Method is = rw is (methods (found_method classes member))
  go members.InterfaceMethod is = rw is (methods (found_method classes member))

-- the kind that a constant is
module _ (classes : List ClassFile) (kinds texts : List (List ℕ)) (pool : List Constant) where
  abbrev kind_as : Option Constant → Option ℕ
  kind_as found = option_and_then (number_of kinds) (option_and_then (text_at pool) (option_and_then name_of_class found))

  texts_only : (found : Option ℕ) → kind_of (or_nothing (option_or (option_map meanings.Text found) None)) ≡ None
  texts_only None = refl
  texts_only (Some number) = refl

  kinds_only : (found : Option ℕ) → kind_of (or_nothing (option_or (option_map meanings.Kind found) None)) ≡ found
  kinds_only None = refl
  kinds_only (Some number) = refl

  by_constant : (found : Option Constant) → kind_of (or_nothing (constant_as classes kinds texts pool found)) ≡ kind_as found
  by_constant None = refl
  by_constant (Some (constants.Integer number)) = refl
  by_constant (Some (constants.Long number)) = refl
  by_constant (Some (constants.String text)) = texts_only (option_and_then (number_of texts) (text_at pool text))
  by_constant (Some (constants.Class name)) = kinds_only (option_and_then (number_of kinds) (text_at pool name))
  by_constant (Some (constants.Fieldref holder member)) = no_member classes (member_from pool (members.Field, holder, member))
  by_constant (Some (constants.Methodref holder member)) = no_member classes (member_from pool (members.Method, holder, member))
  by_constant (Some (constants.InterfaceMethodref holder member)) = no_member classes (member_from pool (members.InterfaceMethod, holder, member))
  by_constant (Some other) = refl

  pub kind_told : (index : ℕ) → kind_of (or_nothing (constant_named classes kinds texts pool index)) ≡ kind_in kinds pool index
  kind_told index = by_constant (constant_at pool index)

-- of a class of a program
pub kind_of_constant : (program : Linked) (class index : ℕ) → kind_of (constant_of program class (Some index)) ≡ kind_at program class index
kind_of_constant program class index = go (slice_get program.classes class) refl where
  go : (found : Option ClassFile) → slice_get program.classes class ≡ found → kind_of (constant_of program class (Some index)) ≡ kind_at program class index
  go None is = rw is refl
  go (Some declaring) is = rw is (kind_told program.classes program.kinds program.constants declaring.pool index)

-- what a row of the table has
pub told_there : (program : Linked) (rows : List (List Named)) (class : ℕ) (row : List Named) (index : Option ℕ) → rows ≡ map (constants_of program) program.classes
    → slice_get rows class ≡ Some row → told_at row index ≡ constant_of program class index
told_there program rows class row index are is =
    go (slice_get program.classes class) refl (sym (slice_get-map (constants_of program) program.classes class) ∙ ap (λ rows. slice_get rows class) (sym are) ∙ is) where
      go : (found : Option ClassFile) → slice_get program.classes class ≡ found → option_map (constants_of program) found ≡ Some row → told_at row index ≡ constant_of program class index
      go None there so = absurd (cc)
      go (Some declaring) there so = let same : constants_in program declaring.pool ≡ row = cc in ap (λ row. told_at row index) (sym same) ∙ told_named program declaring.pool index ∙ rw there refl

pub nothing_there : (program : Linked) (rows : List (List Named)) (class : ℕ) (index : Option ℕ) → rows ≡ map (constants_of program) program.classes
    → length rows ≤ class → or_nothing None ≡ constant_of program class index
nothing_there program rows class index are past =
    let none : slice_get program.classes class ≡ None = slice_get_past program.classes class (let long = ap length are ∙ length-map program.classes (constants_of program) in omega (arith, long, past)) in
    rw none refl

-- what the class of a member has
module _ (program : Linked) (class : ℕ) (declaring : ClassFile) (pool : List Constant) (declares : slice_get program.classes class ≡ Some declaring) (of_pool : pool ≡ declaring.pool) where
  pub of_member : (index : Option ℕ) → constant_of program class index ≡ named_at program pool index
  of_member index = rw declares (ap (λ pool. named_at program pool index) (sym of_pool))

  pub kind_of_member : (index : ℕ) → kind_at program class index ≡ kind_in program.kinds pool index
  kind_of_member index = rw declares (ap (λ pool. kind_in program.kinds pool index) (sym of_pool))

-- a method that has a handler is there
pub has_handlers : (program : Linked) (method handler : ℕ) → IsWhole program → handler < length (handlers_at program method) → method < length program.methods
has_handlers program method handler whole low = go (slice_get (methods_of program.classes) method) refl where
  go : (found : Option (Numbered Method)) → slice_get (methods_of program.classes) method ≡ found → method < length program.methods
  go None is = let none : handlers_at program method ≡ [] = rw is refl in absurd (let long = ap length none in omega (arith, long, low))
  go (Some numbered) is = let within = slice_get_within (methods_of program.classes) method numbered is in let many = as_many_methods program whole in omega (arith, within, many)

-- the kind that a handler takes
catch_is : (program : Linked) (method handler : ℕ) (linked : LinkedMethod) (own : Method) (item : Handler) → HasMethod program method linked
    → option_map (λ numbered. numbered.member) (slice_get (methods_of program.classes) method) ≡ Some own
    → slice_get (handlers_in own.body) handler ≡ Some item → kind_at program linked.class item.catch_type ≡ catch_kind program method handler
catch_is program method handler linked own item has is stands =
    let numbered = has.numbered in
    let placed = has.placed in
    let found : Some numbered.member ≡ Some own = ap (option_map (λ numbered. numbered.member)) (sym has.there) ∙ is in
    let same : numbered.member ≡ own = cc in
    let here : slice_get (handlers_in numbered.member.body) handler ≡ Some item = ap (λ own. slice_get (handlers_in own.body) handler) same ∙ stands in
    ap (λ class. kind_at program class item.catch_type) (ap (λ method. method.class) has.is)
    ∙ kind_of_member program numbered.class placed.declaring numbered.pool placed.declares placed.of_pool item.catch_type
    ∙ rw has.there (rw here refl)

pub catch_at : (program : Linked) (method handler : ℕ) (linked : LinkedMethod) (own : Method) (handlers : List Handler) (default : Handler) → HasMethod program method linked
    → option_map (λ numbered. numbered.member) (slice_get (methods_of program.classes) method) ≡ Some own
    → handlers ≡ handlers_in own.body → handler < length (handlers_at program method)
    → kind_at program linked.class (get_or handlers handler default).catch_type ≡ catch_kind program method handler
catch_at program method handler linked own handlers default has is are low =
    let numbered = has.numbered in
    let found : Some numbered.member ≡ Some own = ap (option_map (λ numbered. numbered.member)) (sym has.there) ∙ is in
    let same : numbered.member ≡ own = cc in
    let all : handlers_at program method ≡ handlers = rw has.there (ap (λ own. handlers_in own.body) same ∙ sym are) in
    let within : handler < length handlers = subst (λ all. handler < length all) all low in
    catch_is program method handler linked own (get_or handlers handler default) has is
    (ap (λ handlers. slice_get handlers handler) (sym are) ∙ slice_get-get_or handlers handler default within)

-- a slot's field is there
slots_within : (fields : List RankedField) (start slot number : ℕ)
    → slice_get (map (λ entry. entry.0) (filter (λ entry. entry.1.is_static) (enumerate_from start fields))) slot ≡ Some number → number < start + length fields
slots_within [] start slot number is = absurd (cc)
slots_within (field ∷ fields) start slot number is = go field.is_static refl slot is (λ slot. slots_within fields (start + 1) slot number) where
  go : (test : Bool) → field.is_static ≡ test → (slot : ℕ) → slice_get (map (λ entry. entry.0) (filter (λ entry. entry.1.is_static) (enumerate_from start (field ∷ fields)))) slot ≡ Some number
      → ((slot : ℕ) → slice_get (map (λ entry. entry.0) (filter (λ entry. entry.1.is_static) (enumerate_from (start + 1) fields))) slot ≡ Some number → number < start + 1 + length fields)
      → number < start + length (field ∷ fields)
  go true told zero is rest = let so = rw told at is in let same : start ≡ number = cc in omega (arith, same)
  go true told (suc slot) is rest = let within = rest slot (rw told at is) in omega (arith, within)
  go false told slot is rest = let within = rest slot (rw told at is) in omega (arith, within)

pub static_within : (program : Linked) (slot number : ℕ) → IsWhole program → slice_get (statics program.classes) slot ≡ Some number → number < length program.fields
static_within program slot number whole is =
    let within : number < 0 + length (ranked_fields program.classes) = slots_within (ranked_fields program.classes) 0 slot number is in
    let ranked : length (ranked_fields program.classes) ≡ length (fields_of program.classes) = length-map (fields_of program.classes) (ranked_field program.classes) in
    let many : length program.fields ≡ length (fields_of program.classes) = ap length whole.fields ∙ length-map (fields_of program.classes) (linked_field program.kinds) in
    omega (arith, within, ranked, many)

-- what a static field has before
module _ (program : Linked) (number : ℕ) (linked : LinkedField) (has : HasField program number linked) where
  pub field_class : linked.class < length program.classes
  field_class =
      subst (λ class. class < length program.classes) (sym (ap (λ field. field.class) has.is))
      (slice_get_within program.classes has.numbered.class has.placed.declaring has.placed.declares)

  module _ (class : ClassFile) (declares : slice_get program.classes linked.class ≡ Some class) where
    field_listed : slice_get class.fields linked.place ≡ Some has.numbered.member
    field_listed =
        let found : Some has.placed.declaring ≡ Some class = sym has.placed.declares ∙ ap (λ class. slice_get program.classes class) (sym (ap (λ field. field.class) has.is)) ∙ declares in
        let same : has.placed.declaring ≡ class = cc in
        ap (λ class. slice_get class.fields linked.place) (sym same)
        ∙ ap (λ place. slice_get has.placed.declaring.fields place) (ap (λ field. field.place) has.is) ∙ has.placed.lists

    pub field_place : linked.place < length class.fields
    field_place = slice_get_within class.fields linked.place has.numbered.member field_listed

    pub initial_is : (slot : ℕ) (own : Field) → slice_get (statics program.classes) slot ≡ Some number → slice_get class.fields linked.place ≡ Some own
        → constant_of program linked.class own.constant ≡ static_initial program slot
    initial_is slot own at is =
        let found : Some has.numbered.member ≡ Some own = sym field_listed ∙ is in
        let same : has.numbered.member ≡ own = cc in
        ap (λ class. constant_of program class own.constant) (ap (λ field. field.class) has.is)
        ∙ of_member program has.numbered.class has.placed.declaring has.numbered.pool has.placed.declares has.placed.of_pool own.constant
        ∙ ap (λ own. named_at program has.numbered.pool own.constant) (sym same)
        ∙ rw at (rw has.there refl)
