-- In a linked program what is placed has the words that the machine's step gives it.
use Rattle.std.proofs.Common.{◌≡◌, ◌∙◌, ap, ap₂, refl, sym, subst, arith, ℕ, zero, suc, ◌+◌, ◌<◌, ◌==◌, ◌&&◌, not, Bool, true, false, cond, List, [], ◌∷◌, filter, length, map, replicate, Option, Some, None, option_and_then, option_map, slice_get}
use Rattle.std.specs.List.{AllByRecursion, Contains, enumerate_from, flat_map}
use Rattle.std.proofs.lemmas.Bool.{eq-eqb}
use Rattle.std.proofs.lemmas.List.{length-append, length-map}
use Rattle.std.proofs.lemmas.Option.{option_and_then_some, same_Some, slice_get-get_or, slice_get-map, slice_get_within}
use Rattle.cb_classfile.specs.declared.class.ClassFile.{ClassFile}
use Rattle.cb_hierarchy.specs.Classes.{superclass}
use Rattle.cb_hierarchy.specs.Layout.{layout_by, own_fields}
use Rattle.cb_hierarchy.specs.Orders.{in_turns}
use Rattle.cb_hierarchy.specs.declared.class.Class.{Class as Ranked}
use Rattle.cb_hierarchy.specs.declared.member.Field.{Field as RankedField}
use Rattle.cb_kinds.proofs.Laws.{text_at}
use Rattle.cb_kinds.specs.Basics.{component_of, is_reference}
use Rattle.cb_kinds.specs.Kinds.{is_array}
use Rattle.cb_kinds.specs.declared.basic.Basic.{Basic}
use Rattle.cb_link.specs.Calls.{class_of_kind}
use Rattle.cb_link.specs.Having.{HasOwnName, IsWhole, site_kinds}
use Rattle.cb_link.specs.Numbers.{class_number, fields_of, hierarchy, name_of, or_none, ranked_field, ranked_fields}
use Rattle.cb_link.specs.Program.{Linked, linked_field}
use Rattle.cb_link.specs.Slots.{basic_of_field, field_marks, is_some_reference, object_fields, shape, shape_with}
use Rattle.cb_link.specs.declared.linked.LinkedField.{LinkedField}
use Rattle.cb_link.specs.declared.linked.Site.{Site}
use Rattle.cb_machine.specs.Creating.{blank_element, blank_fields}
use Rattle.cb_machine.specs.Machine.{kind_of_site}
use Rattle.cb_machine.specs.Plans.{object_of}
use Rattle.cb_plain.specs.State.{Content, Object, blank}
use Rattle.cb_plain.specs.declared.shape.Shape.{Shape}
use Rattle.cb_plain.specs.declared.shape.Shape.TheVariants as shapes
use Rattle.cb_safety.specs.Naming.{HasField}
use Rattle.cb_safety.specs.Performing.{HaveField}
use Rattle.cb_safety.specs.Throwing.{IsThrown, thrown_sites}
use Rattle.cb_verify.specs.Within.{kind_of_throwable}
use Rattle.cb_interp.specs.Fit.{ArraysFit, ThrowablesFit, IsPlacedAs, ObjectsFit, ShapesOf}
use Rattle.cb_act.proofs.Laws.{all_at, all_joined}
use Rattle.cb_interp.proofs.LinkedMarks.{never}

-- ---- of a shape

placed_as : (all : List Shape) (site kind size : ℕ) (own : Shape) (contents : List Content) → slice_get all kind ≡ Some own
    → IsPlacedAs (own ∷ []) site 0 size contents → IsPlacedAs all site kind size contents
placed_as all site kind size own contents is placed = record {
  sized = rw is placed.sized;
  shaped = rw is (ap (λ (object : Object). object_of site kind object.contents) placed.shaped);
}

fields_as : (site : ℕ) (marks : List Bool) → IsPlacedAs (shapes.Fields marks ∷ []) site 0 (length (map blank marks)) (map blank marks)
fields_as site marks =
    record { sized = eq-eqb (length marks) (length (map blank marks)) (sym (length-map marks blank)); shaped = refl }

elements_as : (site size : ℕ) (mark : Bool) → IsPlacedAs (shapes.Elements mark ∷ []) site 0 size (replicate size (blank mark))
elements_as site size mark = record { sized = refl; shaped = refl }

-- ---- the numbers of fields

all_in : {Item Part : Type 0} (P : Part → Type 0) (parts : Item → List Part) (items : List Item) → ((item : Item) → AllByRecursion P (parts item)) → AllByRecursion P (flat_map parts items)
all_in P parts [] each = tt
all_in P parts (item ∷ items) each = all_joined P (parts item) (flat_map parts items) (each item) (all_in P parts items each)

pub numbers_low : {Item : Type 0} (test : ℕ × Item → Bool) (count from : ℕ) (items : List Item) → from + length items ≡ count
    → AllByRecursion (λ number. number < count) (map (λ (entry : ℕ × Item). entry.0) (filter test (enumerate_from from items)))
numbers_low test count from [] is = tt
numbers_low {Item} test count from (first ∷ items) is = go (test (from, first)) (numbers_low test count (from + 1) items (omega (arith, is))) where
  go : (kept : Bool) → AllByRecursion (λ number. number < count) (map (λ (entry : ℕ × Item). entry.0) (filter test (enumerate_from (from + 1) items)))
      → AllByRecursion (λ number. number < count)
      (map (λ (entry : ℕ × Item). entry.0) (cond kept ((from, first) ∷ filter test (enumerate_from (from + 1) items)) (filter test (enumerate_from (from + 1) items))))
  go true rest = (omega (arith, is), rest)
  go false rest = rest

layout_low : (classes : List Ranked) (fields : List RankedField) (turns class : ℕ) → AllByRecursion (λ number. number < length fields) (in_turns (layout_by classes fields) turns class)
layout_low classes fields zero class = tt
layout_low classes fields (suc turns) class =
    all_joined (λ number. number < length fields) (flat_map (in_turns (layout_by classes fields) turns) (superclass classes class)) (own_fields fields class)
    (all_in (λ number. number < length fields) (in_turns (layout_by classes fields) turns) (superclass classes class) (layout_low classes fields turns))
    (numbers_low (λ entry. (entry.1.declared.class == class) && not entry.1.is_static) (length fields) 0 fields (omega arith))

pub there_at : {Item : Type 0} (items : List Item) (place : ℕ) → place < length items → (item : Item) × (slice_get items place ≡ Some item)
there_at [] place low = absurd (omega (arith, low))
there_at (item ∷ items) zero low = (item, refl)
there_at (item ∷ items) (suc place) low = there_at items place (omega (arith, low))

-- ---- three references

three : (numbers : List ℕ) (mark : ℕ → Bool) → 2 < length numbers → ((slot number : ℕ) → slice_get numbers slot ≡ Some number → (slot < 3) × (mark number ≡ true))
    → map mark numbers ≡ true ∷ true ∷ true ∷ []
three [] mark some each = absurd (omega (arith, some))
three (one ∷ []) mark some each = absurd (omega (arith, some))
three (one ∷ two ∷ []) mark some each = absurd (omega (arith, some))
three (one ∷ two ∷ last ∷ []) mark some each =
    rw ((each 0 one refl).1, (each 1 two refl).1, (each 2 last refl).1) refl
three (one ∷ two ∷ last ∷ more ∷ numbers) mark some each = let low = (each 3 more refl).0 in absurd (omega (arith, low))

-- ---- names

no_component : (texts : List (List ℕ)) (name : List ℕ) → is_array name ≡ false → component_of texts name ≡ None
no_component texts [] is = refl
no_component texts (unit ∷ rest) is = rw is refl

-- ---- of a program

module _ (program : Linked) (whole : IsWhole program) (all : List Shape) (are : ShapesOf program all) where
  shape_is : (kind : ℕ) (name : List ℕ) → slice_get program.kinds kind ≡ Some name → slice_get all kind ≡ Some (shape program kind)
  shape_is kind name is = are kind (slice_get_within program.kinds kind name is)

  -- of an array
  pub kind_there : (kind : ℕ) (found : Option (List ℕ)) → slice_get program.kinds kind ≡ found → (basic : Basic) → component_of program.kinds (or_none found) ≡ Some basic → slice_get all kind ≡ Some (shape program kind)
  kind_there kind None is basic elements = never elements
  kind_there kind (Some name) is basic elements = shape_is kind name is

  pub arrays_fit : ArraysFit program all
  arrays_fit site kind size basic elements =
      let there : slice_get all kind ≡ Some (shape program kind) = kind_there kind (slice_get program.kinds kind) refl basic elements in
      let own : shape program kind ≡ shapes.Elements (is_reference basic) =
      ap (shape_with program (or_none (slice_get program.kinds kind))) elements in
      let content : blank_element program kind ≡ blank (is_reference basic) = rw elements refl in
      subst (λ (content : Content). IsPlacedAs all site kind size (replicate size content)) (sym content)
      (placed_as all site kind size (shapes.Elements (is_reference basic)) (replicate size (blank (is_reference basic))) (there ∙ ap {B = Option Shape} Some own)
      (elements_as site size (is_reference basic)))

  -- of a class
  record Classed (kind class : ℕ) : Type 0 where
    pub name : List ℕ
    pub named : slice_get program.kinds kind ≡ Some name
    pub numbered : class_number program.classes name ≡ Some class

  classed_as : (kind class : ℕ) → class_of_kind program kind ≡ Some class → Classed kind class
  classed_as kind class is =
      option_and_then_some (class_number program.classes) (slice_get program.kinds kind) class is
      (λ name named numbered. record { name = name; named = named; numbered = numbered })

  plain_name : (name : List ℕ) (class : ℕ) → class_number program.classes name ≡ Some class → is_array name ≡ false
  plain_name name class is =
      let named : slice_get (map name_of program.classes) class ≡ Some name = text_at (map name_of program.classes) name class is in
      by (slice_get program.classes class) refl (sym (slice_get-map name_of program.classes class) ∙ named)
    where
      by : (found : Option ClassFile) → slice_get program.classes class ≡ found → option_map name_of found ≡ Some name → is_array name ≡ false
      by None there is = never is
      by (Some file) there is =
          subst (λ (name : List ℕ). is_array name ≡ false) (same_Some (name_of file) name is) (all_at HasOwnName program.classes class file whole.named there)

  pub fields_shape : (kind class : ℕ) → class_of_kind program kind ≡ Some class → shape program kind ≡ shapes.Fields (field_marks program (Some class))
  fields_shape kind class is =
      let own = classed_as kind class is in
      ap₂ (λ (name : List ℕ) (component : Option Basic). shape_with program name component) (ap or_none own.named)
      (ap (λ (found : Option (List ℕ)). component_of program.kinds (or_none found)) own.named ∙ no_component program.kinds own.name (plain_name own.name class own.numbered))
      ∙ ap (λ (class : Option ℕ). shapes.Fields (field_marks program class)) own.numbered

  fields_placed : (site kind class : ℕ) → class_of_kind program kind ≡ Some class
      → IsPlacedAs all site kind (length (map blank (field_marks program (Some class)))) (map blank (field_marks program (Some class)))
  fields_placed site kind class is =
      let own = classed_as kind class is in
      let marks : List Bool = field_marks program (Some class) in
      placed_as all site kind (length (map blank marks)) (shapes.Fields marks) (map blank marks)
      (shape_is kind own.name own.named ∙ ap {B = Option Shape} Some (fields_shape kind class is)) (fields_as site marks)

  pub objects_fit : ObjectsFit program all
  objects_fit site kind class is =
      let blanks : blank_fields program kind ≡ map blank (field_marks program (Some class)) = rw (fields_shape kind class is) refl in
      subst (λ (contents : List Content). IsPlacedAs all site kind (length contents) contents) (sym blanks) (fields_placed site kind class is)

  -- of an exception
  pub field_there : (class slot number : ℕ) → slice_get (object_fields program.classes class) slot ≡ Some number → (basic : Basic) × (basic_of_field program number ≡ Some basic)
  field_there class slot number is =
      let low : number < length (ranked_fields program.classes) =
      all_at (λ number. number < length (ranked_fields program.classes)) (object_fields program.classes class) slot number
      (layout_low (hierarchy program.classes) (ranked_fields program.classes) (length (hierarchy program.classes)) class) is in
      let ranked : length (ranked_fields program.classes) ≡ length (fields_of program.classes) = length-map (fields_of program.classes) (ranked_field program.classes) in
      let linked : length program.fields ≡ length (fields_of program.classes) =
      ap (λ (fields : List LinkedField). length fields) whole.fields ∙ length-map (fields_of program.classes) (linked_field program.kinds) in
      let (field, there) = there_at program.fields number (omega (arith, low, ranked, linked)) in
      (field.basic, ap (option_map (λ (field : LinkedField). field.basic)) there)

  exception_marks : (kind : ℕ) → IsThrown program kind → (basic : Basic) → (has : HasField program kind 2 basic) → field_marks program (Some has.class) ≡ true ∷ true ∷ true ∷ []
  exception_marks kind thrown basic has =
      three (object_fields program.classes has.class) (λ number. is_some_reference (basic_of_field program number))
      (option_and_then_some (basic_of_field program) (slice_get (object_fields program.classes has.class) 2) basic has.declared
      (λ number there own. slice_get_within (object_fields program.classes has.class) 2 number there))
      (λ slot number there.
      let (basic, own) = field_there has.class slot number there in
      let fits = thrown.fields has.class slot basic has.classed (ap (option_and_then (basic_of_field program)) there ∙ own) in
      (fits.0, ap is_some_reference own ∙ fits.1))

  pub sites_there : (site : ℕ) → site < 32 → site < length (site_kinds program)
  sites_there site low =
      let fixed : length program.fixed ≡ 32 = ap (λ (fixed : List ℕ). length fixed) whole.fixed in
      let both : length (site_kinds program) ≡ length program.fixed + length (map (λ (site : Site). site.kind) program.sites) =
      length-append program.fixed (map (λ (site : Site). site.kind) program.sites) in
      omega (arith, low, fixed, both)

  pub throwables_fit : (basic : Basic) → HaveField program kind_of_throwable 2 basic → ThrowablesFit program all
  throwables_fit basic have site low is =
      let kind : ℕ = kind_of_site program site in
      let has : HasField program kind 2 basic = have kind is.throwable in
      let marks = exception_marks kind is basic has in
      record {
        there = sites_there site low;
        placed =
            subst (λ (marks : List Bool). IsPlacedAs all site kind (length (map blank marks)) (map blank marks)) marks (fields_placed site kind has.class has.classed);
      }

-- the sites of the machine's exceptions are among the first
pub thrown_low : (site : ℕ) → Contains thrown_sites site → site < 32
thrown_low site (place, low, is) =
    all_at (λ site. site < 32) thrown_sites place site all_low (slice_get-get_or thrown_sites place site low ∙ ap {B = Option ℕ} Some is)
  where
    all_low : AllByRecursion (λ site. site < 32) thrown_sites
    all_low = (omega arith, (omega arith, (omega arith, (omega arith, (omega arith, (omega arith, (omega arith, (omega arith, (omega arith, (omega arith, (omega arith, tt)))))))))))
