-- A method that is found by its class and the number of a name with a descriptor has that name and that descriptor.
use Rattle.std.proofs.Common.{◌≡◌, ◌∙◌, ap, ap₂, arith, refl, sym, subst, ℕ, zero, suc, ◌+◌, ◌==◌, ◌&&◌, Bool, true, false, cond, not, List, [], ◌∷◌, map, Option, Some, None, option_and_then, option_map, position, slice_get}
use Rattle.std.specs.Prelude.{IsSome}
use Rattle.std.specs.Cmp.Lexicographic.{bytes_decides}
use Rattle.std.specs.List.{AllByRecursion, position_or_len}
use Rattle.std.proofs.lemmas.Bool.{and_from, and_parts, eqb-true, false≢true}
use Rattle.std.proofs.lemmas.Option.{same_Some, slice_get-map}
use Rattle.cb_classfile.specs.Class.{IsWellFormed}
use Rattle.cb_classfile.specs.Members.{IsMethod, SpellsMethod}
use Rattle.cb_classfile.specs.Tables.{SpellsEach}
use Rattle.cb_classfile.specs.declared.body.Body.{Body}
use Rattle.cb_classfile.specs.declared.class.ClassFile.{ClassFile}
use Rattle.cb_classfile.specs.declared.method.Method.{Method}
use Rattle.cb_hierarchy.specs.Members.{method_of}
use Rattle.cb_hierarchy.specs.declared.member.Declared.{Declared}
use Rattle.cb_hierarchy.specs.declared.member.Method.{Method as RankedMethod}
use Rattle.cb_kinds.specs.Basics.{basic_of}
use Rattle.cb_kinds.specs.Descriptors.{parameters_of, result_of}
use Rattle.cb_kinds.specs.Texts.{number_of_pair, own_number, same_text, same_texts}
use Rattle.cb_kinds.specs.declared.basic.Basic.{Basic}
use Rattle.cb_link.specs.Having.{IsWhole, parameters_at}
use Rattle.cb_link.specs.Numbers.{Numbered, has_flag, method_texts, methods_of, or_none, ranked_method, ranked_methods, texts_in}
use Rattle.cb_link.specs.Program.{Linked, linked_method}
use Rattle.cb_link.specs.declared.linked.LinkedMethod.{LinkedMethod}
use Rattle.cb_classfile.specs.Flags.{acc_static}
use Rattle.cb_classfile.specs.Pool.{text_at}
use Rattle.cb_verify.specs.Within.{Within, method_at, of_class, with_body, within}
use Rattle.cb_safety.specs.Frames.{result_at}
use Rattle.cb_safety.proofs.Assigned.{mapped, never}
use Rattle.cb_safety.proofs.Searching.{position_here, position_later}

-- ---- the first item that passes a test

pub record PassesAt {Item : Type 0} (test : Item → Bool) (items : List Item) (place : ℕ) : Type 0 where
  pub item : Item
  pub there : slice_get items place ≡ Some item
  pub passes : test item ≡ true

pub position_at : {Item : Type 0} (test : Item → Bool) (items : List Item) (place : ℕ) → position test items ≡ Some place → PassesAt test items place
position_at test [] place is = never is
position_at {Item} test (first ∷ items) place is = go (test first) refl (position_at test items) where
  go : (passes : Bool) → test first ≡ passes → ((place : ℕ) → position test items ≡ Some place → PassesAt test items place) → PassesAt test (first ∷ items) place
  go true here more =
      subst (PassesAt test (first ∷ items)) (same_Some 0 place (sym (position_here test first items here) ∙ is)) (record { item = first; there = refl; passes = here })
  go false apart more =
      mapped (λ (turn : ℕ). 1 + turn) (position test items) place (sym (position_later test first items apart) ∙ is)
      (λ turn found same.
      let own : PassesAt test items turn = more turn found in
      subst (PassesAt test (first ∷ items)) same
      (record { item = own.item; there = ap (slice_get (first ∷ items)) (let next : 1 + turn ≡ suc turn = omega arith in next) ∙ own.there; passes = own.passes }))

-- ---- pairs of texts by their numbers

same_pair : (one other : List ℕ × List ℕ) → same_texts one other ≡ true → one ≡ other
same_pair (one, two) (three, four) is =
    let both = and_parts (same_text one three) (same_text two four) is in
    ap₂ (λ (one two : List ℕ). (one, two)) ((bytes_decides one three).0 both.0) ((bytes_decides two four).0 both.1)

pair_same : (own : List ℕ × List ℕ) → same_texts own own ≡ true
pair_same (one, two) = and_from (same_text one one) (same_text two two) ((bytes_decides one one).1 refl) ((bytes_decides two two).1 refl)

-- the number of a pair that is there is a place where it stands
number_stands : (pairs : List (List ℕ × List ℕ)) (place : ℕ) (own : List ℕ × List ℕ) → slice_get pairs place ≡ Some own → slice_get pairs (own_number pairs own) ≡ Some own
number_stands [] place own is = never is
number_stands (first ∷ pairs) place own is = go (same_texts own first) refl place is (number_stands pairs) where
  go : (same : Bool) → same_texts own first ≡ same → (place : ℕ) → slice_get (first ∷ pairs) place ≡ Some own
      → ((place : ℕ) (own : List ℕ × List ℕ) → slice_get pairs place ≡ Some own → slice_get pairs (own_number pairs own) ≡ Some own)
      → slice_get (first ∷ pairs) (own_number (first ∷ pairs) own) ≡ Some own
  go true same place is more =
      ap (λ (passes : Bool). slice_get (first ∷ pairs) (cond (not passes) (1 + position_or_len (same_texts own) pairs) 0)) same
      ∙ ap {B = Option (List ℕ × List ℕ)} Some (sym (same_pair own first same))
  go false apart zero is more = absurd (false≢true (sym apart ∙ ap (same_texts own) (same_Some first own is) ∙ pair_same own))
  go false apart (suc place) is more =
      ap (λ (passes : Bool). slice_get (first ∷ pairs) (cond (not passes) (1 + position_or_len (same_texts own) pairs) 0)) apart
      ∙ ap (slice_get (first ∷ pairs)) (let next : 1 + own_number pairs own ≡ suc (own_number pairs own) = omega arith in next)
      ∙ more place own is

-- ---- a method that is found

pub record IsFound (classes : List ClassFile) (class number : ℕ) (texts : List ℕ × List ℕ) : Type 0 where
  pub own : Numbered Method
  pub there : slice_get (methods_of classes) number ≡ Some own
  pub class_is : own.class ≡ class
  pub has : texts_in own.pool own.member.name own.member.descriptor ≡ texts

module _ (classes : List ClassFile) where
  abbrev texts_of : Numbered Method → List ℕ × List ℕ
  texts_of own = texts_in own.pool own.member.name own.member.descriptor

  abbrev declared : RankedMethod → Declared
  declared method = method.declared

  numbered_at : (number : ℕ) (member : Declared) → slice_get (map declared (ranked_methods classes)) number ≡ Some member
      → (own : Numbered Method) × ((slice_get (methods_of classes) number ≡ Some own) × ((ranked_method classes own).declared ≡ member))
  numbered_at number member is =
      mapped declared (slice_get (ranked_methods classes) number) member (sym (slice_get-map declared (ranked_methods classes) number) ∙ is)
      (λ method found same. mapped (ranked_method classes) (slice_get (methods_of classes) number) method (sym (slice_get-map (ranked_method classes) (methods_of classes) number) ∙ found)
      (λ own there also. (own, (there, ap declared also ∙ same))))

  pub method_found : (class signature number : ℕ) (texts : List ℕ × List ℕ) → number_of_pair (method_texts classes) texts ≡ Some signature
      → method_of (ranked_methods classes) class signature ≡ Some number → IsFound classes class number texts
  method_found class signature number texts signed is =
      let at = position_at (λ (member : Declared). (member.class == class) && (member.signature == signature)) (map declared (ranked_methods classes)) number is in
      let (own, (there, same)) = numbered_at number at.item at.there in
      let both = and_parts (at.item.class == class) (at.item.signature == signature) at.passes in
      let named = position_at (same_texts texts) (method_texts classes) signature signed in
      let stands : slice_get (method_texts classes) (own_number (method_texts classes) (texts_of own)) ≡ Some (texts_of own) =
      number_stands (method_texts classes) number (texts_of own) (slice_get-map texts_of (methods_of classes) number ∙ ap (option_map texts_of) there) in
      let number_is : own_number (method_texts classes) (texts_of own) ≡ signature =
      ap (λ (member : Declared). member.signature) same ∙ eqb-true at.item.signature signature both.1 in
      let text_is : named.item ≡ texts_of own =
      same_Some named.item (texts_of own) (sym named.there ∙ sym (ap (slice_get (method_texts classes)) number_is) ∙ stands) in
      record {
        own = own;
        there = there;
        class_is = ap (λ (member : Declared). member.class) same ∙ eqb-true at.item.class class both.0;
        has = sym text_is ∙ sym (same_pair texts named.item named.passes);
      }

-- ---- what a program has of it

named_text : (found : Option (List ℕ)) (unit : ℕ) (rest : List ℕ) → or_none found ≡ unit ∷ rest → found ≡ Some (unit ∷ rest)
named_text None unit rest is = absurd (cc is)
named_text (Some text) unit rest is = ap {B = Option (List ℕ)} Some is

pub name_there : (classes : List ClassFile) (class number : ℕ) (unit : ℕ) (rest descriptor : List ℕ) (found : IsFound classes class number (unit ∷ rest, descriptor))
    → text_at found.own.pool found.own.member.name ≡ Some (unit ∷ rest)
name_there classes class number unit rest descriptor found =
    named_text (text_at found.own.pool found.own.member.name) unit rest (ap (λ (texts : List ℕ × List ℕ). texts.0) found.has)

-- with code
pub record HasWithin (program : Linked) (number : ℕ) (own : Numbered Method) (body : Body) : Type 0 where
  pub method : Within
  pub within : within program number ≡ Some method
  pub is_static : method.is_static ≡ has_flag acc_static own.member.flags.0
  pub body_is : method.body ≡ body

module _ (program : Linked) (whole : IsWhole program) (number : ℕ) (own : Numbered Method) (there : slice_get (methods_of program.classes) number ≡ Some own) where
  pub linked_there : slice_get program.methods number ≡ Some (linked_method program.kinds own)
  linked_there =
      ap (λ (methods : List LinkedMethod). slice_get methods number) whole.methods
      ∙ slice_get-map (linked_method program.kinds) (methods_of program.classes) number ∙ ap (option_map (linked_method program.kinds)) there

  found_in : (body : Body) → own.member.body ≡ Some body → (method : Within) → with_body program number own.class own.member (Some body) ≡ Some method → within program number ≡ Some method
  found_in body has method is =
      ap (option_and_then (λ (linked : LinkedMethod). option_and_then (of_class program number linked.class) (method_at program number))) linked_there
      ∙ ap (λ (found : Option (Numbered Method)). option_and_then (of_class program number own.class) (option_map (λ (own : Numbered Method). own.member) found)) there
      ∙ ap (with_body program number own.class own.member) has ∙ is

  pub has_within : (body : Body) → own.member.body ≡ Some body → HasWithin program number own body
  has_within body has = record { method = _; within = found_in body has _ refl; is_static = refl; body_is = refl }

  abbrev parameters_in : Option LinkedMethod → List Basic
  parameters_in None = []
  parameters_in (Some method) = method.parameters

  pub takes_by : (descriptor : List ℕ) → or_none (text_at own.pool own.member.descriptor) ≡ descriptor → parameters_at program number ≡ map (basic_of program.kinds) (parameters_of descriptor)
  takes_by descriptor is = ap parameters_in linked_there ∙ ap (λ (text : List ℕ). map (basic_of program.kinds) (parameters_of text)) is

  pub gives_by : (descriptor : List ℕ) → or_none (text_at own.pool own.member.descriptor) ≡ descriptor → result_at program number ≡ option_map (basic_of program.kinds) (result_of descriptor)
  gives_by descriptor is =
      ap (option_and_then (λ (linked : LinkedMethod). linked.result)) linked_there ∙ ap (λ (text : List ℕ). option_map (basic_of program.kinds) (result_of text)) is

-- ---- what is asked of the methods of a class that is well formed

methods_kept : (pool : _) (bytes : List ℕ) (methods : List Method) → SpellsEach (SpellsMethod pool) bytes methods → AllByRecursion (IsMethod pool) methods
methods_kept pool bytes [] spells = tt
methods_kept pool bytes (method ∷ methods) (first, rest, spells, more, is) = (spells.rules, methods_kept pool rest methods more)

pub class_methods : (class : ClassFile) → IsWellFormed class → AllByRecursion (IsMethod class.pool) class.methods
class_methods class (bytes, spelled) =
    let tables = spelled.behind.spelled.behind.spelled.behind.behind.behind.here in methods_kept class.pool tables.entries class.methods tables.each

pub some_body : (body : Option Body) → IsSome body → (own : Body) × (body ≡ Some own)
some_body None is = absurd (false≢true is)
some_body (Some body) is = (body, refl)
