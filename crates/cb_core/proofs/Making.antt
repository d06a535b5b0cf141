-- Records as the definition makes them: what is made of rows, one thing behind the other.
use Rattle.std.proofs.Common.{◌≡◌, ◌∙◌, ap, refl, sym, subst, ℕ, ◌+◌, ◌<◌, ◌≤◌, List, [], ◌∷◌, ◌++◌, length, map, take, get_or}
use Rattle.std.proofs.lemmas.List.{map-append, take_more}
use Rattle.std.specs.Prelude.{zip, Err, IfOk, None, Ok, Option, Result}
use Rattle.cb_text.specs.declared.constant.Constant.TheVariants as constants
use Rattle.cb_text.specs.declared.constant.Constant.{Constant}
use Rattle.cb_text.specs.Pool.{with_gap}
use Rattle.cb_insn.specs.declared.insn.Insn.{Insn}
use Rattle.cb_library.specs.Rows as rows
use Rattle.cb_classfile.specs.declared.body.Body.{Body}
use Rattle.cb_classfile.specs.declared.class.ClassFile.{ClassFile}
use Rattle.cb_classfile.specs.declared.field.Field.{Field}
use Rattle.cb_classfile.specs.declared.frame_map.MapFrame.{MapFrame}
use Rattle.cb_classfile.specs.declared.handler.Handler.{Handler}
use Rattle.cb_classfile.specs.declared.method.Method.{Method}
use Rattle.cb_classfile.specs.Library.{library_version}
use Rattle.cb_core.specs.Built.{places_from}
use Rattle.cb_core.specs.Recorded.{Entry, entered, new_pool, record_of, with_body, with_class, with_code, with_constant, with_each, with_field, with_frame, with_kind, with_member, with_method, with_name_and_type, with_string, with_superclass, with_text, with_variable}
use Rattle.cb_core.proofs.Zipped.{take_past}

-- one thing behind another
pub then_made : {One Other : Type 0} (first : Entry One) (then : One → List Constant → Entry Other) (middle : List Constant) (one : One) (last : Entry Other)
    → first ≡ entered middle one → then one middle ≡ last → then first.thing first.pool ≡ last
then_made first then middle one last made more = ap (λ (entry : Entry _). then entry.thing entry.pool) made ∙ more

-- a constant that takes one index
pub constant_made : (constant : Constant) (before after : List Constant) (index : ℕ) → with_gap constant ≡ constant ∷ [] → after ≡ before ++ with_gap constant → index ≡ length before + 1
    → with_constant constant before ≡ entered after index
constant_made constant before after index alone grown next =
    sym (ap (λ (pool : List Constant). entered pool index) (grown ∙ ap (λ constants. before ++ constants) alone)
    ∙ ap (λ (index : ℕ). entered (before ++ constant ∷ []) index) next)

-- one more thing, and all
each_behind : {Row Thing : Type 0} (make : Row → List Constant → Entry Thing) (rows : List Row) (row : Row) (pool : List Constant)
    → with_each make (rows ++ row ∷ []) pool
    ≡ entered (make row (with_each make rows pool).pool).pool ((with_each make rows pool).thing ++ (make row (with_each make rows pool).pool).thing ∷ [])
each_behind make [] row pool = refl
each_behind make (first ∷ rows) row pool =
    ap (λ (entry : Entry (List _)). entered entry.pool ((make first pool).thing ∷ entry.thing)) (each_behind make rows row (make first pool).pool)

pub each_more : {Row Thing : Type 0} (make : Row → List Constant → Entry Thing) (rows : List Row) (row : Row) (before middle after : List Constant) (things : List Thing) (thing : Thing)
    → with_each make rows before ≡ entered middle things → make row middle ≡ entered after thing → with_each make (rows ++ row ∷ []) before ≡ entered after (things ++ thing ∷ [])
each_more make rows row before middle after things thing made more =
    each_behind make rows row before
    ∙ ap (λ (entry : Entry (List _)). entered (make row entry.pool).pool (entry.thing ++ (make row entry.pool).thing ∷ [])) made
    ∙ ap (λ (entry : Entry _). entered entry.pool (things ++ entry.thing ∷ [])) more

pub each_turn_made : {Row Named Thing : Type 0} (row_of : Row → Named) (make : Named → List Constant → Entry Thing) (rows : List Row) (i : ℕ) (d : Row) (before middle after : List Constant) (things more : List Thing) (thing : Thing)
    → i < length rows → more ≡ things ++ thing ∷ [] → with_each make (map row_of (take i rows)) before ≡ entered middle things → make (row_of (get_or rows i d)) middle ≡ entered after thing
    → with_each make (map row_of (take (i + 1) rows)) before ≡ entered after more
each_turn_made row_of make rows i d before middle after things more thing below pushed made one =
    let these : map row_of (take (i + 1) rows) ≡ map row_of (take i rows) ++ row_of (get_or rows i d) ∷ [] =
    ap (map row_of) (take_more rows i d below) ∙ map-append row_of (take i rows) (get_or rows i d ∷ []) in
    ap (λ rows. with_each make rows before) these ∙ each_more make (map row_of (take i rows)) (row_of (get_or rows i d)) before middle after things thing made one
    ∙ ap (λ things. entered after things) (sym pushed)

pub each_all_made : {Row Named Thing : Type 0} (row_of : Row → Named) (make : Named → List Constant → Entry Thing) (rows : List Row) (i : ℕ) (before after : List Constant) (things : List Thing)
    → length rows ≤ i → with_each make (map row_of (take i rows)) before ≡ entered after things → with_each make (map row_of rows) before ≡ entered after things
each_all_made row_of make rows i before after things past made = ap (λ rows. with_each make (map row_of rows) before) (sym (take_past rows i past)) ∙ made

-- code by its places and its instructions
zip_code : {Insn : Type 0} (code : List (ℕ × Insn)) → zip (map (λ placed. placed.0) code) (map (λ placed. placed.1) code) ≡ code
zip_code [] = refl
zip_code (placed ∷ code) = ap (λ more. placed ∷ more) (zip_code code)

pub code_zipped : {Insn : Type 0} (places : List ℕ) (code : List (ℕ × Insn)) → map (λ placed. placed.0) code ≡ places → zip places (map (λ placed. placed.1) code) ≡ code
code_zipped places code same = ap (λ places. zip places (map (λ placed. placed.1) code)) (sym same) ∙ zip_code code

pub insns_more : {Insn : Type 0} (code more : List (ℕ × Insn)) (place : ℕ) (insn : Insn) → more ≡ code ++ (place, insn) ∷ [] → map (λ placed. placed.1) more ≡ map (λ placed. placed.1) code ++ insn ∷ []
insns_more code more place insn pushed = ap (map (λ placed. placed.1)) pushed ∙ map-append (λ placed. placed.1) code ((place, insn) ∷ [])

-- a body of its code and its frames
pub body_made : (row : rows.Body) (places : List ℕ) (before middle after : List Constant) (code : List (ℕ × Insn)) (frames : List MapFrame) (handlers : List Handler)
    → places ≡ places_from 0 row.code → with_code places row.code before ≡ entered middle code → with_each (with_frame places) row.frames middle ≡ entered after frames → handlers ≡ []
    → with_body row before ≡ entered after (record { max_stack = row.max_stack; max_locals = row.max_locals; code = code; handlers = handlers; frames = frames })
body_made row places before middle after code frames handlers is coded framed none =
    let all : List ℕ = places_from 0 row.code in
    then_made (with_code all row.code before)
    (λ code pool. entered (with_each (with_frame all) row.frames pool).pool
    (record { max_stack = row.max_stack; max_locals = row.max_locals; code = code; handlers = []; frames = (with_each (with_frame all) row.frames pool).thing }))
    middle code _ (subst (λ places. with_code places row.code before ≡ entered middle code) is coded)
    (then_made (with_each (with_frame all) row.frames middle)
    (λ frames pool. entered pool (record { max_stack = row.max_stack; max_locals = row.max_locals; code = code; handlers = []; frames = frames }))
    after frames _ (subst (λ places. with_each (with_frame places) row.frames middle ≡ entered after frames) is framed)
    (ap (λ handlers. entered after (record { max_stack = row.max_stack; max_locals = row.max_locals; code = code; handlers = handlers; frames = frames })) (sym none)))

-- constants behind what they name, where memory was to be had
module _ {Fault : Type 0} (before after : List Constant) where
  pub text_made : (text units : List ℕ) (result : Result ℕ Fault) → units ≡ text → IfOk result (λ index. with_constant (constants.Utf8 units) before ≡ entered after index)
      → IfOk result (λ index. with_text text before ≡ entered after index)
  text_made text units result same made = subst (λ units. IfOk result (λ index. with_constant (constants.Utf8 units) before ≡ entered after index)) same made

  pub class_made : (name : List ℕ) (middle : List Constant) (text : ℕ) (result : Result ℕ Fault) → with_text name before ≡ entered middle text
      → IfOk result (λ index. with_constant (constants.Class text) middle ≡ entered after index) → IfOk result (λ index. with_class name before ≡ entered after index)
  class_made name middle text (Ok index) named made = ap (λ (text : Entry ℕ). with_constant (constants.Class text.thing) text.pool) named ∙ made
  class_made name middle text (Err fault) named made = tt

  pub string_made : (text : List ℕ) (middle : List Constant) (units : ℕ) (result : Result ℕ Fault) → with_text text before ≡ entered middle units
      → IfOk result (λ index. with_constant (constants.String units) middle ≡ entered after index) → IfOk result (λ index. with_string text before ≡ entered after index)
  string_made text middle units (Ok index) named made = ap (λ (units : Entry ℕ). with_constant (constants.String units.thing) units.pool) named ∙ made
  string_made text middle units (Err fault) named made = tt

  pub name_and_type_made : (name descriptor : List ℕ) (middle last : List Constant) (named described : ℕ) (result : Result ℕ Fault) → with_text name before ≡ entered middle named
      → with_text descriptor middle ≡ entered last described → IfOk result (λ index. with_constant (constants.NameAndType named described) last ≡ entered after index)
      → IfOk result (λ index. with_name_and_type name descriptor before ≡ entered after index)
  name_and_type_made name descriptor middle last named described (Ok index) one other made =
      ap (λ (named : Entry ℕ). with_constant (constants.NameAndType named.thing (with_text descriptor named.pool).thing) (with_text descriptor named.pool).pool) one
      ∙ ap (λ (described : Entry ℕ). with_constant (constants.NameAndType named described.thing) described.pool) other ∙ made
  name_and_type_made name descriptor middle last named described (Err fault) one other made = tt

  pub field_made : (class name descriptor : List ℕ) (middle last : List Constant) (holder member : ℕ) (result : Result ℕ Fault) → with_class class before ≡ entered middle holder
      → with_name_and_type name descriptor middle ≡ entered last member → IfOk result (λ index. with_constant (constants.Fieldref holder member) last ≡ entered after index)
      → IfOk result (λ index. with_field class name descriptor before ≡ entered after index)
  field_made class name descriptor middle last holder member (Ok index) one other made =
      ap (λ (holder : Entry ℕ). with_constant (constants.Fieldref holder.thing (with_name_and_type name descriptor holder.pool).thing) (with_name_and_type name descriptor holder.pool).pool) one
      ∙ ap (λ (member : Entry ℕ). with_constant (constants.Fieldref holder member.thing) member.pool) other ∙ made
  field_made class name descriptor middle last holder member (Err fault) one other made = tt

  pub method_made : (class name descriptor : List ℕ) (middle last : List Constant) (holder member : ℕ) (result : Result ℕ Fault) → with_class class before ≡ entered middle holder
      → with_name_and_type name descriptor middle ≡ entered last member → IfOk result (λ index. with_constant (constants.Methodref holder member) last ≡ entered after index)
      → IfOk result (λ index. with_method class name descriptor before ≡ entered after index)
  method_made class name descriptor middle last holder member (Ok index) one other made =
      ap (λ (holder : Entry ℕ). with_constant (constants.Methodref holder.thing (with_name_and_type name descriptor holder.pool).thing) (with_name_and_type name descriptor holder.pool).pool) one
      ∙ ap (λ (member : Entry ℕ). with_constant (constants.Methodref holder member.thing) member.pool) other ∙ made
  method_made class name descriptor middle last holder member (Err fault) one other made = tt

-- a constant takes one index
pub constant_grown : {Fault : Type 0} (constant : Constant) (before after : List Constant) (result : Result ℕ Fault) → with_gap constant ≡ constant ∷ []
    → IfOk result (λ index. (after ≡ before ++ with_gap constant) × (index ≡ length before + 1)) → IfOk result (λ index. with_constant constant before ≡ entered after index)
constant_grown constant before after (Ok index) alone grown = constant_made constant before after index alone grown.0 grown.1
constant_grown constant before after (Err fault) alone grown = tt

-- a field, and a method
pub variable_made : (row : rows.Field) (before middle after : List Constant) (name descriptor : ℕ) → with_text row.name before ≡ entered middle name → with_text row.descriptor middle ≡ entered after descriptor
    → with_variable row before ≡ entered after (record { flags = record { 0 = row.flags }; name = name; descriptor = descriptor; constant = None })
variable_made row before middle after name descriptor one other =
    then_made (with_text row.name before)
    (λ name pool. entered (with_text row.descriptor pool).pool (record { flags = record { 0 = row.flags }; name = name; descriptor = (with_text row.descriptor pool).thing; constant = None })) middle name _ one
    (ap (λ (described : Entry ℕ). entered described.pool (record { flags = record { 0 = row.flags }; name = name; descriptor = described.thing; constant = None })) other)

pub member_made : (row : rows.Method) (before middle last after : List Constant) (name descriptor : ℕ) (body : Option Body) → with_text row.name before ≡ entered middle name
    → with_text row.descriptor middle ≡ entered last descriptor → with_kind row.kind last ≡ entered after body
    → with_member row before ≡ entered after (record { flags = record { 0 = row.flags }; name = name; descriptor = descriptor; body = body })
member_made row before middle last after name descriptor body one other more =
    then_made (with_text row.name before)
    (λ name pool. entered (with_kind row.kind (with_text row.descriptor pool).pool).pool
    (record { flags = record { 0 = row.flags }; name = name; descriptor = (with_text row.descriptor pool).thing; body = (with_kind row.kind (with_text row.descriptor pool).pool).thing })) middle name _ one
    (then_made (with_text row.descriptor middle)
    (λ descriptor pool. entered (with_kind row.kind pool).pool (record { flags = record { 0 = row.flags }; name = name; descriptor = descriptor; body = (with_kind row.kind pool).thing })) last descriptor _ other
    (ap (λ (body : Entry (Option Body)). entered body.pool (record { flags = record { 0 = row.flags }; name = name; descriptor = descriptor; body = body.thing })) more))

-- a record of its parts
pub class_record : (row : rows.CoreClass) (first second third fourth fifth sixth : List Constant) (this above : ℕ) (interfaces : List ℕ) (fields : List Field) (methods : List Method)
    → first ≡ new_pool → with_class row.name first ≡ entered second this → with_superclass row.superclass second ≡ entered third above → with_each with_class row.interfaces third ≡ entered fourth interfaces
    → with_each with_variable row.fields fourth ≡ entered fifth fields → with_each with_member row.methods fifth ≡ entered sixth methods
    → (record { minor = 0; major = library_version; pool = sixth; flags = record { 0 = row.flags }; this_class = this; super_class = above; interfaces = interfaces; fields = fields; methods = methods }) ≡ record_of row
class_record row first second third fourth fifth sixth this above interfaces fields methods new one two three four five =
    let last : List Constant → ℕ → ℕ → List ℕ → List Field → List Method → ClassFile =
    λ pool this above interfaces fields methods. record { minor = 0; major = library_version; pool = pool; flags = record { 0 = row.flags }; this_class = this; super_class = above; interfaces = interfaces; fields = fields; methods = methods } in
    let by_methods : List Constant → ℕ → ℕ → List ℕ → List Field → ClassFile =
    λ pool this above interfaces fields. last (with_each with_member row.methods pool).pool this above interfaces fields (with_each with_member row.methods pool).thing in
    let by_fields : List Constant → ℕ → ℕ → List ℕ → ClassFile =
    λ pool this above interfaces. by_methods (with_each with_variable row.fields pool).pool this above interfaces (with_each with_variable row.fields pool).thing in
    let by_interfaces : List Constant → ℕ → ℕ → ClassFile =
    λ pool this above. by_fields (with_each with_class row.interfaces pool).pool this above (with_each with_class row.interfaces pool).thing in
    let by_above : List Constant → ℕ → ClassFile =
    λ pool this. by_interfaces (with_superclass row.superclass pool).pool this (with_superclass row.superclass pool).thing in
    sym (ap (λ (pool : List Constant). by_above (with_class row.name pool).pool (with_class row.name pool).thing) (sym new)
    ∙ ap (λ (entry : Entry ℕ). by_above entry.pool entry.thing) one
    ∙ ap (λ (entry : Entry ℕ). by_interfaces entry.pool this entry.thing) two
    ∙ ap (λ (entry : Entry (List ℕ)). by_fields entry.pool this above entry.thing) three
    ∙ ap (λ (entry : Entry (List Field)). by_methods entry.pool this above interfaces entry.thing) four
    ∙ ap (λ (entry : Entry (List Method)). last entry.pool this above interfaces fields entry.thing) five)

-- a class at an index, as a number
pub class_index : (name : List ℕ) (before after : List Constant) (index number : ℕ) → number ≡ index → with_class name before ≡ entered after index → with_class name before ≡ entered after number
class_index name before after index number same made = made ∙ ap (λ (index : ℕ). entered after index) (sym same)
