-- Where an instruction stands in the classes of a program, and the constant that it names.
use Rattle.std.proofs.Common.{◌≡◌, ◌∙◌, ap, refl, sym, subst, ℕ, zero, suc, ◌==◌, Bool, true, false, cond, IfSome, List, [], ◌∷◌, ◌++◌, Option, Some, None, option_and_then, option_map, slice_get}
use Rattle.std.specs.Prelude.{IsSomeAnd}
use Rattle.std.specs.List.{AllByRecursion, flat_map}
use Rattle.std.proofs.lemmas.Bool.{false≢true}
use Rattle.std.proofs.lemmas.Option.{option_and_then_some, same_Some, slice_get-map}
use Rattle.cb_text.specs.declared.constant.Constant.{Constant}
use Rattle.cb_text.specs.declared.constant.Constant.TheVariants as constants
use Rattle.cb_text.specs.Naming.{member_at, name_of_class, text_at, units_of}
use Rattle.cb_text.specs.Pool.{HasIndices, IsText, Names, constant_at}
use Rattle.cb_insn.specs.declared.insn.Insn.{Insn}
use Rattle.cb_classfile.specs.declared.body.Body.{Body}
use Rattle.cb_classfile.specs.declared.class.ClassFile.{ClassFile}
use Rattle.cb_classfile.specs.declared.method.Method.{Method}
use Rattle.cb_classfile.specs.declared.needed.ConstantKind.{ConstantKind}
use Rattle.cb_classfile.specs.declared.needed.ConstantKind.TheVariants as needs
use Rattle.cb_classfile.specs.Attributes.{SpellsOnce}
use Rattle.cb_classfile.specs.Class.{IsWellFormed}
use Rattle.cb_classfile.specs.Code.{SpellsBody}
use Rattle.cb_classfile.specs.Members.{SpellsMethod}
use Rattle.cb_classfile.specs.Needed.{HasConstant, StandsAt, index_in, is_of_kind, kind_needed}
use Rattle.cb_classfile.specs.Pool.{class_at}
use Rattle.cb_classfile.specs.Tables.{SpellsEach}
use Rattle.cb_kinds.specs.Kinds.{kinds_of_name, kinds_of_type, name_in}
use Rattle.cb_link.proofs.Laws.{placed}
use Rattle.cb_link.specs.Having.{IsWhole}
use Rattle.cb_hierarchy.specs.Classes.{listed}
use Rattle.cb_link.specs.Making.{body_kinds, class_kinds, descriptor_kinds, field_kinds, frame_kinds, handler_kinds, insn_kinds, made_by, member_kinds, method_kinds, named_in}
use Rattle.cb_link.specs.Named.{code_at, code_in, code_of, constant_named, insn_in, kind_in, named, named_at, or_nothing, turn_at}
use Rattle.cb_link.specs.Numbers.{Numbered, methods_of}
use Rattle.cb_link.specs.Places.{IsPlaced}
use Rattle.cb_link.specs.Program.{Linked, linked_method}
use Rattle.cb_link.specs.declared.linked.LinkedMethod.{LinkedMethod}
use Rattle.cb_link.specs.declared.named.Named.{Named}
use Rattle.cb_link.specs.declared.named.Named.TheVariants as meanings
use Rattle.cb_names.specs.Signs.{bracket, letter_class}
use Rattle.cb_verify.specs.Within.{Within, kind_named, of_class, with_body, within}
use Rattle.cb_safety.proofs.Assigned.{mapped, never}
use Rattle.cb_safety.proofs.Entries.{within_method}
use Rattle.cb_safety.proofs.Lists.{all_at}

-- ---- where it stands

pub record Located (program : Linked) (number pc : ℕ) (method : Within) (insn : Insn) : Type 0 where
  pub own : Numbered Method
  pub there : slice_get (methods_of program.classes) number ≡ Some own
  pub at : IsPlaced (λ (class : ClassFile). class.methods) program.classes own
  pub body : Body
  pub has : own.member.body ≡ Some body
  pub code : insn_in body.code pc ≡ Some insn
  pub class : method.class ≡ own.class

abbrev class_within : Option Within → ℕ
class_within None = 0
class_within (Some method) = method.class

located_by : (program : Linked) (number pc : ℕ) (method : Within) (insn : Insn) (linked : Option LinkedMethod) (found : Option (Numbered Method))
    → slice_get (methods_of program.classes) number ≡ found → linked ≡ option_map (linked_method program.kinds) found
    → option_and_then (λ (linked : LinkedMethod). option_and_then (of_class program number linked.class) (option_map (λ (own : Numbered Method). own.member) found)) linked ≡ Some method
    → insn_in (code_of found) pc ≡ Some insn → Located program number pc method insn
located_by program number pc method insn None found there is so code = never so
located_by program number pc method insn (Some linked) None there is so code = never so
located_by program number pc method insn (Some linked) (Some own) there is so code = go own.member.body refl so code where
  go : (body : Option Body) → own.member.body ≡ body → with_body program number linked.class own.member body ≡ Some method → insn_in (code_in body) pc ≡ Some insn
      → Located program number pc method insn
  go None has so code = never so
  go (Some body) has so code = record {
    own = own;
    there = there;
    at = placed (λ (class : ClassFile). class.methods) program.classes number own there;
    body = body;
    has = has;
    code = code;
    class = sym (ap class_within so) ∙ ap (λ (linked : LinkedMethod). linked.class) (same_Some linked (linked_method program.kinds own) is);
  }

pub located : (program : Linked) (number pc : ℕ) (method : Within) (insn : Insn) → IsWhole program → within program number ≡ Some method → insn_in (code_at program number) pc ≡ Some insn
    → Located program number pc method insn
located program number pc method insn whole so code =
    located_by program number pc method insn (slice_get program.methods number) (slice_get (methods_of program.classes) number) refl
    (ap (λ (methods : List LinkedMethod). slice_get methods number) whole.methods ∙ slice_get-map (linked_method program.kinds) (methods_of program.classes) number) so code

-- ---- what it names

abbrev naming : Linked → Option (Numbered Method) → ℕ → Named
naming program None pc = meanings.Nothing
naming program (Some method) pc = named_at program method.pool (option_and_then (λ (insn : Insn). index_in insn.operand) (insn_in (code_in method.member.body) pc))

pub named_located : (program : Linked) (number pc : ℕ) (method : Within) (insn : Insn) (index : ℕ) (at : Located program number pc method insn) → index_in insn.operand ≡ Some index
    → named program number pc ≡ or_nothing (constant_named program.classes program.kinds program.constants at.at.declaring.pool index)
named_located program number pc method insn index at is =
    ap (λ (found : Option (Numbered Method)). naming program found pc) at.there
    ∙ ap (λ (body : Option Body). named_at program at.own.pool (option_and_then (λ (insn : Insn). index_in insn.operand) (insn_in (code_in body) pc))) at.has
    ∙ ap (λ (found : Option Insn). named_at program at.own.pool (option_and_then (λ (insn : Insn). index_in insn.operand) found)) at.code
    ∙ ap (named_at program at.own.pool) is
    ∙ ap (λ (pool : List Constant). or_nothing (constant_named program.classes program.kinds program.constants pool index)) at.at.of_pool

pub kind_located : (program : Linked) (number pc : ℕ) (method : Within) (insn : Insn) (index : ℕ) (at : Located program number pc method insn) → within program number ≡ Some method
    → kind_named method index ≡ kind_in program.kinds at.at.declaring.pool index
kind_located program number pc method insn index at so =
    ap (λ (program : Linked). option_and_then (λ (declaring : ClassFile). kind_in program.kinds declaring.pool index) (slice_get program.classes method.class)) (within_method program number method so).own
    ∙ ap (λ (class : ℕ). option_and_then (λ (declaring : ClassFile). kind_in program.kinds declaring.pool index) (slice_get program.classes class)) at.class
    ∙ ap (option_and_then (λ (declaring : ClassFile). kind_in program.kinds declaring.pool index)) at.at.declares

-- ---- of the instructions of code

-- an instruction stands at some turn
pub record IsTurn (code : List (ℕ × Insn)) (insn : Insn) : Type 0 where
  pub turn : ℕ
  pub entry : ℕ × Insn
  pub there : slice_get code turn ≡ Some entry
  pub is : entry.1 ≡ insn

pub turn_of : (code : List (ℕ × Insn)) (pc : ℕ) (insn : Insn) → insn_in code pc ≡ Some insn → IsTurn code insn
turn_of code pc insn there =
    mapped (λ (placed : ℕ × Insn). placed.1) (option_and_then (slice_get code) (turn_at code pc)) insn there
    (λ entry found same. option_and_then_some (slice_get code) (turn_at code pc) entry found (λ turn is got. record { turn = turn; entry = entry; there = got; is = same }))

-- ---- the constant that it needs

abbrev HaveConstants : List Constant → Option Body → Type 0
HaveConstants pool None = Unit {0}
HaveConstants pool (Some body) = AllByRecursion (λ placed. HasConstant pool placed.1) body.code

once_body : (pool : List Constant) (contents : List (List ℕ)) (body : Option Body) → SpellsOnce (SpellsBody pool) contents body → HaveConstants pool body
once_body pool contents None is = tt
once_body pool [] (Some body) is = absurd is
once_body pool (first ∷ []) (Some body) is = is.instructions.constants
once_body pool (first ∷ second ∷ more) (Some body) is = absurd is

methods_have : (pool : List Constant) (bytes : List ℕ) (methods : List Method) → SpellsEach (SpellsMethod pool) bytes methods → AllByRecursion (λ method. HaveConstants pool method.body) methods
methods_have pool bytes [] spells = tt
methods_have pool bytes (method ∷ methods) (first, rest, spells, more, is) = (once_body pool _ method.body spells.body, methods_have pool rest methods more)

-- the pool of a class, and the constants of its instructions
pub record IsFormed (class : ClassFile) : Type 0 where
  pub indexed : AllByRecursion (HasIndices class.pool) class.pool
  pub constants : AllByRecursion (λ method. HaveConstants class.pool method.body) class.methods

pub formed : (class : ClassFile) → IsWellFormed class → IsFormed class
formed class (bytes, spelled) =
    let contents = spelled.behind in
    let tables = contents.spelled.behind.spelled.behind.behind.behind.here in
    record { indexed = contents.spelled.here.indexed; constants = methods_have class.pool tables.entries class.methods tables.each }

pub constant_of : (program : Linked) (number pc : ℕ) (method : Within) (insn : Insn) (at : Located program number pc method insn) → AllByRecursion IsWellFormed program.classes
    → HasConstant at.at.declaring.pool insn
constant_of program number pc method insn at all =
    let class : IsFormed at.at.declaring = formed at.at.declaring (all_at IsWellFormed program.classes at.own.class at.at.declaring all at.at.declares) in
    let constants : HaveConstants at.at.declaring.pool (Some at.body) =
    subst (HaveConstants at.at.declaring.pool) at.has
    (all_at (λ method. HaveConstants at.at.declaring.pool method.body) at.at.declaring.methods at.own.place at.own.member class.constants at.at.lists) in
    let turn : IsTurn at.body.code insn = turn_of at.body.code pc insn at.code in
    subst (HasConstant at.at.declaring.pool) turn.is (all_at (λ placed. HasConstant at.at.declaring.pool placed.1) at.body.code turn.turn turn.entry constants turn.there)

-- a constant of a kind
needed_at : (pool : List Constant) (index : ℕ) (kind : ConstantKind) (found : Option ℕ) (needed : Option ConstantKind) → found ≡ Some index → needed ≡ Some kind
    → IfSome found (λ index. IsSomeAnd needed (StandsAt pool index)) → StandsAt pool index kind
needed_at pool index kind None needed is need has = never is
needed_at pool index kind (Some own) None is need has = never need
needed_at pool index kind (Some own) (Some other) is need has =
    subst (λ (index : ℕ). StandsAt pool index kind) (same_Some own index is) (subst (StandsAt pool own) (same_Some other kind need) has)

pub stands_needed : (pool : List Constant) (insn : Insn) (index : ℕ) (kind : ConstantKind) → index_in insn.operand ≡ Some index → kind_needed insn.opcode ≡ Some kind → HasConstant pool insn
    → StandsAt pool index kind
stands_needed pool insn index kind is need has = needed_at pool index kind (index_in insn.operand) (kind_needed insn.opcode) is need has

-- the constants of a pool have their indices
indices_there : (pool rest : List Constant) (place : ℕ) (constant : Constant) → AllByRecursion (HasIndices pool) rest → slice_get rest place ≡ Some constant → HasIndices pool constant
indices_there pool rest place constant all is = all_at (HasIndices pool) rest place constant all is

pub has_indices : (pool : List Constant) (index : ℕ) (constant : Constant) → AllByRecursion (HasIndices pool) pool → constant_at pool index ≡ Some constant → HasIndices pool constant
has_indices pool zero constant all is = never is
has_indices pool (suc place) constant all is = indices_there pool pool place constant all is

-- a text
pub text_there : (pool : List Constant) (index : ℕ) → Names pool index IsText → (text : List ℕ) × (text_at pool index ≡ Some text)
text_there pool index named = go (constant_at pool index) refl named where
  go : (found : Option Constant) → constant_at pool index ≡ found → IsSomeAnd found IsText → (text : List ℕ) × (text_at pool index ≡ Some text)
  go (Some (constants.Utf8 units)) there is = (units, ap (option_and_then units_of) there)
  go None there is = absurd is
  go (Some other) there is = absurd is

-- a class
pub record IsClassConstant (pool : List Constant) (index : ℕ) : Type 0 where
  pub at : ℕ
  pub constant : constant_at pool index ≡ Some (constants.Class at)
  pub name : List ℕ
  pub text : class_at pool index ≡ Some name

pub class_constant : (pool : List Constant) (index at : ℕ) → AllByRecursion (HasIndices pool) pool → constant_at pool index ≡ Some (constants.Class at) → IsClassConstant pool index
class_constant pool index at all is =
    let (text, there) = text_there pool at (has_indices pool index (constants.Class at) all is) in
    record { at = at; constant = is; name = text; text = ap (λ (found : Option Constant). option_and_then (text_at pool) (option_and_then name_of_class found)) is ∙ there }

pub class_needed : (pool : List Constant) (index : ℕ) → AllByRecursion (HasIndices pool) pool → StandsAt pool index needs.Class → IsClassConstant pool index
class_needed pool index all stands = go (constant_at pool index) refl stands where
  go : (found : Option Constant) → constant_at pool index ≡ found → IsSomeAnd found (λ constant. is_of_kind needs.Class constant ≡ true) → IsClassConstant pool index
  go None there is = absurd is
  go (Some (constants.Class at)) there is = class_constant pool index at all there
  go (Some other) there is = absurd (false≢true is)

-- ---- the kinds that it names

pub all_parts : {Item : Type 0} (P : Item → Type 0) (front back : List Item) → AllByRecursion P (front ++ back) → AllByRecursion P front × AllByRecursion P back
all_parts P [] back all = (tt, all)
all_parts P (item ∷ front) back all = let (one, other) = all_parts P front back all.1 in ((all.0, one), other)

pub all_part : {Item Part : Type 0} (P : Part → Type 0) (parts : Item → List Part) (items : List Item) (place : ℕ) (item : Item) → AllByRecursion P (flat_map parts items)
    → slice_get items place ≡ Some item → AllByRecursion P (parts item)
all_part P parts [] place item all is = never is
all_part P parts (first ∷ items) zero item all is =
    subst (λ item. AllByRecursion P (parts item)) (same_Some first item is) (all_parts P (parts first) (flat_map parts items) all).0
all_part P parts (first ∷ items) (suc place) item all is = all_part P parts items place item (all_parts P (parts first) (flat_map parts items) all).1 is

own_among : (P : List ℕ → Type 0) (name : List ℕ) → AllByRecursion P (kinds_of_name name) → P name
own_among P [] all = all.0
own_among P (unit ∷ rest) all = go (unit == bracket) all where
  go : (array : Bool)
      → AllByRecursion P (cond array (cond array ((unit ∷ rest) ∷ kinds_of_type rest) (cond (unit == letter_class) (name_in rest ∷ []) [])) ((unit ∷ rest) ∷ []))
      → P (unit ∷ rest)
  go true all = all.0
  go false all = all.0

-- what is so of all kinds of a program is so of that of a class that an instruction names
pub insn_class : (P : List ℕ → Type 0) (program : Linked) (number pc : ℕ) (method : Within) (insn : Insn) (at : Located program number pc method insn) (index : ℕ) (name : List ℕ)
    → AllByRecursion P (flat_map class_kinds program.classes) → index_in insn.operand ≡ Some index → class_at at.at.declaring.pool index ≡ Some name → P name
insn_class P program number pc method insn at index name all is named =
    let pool : List Constant = at.at.declaring.pool in
    let of_class : AllByRecursion P (class_kinds at.at.declaring) = all_part P class_kinds program.classes at.own.class at.at.declaring all at.at.declares in
    let of_methods : AllByRecursion P (flat_map (method_kinds pool) at.at.declaring.methods) = (all_parts P (flat_map (field_kinds pool) at.at.declaring.fields) (flat_map (method_kinds pool) at.at.declaring.methods) of_class).1 in
    let of_method : AllByRecursion P (method_kinds pool at.own.member) = all_part P (method_kinds pool) at.at.declaring.methods at.own.place at.own.member of_methods at.at.lists in
    let of_body : AllByRecursion P (body_kinds pool (Some at.body)) =
    subst (λ (body : Option Body). AllByRecursion P (body_kinds pool body)) at.has (all_parts P (descriptor_kinds pool at.own.member.descriptor) (body_kinds pool at.own.member.body) of_method).1 in
    let code : List (List ℕ) = flat_map (λ (placed : ℕ × Insn). insn_kinds pool placed.1) at.body.code in
    let handlers : List (List ℕ) = flat_map (handler_kinds pool) at.body.handlers in
    let frames : List (List ℕ) = flat_map (frame_kinds pool) at.body.frames in
    let of_code : AllByRecursion P code = (all_parts P code handlers (all_parts P (code ++ handlers) frames of_body).0).0 in
    let turn : IsTurn at.body.code insn = turn_of at.body.code pc insn at.code in
    let of_insn : AllByRecursion P (insn_kinds pool insn) =
    subst (λ (insn : Insn). AllByRecursion P (insn_kinds pool insn)) turn.is
    (all_part P (λ (placed : ℕ × Insn). insn_kinds pool placed.1) at.body.code turn.turn turn.entry of_code turn.there) in
    let own : List (List ℕ) = flat_map kinds_of_name (listed (named_in pool insn.operand)) in
    let members : List (List ℕ) = member_kinds (option_and_then (member_at pool) (index_in insn.operand)) in
    let made : List (List ℕ) = flat_map kinds_of_name (made_by pool insn) in
    let of_own : AllByRecursion P own = (all_parts P own members (all_parts P (own ++ members) made of_insn).0).0 in
    let same : named_in pool insn.operand ≡ Some name = ap (option_and_then (class_at pool)) is ∙ named in
    own_among P name (all_parts P (kinds_of_name name) [] (subst (λ (found : Option (List ℕ)). AllByRecursion P (flat_map kinds_of_name (listed found))) same of_own)).0
