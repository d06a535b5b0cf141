-- Instructions that ask for a class name a kind of the program.
use Rattle.std.proofs.Common.{◌≡◌, ◌∙◌, ap, arith, refl, sym, subst, ℤ, ℕ, ◌+◌, ◌<◌, ◌||◌, Bool, true, false, List, [], ◌∷◌, ◌++◌, length, map, Option, Some, option_and_then, option_map}
use Rattle.std.specs.Option.{option_or}
use Rattle.std.specs.List.{AllByRecursion, flat_map, list_any}
use Rattle.std.proofs.lemmas.Bool.{false≢true}
use Rattle.cb_text.specs.declared.constant.Constant.{Constant}
use Rattle.cb_text.specs.declared.constant.Constant.TheVariants as constants
use Rattle.cb_text.specs.Naming.{int_of, long_of, text_at, text_of_string}
use Rattle.cb_insn.specs.declared.insn.Insn.{Insn}
use Rattle.cb_classfile.specs.Class.{IsWellFormed}
use Rattle.cb_classfile.specs.Pool.{class_at}
use Rattle.cb_classfile.specs.declared.needed.ConstantKind.TheVariants as needs
use Rattle.cb_kinds.specs.Kinds.{kinds_of_name}
use Rattle.cb_kinds.specs.Texts.{number_of, same_text}
use Rattle.cb_link.proofs.Laws.{all_named}
use Rattle.cb_link.specs.Having.{IsWhole}
use Rattle.cb_link.specs.Making.{class_kinds, fixed_kinds}
use Rattle.cb_link.specs.Named.{code_at, constant_named, insn_in, member_named, or_nothing}
use Rattle.cb_link.specs.Numbers.{name_of}
use Rattle.cb_link.specs.Program.{Linked}
use Rattle.cb_link.specs.declared.named.Named.{Named}
use Rattle.cb_link.specs.declared.named.Named.TheVariants as meanings
use Rattle.cb_plain.specs.declared.value.Value.TheVariants as values
use Rattle.cb_shapes.specs.Shapes.{action_of}
use Rattle.cb_shapes.specs.declared.action.Action.{Action}
use Rattle.cb_text.specs.Naming.{member_at}
use Rattle.cb_verify.specs.Within.{Within, within}
use Rattle.cb_safety.specs.Naming.{NamesKind, kind_index}
use Rattle.cb_safety.proofs.Lists.{all_at}
use Rattle.cb_safety.proofs.Located.{IsClassConstant, Located, all_parts, class_needed, constant_of, formed, insn_class, kind_located, located, named_located, stands_needed}
use Rattle.cb_safety.proofs.Opcodes.{AsksClass, asks_class, class_kind_needed}
use Rattle.cb_safety.proofs.Searching.{position_here, position_later}

-- the number of a text that is among others
pub record IsNumbered (texts : List (List ℕ)) (text : List ℕ) : Type 0 where
  pub number : ℕ
  pub is : number_of texts text ≡ Some number
  pub low : number < length texts

pub numbered_of : (texts : List (List ℕ)) (text : List ℕ) → list_any (same_text text) texts ≡ true → IsNumbered texts text
numbered_of [] text among = absurd (false≢true among)
numbered_of (first ∷ texts) text among = go (same_text text first) refl among (numbered_of texts text) where
  go : (test : Bool) → same_text text first ≡ test → (test || list_any (same_text text) texts) ≡ true → (list_any (same_text text) texts ≡ true → IsNumbered texts text)
      → IsNumbered (first ∷ texts) text
  go true same among more = record { number = 0; is = position_here (same_text text) first texts same; low = omega arith }
  go false apart among more =
      let rest : IsNumbered texts text = more among in
      record {
        number = 1 + rest.number;
        is = position_later (same_text text) first texts apart ∙ ap (option_map (λ (turn : ℕ). 1 + turn)) rest.is;
        low = omega (arith, rest.low);
      }

-- a constant of a class is no other
abbrev named_as : Linked → List Constant → Option Constant → Option (List ℕ) → ℕ → Option Named
named_as program pool constant class index =
    option_or (option_map (λ (number : ℤ). meanings.Whole (values.Int number)) (option_and_then int_of constant))
    (option_or (option_map (λ (number : ℤ). meanings.Whole (values.Long number)) (option_and_then long_of constant))
    (option_or (option_map meanings.Text (option_and_then (number_of program.constants) (option_and_then (text_at pool) (option_and_then text_of_string constant))))
    (option_or (option_map meanings.Kind (option_and_then (number_of program.kinds) class))
    (option_and_then (member_named program.classes) (member_at pool index)))))

pub named_class : (program : Linked) (pool : List Constant) (index kind : ℕ) (class : IsClassConstant pool index) → number_of program.kinds class.name ≡ Some kind
    → or_nothing (constant_named program.classes program.kinds program.constants pool index) ≡ meanings.Kind kind
named_class program pool index kind class is =
    ap (λ (constant : Option Constant). or_nothing (named_as program pool constant (class_at pool index) index)) class.constant
    ∙ ap (λ (name : Option (List ℕ)). or_nothing (named_as program pool (Some (constants.Class class.at)) name index)) class.text
    ∙ ap (λ (kind : Option ℕ). or_nothing (option_or (option_map meanings.Kind kind) (option_and_then (member_named program.classes) (member_at pool index)))) is

module _ (program : Linked) (whole : IsWhole program) (all : AllByRecursion IsWellFormed program.classes) where
  abbrev Among : List ℕ → Type 0
  Among name = list_any (same_text name) program.kinds ≡ true

  pub classes_among : AllByRecursion Among (flat_map class_kinds program.classes)
  classes_among =
      let front : List (List ℕ) = map name_of program.classes in
      let named : AllByRecursion Among (front ++ flat_map class_kinds program.classes ++ flat_map kinds_of_name fixed_kinds) =
      subst (λ (texts : List (List ℕ)). AllByRecursion (λ name. list_any (same_text name) texts ≡ true) (front ++ flat_map class_kinds program.classes ++ flat_map kinds_of_name fixed_kinds))
      (sym whole.kinds) (all_named program.classes) in
      (all_parts Among front (flat_map class_kinds program.classes) (all_parts Among (front ++ flat_map class_kinds program.classes) (flat_map kinds_of_name fixed_kinds) named).0).1

  pub names_kind : (number pc index : ℕ) (method : Within) (insn : Insn) (action : Action) → within program number ≡ Some method
      → insn_in (code_at program number) pc ≡ Some insn → action_of insn ≡ Some action → kind_index action ≡ Some index → NamesKind program method number pc index
  names_kind number pc index method insn action so there is asks =
      let at : Located program number pc method insn = located program number pc method insn whole so there in
      let opcode : AsksClass insn.opcode index insn.operand = asks_class insn action index is asks in
      let pool : List Constant = at.at.declaring.pool in
      let class : IsClassConstant pool index =
      class_needed pool index (formed at.at.declaring (all_at IsWellFormed program.classes at.own.class at.at.declaring all at.at.declares)).indexed
      (stands_needed pool insn index needs.Class opcode.names (class_kind_needed insn.opcode index insn.operand opcode) (constant_of program number pc method insn at all)) in
      let kind : IsNumbered program.kinds class.name =
      numbered_of program.kinds class.name (insn_class Among program number pc method insn at index class.name classes_among opcode.names class.text) in
      record {
        kind = kind.number;
        names = named_located program number pc method insn index at opcode.names ∙ named_class program pool index kind.number class kind.is;
        typed = kind_located program number pc method insn index at so ∙ ap (option_and_then (number_of program.kinds)) class.text ∙ kind.is;
        low = kind.low;
      }
