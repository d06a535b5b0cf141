-- A `new` of a program that is linked and typed names a class that is there.
use Rattle.std.proofs.Common.{◌≡◌, ◌∙◌, inl, inr, ap, refl, sym, subst, ℕ, ◌==◌, ◌<◌, ◌&&◌, Bool, true, false, not, List, [], ◌∷◌, length, Option, Some, None, option_and_then, option_map, slice_get}
use Rattle.std.specs.List.{AllByRecursion, find, list_any}
use Rattle.std.proofs.lemmas.Bool.{and_parts, eqb-true, false≢true}
use Rattle.std.proofs.lemmas.List.{length-map}
use Rattle.std.proofs.lemmas.Option.{same_Some}
use Rattle.cb_text.specs.declared.constant.Constant.{Constant}
use Rattle.cb_insn.specs.declared.insn.Insn.{Insn}
use Rattle.cb_insn.specs.declared.insn.Operand.{Operand}
use Rattle.cb_insn.specs.declared.opcode.TheConstants as opcodes
use Rattle.cb_classfile.specs.Class.{IsWellFormed}
use Rattle.cb_classfile.specs.Needed.{index_in, kind_needed}
use Rattle.cb_classfile.specs.Pool.{class_at}
use Rattle.cb_classfile.specs.declared.class.ClassFile.{ClassFile}
use Rattle.cb_classfile.specs.declared.needed.ConstantKind.TheVariants as needs
use Rattle.cb_kinds.proofs.Laws.{text_at}
use Rattle.cb_kinds.specs.Kinds.{is_array}
use Rattle.cb_kinds.specs.Texts.{number_of, same_text}
use Rattle.cb_link.specs.Having.{IsWhole}
use Rattle.cb_link.specs.Making.{named_in}
use Rattle.cb_link.specs.Named.{code_at, insn_in}
use Rattle.cb_link.specs.Numbers.{class_number, hierarchy, or_none, ranked}
use Rattle.cb_link.specs.Program.{Linked}
use Rattle.cb_shapes.specs.Shapes.{action_of}
use Rattle.cb_shapes.specs.declared.action.Action.{Action}
use Rattle.cb_shapes.specs.declared.action.Action.TheVariants as actions
use Rattle.cb_verify.specs.declared.verification_type.VerificationType.TheVariants.{New}
use Rattle.cb_verify.specs.Expansion.{declared, start}
use Rattle.cb_verify.specs.Frames.{Frame, is_same}
use Rattle.cb_verify.specs.Leaving.{left, left_with, make, makes_object}
use Rattle.cb_verify.specs.Members.{member_at}
use Rattle.cb_verify.specs.Typed.{Declared, IsTyped, Placed, after, first_place, fits, frame_at, onwards, placed_behind, placed_in}
use Rattle.cb_verify.specs.Within.{Within, kind_named, within}
use Rattle.cb_safety.specs.Linked.{IsLinked}
use Rattle.cb_safety.specs.Ready.{NamesClass, NamesClasses}
use Rattle.cb_safety.proofs.Arriving.{IsTypedMethod, typed_method}
use Rattle.cb_safety.proofs.Assigned.{never, when}
use Rattle.cb_safety.proofs.Beginning.{within_low}
use Rattle.cb_safety.proofs.Entries.{Fits, fits_parts, has_before, stands_at, within_method}
use Rattle.cb_safety.proofs.Kinded.{IsNumbered, classes_among, named_class, numbered_of}
use Rattle.cb_safety.proofs.Linking.{front, linked_formed, linked_whole}
use Rattle.cb_safety.proofs.Lists.{all_at}
use Rattle.cb_safety.proofs.Located.{IsClassConstant, IsTurn, Located, class_needed, constant_of, formed, insn_class, kind_located, located, named_located, stands_needed, turn_of}
use Rattle.cb_safety.proofs.Makings.{Makes, makes_of}
use Rattle.cb_safety.proofs.Ordered.{number_within}
use Rattle.cb_safety.proofs.Placing.{IsPlaced, found_placed}
use Rattle.cb_safety.proofs.Searching.{found_all, found_either, found_if, position_found}

-- ---- the instruction of a typed method that stands at a place

abbrev is_at : ℕ → ℕ × Insn → Bool
is_at pc placed = placed.0 == pc

abbrev own_of : Declared → Option Frame → ℕ × Insn → List (ℕ × Insn) → Placed
own_of frames arrived placed code = record { place = placed.0; insn = placed.1; next = first_place code; before = frame_at frames placed.0 arrived }

abbrev left_by : Within → Declared → Option Frame → ℕ × Insn → Option Frame
left_by method frames arrived placed = onwards placed.1 (after method placed (frame_at frames placed.0 arrived))

-- it is one of those that fit
pub placed_there : (method : Within) (frames : Declared) (arrived : Option Frame) (code : List (ℕ × Insn)) (pc : ℕ) (placed : ℕ × Insn) → find (is_at pc) code ≡ Some placed
    → (own : Placed) × (find (stands_at pc) (placed_behind method frames arrived code) ≡ Some own)
placed_there method frames arrived [] pc placed so = never so
placed_there method frames arrived (first ∷ code) pc placed so =
    let own : Placed = own_of frames arrived first code in
    let rest : List Placed = placed_behind method frames (left_by method frames arrived first) code in
    elim (found_either (is_at pc) first code placed so) [
      | inl here ↦ (own, found_if (stands_at pc) own rest true here.0)
      | inr later ↦
          let (other, found) = placed_there method frames (left_by method frames arrived first) code pc placed later.1 in
          (other, found_if (stands_at pc) own rest false later.0 ∙ found)
    ]

pub entry_there : (code : List (ℕ × Insn)) (pc : ℕ) (insn : Insn) → insn_in code pc ≡ Some insn → (placed : ℕ × Insn) × (find (is_at pc) code ≡ Some placed)
entry_there code pc insn there =
    go (find (is_at pc) code) refl (sym (ap (option_map (λ (placed : ℕ × Insn). placed.1)) (position_found (is_at pc) code)) ∙ there)
  where
    go : (found : Option (ℕ × Insn)) → find (is_at pc) code ≡ found → option_map (λ (placed : ℕ × Insn). placed.1) found ≡ Some insn
        → (placed : ℕ × Insn) × (find (is_at pc) code ≡ Some placed)
    go None is so = never so
    go (Some placed) is so = (placed, is)

-- its rule is met
record IsMet (method : Within) (pc : ℕ) (insn : Insn) : Type 0 where
  pub before : Frame
  pub after : Frame
  pub leaves : left method pc insn before ≡ Some after

is_met : (program : Linked) (number pc : ℕ) (method : Within) (insn : Insn) → IsTyped program → within program number ≡ Some method → insn_in (code_at program number) pc ≡ Some insn
    → IsMet method pc insn
is_met program number pc method insn typed so there =
    let of : IsTypedMethod program number method = typed_method program number method typed (within_low program number method so) so in
    let code : insn_in method.body.code pc ≡ Some insn = subst (λ (code : List (ℕ × Insn)). insn_in code pc ≡ Some insn) of.is.code there in
    let (placed, found) = entry_there method.body.code pc insn code in
    let (own, stands) = placed_there method (declared method) (start method) method.body.code pc placed found in
    let is : IsPlaced (declared method) method.body.code pc own = found_placed method (declared method) (start method) method.body.code pc own stands in
    let fit : fits method (declared method) own ≡ true =
    found_all (λ (own : Placed). fits method (declared method) own ≡ true) (stands_at pc) (placed_in method) own of.fit.fit stands in
    let (before, had) = has_before method (declared method) own fit in
    let fits_so : Fits method (declared method) own before = fits_parts method (declared method) own before fit had in
    record {
      before = before;
      after = fits_so.after;
      leaves =
          subst (λ (insn : Insn). left method pc insn before ≡ Some fits_so.after) (same_Some own.insn insn (sym is.there ∙ code))
          (subst (λ (place : ℕ). left method place own.insn before ≡ Some fits_so.after) is.place fits_so.leaves);
    }

-- ---- a `new`

abbrev is_class : List (List ℕ) → Option ℕ → Bool
is_class kinds None = false
is_class kinds (Some kind) = not (is_array (or_none (slice_get kinds kind)))

-- what it names is no array
new_plain : (method : Within) (pc index : ℕ) (insn : Insn) → action_of insn ≡ Some (actions.New index) → IsMet method pc insn → is_class method.program.kinds (kind_named method index) ≡ true
new_plain method pc index insn acts met =
    let made : make method pc index met.before ≡ Some met.after =
    sym (ap (option_and_then (λ (action : Action). left_with method pc (member_at method pc) action met.before)) acts) ∙ met.leaves in
    let rule = when (makes_object method index && not (list_any (is_same (New pc)) met.before.stack)) _ met.after made in
    (and_parts (makes_object method index) (not (list_any (is_same (New pc)) met.before.stack)) rule.0).0

record AsksNew (opcode index : ℕ) (operand : Operand) : Type 0 where
  pub names : index_in operand ≡ Some index
  pub needs : kind_needed opcode ≡ Some needs.Class

asks_new : (opcode index : ℕ) (operand : Operand) → Makes opcode operand (actions.New index) → AsksNew opcode index operand
asks_new opcode index operand (Makes.AnObject own is) = record { names = refl; needs = ap kind_needed (eqb-true opcode opcodes.NEW is) }

no_array : (test : Bool) → not test ≡ true → test ≡ false
no_array true is = absurd (false≢true is)
no_array false is = refl

module _ (program : Linked) (is : IsLinked program) (typed : IsTyped program) where
  whole : IsWhole program
  whole = linked_whole program is

  all : AllByRecursion IsWellFormed program.classes
  all = linked_formed program is

  module _ (number pc index : ℕ) (method : Within) (insn : Insn) (so : within program number ≡ Some method) (there : insn_in (code_at program number) pc ≡ Some insn)
      (acts : action_of insn ≡ Some (actions.New index)) where
    at : Located program number pc method insn
    at = located program number pc method insn whole so there

    abbrev pool : List Constant
    pool = at.at.declaring.pool

    asks : AsksNew insn.opcode index insn.operand
    asks = asks_new insn.opcode index insn.operand (makes_of insn (actions.New index) refl acts)

    class : IsClassConstant pool index
    class =
        class_needed pool index (formed at.at.declaring (all_at IsWellFormed program.classes at.own.class at.at.declaring all at.at.declares)).indexed
        (stands_needed pool insn index needs.Class asks.names asks.needs (constant_of program number pc method insn at all))

    kind : IsNumbered program.kinds class.name
    kind =
        numbered_of program.kinds class.name
        (insn_class (λ (name : List ℕ). list_any (same_text name) program.kinds ≡ true) program number pc method insn at index class.name (classes_among program whole all) asks.names class.text)

    kind_there : slice_get program.kinds kind.number ≡ Some class.name
    kind_there = text_at program.kinds class.name kind.number kind.is

    plain : is_array class.name ≡ false
    plain =
        no_array (is_array class.name)
        (sym (ap (λ (found : Option (List ℕ)). not (is_array (or_none found))) kind_there)
        ∙ sym (ap (is_class program.kinds) (kind_located program number pc method insn index at so ∙ ap (option_and_then (number_of program.kinds)) class.text ∙ kind.is))
        ∙ sym (ap (λ (own : Linked). is_class own.kinds (kind_named method index)) (within_method program number method so).own)
        ∙ new_plain method pc index insn acts (is_met program number pc method insn typed so there))

    turn : IsTurn at.body.code insn
    turn = turn_of at.body.code pc insn at.code

    names_in : named_in pool turn.entry.1.operand ≡ Some class.name
    names_in = ap (λ (insn : Insn). named_in pool insn.operand) turn.is ∙ ap (option_and_then (class_at pool)) asks.names ∙ class.text

    found : (other : ℕ) × (class_number program.classes class.name ≡ Some other)
    found =
        let (other, numbered) = is.named at.own.class at.own.place turn.turn at.at.declaring at.own.member at.body turn.entry class.name
        (sym (ap (λ (classes : List ClassFile). slice_get classes at.own.class) (front program is)) ∙ at.at.declares) at.at.lists at.has turn.there names_in plain in
        (other, ap (λ (classes : List ClassFile). class_number classes class.name) (front program is) ∙ numbered)

    names_class : NamesClass program number pc
    names_class =
        let many : length (hierarchy program.classes) ≡ length program.classes = length-map program.classes (ranked program.classes) in
        record {
          kind = kind.number;
          class = found.0;
          names = named_located program number pc method insn index at asks.names ∙ named_class program pool index kind.number class kind.is;
          classed = ap (option_and_then (class_number program.classes)) kind_there ∙ found.1;
          low = subst (λ (count : ℕ). found.0 < count) many (number_within program.classes class.name found.0 found.1);
        }

  pub names_classes : NamesClasses program
  names_classes number pc index method insn so there acts = names_class number pc index method insn so there acts
