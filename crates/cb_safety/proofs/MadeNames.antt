-- The names of the kinds that an instruction makes: an array's at each dimension, and an object's.
use Rattle.std.proofs.Common.{◌≡◌, ◌∙◌, ap, refl, sym, subst, arith, ℕ, zero, suc, ◌<◌, ◌≤◌, ◌==◌, Bool, true, false, List, [], ◌∷◌, map, replicate, take, Option, Some, None, option_and_then, option_map, slice_get, nat_le, if◌then◌else◌}
use Rattle.std.proofs.lemmas.Bool.{eqb-true, false≢true, leb-true}
use Rattle.std.proofs.lemmas.Option.{option_and_then_some}
use Rattle.cb_hierarchy.specs.Classes.{listed}
use Rattle.cb_insn.specs.Forms.{head_form}
use Rattle.cb_insn.specs.Grammar.{SpellsIn}
use Rattle.cb_insn.specs.declared.insn.Insn.{Insn}
use Rattle.cb_insn.specs.declared.insn.Operand.{Operand}
use Rattle.cb_insn.specs.declared.insn.Operand.TheVariants as operands
use Rattle.cb_insn.specs.declared.opcode.TheConstants as opcodes
use Rattle.cb_kinds.specs.Basics.{kind_number}
use Rattle.cb_kinds.specs.Kinds.{array_of, is_array, kinds_of_type}
use Rattle.cb_kinds.specs.Texts.{number_of}
use Rattle.cb_kinds.proofs.Laws.{text_at}
use Rattle.cb_link.specs.Having.{IsWhole}
use Rattle.cb_link.specs.Making.{base_array, made_by}
use Rattle.cb_link.specs.Named.{code_at, insn_in, made_at}
use Rattle.cb_link.specs.Numbers.{or_none}
use Rattle.cb_machine.specs.Machine.{Machine}
use Rattle.cb_names.specs.Signs.{bracket}
use Rattle.cb_plain.specs.State.{Frame, MethodFrame, State}
use Rattle.cb_shapes.specs.Shapes.{action_of}
use Rattle.cb_shapes.specs.declared.action.Action.{Action}
use Rattle.cb_shapes.specs.declared.action.Action.TheVariants as actions
use Rattle.cb_shapes.specs.declared.sort.Sort.TheVariants as sorts
use Rattle.cb_text.specs.Naming.{class_at}
use Rattle.cb_text.specs.declared.constant.Constant.{Constant}
use Rattle.cb_verify.specs.declared.verification_type.VerificationType.{VerificationType}
use Rattle.cb_verify.specs.declared.verification_type.VerificationType.TheVariants.{Object}
use Rattle.cb_verify.specs.Calls.{put_on}
use Rattle.cb_verify.specs.Frames as verified
use Rattle.cb_verify.specs.Rules.{dimensions_of, given, has_dimensions, made_type, most_dimensions, taken}
use Rattle.cb_verify.specs.Within.{Within, kind_named}
use Rattle.cb_safety.specs.Advancing.{IsSpelled}
use Rattle.cb_safety.specs.Making.{is_of_arrays}
use Rattle.cb_safety.proofs.ArraysMade.{kind}
use Rattle.cb_safety.proofs.Assigned.{never, when}
use Rattle.cb_safety.proofs.Declared.{IsOwn, is_own, kind_named_is}
use Rattle.cb_safety.proofs.Going.{Stage}
use Rattle.cb_safety.proofs.Makings.{IsMade, Makes, Nested, made_is, makes_of, nested_of}
use Rattle.cb_safety.proofs.Spelled.{insn_spelled}
use Rattle.std.proofs.Common.{◌≡◌, ◌∙◌, ap, refl, sym, subst, arith, ℕ, zero, suc, ◌<◌, ◌≤◌, ◌==◌, ◌&&◌, Bool, true, false, not, List, [], ◌∷◌, map, replicate, take, Option, Some, None, option_and_then, option_map, slice_get, nat_le, if◌then◌else◌}
use Rattle.std.specs.List.{list_any}
use Rattle.std.proofs.lemmas.Bool.{and_parts, eqb-true, false≢true, leb-true}
use Rattle.std.proofs.lemmas.Option.{option_and_then_some}
use Rattle.cb_insn.specs.Grammar.{SpellsIn}
use Rattle.cb_kinds.specs.Basics.{kind_number}
use Rattle.cb_link.specs.Having.{IsWhole}
use Rattle.cb_link.specs.Named.{code_at, insn_in, made_at}
use Rattle.cb_link.specs.Numbers.{or_none}
use Rattle.cb_link.specs.Program.{Linked}
use Rattle.cb_machine.specs.Machine.{Machine}
use Rattle.cb_plain.specs.State.{Frame, MethodFrame, State}
use Rattle.cb_verify.specs.declared.verification_type.VerificationType.TheVariants.{New, Object, Top}
use Rattle.cb_verify.specs.Leaving.{makes_object as may_make}
use Rattle.cb_verify.specs.Within.{Within, kind_named}
use Rattle.cb_safety.specs.Advancing.{IsSpelled}
use Rattle.cb_safety.specs.Making.{is_of_arrays}

-- ---- the names by the instruction

abbrev AreNested : List (List ℕ) → ℕ → Type 0
AreNested names most = (name : List ℕ) → slice_get names 0 ≡ Some name → (0 < most) × ((dimension : ℕ) → dimension < most → Nested names most dimension)

none_nested : (most : ℕ) → AreNested [] most
none_nested most name is = never is

one_nested : (rest : List ℕ) → AreNested ((bracket ∷ rest) ∷ []) 1
one_nested rest name is = (omega arith, one)
  where
    one : (dimension : ℕ) → dimension < 1 → Nested ((bracket ∷ rest) ∷ []) 1 dimension
    one zero low = record { rest = rest; here = refl; next = λ more. absurd (omega (arith, more)) }
    one (suc dimension) low = absurd (omega (arith, low))

many_nested : (name : List ℕ) (most : ℕ) → most ≤ dimensions_of name → AreNested (take most (kinds_of_type name)) most
many_nested name zero low own is = never is
many_nested name (suc most) low own is = (omega arith, λ dimension short. nested_of name (suc most) dimension low short)

chosen_nested : (one two : Bool) (first second third : List (List ℕ)) (most : ℕ) → (one ≡ true → AreNested first most) → (two ≡ true → AreNested second most) → AreNested third most
    → AreNested (if one then first else if two then second else third) most
chosen_nested true two first second third most a b c = a refl
chosen_nested false true first second third most a b c = b refl
chosen_nested false false first second third most a b c = c

abbrev insn_of : ℕ → Bool → Operand → Insn
insn_of opcode wide operand = record { opcode = opcode; wide = wide; operand = operand }

numbers_nested : (pool : List Constant) (opcode : ℕ) (wide : Bool) (code : ℕ) → AreNested (made_by pool (insn_of opcode wide (operands.ArrayCode code))) 1
numbers_nested pool opcode wide code =
    chosen_nested (opcode == opcodes.NEW) (opcode == opcodes.ANEWARRAY) [] [] (base_array code ∷ []) 1 (λ is. none_nested 1) (λ is. none_nested 1) (one_nested _)

listed_nested : (found : Option (List ℕ)) → AreNested (map array_of (listed found)) 1
listed_nested None = none_nested 1
listed_nested (Some name) = one_nested _

references_nested : (pool : List Constant) (opcode : ℕ) (wide : Bool) (index : ℕ) → (opcode == opcodes.ANEWARRAY) ≡ true
    → AreNested (made_by pool (insn_of opcode wide (operands.Pool index))) 1
references_nested pool opcode wide index is =
    subst (λ (opcode : ℕ). AreNested (made_by pool (insn_of opcode wide (operands.Pool index))) 1) (sym (eqb-true opcode opcodes.ANEWARRAY is)) (listed_nested (class_at pool index))

-- with an operand of dimensions there is neither new nor anewarray
not_at : (pc opcode : ℕ) (wide : Bool) (index dimensions : ℕ) (bytes : List ℕ) → head_form wide opcode ≡ head_form false opcodes.NEW
    → SpellsIn pc (head_form wide opcode) (operands.Dimensions index dimensions) bytes → ⊥
not_at pc opcode wide index dimensions bytes is spelled = subst (λ form. SpellsIn pc form (operands.Dimensions index dimensions) bytes) is spelled

no_wide : (pc opcode : ℕ) (wide : Bool) (index dimensions : ℕ) (bytes : List ℕ) → (head_form false opcode ≡ head_form false opcodes.NEW) → head_form true opcode ≡ None
    → SpellsIn pc (head_form wide opcode) (operands.Dimensions index dimensions) bytes → ⊥
no_wide pc opcode true index dimensions bytes is none spelled = subst (λ form. SpellsIn pc form (operands.Dimensions index dimensions) bytes) none spelled
no_wide pc opcode false index dimensions bytes is none spelled = not_at pc opcode false index dimensions bytes is spelled

not_opcode : {P : Type 0} (pc opcode own : ℕ) (wide : Bool) (index dimensions : ℕ) (bytes : List ℕ) → (opcode == own) ≡ true
    → (head_form false own ≡ head_form false opcodes.NEW) → head_form true own ≡ None
    → SpellsIn pc (head_form wide opcode) (operands.Dimensions index dimensions) bytes → P
not_opcode pc opcode own wide index dimensions bytes same is none spelled =
    absurd (no_wide pc own wide index dimensions bytes is none
    (subst (λ (opcode : ℕ). SpellsIn pc (head_form wide opcode) (operands.Dimensions index dimensions) bytes) (eqb-true opcode own same) spelled))

arrays_nested : (pool : List Constant) (pc opcode : ℕ) (wide : Bool) (index dimensions : ℕ) (bytes : List ℕ)
    → SpellsIn pc (head_form wide opcode) (operands.Dimensions index dimensions) bytes → dimensions ≤ dimensions_of (or_none (class_at pool index))
    → AreNested (made_by pool (insn_of opcode wide (operands.Dimensions index dimensions))) dimensions
arrays_nested pool pc opcode wide index dimensions bytes spelled low =
    chosen_nested (opcode == opcodes.NEW) (opcode == opcodes.ANEWARRAY) (listed (class_at pool index)) (map array_of (listed (class_at pool index)))
    (take dimensions (kinds_of_type (or_none (class_at pool index)))) dimensions
    (λ is. not_opcode pc opcode opcodes.NEW wide index dimensions bytes is refl refl spelled)
    (λ is. not_opcode pc opcode opcodes.ANEWARRAY wide index dimensions bytes is refl refl spelled)
    (many_nested (or_none (class_at pool index)) dimensions low)

-- the verifier's count is that of the constant's name
named_dimensions : (kinds : List (List ℕ)) (found : Option (List ℕ)) (dimensions : ℕ)
    → nat_le dimensions (dimensions_of (or_none (option_and_then (slice_get kinds) (option_and_then (number_of kinds) found)))) ≡ true
    → dimensions ≤ dimensions_of (or_none found)
named_dimensions kinds None dimensions is = leb-true dimensions 0 is
named_dimensions kinds (Some name) dimensions is = by (number_of kinds name) refl
  where
    by : (found : Option ℕ) → number_of kinds name ≡ found → dimensions ≤ dimensions_of name
    by None none = let low : dimensions ≤ 0 = leb-true dimensions 0 (rw none at is) in omega (arith, low)
    by (Some number) some = leb-true dimensions (dimensions_of name) (rw (some, text_at kinds name number some) at is)

-- ---- the types by the rule

pub record IsGiven (method : Within) (pc : ℕ) (frame : verified.Frame) (rest : List VerificationType) (after : verified.Frame) : Type 0 where
  pub name : List ℕ
  pub made : slice_get (made_at method.program method.number pc) 0 ≡ Some name
  pub fits : verified.with_stack method.body.max_stack frame (Object (kind_number method.program.kinds name) ∷ rest) ≡ Some after

abbrev lay : Within → verified.Frame → List VerificationType → Option VerificationType → Option verified.Frame
lay method frame rest type = put_on method frame (listed type) rest

is_given : (method : Within) (pc : ℕ) (frame : verified.Frame) (rest : List VerificationType) (after : verified.Frame)
    → option_and_then (lay method frame rest) (option_map Some (made_type method pc)) ≡ Some after → IsGiven method pc frame rest after
is_given method pc frame rest after so = by (slice_get (made_at method.program method.number pc) 0) refl so
  where
    by : (found : Option (List ℕ)) → slice_get (made_at method.program method.number pc) 0 ≡ found
        → option_and_then (lay method frame rest) (option_map Some (option_map (λ (name : List ℕ). Object (kind_number method.program.kinds name)) found)) ≡ Some after
        → IsGiven method pc frame rest after
    by None told so = never so
    by (Some name) told so = record { name = name; made = told; fits = so }

-- ---- the kind of an object

-- a name that is there, with its number
pub record IsNumbered (kinds : List (List ℕ)) (found : Option (List ℕ)) (kind : ℕ) : Type 0 where
  pub name : List ℕ
  pub there : found ≡ Some name
  pub is : number_of kinds name ≡ Some kind

numbered_by : (kinds : List (List ℕ)) (found : Option (List ℕ)) (kind : ℕ) → option_and_then (number_of kinds) found ≡ Some kind → IsNumbered kinds found kind
numbered_by kinds None kind is = never is
numbered_by kinds (Some name) kind is = record { name = name; there = refl; is = is }

-- what may be made is of a kind that is no array's
pub record IsClassKind (kinds : List (List ℕ)) (found : Option ℕ) : Type 0 where
  pub kind : ℕ
  pub there : found ≡ Some kind
  pub no_array : is_array (or_none (slice_get kinds kind)) ≡ false

abbrev is_class : List (List ℕ) → Option ℕ → Bool
is_class kinds None = false
is_class kinds (Some kind) = not (is_array (or_none (slice_get kinds kind)))

class_kind : (kinds : List (List ℕ)) (found : Option ℕ) → is_class kinds found ≡ true → IsClassKind kinds found
class_kind kinds None is = absurd (false≢true is)
class_kind kinds (Some kind) is = record { kind = kind; there = refl; no_array = by (is_array (or_none (slice_get kinds kind))) is }
  where
    by : (test : Bool) → not test ≡ true → test ≡ false
    by true so = absurd (false≢true so)
    by false so = refl

object_made : (pool : List Constant) (opcode : ℕ) (wide : Bool) (operand : Operand) (index : ℕ) → Makes opcode operand (actions.New index)
    → made_by pool (insn_of opcode wide operand) ≡ listed (class_at pool index)
object_made pool opcode wide operand index (Makes.AnObject own is) =
    ap (λ (opcode : ℕ). made_by pool (insn_of opcode wide (operands.Pool own))) (eqb-true opcode opcodes.NEW is)

-- ---- the instructions

-- how many arrays of arrays
abbrev pub count_of : Action → ℕ
count_of (actions.NewNumbers code) = 1
count_of (actions.NewReferences index) = 1
count_of (actions.NewArrays index dimensions) = dimensions
count_of other = 0

-- the kinds at each dimension have names of arrays, each of which is made of the next
pub record AreNamed (program : Linked) (method pc most : ℕ) : Type 0 where
  pub some : 0 < most
  pub each : (dimension : ℕ) → dimension < most → Nested (made_at program method pc) most dimension

module _ (machine : Machine) (state : State) (frame : MethodFrame) (below : List Frame) (insn : Insn) (whole : IsWhole machine.program)
    (is_there : insn_in (code_at machine.program frame.method) frame.pc ≡ Some insn) where
  abbrev own : IsMade machine.program frame.method frame.pc insn
  own = made_is machine.program frame.method frame.pc insn is_there

  -- what is known of the method, and of arrays that it makes: their names, and the types that stand for their sizes and for what is given
  module _ (action : Action) (stage : Stage machine state frame below insn action) where
    is_method : IsOwn machine.program frame.method stage.method own.own
    is_method = is_own machine.program frame.method stage.method own.own whole stage.within own.there

    made_same : made_at stage.method.program stage.method.number frame.pc ≡ made_at machine.program frame.method frame.pc
    made_same = λ i. made_at (stage.own i) (is_method.own_number i) frame.pc

    kind_same : (index : ℕ) → kind_named stage.method index ≡ option_and_then (number_of machine.program.kinds) (class_at own.own.pool index)
    kind_same index = kind_named_is machine.program frame.method stage.method own.own index stage.own is_method

    pub record MakesArrays : Type 0 where
      pub named : AreNamed machine.program frame.method frame.pc (count_of action)
      pub types : List VerificationType
      pub rest : List VerificationType
      pub takes : taken (replicate (count_of action) sorts.Int) stage.types.stack ≡ Some (types, rest)
      pub given : IsGiven stage.method frame.pc stage.types rest stage.after
      pub made : slice_get (made_at machine.program frame.method frame.pc) 0 ≡ Some given.name

    named_by : AreNested (made_by own.own.pool insn) (count_of action) → (types rest : List VerificationType) → taken (replicate (count_of action) sorts.Int) stage.types.stack ≡ Some (types, rest)
        → IsGiven stage.method frame.pc stage.types rest stage.after → MakesArrays
    named_by nested types rest takes given =
        let made : slice_get (made_at machine.program frame.method frame.pc) 0 ≡ Some given.name = ap (λ names. slice_get names 0) (sym made_same) ∙ given.made in
        let all : AreNested (made_at machine.program frame.method frame.pc) (count_of action) = subst (λ names. AreNested names (count_of action)) (sym own.is) nested in
        let (some, each) = all given.name made in
        record { named = record { some = some; each = each }; types = types; rest = rest; takes = takes; given = given; made = made }

  numbers_named : (code : ℕ) → action_of insn ≡ Some (actions.NewNumbers code) → (stage : Stage machine state frame below insn (actions.NewNumbers code)) → MakesArrays (actions.NewNumbers code) stage
  numbers_named code so stage =
      option_and_then_some (λ (off : List VerificationType × List VerificationType).
      option_and_then (lay stage.method stage.types off.1) (given stage.method frame.pc (actions.NewNumbers code) off.0))
      (taken (sorts.Int ∷ []) stage.types.stack) stage.after stage.leaves
      (λ off is fits. named_by (actions.NewNumbers code) stage (by insn.opcode insn.wide insn.operand (makes_of insn (actions.NewNumbers code) refl so)) off.0 off.1 is
      (is_given stage.method frame.pc stage.types off.1 stage.after fits))
    where
      by : (opcode : ℕ) (wide : Bool) (operand : Operand) → Makes opcode operand (actions.NewNumbers code) → AreNested (made_by own.own.pool (insn_of opcode wide operand)) 1
      by opcode wide operand (Makes.Numbers code) = numbers_nested own.own.pool opcode wide code

  references_named : (index : ℕ) → action_of insn ≡ Some (actions.NewReferences index) → (stage : Stage machine state frame below insn (actions.NewReferences index)) → MakesArrays (actions.NewReferences index) stage
  references_named index so stage =
      option_and_then_some (λ (off : List VerificationType × List VerificationType).
      option_and_then (lay stage.method stage.types off.1) (given stage.method frame.pc (actions.NewReferences index) off.0))
      (taken (sorts.Int ∷ []) stage.types.stack) stage.after stage.leaves
      (λ off is fits. named_by (actions.NewReferences index) stage (by insn.opcode insn.wide insn.operand (makes_of insn (actions.NewReferences index) refl so)) off.0 off.1 is
      (is_given stage.method frame.pc stage.types off.1 stage.after (without off.1 (has_dimensions stage.method index most_dimensions) fits)))
    where
      by : (opcode : ℕ) (wide : Bool) (operand : Operand) → Makes opcode operand (actions.NewReferences index) → AreNested (made_by own.own.pool (insn_of opcode wide operand)) 1
      by opcode wide operand (Makes.References index is) = references_nested own.own.pool opcode wide index is

      without : (rest : List VerificationType) (test : Bool)
          → option_and_then (lay stage.method stage.types rest) (if test then None else option_map Some (made_type stage.method frame.pc)) ≡ Some stage.after
          → option_and_then (lay stage.method stage.types rest) (option_map Some (made_type stage.method frame.pc)) ≡ Some stage.after
      without rest true fits = never fits
      without rest false fits = fits

  all_named : IsSpelled machine.program → (index dimensions : ℕ) → action_of insn ≡ Some (actions.NewArrays index dimensions) → (stage : Stage machine state frame below insn (actions.NewArrays index dimensions))
      → MakesArrays (actions.NewArrays index dimensions) stage
  all_named spelled index dimensions so stage =
      option_and_then_some (λ (off : List VerificationType × List VerificationType).
      option_and_then (lay stage.method stage.types off.1) (given stage.method frame.pc (actions.NewArrays index dimensions) off.0))
      (taken (replicate dimensions sorts.Int) stage.types.stack) stage.after stage.leaves
      (λ off is fits. with_test off.0 off.1 is (has_dimensions stage.method index dimensions) refl fits)
    where
      by : (pc : ℕ) (opcode : ℕ) (wide : Bool) (operand : Operand) (bytes : List ℕ) → dimensions ≤ dimensions_of (or_none (class_at own.own.pool index))
          → SpellsIn pc (head_form wide opcode) operand bytes → Makes opcode operand (actions.NewArrays index dimensions)
          → AreNested (made_by own.own.pool (insn_of opcode wide operand)) dimensions
      by pc opcode wide operand bytes low is (Makes.Arrays index dimensions) = arrays_nested own.own.pool pc opcode wide index dimensions bytes is low

      low_of : has_dimensions stage.method index dimensions ≡ true → dimensions ≤ dimensions_of (or_none (class_at own.own.pool index))
      low_of test =
          named_dimensions machine.program.kinds (class_at own.own.pool index) dimensions
          (sym (λ i. nat_le dimensions (dimensions_of (or_none (option_and_then (slice_get (stage.own i).kinds) (kind_same (actions.NewArrays index dimensions) stage index i))))) ∙ test)

      with_test : (types rest : List VerificationType) → taken (replicate dimensions sorts.Int) stage.types.stack ≡ Some (types, rest) → (test : Bool)
          → has_dimensions stage.method index dimensions ≡ test
          → option_and_then (lay stage.method stage.types rest) (if test then option_map Some (made_type stage.method frame.pc) else None) ≡ Some stage.after
          → MakesArrays (actions.NewArrays index dimensions) stage
      with_test types rest is false test fits = never fits
      with_test types rest is true test fits =
          let found = insn_spelled machine.program frame.method frame.pc insn spelled is_there in
          named_by (actions.NewArrays index dimensions) stage
          (by found.0 insn.opcode insn.wide insn.operand found.2.0 (low_of test) found.2.2 (makes_of insn (actions.NewArrays index dimensions) refl so)) types rest is
          (is_given stage.method frame.pc stage.types rest stage.after fits)

  pub arrays_are_named : IsSpelled machine.program → (action : Action) → action_of insn ≡ Some action → is_of_arrays action ≡ true → (stage : Stage machine state frame below insn action) → MakesArrays action stage
  arrays_are_named spelled (actions.NewNumbers code) so is stage = numbers_named code so stage
  arrays_are_named spelled (actions.NewReferences index) so is stage = references_named index so stage
  arrays_are_named spelled (actions.NewArrays index dimensions) so is stage = all_named spelled index dimensions so stage
  arrays_are_named spelled other so is stage = absurd (false≢true is)

  -- and an object
  pub record MakesObject (index : ℕ) (stage : Stage machine state frame below insn (actions.New index)) : Type 0 where
    pub fits : verified.with_stack stage.method.body.max_stack (verified.with_locals stage.types (verified.replaced (New frame.pc) Top stage.types.locals)) (New frame.pc ∷ stage.types.stack)
        ≡ Some stage.after
    pub class : IsClassKind stage.method.program.kinds (kind_named stage.method index)
    pub named : IsNumbered machine.program.kinds (class_at own.own.pool index) class.kind
    pub made : slice_get (made_at machine.program frame.method frame.pc) 0 ≡ Some named.name

  pub object_is_named : (index : ℕ) → action_of insn ≡ Some (actions.New index) → (stage : Stage machine state frame below insn (actions.New index)) → MakesObject index stage
  object_is_named index so stage =
      let action : Action = actions.New index in
      let rule : ((may_make stage.method index && not (list_any (verified.is_same (New frame.pc)) stage.types.stack)) ≡ true)
      × (verified.with_stack stage.method.body.max_stack (verified.with_locals stage.types (verified.replaced (New frame.pc) Top stage.types.locals)) (New frame.pc ∷ stage.types.stack) ≡ Some stage.after) =
      when (may_make stage.method index && not (list_any (verified.is_same (New frame.pc)) stage.types.stack))
      (verified.with_stack stage.method.body.max_stack (verified.with_locals stage.types (verified.replaced (New frame.pc) Top stage.types.locals)) (New frame.pc ∷ stage.types.stack))
      stage.after stage.leaves in
      let class : IsClassKind stage.method.program.kinds (kind_named stage.method index) = class_kind stage.method.program.kinds (kind_named stage.method index)
      (and_parts (may_make stage.method index) (not (list_any (verified.is_same (New frame.pc)) stage.types.stack)) rule.0).0 in
      let named : IsNumbered machine.program.kinds (class_at own.own.pool index) class.kind = numbered_by machine.program.kinds (class_at own.own.pool index) class.kind
      (sym (kind_same action stage index) ∙ class.there) in
      record {
        fits = rule.1;
        class = class;
        named = named;
        made = ap (λ (names : List (List ℕ)). slice_get names 0)
            (own.is ∙ object_made own.own.pool insn.opcode insn.wide insn.operand index (makes_of insn action refl so) ∙ ap listed named.there);
      }
