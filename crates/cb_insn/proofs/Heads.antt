-- The opcode at the front of an instruction.
use Rattle.std.proofs.Common.{◌≡◌, ℕ, suc, ◌+◌, ◌≤◌, pos, Bool, true, false, List, [], ◌∷◌, ◌++◌, length, take, map, nat_lt, nat_eq, cond, Option, Some, None, refl, sym, ◌∙◌, ap, subst, arith, length-append, append_assoc}
use Rattle.std.specs.List.{AllByRecursion}
use Rattle.std.proofs.Math.Seq.{take-append-add}
use Rattle.std.proofs.lemmas.Bool.Decides.{nat_tests}
use Rattle.cb_insn.specs.declared.form.Form.{Form}
use Rattle.cb_insn.specs.declared.form.Form.TheVariants as forms
use Rattle.cb_insn.specs.declared.insn.Insn.{Insn}
use Rattle.cb_insn.specs.declared.opcode.TheConstants.{WIDE}
use Rattle.cb_insn.specs.Forms.{form_of, wide_form_of, widened, head_bytes, head_form}
use Rattle.cb_insn.specs.Grammar.{SpellsIn, SpellsInsn, SpellsOperand, targets_of}
use Rattle.cb_insn.specs.Faults.{Whole, Faulty, IsCut, IsBadOperand, standing_at, standing_in, standing_plain, standing_wide, standing_behind_wide, operand_length, is_bad, form_offsets, operand_offsets, targets_at, targets_in}
use Rattle.cb_insn.specs.Inner.{HasHead, IsPlain, IsRead, plain_insn, operand_of, operand_targets}
use Rattle.cb_insn.proofs.NumberBytes.{IsBytes}
use Rattle.cb_insn.proofs.Spelling.{IsWithin}
use Rattle.cb_insn.proofs.Fronts.{fronts}
use Rattle.cb_insn.proofs.Backs.{backs}
use Rattle.cb_insn.proofs.Walking.{whole_in, whole_same}

same_number : (m n : ℕ) → nat_eq m n ≡ true → m ≡ n
same_number m n is = grind (arith, nat_tests)

-- an instruction is whole by its opcode and its form
pub record Headed (pc : ℕ) (bytes : List ℕ) (size : ℕ) : Type 0 where
  pub wide : Bool
  pub opcode : ℕ
  pub form : Form
  pub behind : List ℕ
  pub head : HasHead wide opcode form behind bytes
  pub sized : length (head_bytes wide opcode) + operand_length pc form behind ≡ size
  pub there : operand_length pc form behind ≤ length behind
  pub good : is_bad pc form behind ≡ false

pub headed : (pc : ℕ) (bytes : List ℕ) (size : ℕ) → standing_at pc bytes ≡ Whole size → Headed pc bytes size
headed pc [] size is = cc
headed pc (opcode ∷ behind) size is = by_wide (nat_eq opcode WIDE) refl behind is where
  plain : (behind : List ℕ) (form : Option Form) → form_of opcode ≡ form → standing_plain pc form behind ≡ Whole size → Headed pc (opcode ∷ behind) size
  plain behind None has is = cc
  plain behind (Some form) has is = let whole = whole_in 1 pc form behind size is in record {
    wide = false;
    opcode = opcode;
    form = form;
    behind = behind;
    head = (refl, has);
    sized = whole.0;
    there = whole.1;
    good = whole.2;
  }

  wide_head : opcode ≡ WIDE → (next : ℕ) (behind : List ℕ) (form : Option Form) → wide_form_of next ≡ form → standing_wide pc form behind ≡ Whole size → Headed pc (opcode ∷ next ∷ behind) size
  wide_head is_wide next behind None has is = cc
  wide_head is_wide next behind (Some form) has is = let whole = whole_in 2 pc form behind size is in record {
    wide = true;
    opcode = next;
    form = form;
    behind = behind;
    head = (ap (λ b. b ∷ next ∷ behind) is_wide, has);
    sized = whole.0;
    there = whole.1;
    good = whole.2;
  }

  behind_wide : opcode ≡ WIDE → (behind : List ℕ) → standing_behind_wide pc behind ≡ Whole size → Headed pc (opcode ∷ behind) size
  behind_wide is_wide [] is = cc
  behind_wide is_wide (next ∷ behind) is = wide_head is_wide next behind (wide_form_of next) refl is

  by_wide : (is_wide : Bool) → nat_eq opcode WIDE ≡ is_wide → (bytes : List ℕ) → cond is_wide (standing_behind_wide pc bytes) (standing_plain pc (form_of opcode) bytes) ≡ Whole size → Headed pc (opcode ∷ bytes) size
  by_wide true tested bytes is = behind_wide (same_number opcode WIDE tested) bytes is
  by_wide false tested bytes is = plain bytes (form_of opcode) refl is

-- `wide` has no form of its own
not_wide : (opcode : ℕ) (form : Form) → form_of opcode ≡ Some form → nat_eq opcode WIDE ≡ false
not_wide opcode form has = by_test (nat_eq opcode WIDE) refl where
  by_test : (tested : Bool) → nat_eq opcode WIDE ≡ tested → tested ≡ false
  by_test false is = refl
  by_test true is = let none : None ≡ Some form = ap form_of (sym (same_number opcode WIDE is)) ∙ has in cc

whole_of : (before pc : ℕ) (form : Form) (behind : List ℕ) → operand_length pc form behind ≤ length behind → is_bad pc form behind ≡ false → standing_in before pc form behind ≡ Whole (before + operand_length pc form behind)
whole_of before pc form behind there good =
    let enough : nat_lt (length behind) (operand_length pc form behind) ≡ false = not_less (length behind) (operand_length pc form behind) there in
    ap (λ test. cond test (Faulty IsCut) (cond (is_bad pc form behind) (Faulty IsBadOperand) (Whole (before + operand_length pc form behind)))) enough
    ∙ ap (λ test. cond test (Faulty IsBadOperand) (Whole (before + operand_length pc form behind))) good
  where
    not_less : (m n : ℕ) → n ≤ m → nat_lt m n ≡ false
    not_less m n order = grind (arith, nat_tests)

pub head_reads : (pc : ℕ) (wide : Bool) (opcode : ℕ) (form : Form) (behind bytes : List ℕ) → HasHead wide opcode form behind bytes → operand_length pc form behind ≤ length behind → is_bad pc form behind ≡ false → standing_at pc bytes ≡ Whole (length (head_bytes wide opcode) + operand_length pc form behind)
head_reads pc false opcode form behind bytes (is, has) there good =
    ap (standing_at pc) is ∙ ap (λ test. cond test (standing_behind_wide pc behind) (standing_plain pc (form_of opcode) behind)) (not_wide opcode form has) ∙ ap (λ f. standing_plain pc f behind) has ∙ whole_of 1 pc form behind there good
head_reads pc true opcode form behind bytes (is, has) there good =
    ap (standing_at pc) is ∙ ap (λ f. standing_wide pc f behind) has ∙ whole_of 2 pc form behind there good

-- `wide` stands before no branch
no_wide_offset : (pc opcode : ℕ) (form : Form) (behind : List ℕ) → wide_form_of opcode ≡ Some form → operand_offsets pc form behind ≡ []
no_wide_offset pc opcode form behind has = by_form (form_of opcode) has where
  local : Some forms.WideLocal ≡ Some form → operand_offsets pc form behind ≡ []
  local is = let same : forms.WideLocal ≡ form = cc in ap (λ f. operand_offsets pc f behind) (sym same)

  increase : Some forms.WideIncrease ≡ Some form → operand_offsets pc form behind ≡ []
  increase is = let same : forms.WideIncrease ≡ form = cc in ap (λ f. operand_offsets pc f behind) (sym same)

  by_plain : (plain : Form) → widened plain ≡ Some form → operand_offsets pc form behind ≡ []
  by_plain forms.Local has = local has
  by_plain forms.Increase has = increase has
  by_plain other has = cc

  by_form : (plain : Option Form) → (elim plain as (λ _. Option Form) [ Some f ↦ widened f | None ↦ None ]) ≡ Some form → operand_offsets pc form behind ≡ []
  by_form None has = cc
  by_form (Some plain) has = by_plain plain has

pub head_targets : (pc : ℕ) (wide : Bool) (opcode : ℕ) (form : Form) (behind bytes : List ℕ) → HasHead wide opcode form behind bytes → targets_at pc bytes ≡ operand_targets pc form behind
head_targets pc false opcode form behind bytes (is, has) = ap (targets_at pc) is ∙ ap (λ f. targets_in pc (form_offsets pc f behind)) has
head_targets pc true opcode form behind bytes (is, has) = ap (targets_at pc) is ∙ ap (targets_in pc) (sym (no_wide_offset pc opcode form behind has))

-- there is one at most
pub head_same : (wide other_wide : Bool) (opcode other : ℕ) (form other_form : Form) (behind rest bytes : List ℕ) → HasHead wide opcode form behind bytes → HasHead other_wide other other_form rest bytes → (wide ≡ other_wide) × (opcode ≡ other) × (form ≡ other_form) × (behind ≡ rest)
head_same false false opcode other form other_form behind rest bytes (is, has) (is_too, has_too) =
    let same : opcode ∷ behind ≡ other ∷ rest = sym is ∙ is_too in
    let same_opcode : opcode ≡ other = cc in
    let same_form : Some form ≡ Some other_form = sym has ∙ ap form_of same_opcode ∙ has_too in
    (refl, same_opcode, cc, cc)
head_same true true opcode other form other_form behind rest bytes (is, has) (is_too, has_too) =
    let same : WIDE ∷ opcode ∷ behind ≡ WIDE ∷ other ∷ rest = sym is ∙ is_too in
    let same_opcode : opcode ≡ other = cc in
    let same_form : Some form ≡ Some other_form = sym has ∙ ap wide_form_of same_opcode ∙ has_too in
    (refl, same_opcode, cc, cc)
head_same false true opcode other form other_form behind rest bytes (is, has) (is_too, has_too) =
    let same : opcode ∷ behind ≡ WIDE ∷ other ∷ rest = sym is ∙ is_too in
    let is_wide : opcode ≡ WIDE = cc in
    let none : None ≡ Some form = ap form_of (sym is_wide) ∙ has in
    cc
head_same true false opcode other form other_form behind rest bytes (is, has) (is_too, has_too) =
    let same : WIDE ∷ opcode ∷ behind ≡ other ∷ rest = sym is ∙ is_too in
    let is_wide : WIDE ≡ other = cc in
    let none : None ≡ Some other_form = ap form_of is_wide ∙ has_too in
    cc

insn_same : (one other : Insn) → one.wide ≡ other.wide → one.opcode ≡ other.opcode → one.operand ≡ other.operand → one ≡ other
insn_same one other wide opcode operand =
    ap (λ w. record { opcode = one.opcode; wide = w; operand = one.operand }) wide
    ∙ ap (λ o. record { opcode = o; wide = other.wide; operand = one.operand }) opcode
    ∙ ap (λ o. record { opcode = other.opcode; wide = other.wide; operand = o }) operand

pub read_same : (pc : ℕ) (one other : Insn) (bytes : List ℕ) → IsRead pc one bytes → IsRead pc other bytes → one ≡ other
read_same pc one other bytes read read_too =
    let same = head_same one.wide other.wide one.opcode other.opcode read.form read_too.form read.behind read_too.behind bytes read.head read_too.head in
    insn_same one other same.0 same.1 (read.operand ∙ ap (λ f. operand_of pc f read.behind) same.2 ∙ ap (operand_of pc read_too.form) same.3 ∙ sym read_too.operand)

-- what is spelled at the front is read
pub record FrontReads (pc : ℕ) (insn : Insn) (size : ℕ) (bytes : List ℕ) : Type 0 where
  pub read : IsRead pc insn bytes
  pub whole : standing_at pc bytes ≡ Whole size
  pub targets : targets_at pc bytes ≡ map pos (targets_of insn.operand)

pub spelled_reads : (pc : ℕ) (insn : Insn) (first rest : List ℕ) → SpellsInsn pc insn first → FrontReads pc insn (length first) (first ++ rest)
spelled_reads pc insn first rest (behind, is, spells) = by_form (head_form insn.wide insn.opcode) refl spells where
  by_form : (form : Option Form) → head_form insn.wide insn.opcode ≡ form → SpellsIn pc form insn.operand behind → FrontReads pc insn (length first) (first ++ rest)
  by_form None has spells = absurd spells
  by_form (Some form) has spells =
      let before = head_bytes insn.wide insn.opcode in
      let head : HasHead insn.wide insn.opcode form (behind ++ rest) (first ++ rest) = (ap (λ b. b ++ rest) is ∙ append_assoc before behind rest, has) in
      let parts = fronts pc form insn.operand behind rest spells in record {
        read = record { form = form; behind = behind ++ rest; head = head; operand = sym parts.same };
        whole = head_reads pc insn.wide insn.opcode form (behind ++ rest) (first ++ rest) head (omega (arith, parts.size, length-append behind rest)) parts.good ∙ ap Whole (ap (λ n. length before + n) parts.size ∙ sym (ap length is ∙ length-append before behind));
        targets = head_targets pc insn.wide insn.opcode form (behind ++ rest) (first ++ rest) head ∙ parts.targets;
      }

behind_bytes : (wide : Bool) (opcode : ℕ) (form : Form) (behind bytes : List ℕ) → HasHead wide opcode form behind bytes → IsBytes bytes → IsBytes behind
behind_bytes false opcode form behind bytes (is, has) are = λ i. subst IsBytes is are (suc i)
behind_bytes true opcode form behind bytes (is, has) are = λ i. subst IsBytes is are (suc (suc i))

-- a whole instruction is so by its head
pub head_whole : (pc : ℕ) (wide : Bool) (opcode : ℕ) (form : Form) (behind bytes : List ℕ) (size : ℕ) → standing_at pc bytes ≡ Whole size → HasHead wide opcode form behind bytes → (operand_length pc form behind ≤ length behind) × (is_bad pc form behind ≡ false) × (standing_at pc bytes ≡ Whole (length (head_bytes wide opcode) + operand_length pc form behind))
head_whole pc wide opcode form behind bytes size whole head =
    let parts = headed pc bytes size whole in
    let same = head_same parts.wide wide parts.opcode opcode parts.form form parts.behind behind bytes parts.head head in
    let there : operand_length pc form behind ≤ length behind = subst (λ b. operand_length pc form b ≤ length b) same.3 (subst (λ f. operand_length pc f parts.behind ≤ length parts.behind) same.2 parts.there) in
    let good : is_bad pc form behind ≡ false = subst (λ b. is_bad pc form b ≡ false) same.3 (subst (λ f. is_bad pc f parts.behind ≡ false) same.2 parts.good) in
    (there, good, head_reads pc wide opcode form behind bytes head there good)

-- and what is read is spelled at the front
pub reads_spelled : (pc : ℕ) (insn : Insn) (bytes : List ℕ) (size : ℕ) → IsRead pc insn bytes → standing_at pc bytes ≡ Whole size → IsBytes bytes → AllByRecursion IsWithin (targets_at pc bytes) → SpellsInsn pc insn (take size bytes)
reads_spelled pc insn bytes size read whole are within =
    let parts = head_whole pc insn.wide insn.opcode read.form read.behind bytes size whole read.head in
    let sized : length (head_bytes insn.wide insn.opcode) + operand_length pc read.form read.behind ≡ size = whole_same _ _ _ parts.2 whole in
    let spelled = backs pc read.form read.behind (behind_bytes insn.wide insn.opcode read.form read.behind bytes read.head are) parts.0 parts.1 (subst (AllByRecursion IsWithin) (head_targets pc insn.wide insn.opcode read.form read.behind bytes read.head) within) in
    let before = head_bytes insn.wide insn.opcode in
    let size_behind = operand_length pc read.form read.behind in
    subst (λ n. SpellsInsn pc insn (take n bytes)) sized (
      take size_behind read.behind,
      ap (take (length before + size_behind)) read.head.0 ∙ take-append-add before read.behind size_behind,
      subst (λ f. SpellsIn pc f insn.operand (take size_behind read.behind)) (sym read.head.1) (subst (λ o. SpellsOperand pc read.form o (take size_behind read.behind)) (sym read.operand) spelled),
    )

-- no head stands where the opcode behind `wide` has no form there
pub no_wide_head : (bytes : List ℕ) (next : ℕ) (rest : List ℕ) → bytes ≡ WIDE ∷ next ∷ rest → wide_form_of next ≡ None → (wide : Bool) (opcode : ℕ) (form : Form) (behind : List ℕ) → HasHead wide opcode form behind bytes → ⊥
no_wide_head bytes next rest is_wide none false opcode form behind (is, has) =
    let same : opcode ∷ behind ≡ WIDE ∷ next ∷ rest = sym is ∙ is_wide in
    let same_opcode : opcode ≡ WIDE = cc in
    let both : None ≡ Some form = ap form_of (sym same_opcode) ∙ has in
    cc
no_wide_head bytes next rest is_wide none true opcode form behind (is, has) =
    let same : WIDE ∷ opcode ∷ behind ≡ WIDE ∷ next ∷ rest = sym is ∙ is_wide in
    let same_opcode : next ≡ opcode = cc in
    let both : None ≡ Some form = sym none ∙ ap wide_form_of same_opcode ∙ has in
    cc

-- what an opcode of a plain form reads
pub plain_read : (pc opcode : ℕ) (bytes : List ℕ) → IsPlain opcode bytes → IsRead pc (plain_insn opcode) bytes
plain_read pc opcode bytes plain = record { form = forms.Plain; behind = plain.behind; head = plain.head; operand = refl }

pub plain_whole : (pc opcode : ℕ) (bytes : List ℕ) → IsPlain opcode bytes → standing_at pc bytes ≡ Whole 1
plain_whole pc opcode bytes plain = head_reads pc false opcode forms.Plain plain.behind bytes plain.head (omega arith) refl

pub plain_targets : (pc opcode : ℕ) (bytes : List ℕ) → IsPlain opcode bytes → [] ≡ targets_at pc bytes
plain_targets pc opcode bytes plain = sym (head_targets pc false opcode forms.Plain plain.behind bytes plain.head)
