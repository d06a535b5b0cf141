-- newarray, anewarray and multianewarray.
use Rattle.std.proofs.Common.{◌≡◌, ◌∙◌, ap, refl, sym, subst, arith, ℤ, FitsSigned, ℕ, zero, suc, pos, ◌+◌, ◌*◌, ◌<◌, Bool, true, false, List, [], ◌∷◌, ◌++◌, map, reverse, replicate, length, Option, Some, option_and_then, option_map, if◌then◌else◌}
use Rattle.std.specs.List.{AllByRecursion, fold, list_all}
use Rattle.std.specs.Cmp.Lexicographic.{pointwise}
use Rattle.std.specs.Int.{w32}
use Rattle.std.proofs.lemmas.Grind.{reverse_onto}
use Rattle.std.proofs.lemmas.Bool.{and_parts, false≢true}
use Rattle.std.proofs.lemmas.List.{append-nil, append_assoc, length-map, length-reverse, length-replicate, map-append}
use Rattle.std.proofs.lemmas.List.Sums.{fold_push}
use Rattle.cb_insn.specs.declared.insn.Insn.{Insn}
use Rattle.cb_kinds.specs.declared.basic.Basic.TheVariants as basics
use Rattle.cb_link.specs.Having.{site_kinds}
use Rattle.cb_link.specs.Program.{Linked}
use Rattle.cb_machine.specs.Arrays.{element_of}
use Rattle.cb_machine.specs.Creating.{blank_element, makes_arrays, site_number, with_arrays}
use Rattle.cb_machine.specs.Machine.{Machine, kind_of_site, or_zero}
use Rattle.cb_machine.specs.Plans.{Alike, Placing, Plan, Rows, leaving, made}
use Rattle.cb_machine.specs.Sites.{negative_size}
use Rattle.cb_machine.specs.Standing.{Now, leaves_with}
use Rattle.cb_machine.specs.Throwing.{throws}
use Rattle.cb_plain.specs.State.{Frame, MethodFrame, Object, State}
use Rattle.cb_plain.specs.declared.value.Value.{Value}
use Rattle.cb_plain.specs.declared.value.Value.TheVariants as values
use Rattle.cb_shapes.specs.Targets.{goes_on as falls_on}
use Rattle.cb_shapes.specs.declared.action.Action.{Action}
use Rattle.cb_shapes.specs.declared.sort.Sort.{Sort}
use Rattle.cb_shapes.specs.declared.sort.Sort.TheVariants as sorts
use Rattle.cb_verify.specs.declared.verification_type.VerificationType.{VerificationType}
use Rattle.cb_verify.specs.declared.verification_type.VerificationType.TheVariants.{Object as ObjectType}
use Rattle.cb_verify.specs.Frames as verified
use Rattle.cb_verify.specs.Rules.{taken}
use Rattle.cb_verify.specs.Types.{is_of}
use Rattle.cb_safety.specs.Held.{HasType, IsStack}
use Rattle.cb_safety.specs.Kinds.{IsOfKind, Kinds, Refers, kinds_of}
use Rattle.cb_safety.specs.States.{IsTypedState}
use Rattle.cb_safety.proofs.Enlarged.{lays_more, put}
use Rattle.cb_safety.proofs.Extended.{is_stack_more}
use Rattle.cb_safety.proofs.Going.{Planned, Stage, now_at, planned_by}
use Rattle.cb_safety.proofs.Growing.{kinds_placed}
use Rattle.cb_safety.proofs.Lists.{all_both}
use Rattle.cb_safety.proofs.NewArrays.{IsArrayKind, IsShort, arrays_are, arrays_from, first_kind, level}
use Rattle.cb_safety.proofs.Sorted.{AreOf, are_of}
use Rattle.cb_safety.proofs.Taken.{taken_sorted, taken_typed}
use Rattle.cb_safety.proofs.Variables.{same_length}

-- ---- what is placed

pub record Laid (found : Option Plan) (plan : Plan) (more : List Object) : Type 0 where
  pub placed : List Placing
  pub next : ℕ
  pub is : found ≡ Some (record { placed = placed; next = next; left = plan.left })
  pub puts : (objects : List (Option Object)) → fold put objects placed ≡ fold put objects plan.placed ++ map Some more

module _ (machine : Machine) (method pc : ℕ) where
  abbrev pub site : ℕ → ℕ
  site dimension = or_zero (site_number machine.program method pc dimension)

  abbrev pub kind : ℕ → ℕ
  kind dimension = kind_of_site machine.program (site dimension)

  abbrev with_row : ℕ → ℕ → ℕ → Plan → Plan
  with_row dimension count size plan = record {
    placed = plan.placed ++ Rows (site dimension) (kind dimension) (plan.next + count) size count ∷ [];
    next = plan.next + count;
    left = plan.left;
  }

  abbrev more_at : ℕ → ℕ → ℕ → List ℕ → Plan → ℕ → Option Plan
  more_at dimension count size sizes plan own =
      with_arrays machine method pc (dimension + 1) (count * size) sizes
      (record { placed = plan.placed ++ Rows own (kind_of_site machine.program own) (plan.next + count) size count ∷ []; next = plan.next + count; left = plan.left })

  abbrev last_at : ℕ → ℕ → Plan → ℕ → Plan
  last_at count size plan own = record {
    placed = plan.placed ++ Alike own (kind_of_site machine.program own) (blank_element machine.program (kind_of_site machine.program own)) size count ∷ [];
    next = plan.next + count;
    left = plan.left;
  }

  pub laid : (most dimension count : ℕ) (sizes : List ℕ) (plan : Plan)
      → ((own : ℕ) → own < most → site_number machine.program method pc own ≡ Some (site own)) → dimension + length sizes ≡ most
      → Laid (with_arrays machine method pc dimension count sizes plan) plan (arrays_from machine.program site kind dimension count plan.next sizes)
  laid most dimension count [] plan sited all =
      record { placed = plan.placed; next = plan.next; is = refl; puts = λ objects. sym (append-nil (fold put objects plan.placed)) }
  laid most dimension count (size ∷ []) plan sited all = record {
    placed = plan.placed ++ Alike (site dimension) (kind dimension) (blank_element machine.program (kind dimension)) size count ∷ [];
    next = plan.next + count;
    is = ap (option_map (last_at count size plan)) (sited dimension (omega (arith, all)));
    puts = λ objects.
        fold_push put objects plan.placed (Alike (site dimension) (kind dimension) (blank_element machine.program (kind dimension)) size count)
        ∙ ap (λ (more : List Object). fold put objects plan.placed ++ map Some more) (sym (append-nil (level machine.program site kind dimension count plan.next size [])));
  }
  laid most dimension count (size ∷ other ∷ sizes) plan sited all =
      let own = laid most (dimension + 1) (count * size) (other ∷ sizes) (with_row dimension count size plan) sited (omega (arith, all)) in
      let front = level machine.program site kind dimension count plan.next size (other ∷ sizes) in
      let rest = arrays_from machine.program site kind (dimension + 1) (count * size) (plan.next + count) (other ∷ sizes) in
      record {
        placed = own.placed;
        next = own.next;
        is = ap (option_and_then (more_at dimension count size (other ∷ sizes) plan)) (sited dimension (omega (arith, all))) ∙ own.is;
        puts = λ objects.
            own.puts objects
            ∙ ap (λ (some : List (Option Object)). some ++ map Some rest)
            (fold_push put objects plan.placed (Rows (site dimension) (kind dimension) (plan.next + count) size count))
            ∙ append_assoc (fold put objects plan.placed) (map Some front) (map Some rest)
            ∙ ap (λ (more : List (Option Object)). fold put objects plan.placed ++ more) (sym (map-append Some front rest));
      }

-- ---- as many sizes as dimensions

taken_length : (asked : List Sort) (types held rest : List VerificationType) → taken asked types ≡ Some (held, rest) → length held ≡ length asked
taken_length asked types held rest is = same asked held (taken_sorted asked types held rest is)
  where
    same : (asked : List Sort) (held : List VerificationType) → pointwise is_of asked held ≡ true → length held ≡ length asked
    same [] [] is = refl
    same (sort ∷ asked) (type ∷ held) is = ap suc (same asked held (and_parts (is_of sort type) (pointwise is_of asked held) is).1)
    same asked held is = absurd (false≢true is)

abbrev is_size : Value → Bool
is_size (values.Int (pos size)) = true
is_size other = false

abbrev size_in : Value → ℕ
size_in (values.Int (pos size)) = size
size_in other = 0

sizes_short : (count : ℕ) (held : List Value) → AreOf (replicate count sorts.Int) held → AllByRecursion IsShort (map size_in held)
sizes_short zero held AreOf.NoneAre = tt
sizes_short (suc count) held (AreOf.AnInt number fits asked more are) = (short number fits, sizes_short count more are)
  where
    short : (number : ℤ) → FitsSigned w32 number → IsShort (size_in (values.Int number))
    short (pos size) fits = let low = fits.sfits in omega (arith, low)
    short other fits = omega arith

all_reversed : {Item : Type 0} (P : Item → Type 0) (items : List Item) → AllByRecursion P items → AllByRecursion P (reverse items)
all_reversed P [] all = tt
all_reversed P (item ∷ items) all =
    subst (AllByRecursion P) (sym (reverse_onto items item [])) (all_both P (reverse items) (item ∷ []) (all_reversed P items all.1) (all.0, tt))

-- ---- what the kinds of the arrays are

pub record AreArrays (program : Linked) (method pc most : ℕ) (site kind : ℕ → ℕ) : Type 0 where
  pub some : 0 < most
  pub sited : (own : ℕ) → own < most → site_number program method pc own ≡ Some (site own)
  pub low : (own : ℕ) → own < most → site own < length (site_kinds program)
  pub arrays : (own : ℕ) → own < most → IsArrayKind program (kind own)
  pub nested : (own : ℕ) → own + 1 < most → element_of program (kind own) ≡ Some (basics.Reference (kind (own + 1)))

-- ---- the instruction

module _ (machine : Machine) (state : State) (frame : MethodFrame) (below : List Frame) (insn : Insn) (action : Action)
    (stage : Stage machine state frame below insn action) (throws_size : IsTypedState machine.program (made (throws machine state negative_size)))
    (falling : falls_on action ≡ true) (most : ℕ)
    (are : AreArrays machine.program frame.method frame.pc most (site machine frame.method frame.pc) (kind machine frame.method frame.pc)) where
  abbrev here : Now
  here = now_at machine state frame below

  abbrev own_site : ℕ → ℕ
  own_site dimension = site machine frame.method frame.pc dimension

  abbrev own_kind : ℕ → ℕ
  own_kind dimension = kind machine frame.method frame.pc dimension

  abbrev sized : List ℕ → List Value → Option Plan
  sized sizes rest =
      option_and_then (leaves_with here (values.Ref (length state.objects + 1) ∷ rest)) (with_arrays machine frame.method frame.pc 0 1 sizes (leaving state))

  abbrev taken_plan : List Value × List Value → Option Plan
  taken_plan off = if list_all is_size off.0 then sized (reverse (map size_in off.0)) off.1 else Some (throws machine state negative_size)

  first_array : (size : ℕ) (sizes : List ℕ)
      → IsOfKind machine.program (kinds_of state.objects ++ kinds_placed (arrays_from machine.program own_site own_kind 0 1 (length state.objects + 1) (size ∷ sizes))) (own_kind 0) (length state.objects + 1)
  first_array size sizes = record {
    own = own_kind 0;
    there = first_kind machine.program own_site own_kind state.objects 0 1 (length state.objects + 1) size sizes (length state.objects + 1) 0 (omega arith) (omega arith);
    goes = (are.arrays 0 are.some).own;
  }

  sized_typed : (types : List VerificationType) (rest : List Value) (sizes : List ℕ) → length sizes ≡ most → AllByRecursion IsShort sizes
      → verified.with_stack stage.method.body.max_stack stage.types (ObjectType (own_kind 0) ∷ types) ≡ Some stage.after
      → IsStack stage.method (kinds_of state.objects) types rest → Planned machine.program (sized sizes rest)
  sized_typed types rest [] all few fits is = absurd (let some = are.some in omega (arith, some, all))
  sized_typed types rest (size ∷ sizes) all few fits is =
      planned_by machine.program (sized (size ∷ sizes) rest)
      (leaves_with here (values.Ref (length state.objects + 1) ∷ rest) (record { placed = own.placed; next = own.next; left = state }))
      (ap (option_and_then (leaves_with here (values.Ref (length state.objects + 1) ∷ rest))) own.is)
      (lays_more machine state frame below insn action stage state.roots stage.typed.roots stage.runs own.placed own.next more (own.puts state.objects)
      (arrays_are machine.program own_site own_kind most are.low are.arrays are.nested state.objects 0 1 (length state.objects + 1) (size ∷ sizes) refl
      (omega (arith, all)) few)
      falling (ObjectType (own_kind 0) ∷ types) (values.Ref (length state.objects + 1) ∷ rest) fits
      (IsStack.Upon (ObjectType (own_kind 0)) (values.Ref (length state.objects + 1)) types rest
      (HasType.AReference (own_kind 0) (length state.objects + 1) (Refers.To (length state.objects + 1)
      (subst (λ (program : Linked). IsOfKind program grown (own_kind 0) (length state.objects + 1)) (sym stage.own) (first_array size sizes)))) refl
      (is_stack_more stage.method (kinds_of state.objects) (kinds_placed more) types rest is)))
    where
      more : List Object
      more = arrays_from machine.program own_site own_kind 0 1 (length state.objects + 1) (size ∷ sizes)

      grown : Kinds
      grown = kinds_of state.objects ++ kinds_placed more

      own : Laid (with_arrays machine frame.method frame.pc 0 1 (size ∷ sizes) (leaving state)) (leaving state) more
      own = laid machine frame.method frame.pc most 0 1 (size ∷ sizes) (leaving state) are.sited (omega (arith, all))

  taken_planned : (types held : List VerificationType) (own rest : List Value) → length own ≡ most → AreOf (replicate most sorts.Int) own
      → verified.with_stack stage.method.body.max_stack stage.types (ObjectType (own_kind 0) ∷ types) ≡ Some stage.after
      → IsStack stage.method (kinds_of state.objects) types rest → Planned machine.program (taken_plan (own, rest))
  taken_planned types held own rest all ints fits is = by (list_all is_size own)
    where
      by : (test : Bool) → Planned machine.program (if test then sized (reverse (map size_in own)) rest else Some (throws machine state negative_size))
      by true = sized_typed types rest (reverse (map size_in own)) (length-reverse (map size_in own) ∙ length-map own size_in ∙ all)
          (all_reversed IsShort (map size_in own) (sizes_short most own ints)) fits is
      by false = record { plan = throws machine state negative_size; is = refl; typed = throws_size }

  -- what is taken by the rule is laid aside
  pub arrays_made : (types rest : List VerificationType) → taken (replicate most sorts.Int) stage.types.stack ≡ Some (types, rest)
      → verified.with_stack stage.method.body.max_stack stage.types (ObjectType (own_kind 0) ∷ rest) ≡ Some stage.after
      → Planned machine.program (makes_arrays here most)
  arrays_made types rest so fits =
      let own = taken_typed stage.method (kinds_of state.objects) (replicate most sorts.Int) stage.types.stack frame.stack types rest stage.stack so in
      planned_by machine.program (makes_arrays here most) (taken_plan (own.values, own.left)) (ap (option_and_then taken_plan) own.taken)
      (taken_planned rest types own.values own.left
      (sym (same_length stage.method (kinds_of state.objects) types own.values own.held) ∙ taken_length (replicate most sorts.Int) stage.types.stack types rest so ∙ length-replicate most sorts.Int)
      (are_of stage.method (kinds_of state.objects) (replicate most sorts.Int) types own.values own.held (taken_sorted (replicate most sorts.Int) stage.types.stack types rest so)) fits own.below)
