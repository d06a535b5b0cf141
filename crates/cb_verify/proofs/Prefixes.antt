-- The top of a stack, looked at place by place.
use Rattle.std.proofs.Common.{◌≡◌, refl, ap, sym, ◌∙◌, arith, ℕ, zero, suc, ◌+◌, ◌≤◌, nat_lt, Bool, true, false, List, [], ◌∷◌, ◌++◌, length, take, drop, map, replicate, Option, Some, None, option_and_then, option_map, ◌&&◌, if◌then◌else◌}
use Rattle.std.proofs.lemmas.Bool.Decides.{nat_tests}
use Rattle.std.specs.List.{slice_get}
use Rattle.cb_kinds.specs.declared.basic.Basic.{Basic}
use Rattle.cb_link.specs.Program.{Linked}
use Rattle.cb_shapes.specs.declared.sort.Sort.{Sort}
use Rattle.cb_verify.specs.declared.verification_type.VerificationType.{VerificationType}
use Rattle.cb_verify.specs.declared.verification_type.VerificationType.TheVariants.{Top, Int, Long, Null, This, Object, New}
use Rattle.cb_verify.specs.Calls.{popped, without_this}
use Rattle.cb_verify.specs.Frames.{is_same}
use Rattle.cb_verify.specs.InnerPrefixes.{begins_as, is_wanted}
use Rattle.cb_verify.specs.Rules.{taken}
use Rattle.cb_verify.specs.Types.{goes_to, is_of, type_of}
use Rattle.cb_verify.proofs.Dropped.{drop_end, drop_next}

module _ {A B : Type 0} (test : A → B → Bool) where
  behind_one : (asked : List A) (stack : List B) (i : ℕ) (wanted : A) (item : B) → slice_get asked i ≡ Some wanted → slice_get stack i ≡ Some item
      → begins_as test (drop i asked) (drop i stack) ≡ (test wanted item && begins_as test (drop (suc i) asked) (drop (suc i) stack))
  behind_one [] stack i wanted item ask have = absurd (cc ask)
  behind_one (a ∷ asked) [] i wanted item ask have = absurd (cc have)
  behind_one (a ∷ asked) (b ∷ stack) zero wanted item ask have = cc (ask, have)
  behind_one (a ∷ asked) (b ∷ stack) (suc i) wanted item ask have = behind_one asked stack i wanted item ask have

  pub one_more : (asked : List A) (stack : List B) (i : ℕ) (wanted : A) (item : B) (here : Bool) → slice_get asked i ≡ Some wanted → slice_get stack i ≡ Some item
      → here ≡ test wanted item
      → begins_as test (drop i asked) (drop i stack) ≡ (here && begins_as test (drop (i + 1) asked) (drop (i + 1) stack))
  one_more asked stack i wanted item here ask have is =
      behind_one asked stack i wanted item ask have
      ∙ ap (λ next. test wanted item && begins_as test (drop next asked) (drop next stack)) (let next : suc i ≡ i + 1 = omega arith in next)
      ∙ ap (λ own. own && begins_as test (drop (i + 1) asked) (drop (i + 1) stack)) (sym is)

  none_there : (asked : List A) (i : ℕ) (wanted : A) → slice_get asked i ≡ Some wanted → begins_as test (drop i asked) [] ≡ false
  none_there [] i wanted ask = absurd (cc ask)
  none_there (a ∷ asked) zero wanted ask = refl
  none_there (a ∷ asked) (suc i) wanted ask = none_there asked i wanted ask

  pub no_more : (asked : List A) (stack : List B) (i : ℕ) (wanted : A) → slice_get asked i ≡ Some wanted → length stack ≤ i
      → begins_as test (drop i asked) (drop i stack) ≡ false
  no_more [] stack i wanted ask short = absurd (cc ask)
  no_more (a ∷ asked) [] zero wanted ask short = refl
  no_more (a ∷ asked) [] (suc i) wanted ask short = none_there asked i wanted ask
  no_more (a ∷ asked) (b ∷ stack) zero wanted ask short = absurd (omega (arith, short))
  no_more (a ∷ asked) (b ∷ stack) (suc i) wanted ask short = no_more asked stack i wanted ask (omega (arith, short))

  -- no value is at a place past the top
  pub not_one_more : (asked : List A) (stack : List B) (i : ℕ) (wanted : A) → slice_get asked i ≡ Some wanted → length stack ≤ i
      → begins_as test (drop i asked) (drop i stack) ≡ (nat_lt i (length stack) && begins_as test (drop (i + 1) asked) (drop (i + 1) stack))
  not_one_more asked stack i wanted ask short =
      no_more asked stack i wanted ask short ∙ ap (λ own. own && begins_as test (drop (i + 1) asked) (drop (i + 1) stack)) (sym (beyond i (length stack) short)) where
        beyond : (i n : ℕ) → n ≤ i → nat_lt i n ≡ false
        beyond i n short = grind (arith, nat_tests)

  pub all_done : (asked : List A) (stack : List B) (i : ℕ) → length asked ≤ i → begins_as test (drop i asked) stack ≡ true
  all_done [] stack zero done = refl
  all_done [] stack (suc i) done = refl
  all_done (a ∷ asked) stack zero done = absurd (omega (arith, done))
  all_done (a ∷ asked) stack (suc i) done = all_done asked stack i (omega (arith, done))

-- so many are there
pub has_enough : {A B : Type 0} (test : A → B → Bool) (asked : List A) (stack : List B) → begins_as test asked stack ≡ true → length asked ≤ length stack
has_enough test [] stack is = omega arith
has_enough test (a ∷ asked) [] is = absurd (cc is)
has_enough test (a ∷ asked) (b ∷ stack) is = by (test a b) (has_enough test asked stack) is where
  by : (here : Bool) → (begins_as test asked stack ≡ true → length asked ≤ length stack) → (here && begins_as test asked stack) ≡ true
      → length (a ∷ asked) ≤ length (b ∷ stack)
  by true more is = omega (arith, more is)
  by false more is = absurd (cc is)

-- taking off by sorts, and by types, is looking at the top and leaving the rest
taken_more : (type : VerificationType) (count : ℕ) (stack : List VerificationType) (here begins : Bool)
    (rest : Option (List VerificationType × List VerificationType)) → rest ≡ (if begins then Some (take count stack, drop count stack) else None)
    → (if here then option_map {U = List VerificationType × List VerificationType} (λ more. (type ∷ more.0, more.1)) rest else None)
    ≡ (if here && begins then Some (take (suc count) (type ∷ stack), drop (suc count) (type ∷ stack)) else None)
taken_more type count stack false begins rest is = refl
taken_more type count stack true true rest is = ap (λ off. option_map {U = List VerificationType × List VerificationType} (λ more. (type ∷ more.0, more.1)) off) is
taken_more type count stack true false rest is = ap (λ off. option_map {U = List VerificationType × List VerificationType} (λ more. (type ∷ more.0, more.1)) off) is

pub taken_by : (sorts : List Sort) (stack : List VerificationType)
    → taken sorts stack ≡ (if begins_as is_of sorts stack then Some (take (length sorts) stack, drop (length sorts) stack) else None)
taken_by [] stack = refl
taken_by (sort ∷ sorts) [] = refl
taken_by (sort ∷ sorts) (type ∷ stack) =
    taken_more type (length sorts) stack (is_of sort type) (begins_as is_of sorts stack) (taken sorts stack) (taken_by sorts stack)

popped_more : {Item : Type 0} (here begins : Bool) (rest : Option Item) (left : Item) → rest ≡ (if begins then Some left else None)
    → (if here then rest else None) ≡ (if here && begins then Some left else None)
popped_more false begins rest left is = refl
popped_more true begins rest left is = is

pub popped_by : (program : Linked) (basics : List Basic) (stack : List VerificationType)
    → popped program (map type_of basics) stack ≡ (if begins_as (is_wanted program) basics stack then Some (drop (length basics) stack) else None)
popped_by program [] stack = refl
popped_by program (basic ∷ basics) [] = refl
popped_by program (basic ∷ basics) (type ∷ stack) =
    popped_more (goes_to program type (type_of basic)) (begins_as (is_wanted program) basics stack) (popped program (map type_of basics) stack)
    (drop (length basics) stack) (popped_by program basics stack)

append_more : {Item Left : Type 0} (here : Bool) (whole : Option Left) (some : Option Item) (next : Item → Option Left)
    → whole ≡ option_and_then next some → (if here then whole else None) ≡ option_and_then next (if here then some else None)
append_more true whole some next is = is
append_more false whole some next is = refl

pub popped_append : (program : Linked) (some others stack : List VerificationType)
    → popped program (some ++ others) stack ≡ option_and_then (popped program others) (popped program some stack)
popped_append program [] others stack = refl
popped_append program (wanted ∷ some) others [] = refl
popped_append program (wanted ∷ some) others (type ∷ stack) =
    append_more (goes_to program type wanted) (popped program (some ++ others) stack) (popped program some stack) (popped program others)
    (popped_append program some others stack)

-- some of one item over and over
pub take_filled : {X : Type 0} (few many : ℕ) (item : X) → few ≤ many → take few (replicate many item) ≡ replicate few item
take_filled zero many item within = refl
take_filled (suc few) zero item within = absurd (omega (arith, within))
take_filled (suc few) (suc many) item within = ap (λ rest. item ∷ rest) (take_filled few many item (omega (arith, within)))

-- one value more, behind those that are taken off
pub popped_one : (program : Linked) (wanted type : VerificationType) (stack : List VerificationType) (i : ℕ) (here : Bool)
    → slice_get stack i ≡ Some type → here ≡ goes_to program type wanted
    → popped program (wanted ∷ []) (drop i stack) ≡ (if here then Some (drop (i + 1) stack) else None)
popped_one program wanted type stack i here have is =
    ap (popped program (wanted ∷ [])) (drop_next stack i type have) ∙ ap (λ own. if own then Some (drop (i + 1) stack) else None) (sym is)

-- behind those of a member
pub popped_object : (program : Linked) (some stack : List VerificationType) (wanted : VerificationType) (i : ℕ) (left : Option (List VerificationType))
    → popped program some stack ≡ Some (drop i stack) → popped program (wanted ∷ []) (drop i stack) ≡ left
    → popped program (some ++ wanted ∷ []) stack ≡ left
popped_object program some stack wanted i left before is =
    popped_append program some (wanted ∷ []) stack ∙ ap (option_and_then (popped program (wanted ∷ []))) before ∙ is

pub popped_nothing : (program : Linked) (some stack : List VerificationType) (wanted : VerificationType) → popped program some stack ≡ None
    → popped program (some ++ wanted ∷ []) stack ≡ None
popped_nothing program some stack wanted before =
    popped_append program some (wanted ∷ []) stack ∙ ap (option_and_then (popped program (wanted ∷ []))) before

-- the object of a constructor
without_same : (type : VerificationType) (rest : List VerificationType) → without_this (type ∷ rest) ≡ (if is_same type This then Some rest else None)
without_same Top rest = refl
without_same Int rest = refl
without_same Long rest = refl
without_same Null rest = refl
without_same This rest = refl
without_same (Object kind) rest = refl
without_same (New place) rest = refl

pub without_by : (stack : List VerificationType) (i : ℕ) (type : VerificationType) (here : Bool) → slice_get stack i ≡ Some type → here ≡ is_same type This
    → without_this (drop i stack) ≡ (if here then Some (drop (i + 1) stack) else None)
without_by stack i type here have is =
    ap without_this (drop_next stack i type have) ∙ without_same type (drop (i + 1) stack) ∙ ap (λ own. if own then Some (drop (i + 1) stack) else None) (sym is)

pub without_none : (stack : List VerificationType) (i : ℕ) → length stack ≤ i → without_this (drop i stack) ≡ None
without_none stack i short = ap without_this (drop_end stack i short)
