-- How the units of texts are gone through.
use Rattle.std.proofs.Common.{◌≡◌, ◌∙◌, ap, arith, refl, sym, ℕ, ℤ, pos, negsuc, zero, suc, ◌+◌, ◌-◌, ◌-ℤ◌, ◌+ℤ◌, ◌*ℤ◌, ◌<◌, ◌≤◌, Bool, true, false, ◌&&◌, ◌==◌, List, [], ◌∷◌, length, drop, get_or, Some, slice_get, nat_eq, nat_le, nat_lt, None, min, fold, cond}
use Rattle.std.proofs.lemmas.Bool.Decides.{nat_tests}
use Rattle.std.proofs.lemmas.Int.{ints}
use Rattle.std.proofs.lemmas.List.{drop_more, length-drop, take_all}
use Rattle.std.proofs.lemmas.List.Sums.{position_or_len_is}
use Rattle.std.proofs.lemmas.Option.{get_or_from_slice_get, slice_get_within}
use Rattle.std.specs.List.{position, position_or_len}
use Rattle.cb_kinds.specs.Texts.{same_text}
use Rattle.cb_machine.specs.Answering.{begins, compared, ends_with, found_from, place_or_none, unit_index}

pub rest_of : (units : List ℕ) (place unit : ℕ) → slice_get units place ≡ Some unit → drop place units ≡ unit ∷ drop (place + 1) units
rest_of units place unit is = drop_more units place unit (slice_get_within units place unit is) ∙ ap (λ unit. unit ∷ drop (place + 1) units) (get_or_from_slice_get units place unit unit is)

-- ---- tests

and_false : (is : Bool) → (is && false) ≡ false
and_false true = refl
and_false false = refl

pub le_true : (a b : ℕ) → a ≤ b → nat_le a b ≡ true
le_true a b fits = grind (arith, nat_tests)

pub le_false : (a b : ℕ) → b < a → nat_le a b ≡ false
le_false a b long = grind (arith, nat_tests)

lt_true : (a b : ℕ) → a < b → nat_lt a b ≡ true
lt_true a b fits = grind (arith, nat_tests)

lt_same : (a : ℕ) → nat_lt a a ≡ false
lt_same a = grind (arith, nat_tests)

pub eq_true : (a b : ℕ) → a ≡ b → nat_eq a b ≡ true
eq_true a b same = grind (arith, nat_tests)

pub eq_false : (a b : ℕ) → (a ≡ b → ⊥) → nat_eq a b ≡ false
eq_false a b differ = grind (arith, nat_tests)

-- ---- the hash

abbrev pub hash_from : ℤ → List ℕ → ℤ
hash_from before units = fold (λ sum unit. sum *ℤ pos 31 +ℤ pos unit) before units

-- ---- compared

pub compared_more : (units others more rest : List ℕ) (unit other : ℕ) → units ≡ unit ∷ more → others ≡ other ∷ rest → unit ≡ other → compared units others ≡ compared more rest
compared_more units others more rest unit other one against same =
    ap (λ units. compared units others) one ∙ ap (compared (unit ∷ more)) against ∙ ap (λ is. cond is (compared more rest) (pos unit -ℤ pos other)) (eq_true unit other same)

pub compared_here : (units others more rest : List ℕ) (unit other : ℕ) → units ≡ unit ∷ more → others ≡ other ∷ rest → (unit ≡ other → ⊥) → compared units others ≡ pos unit -ℤ pos other
compared_here units others more rest unit other one against differ =
    ap (λ units. compared units others) one ∙ ap (compared (unit ∷ more)) against ∙ ap (λ is. cond is (compared more rest) (pos unit -ℤ pos other)) (eq_false unit other differ)

pub compared_end : (place : ℕ) (units others : List ℕ) → place ≡ min (length units) (length others) → compared (drop place units) (drop place others) ≡ pos (length units) -ℤ pos (length others)
compared_end zero [] others least = refl
compared_end zero (unit ∷ units) [] least = omega (arith, ints)
compared_end zero (unit ∷ units) (other ∷ others) least = absurd (omega (arith, least))
compared_end (suc place) [] others least = absurd (omega (arith, least))
compared_end (suc place) (unit ∷ units) [] least = absurd (omega (arith, least))
compared_end (suc place) (unit ∷ units) (other ∷ others) least =
    compared_end place units others (omega (arith, least)) ∙ omega (arith, ints)

-- ---- begins

pub begins_more : (units part more rest : List ℕ) (unit other : ℕ) → units ≡ unit ∷ more → part ≡ other ∷ rest → begins units part ≡ (nat_eq unit other && begins more rest)
begins_more units part more rest unit other one against = ap (λ units. begins units part) one ∙ ap (begins (unit ∷ more)) against

pub begins_further : (units part more rest : List ℕ) (unit other : ℕ) → units ≡ unit ∷ more → part ≡ other ∷ rest → unit ≡ other → begins units part ≡ begins more rest
begins_further units part more rest unit other one against same =
    begins_more units part more rest unit other one against ∙ ap (λ is. is && begins more rest) (eq_true unit other same)

pub begins_not : (units part more rest : List ℕ) (unit other : ℕ) → units ≡ unit ∷ more → part ≡ other ∷ rest → (unit ≡ other → ⊥) → begins units part ≡ false
begins_not units part more rest unit other one against differ =
    begins_more units part more rest unit other one against ∙ ap (λ is. is && begins more rest) (eq_false unit other differ)

pub begins_short : (units part : List ℕ) → length units < length part → begins units part ≡ false
begins_short units [] short = absurd (omega (arith, short))
begins_short [] (other ∷ rest) short = refl
begins_short (unit ∷ units) (other ∷ rest) short =
    ap (λ is. nat_eq unit other && is) (begins_short units rest (omega (arith, short))) ∙ and_false (nat_eq unit other)

pub begins_none : (units part : List ℕ) → part ≡ [] → begins units part ≡ true
begins_none units part is = ap (begins units) is

pub begins_whole : (units part : List ℕ) → length units ≡ length part → begins units part ≡ same_text units part
begins_whole units part same = ap (λ units. same_text units part) (take_all (length part) units (omega (arith, same)))

pub differ_long : (units others : List ℕ) → (length units ≡ length others → ⊥) → same_text units others ≡ false
differ_long [] [] differ = absurd (differ refl)
differ_long [] (other ∷ others) differ = refl
differ_long (unit ∷ units) [] differ = refl
differ_long (unit ∷ units) (other ∷ others) differ =
    ap (λ is. nat_eq unit other && is) (differ_long units others (λ same. differ (ap suc same))) ∙ and_false (nat_eq unit other)

pub ends_so : (units end : List ℕ) → length end ≤ length units → begins (drop (length units - length end) units) end ≡ ends_with units end
ends_so units end fits =
    begins_whole (drop (length units - length end) units) end (length-drop (length units - length end) units ∙ omega (arith, fits))
    ∙ sym (ap (λ is. is && same_text (drop (length units - length end) units) end) (le_true (length end) (length units) fits))

pub ends_not : (units end : List ℕ) → length units < length end → ends_with units end ≡ false
ends_not units end long = ap (λ is. is && same_text (drop (length units - length end) units) end) (le_false (length end) (length units) long)

-- ---- found

pub found_here : (place : ℕ) (units part : List ℕ) → begins units part ≡ true → found_from place units part ≡ pos place
found_here place [] [] is = refl
found_here place [] (other ∷ rest) is = absurd (cc is)
found_here place (unit ∷ units) part is = ap (λ found. cond found (pos place) (found_from (place + 1) units part)) is

pub found_further : (place : ℕ) (units part more : List ℕ) (unit : ℕ) → units ≡ unit ∷ more → begins units part ≡ false → found_from place units part ≡ found_from (place + 1) more part
found_further place units part more unit is not =
    ap (λ units. found_from place units part) is
    ∙ ap (λ found. cond found (pos place) (found_from (place + 1) more part)) (sym (ap (λ units. begins units part) is) ∙ not)

position_at : (units : List ℕ) (wanted place : ℕ) → place < length units → position_or_len (λ other. other == wanted) units ≡ place → position (λ other. other == wanted) units ≡ Some place
position_at units wanted place within is =
    ap (λ place. cond (nat_lt place (length units)) (Some place) None) is ∙ ap (λ low. cond low (Some place) None) (lt_true place (length units) within)

position_none : (units : List ℕ) (wanted : ℕ) → position_or_len (λ other. other == wanted) units ≡ length units → position (λ other. other == wanted) units ≡ None
position_none units wanted is =
    ap (λ place. cond (nat_lt place (length units)) (Some place) None) is ∙ ap (λ low. cond low (Some (length units)) None) (lt_same (length units))

pub unit_found : (units : List ℕ) (wanted : ℤ) (place : ℕ) → place < length units → ((k : ℕ) → k < place → pos (get_or units k 0) ≡ wanted → ⊥) → pos (get_or units place 0) ≡ wanted
    → unit_index units wanted ≡ pos place
unit_found units (pos wanted) place within before here =
    ap place_or_none (position_at units wanted place within
    (position_or_len_is (λ other. other == wanted) units place 0 (omega (arith, within)) (λ k low. eq_false (get_or units k 0) wanted (λ same. before k low (ap pos same))) (λ _. eq_true (get_or units place 0) wanted (cc here))))
unit_found units (negsuc wanted) place within before here = absurd (cc here)

pub unit_missing : (units : List ℕ) (wanted : ℤ) → ((k : ℕ) → k < length units → pos (get_or units k 0) ≡ wanted → ⊥) → unit_index units wanted ≡ negsuc 0
unit_missing units (pos wanted) none =
    ap place_or_none (position_none units wanted
    (position_or_len_is (λ other. other == wanted) units (length units) 0 (omega arith) (λ k low. eq_false (get_or units k 0) wanted (λ same. none k low (ap pos same))) (λ low. absurd (omega (arith, low)))))
unit_missing units (negsuc wanted) none = refl
