-- Parts numbered node by node.
use Rattle.std.proofs.Common.{◌≡◌, ◌≢◌, ◌∙◌, sym, ap, refl, subst, inl, inr, arith, ℕ, ◌+◌, ◌<◌, ◌≤◌, List, [], ◌∷◌, ◌++◌, length, get_or, set, replicate}
use Rattle.std.proofs.lemmas.Bool.{cases_eq, cases_lt}
use Rattle.std.proofs.lemmas.List.{get_or-replicate, get_or-set_other, get_or-set_same, get_or_append_left, get_or_push, length-replicate, length-set, length_push}
use Rattle.cb_dag.specs.Numbers.{IsNumbering}
use Rattle.cb_dag.specs.Parts.{IsFirst}

pub none_numbered : (roots numbers part_of : List ℕ) → numbers ≡ replicate (length roots) (length roots) → part_of ≡ [] → IsNumbering roots 0 0 numbers part_of
none_numbered roots numbers part_of is none = record {
  numbered = record {
    each = ap length none;
    same = λ a b low high. absurd (omega (arith, low));
    alike = λ a b low high. absurd (omega (arith, low));
    below = λ a low. absurd (omega (arith, low));
    some = λ p low. absurd (omega (arith, low));
    rise = λ a b order low. absurd (omega (arith, low));
  };
  each = ap length is ∙ length-replicate (length roots) (length roots);
  few = omega arith;
  given = λ a low. absurd (omega (arith, low));
  met = λ root within known. absurd (omega (arith, known, ap (λ all. get_or all root 0) is, get_or-replicate (length roots) root (length roots) 0 within));
}

module _ (roots : List ℕ) (nodes parts : ℕ) (numbers part_of : List ℕ) (number : ℕ) (before : IsNumbering roots nodes parts numbers part_of) where
  -- the part of each node, with one node more
  old_part : (a : ℕ) → a < nodes → get_or (part_of ++ number ∷ []) a 0 ≡ get_or part_of a 0
  old_part a within = get_or_append_left part_of (number ∷ []) 0 a (omega (arith, within, before.numbered.each))

  new_part : (a : ℕ) → a ≡ nodes → get_or (part_of ++ number ∷ []) a 0 ≡ number
  new_part a is = get_or_push part_of number 0 a (before.numbered.each ∙ sym is)

  was_first : (b : ℕ) → b < nodes → IsFirst (part_of ++ number ∷ []) b → IsFirst part_of b
  was_first b within first = λ other up same. first other up (old_part other (omega (arith, up, within)) ∙ same ∙ sym (old_part b within))

  each_more : length (part_of ++ number ∷ []) ≡ nodes + 1
  each_more = length_push part_of number ∙ ap (λ n. n + 1) before.numbered.each

  -- a root that has a number
  module _ (within : nodes < length roots) (root : get_or roots nodes 0 < length roots) (known : get_or numbers (get_or roots nodes 0) 0 < length roots)
      (is : number ≡ get_or numbers (get_or roots nodes 0) 0) where
    -- an earlier node with that root
    earlier : (a : ℕ) × (a < nodes) × (get_or roots a 0 ≡ get_or roots nodes 0)
    earlier = before.met (get_or roots nodes 0) root known

    number_of_earlier : number ≡ get_or part_of earlier.0 0
    number_of_earlier = is ∙ ap (λ r. get_or numbers r 0) (sym earlier.2) ∙ before.given earlier.0 earlier.1

    given_more : (a : ℕ) → a < nodes + 1 → get_or numbers (get_or roots a 0) 0 ≡ get_or (part_of ++ number ∷ []) a 0
    given_more a low = elim (cases_lt a nodes) [
      | inl l ↦ before.given a l ∙ sym (old_part a l)
      | inr p ↦
          let last : a ≡ nodes = omega (arith, low, p) in
          ap (λ n. get_or numbers (get_or roots n 0) 0) last ∙ sym is ∙ sym (new_part a last)
    ]

    -- a node stands for the last one by an earlier one
    stand : (a : ℕ) → a < nodes + 1 → (e : ℕ) × (e < nodes) × (get_or roots e 0 ≡ get_or roots a 0) × (get_or part_of e 0 ≡ get_or (part_of ++ number ∷ []) a 0)
    stand a low = elim (cases_lt a nodes) [
      | inl l ↦ (a, l, refl, sym (old_part a l))
      | inr p ↦
          let last : a ≡ nodes = omega (arith, low, p) in
          (earlier.0, earlier.1, earlier.2 ∙ ap (λ n. get_or roots n 0) (sym last), sym number_of_earlier ∙ sym (new_part a last))
    ]

    rise_more : (a b : ℕ) → a < b → b < nodes + 1 → IsFirst (part_of ++ number ∷ []) b → get_or (part_of ++ number ∷ []) a 0 < get_or (part_of ++ number ∷ []) b 0
    rise_more a b order high first = elim (cases_lt b nodes) [
      | inl l ↦
          let low : a < nodes = omega (arith, order, l) in
          let up : get_or part_of a 0 < get_or part_of b 0 = before.numbered.rise a b order l (was_first b l first) in
          omega (arith, old_part a low, old_part b l, up)
      | inr p ↦
          let last : b ≡ nodes = omega (arith, high, p) in
          absurd (first earlier.0 (omega (arith, earlier.1, last)) (old_part earlier.0 earlier.1 ∙ sym number_of_earlier ∙ sym (new_part b last)))
    ]

    pub known_more : IsNumbering roots (nodes + 1) parts numbers (part_of ++ number ∷ [])
    known_more = record {
      numbered = record {
        each = each_more;
        same = λ a b low high same.
            let one = stand a low in
            let two = stand b high in
            sym one.2 ∙ before.numbered.same one.0 two.0 one.1 two.1 (one.3 ∙ same ∙ sym two.3) ∙ two.2;
        alike = λ a b low high same. sym (given_more a low) ∙ ap (λ r. get_or numbers r 0) same ∙ given_more b high;
        below = λ a low. let one = stand a low in subst (λ n. n < parts) one.3 (before.numbered.below one.0 one.1);
        some = λ p low. let found = before.numbered.some p low in (found.0, omega (arith, found.1), old_part found.0 found.1 ∙ found.2);
        rise = rise_more;
      };
      each = before.each;
      few = omega (arith, before.few);
      given = given_more;
      met = λ r inside has. let found = before.met r inside has in (found.0, omega (arith, found.1), found.2);
    }

  -- a root that gets one
  module _ (within : nodes < length roots) (root : get_or roots nodes 0 < length roots) (unknown : length roots ≤ get_or numbers (get_or roots nodes 0) 0) (is : number ≡ parts) where
    at_root : get_or (set numbers (get_or roots nodes 0) parts) (get_or roots nodes 0) 0 ≡ parts
    at_root = get_or-set_same numbers (get_or roots nodes 0) parts 0 (omega (arith, root, before.each))

    -- no earlier node has that root
    other_root : (a : ℕ) → a < nodes → get_or roots a 0 ≢ get_or roots nodes 0
    other_root a low same =
        let given : get_or numbers (get_or roots a 0) 0 ≡ get_or part_of a 0 = before.given a low in
        let there : get_or numbers (get_or roots nodes 0) 0 ≡ get_or part_of a 0 = ap (λ r. get_or numbers r 0) (sym same) ∙ given in
        omega (arith, there, before.numbered.below a low, before.few, within, unknown)

    old_below : (a : ℕ) → a < nodes → get_or (part_of ++ number ∷ []) a 0 < parts
    old_below a low = subst (λ n. n < parts) (sym (old_part a low)) (before.numbered.below a low)

    last_part : (a : ℕ) → a ≡ nodes → get_or (part_of ++ number ∷ []) a 0 ≡ parts
    last_part a last = new_part a last ∙ is

    given_new : (a : ℕ) → a < nodes + 1 → get_or (set numbers (get_or roots nodes 0) parts) (get_or roots a 0) 0 ≡ get_or (part_of ++ number ∷ []) a 0
    given_new a low = elim (cases_lt a nodes) [
      | inl l ↦ get_or-set_other numbers (get_or roots nodes 0) (get_or roots a 0) parts 0 (other_root a l) ∙ before.given a l ∙ sym (old_part a l)
      | inr p ↦
          let last : a ≡ nodes = omega (arith, low, p) in
          ap (λ n. get_or (set numbers (get_or roots nodes 0) parts) (get_or roots n 0) 0) last ∙ at_root ∙ sym (last_part a last)
    ]

    same_new : (a b : ℕ) → a < nodes + 1 → b < nodes + 1 → get_or (part_of ++ number ∷ []) a 0 ≡ get_or (part_of ++ number ∷ []) b 0 → get_or roots a 0 ≡ get_or roots b 0
    same_new a b low high same = elim (cases_lt a nodes) [
      | inl l ↦ elim (cases_lt b nodes) [
        | inl m ↦ before.numbered.same a b l m (sym (old_part a l) ∙ same ∙ old_part b m)
        | inr q ↦ absurd (omega (arith, old_below a l, same, last_part b (omega (arith, high, q))))
      ]
      | inr p ↦ elim (cases_lt b nodes) [
        | inl m ↦ absurd (omega (arith, old_below b m, same, last_part a (omega (arith, low, p))))
        | inr q ↦ ap (λ n. get_or roots n 0) (let both : a ≡ b = omega (arith, low, high, p, q) in both)
      ]
    ]

    rise_new : (a b : ℕ) → a < b → b < nodes + 1 → IsFirst (part_of ++ number ∷ []) b → get_or (part_of ++ number ∷ []) a 0 < get_or (part_of ++ number ∷ []) b 0
    rise_new a b order high first = elim (cases_lt b nodes) [
      | inl l ↦
          let low : a < nodes = omega (arith, order, l) in
          let up : get_or part_of a 0 < get_or part_of b 0 = before.numbered.rise a b order l (was_first b l first) in
          omega (arith, old_part a low, old_part b l, up)
      | inr p ↦ omega (arith, old_below a (omega (arith, order, high)), last_part b (omega (arith, high, p)))
    ]

    some_new : (p : ℕ) → p < parts + 1 → (a : ℕ) × (a < nodes + 1) × (get_or (part_of ++ number ∷ []) a 0 ≡ p)
    some_new p low = elim (cases_lt p parts) [
      | inl l ↦ let found = before.numbered.some p l in (found.0, omega (arith, found.1), old_part found.0 found.1 ∙ found.2)
      | inr q ↦ (nodes, omega arith, last_part nodes refl ∙ omega (arith, low, q))
    ]

    met_new : (r : ℕ) → r < length roots → get_or (set numbers (get_or roots nodes 0) parts) r 0 < length roots → (a : ℕ) × (a < nodes + 1) × (get_or roots a 0 ≡ r)
    met_new r inside has = elim (cases_eq r (get_or roots nodes 0)) [
      | inl same ↦ (nodes, omega arith, sym same)
      | inr apart ↦
          let found = before.met r inside (subst (λ n. n < length roots) (get_or-set_other numbers (get_or roots nodes 0) r parts 0 apart) has) in
          (found.0, omega (arith, found.1), found.2)
    ]

    pub new_more : IsNumbering roots (nodes + 1) (parts + 1) (set numbers (get_or roots nodes 0) parts) (part_of ++ number ∷ [])
    new_more = record {
      numbered = record {
        each = each_more;
        same = same_new;
        alike = λ a b low high same. sym (given_new a low) ∙ ap (λ r. get_or (set numbers (get_or roots nodes 0) parts) r 0) same ∙ given_new b high;
        below = λ a low. elim (cases_lt a nodes) [ inl l ↦ omega (arith, old_below a l) | inr p ↦ omega (arith, last_part a (omega (arith, low, p))) ];
        some = some_new;
        rise = rise_new;
      };
      each = length-set numbers (get_or roots nodes 0) parts ∙ before.each;
      few = omega (arith, before.few);
      given = given_new;
      met = met_new;
    }

-- either of the two
pub numbered_more : (roots : List ℕ) (nodes parts parts' : ℕ) (numbers numbers' part_of part_of' : List ℕ) (number : ℕ) → IsNumbering roots nodes parts numbers part_of → nodes < length roots
    → get_or roots nodes 0 < length roots → (get_or numbers (get_or roots nodes 0) 0 < length roots → (parts' ≡ parts) × (numbers' ≡ numbers))
    → (length roots ≤ get_or numbers (get_or roots nodes 0) 0 → (parts' ≡ parts + 1) × (numbers' ≡ set numbers (get_or roots nodes 0) parts))
    → number ≡ get_or numbers' (get_or roots nodes 0) 0 → part_of' ≡ part_of ++ number ∷ [] → IsNumbering roots (nodes + 1) parts' numbers' part_of'
numbered_more roots nodes parts parts' numbers numbers' part_of part_of' number before within root known new is more =
    subst (λ all. IsNumbering roots (nodes + 1) parts' numbers' all) (sym more)
    (elim (cases_lt (get_or numbers (get_or roots nodes 0) 0) (length roots)) [
      | inl l ↦
          let same = known l in
          subst (λ n. IsNumbering roots (nodes + 1) n numbers' (part_of ++ number ∷ [])) (sym same.0)
          (subst (λ all. IsNumbering roots (nodes + 1) parts all (part_of ++ number ∷ [])) (sym same.1)
          (known_more roots nodes parts numbers part_of number before within root l (is ∙ ap (λ all. get_or all (get_or roots nodes 0) 0) same.1)))
      | inr p ↦
          let changed = new p in
          subst (λ n. IsNumbering roots (nodes + 1) n numbers' (part_of ++ number ∷ [])) (sym changed.0)
          (subst (λ all. IsNumbering roots (nodes + 1) (parts + 1) all (part_of ++ number ∷ [])) (sym changed.1)
          (new_more roots nodes parts numbers part_of number before within root p
          (is ∙ ap (λ all. get_or all (get_or roots nodes 0) 0) changed.1 ∙ get_or-set_same numbers (get_or roots nodes 0) parts 0 (omega (arith, root, before.each)))))
    ])
