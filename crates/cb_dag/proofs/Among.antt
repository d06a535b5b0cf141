-- Nodes among others, and marks of nodes.
use Rattle.std.proofs.Common.{◌≡◌, ◌≢◌, ◌∙◌, sym, ap, refl, subst, inl, inr, ℕ, ◌<◌, ◌⊎◌, Bool, true, false, List, ◌∷◌, length, set, eqb}
use Rattle.std.proofs.lemmas.Bool.{both_ways, cases_eq, cases_lt, eq-eqb, eqb-false, eqb-true, ne_eqb, or_cases, or_from, or_left, or_parts, or_right}
use Rattle.std.proofs.lemmas.List.{get_or-set_other, get_or-set_same, get_or_past}
use Rattle.cb_dag.specs.Marks.{marked}
use Rattle.cb_dag.specs.Search.{is_in}

pub in_front : (node : ℕ) (nodes : List ℕ) → is_in node (node ∷ nodes) ≡ true
in_front node nodes = or_left (eqb node node) (is_in node nodes) (eq-eqb node node refl)

pub in_rest : (node other : ℕ) (nodes : List ℕ) → is_in node nodes ≡ true → is_in node (other ∷ nodes) ≡ true
in_rest node other nodes within = or_right (eqb other node) (is_in node nodes) within

pub in_cases : (node other : ℕ) (nodes : List ℕ) → is_in node (other ∷ nodes) ≡ true → (other ≡ node) ⊎ (is_in node nodes ≡ true)
in_cases node other nodes within =
    elim (or_cases (eqb other node) (is_in node nodes) within) [ inl same ↦ inl (eqb-true other node same) | inr rest ↦ inr rest ]

pub not_front : (node other : ℕ) (nodes : List ℕ) → is_in node (other ∷ nodes) ≡ false → other ≢ node
not_front node other nodes out = eqb-false other node (or_parts (eqb other node) (is_in node nodes) out).0

pub not_rest : (node other : ℕ) (nodes : List ℕ) → is_in node (other ∷ nodes) ≡ false → is_in node nodes ≡ false
not_rest node other nodes out = (or_parts (eqb other node) (is_in node nodes) out).1

pub not_in : (node other : ℕ) (nodes : List ℕ) → other ≢ node → is_in node nodes ≡ false → is_in node (other ∷ nodes) ≡ false
not_in node other nodes apart out = or_from (eqb other node) (is_in node nodes) (ne_eqb other node apart) out

-- marks
pub marked_within : (marks : List Bool) (node : ℕ) → marked marks node ≡ true → node < length marks
marked_within marks node on =
    elim (cases_lt node (length marks)) [ inl l ↦ l | inr past ↦ absurd (both_ways (marked marks node) (get_or_past marks node false past) on) ]

pub marked-set_same : (marks : List Bool) (node : ℕ) → node < length marks → marked (set marks node true) node ≡ true
marked-set_same marks node within = get_or-set_same marks node true false within

pub marked-set_kept : (marks : List Bool) (node other : ℕ) → marked marks other ≡ true → marked (set marks node true) other ≡ true
marked-set_kept marks node other on = elim (cases_eq other node) [
  | inl same ↦ ap (marked (set marks node true)) same ∙ marked-set_same marks node (subst (λ n. n < length marks) same (marked_within marks other on))
  | inr apart ↦ get_or-set_other marks node other true false apart ∙ on
]

pub marked-set_cases : (marks : List Bool) (node other : ℕ) → marked (set marks node true) other ≡ true → (other ≡ node) ⊎ (marked marks other ≡ true)
marked-set_cases marks node other on =
    elim (cases_eq other node) [ inl same ↦ inl same | inr apart ↦ inr (sym (get_or-set_other marks node other true false apart) ∙ on) ]
