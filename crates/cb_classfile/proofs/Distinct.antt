-- Lists of which no two elements are equal.
use Rattle.std.proofs.Common.{◌≡◌, ◌≢◌, ◌↔◌, ℕ, ◌+◌, ◌<◌, ◌≤◌, Bool, true, false, cond, ◌||◌, ◌&&◌, ◌==◌, List, [], ◌∷◌, ◌++◌, Option, map, length, take, get_or, refl, sym, ◌∙◌, ap, arith}
use Rattle.std.proofs.lemmas.Bool.{false≢true}
use Rattle.std.proofs.lemmas.Bool.Decides.{Decides-and, Decides-at, Decides-eqb, Decides-like, same_from_decides}
use Rattle.std.proofs.lemmas.List.{take_more, get_or_default, get_or-map, get_or-take, length-map, length-take-le}
use Rattle.std.proofs.lemmas.List.Folds.{list_any-append, Any-from_list_any, list_any-from_Any}
use Rattle.std.proofs.lemmas.List.Quantifiers.{all_pairs_push}
use Rattle.std.proofs.Math.Seq.{take-length}
use Rattle.std.specs.Bool.{Decides}
use Rattle.std.specs.Cmp.{tied_then, unsigned_tied}
use Rattle.std.specs.List.{AllPairs, Any, list_any}
use Rattle.std.specs.Ordering.{nat_cmp, ordering_then, is_eq}
use Rattle.cb_text.specs.declared.constant.Constant.{Constant}
use Rattle.cb_classfile.specs.Class.{signature}
use Rattle.cb_classfile.specs.Pool.{text_at}

-- how a set of pairs compares two of them
abbrev pub same : ℕ × ℕ → ℕ × ℕ → Bool
same one other = is_eq (ordering_then (nat_cmp one.0 other.0) (nat_cmp one.1 other.1))

same_decides : (one other : ℕ × ℕ) → Decides (same one other) (one ≡ other)
same_decides one other =
    let parts : Decides ((one.0 == other.0) && (one.1 == other.1)) ((one.0 ≡ other.0) × (one.1 ≡ other.1)) = Decides-and _ _ (Decides-eqb one.0 other.0) (Decides-eqb one.1 other.1) in
    let tested : same one other ≡ ((one.0 == other.0) && (one.1 == other.1)) = sym (tied_then (nat_cmp one.0 other.0) (nat_cmp one.1 other.1)) ∙ (λ i. unsigned_tied one.0 other.0 i && unsigned_tied one.1 other.1 i) in
    Decides-at _ _ tested (Decides-like _ (λ both. λ i. (both.0 i, both.1 i)) (λ is. (ap (λ p. p.0) is, ap (λ p. p.1) is)) parts)

same_turned : (one other : ℕ × ℕ) → same one other ≡ same other one
same_turned one other = same_from_decides (same one other) (same other one) (same_decides one other) (Decides-like _ sym sym (same_decides other one))

-- no two of the first pairs are equal, and these are the pairs that a set has
pub record Seen (pairs : List (ℕ × ℕ)) (count : ℕ) (has : ℕ × ℕ → Bool) : Type 0 where
  pub apart : AllPairs (λ one other. one ≢ other) (take count pairs)
  pub seen : (pair : ℕ × ℕ) → has pair ≡ list_any (same pair) (take count pairs)

-- a pair that stands among the first is had
had : (pairs : List (ℕ × ℕ)) (count : ℕ) (has : ℕ × ℕ → Bool) (pair other : ℕ × ℕ) (place : ℕ) → Seen pairs count has → place < length (take count pairs) → get_or (take count pairs) place other ≡ pair → has pair ≡ true
had pairs count has pair other place seen within is =
    let own = get_or_default (take count pairs) place (get_or (take count pairs) place other) other within in
    seen.seen pair ∙ list_any-from_Any (same pair) (take count pairs) (place, get_or (take count pairs) place other, within, own, (same_decides pair (get_or (take count pairs) place other)).1 (sym is))

-- a pair that isn't had goes in
pub seen_more : (pairs : List (ℕ × ℕ)) (count : ℕ) (has later : ℕ × ℕ → Bool) (pair other : ℕ × ℕ) → Seen pairs count has → count < length pairs → pair ≡ get_or pairs count other → has pair ≡ false → ((q : ℕ × ℕ) → later q ≡ cond (same pair q) true (has q)) → Seen pairs (count + 1) later
seen_more pairs count has later pair other seen within at lacks goes_in =
    let more : take (count + 1) pairs ≡ take count pairs ++ pair ∷ [] = take_more pairs count other within ∙ ap (λ p. take count pairs ++ p ∷ []) (sym at) in
    record {
      apart = rw more (all_pairs_push (λ one other. one ≢ other) (take count pairs) pair seen.apart (λ place d below is. false≢true (sym lacks ∙ had pairs count has pair d place seen below is)));
      seen = λ q. rw more (goes_in q ∙ ap (cond (same pair q) true) (seen.seen q) ∙ or_turned (same pair q) (same q pair) (list_any (same q) (take count pairs)) (same_turned pair q) ∙ sym (list_any-append (same q) (take count pairs) (pair ∷ [])));
    } where
      or_turned : (new turned old : Bool) → new ≡ turned → cond new true old ≡ (old || (turned || false))
      or_turned true turned true is = refl
      or_turned true turned false is = ap (λ b. b || false) is
      or_turned false turned true is = refl
      or_turned false turned false is = ap (λ b. b || false) is

-- and one that is had stands twice
pub stands_twice : (pairs : List (ℕ × ℕ)) (count : ℕ) (has : ℕ × ℕ → Bool) (pair other : ℕ × ℕ) → Seen pairs count has → count < length pairs → pair ≡ get_or pairs count other → has pair ≡ true → AllPairs (λ one other. one ≢ other) pairs → ⊥
stands_twice pairs count has pair other seen within at had apart = go (Any-from_list_any (same pair) (take count pairs) (sym (seen.seen pair) ∙ had)) where
  go : Any (λ p. same pair p ≡ true) (take count pairs) → ⊥
  go (place, found, below, found_at, is) =
      let before : place < count = omega (arith, length-take-le count pairs) in
      apart place count other before within
      (get_or_default pairs place other found (omega arith) ∙ sym (get_or-take count pairs place found before) ∙ found_at ∙ sym ((same_decides pair found).0 is) ∙ at)

-- where all are had, no two are equal
pub all_apart : (pairs : List (ℕ × ℕ)) (count : ℕ) (has : ℕ × ℕ → Bool) → Seen pairs count has → length pairs ≤ count → count ≤ length pairs → AllPairs (λ one other. one ≢ other) pairs
all_apart pairs count has seen low high =
    let all : take count pairs ≡ pairs = (let whole : count ≡ length pairs = omega arith in ap (λ n. take n pairs) whole) ∙ take-length pairs in
    rw all at seen.apart

-- two views of a list that tell the same elements apart
module _ {X A B : Type 0} (one_view : X → A) (other_view : X → B) (alike : (x y : X) → other_view x ≡ other_view y → one_view x ≡ one_view y) where
  apart_too : (items : List X) → AllPairs (λ one other. one ≢ other) (map one_view items) → AllPairs (λ one other. one ≢ other) (map other_view items)
  apart_too [] apart i j d before within is = omega arith
  apart_too (first ∷ items) apart i j d before within is =
      let long : j < length (first ∷ items) = rw length-map at within in
      let one_at = get_or-map other_view (first ∷ items) i first d (omega arith) in
      let other_at = get_or-map other_view (first ∷ items) j first d long in
      let same = alike _ _ (sym one_at ∙ is ∙ other_at) in
      apart i j (one_view first) before (rw length-map long)
      (get_or-map one_view (first ∷ items) i first (one_view first) (omega arith) ∙ same ∙ sym (get_or-map one_view (first ∷ items) j first (one_view first) long))

-- the members of a class differ where the pairs of their numbers do
pub differ_alike : (pool : List Constant) (numbers : List ℕ) → ((one other : ℕ) → (get_or numbers one 0 ≡ get_or numbers other 0) ↔ (text_at pool one ≡ text_at pool other))
    → (members pairs : List (ℕ × ℕ)) → pairs ≡ map (λ (member : ℕ × ℕ). (get_or numbers member.0 0, get_or numbers member.1 0)) members
    → (AllPairs (λ one other. one ≢ other) pairs → AllPairs (λ one other. one ≢ other) (map (λ (member : ℕ × ℕ). signature pool member.0 member.1) members))
    × (AllPairs (λ one other. one ≢ other) (map (λ (member : ℕ × ℕ). signature pool member.0 member.1) members) → AllPairs (λ one other. one ≢ other) pairs)
differ_alike pool numbers tell members pairs are = (
  λ apart. apart_too by_number by_text (λ x y is. λ i. ((tell x.0 y.0).1 (ap (λ p. p.0) is) i, (tell x.1 y.1).1 (ap (λ p. p.1) is) i)) members (rw are at apart),
  λ apart. rw are (apart_too by_text by_number (λ x y is. λ i. ((tell x.0 y.0).0 (ap (λ p. p.0) is) i, (tell x.1 y.1).0 (ap (λ p. p.1) is) i)) members apart),
) where
  by_number : ℕ × ℕ → ℕ × ℕ
  by_number member = (get_or numbers member.0 0, get_or numbers member.1 0)

  by_text : ℕ × ℕ → Option (List ℕ) × Option (List ℕ)
  by_text member = signature pool member.0 member.1
