-- Which words are arguments.
use Rattle.std.proofs.Common.{◌≡◌, ◌∙◌, ◌+◌, ◌<◌, ◌≤◌, ap, arith, refl, sym, subst, codes, drop, get_or, map, string_bytes, take, ℕ, List, [], ◌∷◌, ◌++◌, length}
use Rattle.std.specs.Prelude.{String}
use Rattle.std.specs.declared.alloc.Global.{Global}
use Rattle.std.specs.List.{All, AllWithin, HoldsAt}
use Rattle.std.proofs.lemmas.List.{get_or-drop, get_or-take, length-append, length-drop, length-take, map-append, take-append-drop, take_all}
use Rattle.std.proofs.lemmas.List.Elements.{All-append, All-drop, All-map}
use Rattle.cb_runner.specs.Words.{AllOf, AreArguments, AreFew, ArePlain, IsDashed, IsShort, Parted}
use Rattle.cb_runner.proofs.FewItems.{heads, tails}

-- the first of all items, and the others
pub first_of : {X : Type 0} (P : X → Type 0) (item : X) (items : List X) → All P (item ∷ items) → P item
first_of P item items all = all 0 item (omega arith)

pub others_of : {X : Type 0} (P : X → Type 0) (item : X) (items : List X) → All P (item ∷ items) → All P items
others_of P item items all = All-drop P 1 (item ∷ items) all

-- what is said of each place up to one is said of all words before it
pub plain_taken : (words : List (String Global)) (count : ℕ) → count ≤ length words → AllWithin (λ word. ¬ IsDashed (string_bytes word)) words 0 count → ArePlain (map string_bytes (take count words))
plain_taken words count within plain =
    All-map (λ word. ¬ IsDashed word) string_bytes (take count words)
    (λ k d below. let size = length-take count words in
    subst (λ (word : String Global). ¬ IsDashed (string_bytes word)) (sym (get_or-take count words k d (omega (arith, below, size, within)))) (plain k d (omega arith) (omega (arith, below, size, within))))

pub dashes : IsDashed (codes "--")
dashes = (refl, omega arith)

-- words with one that is kept for options, before which none is and which isn't `--`, are no arguments
parted_so : (plain : List (List ℕ)) (word : List ℕ) (behind front back : List (List ℕ)) → ArePlain plain → IsDashed word → ¬ (word ≡ codes "--") → ArePlain front
    → plain ++ word ∷ behind ≡ front ++ codes "--" ∷ back → ⊥
parted_so [] word behind [] back none dashed other also is = other (heads is)
parted_so [] word behind (first ∷ front) back none dashed other also is = first_of (λ word. ¬ IsDashed word) first front also (subst IsDashed (heads is) dashed)
parted_so (first ∷ plain) word behind [] back none dashed other also is = first_of (λ word. ¬ IsDashed word) first plain none (subst IsDashed (sym (heads is)) dashes)
parted_so (first ∷ plain) word behind (own ∷ front) back none dashed other also is =
    parted_so plain word behind front back (others_of (λ word. ¬ IsDashed word) first plain none) dashed other (others_of (λ word. ¬ IsDashed word) own front also) (tails is)

pub all_so : (plain : List (List ℕ)) (word : List ℕ) (behind : List (List ℕ)) → IsDashed word → ArePlain (plain ++ word ∷ behind) → ⊥
all_so [] word behind dashed all = first_of (λ word. ¬ IsDashed word) word behind all dashed
all_so (first ∷ plain) word behind dashed all = all_so plain word behind dashed (others_of (λ word. ¬ IsDashed word) first (plain ++ word ∷ behind) all)

pub no_arguments : (plain : List (List ℕ)) (word : List ℕ) (behind words arguments : List (List ℕ)) → words ≡ plain ++ word ∷ behind → ArePlain plain → IsDashed word
    → ¬ (word ≡ codes "--") → AreArguments words arguments → ⊥
no_arguments plain word behind words arguments are none dashed other (AllOf all is) = all_so plain word behind dashed (subst ArePlain are all)
no_arguments plain word behind words arguments are none dashed other (Parted front back also parts is) =
    parted_so plain word behind front back none dashed other also (sym are ∙ parts)

-- arguments are some of the words, so they are few where these are
pub few_behind : (front back : List (List ℕ)) → AreFew (front ++ back) → AreFew back
few_behind [] back few = few
few_behind (word ∷ front) back few =
    few_behind front back (omega (arith, few.0), others_of IsShort word (front ++ back) few.1)

pub few_arguments : (words arguments : List (List ℕ)) → AreArguments words arguments → AreFew words → AreFew arguments
few_arguments words arguments (AllOf all is) few = subst AreFew (sym is) few
few_arguments words arguments (Parted front back plain parts is) few =
    let size = length-append front (codes "--" ∷ back) in
    let less = length-append front back in
    let here = subst AreFew parts few in
    let behind = few_behind (front ++ codes "--" ∷ []) back (subst AreFew (sym (joined front back)) here) in
    subst AreFew (sym is) (omega (arith, size, less, here.0), All-append IsShort front back (front_of front (codes "--" ∷ back) here.1) behind.1)
  where
    joined : (front back : List (List ℕ)) → (front ++ codes "--" ∷ []) ++ back ≡ front ++ codes "--" ∷ back
    joined [] back = refl
    joined (word ∷ front) back = ap (λ words. word ∷ words) (joined front back)

    front_of : (front back : List (List ℕ)) → All IsShort (front ++ back) → All IsShort front
    front_of [] back all = λ k d below. absurd (omega (arith, below))
    front_of (word ∷ front) back all =
        All-append IsShort (word ∷ []) front (λ k d below. let zero : 0 ≡ k = omega (arith, below) in subst (λ (k : ℕ). IsShort (get_or (word ∷ []) k d)) zero (first_of IsShort word (front ++ back) all)) (front_of front back (others_of IsShort word (front ++ back) all))

-- words that stand on both sides of a place
module _ (words front back : List (String Global)) (count : ℕ) (within : count ≤ length words) (front_is : front ≡ take count words) (back_is : back ≡ drop count words) (plain : AllWithin (λ word. ¬ IsDashed (string_bytes word)) words 0 count) where
  both : map string_bytes words ≡ map string_bytes front ++ map string_bytes back
  both =
      ap (map string_bytes) (sym (ap (λ front. front ++ back) front_is ∙ ap (λ back. take count words ++ back) back_is ∙ take-append-drop count words)) ∙ map-append string_bytes front back

  front_plain : ArePlain (map string_bytes front)
  front_plain = subst (λ front. ArePlain (map string_bytes front)) (sym front_is) (plain_taken words count within plain)

  pub whole_so : length back < 1 → AreArguments (map string_bytes words) (map string_bytes front ++ map string_bytes back)
  whole_so none =
      let size = length-drop count words in
      let same = ap length back_is in
      let all : take count words ≡ words = take_all count words (omega (arith, size, same, none)) in
      AllOf (subst (λ words. ArePlain (map string_bytes words)) (front_is ∙ all) front_plain) (sym both)

  module _ (word : String Global) (rest : List (String Global)) (is : back ≡ word ∷ rest) where
    apart : map string_bytes words ≡ map string_bytes front ++ string_bytes word ∷ map string_bytes rest
    apart = both ∙ ap (λ back. map string_bytes front ++ map string_bytes back) is

    pub parts_so : string_bytes word ≡ codes "--" → AreArguments (map string_bytes words) (map string_bytes front ++ map string_bytes rest)
    parts_so dashed =
        Parted (map string_bytes front) (map string_bytes rest) front_plain (apart ∙ ap (λ word. map string_bytes front ++ word ∷ map string_bytes rest) dashed) refl

    dashed_so : HoldsAt (λ word. IsDashed (string_bytes word)) words count → IsDashed (string_bytes word)
    dashed_so dashed =
        let last : count ≡ count + 0 = omega arith in
        let here : get_or words count word ≡ word =
        ap (λ (count : ℕ). get_or words count word) last ∙ sym (get_or-drop count words 0 word) ∙ ap (λ back. get_or back 0 word) (sym back_is ∙ is) in
        subst (λ (word : String Global). IsDashed (string_bytes word)) here (dashed word)

    pub none_so : (count < length words → HoldsAt (λ word. IsDashed (string_bytes word)) words count) → ¬ (string_bytes word ≡ codes "--")
        → (arguments : List (List ℕ)) → AreArguments (map string_bytes words) arguments → ⊥
    none_so dashed other arguments =
        let size = length-drop count words in
        let same = ap length (sym back_is ∙ is) in
        no_arguments (map string_bytes front) (string_bytes word) (map string_bytes rest) (map string_bytes words) arguments apart front_plain
        (dashed_so (dashed (omega (arith, size, same)))) other
