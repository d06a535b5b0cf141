-- Room in blocks, and what is asked for in parts.
use Rattle.std.proofs.Common.{◌≡◌, ◌≢◌, ◌∙◌, ℕ, zero, suc, ◌+◌, ◌-◌, ◌*◌, ◌<◌, ◌≤◌, ◌==◌, Bool, true, false, cond, List, [], ◌∷◌, length, map, slice_get, take, Some, refl, sym, ap, arith, subst, inl, inr}
use mathlib.Core.Path.{fun_ext}
use Rattle.std.specs.List.{All, AllByRecursion, range_with_len, sum_by}
use Rattle.std.proofs.lemmas.Bool.{cases_eq, eq-eqb, eqb-true, ne_eqb}
use Rattle.std.proofs.lemmas.List.FromFn.{fill_by_all}
use Rattle.std.proofs.lemmas.List.Sums.{sum_by-cons, sum_by-le-sum_by, sum_by_more}
use Rattle.std.proofs.lemmas.Option.{get_or_from_slice_get, slice_get_within}
use Rattle.cb_plain.specs.declared.want.Want.{Want}
use Rattle.cb_plain.specs.Requests.{spent, words_at}
use Rattle.cb_heap.specs.Grants.{words_granted}
use Rattle.cb_heap.specs.Occupancy.{blocks, wanted}
use Rattle.cb_blocks.specs.Parted.{IsTooMuch, Parted, blocks_for, taken}
use Rattle.cb_blocks.specs.Rows.{row}
use Rattle.cb_partheap.specs.Heaps.{Heap, part_of}
use Rattle.cb_partheap.specs.Whole.{IsHeap, blocks_of_all}

-- a sum of terms none of which is less, and one of which is by so much more
range_le : (f g : ℕ → ℕ) (a n q d : ℕ) → a ≤ q → q < a + n → ((p : ℕ) → f p ≤ g p) → f q + d ≤ g q → sum_by f (range_with_len a n) + d ≤ sum_by g (range_with_len a n)
range_le f g a zero q d low high each more = absurd (omega (arith, low, high))
range_le f g a (suc n) q d low high each more =
    let first = sum_by-cons f a (range_with_len (a + 1) n) in
    let second = sum_by-cons g a (range_with_len (a + 1) n) in
    elim (cases_eq q a) [
      | inl same ↦
          let here : f a + d ≤ g a = subst (λ p. f p + d ≤ g p) same more in
          omega (arith, first, second, here, sum_by-le-sum_by f g (range_with_len (a + 1) n) each)
      | inr differs ↦ omega (arith, first, second, each a, range_le f g (a + 1) n q d (omega (arith, low, differs)) (omega (arith, high)) each more)
    ]

pub range_same : (f g : ℕ → ℕ) (a n : ℕ) → ((p : ℕ) → a ≤ p → p < a + n → g p ≡ f p) → sum_by g (range_with_len a n) ≡ sum_by f (range_with_len a n)
range_same f g a zero each = refl
range_same f g a (suc n) each =
    omega (arith, sum_by-cons f a (range_with_len (a + 1) n), sum_by-cons g a (range_with_len (a + 1) n), each a (omega arith) (omega arith), range_same f g (a + 1) n (λ p low high. each p (omega (arith, low)) (omega (arith, high))))

pub sum_by_map : {X Y : Type 0} (g : Y → ℕ) (f : X → Y) (xs : List X) → sum_by g (map f xs) ≡ sum_by (λ x. g (f x)) xs
sum_by_map {X} {Y} g f [] = refl
sum_by_map {X} {Y} g f (x ∷ xs) = sum_by-cons g (f x) (map f xs) ∙ ap (λ n. g (f x) + n) (sum_by_map g f xs) ∙ sym (sum_by-cons (λ x. g (f x)) x xs)

taken_is : (words : List (List ℕ)) → taken words ≡ sum_by (λ part. blocks_for (length (row words part))) (range_with_len 0 (length words))
taken_is words =
    ap taken (fill_by_all (row words) words (length words) [] refl (λ k below. refl)) ∙ sum_by_map (λ part. blocks_for (length part)) (row words) (range_with_len 0 (length words))

-- what is asked for in a part, when words of a site are taken
abbrev pub words_if : Bool → ℕ → ℕ
words_if here words = cond here words 0

spent_first : (sites : ℕ → ℕ) (here : Bool) (want : Want) (wants : List Want) (site n part : ℕ) → (want.site == site) ≡ here → n ≤ words_at (want ∷ wants) site →
    (n ≤ words_at wants site → wanted sites (spent wants site n) part + words_if (sites site == part) n ≡ wanted sites wants part) →
    wanted sites (spent (want ∷ wants) site n) part + words_if (sites site == part) n ≡ wanted sites (want ∷ wants) part
spent_first sites true want wants site n part is enough behind =
    let few : n ≤ want.words = rw is at enough in
    let same : sites want.site ≡ sites site = ap sites (eqb-true want.site site is) in
    let all = sum_by-cons (λ (w : Want). words_if (sites w.site == part) w.words) want wants in
    let less : Want = record { site = want.site; words = want.words - n } in
    let all' = sum_by-cons (λ (w : Want). words_if (sites w.site == part) w.words) less wants in
    let both : words_if (sites want.site == part) (want.words - n) + words_if (sites site == part) n ≡ words_if (sites want.site == part) want.words =
    ap (λ p. words_if (p == part) (want.words - n) + words_if (sites site == part) n) same
    ∙ elim (sites site == part) as (λ b. words_if b (want.words - n) + words_if b n ≡ words_if b want.words) [ true ↦ omega (arith, few) | false ↦ refl ]
    ∙ ap (λ p. words_if (p == part) want.words) (sym same) in
    rw is (omega (arith, all, all', both))
spent_first sites false want wants site n part is enough behind =
    let few : n ≤ words_at wants site = rw is at enough in
    let all = sum_by-cons (λ (w : Want). words_if (sites w.site == part) w.words) want wants in
    let all' = sum_by-cons (λ (w : Want). words_if (sites w.site == part) w.words) want (spent wants site n) in
    rw is (omega (arith, all, all', behind few))

pub wanted_spent : (sites : ℕ → ℕ) (wants : List Want) (site n part : ℕ) → n ≤ words_at wants site → wanted sites (spent wants site n) part + words_if (sites site == part) n ≡ wanted sites wants part
wanted_spent sites [] site n part enough =
    let none : n ≡ 0 = omega (arith, enough) in
    let nothing : words_if (sites site == part) n ≡ 0 = ap (λ k. words_if (sites site == part) k) none ∙ elim (sites site == part) as (λ b. words_if b 0 ≡ 0) [ true ↦ refl | false ↦ refl ] in
    omega (arith, nothing)
wanted_spent sites (want ∷ wants) site n part enough = spent_first sites (want.site == site) want wants site n part refl enough (wanted_spent sites wants site n part)

-- what is asked for at a site is asked for in its part
pub wanted_least : (sites : ℕ → ℕ) (wants : List Want) (site : ℕ) → words_at wants site ≤ wanted sites wants (sites site)
wanted_least sites wants site =
    let yes : (sites site == sites site) ≡ true = eq-eqb (sites site) (sites site) refl in
    omega (arith, wanted_spent sites wants site (words_at wants site) (sites site) (omega arith), ap (λ b. words_if b (words_at wants site)) yes)

less_first : (here : Bool) (want : Want) (wants : List Want) (site n other : ℕ) → (want.site == site) ≡ here → words_at (spent wants site n) other ≤ words_at wants other → words_at (spent (want ∷ wants) site n) other ≤ words_at (want ∷ wants) other
less_first true want wants site n other is behind =
    rw is (elim (want.site == other) as (λ b. cond b (want.words - n) (words_at wants other) ≤ cond b want.words (words_at wants other)) [ true ↦ omega arith | false ↦ omega arith ])
less_first false want wants site n other is behind =
    rw is (elim (want.site == other) as (λ b. cond b want.words (words_at (spent wants site n) other) ≤ cond b want.words (words_at wants other)) [ true ↦ omega arith | false ↦ behind ])

pub words_at_spent : (wants : List Want) (site n other : ℕ) → words_at (spent wants site n) other ≤ words_at wants other
words_at_spent [] site n other = omega arith
words_at_spent (want ∷ wants) site n other = less_first (want.site == site) want wants site n other refl (words_at_spent wants site n other)

-- what was granted isn't too much
pub taken_with : (words : List (List ℕ)) (sites : ℕ → ℕ) (wants : List Want) (part more : ℕ) → part < length words → more ≤ wanted sites wants part →
    taken words + (blocks_for (length (row words part) + more) - blocks_for (length (row words part))) ≤ blocks (length words) (λ p. length (row words p) + wanted sites wants p)
taken_with words sites wants part more below few =
    let f : ℕ → ℕ = λ p. blocks_for (length (row words p)) in
    let g : ℕ → ℕ = λ p. blocks_for (length (row words p) + wanted sites wants p) in
    let all = range_le f g 0 (length words) part (blocks_for (length (row words part) + more) - blocks_for (length (row words part))) (omega arith) (omega (arith, below)) (λ p. omega arith) (omega (arith, few)) in
    omega (arith, all, taken_is words)

pub not_too_much : (heap : Heap) (site n : ℕ) → IsHeap heap → site < length heap.site_parts → n ≤ words_at heap.granted site → IsTooMuch heap.memory (part_of heap.site_parts site) n → ⊥
not_too_much heap site n is known fits much =
    let least = wanted_least (part_of heap.site_parts) heap.granted site in
    let all = taken_with heap.memory.words (part_of heap.site_parts) heap.granted (part_of heap.site_parts site) n (is.site_within site known) (omega (arith, fits, least)) in
    omega (arith, all, is.room, much)

-- a sum of terms of which one is by so much more
pub range_more : (f g : ℕ → ℕ) (a n q d : ℕ) → a ≤ q → q < a + n → ((p : ℕ) → p ≢ q → g p ≡ f p) → g q ≡ f q + d → sum_by g (range_with_len a n) ≡ sum_by f (range_with_len a n) + d
range_more f g a zero q d low high each more = absurd (omega (arith, low, high))
range_more f g a (suc n) q d low high each more =
    let first = sum_by-cons f a (range_with_len (a + 1) n) in
    let second = sum_by-cons g a (range_with_len (a + 1) n) in
    elim (cases_eq q a) [
      | inl same ↦
          let here : g a ≡ f a + d = subst (λ p. g p ≡ f p + d) same more in
          omega (arith, first, second, here, range_same f g (a + 1) n (λ p low' high'. each p (λ equal. absurd (omega (arith, equal, same, low')))))
      | inr differs ↦ omega (arith, first, second, each a (λ equal. differs (sym equal)), range_more f g (a + 1) n q d (omega (arith, low, differs)) (omega (arith, high)) each more)
    ]

-- an entry more
pub asked_more : (sites : ℕ → ℕ) (wants : List Want) (i : ℕ) (want : Want) (part : ℕ) → slice_get wants i ≡ Some want →
    wanted sites (take (i + 1) wants) part ≡ wanted sites (take i wants) part + words_if (sites want.site == part) want.words
asked_more sites wants i want part is =
    let inside = slice_get_within wants i want is in
    sum_by_more (λ (w : Want). words_if (sites w.site == part) w.words) wants i want inside
    ∙ ap (λ (w : Want). wanted sites (take i wants) part + words_if (sites w.site == part) w.words) (get_or_from_slice_get wants i want want is)

pub asked_here : (sites : ℕ → ℕ) (wants : List Want) (i : ℕ) (want : Want) (part : ℕ) → slice_get wants i ≡ Some want → sites want.site ≡ part →
    wanted sites (take (i + 1) wants) part ≡ wanted sites (take i wants) part + want.words
asked_here sites wants i want part is here =
    let yes = eq-eqb (sites want.site) part here in
    omega (arith, asked_more sites wants i want part is, ap (λ b. words_if b want.words) yes)

pub asked_elsewhere : (sites : ℕ → ℕ) (wants : List Want) (i : ℕ) (want : Want) (part : ℕ) → slice_get wants i ≡ Some want → (sites want.site ≡ part → ⊥) →
    wanted sites (take (i + 1) wants) part ≡ wanted sites (take i wants) part
asked_elsewhere sites wants i want part is differs =
    let no = ne_eqb (sites want.site) part differs in
    omega (arith, asked_more sites wants i want part is, ap (λ b. words_if b want.words) no)

pub blocks_step : (parts : Parted) (site_parts : List ℕ) (wants : List Want) (i : ℕ) (want : Want) (part : ℕ) → slice_get wants i ≡ Some want → part_of site_parts want.site ≡ part → part < length parts.words →
    blocks_of_all parts site_parts (take (i + 1) wants)
    ≡ blocks_of_all parts site_parts (take i wants) + (blocks_for (length (row parts.words part) + wanted (part_of site_parts) (take i wants) part + want.words) - blocks_for (length (row parts.words part) + wanted (part_of site_parts) (take i wants) part))
blocks_step parts site_parts wants i want part is here below =
    range_more (λ p. blocks_for (length (row parts.words p) + wanted (part_of site_parts) (take i wants) p)) (λ p. blocks_for (length (row parts.words p) + wanted (part_of site_parts) (take (i + 1) wants) p)) 0 (length parts.words) part
    (blocks_for (length (row parts.words part) + wanted (part_of site_parts) (take i wants) part + want.words) - blocks_for (length (row parts.words part) + wanted (part_of site_parts) (take i wants) part))
    (omega arith) (omega (arith, below))
    (λ p differs. ap (λ n. blocks_for (length (row parts.words p) + n)) (asked_elsewhere (part_of site_parts) wants i want p is (λ same. differs (sym same ∙ here))))
    (omega (arith, asked_here (part_of site_parts) wants i want part is here))

-- nothing is asked for
pub nothing_asked : (words : List (List ℕ)) (site_parts : List ℕ) → taken words ≡ blocks (length words) (λ p. length (row words p) + wanted (part_of site_parts) [] p)
nothing_asked words site_parts = taken_is words ∙ ap (blocks (length words)) (fun_ext (λ p. let e : length (row words p) ≡ length (row words p) + 0 = omega arith in e))

-- what holds of all items holds of each
pub at_all : {X : Type 0} (P : X → Type 0) (xs : List X) (i : ℕ) (x : X) → All P xs → slice_get xs i ≡ Some x → P x
at_all {X} P xs i x all is = subst P (get_or_from_slice_get xs i x x is) (all i x (slice_get_within xs i x is))

-- all that is asked for is asked for in some part
range_zero : (a n : ℕ) → sum_by (λ (p : ℕ). 0) (range_with_len a n) ≡ 0
range_zero a zero = refl
range_zero a (suc n) = omega (arith, sum_by-cons (λ (p : ℕ). 0) a (range_with_len (a + 1) n), range_zero (a + 1) n)

wanted_sum : (sites : ℕ → ℕ) (count : ℕ) (wants : List Want) → AllByRecursion (λ want. sites want.site < count) wants → sum_by (wanted sites wants) (range_with_len 0 count) ≡ words_granted wants
wanted_sum sites count [] all = range_zero 0 count
wanted_sum sites count (want ∷ wants) all =
    let more : (p : ℕ) → wanted sites (want ∷ wants) p ≡ words_if (sites want.site == p) want.words + wanted sites wants p = λ p. sum_by-cons (λ (w : Want). words_if (sites w.site == p) w.words) want wants in
    let first : words_granted (want ∷ wants) ≡ want.words + words_granted wants = sum_by-cons (λ (w : Want). w.words) want wants in
    let yes : words_if (sites want.site == sites want.site) want.words ≡ want.words = ap (λ b. words_if b want.words) (eq-eqb (sites want.site) (sites want.site) refl) in
    let step = range_more (wanted sites wants) (wanted sites (want ∷ wants)) 0 count (sites want.site) want.words (omega arith) (omega (arith, all.0))
    (λ p differs. let no : words_if (sites want.site == p) want.words ≡ 0 = ap (λ b. words_if b want.words) (ne_eqb (sites want.site) p (λ same. differs (sym same))) in omega (arith, more p, no))
    (omega (arith, more (sites want.site), yes)) in
    omega (arith, first, step, wanted_sum sites count wants all.1)

range_scaled : (f g : ℕ → ℕ) (a n : ℕ) → ((p : ℕ) → f p ≤ 256 * g p) → sum_by f (range_with_len a n) ≤ 256 * sum_by g (range_with_len a n)
range_scaled f g a zero each = omega arith
range_scaled f g a (suc n) each = omega (arith, sum_by-cons f a (range_with_len (a + 1) n), sum_by-cons g a (range_with_len (a + 1) n), each a, range_scaled f g (a + 1) n each)

pub granted_least : (parts : Parted) (site_parts : List ℕ) (wants : List Want) → AllByRecursion (λ want. part_of site_parts want.site < length parts.words) wants → words_granted wants ≤ 256 * blocks_of_all parts site_parts wants
granted_least parts site_parts wants all =
    let most = range_scaled (wanted (part_of site_parts) wants) (λ p. blocks_for (length (row parts.words p) + wanted (part_of site_parts) wants p)) 0 (length parts.words) (λ p. omega arith) in
    omega (arith, most, wanted_sum (part_of site_parts) (length parts.words) wants all)
