-- What is asked for of arrays of arrays covers what is placed.
use Rattle.std.proofs.Common.{◌≡◌, ◌∙◌, add-one, ap, refl, sym, subst, arith, inl, inr, ℕ, zero, suc, ◌+◌, ◌-◌, ◌*◌, ◌/◌, ◌^◌, ◌<◌, ◌≤◌, ◌==◌, Bool, true, false, List, [], ◌∷◌, ◌++◌, length, min, mul-le-mul_left, mul-le-mul_right}
use Rattle.std.specs.Prelude.{if◌then◌else◌}
use Rattle.std.proofs.lemmas.Bool.{cases_lt, eq-eqb, eqb-true}
use Rattle.std.proofs.lemmas.Grind.{flat_map-append}
use Rattle.std.proofs.lemmas.List.Sums.{sum_by-cons}
use Rattle.std.specs.List.{AllByRecursion, flat_map, fold}
use Rattle.cb_heap.specs.Grants.{words_granted}
use Rattle.cb_link.specs.Program.{Linked}
use Rattle.cb_machine.specs.Creating.{blank_element}
use Rattle.cb_machine.specs.Machine.{Machine, kind_of_site}
use Rattle.cb_machine.specs.Plans.{Alike, Rows, asked, wants_of}
use Rattle.cb_plain.specs.Requests.{add_want, most_words, spent, words_at}
use Rattle.cb_plain.specs.State.{Content, State, words_of}
use Rattle.cb_plain.specs.declared.want.Want.{Want}
use Rattle.cb_interp.specs.Arguments.{Covers, wanted_at}
use Rattle.cb_interp.specs.Nested.{Grid, count_of, first_of, last_placed, makes_nested, nested_wants, rows_placed, rows_wants, size_of, spent_rows}
use Rattle.cb_act.proofs.Laws.{all_joined}
use Rattle.cb_interp.proofs.TurnsStartingRoom.{added_length, asked_sites, spent_here, spent_there}

-- ---- words are counted as far as a request counts them

pub counted_alike : (wants : List Want) (site words : ℕ)
    → add_want wants (record { site = site; words = min words (2 ^ 64 - 1) }) ≡ add_want wants (record { site = site; words = words })
counted_alike [] site words =
    let same : min (min words (2 ^ 64 - 1)) most_words ≡ min words most_words = omega arith in
    ap (λ (words : ℕ). record { site = site; words = words } ∷ []) same
counted_alike (old ∷ wants) site words = go (old.site == site) refl (counted_alike wants site words) where
  go : (is : Bool) → (old.site == site) ≡ is
      → add_want wants (record { site = site; words = min words (2 ^ 64 - 1) }) ≡ add_want wants (record { site = site; words = words })
      → add_want (old ∷ wants) (record { site = site; words = min words (2 ^ 64 - 1) }) ≡ add_want (old ∷ wants) (record { site = site; words = words })
  go true is behind =
      let same : min (old.words + min words (2 ^ 64 - 1)) most_words ≡ min (old.words + words) most_words = omega arith in
      rw is (ap (λ (words : ℕ). record { site = old.site; words = words } ∷ wants) same)
  go false is behind = rw is (ap (λ (rest : List Want). old ∷ rest) behind)

-- where two numbers of words are the same as far as they are counted, they are asked for alike
counted_as : (wants : List Want) (site one other : ℕ) → min one (2 ^ 64 - 1) ≡ min other (2 ^ 64 - 1)
    → add_want wants (record { site = site; words = one }) ≡ add_want wants (record { site = site; words = other })
counted_as wants site one other same =
    sym (counted_alike wants site one) ∙ ap (λ (words : ℕ). add_want wants (record { site = site; words = words })) same ∙ counted_alike wants site other

-- so is a product of a number that is counted as far
pub counted_times : (most count size : ℕ) → min (min count most * size) most ≡ min (count * size) most
counted_times most count zero =
    let one : min count most * 0 ≡ 0 = omega arith in
    let other : count * 0 ≡ 0 = omega arith in
    ap (λ (words : ℕ). min words most) (one ∙ sym other)
counted_times most count (suc size) = elim (cases_lt count most) [
  | inl low ↦
      let same : min count most ≡ count = omega (arith, low) in
      ap (λ (count : ℕ). min (count * suc size) most) same
  | inr high ↦
      let same : min count most ≡ most = omega (arith, high) in
      let one : most * 1 ≤ most * suc size = mul-le-mul_left most (let low : 1 ≤ suc size = omega arith in low) in
      let other : most * suc size ≤ count * suc size = mul-le-mul_right (suc size) high in
      let first : min (most * suc size) most ≡ min (count * suc size) most = omega (arith, one, other) in
      ap (λ (count : ℕ). min (count * suc size) most) same ∙ first
]

-- so many arrays are asked for at once, or none
pub asks_rows : (wants : List Want) (site size count : ℕ) → 0 < count
    → add_want wants (record { site = site; words = min (count * words_of size) (2 ^ 64 - 1) }) ≡ fold add_want wants (rows_wants site size count)
asks_rows wants site size zero some = absurd (omega (arith, some))
asks_rows wants site size (suc count) some =
    counted_alike wants site (suc count * words_of size)
    ∙ ap (λ (count : ℕ). add_want wants (record { site = site; words = count * words_of size })) (sym (add-one count))

pub asks_none : (wants : List Want) (site size count : ℕ) → count ≡ 0 → wants ≡ fold add_want wants (rows_wants site size count)
asks_none wants site size zero none = refl
asks_none wants site size (suc count) none = absurd (omega (arith, none))

-- whether their number was counted or not
pub asks_counted : (wants : List Want) (site size count : ℕ) → fold add_want wants (rows_wants site size (min count (2 ^ 64 - 1))) ≡ fold add_want wants (rows_wants site size count)
asks_counted wants site size zero = refl
asks_counted wants site size (suc count) =
    let least : 0 < min (suc count) (2 ^ 64 - 1) = omega arith in
    sym (asks_rows wants site size (min (suc count) (2 ^ 64 - 1)) least)
    ∙ ap (λ (words : ℕ). add_want wants (record { site = site; words = words })) (counted_times (2 ^ 64 - 1) (suc count) (words_of size))
    ∙ asks_rows wants site size (suc count) (omega arith)

fold_both : (wants front back : List Want) → fold add_want wants (front ++ back) ≡ fold add_want (fold add_want wants front) back
fold_both wants [] back = refl
fold_both wants (want ∷ front) back = fold_both (add_want wants want) front back

-- one dimension more
pub asks_next : (grid : Grid) (dimension : ℕ) (wants : List Want) → wants ≡ fold add_want [] (nested_wants grid dimension)
    → fold add_want wants (rows_wants (grid.site dimension) (size_of grid.sizes dimension) (count_of grid.sizes dimension)) ≡ fold add_want [] (nested_wants grid (dimension + 1))
asks_next grid dimension wants is =
    ap (λ (wants : List Want). fold add_want wants (rows_wants (grid.site dimension) (size_of grid.sizes dimension) (count_of grid.sizes dimension))) is
    ∙ sym (fold_both [] (nested_wants grid dimension) (rows_wants (grid.site dimension) (size_of grid.sizes dimension) (count_of grid.sizes dimension)))
    ∙ ap (λ (next : ℕ). fold add_want [] (nested_wants grid next)) (sym (add-one dimension))

pub rows_short : (wants : List Want) (site size count : ℕ) → length (fold add_want wants (rows_wants site size count)) ≤ length wants + 1
rows_short wants site size zero = omega arith
rows_short wants site size (suc count) = added_length wants (record { site = site; words = (count + 1) * words_of size })

-- ---- what is asked for is what the step asks for

rows_as : (site kind first size count : ℕ) → flat_map wants_of (Rows site kind first size count ∷ []) ≡ rows_wants site size count
rows_as site kind first size zero = refl
rows_as site kind first size (suc count) = refl

alike_as : (site kind : ℕ) (content : Content) (size count : ℕ) → flat_map wants_of (Alike site kind content size count ∷ []) ≡ rows_wants site size count
alike_as site kind content size zero = refl
alike_as site kind content size (suc count) = refl

wants_above : (program : Linked) (grid : Grid) (first dimension : ℕ) → flat_map wants_of (rows_placed program grid first dimension) ≡ nested_wants grid dimension
wants_above program grid first zero = refl
wants_above program grid first (suc dimension) =
    flat_map-append wants_of (rows_placed program grid first dimension)
    (Rows (grid.site dimension) (kind_of_site program (grid.site dimension)) (first_of grid.sizes first (suc dimension)) (size_of grid.sizes dimension) (count_of grid.sizes dimension) ∷ [])
    ∙ ap (λ (wants : List Want). wants ++ flat_map wants_of
    (Rows (grid.site dimension) (kind_of_site program (grid.site dimension)) (first_of grid.sizes first (suc dimension)) (size_of grid.sizes dimension) (count_of grid.sizes dimension) ∷ []))
    (wants_above program grid first dimension)
    ∙ ap (λ (wants : List Want). nested_wants grid dimension ++ wants)
    (rows_as (grid.site dimension) (kind_of_site program (grid.site dimension)) (first_of grid.sizes first (suc dimension)) (size_of grid.sizes dimension) (count_of grid.sizes dimension))

pub asks_nested : (machine : Machine) (state : State) (grid : Grid) (last pc : ℕ) → asked (makes_nested machine state grid last pc) ≡ fold add_want [] (nested_wants grid (last + 1))
asks_nested machine state grid last pc =
    ap (fold add_want [])
    (flat_map-append wants_of (rows_placed machine.program grid (length state.objects + 1) last) (last_placed machine.program grid last ∷ [])
    ∙ ap (λ (wants : List Want). wants ++ flat_map wants_of (last_placed machine.program grid last ∷ [])) (wants_above machine.program grid (length state.objects + 1) last)
    ∙ ap (λ (wants : List Want). nested_wants grid last ++ wants)
    (alike_as (grid.site last) (kind_of_site machine.program (grid.site last)) (blank_element machine.program (kind_of_site machine.program (grid.site last))) (size_of grid.sizes last) (count_of grid.sizes last))
    ∙ ap (λ (dimensions : ℕ). nested_wants grid dimensions) (sym (add-one last)))

-- something is asked for
pub record IsAsked (wants : List Want) : Type 0 where
  pub first : Want
  pub rest : List Want
  pub is : wants ≡ first ∷ rest

still_asked : (all : List Want) (first : Want) (rest : List Want) → IsAsked (fold add_want (first ∷ rest) all)
still_asked [] first rest = record { first = first; rest = rest; is = refl }
still_asked (want ∷ all) first rest = go (first.site == want.site) refl (still_asked all) where
  go : (is : Bool) → (first.site == want.site) ≡ is → ((first : Want) (rest : List Want) → IsAsked (fold add_want (first ∷ rest) all))
      → IsAsked (fold add_want (first ∷ rest) (want ∷ all))
  go true is further = rw is (further (record { site = first.site; words = min (first.words + want.words) most_words }) rest)
  go false is further = rw is (further first (add_want rest want))

-- of the outermost array at least
begins : (grid : Grid) (last : ℕ) → IsAsked (nested_wants grid (suc last))
begins grid zero = record { first = record { site = grid.site 0; words = (0 + 1) * words_of (size_of grid.sizes 0) }; rest = []; is = refl }
begins grid (suc last) =
    let before = begins grid last in
    let more : List Want = rows_wants (grid.site (suc last)) (size_of grid.sizes (suc last)) (count_of grid.sizes (suc last)) in
    record { first = before.first; rest = before.rest ++ more; is = ap (λ (wants : List Want). wants ++ more) before.is }

pub nested_asked : (grid : Grid) (last : ℕ) → IsAsked (fold add_want [] (nested_wants grid (last + 1)))
nested_asked grid last =
    let before = begins grid last in
    let is : nested_wants grid (last + 1) ≡ before.first ∷ before.rest = ap (λ (dimensions : ℕ). nested_wants grid dimensions) (add-one last) ∙ before.is in
    let asked : IsAsked (fold add_want (record { site = before.first.site; words = min before.first.words most_words } ∷ []) before.rest) =
    still_asked before.rest (record { site = before.first.site; words = min before.first.words most_words }) [] in
    record { first = asked.first; rest = asked.rest; is = ap (fold add_want []) is ∙ asked.is }

-- at the sites of the dimensions
rows_sites : (P : ℕ → Type 0) (site size count : ℕ) → P site → AllByRecursion (λ (want : Want). P want.site) (rows_wants site size count)
rows_sites P site size zero is = tt
rows_sites P site size (suc count) is = (is, tt)

wants_sites : (P : ℕ → Type 0) (grid : Grid) (dimensions : ℕ) → ((dimension : ℕ) → dimension < dimensions → P (grid.site dimension))
    → AllByRecursion (λ (want : Want). P want.site) (nested_wants grid dimensions)
wants_sites P grid zero each = tt
wants_sites P grid (suc dimension) each =
    all_joined (λ (want : Want). P want.site) (nested_wants grid dimension) (rows_wants (grid.site dimension) (size_of grid.sizes dimension) (count_of grid.sizes dimension))
    (wants_sites P grid dimension (λ own low. each own (omega (arith, low))))
    (rows_sites P (grid.site dimension) (size_of grid.sizes dimension) (count_of grid.sizes dimension) (each dimension (omega arith)))

pub nested_sites : (P : ℕ → Type 0) (grid : Grid) (dimensions : ℕ) → ((dimension : ℕ) → dimension < dimensions → P (grid.site dimension))
    → AllByRecursion (λ (want : Want). P want.site) (fold add_want [] (nested_wants grid dimensions))
nested_sites P grid dimensions each = asked_sites P (nested_wants grid dimensions) [] tt (wants_sites P grid dimensions each)

-- ---- how many words are wanted at a site

abbrev share : (site own words : ℕ) → ℕ
share site own words = if own == site then words else 0

wanted_both : (site : ℕ) (front back : List Want) → wanted_at site (front ++ back) ≡ wanted_at site front + wanted_at site back
wanted_both site [] back = let same : wanted_at site back ≡ 0 + wanted_at site back = omega arith in same
wanted_both site (want ∷ front) back =
    let rest = wanted_both site front back in
    let own : ℕ = share site want.site want.words in
    let same : own + wanted_at site (front ++ back) ≡ own + wanted_at site front + wanted_at site back = omega (arith, rest) in
    same

wanted_rows : (site own size count : ℕ) → wanted_at site (rows_wants own size count) ≡ share site own (count * words_of size)
wanted_rows site own size zero = go (own == site) refl where
  go : (is : Bool) → (own == site) ≡ is → 0 ≡ share site own (0 * words_of size)
  go true is = rw is (let none : 0 ≡ 0 * words_of size = omega arith in none)
  go false is = rw is refl
wanted_rows site own size (suc count) = go (own == site) refl where
  go : (is : Bool) → (own == site) ≡ is → share site own ((count + 1) * words_of size) + 0 ≡ share site own (suc count * words_of size)
  go true is = rw is (let all : (count + 1) * words_of size + 0 ≡ suc count * words_of size = omega arith in all)
  go false is = rw is refl

module _ (grid : Grid) where
  abbrev own_words : ℕ → ℕ
  own_words dimension = count_of grid.sizes dimension * words_of (size_of grid.sizes dimension)

  wanted_next : (site dimension : ℕ) → wanted_at site (nested_wants grid (suc dimension)) ≡ wanted_at site (nested_wants grid dimension) + share site (grid.site dimension) (own_words dimension)
  wanted_next site dimension =
      wanted_both site (nested_wants grid dimension) (rows_wants (grid.site dimension) (size_of grid.sizes dimension) (count_of grid.sizes dimension))
      ∙ ap (λ (words : ℕ). wanted_at site (nested_wants grid dimension) + words) (wanted_rows site (grid.site dimension) (size_of grid.sizes dimension) (count_of grid.sizes dimension))

  wanted_more : (site dimension dimensions : ℕ) → dimension ≤ dimensions → wanted_at site (nested_wants grid dimension) ≤ wanted_at site (nested_wants grid dimensions)
  wanted_more site dimension zero low =
      let same : dimension ≡ 0 = omega (arith, low) in
      subst (λ (own : ℕ). wanted_at site (nested_wants grid own) ≤ 0) (sym same) (omega arith)
  wanted_more site dimension (suc dimensions) low = elim (cases_lt dimension (suc dimensions)) [
    | inl below ↦
        let before = wanted_more site dimension dimensions (omega (arith, below)) in
        let next = wanted_next site dimensions in
        omega (arith, before, next)
    | inr at ↦
        let same : suc dimensions ≡ dimension = omega (arith, low, at) in
        subst (λ (own : ℕ). wanted_at site (nested_wants grid own) ≤ wanted_at site (nested_wants grid (suc dimensions))) same (omega arith)
  ]

-- ---- room that is taken

pub few_at : (wants : List Want) (site : ℕ) → words_at wants site ≤ words_granted wants
few_at [] site = omega arith
few_at (want ∷ wants) site = go (want.site == site) refl (few_at wants site) where
  go : (is : Bool) → (want.site == site) ≡ is → words_at wants site ≤ words_granted wants → words_at (want ∷ wants) site ≤ words_granted (want ∷ wants)
  go true is below =
      let more = sum_by-cons (λ (want : Want). want.words) want wants in
      let own : want.words ≤ words_granted (want ∷ wants) = omega (arith, more) in
      rw is own
  go false is below =
      let more = sum_by-cons (λ (want : Want). want.words) want wants in
      let own : words_at wants site ≤ words_granted (want ∷ wants) = omega (arith, more, below) in
      rw is own

pub spent_next : (granted : List Want) (site words count : ℕ) → spent (spent_rows granted site words count) site words ≡ spent_rows granted site words (count + 1)
spent_next granted site words count = go count granted ∙ ap (spent_rows granted site words) (sym (add-one count)) where
  go : (count : ℕ) (granted : List Want) → spent (spent_rows granted site words count) site words ≡ spent_rows granted site words (suc count)
  go zero granted = refl
  go (suc count) granted = go count (spent granted site words)

pub spent_more : (granted : List Want) (site words some more : ℕ) → spent_rows (spent_rows granted site words some) site words more ≡ spent_rows granted site words (some + more)
spent_more granted site words zero more = let same : more ≡ 0 + more = omega arith in ap (spent_rows granted site words) same
spent_more granted site words (suc some) more =
    let same : suc (some + more) ≡ suc some + more = omega arith in
    spent_more (spent granted site words) site words some more ∙ ap (spent_rows granted site words) same

spent_all : (granted : List Want) (site words count : ℕ) → words_at (spent_rows granted site words count) site ≡ words_at granted site - count * words
spent_all granted site words zero = let same : words_at granted site ≡ words_at granted site - 0 * words = omega arith in same
spent_all granted site words (suc count) =
    let rest = spent_all (spent granted site words) site words count in
    let one = spent_here granted site words in
    let apart : suc count * words ≡ count * words + words = omega arith in
    omega (arith, rest, one, apart)

-- there is room for one more where there is for all
pub row_room : (granted : List Want) (site words count done : ℕ) → done < count → count * words ≤ words_at granted site → words ≤ words_at (spent_rows granted site words done) site
row_room granted site words count done low enough =
    let left = spent_all granted site words done in
    let some : done + 1 ≤ count = omega (arith, low) in
    let more = mul-le-mul_right words some in
    let apart : (done + 1) * words ≡ done * words + words = omega arith in
    omega (arith, left, more, apart, enough)

-- and for as many as one array has words
pub rows_room : (granted : List Want) (site words count size turn : ℕ) → turn < count → count * size * words ≤ words_at granted site
    → size * words ≤ words_at (spent_rows granted site words (turn * size)) site
rows_room granted site words count size turn low enough =
    let left = spent_all granted site words (turn * size) in
    let some : turn + 1 ≤ count = omega (arith, low) in
    let more = mul-le-mul_right words (mul-le-mul_right size some) in
    let apart : (turn + 1) * size ≡ turn * size + size = omega arith in
    let both : (turn * size + size) * words ≡ turn * size * words + size * words = omega arith in
    let all : turn * size * words + size * words ≤ count * size * words =
    subst (λ (most : ℕ). most ≤ count * size * words) both (subst (λ (number : ℕ). number * words ≤ count * size * words) apart more) in
    omega (arith, left, all, enough)

spent_least : (granted : List Want) (own words site : ℕ) → words_at granted site ≤ words_at (spent granted own words) site + share site own words
spent_least granted own words site = go (own == site) refl where
  go : (is : Bool) → (own == site) ≡ is → words_at granted site ≤ words_at (spent granted own words) site + share site own words
  go true is =
      let here : words_at (spent granted own words) site ≡ words_at granted site - words =
      subst (λ (site : ℕ). words_at (spent granted own words) site ≡ words_at granted site - words) (eqb-true own site is) (spent_here granted own words) in
      rw is (omega (arith, here))
  go false is =
      let there = spent_there granted own words site is in
      rw is (omega (arith, there))

spent_share : (site own words count : ℕ) → share site own (suc count * words) ≡ share site own words + share site own (count * words)
spent_share site own words count = go (own == site) refl where
  go : (is : Bool) → (own == site) ≡ is → share site own (suc count * words) ≡ share site own words + share site own (count * words)
  go true is = rw is (let apart : suc count * words ≡ words + count * words = omega arith in apart)
  go false is = rw is refl

spent_rows_least : (granted : List Want) (own words count site : ℕ) → words_at granted site ≤ words_at (spent_rows granted own words count) site + share site own (count * words)
spent_rows_least granted own words zero site = omega arith
spent_rows_least granted own words (suc count) site =
    let first = spent_least granted own words site in
    let rest = spent_rows_least (spent granted own words) own words count site in
    let both = spent_share site own words count in
    omega (arith, first, rest, both)

-- what is left covers the dimensions that are left
abbrev pub RoomLeft : List Want → Grid → (dimensions dimension : ℕ) → Type 0
RoomLeft granted grid dimensions dimension =
    (site : ℕ) → wanted_at site (nested_wants grid dimensions) ≤ words_at granted site + wanted_at site (nested_wants grid dimension)

pub room_first : (granted : List Want) (grid : Grid) (dimensions : ℕ) → Covers granted (nested_wants grid dimensions) → RoomLeft granted grid dimensions 0
room_first granted grid dimensions covers site = let enough = covers site in omega (arith, enough)

pub room_here : (granted : List Want) (grid : Grid) (dimensions dimension : ℕ) → dimension < dimensions → RoomLeft granted grid dimensions dimension
    → count_of grid.sizes dimension * words_of (size_of grid.sizes dimension) ≤ words_at granted (grid.site dimension)
room_here granted grid dimensions dimension low left =
    let site : ℕ = grid.site dimension in
    let enough = left site in
    let more = wanted_more grid site (suc dimension) dimensions (omega (arith, low)) in
    let own : (grid.site dimension == site) ≡ true = eq-eqb (grid.site dimension) site refl in
    let next : wanted_at site (nested_wants grid (suc dimension)) ≡ wanted_at site (nested_wants grid dimension) + own_words grid dimension =
    wanted_next grid site dimension ∙ ap (λ (is : Bool). wanted_at site (nested_wants grid dimension) + (if is then own_words grid dimension else 0)) own in
    omega (arith, enough, more, next)

pub room_next : (granted : List Want) (grid : Grid) (dimensions dimension : ℕ) → RoomLeft granted grid dimensions dimension
    → RoomLeft (spent_rows granted (grid.site dimension) (words_of (size_of grid.sizes dimension)) (count_of grid.sizes dimension)) grid dimensions (dimension + 1)
room_next granted grid dimensions dimension left site =
    let enough = left site in
    let least = spent_rows_least granted (grid.site dimension) (words_of (size_of grid.sizes dimension)) (count_of grid.sizes dimension) site in
    let next = ap (λ (own : ℕ). wanted_at site (nested_wants grid own)) (add-one dimension) ∙ wanted_next grid site dimension in
    omega (arith, enough, least, next)

-- ---- serials

granted_words : (granted : List Want) (site words : ℕ) → words ≤ words_at granted site → words_granted (spent granted site words) + words ≡ words_granted granted
granted_words [] site words low = omega (arith, low)
granted_words (want ∷ wants) site words low = go (want.site == site) refl (granted_words wants site words) low where
  sum : (want : Want) (wants : List Want) → words_granted (want ∷ wants) ≡ want.words + words_granted wants
  sum want wants = sum_by-cons (λ (want : Want). want.words) want wants

  go : (is : Bool) → (want.site == site) ≡ is → (words ≤ words_at wants site → words_granted (spent wants site words) + words ≡ words_granted wants)
      → words ≤ words_at (want ∷ wants) site → words_granted (spent (want ∷ wants) site words) + words ≡ words_granted (want ∷ wants)
  go true is rest low =
      let own : words ≤ want.words = subst (λ (is : Bool). words ≤ (if is then want.words else words_at wants site)) is low in
      let all = sum want wants in
      let left : words_granted (record { site = want.site; words = want.words - words } ∷ wants) ≡ want.words - words + words_granted wants =
      sum (record { site = want.site; words = want.words - words }) wants in
      rw is (omega (arith, own, all, left))
  go false is rest low =
      let own : words ≤ words_at wants site = subst (λ (is : Bool). words ≤ (if is then want.words else words_at wants site)) is low in
      let before = rest own in
      let all = sum want wants in
      let left : words_granted (want ∷ spent wants site words) ≡ want.words + words_granted (spent wants site words) = sum want (spent wants site words) in
      rw is (omega (arith, before, all, left))

-- each array takes three words at least, and one serial
pub serials_next : (objects more : ℕ) (granted : List Want) (site size : ℕ) → more ≡ objects + 1 → words_of size ≤ words_at granted site → objects + 1 + words_granted granted / 3 < 2 ^ 63
    → more + 1 + words_granted (spent granted site (words_of size)) / 3 < 2 ^ 63
serials_next objects more granted site size is low few =
    let words = granted_words granted site (words_of size) low in
    let three : 3 ≤ words_of size = omega arith in
    omega (arith, is, words, three, few)

-- so their number was counted
pub count_few : (objects : ℕ) (granted : List Want) (site size count : ℕ) → objects + 1 + words_granted granted / 3 < 2 ^ 63 → count * words_of size ≤ words_at granted site
    → min count (2 ^ 64 - 1) ≡ count
count_few objects granted site size count few enough =
    let most = few_at granted site in
    let three : 3 ≤ words_of size = omega arith in
    let each = mul-le-mul_left count three in
    omega (arith, few, enough, most, each)
