-- Room that covers what is wanted goes on to cover it, one object after the other.
use Rattle.std.proofs.Common.{◌≡◌, ap, refl, sym, subst, arith, ℕ, suc, ◌+◌, ◌-◌, ◌<◌, ◌≤◌, ◌==◌, Bool, true, false, List, [], ◌∷◌, ◌++◌, length, min, Some}
use Rattle.std.proofs.lemmas.Bool.{eq-eqb, eqb-true}
use Rattle.std.specs.List.{AllByRecursion, flat_map, fold}
use Rattle.std.specs.Prelude.{slice_get, if◌then◌else◌}
use Rattle.cb_machine.specs.Sites.{argument_characters, argument_strings}
use Rattle.cb_plain.specs.Requests.{add_want, most_words, spent, words_at}
use Rattle.cb_plain.specs.declared.want.Want.{Want}
use Rattle.cb_plain.specs.State.{words_of}
use Rattle.cb_interp.specs.Arguments.{AskedFor, Covers, TheArray, WithTexts, all_wants, stream_wants, text_wants, wanted_at}

-- ---- words that are asked for

added_here : (wants : List Want) (want : Want) → words_at (add_want wants want) want.site ≡ min (words_at wants want.site + want.words) most_words
added_here [] want = rw (eq-eqb want.site want.site refl) (ap (λ (words : ℕ). min words most_words) (let same : want.words ≡ 0 + want.words = omega arith in same))
added_here (old ∷ wants) want = go (old.site == want.site) refl (added_here wants want) where
  go : (is : Bool) → (old.site == want.site) ≡ is → words_at (add_want wants want) want.site ≡ min (words_at wants want.site + want.words) most_words
      → words_at (add_want (old ∷ wants) want) want.site ≡ min (words_at (old ∷ wants) want.site + want.words) most_words
  go true is behind = rw is (rw is refl)
  go false is behind = rw is (rw is behind)

other_site : (one two site : ℕ) → (one == two) ≡ true → (two == site) ≡ false → (one == site) ≡ false
other_site one two site same other = subst (λ (number : ℕ). (number == site) ≡ false) (sym (eqb-true one two same)) other

added_there : (wants : List Want) (want : Want) (site : ℕ) → (want.site == site) ≡ false → words_at (add_want wants want) site ≡ words_at wants site
added_there [] want site other = rw other refl
added_there (old ∷ wants) want site other = go (old.site == want.site) refl (added_there wants want site other) where
  go : (is : Bool) → (old.site == want.site) ≡ is → words_at (add_want wants want) site ≡ words_at wants site
      → words_at (add_want (old ∷ wants) want) site ≡ words_at (old ∷ wants) site
  go true is behind =
      let not : (old.site == site) ≡ false = other_site old.site want.site site is other in
      rw (is, not) refl
  go false is behind = rw is (ap (λ (rest : ℕ). if old.site == site then old.words else rest) behind)

asked_words : (wants : List Want) (all : List Want) (site : ℕ) → min (words_at wants site + wanted_at site all) most_words ≤ words_at (fold add_want wants all) site
asked_words wants [] site = omega arith
asked_words wants (want ∷ all) site = go (want.site == site) refl (asked_words (add_want wants want) all site) where
  go : (is : Bool) → (want.site == site) ≡ is → min (words_at (add_want wants want) site + wanted_at site all) most_words ≤ words_at (fold add_want (add_want wants want) all) site
      → min (words_at wants site + ((if want.site == site then want.words else 0) + wanted_at site all)) most_words ≤ words_at (fold add_want (add_want wants want) all) site
  go true is below =
      let here : words_at (add_want wants want) site ≡ min (words_at wants site + want.words) most_words =
      subst (λ (site : ℕ). words_at (add_want wants want) site ≡ min (words_at wants site + want.words) most_words) (eqb-true want.site site is) (added_here wants want) in
      rw is (omega (arith, below, here))
  go false is below =
      let there : words_at (add_want wants want) site ≡ words_at wants site = added_there wants want site is in
      rw is (omega (arith, below, there))

few_words : (wants : List Want) → ((want : Want) → (place : ℕ) → slice_get wants place ≡ Some want → want.words < most_words) → (site : ℕ) → words_at wants site < most_words
few_words [] each site = omega arith
few_words (want ∷ wants) each site = go (want.site == site) refl (few_words wants (λ other place there. each other (suc place) there) site) where
  go : (is : Bool) → (want.site == site) ≡ is → words_at wants site < most_words → words_at (want ∷ wants) site < most_words
  go true is behind = rw is (each want 0 refl)
  go false is behind = rw is behind

-- what is granted as it was asked for covers it, where no entry has reached the limit of what is counted
pub covers_asked : (granted all : List Want) → granted ≡ fold add_want [] all
    → ((want : Want) → (place : ℕ) → slice_get granted place ≡ Some want → want.words < most_words) → Covers granted all
covers_asked granted all is each site =
    let low : words_at granted site < most_words = few_words granted each site in
    let enough : min (0 + wanted_at site all) most_words ≤ words_at granted site =
    subst (λ (granted : List Want). min (0 + wanted_at site all) most_words ≤ words_at granted site) (sym is) (asked_words [] all site) in
    omega (arith, low, enough)

-- ---- words that are taken

pub spent_here : (wants : List Want) (site words : ℕ) → words_at (spent wants site words) site ≡ words_at wants site - words
spent_here [] site words = let none : 0 ≡ 0 - words = omega arith in none
spent_here (want ∷ wants) site words = go (want.site == site) refl (spent_here wants site words) where
  go : (is : Bool) → (want.site == site) ≡ is → words_at (spent wants site words) site ≡ words_at wants site - words
      → words_at (spent (want ∷ wants) site words) site ≡ words_at (want ∷ wants) site - words
  go true is behind = rw is (rw is refl)
  go false is behind = rw is (rw is behind)

pub spent_there : (wants : List Want) (one words site : ℕ) → (one == site) ≡ false → words_at (spent wants one words) site ≡ words_at wants site
spent_there [] one words site other = refl
spent_there (want ∷ wants) one words site other = go (want.site == one) refl (spent_there wants one words site other) where
  go : (is : Bool) → (want.site == one) ≡ is → words_at (spent wants one words) site ≡ words_at wants site
      → words_at (spent (want ∷ wants) one words) site ≡ words_at (want ∷ wants) site
  go true is behind =
      let not : (want.site == site) ≡ false = other_site want.site one site is other in
      rw (is, not) refl
  go false is behind = rw is (ap (λ (rest : ℕ). if want.site == site then want.words else rest) behind)

-- there is room for the first of what is wanted, and then for the others
pub covers_first : (granted : List Want) (want : Want) (wants : List Want) → Covers granted (want ∷ wants) → want.words ≤ words_at granted want.site
covers_first granted want wants covers =
    let own : (want.site == want.site) ≡ true = eq-eqb want.site want.site refl in
    let enough : want.words + wanted_at want.site wants ≤ words_at granted want.site =
    subst (λ (is : Bool). (if is then want.words else 0) + wanted_at want.site wants ≤ words_at granted want.site) own (covers want.site) in
    omega (arith, enough)

pub covers_rest : (granted : List Want) (want : Want) (wants : List Want) → Covers granted (want ∷ wants) → Covers (spent granted want.site want.words) wants
covers_rest granted want wants covers site = go (want.site == site) refl (covers site) where
  go : (is : Bool) → (want.site == site) ≡ is → (if want.site == site then want.words else 0) + wanted_at site wants ≤ words_at granted site
      → wanted_at site wants ≤ words_at (spent granted want.site want.words) site
  go true is enough =
      let here : words_at (spent granted want.site want.words) site ≡ words_at granted site - want.words =
      subst (λ (site : ℕ). words_at (spent granted want.site want.words) site ≡ words_at granted site - want.words) (eqb-true want.site site is)
      (spent_here granted want.site want.words) in
      let all : want.words + wanted_at site wants ≤ words_at granted site =
      subst (λ (is : Bool). (if is then want.words else 0) + wanted_at site wants ≤ words_at granted site) is enough in
      omega (arith, here, all)
  go false is enough =
      let there : words_at (spent granted want.site want.words) site ≡ words_at granted site = spent_there granted want.site want.words site is in
      let all : 0 + wanted_at site wants ≤ words_at granted site =
      subst (λ (is : Bool). (if is then want.words else 0) + wanted_at site wants ≤ words_at granted site) is enough in
      omega (arith, there, all)

-- and so for a text
module _ (granted : List Want) (units : List ℕ) (rest : List Want) (covers : Covers granted (text_wants units ++ rest)) where
  abbrev characters : Want
  characters = record { site = argument_characters; words = words_of (length units) }

  abbrev string : Want
  string = record { site = argument_strings; words = words_of 1 }

  pub room_characters : words_of (length units) ≤ words_at granted argument_characters
  room_characters = covers_first granted characters (string ∷ rest) covers

  pub room_string : words_of 1 ≤ words_at (spent granted argument_characters (words_of (length units))) argument_strings
  room_string = covers_first (spent granted argument_characters (words_of (length units))) string rest (covers_rest granted characters (string ∷ rest) covers)

  pub room_behind : Covers (spent (spent granted argument_characters (words_of (length units))) argument_strings (words_of 1)) rest
  room_behind = covers_rest (spent granted argument_characters (words_of (length units))) string rest (covers_rest granted characters (string ∷ rest) covers)

-- ---- how many sites there are

pub added_length : (wants : List Want) (want : Want) → length (add_want wants want) ≤ length wants + 1
added_length [] want = omega arith
added_length (old ∷ wants) want = go (old.site == want.site) refl (added_length wants want) where
  go : (is : Bool) → (old.site == want.site) ≡ is → length (add_want wants want) ≤ length wants + 1 → length (add_want (old ∷ wants) want) ≤ length (old ∷ wants) + 1
  go true is behind = rw is (omega arith)
  go false is behind = rw is (omega (arith, behind))

pub few_asked : (wants : List Want) → AskedFor wants → length wants < 4
few_asked wants (TheArray words) = omega arith
few_asked wants (WithTexts words characters strings) = omega arith

pub asked_more : (wants : List Want) (units : List ℕ) → AskedFor wants → AskedFor (fold add_want wants (text_wants units))
asked_more wants units (TheArray words) = WithTexts words (min (words_of (length units)) most_words) (min (words_of 1) most_words)
asked_more wants units (WithTexts words characters strings) = WithTexts words (min (characters + words_of (length units)) most_words) (min (strings + words_of 1) most_words)

-- ---- what is so of the sites of what is wanted is so of what is asked for

module _ (P : ℕ → Type 0) where
  abbrev AllSites : List Want → Type 0
  AllSites wants = AllByRecursion (λ (want : Want). P want.site) wants

  added_sites : (wants : List Want) (want : Want) → AllSites wants → P want.site → AllSites (add_want wants want)
  added_sites [] want all is = (is, tt)
  added_sites (old ∷ wants) want all is = go (old.site == want.site) refl (added_sites wants want all.1 is) where
    go : (same : Bool) → (old.site == want.site) ≡ same → AllSites (add_want wants want) → AllSites (add_want (old ∷ wants) want)
    go true same behind = rw same (all.0, all.1)
    go false same behind = rw same (all.0, behind)

  pub asked_sites : (all wants : List Want) → AllSites wants → AllSites all → AllSites (fold add_want wants all)
  asked_sites [] wants own each = own
  asked_sites (want ∷ all) wants own each = asked_sites all (add_want wants want) (added_sites wants want own each.0) each.1

  texts_sites : (given : List (List ℕ)) → ((site : ℕ) → site < 5 → P site) → AllSites (flat_map text_wants given ++ stream_wants)
  texts_sites [] each = (each 3 (omega arith), (each 4 (omega arith), tt))
  texts_sites (units ∷ given) each = (each 2 (omega arith), (each 1 (omega arith), texts_sites given each))

  pub first_sites : (given : List (List ℕ)) → ((site : ℕ) → site < 5 → P site) → AllSites (fold add_want [] (all_wants given))
  first_sites given each = asked_sites (all_wants given) [] tt (each 0 (omega arith), texts_sites given each)
