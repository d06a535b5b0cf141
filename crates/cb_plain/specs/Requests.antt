-- What room is asked for at once.
use Rattle.std.specs.Prelude.{ℕ, ◌+◌, ◌-◌, ◌^◌, ◌==◌, ◌||◌, Bool, false, List, [], ◌∷◌, min, if◌then◌else◌}
use Rattle.cb_plain.specs.declared.want.Want.{Want}

-- words are counted as far as this
abbrev pub most_words : ℕ
most_words = 2 ^ 40

-- each site once, in the order in which they come, with the sum of its words, as far as they are counted
abbrev pub add_want : List Want → Want → List Want
add_want [] want = record { site = want.site; words = min want.words most_words } ∷ []
add_want (old ∷ wants) want =
    if old.site == want.site then record { site = old.site; words = min (old.words + want.words) most_words } ∷ wants
    else old ∷ add_want wants want

-- whether a site is there
abbrev pub has_site : ℕ → List Want → Bool
has_site site [] = false
has_site site (want ∷ wants) = want.site == site || has_site site wants

-- how many words there are for a site
abbrev pub words_at : List Want → ℕ → ℕ
words_at [] site = 0
words_at (want ∷ wants) site = if want.site == site then want.words else words_at wants site

-- what is left when so many of them are taken
abbrev pub spent : List Want → ℕ → ℕ → List Want
spent [] site words = []
spent (want ∷ wants) site words =
    if want.site == site then record { site = want.site; words = want.words - words } ∷ wants else want ∷ spent wants site words
