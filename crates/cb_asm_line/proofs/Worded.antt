-- Lines and their words.
use Rattle.std.proofs.Common.{List, [], ap, arith, length, length-append, refl, subst, sym, ℕ, ◌++◌, ◌+◌, ◌<◌, ◌∙◌, ◌∷◌, ◌≡◌}
use Rattle.std.specs.List.{AllByRecursion, join_with_byte}
use Rattle.cb_asm_line.specs.Inner.{AreWords, IsBare, IsLast, Lacks, begins_quoted}
use Rattle.cb_asm_line.specs.Lines.{Line, Word, space}

-- a quote that stands before the rest stands in the front
front_unquoted : (word rest : List ℕ) → begins_quoted (word ++ space ∷ rest) ≡ begins_quoted word
front_unquoted [] rest = refl
front_unquoted (unit ∷ word) rest = refl

-- so many words of a line are read, and this is left
pub record IsCut (line rest : List ℕ) (words : Line) : Type 0 where
  pub whole : join_with_byte space (words ++ rest ∷ []) ≡ line
  pub bare : AllByRecursion IsBare words

pub begun : (line : List ℕ) → IsCut line line []
begun line = record { whole = refl; bare = tt }

joined_apart : (words : Line) (word behind : List ℕ) → join_with_byte space ((words ++ word ∷ []) ++ behind ∷ []) ≡ join_with_byte space (words ++ (word ++ space ∷ behind) ∷ [])
joined_apart [] word behind = refl
joined_apart (first ∷ []) word behind = refl
joined_apart (first ∷ next ∷ words) word behind = ap (λ rest. first ++ space ∷ rest) (joined_apart (next ∷ words) word behind)

all_more : (words : Line) (word : Word) → AllByRecursion IsBare words → IsBare word → AllByRecursion IsBare (words ++ word ∷ [])
all_more [] word all bare = (bare, tt)
all_more (first ∷ words) word all bare = (all.0, all_more words word all.1 bare)

pub next : (line rest behind : List ℕ) (words : Line) (word : Word) → IsBare word → rest ≡ word ++ space ∷ behind → IsCut line rest words → IsCut line behind (words ++ word ∷ [])
next line rest behind words word bare is cut =
    record { whole = joined_apart words word behind ∙ ap (λ left. join_with_byte space (words ++ left ∷ [])) (sym is) ∙ cut.whole; bare = all_more words word cut.bare bare }

pub shorter : (rest word behind : List ℕ) → rest ≡ word ++ space ∷ behind → length behind < length rest
shorter rest word behind is = let counted : length rest ≡ length word + length (space ∷ behind) = ap length is ∙ length-append word (space ∷ behind) in omega (arith, counted)

pub are_words : (words : Line) (last : Word) → AllByRecursion IsBare words → IsLast last → AreWords (words ++ last ∷ [])
are_words [] last all is = is
are_words (first ∷ []) last all is = (all.0, is)
are_words (first ∷ next ∷ words) last all is = (all.0, are_words (next ∷ words) last all.1 is)

-- a line has one first word
cut_one : (one other rest behind : List ℕ) → Lacks space one → Lacks space other → one ++ space ∷ rest ≡ other ++ space ∷ behind → (one ≡ other) × (rest ≡ behind)
cut_one [] [] rest behind lacks lack is = (refl, cc is)
cut_one [] (unit ∷ other) rest behind lacks lack is = let first : space ≡ unit = cc is in absurd (lack.0 (sym first))
cut_one (unit ∷ one) [] rest behind lacks lack is = let first : unit ≡ space = cc is in absurd (lacks.0 first)
cut_one (unit ∷ one) (first ∷ other) rest behind lacks lack is =
    let same = cut_one one other rest behind lacks.1 lack.1 (cc is) in
    (let head : unit ≡ first = cc is in ap (λ each. each ∷ one) head ∙ ap (λ rest. first ∷ rest) same.0, same.1)

not_lacking : (word rest : List ℕ) → Lacks space (word ++ space ∷ rest) → ⊥
not_lacking [] rest lacks = lacks.0 refl
not_lacking (unit ∷ word) rest lacks = not_lacking word rest lacks.1

not_last : (last word rest : List ℕ) → IsLast last → IsBare word → last ≡ word ++ space ∷ rest → ⊥
not_last last word rest is bare are =
    not_lacking word rest (subst (Lacks space) are (is (ap begins_quoted are ∙ front_unquoted word rest ∙ bare.unquoted)))

-- a line is of one list of words
pub words_one : (one other : Line) → AreWords one → AreWords other → join_with_byte space one ≡ join_with_byte space other → one ≡ other
words_one [] other are have is = absurd are
words_one (word ∷ one) [] are have is = absurd have
words_one (word ∷ []) (first ∷ []) are have is = ap (λ each. each ∷ []) is
words_one (word ∷ []) (first ∷ second ∷ other) are have is = absurd (not_last word first (join_with_byte space (second ∷ other)) are have.0 is)
words_one (word ∷ next ∷ one) (first ∷ []) are have is = absurd (not_last first word (join_with_byte space (next ∷ one)) have are.0 (sym is))
words_one (word ∷ next ∷ one) (first ∷ second ∷ other) are have is =
    let same = cut_one word first (join_with_byte space (next ∷ one)) (join_with_byte space (second ∷ other)) are.0.whole have.0.whole is in
    ap (λ each. each ∷ next ∷ one) same.0 ∙ ap (λ rest. first ∷ rest) (words_one (next ∷ one) (second ∷ other) are.1 have.1 same.1)
