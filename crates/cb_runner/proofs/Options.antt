-- Options at the front of words.
use Rattle.std.proofs.Common.{◌≡◌, ◌∙◌, ap, refl, sym, subst, codes, drop, false, is_some, if◌then◌else◌, ℕ, List, ◌∷◌, ◌++◌, Option, Some, None, MatchOption}
use Rattle.std.specs.Str.{bytes_eq}
use Rattle.std.specs.Str.Parse.{digits_value}
use Rattle.cb_runner.specs.Inner.{AddsFirst, TakesAll, TellsOption}
use Rattle.cb_runner.specs.Words.{Adds, AddsOption, Given, IsOption, More, NoMore, OfBlocks, OfFrames, OfSteps, TellsNumber}
use Rattle.cb_runner.proofs.FewItems.{heads, tails}

-- what is said of a value or its absence says more
pub match_on : {X : Type 0} {None_is None_gives : Type 0} {Some_is Some_gives : X → Type 0} (found : Option X) → MatchOption found None_is Some_is
    → (None_is → None_gives) → ((value : X) → Some_is value → Some_gives value) → MatchOption found None_gives Some_gives
match_on None is none some = none is
match_on (Some value) is none some = some value is

-- an option that stands in front of words has their first word as its name and the second one as its number
pub tells_front : (name : List ℕ) (most value : ℕ) (word number : List ℕ) (behind words : List (List ℕ)) → words ≡ word ∷ number ∷ behind → TellsOption name most value words
    → (name ≡ word) × TellsNumber most value number
tells_front name most value word number behind words is (own, more, same, tells) =
    let both : name ∷ own ∷ more ≡ word ∷ number ∷ behind = sym same ∙ is in
    (heads both, subst (TellsNumber most value) (heads (tails both)) tells)

-- none stands there where none of each name does
none_adds : (given next : Given) (name number : List ℕ) (behind words : List (List ℕ)) → ((value : ℕ) → given.steps ≡ None → TellsOption (codes "--steps") 10000000000 value words → ⊥)
    → ((value : ℕ) → given.frames ≡ None → TellsOption (codes "--frames") 65536 value words → ⊥) → ((value : ℕ) → given.blocks ≡ None → TellsOption (codes "--blocks") 1048576 value words → ⊥)
    → words ≡ name ∷ number ∷ behind → AddsOption given number name next → ⊥
none_adds given next name number behind words no_steps no_frames no_blocks is (OfSteps value none tells) = no_steps value none (number, behind, is, tells)
none_adds given next name number behind words no_steps no_frames no_blocks is (OfFrames value none tells) = no_frames value none (number, behind, is, tells)
none_adds given next name number behind words no_steps no_frames no_blocks is (OfBlocks value none tells) = no_blocks value none (number, behind, is, tells)

pub none_first : (given : Given) (words : List (List ℕ)) → ((value : ℕ) → given.steps ≡ None → TellsOption (codes "--steps") 10000000000 value words → ⊥)
    → ((value : ℕ) → given.frames ≡ None → TellsOption (codes "--frames") 65536 value words → ⊥) → ((value : ℕ) → given.blocks ≡ None → TellsOption (codes "--blocks") 1048576 value words → ⊥)
    → (next : Given) → AddsFirst given next words → ⊥
none_first given words no_steps no_frames no_blocks next first =
    none_adds given next first.name first.number first.behind words no_steps no_frames no_blocks first.words_are first.adds

-- it is taken, and behind it others
pub takes_more : (given next last : Given) (words behind rest : List (List ℕ)) → AddsFirst given next words → behind ≡ drop 2 words → TakesAll next last behind rest → TakesAll given last words rest
takes_more given next last words behind rest first is takes = record {
  front = first.name ∷ first.number ∷ takes.front;
  adds = More first.name first.number takes.front first.adds takes.adds;
  words_are = first.words_are ∙ ap (λ behind. first.name ∷ first.number ∷ behind) (sym (is ∙ ap (drop 2) first.words_are) ∙ takes.words_are);
  stops = takes.stops;
}

pub none_told : (told : Option ℕ) → is_some told ≡ false → told ≡ None
none_told None is = refl
none_told (Some value) is = cc

-- what is told with an option by its name and its number
abbrev told_by : Given → (name number : List ℕ) → Given
told_by given name number =
    if bytes_eq name (codes "--steps") then record given { steps = Some (digits_value 10 number) }
    else (if bytes_eq name (codes "--frames") then record given { frames = Some (digits_value 10 number) }
    else record given { blocks = Some (digits_value 10 number) })

next_is : (given next : Given) (name number : List ℕ) → AddsOption given number name next → next ≡ told_by given name number
next_is given next name number (OfSteps value none tells) = ap (λ value. record given { steps = Some value }) tells.is
next_is given next name number (OfFrames value none tells) = ap (λ value. record given { frames = Some value }) tells.is
next_is given next name number (OfBlocks value none tells) = ap (λ value. record given { blocks = Some value }) tells.is

-- and its name is that of an option
name_is : (given next : Given) (name number : List ℕ) → AddsOption given number name next → IsOption name
name_is given next name number (OfSteps value none tells) = refl
name_is given next name number (OfFrames value none tells) = refl
name_is given next name number (OfBlocks value none tells) = refl

one_next : (given next other : Given) (name number own more : List ℕ) → name ≡ own → number ≡ more → AddsOption given number name next → AddsOption given more own other → next ≡ other
one_next given next other name number own more is same adds also =
    next_is given next name number adds ∙ ap (λ name. told_by given name number) is ∙ ap (told_by given own) same ∙ sym (next_is given other own more also)

-- options in front of words, behind which none stands that wasn't told, are those in front of a word that is none
pub one_split : (given last other : Given) (front options rest behind : List (List ℕ)) (word : List ℕ) → Adds given front last → ((next : Given) → ¬ AddsFirst last next rest)
    → Adds given options other → front ++ rest ≡ options ++ word ∷ behind → ¬ IsOption word → (last ≡ other) × (rest ≡ word ∷ behind)
one_split given last other front options rest behind word NoMore stops NoMore same none = (refl, same)
one_split given last other front options rest behind word NoMore stops (More {next = next} name number words adds more) same none =
    absurd (stops next (record { name = name; number = number; behind = words ++ word ∷ behind; words_are = same; adds = adds }))
one_split given last other front options rest behind word (More {next = next} name number words adds more) stops NoMore same none =
    absurd (none (subst IsOption (heads same) (name_is given next name number adds)))
one_split given last other front options rest behind word (More {next = next} name number words adds more) stops (More {next = again} own told others also beyond) same none =
    let next_same : again ≡ next = sym (one_next given next again name number own told (heads same) (heads (tails same)) adds also) in
    one_split next last other words others rest behind word more stops (subst (λ (given : Given). Adds given others other) next_same beyond) (tails (tails same)) none

-- a word that is no option is none that wasn't told
pub none_before : (given next : Given) (word : List ℕ) (behind : List (List ℕ)) → ¬ IsOption word → ¬ AddsFirst given next (word ∷ behind)
none_before given next word behind none first = none (subst IsOption (sym (heads first.words_are)) (name_is given next first.name first.number first.adds))
