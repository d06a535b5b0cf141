-- Words say one command at most.
use Rattle.std.proofs.Common.{◌≡◌, ◌∙◌, ap, ap₂, refl, sym, subst, unwrap_or, arith, codes, ℕ, List, [], ◌∷◌, ◌++◌}
use Rattle.cb_runner.specs.Words.{Adds, AllOf, AreArguments, ArePlain, Assemble, Command, Given, IsDashed, IsOption, IsRun, ListOf, Parted, Run, RunIn, Says, internal_name, none_given}
use Rattle.cb_runner.proofs.FewItems.{heads, tails}
use Rattle.cb_runner.proofs.Options.{none_before, one_split}
use Rattle.cb_runner.proofs.Plain.{all_so, dashes, first_of, others_of}

-- ---- options

one_options : (told other : Given) (options others behind more : List (List ℕ)) (word last : List ℕ) → Adds none_given options told → Adds none_given others other
    → options ++ word ∷ behind ≡ others ++ last ∷ more → ¬ IsOption word → ¬ IsOption last → (told ≡ other) × (word ∷ behind ≡ last ∷ more)
one_options told other options others behind more word last are also same none no_option =
    one_split none_given told other options others (word ∷ behind) more last are (λ next. none_before told next word behind none) also same no_option

-- ---- arguments

-- the first `--` behind words that aren't kept for options is one
parts_once : (front back others more : List (List ℕ)) → ArePlain front → ArePlain others → front ++ codes "--" ∷ back ≡ others ++ codes "--" ∷ more → front ++ back ≡ others ++ more
parts_once [] back [] more plain also same = tails same
parts_once [] back (first ∷ others) more plain also same = absurd (first_of (λ word. ¬ IsDashed word) first others also (subst IsDashed (heads same) dashes))
parts_once (first ∷ front) back [] more plain also same = absurd (first_of (λ word. ¬ IsDashed word) first front plain (subst IsDashed (sym (heads same)) dashes))
parts_once (first ∷ front) back (own ∷ others) more plain also same =
    ap₂ (λ (word : List ℕ) (words : List (List ℕ)). word ∷ words) (heads same)
    (parts_once front back others more (others_of (λ word. ¬ IsDashed word) first front plain) (others_of (λ word. ¬ IsDashed word) own others also) (tails same))

one_arguments : (words arguments others : List (List ℕ)) → AreArguments words arguments → AreArguments words others → arguments ≡ others
one_arguments words arguments others (AllOf all is) (AllOf also same) = is ∙ sym same
one_arguments words arguments others (AllOf all is) (Parted front back plain parts same) = absurd (all_so front (codes "--") back dashes (subst ArePlain parts all))
one_arguments words arguments others (Parted front back plain parts is) (AllOf all same) = absurd (all_so front (codes "--") back dashes (subst ArePlain parts all))
one_arguments words arguments others (Parted front back plain parts is) (Parted first more also again same) =
    is ∙ parts_once front back first more plain also (sym parts ∙ again) ∙ sym same

-- ---- commands

same_run : (steps most frames few blocks many : ℕ) (main class : List ℕ) (arguments others : List (List ℕ)) (folder path : List ℕ) → steps ≡ most → frames ≡ few → blocks ≡ many → main ≡ class
    → arguments ≡ others → folder ≡ path → RunIn folder (record { steps = steps; frames = frames; blocks = blocks; main = main; arguments = arguments })
    ≡ RunIn path (record { steps = most; frames = few; blocks = many; main = class; arguments = others })
same_run steps most frames few blocks many main class arguments others folder path one two three four five six = cc

one_run : (words : List (List ℕ)) (folder path : List ℕ) (run other : Run) → IsRun folder run words → IsRun path other words → RunIn folder run ≡ RunIn path other
one_run words folder path run other says also =
    let (told, rest) = one_options says.told also.told says.options also.options (says.class ∷ says.behind) (also.class ∷ also.behind) folder path
    says.are_options also.are_options (sym says.words_are ∙ also.words_are) says.no_option also.no_option in
    let class : says.class ≡ also.class = heads (tails rest) in
    let behind : says.behind ≡ also.behind = tails (tails rest) in
    let steps : run.steps ≡ other.steps = says.steps_are ∙ ap (λ told. unwrap_or told.steps 1000000000) told ∙ sym also.steps_are in
    let frames : run.frames ≡ other.frames = says.frames_are ∙ ap (λ told. unwrap_or told.frames 4096) told ∙ sym also.frames_are in
    let blocks : run.blocks ≡ other.blocks = says.blocks_are ∙ ap (λ told. unwrap_or told.blocks 16384) told ∙ sym also.blocks_are in
    let main : run.main ≡ other.main = says.main_is ∙ ap internal_name class ∙ sym also.main_is in
    let arguments : run.arguments ≡ other.arguments =
    one_arguments also.behind run.arguments other.arguments (subst (λ (words : List (List ℕ)). AreArguments words run.arguments) behind says.are_arguments) also.are_arguments in
    same_run run.steps other.steps run.frames other.frames run.blocks other.blocks run.main other.main run.arguments other.arguments folder path steps frames blocks main arguments (heads rest)

-- a word isn't another one
run_apart : (behind words : List (List ℕ)) → codes "run" ∷ behind ≡ codes "list" ∷ words → ⊥
run_apart behind words same = let first : 114 ≡ 108 = heads (heads same) in absurd (omega (arith, first))

text_apart : (behind words : List (List ℕ)) → codes "run" ∷ behind ≡ codes "asm" ∷ words → ⊥
text_apart behind words same = let first : 114 ≡ 97 = heads (heads same) in absurd (omega (arith, first))

list_apart : (behind words : List (List ℕ)) → codes "list" ∷ behind ≡ codes "asm" ∷ words → ⊥
list_apart behind words same = let first : 108 ≡ 97 = heads (heads same) in absurd (omega (arith, first))

pub one_command : (words : List (List ℕ)) (one other : Command) → Says words one → Says words other → one ≡ other
one_command words (RunIn folder run) (RunIn path other) (behind, is, says) (more, same, also) =
    one_run behind folder path run other says (subst (IsRun path other) (tails (sym same ∙ is)) also)
one_command words (RunIn folder run) (ListOf path) (behind, is, says) also = absurd (run_apart behind (path ∷ []) (sym is ∙ also.words_are))
one_command words (RunIn folder run) Assemble (behind, is, says) also = absurd (text_apart behind [] (sym is ∙ also))
one_command words (ListOf path) (RunIn folder run) says (behind, is, also) = absurd (run_apart behind (path ∷ []) (sym is ∙ says.words_are))
one_command words (ListOf path) (ListOf other) says also = ap ListOf (heads (tails (sym says.words_are ∙ also.words_are)))
one_command words (ListOf path) Assemble says also = absurd (list_apart (path ∷ []) [] (sym says.words_are ∙ also))
one_command words Assemble (RunIn folder run) says (behind, is, also) = absurd (text_apart behind [] (sym is ∙ says))
one_command words Assemble (ListOf path) says also = absurd (list_apart (path ∷ []) [] (sym also.words_are ∙ says))
one_command words Assemble Assemble says also = refl
