use Rattle.std.proofs.Common.{Bool, [], arith, subst, ◌≡◌, ◌<◌, ◌^◌, Bor, List, ℕ, MatchOption, true, Option}
use Rattle.cb_asm_line.specs.Inner.{AreSet}
use Rattle.cb_asm_line.proofs.FlagsRead.{few_others, not_first, one_rest, others, set_first}
use Rattle.cb_asm_line.proofs.flag_word.+set_in.Goals as goal

-- a word that stands nowhere
abbrev no_word : Bor (List ℕ)
no_word = record { ref_ptr = (0, 0); now = [] }

-- what is told of the flags of a word
Found : Bool → List (Bor (List ℕ)) → List ℕ → Option ℕ → Type 0
Found begun words word found = MatchOption found ((flags : ℕ) → AreSet begun (others words) word flags → ⊥) (λ flags. AreSet begun (others words) word flags)

pub overflow_mul-result : goal.overflow_mul-result
overflow_mul-result t c =
    let few : c.in-Some-set_in.flags < 2 ^ 15 = few_others c.args.words.now no_word true c.in-Some.behind.now c.in-Some-set_in.flags c.in-len1-up.len_at_least c.requires c.in-Some-set_in.ensures in
    omega (arith, few)

pub overflow_add-result : goal.overflow_add-result
overflow_add-result t c =
    let few : c.in-Some-set_in.flags < 2 ^ 15 = few_others c.args.words.now no_word true c.in-Some.behind.now c.in-Some-set_in.flags c.in-len1-up.len_at_least c.requires c.in-Some-set_in.ensures in
    omega (arith, few)

pub doubled-requires : goal.doubled-requires
unfolding Found
doubled-requires t c = λ flags is.
    few_others c.args.words.now no_word c.args.begun c.args.word.now flags c.in-len1-up.len_at_least c.requires (subst (Found c.args.begun c.args.words.now c.args.word.now) is c.set_in-unset.ensures)

pub doubled-requires-in-None : goal.doubled-requires-in-None
unfolding Found
doubled-requires-in-None t c = λ flags is.
    few_others c.args.words.now no_word c.args.begun c.args.word.now flags c.in-len1-up.len_at_least c.requires (subst (Found c.args.begun c.args.words.now c.args.word.now) is c.set_in-unset.ensures)

pub returns-in-Some-set_in : goal.returns-in-Some-set_in
returns-in-Some-set_in t c =
    set_first c.args.begun c.args.words.now no_word c.args.word.now c.in-Some.behind.now c.in-Some-set_in.flags c.in-len1-up.len_at_least c.in-Some.ensures c.in-Some-set_in.ensures

pub returns-in-None-set_in : goal.returns-in-None-set_in
returns-in-None-set_in t c =
    not_first c.args.begun c.args.words.now no_word c.args.word.now _ _ c.in-len1-up.len_at_least c.doubled.ensures c.set_in-unset.ensures (λ rest flags is set.
    let same : rest ≡ c.in-Some.behind.now = one_rest _ c.args.word.now c.in-Some.behind.now rest c.in-Some.ensures is in
    c.in-None-set_in.ensures flags (subst (λ left. AreSet true (others c.args.words.now) left flags) same set))

pub returns-in-None : goal.returns-in-None
returns-in-None t c =
    not_first c.args.begun c.args.words.now no_word c.args.word.now _ _ c.in-len1-up.len_at_least c.doubled-in-None.ensures c.set_in-unset.ensures (λ rest flags is set. c.in-None.ensures rest is)
