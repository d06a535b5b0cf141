-- What words tell of a run is within its bounds.
use Rattle.std.proofs.Common.{◌≤◌, arith, subst, sym, ℕ, List}
use Rattle.std.specs.Prelude.{unwrap_or}
use Rattle.cb_runner.specs.Words.{Adds, AddsOption, Given, More, NoMore, OfBlocks, OfFrames, OfSteps, Run, RunIn, Says, none_given}

record Within (given : Given) : Type 0 where
  steps : unwrap_or given.steps 1000000000 ≤ 10000000000
  blocks : unwrap_or given.blocks 16384 ≤ 1048576

none_within : Within none_given
none_within = record { steps = omega arith; blocks = omega arith }

one_within : (given next : Given) (number name : List ℕ) → Within given → AddsOption given number name next → Within next
one_within given next number name within (OfSteps value none tells) = record { steps = tells.within; blocks = within.blocks }
one_within given next number name within (OfFrames value none tells) = record { steps = within.steps; blocks = within.blocks }
one_within given next number name within (OfBlocks value none tells) = record { steps = within.steps; blocks = tells.within }

all_within : (given last : Given) (words : List (List ℕ)) → Within given → Adds given words last → Within last
all_within given last words within NoMore = within
all_within given last words within (More {next} name number behind one all) = all_within next last behind (one_within given next number name within one) all

-- so is what a run is asked for
pub steps_said : (words : List (List ℕ)) (folder : List ℕ) (run : Run) → Says words (RunIn folder run) → run.steps ≤ 10000000000
steps_said words folder run (behind, is, says) = subst (λ (steps : ℕ). steps ≤ 10000000000) (sym says.steps_are) (all_within none_given says.told says.options none_within says.are_options).steps

pub blocks_said : (words : List (List ℕ)) (folder : List ℕ) (run : Run) → Says words (RunIn folder run) → run.blocks ≤ 1048576
blocks_said words folder run (behind, is, says) = subst (λ (blocks : ℕ). blocks ≤ 1048576) (sym says.blocks_are) (all_within none_given says.told says.options none_within says.are_options).blocks
