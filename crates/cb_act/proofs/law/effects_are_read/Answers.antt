use Rattle.cb_act.proofs.Read.{computed_read, gave_read, increased_read, loaded_read, shuffled_read, stored_read, test_read, told_read}
use Rattle.cb_act.proofs.law.effects_are_read.Goals as goal

pub returns : goal.returns
returns c = record {
  computed = λ index held computation. computed_read index held computation;
  gave = λ index held computation. gave_read index held computation;
  loaded = λ index held sort local. loaded_read index held sort local;
  stored = λ index held sort local. stored_read index held sort local;
  increased = λ index held local by. increased_read index held local by;
  shuffled = λ index held shuffle. shuffled_read index held shuffle;
  tested = λ index held condition plain. test_read index held condition plain;
  told = λ index held condition plain. told_read index held condition plain;
}
