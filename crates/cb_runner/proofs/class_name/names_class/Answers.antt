use Rattle.std.proofs.Common.{rules, tests, ◌∙◌}
use Rattle.std.proofs.lemmas.Iterator.Search.{all_from_yields_List}
use Rattle.std.proofs.lemmas.Iterator.Splits.{YieldsList-from_slice_split}
use Rattle.cb_runner.specs.Words.{is_separator, is_part}
use Rattle.cb_runner.proofs.class_name.names_class.Goals as goal

pub returns : goal.returns
returns c = all_from_yields_List is_part _ _ c.all.result c.all.ensures.ran (YieldsList-from_slice_split _ is_separator c.args.word.now (c.split.ensures.rest ∙ c.as_bytes.ensures.value) c.split.ensures.done c.split.ensures.closure (λ x r q k. search (rules, tests))) (λ x b q k. search (rules, tests))
