use Rattle.std.proofs.Common.{◌≡◌, ◌∙◌, ◌∷◌, ◌-◌, ap, arith, drop, length, map, string_bytes, subst, sym, take}
use Rattle.std.proofs.lemmas.Bool.{false≢true}
use Rattle.std.proofs.lemmas.List.{length-drop, take_all}
use Rattle.cb_runner.specs.Words.{IsMain, IsOption}
use Rattle.cb_runner.proofs.FewItems.{from_two}
use Rattle.cb_runner.proofs.RunSaid.{no_behind, no_class, no_folder}
use Rattle.cb_runner.proofs.run_words.run_behind.Goals.{then-is_option-via-then-is_option, then-is_option-via-else-is_option+then-not-is_main}
use Rattle.cb_runner.proofs.run_words.run_behind.Goals as goal

pub returns-then-is_option : goal.returns-then-is_option
returns-then-is_option c =
    let rest = c.limits_of-limits.result.rest.now in
    let is = ap (map string_bytes) (from_two rest c.folder-item.result c.class-item.result (omega arith) c.folder-item.is c.class-item.is) in
    elim c.then-is_option.branch [
      | then-is_option-via-then-is_option w ↦ no_folder _ _ _ _ _ c.limits_of-limits.ensures (string_bytes c.folder-item.result) (string_bytes c.class-item.result) (map string_bytes (drop 2 rest)) is (subst IsOption c.as_str.ensures.value (c.is_option.ensures.0 w.if-is_option.true))
      | then-is_option-via-else-is_option+then-not-is_main w ↦ no_class _ _ _ _ _ c.limits_of-limits.ensures (string_bytes c.folder-item.result) (string_bytes c.class-item.result) (map string_bytes (drop 2 rest)) is (λ main. false≢true (w.if-not-is_main.ensures.1 (subst IsMain (sym w.as_str-else-is_option.ensures.value) main)))
    ]

pub returns-in-None : goal.returns-in-None
returns-in-None c =
    let rest = c.limits_of-limits.result.rest.now in
    let size = length-drop 2 rest in
    let same : take (length rest - 2) (drop 2 rest) ≡ drop 2 rest = take_all (length rest - 2) (drop 2 rest) (omega (arith, size)) in
    let is = ap (map string_bytes) (from_two rest c.folder-item.result c.class-item.result (omega arith) c.folder-item.is c.class-item.is ∙ ap (λ rest. c.folder-item.result ∷ c.class-item.result ∷ rest) (sym same)) in
    no_behind _ _ _ _ _ c.limits_of-limits.ensures (string_bytes c.folder-item.result) (string_bytes c.class-item.result) (map string_bytes (take (length rest - 2) (drop 2 rest))) is c.in-None.ensures
