use Rattle.std.proofs.Common.{◌∙◌, ap, map}
use Rattle.cb_link.specs.InnerRanks.{package_name, rank}
use Rattle.cb_link.proofs.resolver.judged.Goals as goal

pub hierarchy_of-requires-clause-ranked : goal.hierarchy_of-requires-clause-ranked
hierarchy_of-requires-clause-ranked c =
    c.in_ok-ranked.ensures ∙ ap (λ names. map (rank names (map package_name c.args.classes.now)) c.args.classes.now) c.requires.names
