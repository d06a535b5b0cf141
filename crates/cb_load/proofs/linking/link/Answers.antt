use Rattle.std.proofs.Common.{◌∙◌, ap, subst}
use Rattle.std.proofs.lemmas.Result.{IfErr-weaker, IfOk-weaker}
use Rattle.cb_link.specs.Judging.{HindersProgram, IsProgram}
use Rattle.cb_link.specs.Program.{linked}
use Rattle.cb_load.specs.Linking.{Hinders, IsLinked}
use Rattle.cb_load.proofs.LinkLaws.{hindered}
use Rattle.cb_load.proofs.linking.link.Goals as goal

pub returns-clause-linked : goal.returns-clause-linked
returns-clause-linked g c =
    let loaded = c.in_ok-classes.ensures.loaded in
    IfOk-weaker c.program_of.result _ (IsLinked (g.F.Folder.files c.args.folder.now) c.args.root.now c.args.library c.args.main)
    (λ program made. record {
      classes = loaded.0;
      method = made.0;
      loaded = loaded.1;
      good = subst (λ all. IsProgram all c.args.main made.0) loaded.2 made.1;
      all = made.2 ∙ ap (λ all. linked all c.args.main made.0) loaded.2;
    })
    c.program_of.ensures.made

pub returns-clause-refused : goal.returns-clause-refused
returns-clause-refused g c =
    let loaded = c.in_ok-classes.ensures.loaded in
    IfErr-weaker c.program_of.result (HindersProgram c.in_ok-classes.classes c.args.main) (Hinders (g.F.Folder.files c.args.folder.now) c.args.root.now c.args.library c.args.main)
    (λ refusal told. hindered _ c.args.root.now c.args.library c.args.main loaded.0 loaded.1 refusal (subst (λ all. HindersProgram all c.args.main refusal) loaded.2 told))
    c.program_of.ensures.refused
