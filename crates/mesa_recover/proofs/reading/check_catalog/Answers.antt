use Rattle.std.proofs.Common.{sym, subst}
use Rattle.std.proofs.lemmas.Result.{IfErr-weaker}
use Rattle.std.specs.List.{AllByRecursion}
use Rattle.mesa_recover.specs.Damages.{IsAsRecorded}
use Rattle.mesa_catalog_table.specs.Files.{AreRecorded}
use Rattle.mesa_recover.proofs.Reasons.{all_recorded}
use Rattle.mesa_catalog_table.proofs.Pushes.{on_ok}
use Rattle.mesa_recover.proofs.reading.check_catalog.Goals as goal

pub returns-clause-good : goal.returns-clause-good
returns-clause-good g c =
    let k = c.args.catalog.now.catalogue in
    on_ok c.check_files.result _ _ (λ good i told. all_recorded (IsAsRecorded i) k c.in_ok-files.files.items c.in_ok-files.ensures (subst (AllByRecursion (IsAsRecorded i)) c.as_slice.ensures.value (good i told))) c.check_files.ensures.good

pub returns-clause-damaged : goal.returns-clause-damaged
returns-clause-damaged g c =
    let k = c.args.catalog.now.catalogue in
    IfErr-weaker c.check_files.result _ _ (λ e damaged d is. (c.as_slice.result.now, subst (AreRecorded k) (sym c.as_slice.ensures.value) c.in_ok-files.ensures, damaged d is)) c.check_files.ensures.damaged
