use Rattle.std.proofs.Common.{sym, subst}
use Rattle.mesa_load.specs.declared.building.FileToWrite.{FileToWrite}
use Rattle.mesa_load.specs.FilesToWrite.{IsReady}
use Rattle.mesa_load.proofs.building.fn.write_jobs.write.Goals as goal

pub write_job-requires-after_bounds : goal.write_job-requires-after_bounds
write_job-requires-after_bounds g c κs within = subst (λ (j : FileToWrite). IsReady g.T.Draft.bytes g.T.Draft.id_of j c.args.file.now) (sym c.index-jobs-i.is) (c.requires.3 c.index-jobs-i.result)
