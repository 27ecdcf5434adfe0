use Rattle.std.proofs.Common.{◌&&◌}
use Rattle.mesa_store_spec.specs.Checkpoint.{checkpoint_of}
use Rattle.mesa_store_spec.specs.CheckpointFits.{counts_fit, number_fits, tables_fit}
use Rattle.mesa_store_spec.proofs.Stating.{catalog_again}
use Rattle.mesa_store_spec.proofs.StatedFits.{counts_ok, tables_fitted, two_true}
use Rattle.mesa_store_spec.proofs.Numbering.{carries_on}
use Rattle.mesa_store_spec.proofs.Wholes.{catalog_whole}
use Rattle.mesa_store_spec.proofs.checkpoints.catalogs_are_stated.Goals as goal

pub returns : goal.returns
returns c = record {
  states = λ area bodies k number bytes e. (let is = catalog_whole area bodies k bytes e in catalog_again k number is.shaped is.statable);
  fits = λ area other bodies k number bytes e fit. (
      let is = catalog_whole area bodies k bytes e in
      two_true (number_fits other number && counts_fit (checkpoint_of number k)) (tables_fit (checkpoint_of number k))
      (two_true (number_fits other number) (counts_fit (checkpoint_of number k)) fit (counts_ok k number is.shaped is.counted)) (tables_fitted k number is.shaped is.own is.statable is.counted)
      );
  body = λ area bodies k bytes e small. (carries_on area bodies k bytes e small).0;
  leads = λ area bodies k bytes e small. (carries_on area bodies k bytes e small).1;
}
