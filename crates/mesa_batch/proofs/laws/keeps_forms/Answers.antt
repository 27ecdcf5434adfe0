use Rattle.mesa_batch.proofs.RowForms.{batch_forms}
use Rattle.mesa_batch.proofs.laws.keeps_forms.Goals as goal

pub returns : goal.returns
returns c = batch_forms
