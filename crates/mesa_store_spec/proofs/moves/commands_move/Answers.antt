use Rattle.mesa_store_spec.proofs.Moving.{table_step, view_step, alter_step, expire_step, expire_table_step}
use Rattle.mesa_store_spec.proofs.moves.commands_move.Goals as goal

pub returns : goal.returns
returns g = record {
  table = λ rows c name keys values sound_rows. table_step rows c sound_rows name keys values;
  view = λ rows c table name keys values sound_rows fit. view_step rows c sound_rows table name keys values fit;
  alter = λ rows c table change is sound_rows fit typed. alter_step rows c sound_rows is table change fit typed;
  expire = λ rows c version sound_rows fit. expire_step rows c sound_rows version fit;
  expire_table = λ rows c table version sound_rows fit. expire_table_step rows c sound_rows table version fit;
}
