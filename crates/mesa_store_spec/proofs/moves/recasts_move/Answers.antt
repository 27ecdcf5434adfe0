use Rattle.mesa_record.specs.declared.record.Record.TheVariants as record_of
use Rattle.mesa_store_spec.proofs.Moving.{kind_of}
use Rattle.mesa_store_spec.proofs.RecastKept.{closes, recast_moves}
use Rattle.mesa_store_spec.proofs.moves.recasts_move.Goals as goal

pub returns : goal.returns
returns g = record {
  moves = λ rows c k is sound_rows fit told brings. recast_moves c k is (kind_of c (record_of.Recast k) fit) rows told brings sound_rows;
  closes = λ rows c k s claim is sound_rows fit told brings same stands. closes c k is (kind_of c (record_of.Recast k) fit) rows told brings sound_rows s claim same stands;
}
