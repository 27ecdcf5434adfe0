use Rattle.std.proofs.Common.{◌≡◌, ◌++◌, List, map, take}
use Rattle.std.specs.Prelude.{IsTrue}
use Rattle.mesa_compact.specs.mesa_columns.declared.rows.Row.{Row}
use Rattle.mesa_compact.specs.mesa_columns.Rows.{keys_rise}
use Rattle.mesa_delta.specs.Writing.{columns_of, draft_of, id_of}
use Rattle.mesa_answer.specs.Gathered.{wanted_of}
use Rattle.mesa_split.specs.Written.{HasPoured}
use Rattle.mesa_split.proofs.writing.write_rows.Given as goal

abbrev pub invariant-rows : goal.invariant-rows
invariant-rows g l = record {
  poured : (given : List Row) → HasPoured g.T.Draft.bytes l.fn.writer l.fn.groups given → IsTrue (keys_rise (given ++ l.rows)) → HasPoured g.T.Draft.bytes l.writer l.groups (given ++ take l.i l.rows);
  columns : columns_of l.writer ≡ columns_of l.fn.writer;
  id : id_of l.writer ≡ id_of l.fn.writer;
  draft : g.T.Draft.id_of (draft_of l.writer) ≡ g.T.Draft.id_of (draft_of l.fn.writer);
  faults : g.T.Draft.faults (draft_of l.writer) ≡ g.T.Draft.faults (draft_of l.fn.writer);
  wanted : map wanted_of l.groups ≡ map wanted_of l.fn.groups;
}
