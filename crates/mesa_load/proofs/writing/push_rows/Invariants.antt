use Rattle.std.proofs.Common.{◌≡◌, take}
use Rattle.mesa_delta.specs.Writing.{HasTaken, columns_of, draft_of, id_of}
use Rattle.mesa_load.specs.Filing.{file_rows}
use Rattle.mesa_load.proofs.writing.push_rows.Given as goal

abbrev pub invariant-rows : goal.invariant-rows
invariant-rows g l = record {
  taken : HasTaken g.T.Draft.bytes l.writer (take l.place (file_rows l.rows));
  columns : columns_of l.writer ≡ columns_of l.fn.writer;
  id : id_of l.writer ≡ id_of l.fn.writer;
  draft : g.T.Draft.id_of (draft_of l.writer) ≡ g.T.Draft.id_of (draft_of l.fn.writer);
  faults : g.T.Draft.faults (draft_of l.writer) ≡ g.T.Draft.faults (draft_of l.fn.writer);
}
