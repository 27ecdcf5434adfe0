use Rattle.std.proofs.Common.{◌≡◌, ◌≤◌, length, take}
use Rattle.mesa_model.specs.mesa_fold.Laws.{AreFull}
use Rattle.mesa_model.specs.mesa_fold.Put.{put_rows}
use Rattle.mesa_answer.proofs.held.Held.put_all.Given as goal

-- the rows so far are put
abbrev pub invariant-each_row : goal.invariant-each_row
invariant-each_row l = record {
  put : l.self ≡ take l.most (put_rows l.aggs l.fn.self (take l.row-index l.rows));
  short : length l.self ≤ l.most;
  full : AreFull l.aggs l.self;
}
