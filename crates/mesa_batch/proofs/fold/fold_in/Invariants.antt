use Rattle.std.proofs.Common.{◌≡◌, ◌+◌, ◌≤◌, ℕ, length, vec_len, vec_capacity}
use Rattle.std.specs.Prelude.{Some, slice_get}
use Rattle.std.specs.Vec.Iter.{into_iter_items, into_iter_len}
use Rattle.mesa_schema.specs.mesa_value.declared.Agg.TheVariants.{Sum}
use Rattle.mesa_schema.specs.mesa_fold.Laws.{AreFull}
use Rattle.mesa_batch.specs.Totals.{abs_total}
use Rattle.mesa_schema.specs.mesa_fold.Put.{put_rows}
use Rattle.mesa_batch.specs.Put.{IsFold}
use Rattle.mesa_batch.proofs.fold.fold_in.Given as goal

-- the rows put so far are a fold, into which the others can be put
abbrev pub invariant-rows : goal.invariant-rows
invariant-rows l = record {
  next : (goal.iterator-rows).can_next l.row-iterator;
  ends : (goal.iterator-rows).is_finite l.row-iterator;
  counted : into_iter_len l.row-iterator ≡ length (into_iter_items l.row-iterator);
  put : put_rows l.aggs l.content.items (into_iter_items l.row-iterator) ≡ put_rows l.aggs l.fn.content.items l.fn.batch.items;
  fold : IsFold l.aggs l.content.items;
  full : AreFull l.aggs l.content.items;
  rest_full : AreFull l.aggs (into_iter_items l.row-iterator);
  room : vec_len l.content + into_iter_len l.row-iterator ≤ vec_capacity l.content;
  adds : (c : ℕ) → slice_get l.aggs c ≡ Some Sum → abs_total c l.content.items + abs_total c (into_iter_items l.row-iterator) ≤ abs_total c l.fn.content.items + abs_total c l.fn.batch.items;
}
