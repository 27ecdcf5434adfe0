use Rattle.std.proofs.Common.{◌≡◌, ◌++◌, ◌+◌, ◌-◌, ◌≤◌, length, map, take, vec_len}
use Rattle.std.specs.Prelude.{vec_capacity}
use Rattle.mesa_engine.specs.declared.holders.Query.{Query}
use Rattle.mesa_engine.proofs.holders.push_queries.Given as goal

abbrev pub invariant-loop-query : goal.invariant-loop-query
invariant-loop-query l = record {
  items : l.index.items ≡ l.fn.index.items ++ map (λ (q : Query). q.hold) (take l.query-index l.queries);
  room : vec_len l.index + (length l.queries - l.query-index) ≤ vec_capacity l.index;
  capacity : vec_capacity l.index ≡ vec_capacity l.fn.index;
}
