use Rattle.std.proofs.Common.{◌∙◌, length, map, ap, arith}
use Rattle.mesa_engine.specs.declared.holders.Query.{Query}
use Rattle.mesa_engine.specs.Meaning.{query_as}
use Rattle.mesa_engine.specs.Memory.{is_of_another}
use Rattle.mesa_engine.proofs.Mapped.{fewer, filter_mapped}
use Rattle.mesa_engine.proofs.holders.Holders.answer.Goals as goal

pub index_again-requires : goal.index_again-requires
index_again-requires c =
    let left = ap length c.let_answered.ensures in
    let less = fewer (λ (q : Query). is_of_another c.args.session (query_as q)) c.args.self.now.queries.items in
    let room = c.requires.room in
    omega (arith, left, less, room)

pub returns-clause-queries : goal.returns-clause-queries
returns-clause-queries c =
    ap (λ qs. map query_as qs.items) c.index_again.ensures.queries ∙ ap (map query_as) c.let_answered.ensures ∙ filter_mapped query_as (is_of_another c.args.session) c.args.self.now.queries.items
