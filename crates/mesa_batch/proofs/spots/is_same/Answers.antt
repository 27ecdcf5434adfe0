use Rattle.std.proofs.Common.{sym, ◌∙◌}
use Rattle.mesa_batch.proofs.Heads.{heads_apart, tables_apart}
use Rattle.mesa_batch.proofs.spots.is_same.Goals as goal

pub returns-then-a-b : goal.returns-then-a-b
returns-then-a-b c = sym (tables_apart c.args.rows.now c.args.a.now c.args.b.now c.requires.first c.requires.second c.if-a-b.true)

pub returns-then-not-begins_same : goal.returns-then-not-begins_same
returns-then-not-begins_same c = sym (heads_apart c.args.rows.now c.args.a.now c.args.b.now c.requires.first c.requires.second (sym c.begins_same.ensures ∙ c.if-not-begins_same.true))
