use Rattle.std.proofs.Common.{◌++◌, ◌∷◌, [], ◌∙◌, ap, sym, None}
use Rattle.mesa_pick_files.proofs.Ranging.{first_filed, first_none, first_unfiled}
use Rattle.mesa_pick_files.proofs.ranges.first_ranges.Goals as goal

pub returns-in_default : goal.returns-in_default
returns-in_default g c = λ next is. first_none c.in_ok-ranges.ranges.items c.args.table.now.base c.in_ok-ranges.ensures.items c.in_default.is

pub returns-then-has_rows : goal.returns-then-has_rows
returns-then-has_rows g c = λ next is. first_filed c.in_ok-ranges.ranges.items c.args.table.now.base c.in-Some.base c.in_ok-ranges.ensures.items c.in-Some.is (sym c.has_rows.ensures ∙ c.if-has_rows.true)

pub returns : goal.returns
returns g c = λ next is. first_unfiled c.push_reserved.new.self.items c.args.table.now.base c.in-Some.base (c.push_reserved.ensures.items ∙ ap (λ xs. xs ++ record { from = 0; to = c.in-Some.base.to; input = None } ∷ []) c.in_ok-ranges.ensures.items) c.in-Some.is (sym c.has_rows.ensures ∙ c.if-has_rows.false)
