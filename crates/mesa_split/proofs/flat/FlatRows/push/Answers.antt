use Rattle.std.proofs.Common.{ℕ, ◌<◌, sym, ◌∙◌, subst}
use Rattle.mesa_compact.specs.mesa_columns.declared.rows.Row.{Row}
use Rattle.mesa_compact.specs.mesa_columns.Lent.{lent}
use Rattle.mesa_split.proofs.Buffers.{AreAsLong, Goes, goes, goes_on, goes_over}
use Rattle.mesa_split.proofs.flat.FlatRows.push.Goals as goal

pub invariant_of-self-2 : goal.invariant_of-self-2
invariant_of-self-2 c =
    let b = c.self.inside in
    let row : Row = lent c.args.row in
    let n = c.count_with-count.result in
    let h : Goes n b.count b.keys b.values.items row = goes n b.count b.keys b.values.items row c.self.invariant (subst (AreAsLong row) (sym c.self.view_is) c.requires)
    (λ none. c.count_with-count.ensures.first (c.len-rows.ensures ∙ none)) (λ some. c.count_with-count.ensures.later (subst (λ (k : ℕ). 0 < k) (sym c.len-rows.ensures) some)) in
    goes_over n b.count b.keys c.push.new.self b.values.items c.extend_from_slice.new.self.items row h c.in_ok-push.ensures.ok c.in_default.ensures.items

pub returns-clause-ok : goal.returns-clause-ok
returns-clause-ok c =
    let b = c.self.inside in
    let row : Row = lent c.args.row in
    let n = c.count_with-count.result in
    let h : Goes n b.count b.keys b.values.items row = goes n b.count b.keys b.values.items row c.self.invariant (subst (AreAsLong row) (sym c.self.view_is) c.requires)
    (λ none. c.count_with-count.ensures.first (c.len-rows.ensures ∙ none)) (λ some. c.count_with-count.ensures.later (subst (λ (k : ℕ). 0 < k) (sym c.len-rows.ensures) some)) in
    goes_on n b.count b.keys c.push.new.self b.values.items c.extend_from_slice.new.self.items row c.args.self.now h c.in_ok-push.ensures.ok c.in_default.ensures.items c.self.view_is
