use Rattle.std.proofs.Common.{◌≡◌, ◌∙◌, ◌++◌, ◌∷◌, [], Bool, List, append-nil, ap, cond, false, subst, sym, true}
use Rattle.std.proofs.lemmas.Result.{on_ok_weaker}
use Rattle.mesa_view.specs.mesa_key.Spelling.{key_of}
use Rattle.mesa_open_files.specs.mesa_columns.declared.rows.Row.{Row}
use Rattle.mesa_open_files.specs.mesa_columns.Lent.{lent}
use Rattle.mesa_filter.specs.Filter.{meets}
use Rattle.mesa_answer.specs.Answering.{KeepsSums}
use Rattle.mesa_answer.specs.Gathered.{HasPut, key_at_hand, wanted_of}
use Rattle.mesa_answer.specs.Sums.{SumLeavesAmong}
use Rattle.mesa_answer.proofs.Leaving.{leaves_with}
use Rattle.mesa_answer.proofs.Results.{if_err}
use Rattle.mesa_group_blocks.proofs.regrouped.put_matching.Goals as goal

pub returns-then-not-matches-clause-put : goal.returns-then-not-matches-clause-put
returns-then-not-matches-clause-put c = λ given h.
    let row : Row = lent c.args.row in
    let f = c.args.filter.now in
    let no : meets (key_of f.kinds row.key) f.terms ≡ false = sym c.matches.ensures ∙ c.if-not-matches.true in
    subst (HasPut c.args.groups.now) (sym (ap (λ (b : Bool). given ++ cond b (row ∷ []) []) no ∙ append-nil given)) h

pub returns-clause-put : goal.returns-clause-put
returns-clause-put c =
    let row : Row = lent c.args.row in
    let f = c.args.filter.now in
    let yes : meets (key_of f.kinds row.key) f.terms ≡ true = sym c.matches.ensures ∙ c.if-not-matches.false in
    on_ok_weaker c.put.result (λ put given h. subst (HasPut c.put.new.self) (sym (ap (λ (b : Bool). given ++ cond b (row ∷ []) []) yes)) (put given h)) c.put.ensures.put

pub returns-clause-never : goal.returns-clause-never
returns-clause-never c =
    let row : Row = lent c.args.row in
    let f = c.args.filter.now in
    let yes : meets (key_of f.kinds row.key) f.terms ≡ true = sym c.matches.ensures ∙ c.if-not-matches.false in
    if_err c.put.result _ _ (λ e never is given h keeps. never is given h (subst (KeepsSums (wanted_of c.args.groups.now).schema) (ap (λ (b : Bool). given ++ cond b (row ∷ []) []) yes) keeps)) c.put.ensures.cause

pub returns-clause-sum : goal.returns-clause-sum
returns-clause-sum c =
    let row : Row = lent c.args.row in
    let f = c.args.filter.now in
    let w = wanted_of c.args.groups.now in
    let key = key_at_hand c.put.new.self in
    let yes : meets (key_of f.kinds row.key) f.terms ≡ true = sym c.matches.ensures ∙ c.if-not-matches.false in
    if_err c.put.result _ _ (λ e leaves is given h. subst (λ (rows : List Row). SumLeavesAmong w given rows key) (sym (ap (λ (b : Bool). cond b (row ∷ []) []) yes)) (leaves_with w given row key (leaves is given h))) c.put.ensures.sum
