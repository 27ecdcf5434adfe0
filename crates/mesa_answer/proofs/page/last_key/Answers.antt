use Rattle.std.proofs.Common.{◌≡◌, List, ℕ, subst}
use Rattle.std.specs.Prelude.{IfOk}
use Rattle.mesa_answer.proofs.Paging.{last_found}
use Rattle.mesa_answer.proofs.page.last_key.Goals as goal

pub returns-in-Some : goal.returns-in-Some
returns-in-Some c =
    let last = last_found c.args.rows.now c.as_slice.result.now c.in-Some.row.now c.as_slice.ensures c.in-Some.ensures.value in
    subst (λ (k : List ℕ). IfOk c.copy.result (λ key. key ≡ k)) last c.copy.ensures
