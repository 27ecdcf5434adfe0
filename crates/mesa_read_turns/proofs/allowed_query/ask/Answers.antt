use Rattle.std.proofs.Common.{◌≡◌, ℕ, refl, subst, Option, Ok}
use Rattle.std.proofs.lemmas.Result.{err_from_is_err_and}
use Rattle.mesa_engine.specs.EngineState.{books_of}
use Rattle.mesa_validate.specs.Found.{IsAnswered, Sees, version_in}
use Rattle.mesa_engine.specs.mesa_history_spec.Rows.{no_rows}
use Rattle.mesa_read_turns.proofs.allowed_query.ask.Goals as goal

pub returns-in_err-catalog-clause-refused : goal.returns-in_err-catalog-clause-refused
returns-in_err-catalog-clause-refused c =
    let p = err_from_is_err_and c.from_residual.result c.from_residual.ensures.1 in
    rw (p.1, p.2) (λ rows. c.in_err-catalog.ensures.refused rows c.args.words.now refl)

pub returns-in_err-found-clause-refused : goal.returns-in_err-found-clause-refused
returns-in_err-found-clause-refused c =
    let p = err_from_is_err_and c.from_residual-in_err-found.result c.from_residual-in_err-found.ensures.1 in
    rw (p.1, p.2) (λ rows. c.in_err-found.ensures.refused (books_of rows c.args.metadata.now.state).bare c.args.session (c.in_ok-catalog.ensures.sees rows c.args.words.now refl))

pub returns-clause-sees : goal.returns-clause-sees
returns-clause-sees c rows =
    subst (λ (p : Option ℕ). Sees c.in_ok-catalog.field-0.catalog.now.catalogue p c.args.words.now c.args.session (books_of rows c.args.metadata.now.state).bare) c.in_ok-catalog.ensures.pinned (c.in_ok-catalog.ensures.sees rows c.args.words.now refl)

pub returns-clause-version : goal.returns-clause-version
returns-clause-version c =
    subst (λ (p : Option ℕ). version_in c.in_ok-catalog.field-0.catalog.now.catalogue p c.args.words.now.version c.in_ok-found.found.relation.table ≡ Ok c.in_ok-found.found.query.version) c.in_ok-catalog.ensures.pinned c.in_ok-found.ensures.version

pub returns-clause-answered : goal.returns-clause-answered
returns-clause-answered c = subst (λ (p : Option ℕ). IsAnswered c.in_ok-catalog.field-0.catalog.now.catalogue p c.args.words.now c.in_ok-found.found) c.in_ok-catalog.ensures.pinned c.in_ok-found.ensures.answered

pub returns-in_err-catalog-clause-opened : goal.returns-in_err-catalog-clause-opened
returns-in_err-catalog-clause-opened c =
    let p = err_from_is_err_and c.from_residual.result c.from_residual.ensures.1 in
    rw (p.1, p.2) (λ is. absurd cc)

pub returns-in_err-found-clause-opened : goal.returns-in_err-found-clause-opened
returns-in_err-found-clause-opened c =
    let p = err_from_is_err_and c.from_residual-in_err-found.result c.from_residual-in_err-found.ensures.1 in
    rw (p.1) (λ is. (c.in_ok-catalog.ensures.sees no_rows c.args.words.now refl).opened)
