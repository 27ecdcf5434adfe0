use Rattle.std.proofs.Common.{refl, subst}
use Rattle.std.proofs.lemmas.Result.{err_from_is_err_and}
use Rattle.mesa_model.specs.Tables.{make_table}
use Rattle.mesa_model.specs.declared.commands.Command.TheVariants as command
use Rattle.mesa_engine.specs.mesa_store_spec.Catalog.{Catalog}
use Rattle.mesa_validate.specs.Ruled.{IsRuled, IsRefused as IsUnruled}
use Rattle.mesa_write_turns.proofs.Rulings.{rules_do, rules_told}
use Rattle.mesa_write_turns.proofs.ruling.rule_table.Goals as goal

pub returns-clause-allowed : goal.returns-clause-allowed
returns-clause-allowed c =
    let l = c.args.metadata.now.state in
    let opened = c.in_ok-check_open.ensures.opened in
    let same = c.catalog.ensures in
    let ruled = subst (λ (k : Catalog). IsRuled k (λ w. make_table w c.args.words.now) c.in_ok-table.field-0) same c.in_ok-table.ensures.ruled in
    record { opened = opened; rules = ruled.rules; fit = ruled.fit; does = (c.in_ok-table.ensures.written, c.in_ok-table.ensures.told, rules_do l opened (λ w. make_table w c.args.words.now) c.in_ok-table.field-0 ruled) }

pub returns-in_err-table-clause-refused : goal.returns-in_err-table-clause-refused
returns-in_err-table-clause-refused c =
    let p = err_from_is_err_and c.from_residual-in_err-table.result c.from_residual-in_err-table.ensures.1 in
    let l = c.args.metadata.now.state in
    let why = c.in_err-table.field-0.0 in
    rw (p.1, p.2)
    (rules_told l c.in_ok-check_open.ensures.opened (command.Table c.args.words.now) (λ w. make_table w c.args.words.now) why refl (subst (λ (k : Catalog). IsUnruled k (λ w. make_table w c.args.words.now) why) c.catalog.ensures c.in_err-table.ensures.refused) (λ position session is. is))
