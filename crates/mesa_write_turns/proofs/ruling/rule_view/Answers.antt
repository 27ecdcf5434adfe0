use Rattle.std.proofs.Common.{◌≡◌, ℕ, refl, subst, Some}
use Rattle.std.proofs.lemmas.Result.{err_from_is_err_and}
use Rattle.mesa_model.specs.Tables.{make_view}
use Rattle.mesa_record.specs.declared.record.Record.TheVariants as record_of
use Rattle.mesa_validate.specs.Seen.{number_of}
use Rattle.mesa_model.specs.declared.commands.Command.TheVariants as command
use Rattle.mesa_engine.specs.mesa_store_spec.Catalog.{Catalog}
use Rattle.mesa_validate.specs.Ruled.{IsRuled, IsRefused as IsUnruled}
use Rattle.mesa_write_turns.proofs.Rulings.{rules_do, rules_told}
use Rattle.mesa_write_turns.proofs.ruling.rule_view.Goals as goal

pub returns-clause-allowed : goal.returns-clause-allowed
returns-clause-allowed c =
    let l = c.args.metadata.now.state in
    let opened = c.in_ok-check_open.ensures.opened in
    let same = c.catalog.ensures in
    let ruled = subst (λ (k : Catalog). IsRuled k (λ w. make_view w c.args.words.now) c.in_ok-view.field-0) same c.in_ok-view.ensures.ruled in
    let words = c.args.words.now in
    let w = subst (λ (k : Catalog). (number : ℕ) × (number_of k words.table ≡ Some number) × (c.in_ok-view.field-0.writes ≡ record_of.View number words.view words.keys words.values)) same c.in_ok-view.ensures.written in
    record { opened = opened; rules = ruled.rules; fit = ruled.fit; does = (w.0, w.1, w.2, c.in_ok-view.ensures.told, rules_do l opened (λ w. make_view w c.args.words.now) c.in_ok-view.field-0 ruled) }

pub returns-in_err-view-clause-refused : goal.returns-in_err-view-clause-refused
returns-in_err-view-clause-refused c =
    let p = err_from_is_err_and c.from_residual-in_err-view.result c.from_residual-in_err-view.ensures.1 in
    let l = c.args.metadata.now.state in
    let why = c.in_err-view.field-0.0 in
    rw (p.1, p.2)
    (rules_told l c.in_ok-check_open.ensures.opened (command.View c.args.words.now) (λ w. make_view w c.args.words.now) why refl (subst (λ (k : Catalog). IsUnruled k (λ w. make_view w c.args.words.now) why) c.catalog.ensures c.in_err-view.ensures.refused) (λ position session is. is))
