use Rattle.std.proofs.Common.{◌≡◌, ℕ, List, sym, ◌∙◌, ap, refl, subst, Option, None, Some, Err}
use Rattle.std.proofs.lemmas.Result.{err_from_is_err_and}
use Rattle.mesa_model.specs.Versions.{expire_all, expire_table}
use Rattle.mesa_model.specs.Warehouse.{Warehouse}
use Rattle.mesa_model.specs.declared.commands.Command.TheVariants as command
use Rattle.mesa_record.specs.declared.record.Record.TheVariants as record_of
use Rattle.mesa_engine.specs.mesa_store_spec.Catalog.{Catalog}
use Rattle.mesa_engine.specs.Failure.{told_as}
use Rattle.mesa_engine.specs.declared.failure.Failure.TheVariants as failure
use Rattle.mesa_validate.specs.Ruled.{IsRuled, IsRefused as IsUnruled}
use Rattle.mesa_validate.specs.Seen.{HasCatalog, number_of}
use Rattle.mesa_write_turns.specs.Ruling.{IsAllowed, IsRefused}
use Rattle.mesa_write_turns.proofs.Rulings.{rules_do, rules_refuse_now, rules_told}
use Rattle.mesa_write_turns.proofs.ruling.rule_expire.Goals as goal

-- ---- of all tables

pub returns-in_ok-expire-in-None-clause-allowed : goal.returns-in_ok-expire-in-None-clause-allowed
returns-in_ok-expire-in-None-clause-allowed c =
    let l = c.args.metadata.now.state in
    let r = c.in_ok-expire-in-None.field-0 in
    let opened = c.in_ok-check_open.ensures.opened in
    let ruled = subst (λ (k : Catalog). IsRuled k (λ w. expire_all w c.args.version) r) c.catalog-catalog.ensures c.in_ok-expire-in-None.ensures.ruled in
    let all : IsAllowed l (command.Expire None c.args.version) r =
    record { opened = opened; rules = ruled.rules; fit = ruled.fit; does = (c.in_ok-expire-in-None.ensures.written, c.in_ok-expire-in-None.ensures.told, rules_do l opened (λ w. expire_all w c.args.version) r ruled) } in
    subst (λ (table : Option (List ℕ)). IsAllowed l (command.Expire table c.args.version) r) (sym c.in-None.is) all

pub returns-in_err-expire-in-None-clause-refused : goal.returns-in_err-expire-in-None-clause-refused
returns-in_err-expire-in-None-clause-refused c =
    let p = err_from_is_err_and c.from_residual-in_err-expire-in-None.result c.from_residual-in_err-expire-in-None.ensures.1 in
    let l = c.args.metadata.now.state in
    let refusal = c.in_err-expire-in-None.field-0.0 in
    let is = rules_refuse_now l c.in_ok-check_open.ensures.opened (command.Expire None c.args.version) (λ w. expire_all w c.args.version) refusal
    (subst (λ (k : Catalog). (w : Warehouse) → HasCatalog k w → expire_all w c.args.version ≡ Err refusal) c.catalog-catalog.ensures c.in_err-expire-in-None.ensures.refused) in
    let all : IsRefused l (command.Expire None c.args.version) (failure.Refused refusal) = record { failed = λ position session. (refusal, is, refl); quiet = refl } in
    rw (p.1, p.2) (subst (λ (table : Option (List ℕ)). IsRefused l (command.Expire table c.args.version) (failure.Refused refusal)) (sym c.in-None.is) all)

-- ---- of the table that is named

pub returns-in_ok-expire_table-in-Some-clause-allowed : goal.returns-in_ok-expire_table-in-Some-clause-allowed
returns-in_ok-expire_table-in-Some-clause-allowed c =
    let l = c.args.metadata.now.state in
    let name = c.as_slice.result.now in
    let r = c.in_ok-expire_table-in-Some.field-0 in
    let opened = c.in_ok-check_open.ensures.opened in
    let same = c.catalog-catalog.ensures in
    let ruled = subst (λ (k : Catalog). IsRuled k (λ w. expire_table w name c.args.version) r) same c.in_ok-expire_table-in-Some.ensures.ruled in
    let written = subst (λ (k : Catalog). (number : ℕ) × (number_of k name ≡ Some number) × (r.writes ≡ record_of.ExpireTable number c.args.version)) same c.in_ok-expire_table-in-Some.ensures.written in
    let one : IsAllowed l (command.Expire (Some name) c.args.version) r =
    record { opened = opened; rules = ruled.rules; fit = ruled.fit; does = (written.0, written.1, written.2, c.in_ok-expire_table-in-Some.ensures.told, rules_do l opened (λ w. expire_table w name c.args.version) r ruled) } in
    subst (λ (table : Option (List ℕ)). IsAllowed l (command.Expire table c.args.version) r) (ap Some c.as_slice.ensures ∙ sym c.in-Some.is) one

pub returns-in_err-expire_table-in-Some-clause-refused : goal.returns-in_err-expire_table-in-Some-clause-refused
returns-in_err-expire_table-in-Some-clause-refused c =
    let p = err_from_is_err_and c.from_residual-in_err-expire_table-in-Some.result c.from_residual-in_err-expire_table-in-Some.ensures.1 in
    let l = c.args.metadata.now.state in
    let name = c.as_slice.result.now in
    let why = c.in_err-expire_table-in-Some.field-0.0 in
    let one : IsRefused l (command.Expire (Some name) c.args.version) (told_as why) =
    rules_told l c.in_ok-check_open.ensures.opened (command.Expire (Some name) c.args.version) (λ w. expire_table w name c.args.version) why refl
    (subst (λ (k : Catalog). IsUnruled k (λ w. expire_table w name c.args.version) why) c.catalog-catalog.ensures c.in_err-expire_table-in-Some.ensures.refused) (λ position session is. is) in
    rw (p.1, p.2) (subst (λ (table : Option (List ℕ)). IsRefused l (command.Expire table c.args.version) (told_as why)) (ap Some c.as_slice.ensures ∙ sym c.in-Some.is) one)
