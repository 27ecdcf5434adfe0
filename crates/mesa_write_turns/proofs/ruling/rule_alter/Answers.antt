use Rattle.std.proofs.Common.{◌≡◌, ℕ, ◌+◌, sym, ◌∙◌, ap, refl, subst, Some, Ok}
use Rattle.std.proofs.lemmas.Result.{err_from_is_err_and}
use Rattle.mesa_columns.specs.declared.changes.Change.{Change}
use Rattle.mesa_file_records.specs.mesa_schema.Changes.{columns_of, epoch_of}
use Rattle.mesa_model.specs.Tables.{alter_table, change_asked}
use Rattle.mesa_model.specs.declared.replies.Reply.TheVariants as reply
use Rattle.mesa_record.specs.declared.record.Record.TheVariants as record_of
use Rattle.mesa_engine.specs.mesa_store_spec.Catalog.{meta_at}
use Rattle.mesa_validate.specs.Seen.{number_of}
use Rattle.mesa_model.specs.declared.commands.Command.TheVariants as command
use Rattle.mesa_engine.specs.mesa_store_spec.Catalog.{Catalog}
use Rattle.mesa_validate.specs.Ruled.{IsRuled, IsRefused as IsUnruled}
use Rattle.mesa_write_turns.proofs.Rulings.{rules_do, rules_told}
use Rattle.mesa_write_turns.proofs.ruling.rule_alter.Goals as goal

pub returns-clause-allowed : goal.returns-clause-allowed
returns-clause-allowed c =
    let l = c.args.metadata.now.state in
    let opened = c.in_ok-check_open.ensures.opened in
    let same = c.catalog.ensures in
    let ruled = subst (λ (k : Catalog). IsRuled k (λ w. alter_table w c.args.words.now) c.in_ok-alter.field-0) same c.in_ok-alter.ensures.ruled in
    let words = c.args.words.now in
    let w = subst (λ (k : Catalog). (number : ℕ) × (change : Change) × (number_of k words.table ≡ Some number) × (change_asked (columns_of (meta_at k number).lineage) words.change ≡ Ok change) × (c.in_ok-alter.field-0.writes ≡ record_of.Alter number change)) same c.in_ok-alter.ensures.written in
    let t = subst (λ (k : Catalog). (number : ℕ) × (number_of k words.table ≡ Some number) × (c.in_ok-alter.field-0.tells ≡ reply.Altered words.table (epoch_of (meta_at k number).lineage + 1))) same c.in_ok-alter.ensures.told in
    let one : t.0 ≡ w.0 = (let both : Some t.0 ≡ Some w.0 = sym t.1 ∙ w.2 in cc) in
    record { opened = opened; rules = ruled.rules; fit = ruled.fit; does = (w.0, w.1, w.2, w.3, w.4, t.2 ∙ ap (λ n. reply.Altered words.table (epoch_of (meta_at l.catalogue n).lineage + 1)) one, rules_do l opened (λ w. alter_table w c.args.words.now) c.in_ok-alter.field-0 ruled) }

pub returns-in_err-alter-clause-refused : goal.returns-in_err-alter-clause-refused
returns-in_err-alter-clause-refused c =
    let p = err_from_is_err_and c.from_residual-in_err-alter.result c.from_residual-in_err-alter.ensures.1 in
    let l = c.args.metadata.now.state in
    let why = c.in_err-alter.field-0.0 in
    rw (p.1, p.2)
    (rules_told l c.in_ok-check_open.ensures.opened (command.Alter c.args.words.now) (λ w. alter_table w c.args.words.now) why refl (subst (λ (k : Catalog). IsUnruled k (λ w. alter_table w c.args.words.now) why) c.catalog.ensures c.in_err-alter.ensures.refused) (λ position session is. is))
