use Rattle.std.proofs.Common.{◌≡◌, ℕ, ◌∙◌, ap, sym, refl, Bool, true, false, Option}
use Rattle.std.specs.Prelude.{◌&&◌}
use Rattle.std.specs.List.{list_all}
use Rattle.mesa_table_records.specs.mesa_record.declared.record.Files.{Files}
use Rattle.mesa_table_records.specs.mesa_catalog_table.Named.{own_if_any}
use Rattle.mesa_catalog_records.specs.Named.{held_ids, ids_brought, is_once_new}
use Rattle.mesa_catalog_records.proofs.newness.own_is_new.Goals as goal

alone : (b : Bool) → b ≡ (b && true)
alone true = refl
alone false = refl

pub returns-in-Some : goal.returns-in-Some
returns-in-Some c =
    let s = c.args.catalog_tables.now in
    let test : ℕ → Bool = is_once_new s.run (held_ids s) (ids_brought c.args.r.now) in
    c.is_new.ensures ∙ ap test c.number.ensures ∙ alone (test c.in-Some.files.file.id) ∙ ap (λ (o : Option Files). list_all test (own_if_any o)) (sym c.in-Some.is)
