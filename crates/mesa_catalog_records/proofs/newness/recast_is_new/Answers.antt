use Rattle.std.proofs.Common.{ℕ, ◌∙◌, ap, sym, map, Bool}
use Rattle.std.specs.Prelude.{◌&&◌}
use Rattle.std.specs.List.{list_all}
use Rattle.std.proofs.lemmas.List.Folds.{list_all-append}
use Rattle.mesa_table_records.specs.mesa_record.declared.checkpoint.CheckpointSingle.{CheckpointSingle}
use Rattle.mesa_catalog_records.specs.Named.{held_ids, ids_brought, is_once_new, recast_base_ids, told_id}
use Rattle.mesa_catalog_records.proofs.Ids.{all-map}
use Rattle.mesa_catalog_records.proofs.newness.recast_is_new.Goals as goal

pub returns-then-base_is_new : goal.returns-then-base_is_new
returns-then-base_is_new c =
    let s = c.args.catalog_tables.now in
    let k = c.args.told.now in
    let test : ℕ → Bool = is_once_new s.run (held_ids s) (ids_brought c.args.r.now) in
    c.singles_are_new.ensures ∙ ap (list_all (λ (x : CheckpointSingle). test x.files.file.id)) c.as_slice.ensures ∙ sym (all-map test told_id k.singles)
    ∙ ap (λ b. b && list_all test (map told_id k.singles)) (sym c.if-base_is_new.true ∙ c.base_is_new.ensures)
    ∙ sym (list_all-append test (recast_base_ids k.base) (map told_id k.singles))

pub returns-else-base_is_new : goal.returns-else-base_is_new
returns-else-base_is_new c =
    let s = c.args.catalog_tables.now in
    let k = c.args.told.now in
    let test : ℕ → Bool = is_once_new s.run (held_ids s) (ids_brought c.args.r.now) in
    c.if-base_is_new.false ∙ ap (λ b. b && list_all test (map told_id k.singles)) (sym c.if-base_is_new.false ∙ c.base_is_new.ensures)
    ∙ sym (list_all-append test (recast_base_ids k.base) (map told_id k.singles))
