use Rattle.std.proofs.Common.{◌≡◌, ◌∙◌, ap, sym, Bool}
use Rattle.std.specs.Prelude.{◌||◌}
use Rattle.std.specs.List.{list_any}
use Rattle.std.specs.declared.alloc.Global.{Global}
use Rattle.std.specs.declared.sync.Arc.{Arc}
use Rattle.mesa_store_spec.specs.Catalog.{Delta}
use Rattle.mesa_store_spec.specs.Fitting.{has_number}
use Rattle.mesa_catalog_table.specs.declared.table.Loaded.{Loaded}
use Rattle.mesa_catalog_table.specs.Named.{base_ids, shared_ids, single_ids}
use Rattle.mesa_catalog_table.proofs.Named.{has_in_table}
use Rattle.mesa_catalog_table.proofs.Tests.{either_else, either_then}
use Rattle.mesa_catalog_table.proofs.table.Table.names.Goals as goal
use Rattle.mesa_catalog_table.proofs.table.Table.names.Goals.{then-base_names, else-base_names}

pub returns-then-cumulatives_name : goal.returns-then-cumulatives_name
returns-then-cumulatives_name c =
    let id = c.args.id in
    let t = c.args.self.now in
    let base = has_number id (base_ids t.base) in
    let test : Arc Delta Global → Bool = λ d. has_number id (shared_ids d) in
    let cumulatives = list_any test t.cumulatives.items in
    let loaded = list_any (λ (l : Loaded). has_number id (single_ids l)) t.loaded.items in
    let joined : c.if-base_names.value ≡ (base || cumulatives) =
    elim c.if-base_names.branch [
      | then-base_names w ↦ w.value-is ∙ w.if-base_names.true ∙ ap (λ b. b || cumulatives) (sym w.if-base_names.true ∙ c.base_names.ensures)
      | else-base_names w ↦ w.value-is ∙ w.cumulatives_name.ensures ∙ ap (list_any test) w.deref.ensures.value ∙ ap (λ b. b || cumulatives) (sym w.if-base_names.false ∙ c.base_names.ensures)
    ] in
    either_then c.if-base_names.value base cumulatives loaded c.if-cumulatives_name.true joined ∙ sym (has_in_table id t)

pub returns-else-cumulatives_name : goal.returns-else-cumulatives_name
returns-else-cumulatives_name c =
    let id = c.args.id in
    let t = c.args.self.now in
    let base = has_number id (base_ids t.base) in
    let test : Arc Delta Global → Bool = λ d. has_number id (shared_ids d) in
    let cumulatives = list_any test t.cumulatives.items in
    let single : Loaded → Bool = λ l. has_number id (single_ids l) in
    let joined : c.if-base_names.value ≡ (base || cumulatives) =
    elim c.if-base_names.branch [
      | then-base_names w ↦ w.value-is ∙ w.if-base_names.true ∙ ap (λ b. b || cumulatives) (sym w.if-base_names.true ∙ c.base_names.ensures)
      | else-base_names w ↦ w.value-is ∙ w.cumulatives_name.ensures ∙ ap (list_any test) w.deref.ensures.value ∙ ap (λ b. b || cumulatives) (sym w.if-base_names.false ∙ c.base_names.ensures)
    ] in
    let loaded = c.loaded_name.ensures ∙ ap (list_any single) c.deref-else-cumulatives_name.ensures.value in
    either_else c.if-base_names.value base cumulatives (list_any single t.loaded.items) c.loaded_name.result c.if-cumulatives_name.false joined loaded ∙ sym (has_in_table id t)
