use Rattle.std.proofs.Common.{◌≤◌, ◌∙◌, ap, sym, subst}
use Rattle.std.specs.List.{AllByRecursion}
use Rattle.mesa_catalog_records.specs.mesa_store_spec.Fitting.{brings_new_files}
use Rattle.mesa_catalog.specs.Kept.{Reserved}
use Rattle.mesa_catalog_records.specs.Named.{held_ids, ids_brought}
use Rattle.mesa_catalog_records.proofs.Ids.{brings_held, named_held, rising_new}
use Rattle.mesa_catalog.proofs.catalog.Catalog.brings_new_files.Goals as goal

pub returns-then-brings_rising : goal.returns-then-brings_rising
returns-then-brings_rising c =
    let s = c.self.inside.catalog_tables in
    let r = c.args.r.now in
    let above = c.self.inside.greatest in
    let found = c.brings_rising.ensures c.if-brings_rising.true in
    let below = subst (AllByRecursion (λ id. id ≤ above)) (named_held s) c.self.invariant.most in
    sym (rising_new s.run above found.0 (held_ids s) (ids_brought r) below found.1) ∙ brings_held s r ∙ ap (λ (k : Reserved). brings_new_files k.catalogue r) c.self.view_is

pub returns : goal.returns
returns c =
    let s = c.self.inside.catalog_tables in
    let r = c.args.r.now in
    c.brings_new.ensures ∙ brings_held s r ∙ ap (λ (k : Reserved). brings_new_files k.catalogue r) c.self.view_is
