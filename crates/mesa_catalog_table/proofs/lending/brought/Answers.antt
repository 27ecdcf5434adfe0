use Rattle.std.proofs.Common.{◌≡◌, ◌∙◌, ap, sym, refl, cond, length, ltb, rules, arith, true, false}
use Rattle.std.specs.Prelude.{Some, ◌==◌}
use Rattle.std.proofs.lemmas.Bool.Decides.{nat_tests}
use Rattle.std.proofs.lemmas.List.Sorted.{IsPartitionPoint-from_clause, IsPartitionedBy-ltb}
use Rattle.std.proofs.lemmas.Option.{slice_get_past, slice_get_read}
use Rattle.mesa_store_spec.specs.Catalog.{empty_delta}
use Rattle.mesa_catalog_table.proofs.Ranged.{brought_in, single_found, version_of, versions_rise}
use Rattle.mesa_catalog_table.proofs.lending.brought.Goals as goal
use Rattle.mesa_catalog_table.proofs.lending.brought.Goals.{in_default-via-in-Some+else-single-version, in_default-via-in_default}

pub returns-in-Some : goal.returns-in-Some
returns-in-Some c = λ from next are low high.
    let loaded = c.args.loaded.now in
    let version = c.args.version in
    let i = c.partition_point-before.result in
    let l = c.in-Some.single.now in
    let parted = IsPartitionedBy-ltb version_of loaded version (versions_rise from next loaded are) in
    let point = IsPartitionPoint-from_clause (λ l. ltb (version_of l) version) loaded _ c.partition_point-before.ensures.partitioned parted (λ a r q k. search rules) in
    let there = c.in-Some.ensures.lookup.3 in
    let got = slice_get_read loaded (length loaded) i l refl there.0 (there.1 l) in
    let here : (l.version == version) ≡ true = let same = c.if-single-version.true in grind (arith, nat_tests) in
    single_found version from next loaded i are low high point ∙ ap (λ o. Some (brought_in version o)) got
    ∙ ap (λ b. Some (cond b l.delta.value empty_delta)) here ∙ ap Some (sym c.deref.ensures)

pub returns-in_default : goal.returns-in_default
returns-in_default c = λ from next are low high.
    let loaded = c.args.loaded.now in
    let version = c.args.version in
    let i = c.partition_point-before.result in
    let parted = IsPartitionedBy-ltb version_of loaded version (versions_rise from next loaded are) in
    let point = IsPartitionPoint-from_clause (λ l. ltb (version_of l) version) loaded _ c.partition_point-before.ensures.partitioned parted (λ a r q k. search rules) in
    let found = single_found version from next loaded i are low high point in
    elim c.in_default.branch [
      | in_default-via-in-Some+else-single-version w ↦
          let l = w.in-Some.single.now in
          let there = w.in-Some.ensures.lookup.3 in
          let got = slice_get_read loaded (length loaded) i l refl there.0 (there.1 l) in
          let other : (l.version == version) ≡ false = let differ = w.if-single-version.false in grind (arith, nat_tests) in
          found ∙ ap (λ o. Some (brought_in version o)) got ∙ ap (λ b. Some (cond b l.delta.value empty_delta)) other ∙ ap Some (sym c.lend.ensures)
      | in_default-via-in_default w ↦ found ∙ ap (λ o. Some (brought_in version o)) (slice_get_past loaded i w.in_default.ensures.lookup.3) ∙ ap Some (sym c.lend.ensures)
    ]
