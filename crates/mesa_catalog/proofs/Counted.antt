-- How often an id is named after a record that fits, whatever its rules.
use Rattle.std.proofs.Common.{◌≡◌, ⊎_elim, ℕ, ◌+◌, ◌<◌, ◌≤◌, true, arith}
use Rattle.std.proofs.lemmas.Bool.{cases_lt}
use Rattle.mesa_catalog_records.specs.mesa_record.declared.record.Record.{Record}
use Rattle.mesa_catalog_records.specs.mesa_store_spec.Catalog.{Catalog, applied}
use Rattle.mesa_catalog_records.specs.mesa_store_spec.Fitting.{fits, kind_fits}
use Rattle.mesa_catalog_records.specs.mesa_store_spec.Ids.{brought_ids, named, times}
use Rattle.mesa_catalog_records.proofs.mesa_store_spec.Ids.{brought_own, counted_most}
use Rattle.mesa_catalog_records.proofs.mesa_store_spec.Moving.{kind_of}

module _ (id : ℕ) where
  -- An id that stood once at most does so after a record that fits.
  pub still_once : (c : Catalog) (r : Record) → fits c r ≡ true → times id (named c) ≤ 1 → times id (named (applied c r)) ≤ 1
  still_once c r fit once =
      let most = counted_most id c r (kind_of c r fit) in
      ⊎_elim (λ some. (let its = brought_own id c r fit some in let zero = its.new in let one = its.once in let le : times id (named (applied c r)) ≤ 1 = omega (arith, most, zero, one) in le))
      (λ none. (let le : times id (named (applied c r)) ≤ 1 = omega (arith, most, none, once) in le)) (cases_lt 0 (times id (brought_ids c r)))

  -- what is named after a record was named before, or is brought
  pub named_or_brought : (c : Catalog) (r : Record) → kind_fits c r ≡ true → 0 < times id (named (applied c r)) → 0 < times id (named c) + times id (brought_ids c r)
  named_or_brought c r e some = let most = counted_most id c r e in omega (arith, most, some)
