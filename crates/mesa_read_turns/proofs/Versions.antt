-- The version that a query asks of a table is one that the table has.
use Rattle.std.proofs.Common.{◌≡◌, ℕ, zero, suc, ◌-◌, ◌<◌, ◌≤◌, List, [], ◌∷◌, length, map, get_or, Bool, true, false, ◌==◌, ◌⊎◌, inl, inr, refl, arith, None, Ok, nat_le, nat_lt}
use Rattle.std.proofs.lemmas.Bool.{leb-false, ltb-false}
use Rattle.mesa_filter.specs.declared.words.VersionWord.{VersionWord}
use Rattle.mesa_filter.specs.declared.words.VersionWord.TheVariants as asks
use Rattle.mesa_engine.specs.mesa_store_spec.Catalog.{Catalog, TableMeta, no_meta, meta_at}
use Rattle.mesa_engine.specs.EngineState.{projection_of, projections}
use Rattle.mesa_pick_files.specs.mesa_list.Checks.{◌>>◌, refuse_if}
use Rattle.mesa_model.specs.Versions.{common_oldest, oldest_among, version_asked}
use Rattle.mesa_model.specs.Warehouse.{Warehouse, newest_of}
use Rattle.mesa_model.specs.declared.replies.Refusal.TheVariants as no

module _ (w : Warehouse) (oldest : ℕ) where
  abbrev pub HasVersion : ℕ → Type 0
  HasVersion v = (oldest ≤ v) × (v < w.next)

  newest_there : (none : Bool) (v : ℕ) → (refuse_if none (no.Future asks.Latest None) >> Ok (w.next - 1)) ≡ Ok v → (none ≡ false → 0 < w.next) → (oldest < w.next) ⊎ ((oldest ≡ 0) × (w.next ≡ 0)) → HasVersion v
  newest_there true v is some there = absurd cc
  newest_there false v is some there =
      let last : w.next - 1 ≡ v = cc in
      let more = some refl in
      elim there [ inl low ↦ (omega (arith, low, last, more), omega (arith, last, more)) | inr empty ↦ (let zero = empty.1 in (omega (arith, zero, more), omega (arith, zero, more))) ]

  checked_there : (stale future : Bool) (version v : ℕ) → ((refuse_if stale (no.Stale version oldest) >> refuse_if future (no.Future (asks.At version) (newest_of w))) >> Ok version) ≡ Ok v
      → (stale ≡ false → oldest ≤ version) → (future ≡ false → version < w.next) → HasVersion v
  checked_there true future version v is low high = absurd cc
  checked_there false true version v is low high = absurd cc
  checked_there false false version v is low high = let same : version ≡ v = cc in (let a = low refl in omega (arith, a, same), (let b = high refl in omega (arith, b, same)))

  pub version_there : (asked : VersionWord) (v : ℕ) → version_asked w oldest asked ≡ Ok v → (oldest < w.next) ⊎ ((oldest ≡ 0) × (w.next ≡ 0)) → HasVersion v
  version_there asks.Latest v is there = newest_there (w.next == 0) v is (some w.next) there
    where
      some : (n : ℕ) → (n == 0) ≡ false → 0 < n
      some zero e = absurd cc
      some (suc n) e = omega arith
  version_there (asks.At version) v is there = checked_there (nat_lt version oldest) (nat_le w.next version) version v is (ltb-false version oldest) (leb-false w.next version)
  version_there (asks.Pin token) v is there = absurd cc

-- ---- a pin's version

among_most : (floor number : ℕ) (tables : List TableMeta) → number < length tables → (get_or tables number no_meta).oldest ≤ oldest_among floor (map projection_of tables)
among_most floor number [] there = absurd (omega arith)
among_most floor zero (t ∷ tables) there = omega arith
among_most floor (suc number) (t ∷ tables) there = let rest = among_most floor number tables (omega arith) in omega (arith, rest)

-- no table has an oldest version above the first that all have
pub common_most : (c : Catalog) (number : ℕ) → number < length c.tables → (meta_at c number).oldest ≤ common_oldest (projections c)
common_most c number there = among_most c.floor number c.tables there
