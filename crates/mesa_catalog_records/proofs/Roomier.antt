-- More room changes no content.
use Rattle.std.proofs.Common.{◌≡◌, ℕ, zero, suc, ◌<◌, List, [], ◌∷◌, length, map, set, get_or, refl, sym, ◌∙◌, ap, subst, arith}
use Rattle.std.specs.Prelude.{option_map}
use Rattle.std.specs.List.{AllByRecursion}
use Rattle.std.specs.declared.alloc.Global.{Global}
use Rattle.std.specs.declared.sync.Arc.{Arc}
use Rattle.mesa_schema.specs.Changes.{Lineage}
use Rattle.mesa_table_records.specs.mesa_catalog_table.declared.table.Table.{Table}
use Rattle.mesa_table_records.specs.mesa_catalog_table.Meaning.{AreLoaded, IsTable, ending_of, singles_from, start_of_base, meta_of, tens_from, widths_of}
use Rattle.mesa_catalog_records.specs.Readied.{AreRoomier}
use Rattle.mesa_table_records.specs.mesa_catalog_table.Room.{HasSpare, IsRoomier}

roomier_same : (t : Table) → IsRoomier t t
roomier_same t = record { name = refl; evolving = refl; widths = refl; totals = refl; oldest = refl; base = refl; cumulatives = refl; loaded = refl; spare = λ h. h }

roomier_then : (a b c : Table) → IsRoomier a b → IsRoomier b c → IsRoomier a c
roomier_then a b c h k = record {
  name = k.name ∙ h.name;
  evolving = k.evolving ∙ h.evolving;
  widths = k.widths ∙ h.widths;
  totals = k.totals ∙ h.totals;
  oldest = k.oldest ∙ h.oldest;
  base = k.base ∙ h.base;
  cumulatives = k.cumulatives ∙ h.cumulatives;
  loaded = k.loaded ∙ h.loaded;
  spare = λ s. k.spare (h.spare s);
}

pub roomier_all : (ts : List Table) → AreRoomier ts ts
roomier_all [] = tt
roomier_all (t ∷ ts) = (roomier_same t, roomier_all ts)

pub roomier_set : (old now : List Table) (i : ℕ) (d t : Table) → AreRoomier old now → i < length now → IsRoomier (get_or now i d) t → AreRoomier old (set now i t)
roomier_set [] [] i d t all h k = absurd (omega arith)
roomier_set [] (y ∷ ys) i d t all h k = absurd all
roomier_set (x ∷ xs) [] i d t all h k = absurd all
roomier_set (x ∷ xs) (y ∷ ys) zero d t all h k = (roomier_then x y t all.0 k, all.1)
roomier_set (x ∷ xs) (y ∷ ys) (suc i) d t all h k = (all.0, roomier_set xs ys i d t all.1 (omega arith) k)

roomier_meta : (next : ℕ) (old new : Table) → IsRoomier old new → meta_of next new ≡ meta_of next old
roomier_meta next old new r = λ i. record {
  name = r.name i;
  lineage = ap (λ (e : Arc Lineage Global). e.value) r.evolving i;
  totals = r.totals i;
  oldest = r.oldest i;
  base = option_map ending_of (r.base i);
  cumulatives = tens_from (start_of_base (r.base i)) (r.cumulatives i);
  singles = singles_from (start_of_base (r.base i)) next (r.loaded i);
}

pub roomier_metas : (next : ℕ) (old new : List Table) → AreRoomier old new → map (meta_of next) new ≡ map (meta_of next) old
roomier_metas next [] [] all = refl
roomier_metas next [] (y ∷ ys) all = absurd all
roomier_metas next (x ∷ xs) [] all = absurd all
roomier_metas next (x ∷ xs) (y ∷ ys) all = λ i. roomier_meta next x y all.0 i ∷ roomier_metas next xs ys all.1 i

roomier_table : (next : ℕ) (old new : Table) → IsRoomier old new → IsTable next old → IsTable next new
roomier_table next old new r table = record {
  tens = let tens = table.tens in let start = ap start_of_base r.base in let count = ap length r.cumulatives in omega arith;
  loaded = subst (λ b. AreLoaded (start_of_base b) next new.loaded.items) (sym r.base) (subst (AreLoaded (start_of_base old.base) next) (sym r.loaded) table.loaded);
  oldest = omega (arith, r.oldest, table.oldest);
  widths = r.widths ∙ table.widths ∙ sym (ap (λ (e : Arc Lineage Global). widths_of e.value) r.evolving);
}

pub roomier_tables : (next : ℕ) (old new : List Table) → AreRoomier old new → AllByRecursion (IsTable next) old → AllByRecursion (IsTable next) new
roomier_tables next [] [] all are = tt
roomier_tables next [] (y ∷ ys) all are = absurd all
roomier_tables next (x ∷ xs) [] all are = absurd all
roomier_tables next (x ∷ xs) (y ∷ ys) all are = (roomier_table next x y all.0 are.0, roomier_tables next xs ys all.1 are.1)

pub roomier_spares : (old new : List Table) → AreRoomier old new → AllByRecursion HasSpare old → AllByRecursion HasSpare new
roomier_spares [] [] all are = tt
roomier_spares [] (y ∷ ys) all are = absurd all
roomier_spares (x ∷ xs) [] all are = absurd all
roomier_spares (x ∷ xs) (y ∷ ys) all are = (all.0.spare are.0, roomier_spares xs ys all.1 are.1)

pub roomier_length : (old new : List Table) → AreRoomier old new → length new ≡ length old
roomier_length [] [] all = refl
roomier_length [] (y ∷ ys) all = absurd all
roomier_length (x ∷ xs) [] all = absurd all
roomier_length (x ∷ xs) (y ∷ ys) all = ap suc (roomier_length xs ys all.1)
