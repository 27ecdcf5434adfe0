-- The checkpoint of a catalogue states the catalogue.
use Rattle.std.proofs.Common.{◌≡◌, inl, inr, ℕ, suc, ◌+◌, ◌-◌, ◌<◌, ◌≤◌, List, [], ◌∷◌, ◌++◌, map, length, replicate, Option, Some, None, refl, sym, ◌∙◌, ap, arith}
use Rattle.std.specs.Prelude.{option_map, IfSome, ⊤}
use Rattle.std.specs.List.{AllByRecursion}
use Rattle.mesa_history_spec.specs.mesa_span.Ranges.{start_behind}
use Rattle.mesa_record.specs.declared.record.Files.{Files}
use Rattle.mesa_store_spec.specs.Catalog.{Delta, Ending, TableMeta, Catalog, empty_delta, end_in, start_in}
use Rattle.mesa_store_spec.specs.Shape.{IsShaped, IsCatalog}
use Rattle.mesa_record.specs.declared.checkpoint.CheckpointSingle.{CheckpointSingle}
use Rattle.mesa_store_spec.specs.Checkpoint.{range_stated, single_stated, singles_stated, meta_stated, stated, to_stated, stating_range, stating_single, stating_singles, stating_table, checkpoint_of}
use Rattle.mesa_store_spec.specs.Statable.{HasRows, IsSingle, IsUncounted, IsStatable, AreStatable}

-- ---- merged ranges

ending_with : Ending → Option (List ℕ) → Ending
ending_with e totals = record { to = e.to; delta = record { epoch = e.delta.epoch; files = e.delta.files; totals = totals } }

range_again : (e : Ending) → IsUncounted e → range_stated (stating_range e) ≡ e
unfolding ending_with
range_again e is = ap (ending_with e) (sym is)

base_again : (o : Option Ending) → IfSome o IsUncounted → option_map range_stated (option_map stating_range o) ≡ o
base_again None is = refl
base_again (Some e) is = ap (λ (x : Ending). Some x) (range_again e is)

ranges_again : (es : List Ending) → AllByRecursion IsUncounted es → map range_stated (map stating_range es) ≡ es
ranges_again [] all = refl
ranges_again (e ∷ es) all = λ i. range_again e all.0 i ∷ ranges_again es all.1 i

pub start_again : (o : Option Ending) → start_behind (option_map to_stated (option_map stating_range o)) ≡ start_behind (option_map end_in o)
start_again None = refl
start_again (Some e) = refl

-- ---- singletons

-- the first of these is of this version or a later one
abbrev pub StartsFrom : ℕ → List CheckpointSingle → Type 0
StartsFrom from [] = ⊤
StartsFrom from (s ∷ singles) = from ≤ s.version

pub starts_lower : (from : ℕ) (singles : List CheckpointSingle) → StartsFrom (from + 1) singles → StartsFrom from singles
starts_lower from [] is = tt
starts_lower from (s ∷ singles) is = (let le : from ≤ s.version = omega (arith, is) in le)

starts_by : (from epoch : ℕ) (totals : Option (List ℕ)) (files : Option Files) (rest : List CheckpointSingle) → StartsFrom (from + 1) rest → StartsFrom from (stating_single from epoch totals files ++ rest)
starts_by from epoch totals None rest is = starts_lower from rest is
starts_by from epoch totals (Some f) rest is = (let le : from ≤ from = omega arith in le)

pub starts : (from : ℕ) (ds : List Delta) → StartsFrom from (stating_singles from ds)
starts from [] = tt
starts from (d ∷ ds) = starts_by from d.epoch d.totals d.files (stating_singles (from + 1) ds) (starts (from + 1) ds)

-- one without rows more
pub empty_more : (from next : ℕ) (singles : List CheckpointSingle) → from < next → StartsFrom (from + 1) singles → singles_stated from next singles ≡ empty_delta ∷ singles_stated (from + 1) next singles
empty_more from next [] lt is =
    let n : next - from ≡ suc (next - (from + 1)) = omega (arith, lt) in
    ap (λ k. replicate k empty_delta) n
empty_more from next (s ∷ singles) lt is =
    let n : s.version - from ≡ suc (s.version - (from + 1)) = omega (arith, is) in
    ap (λ k. replicate k empty_delta ++ single_stated s ∷ singles_stated (s.version + 1) next singles) n

-- and one with rows
delta_with : ℕ → Option Files → Option (List ℕ) → Delta
delta_with epoch files totals = record { epoch = epoch; files = files; totals = totals }

row_more : (from next : ℕ) (d : Delta) (has : HasRows d) (rest : List CheckpointSingle) → singles_stated from next (stating_single from d.epoch d.totals d.files ++ rest) ≡ d ∷ singles_stated (from + 1) next rest
unfolding delta_with
row_more from next d has rest =
    let none : from - from ≡ 0 = omega arith in
    (λ i. singles_stated from next (stating_single from d.epoch (has.totals i) (has.files i) ++ rest))
    ∙ ap (λ k. replicate k empty_delta ++ delta_with d.epoch (Some has.own) (Some has.counts) ∷ singles_stated (from + 1) next rest) none
    ∙ (λ i. delta_with d.epoch (sym has.files i) (sym has.totals i) ∷ singles_stated (from + 1) next rest)

singles_again : (from next : ℕ) (ds : List Delta) → from + length ds ≡ next → AllByRecursion IsSingle ds → singles_stated from next (stating_singles from ds) ≡ ds
singles_again from next [] len all =
    let n : next - from ≡ 0 = omega (arith, len) in
    ap (λ k. replicate k empty_delta) n
singles_again from next (d ∷ ds) len all =
    single_again from next d ds (omega (arith, len)) (starts (from + 1) ds) all.0 (singles_again (from + 1) next ds (omega (arith, len)) all.1)
  where
    single_again : (from next : ℕ) (d : Delta) (ds : List Delta) → from < next → StartsFrom (from + 1) (stating_singles (from + 1) ds) → IsSingle d
        → singles_stated (from + 1) next (stating_singles (from + 1) ds) ≡ ds → singles_stated from next (stating_single from d.epoch d.totals d.files ++ stating_singles (from + 1) ds) ≡ d ∷ ds
    single_again from next d ds lt behind (inl none) rest =
        ap (λ (x : Delta). singles_stated from next (stating_single from x.epoch x.totals x.files ++ stating_singles (from + 1) ds)) none
        ∙ empty_more from next (stating_singles (from + 1) ds) lt behind
        ∙ (λ i. sym none i ∷ rest i)
    single_again from next d ds lt behind (inr has) rest = row_more from next d has (stating_singles (from + 1) ds) ∙ ap (λ (xs : List Delta). d ∷ xs) rest

-- ---- tables

table_again : (floor next : ℕ) (t : TableMeta) → IsShaped floor next t → IsStatable t → meta_stated next (stating_table t) ≡ t
table_again floor next t shaped is =
    let bases = base_again t.base is.base in
    let ranges = ranges_again t.cumulatives is.cumulatives in
    let singles = ap (λ from. singles_stated from next (stating_singles (start_in t) t.singles)) (start_again t.base) ∙ singles_again (start_in t) next t.singles shaped.singles is.singles in
    λ i. record { name = t.name; lineage = t.lineage; totals = t.totals; oldest = t.oldest; base = bases i; cumulatives = ranges i; singles = singles i }

tables_again : (floor next : ℕ) (ts : List TableMeta) → AllByRecursion (IsShaped floor next) ts → AllByRecursion IsStatable ts → map (meta_stated next) (map stating_table ts) ≡ ts
tables_again floor next [] shaped is = refl
tables_again floor next (t ∷ ts) shaped is = λ i. table_again floor next t shaped.0 is.0 i ∷ tables_again floor next ts shaped.1 is.1 i

pub catalog_again : (c : Catalog) (number : ℕ) → IsCatalog c → AreStatable c → stated (checkpoint_of number c) ≡ c
catalog_again c number shaped is =
    let tables = tables_again c.floor c.next c.tables shaped.tables is in
    λ i. record { tables = tables i; floor = c.floor; next = c.next; run = c.run }
