-- A table that a checkpoint states.
use Rattle.std.proofs.Common.{◌≡◌, ℕ, zero, suc, ◌+◌, ◌-◌, ◌*◌, ◌≤◌, ◌<◌, List, [], ◌∷◌, ◌++◌, length, map, refl, sym, ◌∙◌, ap, arith, Bool, true, false}
use Rattle.std.specs.Prelude.{◌==◌, ◌&&◌, ◌||◌, nat_le, nat_lt, replicate, Option, Some, None, option_map}
use Rattle.std.specs.List.{list_all, range_with_len}
use Rattle.std.specs.declared.alloc.Global.{Global}
use Rattle.std.specs.declared.sync.Arc.{Arc}
use Rattle.std.proofs.lemmas.Bool.Decides.{nat_tests}
use Rattle.std.proofs.lemmas.List.{length-map, length_push, take_all, take-append-le}
use Rattle.std.proofs.lemmas.List.FromFn.{map-range_with_len_more}
use Rattle.mesa_catalog_table.specs.mesa_columns.declared.changes.Change.{Change}
use Rattle.mesa_catalog_table.specs.mesa_columns.declared.changes.Change.TheVariants.{AddKey, AddValue, DropValue}
use Rattle.mesa_catalog_table.specs.mesa_columns.declared.views.View.{View}
use Rattle.mesa_catalog_table.specs.mesa_columns.Columns.{Columns, value_names}
use Rattle.mesa_catalog_table.specs.mesa_columns.Changes.{columns_after}
use Rattle.mesa_schema.specs.Changes.{Lineage, columns_at, columns_of, drop_rule, epoch_of, rule_checked, with_change}
use Rattle.mesa_catalog_table.specs.mesa_span.Ranges.{start_behind}
use Rattle.mesa_catalog_table.specs.mesa_record.declared.checkpoint.CheckpointRange.{CheckpointRange}
use Rattle.mesa_catalog_table.specs.mesa_record.declared.checkpoint.CheckpointSingle.{CheckpointSingle}
use Rattle.mesa_catalog_table.specs.mesa_record.declared.checkpoint.CheckpointTable.{CheckpointTable}
use Rattle.mesa_catalog_table.specs.mesa_store_spec.Catalog.{Delta, empty_delta, end_in}
use Rattle.mesa_catalog_table.specs.mesa_store_spec.Checkpoint.{lineage_stated, range_stated, single_stated, singles_stated, meta_stated, to_stated}
use Rattle.mesa_catalog_table.specs.mesa_store_spec.CheckpointFits.{are_singles, are_tens, base_fits, oldest_fits, plain, range_fits, single_fits}
use Rattle.mesa_catalog_table.specs.declared.table.Base.{Base}
use Rattle.mesa_catalog_table.specs.declared.table.Loaded.{Loaded}
use Rattle.mesa_catalog_table.specs.declared.table.Table.{Table}
use Rattle.mesa_catalog_table.specs.Copied.{loaded_as, value_in}
use Rattle.mesa_catalog_table.specs.Meaning.{AreLoaded, IsTable, ending_of, singles_from, start_of_base, meta_of, tens_from, widths_of}
use Rattle.mesa_table_records.specs.Stated.{delta_stated, loaded_stated}
use Rattle.mesa_catalog_table.proofs.Tens.{base_ends}
use Rattle.mesa_catalog_table.proofs.Tests.{both}

-- ---- columns

-- without views a change is allowed by the columns alone
pub rule_alone : (l : Lineage) (c : Change) → l.views ≡ [] → rule_checked l c ≡ rule_checked (plain (columns_of l)) c
rule_alone l (AddValue column default) e = refl
rule_alone l (DropValue name) e = ap (λ (views : List View). drop_rule (value_names (columns_of l)) views name) e
rule_alone l (AddKey column default) e = refl

-- the columns of earlier epochs stay
columns_stay : (l : Lineage) (c : Change) (epoch : ℕ) → epoch ≤ epoch_of l → columns_at (with_change l c) epoch ≡ columns_at l epoch
columns_stay l c epoch h = ap (columns_after l.first) (take-append-le (epoch - l.begins) l.changes (c ∷ []) (omega (arith, h)))

counts_stay : (f : Columns → ℕ) (l : Lineage) (c : Change) (from n : ℕ) → from + n ≤ epoch_of l + 1
    → map (λ e. f (columns_at (with_change l c) e)) (range_with_len from n) ≡ map (λ e. f (columns_at l e)) (range_with_len from n)
counts_stay f l c from zero h = refl
counts_stay f l c from (suc n) h = (λ i. f (columns_stay l c from (omega arith) i) ∷ counts_stay f l c (from + 1) n (omega arith) i)

-- what is counted of each epoch, with the epoch of a change
pub counts_changed : (f : Columns → ℕ) (l : Lineage) (c : Change)
    → map (λ e. f (columns_at (with_change l c) e)) (range_with_len 0 (epoch_of (with_change l c) + 1)) ≡ map (λ e. f (columns_at l e)) (range_with_len 0 (epoch_of l + 1)) ++ f (columns_of (with_change l c)) ∷ []
counts_changed f l c =
    let more : length (l.changes ++ c ∷ []) ≡ length l.changes + 1 = length_push l.changes c in
    let count : epoch_of (with_change l c) + 1 ≡ epoch_of l + 1 + 1 = omega (arith, more) in
    let now : columns_at (with_change l c) (epoch_of l + 1) ≡ columns_of (with_change l c) = ap (columns_after l.first) (take_all (epoch_of l + 1 - l.begins) (l.changes ++ c ∷ []) (omega (arith, more))) in
    ap (λ n. map (λ e. f (columns_at (with_change l c) e)) (range_with_len 0 n)) count
    ∙ map-range_with_len_more (λ e. f (columns_at (with_change l c) e)) 0 (epoch_of l + 1) (epoch_of l + 1) (omega arith)
    ∙ (λ i. counts_stay f l c 0 (epoch_of l + 1) (omega arith) i ++ f (now i) ∷ [])

-- ---- cumulatives

pub tens_stated : (start : ℕ) (ds : List (Arc Delta Global)) (rs : List CheckpointRange) → are_tens start rs ≡ true → map value_in ds ≡ map delta_stated rs → tens_from start ds ≡ map range_stated rs
tens_stated start [] [] tens same = refl
tens_stated start [] (r ∷ rs) tens same = absurd (cc)
tens_stated start (d ∷ ds) [] tens same = absurd (cc)
tens_stated start (d ∷ ds) (r ∷ rs) tens same =
    let parts = both (r.to == start + 9) (are_tens (start + 10) rs) tens in
    let end : start + 9 ≡ r.to = grind (arith, nat_tests, parts.0) in
    let delta : d.value ≡ delta_stated r = cc in
    let others : map value_in ds ≡ map delta_stated rs = cc in
    λ i. record { to = end i; delta = delta i } ∷ tens_stated (start + 10) ds rs parts.1 others i

-- all of them are of versions that are there
pub tens_within : (l : Lineage) (start next : ℕ) (rs : List CheckpointRange) → start ≤ next → are_tens start rs ≡ true → list_all (range_fits l next) rs ≡ true → start + 10 * length rs ≤ next
tens_within l start next [] h tens fit = omega (arith, h)
tens_within l start next (r ∷ rs) h tens fit =
    let parts = both (r.to == start + 9) (are_tens (start + 10) rs) tens in
    let first = both (range_fits l next r) (list_all (range_fits l next) rs) fit in
    let below = (both (nat_lt r.to next) _ first.0).0 in
    let end : r.to ≡ start + 9 = grind (arith, nat_tests, parts.0) in
    let low : r.to < next = grind (arith, nat_tests, below) in
    let rest = tens_within l (start + 10) next rs (omega (arith, end, low)) parts.1 first.1 in
    omega (arith, rest)

-- ---- singletons

pub singles_restored : (from next : ℕ) (ls : List Loaded) (ss : List CheckpointSingle) → map loaded_as ls ≡ map loaded_stated ss → singles_from from next ls ≡ singles_stated from next ss
singles_restored from next [] [] same = refl
singles_restored from next [] (s ∷ ss) same = absurd (cc)
singles_restored from next (l ∷ ls) [] same = absurd (cc)
singles_restored from next (l ∷ ls) (s ∷ ss) same =
    let first : loaded_as l ≡ loaded_stated s = cc in
    let others : map loaded_as ls ≡ map loaded_stated ss = cc in
    (λ i. replicate ((first i).0 - from) empty_delta ++ (first i).1 ∷ singles_from ((first i).0 + 1) next ls)
    ∙ ap (λ ds. replicate (s.version - from) empty_delta ++ single_stated s ∷ ds) (singles_restored (s.version + 1) next ls ss others)

pub loaded_rise : (from next : ℕ) (ls : List Loaded) (ss : List CheckpointSingle) → are_singles from next ss ≡ true → map loaded_as ls ≡ map loaded_stated ss → AreLoaded from next ls
loaded_rise from next [] ss rise same = tt
loaded_rise from next (l ∷ ls) [] rise same = absurd (cc)
loaded_rise from next (l ∷ ls) (s ∷ ss) rise same =
    let first : loaded_as l ≡ loaded_stated s = cc in
    let version : l.version ≡ s.version = ap (λ p. p.0) first in
    let others : map loaded_as ls ≡ map loaded_stated ss = cc in
    let parts = both (nat_le from s.version && nat_lt s.version next) (are_singles (s.version + 1) next ss) rise in
    let within = both (nat_le from s.version) (nat_lt s.version next) parts.0 in
    let low : from ≤ s.version = grind (arith, nat_tests, within.0) in
    let high : s.version < next = grind (arith, nat_tests, within.1) in
    (omega (arith, low, version), omega (arith, high, version), loaded_rise (l.version + 1) next ls ss (ap (λ v. are_singles (v + 1) next ss) version ∙ parts.1) others)

-- ---- a table

start_restored : (b : Option Base) (r : Option CheckpointRange) → option_map ending_of b ≡ option_map range_stated r → start_of_base b ≡ start_behind (option_map to_stated r)
start_restored b r same = ap start_behind (sym (base_ends b) ∙ ap (option_map end_in) same ∙ ends r)
  where
    ends : (o : Option CheckpointRange) → option_map end_in (option_map range_stated o) ≡ option_map to_stated o
    ends None = refl
    ends (Some x) = refl

start_within : (l : Lineage) (oldest next : ℕ) (r : Option CheckpointRange) → base_fits l oldest next r ≡ true → start_behind (option_map to_stated r) ≤ next
start_within l oldest next None fits = omega arith
start_within l oldest next (Some r) fits =
    let below = (both (nat_lt r.to next) _ (both (nat_le r.to oldest) _ fits).1).0 in
    grind (arith, nat_tests, below)

pub there : (oldest next : ℕ) → oldest_fits oldest next ≡ true → oldest ≤ next - 1
there oldest next fits =
    elim (nat_lt oldest next) as (λ b. nat_lt oldest next ≡ b → oldest ≤ next - 1) [
      | true ↦ λ e. grind (arith, nat_tests)
      | false ↦ λ e.
          let zeros = both (oldest == 0) (next == 0) (other (nat_lt oldest next) _ e fits) in
          let none : oldest ≡ 0 = grind (arith, nat_tests, zeros.0) in
          omega (arith, none)
    ] refl
  where
    other : (a b : Bool) → a ≡ false → (a || b) ≡ true → b ≡ true
    other true b e h = absurd (cc)
    other false b e h = h

-- A table that was made of what is stated.
pub record IsRestored (next : ℕ) (s : CheckpointTable) (t : Table) : Type 0 where
  pub name : t.name ≡ s.name
  pub lineage : t.evolving.value ≡ lineage_stated s
  pub widths : t.widths ≡ widths_of (lineage_stated s)
  pub totals : t.totals ≡ s.totals
  pub oldest : t.oldest ≡ s.oldest
  pub base : option_map ending_of t.base ≡ option_map range_stated s.base
  pub cumulatives : map value_in t.cumulatives.items ≡ map delta_stated s.cumulatives
  pub loaded : map loaded_as t.loaded.items ≡ map loaded_stated s.singles
  pub base_there : base_fits (lineage_stated s) s.oldest next s.base ≡ true
  pub tens : are_tens (start_of_base t.base) s.cumulatives ≡ true
  pub ranges : list_all (range_fits (lineage_stated s) next) s.cumulatives ≡ true
  pub rise : are_singles (start_of_base t.base) next s.singles ≡ true
  pub oldest_there : oldest_fits s.oldest next ≡ true

pub restored_meta : (next : ℕ) (s : CheckpointTable) (t : Table) → IsRestored next s t → meta_of next t ≡ meta_stated next s
restored_meta next s t r =
    let start = start_restored t.base s.base r.base in
    let cumulatives = tens_stated (start_of_base t.base) t.cumulatives.items s.cumulatives r.tens r.cumulatives in
    let singles = singles_restored (start_of_base t.base) next t.loaded.items s.singles r.loaded ∙ ap (λ from. singles_stated from next s.singles) start in
    λ i. record { name = r.name i; lineage = r.lineage i; totals = r.totals i; oldest = r.oldest i; base = r.base i; cumulatives = cumulatives i; singles = singles i }

pub restored_table : (next : ℕ) (s : CheckpointTable) (t : Table) → IsRestored next s t → IsTable next t
restored_table next s t r =
    let start = start_restored t.base s.base r.base in
    let low = start_within (lineage_stated s) s.oldest next s.base r.base_there in
    let begins : start_of_base t.base ≤ next = omega (arith, start, low) in
    let within = tens_within (lineage_stated s) (start_of_base t.base) next s.cumulatives begins r.tens r.ranges in
    let count : length t.cumulatives.items ≡ length s.cumulatives = sym (length-map t.cumulatives.items value_in) ∙ ap length r.cumulatives ∙ length-map s.cumulatives delta_stated in
    record {
      tens = omega (arith, within, count);
      loaded = loaded_rise (start_of_base t.base) next t.loaded.items s.singles r.rise r.loaded;
      oldest = let below = there s.oldest next r.oldest_there in omega (arith, below, r.oldest);
      widths = r.widths ∙ ap widths_of (sym r.lineage);
    }

-- by what is made of each part of what is stated, with these columns and this first version behind the base
pub restored_parts : (floor next : ℕ) (s : CheckpointTable) (t : Table) (l : Lineage) (start : ℕ) → l ≡ lineage_stated s → start ≡ start_of_base t.base
    → t.name ≡ s.name → t.evolving.value ≡ l → t.widths ≡ widths_of l → t.totals ≡ s.totals → t.oldest ≡ s.oldest
    → option_map ending_of t.base ≡ option_map range_stated s.base → map value_in t.cumulatives.items ≡ map delta_stated s.cumulatives → map loaded_as t.loaded.items ≡ map loaded_stated s.singles
    → base_fits l s.oldest next s.base ≡ true → (are_tens start s.cumulatives && list_all (range_fits l next) s.cumulatives) ≡ true
    → (are_singles start next s.singles && list_all (single_fits l) s.singles) ≡ true → (nat_le floor s.oldest && oldest_fits s.oldest next) ≡ true → IsRestored next s t
restored_parts floor next s t l start is begins name lineage widths totals oldest base cumulatives loaded base_there ranges singles starts =
    let tens = both (are_tens start s.cumulatives) (list_all (range_fits l next) s.cumulatives) ranges in
    let rise = both (are_singles start next s.singles) (list_all (single_fits l) s.singles) singles in
    record {
      name = name;
      lineage = lineage ∙ is;
      widths = widths ∙ ap widths_of is;
      totals = totals;
      oldest = oldest;
      base = base;
      cumulatives = cumulatives;
      loaded = loaded;
      base_there = ap (λ x. base_fits x s.oldest next s.base) (sym is) ∙ base_there;
      tens = ap (λ n. are_tens n s.cumulatives) (sym begins) ∙ tens.0;
      ranges = ap (λ x. list_all (range_fits x next) s.cumulatives) (sym is) ∙ tens.1;
      rise = ap (λ n. are_singles n next s.singles) (sym begins) ∙ rise.0;
      oldest_there = (both (nat_le floor s.oldest) (oldest_fits s.oldest next) starts).1;
    }
