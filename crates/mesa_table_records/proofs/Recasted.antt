-- A recast that was made of a table, and that is taken in.
use Rattle.std.proofs.Common.{◌≡◌, ℕ, ◌+◌, ◌≤◌, ◌<◌, List, [], ◌∷◌, ◌++◌, map, refl, sym, ◌∙◌, ap, arith, true, Option, Some, None, is_ok}
use Rattle.std.specs.Prelude.{◌==◌, ◌&&◌, flat_map, nat_le, nat_lt, option_map}
use Rattle.std.proofs.lemmas.Bool.Decides.{nat_tests}
use Rattle.std.proofs.lemmas.Simd.{map-map}
use Rattle.mesa_catalog_table.specs.mesa_columns.declared.columns.KeyColumn.{KeyColumn}
use Rattle.mesa_catalog_table.specs.mesa_columns.declared.columns.ValueColumn.{ValueColumn}
use Rattle.mesa_catalog_table.specs.mesa_columns.declared.views.ViewError.TheVariants.{NoKey, NoValue}
use Rattle.mesa_catalog_table.specs.mesa_columns.Columns.{key_names, value_names}
use Rattle.mesa_schema.specs.Changes.{Lineage, columns_at, columns_of, epoch_of}
use Rattle.mesa_schema.specs.Recasts.{recast_checked, recast_lineage}
use Rattle.mesa_schema.proofs.ChosenAgain.{choice_there, names_chosen}
use Rattle.mesa_catalog_table.specs.mesa_span.Ranges.{start_behind}
use Rattle.mesa_catalog_table.specs.mesa_record.declared.record.Files.{Files}
use Rattle.mesa_catalog_table.specs.mesa_record.declared.checkpoint.CheckpointSingle.{CheckpointSingle}
use Rattle.mesa_catalog_table.specs.mesa_record.declared.recasting.RecastBase.{RecastBase}
use Rattle.mesa_catalog_table.specs.mesa_record.declared.recasting.Recasting.{Recasting}
use Rattle.mesa_catalog_table.specs.mesa_store_spec.Catalog.{Ending, base_recast, end_in, recast_in, singles_stated, singles_told, start_in}
use Rattle.mesa_catalog_table.specs.mesa_store_spec.Checkpoint.{stating_single, stating_singles, totals_or_none}
use Rattle.mesa_catalog_table.specs.mesa_store_spec.CheckpointFits.{are_singles}
use Rattle.mesa_catalog_table.specs.mesa_store_spec.Fitting.{base_renewed, files_renewed, ranges_renewed, recast_fits, single_renewed, singles_renewed, totals_fit}
use Rattle.mesa_table_records.specs.declared.ready.ReadyRecast.{ReadyRecast}
use Rattle.mesa_catalog_table.specs.declared.table.Base.{Base}
use Rattle.mesa_catalog_table.specs.declared.table.Loaded.{Loaded}
use Rattle.mesa_catalog_table.specs.declared.table.Table.{Table}
use Rattle.mesa_catalog_table.specs.Copied.{loaded_as}
use Rattle.mesa_catalog_table.specs.Meaning.{AreLoaded, IsTable, ending_of, singles_from, start_of_base, meta_of}
use Rattle.mesa_table_records.specs.Readied.{IsRecast, base_in, base_named, recasting_in, single_named}
use Rattle.mesa_table_records.specs.Stated.{loaded_stated, stating_loaded}
use Rattle.mesa_table_records.proofs.Renewed.{allowed_of}
use Rattle.mesa_table_records.proofs.Restored.{loaded_rise, singles_restored}
use Rattle.mesa_table_records.proofs.Stated.{singles_stated as held_stated}
use Rattle.mesa_catalog_table.proofs.Tens.{base_ends}
use Rattle.mesa_catalog_table.proofs.Tests.{both}
use Rattle.mesa_catalog_table.proofs.Works.{starts}

-- ---- what is made is told by the record

bases_named : (b : Option Base) → option_map base_in b ≡ option_map base_named (option_map ending_of b)
bases_named None = refl
bases_named (Some b) = refl

named_again : (epoch : ℕ) (b : Option RecastBase) → option_map base_named (option_map (base_recast epoch) b) ≡ b
named_again epoch None = refl
named_again epoch (Some b) = refl

singles_again : (ss : List CheckpointSingle) → map single_named (map loaded_stated ss) ≡ ss
singles_again [] = refl
singles_again (s ∷ ss) = ap (λ xs. s ∷ xs) (singles_again ss)

pub recast_told : (t : Table) (y : ReadyRecast) (k : Recasting) → is_ok (recast_checked t.evolving.value (recast_in k)) ≡ true → k.epoch ≡ epoch_of t.evolving.value + 1 → IsRecast t.evolving.value t.totals y k → recasting_in k.table y ≡ k
recast_told t y k ok next is =
    let s = columns_of t.evolving.value in
    let rules = (allowed_of t.evolving.value (recast_in k) ok).rules in
    let epoch = ap (λ (l : Lineage). l.begins) is.lineage ∙ sym next in
    let keys = ap (λ (l : Lineage). key_names l.first) is.lineage ∙ names_chosen (λ (c : KeyColumn). c.name) s.keys k.keys (choice_there (key_names s) NoKey k.keys rules.keys) in
    let values = ap (λ (l : Lineage). value_names l.first) is.lineage ∙ names_chosen (λ (c : ValueColumn). c.name) s.values k.values (choice_there (value_names s) NoValue k.values rules.values) in
    let base = bases_named y.base ∙ ap (option_map base_named) is.base ∙ named_again k.epoch k.base in
    let singles = sym (map-map single_named loaded_as y.loaded.items) ∙ ap (map single_named) is.loaded ∙ singles_again k.singles in
    λ i. record { table = k.table; epoch = epoch i; keys = keys i; values = values i; base = base i; singles = singles i }

-- ---- the tests of a recast

record Fits (l : Lineage) (old : Option Ending) (olds : List CheckpointSingle) (k : Recasting) : Type 0 where
  base : base_renewed l k.epoch old k.base ≡ true
  singles : singles_renewed l k.epoch olds k.singles ≡ true

fits_of : (next : ℕ) (t : Table) (k : Recasting) → IsTable next t → recast_fits (meta_of next t) k ≡ true → Fits (recast_lineage t.evolving.value (recast_in k)) (option_map ending_of t.base) (flat_map stating_loaded t.loaded.items) k
fits_of next t k table fit =
    let u = meta_of next t in
    let m = recast_lineage t.evolving.value (recast_in k) in
    let ranges = (both (is_ok (recast_checked u.lineage (recast_in k)) && (k.epoch == epoch_of u.lineage + 1)) (ranges_renewed m u k) fit).1 in
    let parts = both (base_renewed m k.epoch u.base k.base) (singles_renewed m k.epoch (stating_singles (start_in u) u.singles) k.singles) ranges in
    let held =
    ap (λ from. stating_singles from (singles_from (start_of_base t.base) next t.loaded.items)) (starts next t)
    ∙ held_stated (start_of_base t.base) next t.loaded.items table.loaded in
    record { base = parts.0; singles = ap (λ olds. singles_renewed m k.epoch olds k.singles) (sym held) ∙ parts.1 }

-- a base ends where the one did whose place it takes
same_end : (l : Lineage) (epoch : ℕ) (old : Option Ending) (new : Option RecastBase) → base_renewed l epoch old new ≡ true → option_map end_in (option_map (base_recast epoch) new) ≡ option_map end_in old
same_end l epoch None None fit = refl
same_end l epoch None (Some b) fit = absurd (cc)
same_end l epoch (Some e) None fit = absurd (cc)
same_end l epoch (Some e) (Some b) fit =
    let test = (both (e.to == b.to) (files_renewed l epoch e.delta.files b.files) fit).0 in
    let same : b.to ≡ e.to = grind (arith, nat_tests, test) in
    ap Some same

start_same : (next : ℕ) (t : Table) (y : ReadyRecast) (k : Recasting) → IsTable next t → recast_fits (meta_of next t) k ≡ true → IsRecast t.evolving.value t.totals y k → start_of_base y.base ≡ start_of_base t.base
start_same next t y k table fit is =
    ap start_behind (sym (base_ends y.base) ∙ ap (option_map end_in) is.base
    ∙ same_end (recast_lineage t.evolving.value (recast_in k)) k.epoch (option_map ending_of t.base) k.base (fits_of next t k table fit).base ∙ base_ends t.base)

-- ---- versions rise

rise_lower : (a b next : ℕ) (ss : List CheckpointSingle) → a ≤ b → are_singles b next ss ≡ true → are_singles a next ss ≡ true
rise_lower a b next [] h e = refl
rise_lower a b next (s ∷ ss) h e =
    let parts = both (nat_le b s.version && nat_lt s.version next) (are_singles (s.version + 1) next ss) e in
    let within = both (nat_le b s.version) (nat_lt s.version next) parts.0 in
    let low : b ≤ s.version = grind (arith, nat_tests, within.0) in
    let lower : nat_le a s.version ≡ true = grind (arith, nat_tests) in
    (λ i. lower i && within.1 i && parts.1 i)

one_rises : (l : Lineage) (epoch from next : ℕ) (x : Loaded) (olds news : List CheckpointSingle) (o : Option Files) → from ≤ x.version → x.version < next
    → ((ns : List CheckpointSingle) → singles_renewed l epoch olds ns ≡ true → are_singles (x.version + 1) next ns ≡ true)
    → singles_renewed l epoch (stating_single x.version x.delta.value.epoch x.delta.value.totals o ++ olds) news ≡ true → are_singles from next news ≡ true
one_rises l epoch from next x olds news None low below rest fit = rise_lower from (x.version + 1) next news (omega (arith, low)) (rest news fit)
one_rises l epoch from next x olds [] (Some f) low below rest fit = absurd (cc)
one_rises l epoch from next x olds (n ∷ news) (Some f) low below rest fit =
    let old : CheckpointSingle = record { version = x.version; epoch = x.delta.value.epoch; files = f; totals = totals_or_none x.delta.value.totals } in
    let parts = both (single_renewed l epoch old n) (singles_renewed l epoch olds news) fit in
    let third = both ((x.version == n.version) && (n.epoch == epoch) && files_renewed l epoch (Some f) (Some n.files)) (totals_fit (columns_at l epoch) n.totals) parts.0 in
    let second = both ((x.version == n.version) && (n.epoch == epoch)) (files_renewed l epoch (Some f) (Some n.files)) third.0 in
    let first = (both (x.version == n.version) (n.epoch == epoch) second.0).0 in
    let same : n.version ≡ x.version = grind (arith, nat_tests, first) in
    let lower : nat_le from n.version ≡ true = grind (arith, nat_tests) in
    let less : nat_lt n.version next ≡ true = grind (arith, nat_tests) in
    let more = ap (λ v. are_singles (v + 1) next news) same ∙ rest news parts.1 in
    (λ i. lower i && less i && more i)

told_rise : (l : Lineage) (epoch from next : ℕ) (loaded : List Loaded) (news : List CheckpointSingle) → AreLoaded from next loaded → singles_renewed l epoch (flat_map stating_loaded loaded) news ≡ true → are_singles from next news ≡ true
told_rise l epoch from next [] [] are fit = refl
told_rise l epoch from next [] (n ∷ news) are fit = absurd (cc)
told_rise l epoch from next (x ∷ loaded) news are fit =
    one_rises l epoch from next x (flat_map stating_loaded loaded) news x.delta.value.files are.0 are.1 (λ ns f. told_rise l epoch (x.version + 1) next loaded ns are.2 f) fit

-- ---- a table that is recast

pub singles_recast : (next : ℕ) (t : Table) (y : ReadyRecast) (k : Recasting) → IsTable next t → recast_fits (meta_of next t) k ≡ true → IsRecast t.evolving.value t.totals y k
    → singles_from (start_of_base y.base) next y.loaded.items ≡ singles_told next (meta_of next t) k
singles_recast next t y k table fit is =
    singles_restored (start_of_base y.base) next y.loaded.items k.singles is.loaded
    ∙ ap (λ from. singles_stated from next k.singles) (start_same next t y k table fit is ∙ sym (starts next t))

pub tens_recast : (next : ℕ) (t : Table) (y : ReadyRecast) (k : Recasting) → IsTable next t → recast_fits (meta_of next t) k ≡ true → IsRecast t.evolving.value t.totals y k → start_of_base y.base ≤ next
tens_recast next t y k table fit is =
    let same = start_same next t y k table fit is in
    let tens = table.tens in
    omega (arith, same, tens)

pub loaded_recast : (next : ℕ) (t : Table) (y : ReadyRecast) (k : Recasting) → IsTable next t → recast_fits (meta_of next t) k ≡ true → IsRecast t.evolving.value t.totals y k → AreLoaded (start_of_base y.base) next y.loaded.items
loaded_recast next t y k table fit is =
    let rise = told_rise (recast_lineage t.evolving.value (recast_in k)) k.epoch (start_of_base t.base) next t.loaded.items k.singles table.loaded (fits_of next t k table fit).singles in
    loaded_rise (start_of_base y.base) next y.loaded.items k.singles (ap (λ from. are_singles from next k.singles) (start_same next t y k table fit is) ∙ rise) is.loaded
