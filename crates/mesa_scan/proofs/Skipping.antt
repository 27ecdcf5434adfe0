-- Blocks that are left out have no matching row.
use Rattle.std.proofs.Common.{◌≡◌, ℕ, zero, suc, ◌+◌, ◌<◌, List, [], ◌∷◌, length, get_or, true, false, cond, refl, sym, ◌∙◌, ap, subst, arith}
use Rattle.std.specs.Prelude.{map}
use Rattle.std.specs.List.{AllByRecursion}
use Rattle.std.specs.Ordering.{is_ge, is_le, ordering_reverse}
use Rattle.std.specs.declared.cmp.Ordering.{Ordering}
use Rattle.std.specs.declared.cmp.Ordering.TheVariants.{Less, Equal, Greater}
use Rattle.std.proofs.lemmas.Bool.{and_from}
use Rattle.std.proofs.lemmas.Cmp.{nat_list_cmp_total}
use Rattle.mesa_delta.specs.mesa_key.Order.{byte_cmp, short_key}
use Rattle.mesa_delta.specs.mesa_key.Spelling.{key_of}
use Rattle.mesa_delta.specs.mesa_columns.declared.rows.Row.{Row}
use Rattle.mesa_schema.specs.Changes.{Lineage, columns_at, columns_of, epoch_of, lifted}
use Rattle.mesa_delta.specs.mesa_columns.Columns.{Columns, kinds_of}
use Rattle.mesa_schema.specs.Laws.{LiftedForms, LiftedKeys}
use Rattle.mesa_schema.specs.Lineages.{IsLineage}
use Rattle.mesa_delta.specs.mesa_columns.Rows.{AreRowsOf}
use Rattle.mesa_filter.specs.declared.terms.Term.{Term}
use Rattle.mesa_filter.specs.Filter.{KeyFilter, filtered, meets}
use Rattle.mesa_filter.specs.Pruning.{NoneMeets, lies_between}
use Rattle.mesa_block.specs.Rows.{AreRows}
use Rattle.mesa_delta.specs.mesa_delta_format.Beginning.{KeysBetween, LiesBetween, bounds_of}
use Rattle.mesa_delta.specs.mesa_delta_format.Indexed.{IsIndex}
use Rattle.mesa_delta.specs.Reading.{IsIndexed, index_of}
use Rattle.mesa_delta.specs.mesa_delta_format.Spread.{blocks_of}
use Rattle.mesa_delta.specs.declared.input.Input.{Input}
use Rattle.mesa_delta.proofs.mesa_delta_format.Packing.{FitsAlone, blocks_good}
use Rattle.mesa_scan.specs.Cursors.{lift_by}
use Rattle.mesa_scan.proofs.Lifted.{block_forms}
use Rattle.mesa_scan.specs.Allowing.{bounds_in}
use Rattle.mesa_scan.specs.Scanning.{IsFilterOf, keys_in}
use Rattle.mesa_scan.proofs.Bounds.{bounds_told}
use Rattle.mesa_scan.proofs.Blocks.{lifted_forms}

turned : (o : Ordering) → is_le o ≡ true → is_ge (ordering_reverse o) ≡ true
turned Less e = refl
turned Equal e = refl
turned Greater e = cc

-- a row's short key lies between two others
between : (low high : List ℕ) (row : Row) → LiesBetween low high row → lies_between low high (short_key row.key) ≡ true
between low high row h =
    and_from (is_le (byte_cmp low (short_key row.key))) (is_ge (byte_cmp high (short_key row.key))) h.0
    (ap is_ge (nat_list_cmp_total.antisymm high (short_key row.key)) ∙ turned (byte_cmp (short_key row.key) high) h.1)

-- no lifted row matches whose own short key lies between two that none meets between
none_match : LiftedKeys → (l : Lineage) (epoch : ℕ) (terms : List Term) (low high : List ℕ) (rows : List Row) → NoneMeets (kinds_of (columns_of l)) (length (columns_at l epoch).keys) terms low high
    → AreRowsOf (columns_at l epoch) rows → AreRowsOf (columns_of l) (map (lifted l epoch (epoch_of l)) rows) → AllByRecursion (LiesBetween low high) rows
    → filtered (columns_of l) terms (map (lifted l epoch (epoch_of l)) rows) ≡ []
none_match law l epoch terms low high [] none good form lie = refl
none_match law l epoch terms low high (row ∷ rows) none good form lie =
    let now : Row = lifted l epoch (epoch_of l) row in
    let rest : List Row = filtered (columns_of l) terms (map (lifted l epoch (epoch_of l)) rows) in
    let misses : meets (key_of (kinds_of (columns_of l)) now.key) terms ≡ false =
    none (key_of (kinds_of (columns_of l)) now.key) form.0.key (subst (λ key. lies_between low high (short_key key) ≡ true) (sym (law l epoch row good.0)) (between low high row lie.0)) in
    ap (λ b. cond b (now ∷ rest) rest) misses ∙ none_match law l epoch terms low high rows none good.1 form.1 lie.1

all_at : {X : Type 0} (P : List X → Type 0) (parts : List (List X)) (n : ℕ) → n < length parts → AllByRecursion P parts → P (get_or parts n [])
all_at P [] n lt all = absurd (omega arith)
all_at P (part ∷ parts) zero lt all = all.0
all_at P (part ∷ parts) (suc n) lt all = all_at P parts n (omega arith) all.1

-- A block that is left out has no matching row.
pub skipped : FitsAlone → KeysBetween → LiftedForms → LiftedKeys → {R : Type 0} (i : Input R) (f : KeyFilter) (all : List Row) (b : List ℕ) (n : ℕ)
    → (index_of i.reader).layout.columns ≡ columns_at i.evolving.value i.epoch → IsLineage i.evolving.value → IsFilterOf i f → IsIndex (index_of i.reader) → IsIndexed (index_of i.reader) all b → n < length (blocks_of (index_of i.reader).layout all)
    → NoneMeets f.kinds (keys_in i) f.terms (get_or (bounds_in (index_of i.reader)) n []) (get_or (bounds_in (index_of i.reader)) (n + 1) [])
    → filtered (columns_of i.evolving.value) f.terms (map (lift_by i) (get_or (blocks_of (index_of i.reader).layout all) n [])) ≡ []
skipped fits keys forms own i f all b n columns lineage of index h lt none =
    let x = index_of i.reader in
    let l : Lineage = i.evolving.value in
    let block : List Row = get_or (blocks_of x.layout all) n [] in
    let each : AreRows x.layout block = all_at (AreRows x.layout) (blocks_of x.layout all) n lt (blocks_good fits x.layout all index.schema h.file.some h.file.good h.file.rise) in
    let good : AreRowsOf (columns_at l i.epoch) block = subst (λ (s : Columns). AreRowsOf s block) columns (block_forms x.layout block each) in
    let bounds : bounds_of x.layout all ≡ bounds_in x = sym (bounds_told fits x all b index h) in
    let lie : AllByRecursion (LiesBetween (get_or (bounds_in x) n []) (get_or (bounds_in x) (n + 1) [])) block =
    subst (λ (bs : List (List ℕ)). AllByRecursion (LiesBetween (get_or bs n []) (get_or bs (n + 1) [])) block) bounds (keys x.layout all n index.schema h.file.some h.file.good h.file.rise) in
    let misses : NoneMeets (kinds_of (columns_of l)) (keys_in i) f.terms (get_or (bounds_in x) n []) (get_or (bounds_in x) (n + 1) []) =
    subst (λ kinds. NoneMeets kinds (keys_in i) f.terms (get_or (bounds_in x) n []) (get_or (bounds_in x) (n + 1) [])) of none in
    none_match own l i.epoch f.terms (get_or (bounds_in x) n []) (get_or (bounds_in x) (n + 1) []) block misses good (lifted_forms forms l i.epoch block lineage good) lie
