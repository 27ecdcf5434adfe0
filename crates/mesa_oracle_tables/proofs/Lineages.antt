-- Columns and views of a table in the place of those before.
use Rattle.std.proofs.Common.{◌≡◌, ℕ, zero, suc, ◌+◌, ◌<◌, ◌≤◌, List, [], ◌∷◌, length, map, set, refl, sym, ◌∙◌, ap, subst, arith, Some}
use Rattle.std.specs.Prelude.{slice_get, slice_index_or, IfSome}
use Rattle.std.specs.List.{AllByRecursion}
use Rattle.std.specs.declared.alloc.Global.{Global}
use Rattle.std.specs.declared.sync.Arc.{Arc}
use Rattle.std.proofs.lemmas.List.{length-set}
use Rattle.mesa_answer.specs.mesa_columns.Columns.{Columns}
use Rattle.mesa_schema.specs.Changes.{Lineage, columns_of}
use Rattle.mesa_batch.specs.declared.glance.Glanced.{Glanced}
use Rattle.mesa_batch.specs.Glance.{Known}
use Rattle.mesa_batch.specs.Numbers.{known_of}
use Rattle.mesa_model.specs.Warehouse.{Table, no_table}
use Rattle.mesa_oracle_tables.specs.Found.{known_at}
use Rattle.mesa_oracle_tables.specs.Kept.{Contents, From, contents_in, table_in, tables_in, totals_in}
use Rattle.mesa_oracle_tables.specs.Sound.{AreKept, HasTotals, IsHeld}
use Rattle.mesa_oracle_tables.proofs.Seen.{some_there}

-- the tables' names
pub names_kept : (from : From) (n : ℕ) (totals : List (List ℕ)) (versions : List Contents) (tables : List Glanced)
    → map (λ (t : Table). t.name) (tables_in from n totals versions (map known_of tables)) ≡ map (λ (t : Glanced). t.name) tables
names_kept from n totals versions [] = refl
names_kept from n totals versions (t ∷ tables) = ap (λ names. t.name ∷ names) (names_kept from (n + 1) totals versions tables)

-- one of the tables has another lineage
pub tables_set : (from : From) (n : ℕ) (totals : List (List ℕ)) (versions : List Contents) (tables : List Known) (i : ℕ) (l : Lineage)
    → tables_in from n totals versions (set tables i (record (known_at i tables) { lineage = l })) ≡ set (tables_in from n totals versions tables) i (record (slice_index_or (tables_in from n totals versions tables) i no_table) { lineage = l })
tables_set from n totals versions [] i l = refl
tables_set from n totals versions (k ∷ tables) zero l = refl
tables_set from n totals versions (k ∷ tables) (suc i) l = ap (λ ts. table_in from n totals versions k ∷ ts) (tables_set from (n + 1) totals versions tables i l)

same_item : {X : Type 0} (x y : X) → Some x ≡ Some y → x ≡ y
same_item x y h = cc

put_at : (tables : List Glanced) (i : ℕ) (t : Glanced) (evolving : Arc Lineage Global) → slice_get tables i ≡ Some t
    → map known_of (set tables i (record t { evolving = evolving })) ≡ set (map known_of tables) i (record (known_at i (map known_of tables)) { lineage = evolving.value })
put_at [] i t evolving there = absurd cc
put_at (g ∷ tables) zero t evolving there = ap (λ (x : Glanced). record { name = x.name; lineage = evolving.value } ∷ map known_of tables) (sym (same_item g t there))
put_at (g ∷ tables) (suc i) t evolving there = ap (λ ks. known_of g ∷ ks) (put_at tables i t evolving there)

pub put_known : (tables after : List Glanced) (i : ℕ) (evolving : Arc Lineage Global) → i < length tables → IfSome (slice_get tables i) (λ (t : Glanced). after ≡ set tables i (record t { evolving = evolving }))
    → map known_of after ≡ set (map known_of tables) i (record (known_at i (map known_of tables)) { lineage = evolving.value })
put_known tables after i evolving lt put =
    let there = some_there tables i lt in
    let is : after ≡ set tables i (record there.0 { evolving = evolving }) = subst (λ o. IfSome o (λ (t : Glanced). after ≡ set tables i (record t { evolving = evolving }))) there.1 put in
    ap (map known_of) is ∙ put_at tables i there.0 evolving there.1

-- each of the tables was there with its columns
was_there : (tables : List Known) (i : ℕ) (q : Known) (n : ℕ) (k : Known) → columns_of q.lineage ≡ columns_of (known_at i tables).lineage → slice_get (set tables i q) n ≡ Some k
    → (p : Known) × ((slice_get tables n ≡ Some p) × (columns_of p.lineage ≡ columns_of k.lineage))
was_there [] i q n k same there = absurd cc
was_there (t ∷ tables) zero q zero k same there = (t, (refl, sym same ∙ ap (λ (x : Known). columns_of x.lineage) (same_item q k there)))
was_there (t ∷ tables) zero q (suc n) k same there = (k, (there, refl))
was_there (t ∷ tables) (suc i) q zero k same there = (t, (refl, ap (λ (x : Known). columns_of x.lineage) (same_item t k there)))
was_there (t ∷ tables) (suc i) q (suc n) k same there = was_there tables i q n k same there

-- with the same columns what is kept of the tables still fits together
pub kept_lineage : (tables : List Known) (totals : List (List ℕ)) (versions : List Contents) (from : From) (next i : ℕ) (l : Lineage) → AreKept tables totals versions from next → columns_of l ≡ columns_of (known_at i tables).lineage
    → AreKept (set tables i (record (known_at i tables) { lineage = l })) totals versions from next
kept_lineage tables totals versions from next i l kept same =
    let q : Known = record (known_at i tables) { lineage = l } in
    let long : length (set tables i q) ≡ length tables = length-set tables i q in
    record {
      few = omega (arith, long, kept.few);
      count = kept.count ∙ sym long;
      oldests = kept.oldests ∙ sym long;
      apart = kept.apart;
      widths = subst (λ n. AllByRecursion (λ (contents : Contents). length contents ≤ n) versions) (sym long) kept.widths;
      numbers = kept.numbers;
      floor = kept.floor;
      most = kept.most;
      have = λ n k e.
          let was = was_there tables i q n k same e in
          subst (λ (s : Columns). HasTotals s (totals_in n totals)) was.1.1 (kept.have n was.0 was.1.0);
      held = λ n k e.
          let was = was_there tables i q n k same e in
          subst (λ (s : Columns). AllByRecursion (IsHeld s (totals_in n totals)) (contents_in n versions)) was.1.1 (kept.held n was.0 was.1.0);
    }
