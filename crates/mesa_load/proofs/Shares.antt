-- The parts of a batch, one table after another.
use Rattle.std.proofs.Common.{◌≡◌, ℕ, zero, suc, ◌+◌, ◌<◌, List, [], ◌∷◌, ◌++◌, Bool, true, false, Some, length, map, flat_map, take, min, refl, sym, ap, subst, ◌∙◌, arith, append_assoc, append-nil, add-zero}
use Rattle.std.specs.Prelude.{slice_get, slice_index_or, nat_le, ◌||◌}
use Rattle.std.specs.List.{AllByRecursion, list_any}
use Rattle.std.proofs.lemmas.Bool.{le-leb, leb-true}
use Rattle.std.proofs.lemmas.Grind.{flat_map-append}
use Rattle.std.proofs.lemmas.List.{length-take-le}
use Rattle.std.proofs.lemmas.List.Folds.{list_any-append}
use Rattle.mesa_open_files.specs.mesa_columns.declared.rows.Row.{Row}
use Rattle.mesa_open_files.specs.mesa_columns.Columns.{Columns, aggs_of}
use Rattle.mesa_schema.specs.Changes.{Lineage, columns_of}
use Rattle.mesa_open_files.specs.mesa_fold.Folded.{folded}
use Rattle.mesa_open_files.specs.mesa_fold.Laws.{FoldsRise}
use Rattle.mesa_open_files.specs.mesa_columns.Rows.{AreRowsOf, keys_rise}
use Rattle.mesa_batch.specs.Batch.{Placed, columns_at, rows_for}
use Rattle.mesa_batch.specs.Gathered.{Batched, columns_for, rows_at}
use Rattle.mesa_batch.specs.Glance.{Known, Sight, columns_in, tables_of}
use Rattle.mesa_batch.specs.Totals.{abs_totals, capped, sum_bound}
use Rattle.mesa_open_files.specs.Batches.{Share, is_over, share_of, shares_from}
use Rattle.mesa_load.specs.Filing.{AreFileRows}
use Rattle.mesa_load.specs.FilesToWrite.{IsFit, content_in}
use Rattle.mesa_load.specs.Plans.{ArePlanned, IsBatched, IsPlan, IsPlanned, contents_of, table_contents}
use Rattle.mesa_load.specs.declared.planning.Plan.{Plan}
use Rattle.mesa_load.specs.declared.planning.Planned.{Planned}
use Rattle.mesa_load.proofs.Places.{Splits, index_map, splits_at}
use Rattle.mesa_load.proofs.Rows.{folded_some, keeps_sums, rise_of}

-- one table more
shares_next : (batch : List Placed) (n : ℕ) (tables : List Known) (t : Known) → shares_from batch n (tables ++ t ∷ []) ≡ shares_from batch n tables ++ share_of (n + length tables) t.lineage (rows_for (n + length tables) batch)
shares_next batch n [] t =
    append-nil (share_of n t.lineage (rows_for n batch)) ∙ ap (λ (m : ℕ). share_of m t.lineage (rows_for m batch)) (sym (add-zero n))
shares_next batch n (x ∷ xs) t =
    let here = share_of n x.lineage (rows_for n batch) in
    let last = λ (m : ℕ). share_of m t.lineage (rows_for m batch) in
    let count : (n + 1) + length xs ≡ n + length (x ∷ xs) = omega arith in
    ap (λ (ss : List Share). here ++ ss) (shares_next batch (n + 1) xs t ∙ ap (λ (m : ℕ). shares_from batch (n + 1) xs ++ last m) count)
    ∙ sym (append_assoc here (shares_from batch (n + 1) xs) (last (n + length (x ∷ xs))))

pub shares_taken : (batch : List Placed) (tables : List Known) (i : ℕ) (s : Splits i tables) → i < length tables
    → shares_from batch 0 (take (i + 1) tables) ≡ shares_from batch 0 (take i tables) ++ share_of i s.x.lineage (rows_for i batch)
shares_taken batch tables i s lt =
    let count : 0 + length (take i tables) ≡ i = omega (arith, length-take-le i tables (omega arith)) in
    ap (shares_from batch 0) s.front ∙ shares_next batch 0 (take i tables) s.x ∙ ap (λ (m : ℕ). shares_from batch 0 (take i tables) ++ share_of m s.x.lineage (rows_for m batch)) count

-- ---- a table's part

share_none : (table : ℕ) (l : Lineage) (rows its : List Row) → its ≡ folded (aggs_of (columns_of l)) (rows ∷ []) → its ≡ [] → share_of table l rows ≡ []
share_none table l [] its fold none = refl
share_none table l (row ∷ rows) its fold none =
    let some : 0 < length (folded (aggs_of (columns_of l)) ((row ∷ rows) ∷ [])) = folded_some (aggs_of (columns_of l)) (row ∷ rows) (omega arith) in
    absurd (omega (arith, some, ap length (sym fold ∙ none)))

abbrev share_with : ℕ → Lineage → List Row → Share
share_with table l its = record { table = table; lineage = l; rows = its; totals = abs_totals (columns_of l) its }

share_there : (table : ℕ) (l : Lineage) (rows its : List Row) → its ≡ folded (aggs_of (columns_of l)) (rows ∷ []) → abs_totals (columns_of l) its ≡ abs_totals (columns_of l) rows → 0 < length its
    → (share_of table l rows ≡ share_with table l its ∷ []) × (0 < length rows)
share_there table l [] its fold totals some = absurd (omega (arith, ap length fold))
share_there table l (row ∷ rows) its fold totals some = (
  ap (λ (rs : List Row). record { table = table; lineage = l; rows = rs; totals = abs_totals (columns_of l) (row ∷ rows) } ∷ []) (sym fold)
      ∙ ap (λ (ts : List ℕ). record { table = table; lineage = l; rows = its; totals = ts } ∷ []) (sym totals),
  omega arith,
)

-- the columns of a table of a glance
columns_known : (sight : Sight) (table : ℕ) (x : Known) → slice_get sight.tables table ≡ Some x → columns_at table (tables_of sight) ≡ columns_of x.lineage
columns_known sight table x at = by sight.tables table at
  where
    by : (ts : List Known) (i : ℕ) → slice_get ts i ≡ Some x → columns_at i (map (λ (t : Known). record { name = t.name; columns = columns_of t.lineage }) ts) ≡ columns_of x.lineage
    by [] i is = cc
    by (t ∷ ts) zero is = let same : t ≡ x = cc in ap (λ (k : Known). columns_of k.lineage) same
    by (t ∷ ts) (suc i) is = by ts i is

columns_had : (sight : Sight) (table : ℕ) (x : Known) (b : Batched) → b.columns ≡ columns_in sight → slice_get sight.tables table ≡ Some x → columns_for table b ≡ columns_of x.lineage
columns_had sight table x b columns at =
    ap (λ (cs : List Columns). slice_index_or cs table (record { keys = []; values = [] })) columns ∙ index_map (λ (t : Known). columns_of t.lineage) sight.tables table (record { keys = []; values = [] }) x at

-- a batch with rows of a table has rows
batch_some : (table : ℕ) (batch : List Placed) → 0 < length (rows_for table batch) → 0 < length batch
batch_some table [] some = some
batch_some table (p ∷ batch) some = omega arith

-- ---- plans

planned_more : (shares : List Share) (share : Share) (ps : List Planned) (p : Planned) → ArePlanned shares ps → IsPlanned share p → ArePlanned (shares ++ share ∷ []) (ps ++ p ∷ [])
planned_more [] share [] p all one = (one, tt)
planned_more [] share (q ∷ ps) p all one = absurd all
planned_more (s ∷ ss) share [] p all one = absurd all
planned_more (s ∷ ss) share (q ∷ ps) p all one = (all.0, planned_more ss share ps p all.1 one)

capped_over : (totals : List ℕ) → list_any (λ total. nat_le sum_bound total) (capped totals) ≡ list_any (λ total. nat_le sum_bound total) totals
capped_over [] = refl
capped_over (t ∷ ts) =
    let one : nat_le sum_bound (min sum_bound t) ≡ nat_le sum_bound t = grind (arith, le-leb, leb-true) in
    ap (λ (b : Bool). b || list_any (λ total. nat_le sum_bound total) (capped ts)) one ∙ ap (λ (b : Bool). nat_le sum_bound t || b) (capped_over ts)

-- a plan for tables is one for a table more of which the batch has no rows
pub plan_same : (sight : Sight) (batch : List Placed) (b : Batched) (table : ℕ) (p : Plan) → table < length sight.tables → IsBatched sight batch b → rows_at table b ≡ []
    → IsPlan batch (take table sight.tables) p → IsPlan batch (take (table + 1) sight.tables) p
plan_same sight batch b table p lt is none plan =
    let s = splits_at table sight.tables lt in
    let same : shares_from batch 0 (take (table + 1) sight.tables) ≡ shares_from batch 0 (take table sight.tables) =
    shares_taken batch sight.tables table s lt
    ∙ ap (λ (ss : List Share). shares_from batch 0 (take table sight.tables) ++ ss) (share_none table s.x.lineage (rows_for table batch) (rows_at table b) (is.rows table (aggs_of (columns_of s.x.lineage))) none)
    ∙ append-nil (shares_from batch 0 (take table sight.tables)) in
    record {
      parts = subst (λ (ss : List Share). ArePlanned ss p.parts.items) (sym same) plan.parts;
      contents = plan.contents ∙ ap (λ (ss : List Share). flat_map contents_of ss) (sym same);
      over = plan.over ∙ ap (λ (ss : List Share). list_any is_over ss) (sym same);
      fit = plan.fit;
    }

-- what is known of a table with rows of the batch
pub record IsNextTable (sight : Sight) (batch : List Placed) (b : Batched) (table : ℕ) (l : Lineage) : Type 0 where
  pub shares : shares_from batch 0 (take (table + 1) sight.tables) ≡ shares_from batch 0 (take table sight.tables) ++ share_with table l (rows_at table b) ∷ []
  pub columns : columns_for table b ≡ columns_of l
  pub form : AreRowsOf (columns_of l) (rows_at table b)
  pub fold : rows_at table b ≡ folded (aggs_of (columns_of l)) (rows_for table batch ∷ [])

pub next_table : (sight : Sight) (batch : List Placed) (b : Batched) (table : ℕ) (l : Lineage) → (lt : table < length sight.tables) → IsBatched sight batch b → 0 < length (rows_at table b)
    → l ≡ (splits_at table sight.tables lt).x.lineage → IsNextTable sight batch b table l
next_table sight batch b table l lt is some same =
    let s = splits_at table sight.tables lt in
    let k = s.x.lineage in
    let there = share_there table k (rows_for table batch) (rows_at table b) (is.rows table (aggs_of (columns_of k))) (is.totals table (columns_of k)) some in
    subst (λ (m : Lineage). IsNextTable sight batch b table m) (sym same) (record {
      shares = shares_taken batch sight.tables table s lt ∙ ap (λ (ss : List Share). shares_from batch 0 (take table sight.tables) ++ ss) there.0;
      columns = columns_had sight table s.x b (is.columns (batch_some table batch there.1)) s.at;
      form = subst (λ (c : Columns). AreRowsOf c (rows_at table b)) (columns_known sight table s.x s.at) (is.form table);
      fold = is.rows table (aggs_of (columns_of k));
    })

-- the plan with a table more
pub plan_next : FoldsRise → (sight : Sight) (batch : List Placed) (b : Batched) (table : ℕ) (l : Lineage) (old new : Plan) (p : Planned)
    → IsNextTable sight batch b table l → IsPlan batch (take table sight.tables) old
    → new.parts.items ≡ old.parts.items ++ p ∷ [] → p.table ≡ table → p.views ≡ length l.views → p.totals ≡ capped (abs_totals (columns_for table b) (rows_at table b))
    → map content_in new.jobs.items ≡ map content_in old.jobs.items ++ table_contents l (rows_at table b)
    → new.over ≡ (old.over || list_any (λ total. nat_le sum_bound total) p.totals)
    → (AreFileRows (columns_of l) (rows_at table b) → AllByRecursion IsFit old.jobs.items → AllByRecursion IsFit new.jobs.items)
    → IsPlan batch (take (table + 1) sight.tables) new
plan_next rises sight batch b table l old new p next plan parts number views same_totals contents over fit =
    let before = shares_from batch 0 (take table sight.tables) in
    let share = share_with table l (rows_at table b) in
    let its : p.totals ≡ capped (abs_totals (columns_of l) (rows_at table b)) = same_totals ∙ ap (λ (c : Columns). capped (abs_totals c (rows_at table b))) next.columns in
    let passes : list_any (λ total. nat_le sum_bound total) p.totals ≡ is_over share =
    ap (λ (ts : List ℕ). list_any (λ total. nat_le sum_bound total) ts) its ∙ capped_over (abs_totals (columns_of l) (rows_at table b)) in
    let either : new.over ≡ (old.over || is_over share) = over ∙ ap (λ (x : Bool). old.over || x) passes in
    record {
      parts = subst (λ (ps : List Planned). ArePlanned (shares_from batch 0 (take (table + 1) sight.tables)) ps) (sym parts)
          (subst (λ (ss : List Share). ArePlanned ss (old.parts.items ++ p ∷ [])) (sym next.shares)
          (planned_more before share old.parts.items p plan.parts (record { table = number; count = views; totals = its })));
      contents = contents ∙ ap (λ cs. cs ++ table_contents l (rows_at table b)) plan.contents
          ∙ sym (ap (λ (ss : List Share). flat_map contents_of ss) next.shares ∙ flat_map-append contents_of before (share ∷ []) ∙ ap (λ cs. flat_map contents_of before ++ cs) (append-nil (contents_of share)));
      over = either ∙ ap (λ (x : Bool). x || is_over share) plan.over ∙ sym (ap (λ (ss : List Share). list_any is_over ss) next.shares ∙ list_any-append is_over before (share ∷ []) ∙ ap (λ (x : Bool). list_any is_over before || x) (last_any share));
      fit = λ none. let parts_none = neither old.over (is_over share) (sym either ∙ none) in
          fit (record {
            form = next.form;
            rise = rise_of (rows_at table b) (subst (λ (rs : List Row). keys_rise rs ≡ true) (sym next.fold) (rises (aggs_of (columns_of l)) (rows_for table batch ∷ [])));
            sums = keeps_sums (columns_of l) (rows_at table b) parts_none.1;
          }) (plan.fit parts_none.0);
    }
  where
    neither : (x y : Bool) → (x || y) ≡ false → (x ≡ false) × (y ≡ false)
    neither true y e = absurd cc
    neither false y e = (refl, e)

    last_any : (share : Share) → list_any is_over (share ∷ []) ≡ is_over share
    last_any share = by (is_over share)
      where
        by : (x : Bool) → (x || false) ≡ x
        by true = refl
        by false = refl
