-- A batch whose files get ids from one on: its parts fit the tables, bring them its rows, and its files are those that the parts name.
use Rattle.std.proofs.Common.{◌≡◌, ℕ, suc, ◌+◌, ◌<◌, ◌≤◌, List, [], ◌∷◌, ◌++◌, length, map, refl, sym, ◌∙◌, ap, subst, arith, Option, Some, None, Ok}
use Rattle.std.specs.Prelude.{Bool, true, false, ◌&&◌, ◌==◌, cond, flat_map, is_none, nat_lt, ⊤}
use Rattle.std.specs.List.{AllByRecursion, list_all}
use Rattle.std.proofs.lemmas.Bool.Decides.{nat_tests}
use Rattle.std.proofs.lemmas.List.{length-map, map-append}
use Rattle.mesa_columns.specs.declared.rows.Row.{Row}
use Rattle.mesa_columns.specs.Columns.{Columns, aggs_of}
use Rattle.mesa_pick_files.specs.mesa_schema.Changes.{Lineage, columns_of, epoch_of}
use Rattle.mesa_open_files.specs.mesa_fold.Folded.{folded}
use Rattle.mesa_batch.specs.Batch.{Placed, rows_for}
use Rattle.mesa_batch.specs.Totals.{abs_totals, over_bound, sum_places, sums_in}
use Rattle.mesa_engine.specs.mesa_commit.Turn.{told_files}
use Rattle.mesa_record.specs.declared.record.Part.{Part}
use Rattle.mesa_engine.specs.mesa_store_spec.Catalog.{Catalog, TableMeta, part_of, meta_at}
use Rattle.mesa_engine.specs.mesa_store_spec.Contents.{Rows}
use Rattle.mesa_engine.specs.mesa_store_spec.Fitting.{LiveFile, files_fit, files_live, is_there, part_fits, part_live, live_id}
use Rattle.mesa_engine.specs.mesa_store_spec.Shape.{IsShaped}
use Rattle.mesa_engine.specs.mesa_store_spec.Sound.{IsTold, wanted, wants}
use Rattle.mesa_engine.specs.mesa_store_spec.Brought.{Brings, BringsAll, BringsIfAny}
use Rattle.mesa_catalog.specs.Lookups.{known_as}
use Rattle.mesa_open_files.specs.Batches.{AreParts, HasFiles, Share, share_of, shares_from}
use Rattle.mesa_open_files.specs.Made.{AreMadeFiles, AreMadeViews, Content, content_of}
use Rattle.mesa_open_files.specs.declared.made.MadeView.{MadeView}
use Rattle.mesa_open_files.specs.declared.made.MadeFile.{MadeFile}
use Rattle.mesa_open_files.specs.declared.made.MadeFiles.{MadeFiles}
use Rattle.mesa_open_files.specs.declared.prepared.PreparedPart.{PreparedPart}
use Rattle.mesa_file_records.specs.Adopted.{file_in, files_if_any, files_in, files_of_parts, files_under, part_under, parts_under, told_under}
use Rattle.mesa_file_records.specs.Bounds.{parts_checked, refused_at, totals_checked}
use Rattle.mesa_file_records.specs.Published.{rows_of_share}
use Rattle.mesa_file_records.proofs.Totals.{both_ok, none_alone, uncut}
use Rattle.mesa_file_records.proofs.Lists.{AreAt, AreFrom, all_joined, at_back, at_front, from_first, ids_from, ids_joined, told_joined}
use Rattle.mesa_file_records.proofs.Parts.{AreTold, are_told, brought_ids_are, files_right, files_told, part_brings}

-- ---- tables

-- the tables of a catalogue from a number on
abbrev pub AreTables : Catalog → ℕ → List TableMeta → Type 0
AreTables c n [] = ⊤
AreTables c n (t ∷ ts) = (meta_at c n ≡ t) × (n < length c.tables) × AreTables c (n + 1) ts

-- ---- parts of other tables

other : (m n : ℕ) → m < n → (m == n) ≡ false
other m n lt = grind (arith, nat_tests)

own : (n : ℕ) → (n == n) ≡ true
own n = grind (arith, nat_tests)

none_of : (n : ℕ) (parts : List Part) → AllByRecursion (λ (p : Part). n + 1 ≤ p.table) parts → part_of n parts ≡ None
none_of n [] all = refl
none_of n (p ∷ parts) all = ap (λ b. cond b (Some p) (part_of n parts)) (different p.table all.0) ∙ none_of n parts all.1
  where
    different : (m : ℕ) → n + 1 ≤ m → (m == n) ≡ false
    different m le = grind (arith, nat_tests)

still_brings : (rows : Rows) (p : Part) (parts : List Part) (batch : List Placed) (n : ℕ) (ts : List TableMeta) → p.table < n → BringsAll rows parts batch n ts → BringsAll rows (p ∷ parts) batch n ts
still_brings rows p parts batch n [] lt brings = tt
still_brings rows p parts batch n (t ∷ ts) lt brings = (
  subst (λ (o : Option Part). BringsIfAny rows t o (rows_for n batch)) (sym (ap (λ b. cond b (Some p) (part_of n parts)) (other p.table n lt))) brings.0,
  still_brings rows p parts batch (n + 1) ts (omega arith) brings.1,
)

-- ---- files of both

told_wants : (rows : Rows) (xs ys : List LiveFile) → told_files (wants rows (xs ++ ys)) ≡ told_files (wants rows xs) ++ told_files (wants rows ys)
told_wants rows xs ys = ap told_files (map-append (wanted rows) xs ys) ∙ map-append _ (wants rows xs) (wants rows ys)

-- ---- counts

views_many : {M : Type 0} (bytes : M → Option (List ℕ)) (id_of : M → ℕ) (number : ℕ) (contents : List Content) (made : List (MadeView M)) → AreMadeViews bytes id_of number contents made → length contents ≡ length made
views_many bytes id_of number [] [] are = refl
views_many bytes id_of number [] (f ∷ made) are = absurd are
views_many bytes id_of number (x ∷ contents) [] are = absurd are
views_many bytes id_of number (x ∷ contents) (f ∷ made) are = ap suc (views_many bytes id_of (number + 1) contents made are.2)

-- a part has a file for each list of rows
pub share_many : {M : Type 0} (bytes : M → Option (List ℕ)) (id_of : M → ℕ) (share : Share) (made : MadeFiles M) → AreMadeFiles bytes id_of (columns_of share.lineage) share.lineage.views share.rows made → length (rows_of_share share) ≡ length (files_in made)
share_many bytes id_of share made are =
    ap suc (length-map share.lineage.views _ ∙ sym (length-map share.lineage.views (content_of (columns_of share.lineage) share.rows)) ∙ views_many bytes id_of 0 (map (content_of (columns_of share.lineage) share.rows) share.lineage.views) made.views.items are.grouped ∙ sym (length-map made.views.items file_in))

-- totals that keep the bound are checked
pub checked_none : (t : TableMeta) (totals : List ℕ) → totals_checked t totals ≡ Ok tt → over_bound t.totals totals ≡ None
checked_none t totals e = by (over_bound t.totals totals) e
  where
    by : (o : Option ℕ) → refused_at t o ≡ Ok tt → o ≡ None
    by None e = refl
    by (Some place) e = absurd (cc)

-- ---- all parts

-- What is told of the parts of the tables from a number on, whose files have ids from one on.
pub record AreBrought {M : Type 0} (bytes : M → Option (List ℕ)) (rows : Rows) (c : Catalog) (batch : List Placed) (n id : ℕ) (ts : List TableMeta) (parts : List Part) (made : List (MadeFile M)) : Type 0 where
  pub brings : BringsAll rows parts batch n ts
  pub behind : AllByRecursion (λ (p : Part). n ≤ p.table) parts
  pub told : AllByRecursion (IsTold rows) (flat_map (part_live c) parts)
  pub fits : list_all (λ (p : Part). is_there c p.table && part_fits (meta_at c p.table) p) parts ≡ true
  pub ids : map live_id (flat_map (part_live c) parts) ≡ ids_from id made
  pub files : AreTold bytes made → told_under bytes id made ≡ told_files (wants rows (flat_map (part_live c) parts))

least_less : (n : ℕ) (parts : List Part) → AllByRecursion (λ (p : Part). n + 1 ≤ p.table) parts → AllByRecursion (λ (p : Part). n ≤ p.table) parts
least_less n [] all = tt
least_less n (p ∷ parts) all = ((let le = all.0 in omega (arith, le)), least_less n parts all.1)

told_front : {M : Type 0} (bytes : M → Option (List ℕ)) (xs ys : List (MadeFile M)) → AreTold bytes (xs ++ ys) → AreTold bytes xs
told_front bytes [] ys all = tt
told_front bytes (x ∷ xs) ys all = (all.0, told_front bytes xs ys all.1)

told_back : {M : Type 0} (bytes : M → Option (List ℕ)) (xs ys : List (MadeFile M)) → AreTold bytes (xs ++ ys) → AreTold bytes ys
told_back bytes [] ys all = all
told_back bytes (x ∷ xs) ys all = told_back bytes xs ys all.1

module _ {M : Type 0} (bytes : M → Option (List ℕ)) (id_of : M → ℕ) (rows : Rows) (c : Catalog) (batch : List Placed) (kept : (n : ℕ) (s : Columns) → abs_totals s (folded (aggs_of s) (rows_for n batch ∷ [])) ≡ abs_totals s (rows_for n batch)) where
  -- a table without rows of the batch
  none_more : (n id : ℕ) (t : TableMeta) (ts : List TableMeta) (parts : List Part) (files : List (MadeFile M)) → rows_for n batch ≡ [] → AreBrought bytes rows c batch (n + 1) id ts parts files → AreBrought bytes rows c batch n id (t ∷ ts) parts files
  none_more n id t ts parts files none rest = record {
    brings = (subst (λ (o : Option Part). BringsIfAny rows t o (rows_for n batch)) (sym (none_of n parts rest.behind)) none, rest.brings);
    behind = least_less n parts rest.behind;
    told = rest.told;
    fits = rest.fits;
    ids = rest.ids;
    files = rest.files;
  }

  -- the share of a table with rows
  abbrev share : ℕ → Lineage → List Row → Share
  share n l load = record { table = n; lineage = l; rows = folded (aggs_of (columns_of l)) (load ∷ []); totals = abs_totals (columns_of l) load }

  module _ (n id : ℕ) (t : TableMeta) (load : List Row) (is : rows_for n batch ≡ load) (at : meta_at c n ≡ t) (there : n < length c.tables) (totals : List ℕ) (made : MadeFiles M)
      (are : AreMadeFiles bytes id_of (columns_of t.lineage) t.lineage.views (share n t.lineage load).rows made)
      (have : AreAt rows id (rows_of_share (share n t.lineage load))) (totals_are : totals ≡ abs_totals (columns_of t.lineage) load) (bound : over_bound t.totals totals ≡ None) where
    abbrev l : Lineage
    l = t.lineage

    abbrev p : Part
    p = record { table = n; epoch = epoch_of l; files = files_under id made; totals = totals }

    from : AreFrom l.views 0 l.views
    from = from_first l.views

    one_told : AllByRecursion (IsTold rows) (part_live c p)
    one_told = subst (λ (u : TableMeta). AllByRecursion (IsTold rows) (files_live u.lineage (epoch_of l) (Some (files_under id made)))) (sym at) (files_told bytes id_of rows l (share n l load).rows id made are have from)

    equal : (m k : ℕ) → m ≡ k → (m == k) ≡ true
    equal m k e = grind (arith, nat_tests)

    is_less : (m k : ℕ) → m < k → nat_lt m k ≡ true
    is_less m k e = grind (arith, nat_tests)

    all_true : (a b d e f : Bool) → a ≡ true → b ≡ true → d ≡ true → e ≡ true → f ≡ true → (a && (b && d && e && f)) ≡ true
    all_true a b d e f p q r s t = grind (arith, p, q, r, s, t)

    one_fits : (is_there c n && part_fits (meta_at c n) p) ≡ true
    one_fits =
        ap (λ (u : TableMeta). is_there c n && part_fits u p) at
        ∙ all_true (is_there c n) (epoch_of l == epoch_of l) (files_fit l (epoch_of l) (files_under id made)) (length totals == sums_in (aggs_of (columns_of l))) (is_none (over_bound t.totals totals))
        (is_less n (length c.tables) there) (own (epoch_of l)) (files_right bytes id_of rows l (share n l load).rows id made are have from)
        (equal (length totals) (sums_in (aggs_of (columns_of l))) (ap length totals_are ∙ length-map (sum_places 0 (aggs_of (columns_of l))) _)) (ap is_none bound)

    one_more : (ts : List TableMeta) (parts : List Part) (files : List (MadeFile M)) → AreBrought bytes rows c batch (n + 1) (id + length (files_in made)) ts parts files → AreBrought bytes rows c batch n id (t ∷ ts) (p ∷ parts) (files_in made ++ files)
    one_more ts parts files rest = record {
      brings = (
        subst (λ (o : Option Part). BringsIfAny rows t o (rows_for n batch)) (sym (ap (λ b. cond b (Some p) (part_of n parts)) (own n)))
            (subst (λ (x : List Row). Brings rows t p x) (sym is)
            (part_brings bytes id_of rows l (share n l load).rows id made are have from t refl p load refl refl refl totals_are (subst (λ (x : List Row). abs_totals (columns_of l) (folded (aggs_of (columns_of l)) (x ∷ [])) ≡ abs_totals (columns_of l) x) is (kept n (columns_of l))))),
        still_brings rows p parts batch (n + 1) ts (omega arith) rest.brings,
      );
      behind = (omega arith, least_less n parts rest.behind);
      told = all_joined (IsTold rows) (part_live c p) (flat_map (part_live c) parts) one_told rest.told;
      fits = ap (λ b. b && list_all (λ (q : Part). is_there c q.table && part_fits (meta_at c q.table) q) parts) one_fits ∙ rest.fits;
      ids = map-append live_id (part_live c p) (flat_map (part_live c) parts) ∙ (λ i. brought_ids_are (meta_at c n).lineage (epoch_of l) id made i ++ rest.ids i) ∙ sym (ids_joined id (files_in made) files);
      files = λ all.
          told_joined bytes id (files_in made) files
          ∙ (λ i. are_told bytes id_of rows l (share n l load).rows id made are have from (told_front bytes (files_in made) files all) i ++ rest.files (told_back bytes (files_in made) files all) i)
          ∙ ap (λ (u : TableMeta). told_files (wants rows (files_live u.lineage (epoch_of l) (Some (files_under id made)))) ++ told_files (wants rows (flat_map (part_live c) parts))) (sym at)
          ∙ sym (told_wants rows (part_live c p) (flat_map (part_live c) parts));
    }

  -- ---- all tables

  -- a table's part: where it has rows, its share and its files
  next_part : (n id : ℕ) (t : TableMeta) (ts : List TableMeta) (load : List Row) → rows_for n batch ≡ load → (shares : List Share) (parts : List (PreparedPart M)) → meta_at c n ≡ t → n < length c.tables → length t.totals ≡ sums_in (aggs_of (columns_of t.lineage))
      → AreParts bytes id_of false (share_of n t.lineage load ++ shares) parts → AreAt rows id (flat_map rows_of_share (share_of n t.lineage load ++ shares)) → parts_checked c parts ≡ Ok tt
      → ((k : ℕ) (more : List (PreparedPart M)) → AreParts bytes id_of false shares more → AreAt rows k (flat_map rows_of_share shares) → parts_checked c more ≡ Ok tt → AreBrought bytes rows c batch (n + 1) k ts (parts_under c k more) (files_of_parts more))
      → AreBrought bytes rows c batch n id (t ∷ ts) (parts_under c id parts) (files_of_parts parts)
  next_part n id t ts [] load shares parts at there count are have checked rest = none_more n id t ts (parts_under c id parts) (files_of_parts parts) load (rest id parts are have checked)
  next_part n id t ts (row ∷ load) is shares [] at there count are have checked rest = absurd are
  next_part n id t ts (row ∷ load) is shares (part ∷ parts) at there count are have checked rest = by part.files refl are.0.files
    where
      both : (totals_checked (meta_at c part.table) part.totals ≡ Ok tt) × (parts_checked c parts ≡ Ok tt)
      both = both_ok (totals_checked (meta_at c part.table) part.totals) (parts_checked c parts) checked

      none : over_bound t.totals part.totals ≡ None
      none = subst (λ (u : TableMeta). over_bound u.totals part.totals ≡ None) (ap (meta_at c) are.0.table ∙ at) (checked_none (meta_at c part.table) part.totals both.0)

      many : length t.totals ≡ length (abs_totals (columns_of t.lineage) (row ∷ load))
      many = count ∙ sym (length-map (sum_places 0 (aggs_of (columns_of t.lineage))) _)

      totals : part.totals ≡ abs_totals (columns_of t.lineage) (row ∷ load)
      totals = are.0.totals ∙ uncut (abs_totals (columns_of t.lineage) (row ∷ load)) (none_alone t.totals (abs_totals (columns_of t.lineage) (row ∷ load)) many (ap (over_bound t.totals) (sym are.0.totals) ∙ none))

      by : (files : Option (MadeFiles M)) → part.files ≡ files → HasFiles bytes id_of false (share n t.lineage (row ∷ load)) part.files → AreBrought bytes rows c batch n id (t ∷ ts) (parts_under c id (part ∷ parts)) (files_of_parts (part ∷ parts))
      by None files has = absurd (subst (λ (o : Option (MadeFiles M)). HasFiles bytes id_of false (share n t.lineage (row ∷ load)) o) files has)
      by (Some made) files has =
          let made_are : AreMadeFiles bytes id_of (columns_of t.lineage) t.lineage.views (share n t.lineage (row ∷ load)).rows made = subst (λ (o : Option (MadeFiles M)). HasFiles bytes id_of false (share n t.lineage (row ∷ load)) o) files has in
          let have_own = at_front rows id (rows_of_share (share n t.lineage (row ∷ load))) (flat_map rows_of_share shares) have in
          let behind : length (rows_of_share (share n t.lineage (row ∷ load))) ≡ length (files_in made) = share_many bytes id_of (share n t.lineage (row ∷ load)) made made_are in
          let have_rest : AreAt rows (id + length (files_in made)) (flat_map rows_of_share shares) = subst (λ k. AreAt rows (id + k) (flat_map rows_of_share shares)) behind (at_back rows id (rows_of_share (share n t.lineage (row ∷ load))) (flat_map rows_of_share shares) have) in
          let one = one_more n id t (row ∷ load) is at there part.totals made made_are have_own totals none ts (parts_under c (id + length (files_in made)) parts) (files_of_parts parts)
          (rest (id + length (files_in made)) parts are.1 have_rest both.1) in
          subst (λ (o : Option (MadeFiles M)). AreBrought bytes rows c batch n id (t ∷ ts) (part_under c id part.table part.totals o ++ parts_under c (id + length (files_if_any o)) parts) (files_if_any o ++ files_of_parts parts)) (sym files)
          (subst (λ m. AreBrought bytes rows c batch n id (t ∷ ts) (part_under c id m part.totals (Some made) ++ parts_under c (id + length (files_in made)) parts) (files_in made ++ files_of_parts parts)) (sym are.0.table)
          (subst (λ (u : TableMeta). AreBrought bytes rows c batch n id (t ∷ ts) (record { table = n; epoch = epoch_of u.lineage; files = files_under id made; totals = part.totals } ∷ parts_under c (id + length (files_in made)) parts) (files_in made ++ files_of_parts parts)) (sym at) one))

  -- all parts
  pub all_brought : (floor next n id : ℕ) (ts : List TableMeta) (parts : List (PreparedPart M)) → AllByRecursion (IsShaped floor next) ts → AreTables c n ts → AreParts bytes id_of false (shares_from batch n (map known_as ts)) parts
      → AreAt rows id (flat_map rows_of_share (shares_from batch n (map known_as ts))) → parts_checked c parts ≡ Ok tt → AreBrought bytes rows c batch n id ts (parts_under c id parts) (files_of_parts parts)
  all_brought floor next n id [] [] shaped tables are have checked = record { brings = tt; behind = tt; told = tt; fits = refl; ids = refl; files = λ all. refl }
  all_brought floor next n id [] (part ∷ parts) shaped tables are have checked = absurd are
  all_brought floor next n id (t ∷ ts) parts shaped tables are have checked =
      next_part n id t ts (rows_for n batch) refl (shares_from batch (n + 1) (map known_as ts)) parts tables.0 tables.1 shaped.0.totals are have checked
      (λ k more are have checked. all_brought floor next (n + 1) k ts more shaped.1 tables.2 are have checked)
