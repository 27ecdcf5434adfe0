-- What a load does to an unclosed warehouse, and what is told of its record.
use Rattle.std.proofs.lemmas.List.{length-map}
use Rattle.std.proofs.Common.{◌≡◌, ℕ, suc, ◌+◌, ◌*◌, ◌^◌, ◌<◌, ◌≤◌, List, [], ◌∷◌, length, map, refl, sym, ◌∙◌, ap, subst, arith, Option, None, Result, Ok}
use Rattle.std.specs.Prelude.{Bool, true, false, ◌&&◌, ◌==◌, nat_le, nat_lt}
use Rattle.std.specs.List.{list_all, list_any}
use Rattle.std.proofs.lemmas.Bool.Decides.{nat_tests}
use Rattle.mesa_list.specs.Checks.{◌>>=◌, ◌>>◌, refuse_if, refused_as}
use Rattle.mesa_columns.specs.declared.rows.Row.{Row}
use Rattle.mesa_pick_files.specs.mesa_schema.Views.{max_views}
use Rattle.mesa_batch.specs.declared.words.BatchError.{BatchError}
use Rattle.mesa_batch.specs.declared.words.RowWords.{RowWords}
use Rattle.mesa_batch.specs.Batch.{Named, Placed, batch_of}
use Rattle.mesa_disk.specs.Files.{HasDistinctIds, files_of}
use Rattle.mesa_disk.specs.declared.moving.Adoption.{Adoption}
use Rattle.mesa_engine.specs.mesa_commit.Turn.{made_ids, told_files}
use Rattle.mesa_engine.specs.mesa_commit.Filed.{AreGiven}
use Rattle.mesa_engine.specs.mesa_commit.Holding.{Among}
use Rattle.mesa_model.specs.Load.{bounds_checked, load_batch, tables_named, with_batch}
use Rattle.mesa_model.specs.Refusals.{batch_refusal, refuse_closed}
use Rattle.mesa_model.specs.Warehouse.{Warehouse, max_tables, max_versions}
use Rattle.mesa_model.specs.declared.replies.Refusal.{Refusal}
use Rattle.mesa_model.specs.declared.replies.Refusal.TheVariants as no
use Rattle.mesa_model.specs.declared.replies.Reply.{Reply}
use Rattle.mesa_model.specs.declared.replies.Reply.TheVariants as reply
use Rattle.mesa_record.specs.declared.record.Part.{Part}
use Rattle.mesa_record.specs.declared.record.Record.{Record}
use Rattle.mesa_record.specs.declared.record.Record.TheVariants as record_of
use Rattle.mesa_record.specs.Rules.{keeps_rules}
use Rattle.mesa_engine.specs.mesa_store_spec.Catalog.{Catalog, TableMeta, no_meta, meta_at}
use Rattle.mesa_engine.specs.mesa_store_spec.Fitting.{are_new_ids, brings_new_files, brought, fits, is_there, part_fits, publish_fits}
use Rattle.mesa_engine.specs.mesa_store_spec.Shape.{IsCatalog}
use Rattle.mesa_engine.specs.mesa_store_spec.Sound.{wants}
use Rattle.mesa_engine.specs.mesa_store_spec.Brought.{AreTold}
use Rattle.mesa_engine.specs.mesa_store_spec.Ids.{brought_ids, named}
use Rattle.mesa_engine.specs.mesa_store_spec.Sourced.{tables_read}
use Rattle.mesa_catalog.specs.Lookups.{known_as, sight_of}
use Rattle.mesa_engine.specs.EngineState.{EngineState, first_id, most_files, next_id, projection_of}
use Rattle.mesa_engine.proofs.Changing.{tables_are}
use Rattle.mesa_open_files.specs.Batches.{AreParts, IsPrepared, is_over, shares, shares_from}
use Rattle.mesa_open_files.specs.declared.made.MadeFile.{MadeFile}
use Rattle.mesa_open_files.specs.declared.prepared.Prepared.{Prepared}
use Rattle.mesa_open_files.specs.declared.prepared.PreparedPart.{PreparedPart}
use Rattle.mesa_file_records.specs.declared.failure.Unpublished.{Unpublished}
use Rattle.mesa_file_records.specs.declared.failure.Unpublished.TheVariants as un
use Rattle.mesa_file_records.specs.declared.publishing.Published.{Published}
use Rattle.mesa_file_records.specs.Adopted.{ArePartsOf, files_of_parts, parts_under, told_under}
use Rattle.mesa_file_records.specs.Bounds.{IsDue, parts_checked}
use Rattle.mesa_file_records.specs.Published.{AllTell, IsLoaded, IsPublished, bare_of, rows_brought, rows_later}
use Rattle.mesa_file_records.proofs.Checked.{checked_same, files_few, none_over, parts_there}
use Rattle.mesa_file_records.proofs.Ids.{new_ids, rows_stand, rows_stay, under_distinct, under_given, under_ids}
use Rattle.mesa_file_records.proofs.KeysOnce.{totals_by_key}
use Rattle.mesa_file_records.proofs.Lists.{AreFrom, from_first, got_at}
use Rattle.mesa_file_records.proofs.Loads.{AreBrought, AreTables, all_brought}
use Rattle.mesa_file_records.proofs.Parts.{AreTold as AreToldFiles}
use Rattle.mesa_file_records.proofs.Rules.{parts_rules}

-- ---- the tables of a catalogue

tables_from : (c : Catalog) (n : ℕ) (ts : List TableMeta) → AreFrom c.tables n ts → AreTables c n ts
tables_from c n [] from = tt
tables_from c n (t ∷ ts) from = let got = got_at c.tables n t no_meta from.0 in (got.0, got.1, tables_from c (n + 1) ts from.1)

pub all_tables : (c : Catalog) → AreTables c 0 c.tables
all_tables c = tables_from c 0 c.tables (from_first c.tables)

-- the first of files, and the others
abbrev first_file : List (ℕ × Option (List ℕ)) → ℕ × Option (List ℕ)
first_file [] = (0, None)
first_file (x ∷ xs) = x

abbrev other_files : List (ℕ × Option (List ℕ)) → List (ℕ × Option (List ℕ))
other_files [] = []
other_files (x ∷ xs) = xs

-- files that tell their bytes once they are adopted told them before
pub files_tell : {M : Type 0} (bytes : M → Option (List ℕ)) (made : List (Adoption M)) (id : ℕ) (files : List (MadeFile M)) → files_of bytes made ≡ told_under bytes id files → AllTell bytes made → AreToldFiles bytes files
files_tell bytes [] id [] e all = tt
files_tell bytes [] id (f ∷ files) e all = absurd (cc)
files_tell bytes (a ∷ made) id [] e all = absurd (cc)
files_tell bytes (a ∷ made) id (f ∷ files) e all =
    let one : (a.id, bytes a.made) ≡ (id, bytes f.made) = ap first_file e in
    ((all.0.0, sym (ap (λ (x : ℕ × Option (List ℕ)). x.1) one) ∙ all.0.1), files_tell bytes made (id + 1) files (ap other_files e) all.1)

-- ---- the model's load

abbrev Done : Type 0
Done = Result (Warehouse × Reply) Refusal

-- what a batch that was read does: the next version, if there may be one more and no sum passes its bound
abbrev then_loaded : EngineState → List Placed → Done
then_loaded l batch = refuse_if (nat_le max_versions l.catalogue.next) (no.VersionsFull max_versions)
    >> (bounds_checked batch 0 (map projection_of l.catalogue.tables) >> Ok (with_batch (bare_of l) batch, reply.Loaded l.catalogue.next (length batch)))

load_is : (l : EngineState) (words : List RowWords) (batch : List Placed) → l.closed ≡ None → batch_of (tables_read l.catalogue) words ≡ Ok batch → load_batch (bare_of l) words ≡ then_loaded l batch
load_is l words batch unclosed read =
    ap (λ (o : Option ℕ). refuse_closed o >> (refused_as batch_refusal (batch_of (tables_named (bare_of l).store) words) >>= then_loaded l)) unclosed
    ∙ ap (λ (r : Result (List Placed) BatchError). refused_as batch_refusal r >>= then_loaded l) (ap (λ (n : List Named). batch_of n words) (tables_are l.catalogue) ∙ read)

is_full : (n : ℕ) → n ≡ max_versions → nat_le max_versions n ≡ true
is_full n e = grind (arith, nat_tests)

not_full : (n : ℕ) → n < max_versions → nat_le max_versions n ≡ false
not_full n lt = grind (arith, nat_tests)

pub full_due : (l : EngineState) (words : List RowWords) (batch : List Placed) (e : Unpublished) → l.closed ≡ None → batch_of (tables_read l.catalogue) words ≡ Ok batch → l.catalogue.next ≡ max_versions → e ≡ un.Refused (no.VersionsFull max_versions)
    → IsDue (load_batch (bare_of l) words) e
full_due l words batch e unclosed read full is =
    subst (λ (e : Unpublished). IsDue (load_batch (bare_of l) words) e) (sym is)
    (load_is l words batch unclosed read
    ∙ ap (λ b. refuse_if b (no.VersionsFull max_versions) >> (bounds_checked batch 0 (map projection_of l.catalogue.tables) >> Ok (with_batch (bare_of l) batch, reply.Loaded l.catalogue.next (length batch)))) (is_full l.catalogue.next full))

-- with a version more to come, the load is the check of the bound
bounded_is : (l : EngineState) (words : List RowWords) (batch : List Placed) → l.closed ≡ None → batch_of (tables_read l.catalogue) words ≡ Ok batch → l.catalogue.next < max_versions
    → load_batch (bare_of l) words ≡ (bounds_checked batch 0 (map projection_of l.catalogue.tables) >> Ok (with_batch (bare_of l) batch, reply.Loaded l.catalogue.next (length batch)))
bounded_is l words batch unclosed read few =
    load_is l words batch unclosed read
    ∙ ap (λ b. refuse_if b (no.VersionsFull max_versions) >> (bounds_checked batch 0 (map projection_of l.catalogue.tables) >> Ok (with_batch (bare_of l) batch, reply.Loaded l.catalogue.next (length batch)))) (not_full l.catalogue.next few)

due_then : {A : Type 0} (r : Result (Unit {0}) Refusal) (next : Result A Refusal) (e : Unpublished) → IsDue r e → IsDue (r >> next) e
due_then r next (un.Refused x) is = ap (λ q. q >> next) is
due_then r next un.Memory is = tt

module _ {M : Type 0} (bytes : M → Option (List ℕ)) (id_of : M → ℕ) (l : EngineState) (shaped : IsCatalog l.catalogue) (batch : List Placed) (prepared : Prepared M)
    (is : IsPrepared bytes id_of (sight_of l.catalogue) batch prepared) where
  abbrev c : Catalog
  c = l.catalogue

  abbrev parts : List (PreparedPart M)
  parts = prepared.parts.items

  abbrev over : Bool
  over = list_any is_over (shares (sight_of c) batch)

  pub are_there : ArePartsOf c parts
  are_there = parts_there bytes id_of over c batch 0 c.tables parts (all_tables c) is.parts

  pub few_there : length (files_of_parts parts) ≤ most_files
  few_there = (let le = files_few bytes id_of over c batch c.floor c.next 0 c.tables parts shaped.tables is.parts in let few = shaped.few in by (length c.tables) (length (files_of_parts parts)) few le)
    where
      by : (n k : ℕ) → n ≤ max_tables → k ≤ n * (1 + max_views) → k ≤ most_files
      by n k few le = omega arith

  same_check : bounds_checked batch 0 (map projection_of c.tables) ≡ parts_checked c parts
  same_check = checked_same bytes id_of over c batch c.floor c.next 0 c.tables parts shaped.tables (all_tables c) is.parts

  pub bounds_due : (words : List RowWords) → batch_of (tables_read l.catalogue) words ≡ Ok batch → (e : Unpublished) → l.closed ≡ None → c.next < max_versions → IsDue (parts_checked c parts) e → IsDue (load_batch (bare_of l) words) e
  bounds_due words read e unclosed few due =
      subst (λ (r : Done). IsDue r e) (sym (bounded_is l words batch unclosed read few)) (due_then (bounds_checked batch 0 (map projection_of c.tables)) (Ok (with_batch (bare_of l) batch, reply.Loaded c.next (length batch))) e (subst (λ (r : Result (Unit {0}) Refusal). IsDue r e) (sym same_check) due))

  module _ (words : List RowWords) (read : batch_of (tables_read l.catalogue) words ≡ Ok batch) (few : c.next < max_versions) (checked : parts_checked c parts ≡ Ok tt) where
    pub is_loaded : IsLoaded l words batch
    is_loaded unclosed = bounded_is l words batch unclosed read few ∙ ap (λ (r : Result (Unit {0}) Refusal). r >> Ok (with_batch (bare_of l) batch, reply.Loaded c.next (length batch))) (same_check ∙ checked)

    module _ (given : (id : ℕ) → Among id (named c) → id < next_id l) (room : l.adopted + most_files < 2 ^ 40) (p : Published M) (entry : p.entry ≡ record_of.Publish c.next (parts_under c (next_id l) parts))
        (made : files_of bytes p.made.items ≡ told_under bytes (next_id l) (files_of_parts parts)) (adopted : p.adopted ≡ l.adopted + length (files_of_parts parts)) where
      abbrev named_parts : List Part
      named_parts = parts_under c (next_id l) parts

      not_over : AreParts bytes id_of false (shares_from batch 0 (map known_as c.tables)) parts
      not_over = subst (λ b. AreParts bytes id_of b (shares_from batch 0 (map known_as c.tables)) parts) (none_over bytes id_of over c batch c.floor c.next 0 c.tables parts shaped.tables (all_tables c) is.parts checked) is.parts

      brought_all : (rows : ℕ → List Row) → AreBrought bytes (rows_later l batch rows) c batch 0 (next_id l) c.tables named_parts (files_of_parts parts)
      brought_all rows = all_brought bytes id_of (rows_later l batch rows) c batch (λ n s. totals_by_key (tables_read c) words batch n s read) c.floor c.next 0 (next_id l) c.tables parts shaped.tables (all_tables c) not_over (rows_stand rows (next_id l) (rows_brought c batch)) checked

      some : AreBrought bytes (rows_later l batch (λ id. [])) c batch 0 (next_id l) c.tables named_parts (files_of_parts parts)
      some = brought_all (λ id. [])

      fits_record : fits c (record_of.Publish c.next named_parts) ≡ true
      unfolding fits
      fits_record = both (publish_fits c c.next named_parts) (brings_new_files c (record_of.Publish c.next named_parts)) kind new
        where
          both : (a b : Bool) → a ≡ true → b ≡ true → (a && b) ≡ true
          both a b p q = λ i. p i && q i

          own : (n : ℕ) → (n == n) ≡ true
          own n = grind (arith, nat_tests)

          less : (n k : ℕ) → n < k → nat_lt n k ≡ true
          less n k lt = grind (arith, nat_tests)

          kind : publish_fits c c.next named_parts ≡ true
          kind = both ((c.next == c.next) && nat_lt c.next max_versions) (list_all (λ (q : Part). is_there c q.table && part_fits (meta_at c q.table) q) named_parts) (both (c.next == c.next) (nat_lt c.next max_versions) (own c.next) (less c.next max_versions few)) some.fits

          new : brings_new_files c (record_of.Publish c.next named_parts) ≡ true
          new = ap (are_new_ids c.run (named c)) some.ids ∙ new_ids c.run l.adopted (named c) (files_of_parts parts) given (let n = few_there in omega (arith, n, room))

      pub is_published : IsPublished bytes l batch p
      is_published = record {
        parts = named_parts;
        entry = entry;
        rules = ap keeps_rules entry ∙ parts_rules bytes id_of over c batch (next_id l) parts shaped (all_tables c) are_there is.parts;
        fitting = ap (fits c) entry ∙ fits_record;
        brings = λ rows. (brought_all rows).brings;
        told = λ rows. subst (λ (r : Record). AreTold (rows_later l batch rows) c r) (sym entry) (brought_all rows).told;
        agree = λ rows id lt. rows_stay rows (next_id l) (rows_brought c batch) id lt;
        files = λ rows all. made ∙ (brought_all rows).files (files_tell bytes p.made.items (next_id l) (files_of_parts parts) made all) ∙ ap (λ (r : Record). told_files (wants (rows_later l batch rows) (brought c r))) (sym entry);
        ids = ap made_ids made ∙ under_ids bytes (next_id l) (files_of_parts parts) ∙ sym some.ids ∙ ap (brought_ids c) (sym entry);
        distinct = subst HasDistinctIds (sym made) (under_distinct bytes (next_id l) (files_of_parts parts));
        adopts = record {
          given = subst (AreGiven (next_id l) (first_id c.run + p.adopted)) (sym made) (under_given bytes (next_id l) (next_id l) (first_id c.run + p.adopted) (files_of_parts parts) (omega arith) (omega (arith, adopted)));
          more = omega (arith, adopted);
          few = (let n = few_there in omega (arith, adopted, n));
        };
      }

told_length : {M : Type 0} (bytes : M → Option (List ℕ)) (id : ℕ) (files : List (MadeFile M)) → length (told_under bytes id files) ≡ length files
told_length bytes id [] = refl
told_length bytes id (f ∷ files) = ap suc (told_length bytes (id + 1) files)

-- as many files are made as there are
pub count_made : {M : Type 0} (bytes : M → Option (List ℕ)) (made : List (Adoption M)) (id : ℕ) (files : List (MadeFile M)) → files_of bytes made ≡ told_under bytes id files → length made ≡ length files
count_made bytes made id files e = sym (length-map made _) ∙ ap length e ∙ told_length bytes id files
