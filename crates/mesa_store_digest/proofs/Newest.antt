-- The whole of a relation at the newest version, and what its files tell.
use Rattle.std.proofs.Common.{◌≡◌, ℕ, zero, suc, ◌+◌, ◌-◌, ◌<◌, ◌≤◌, List, map, inl, inr, Bool, true, false, cond, refl, sym, ◌∙◌, ap, subst, arith, Option, None, Some, Result, Err}
use Rattle.std.specs.Prelude.{◌⊎◌, ◌≢◌, is_some, nat_lt, option_map}
use Rattle.std.proofs.lemmas.Bool.{ltb-false, ltb-true}
use Rattle.std.proofs.lemmas.Bool.Decides.{eqb_tells}
use Rattle.std.proofs.lemmas.Simd.{map-map}
use Rattle.mesa_recover.specs.mesa_io.Causes.{Rose, last}
use Rattle.mesa_open_files.specs.mesa_file.declared.damage.Damage.{Damage}
use Rattle.mesa_disk.specs.Story.{Story}
use Rattle.mesa_delta.specs.declared.error.FileError.{FileError}
use Rattle.mesa_delta.specs.declared.error.FileError.TheVariants as file_error
use Rattle.mesa_pick_files.specs.mesa_columns.Columns.{Columns}
use Rattle.mesa_filter.specs.Query.{BuiltQuery, IsQueryOf}
use Rattle.mesa_pick_files.specs.mesa_model.Relations.{Relation, relation_columns, relation_content, relation_of}
use Rattle.mesa_store_spec.specs.Catalog.{Catalog, TableMeta, no_meta, meta_at}
use Rattle.mesa_store_spec.specs.Contents.{Rows, kept_of, table_of}
use Rattle.mesa_store_spec.specs.Fitting.{delta_live, deltas_of}
use Rattle.mesa_store_spec.specs.Shape.{IsCatalog, IsShaped}
use Rattle.mesa_store_spec.specs.Sound.{HasSoundRows}
use Rattle.mesa_store_spec.specs.Planned.{planned}
use Rattle.mesa_store_spec.proofs.Lists.{all_unflat}
use Rattle.mesa_catalog.specs.Lookups.{known_as}
use Rattle.mesa_pick_files.specs.mesa_catalog_records.Names.{relation_of as place_named}
use Rattle.mesa_pick_files.proofs.mesa_catalog_records.TableMetas.{all_at}
use Rattle.mesa_recover.specs.Opening.{IsSoundStart}
use Rattle.mesa_pick_files.specs.Files.{want_in}
use Rattle.mesa_pick_files.proofs.Among.{all_planned}
use Rattle.mesa_pick_files.specs.Read.{IsPinnedFor, SomeUnsound, relation_read}
use Rattle.mesa_pick_files.specs.Told.{TellContent}
use Rattle.mesa_pick_files.proofs.Contents.{columns_found, present_contents, seen_content}
use Rattle.mesa_pick_files.proofs.Given.{AreGiven, IsGiven, all_given}
use Rattle.mesa_pick_files.proofs.Reading.{columns_read}
use Rattle.mesa_pick_files.proofs.Telling.{content_read, pinned_content, pinned_is, meta_given}
use Rattle.mesa_pick_files.proofs.There.{name_there}
use Rattle.mesa_pick_files.proofs.Unsound.{seen_sound}
use Rattle.mesa_validate.proofs.Answering.{columns_there, relation_there}
use Rattle.mesa_validate.specs.Found.{columns_at, relation_seen}
use Rattle.mesa_validate.specs.Seen.{known_in, known_of}
use Rattle.mesa_validate.specs.declared.found.Found.{Found}
use Rattle.mesa_pick_files.specs.mesa_catalog_table.declared.relation.Relation.{Relation as Place}
use Rattle.mesa_validate.specs.mesa_history_spec.Rows.{no_rows}
use Rattle.mesa_pick_files.specs.mesa_span.Ranges.{base_before}
use Rattle.mesa_open_files.specs.Opening.{Counted, is_read_fault}
use Rattle.mesa_open_files.specs.Pins.{IsPinned}
use Rattle.mesa_open_files.specs.declared.querying.Pinned.{Pinned}
use Rattle.mesa_store_digest.specs.Latest.{CanBeLookedAt, HasLookReason, IsLatest, all_asked, relation_named}
use Rattle.mesa_store_digest.specs.Errors.{look_failure}
use Rattle.mesa_store_digest.specs.declared.error.LookError.TheVariants as look_error

-- ---- names

-- what a catalogue stands for has its tables
kept_known : (rows : Rows) (c : Catalog) → known_in (kept_of rows c).store ≡ map known_as c.tables
unfolding kept_of
kept_known rows c = map-map known_of (table_of rows c.next) c.tables

pub none_named : (c : Catalog) (name : List ℕ) → place_named c name ≡ None → relation_named c name ≡ None
none_named c name e = relation_there c (kept_of no_rows c).store name (kept_known no_rows c) ∙ ap (option_map (relation_seen (kept_of no_rows c).store)) e

some_named : (rows : Rows) (c : Catalog) (name : List ℕ) (p : Place) → place_named c name ≡ Some p → relation_of (kept_of rows c).store name ≡ Some (relation_seen (kept_of rows c).store p)
some_named rows c name p e = relation_there c (kept_of rows c).store name (kept_known rows c) ∙ ap (option_map (relation_seen (kept_of rows c).store)) e

pub is_named : (c : Catalog) (name : List ℕ) (p : Place) → place_named c name ≡ Some p → is_some (relation_named c name) ≡ true
is_named c name p e = ap is_some (some_named no_rows c name p e)

-- and its relation has the columns of that place
pub columns_named : (c : Catalog) (name : List ℕ) (p : Place) (r : Relation) → place_named c name ≡ Some p → relation_named c name ≡ Some r → relation_columns r ≡ columns_at c p
columns_named c name p r e is =
    let both : Some (relation_seen (kept_of no_rows c).store p) ≡ Some r = sym (some_named no_rows c name p e) ∙ is in
    let same : relation_seen (kept_of no_rows c).store p ≡ r = cc in
    ap relation_columns (sym same) ∙ columns_there c (kept_of no_rows c).store p (kept_known no_rows c)

-- ---- versions

version_before : (n : ℕ) → base_before (suc n) ≡ Some n
version_before n = elim (eqb_tells (suc n) 0) [
  | inl none ↦ absurd (omega (arith, none.1))
  | inr some ↦ ap (λ (b : Bool). cond b None (Some (suc n - 1))) some.0 ∙ ap (λ (v : ℕ). Some v) (omega arith)
]

pub no_version : (next : ℕ) → None ≡ base_before next → next ≡ 0
no_version zero e = refl
no_version (suc n) e = let never : None ≡ Some n = e ∙ version_before n in cc never

pub newest_is : (next version : ℕ) → Some version ≡ base_before next → next ≡ version + 1
newest_is zero version e = cc e
newest_is (suc n) version e = let same : Some version ≡ Some n = e ∙ version_before n in let is : version ≡ n = cc same in omega (arith, is)

-- ---- the whole of a relation

module _ {R : Type 0} (bytes : R → Option (List ℕ)) (faults : R → ℕ) (story : Story) (c : Catalog) (name : List ℕ) (f : Found) (is_catalog : IsCatalog c) (named : place_named c name ≡ Some f.relation) (newest : c.next ≡ f.query.version + 1) where
  abbrev t : TableMeta
  t = meta_at c f.relation.table

  shaped : IsShaped c.floor c.next (meta_at c f.relation.table)
  shaped = all_at (IsShaped c.floor c.next) c.tables f.relation.table no_meta is_catalog.tables (name_there c name f.relation named).0

  oldest_low : (meta_at c f.relation.table).oldest ≤ f.query.version
  oldest_low = elim shaped.oldest [ inl below ↦ omega (arith, newest, below) | inr none ↦ omega (arith, newest, none.1) ]

  -- From a sound start none of its files is unsound.
  pub none_unsound : (rows : Rows) → IsSoundStart story c rows → SomeUnsound story.told (map want_in (relation_read (meta_at c f.relation.table).lineage f.relation.view (planned (meta_at c f.relation.table) f.query.version))) → ⊥
  none_unsound rows start unsound =
      let at = name_there c name f.relation named in
      let given = meta_given rows c start.image f.relation.table start.sound.rows_are start.sound.files at.0 in
      seen_sound rows start.image story.told start.told (relation_read t.lineage f.relation.view (planned t f.query.version))
      (all_given rows start.image t.lineage f.relation.view at.1 (planned t f.query.version) (all_planned (AreGiven rows start.image t.lineage) t (all_unflat (IsGiven rows start.image) (delta_live t.lineage) (deltas_of t) given) f.query.version)) unsound

  module _ (p : Pinned R) (files : IsPinnedFor bytes faults story.told (meta_at c f.relation.table) f p) where
    tells : (rows : Rows) → IsSoundStart story c rows → TellContent bytes (columns_read (meta_at c f.relation.table).lineage f.relation.view) p (content_read rows (meta_at c f.relation.table) f.relation.view f.query.version)
    tells rows start =
        let at = name_there c name f.relation named in
        pinned_content bytes faults story.told t f p files at.1 rows start.image start.told c.floor c.next shaped
        (all_at (HasSoundRows rows) c.tables f.relation.table no_meta start.sound.rows_are at.0)
        (meta_given rows c start.image f.relation.table start.sound.rows_are start.sound.files at.0)

    content_is : (rows : Rows) → relation_content (relation_seen (kept_of rows c).store f.relation) p.version ≡ content_read rows (meta_at c f.relation.table) f.relation.view f.query.version
    content_is rows =
        let at = name_there c name f.relation named in
        ap (relation_content (relation_seen (kept_of rows c).store f.relation)) files.version
        ∙ seen_content rows c f.query.version (kept_of rows c).store f.relation (present_contents rows c f.relation.table f.query.version at.0 oldest_low (omega (arith, newest)))

    columns_are : relation_columns (relation_seen (kept_of no_rows c).store f.relation) ≡ columns_read (meta_at c f.relation.table).lineage f.relation.view
    columns_are = columns_there c (kept_of no_rows c).store f.relation (kept_known no_rows c) ∙ columns_found c f.relation

    -- A query of all its columns is the whole of it.
    pub is_latest : f.query.asked ≡ all_asked (columns_at c f.relation) → IsQueryOf (columns_at c f.relation) f.query → IsLatest bytes story c name p
    is_latest asked sound =
        let at = name_there c name f.relation named in
        record {
          relation = relation_seen (kept_of no_rows c).store f.relation;
          named = some_named no_rows c name f.relation named;
          newest = newest ∙ ap (λ n. n + 1) (sym files.version);
          asked = ap (λ (q : BuiltQuery). q.asked) files.query ∙ asked ∙ ap all_asked (sym (columns_there c (kept_of no_rows c).store f.relation (kept_known no_rows c)));
          pinned = subst (λ (s : Columns). IsPinned bytes s p) (sym columns_are) (pinned_is bytes faults story.told t f p files at.1 (subst (λ (s : Columns). IsQueryOf s f.query) (columns_found c f.relation) sound));
          told = λ rows start. (
            content_read rows t f.relation.view f.query.version,
            record {
              relation = relation_seen (kept_of rows c).store f.relation;
              named = some_named rows c name f.relation named;
              columns_are = columns_there c (kept_of rows c).store f.relation (kept_known rows c) ∙ sym (columns_there c (kept_of no_rows c).store f.relation (kept_known no_rows c));
              content_is = content_is rows;
            },
            subst (λ (s : Columns). TellContent bytes s p (content_read rows t f.relation.view f.query.version)) (sym columns_are) (tells rows start),
          );
        }

-- ---- counts of faults

below_last : (n : ℕ) → (n < last) ⊎ (last ≤ n)
below_last n = elim (nat_lt n last) as (λ t. nat_lt n last ≡ t → (n < last) ⊎ (last ≤ n)) [
  | true ↦ λ e. inl (ltb-true n last e)
  | false ↦ λ e. inr (ltb-false n last e)
] refl

-- a fault that was answered rose a count
pub counted_rose : (old new : Story) → Counted old new true → Rose old.faults new.faults ⊎ Rose old.read_faults new.read_faults
counted_rose old new d = elim (below_last new.faults) [
  | inr full ↦ inl (omega arith)
  | inl low ↦ elim (below_last new.read_faults) [
    | inr full ↦ inr (omega arith)
    | inl lower ↦
        let more : old.faults + old.read_faults + 1 ≤ new.faults + new.read_faults = d.both low lower in
        elim (side (old.faults + 1) new.faults) [
          | inl rose ↦ inl (omega (arith, rose))
          | inr same ↦ inr (omega (arith, same, more))
        ]
  ]
] where
  side : (a b : ℕ) → (a ≤ b) ⊎ (b < a)
  side a b = elim (nat_lt b a) as (λ t. nat_lt b a ≡ t → (a ≤ b) ⊎ (b < a)) [
    | true ↦ λ e. inr (ltb-true b a e)
    | false ↦ λ e. inl (ltb-false b a e)
  ] refl

-- ---- reasons

-- a relation of the name and a version are there
pub can_be : (c : Catalog) (name : List ℕ) (p : Place) (version : ℕ) → place_named c name ≡ Some p → Some version ≡ base_before c.next → CanBeLookedAt c name
can_be c name p version named newest = record { relation = is_named c name p named; version = let is : c.next ≡ version + 1 = newest_is c.next version newest in omega (arith, is) }

-- why the files of a relation that is there aren't open, or aren't read
pub file_reason : (old new : Story) (c : Catalog) (name : List ℕ) (e : FileError) → CanBeLookedAt c name → (e ≡ file_error.Read → Rose old.faults new.faults ⊎ Rose old.read_faults new.read_faults)
    → ((d : Damage) → e ≡ file_error.Damaged d → d.want ≢ d.found) → ((d : Damage) → e ≡ file_error.Damaged d → (rows : Rows) → IsSoundStart old c rows → ⊥) → HasLookReason old new c name (look_failure e)
file_reason old new c name file_error.Read can rose differs never = (can, rose refl)
file_reason old new c name (file_error.Damaged d) can rose differs never = (can, differs d refl, never d refl)
file_reason old new c name file_error.Memory can rose differs never = can

-- where opening them answered that one wasn't read, a count rose
pub opening_rose : {T : Type 0} (r : Result T FileError) (e : FileError) (old new : Story) → Counted old new (is_read_fault r) → r ≡ Err e → e ≡ file_error.Read → Rose old.faults new.faults ⊎ Rose old.read_faults new.read_faults
opening_rose r e old new counted is read = counted_rose old new (subst (λ x. Counted old new (is_read_fault x)) (is ∙ ap Err read) counted)

-- and where no fault was answered no count rose
pub opening_quiet : {T : Type 0} (r : Result T FileError) (e : FileError) (old new : Story) → Counted old new (is_read_fault r) → r ≡ Err e → (look_failure e ≡ look_error.File file_error.Read → ⊥) → (new.faults ≡ old.faults) × (new.read_faults ≡ old.read_faults)
opening_quiet r file_error.Read old new counted is never = absurd (never refl)
opening_quiet r (file_error.Damaged d) old new counted is never = counted.quiet (ap is_read_fault is)
opening_quiet r file_error.Memory old new counted is never = counted.quiet (ap is_read_fault is)
