-- What a query sees of each state of which a vault's books are.
use Rattle.std.proofs.Common.{◌≡◌, ℕ, ◌<◌, ◌≤◌, arith, length, map, true, refl, sym, ◌∙◌, ap, subst, Option, Some, None, Result, Ok}
use Rattle.std.specs.Prelude.{find, option_map}
use Rattle.std.specs.List.{AllByRecursion}
use Rattle.std.specs.Option.{ok_or}
use Rattle.mesa_read_turns.specs.Seeing.{catalogue_asked, pinned_asked}
use Rattle.mesa_pick_files.proofs.Contents.{HasContents, kept_catalog, pinned_contents, present_contents}
use Rattle.mesa_read_turns.proofs.Sees.{asked_there}
use Rattle.mesa_read_turns.proofs.Versions.{common_most, version_there}
use Rattle.mesa_pick_files.proofs.mesa_catalog_records.Loads.{find_mapped, found_holds}
use Rattle.mesa_pick_files.proofs.mesa_catalog_records.TableMetas.{all_at}
use Rattle.mesa_filter.specs.declared.words.QueryWords.{QueryWords}
use Rattle.mesa_filter.specs.declared.words.VersionWord.{VersionWord}
use Rattle.mesa_filter.specs.declared.words.VersionWord.TheVariants as asks
use Rattle.mesa_engine.specs.mesa_history_spec.Found.{Kept}
use Rattle.mesa_engine.specs.mesa_history_spec.Run.{State}
use Rattle.mesa_engine.specs.mesa_store_spec.Catalog.{Catalog, no_meta, meta_at}
use Rattle.mesa_engine.specs.mesa_store_spec.Contents.{Rows, kept_of}
use Rattle.mesa_engine.specs.mesa_store_spec.Shape.{IsCatalog, IsShaped}
use Rattle.mesa_engine.specs.EngineState.{HeldPin, EngineState, books_of, held_with}
use Rattle.mesa_engine.specs.Turned.{is_held_pin}
use Rattle.mesa_engine.specs.Vault.{IsVersioned}
use Rattle.mesa_pick_files.specs.mesa_list.Checks.{◌>>=◌}
use Rattle.mesa_model.specs.Pins.{is_pin, store_at}
use Rattle.mesa_model.specs.Query.{store_asked, version_seen}
use Rattle.mesa_model.specs.Warehouse.{Pin, Store, Warehouse, table_at}
use Rattle.mesa_model.specs.declared.replies.Refusal.{Refusal}
use Rattle.mesa_model.specs.declared.replies.Refusal.TheVariants as no
use Rattle.mesa_validate.specs.Found.{Sees, of_catalog, version_in}
use Rattle.mesa_validate.specs.Seen.{HasCatalog}
use Rattle.mesa_engine.specs.mesa_history_spec.Rows.{no_rows}
use Rattle.mesa_engine.specs.mesa_invariant_spec.Books.{AreBooksOf}

-- A query sees a catalogue's tables in a warehouse, and the content there of the one of a number at a version.
pub record SeesContents (rows : Rows) (c : Catalog) (pinned : Option ℕ) (number version : ℕ) (words : QueryWords) (session : ℕ) (w : Warehouse) : Type 0 where
  pub sees : Sees c pinned words session w
  pub has : HasContents rows c number version sees.store

abbrev store_of : ℕ → Option Pin → Result Store Refusal
store_of token o = ok_or o (no.NoPin token) >>= (λ (pin : Pin). Ok pin.store)

module _ (l : EngineState) (session : ℕ) (words : QueryWords) (c : Catalog) (asked : catalogue_asked l session words.version ≡ Some c) (number version : ℕ) (there : number < length c.tables) (its : version_in c (pinned_asked l session words.version) words.version number ≡ Ok version) where
  -- ---- the version is one that the table has

  abbrev HasIt : Catalog → ℕ → Type 0
  HasIt x n = ((meta_at x number).oldest ≤ n) × (n < x.next)

  range : (v : VersionWord) → catalogue_asked l session v ≡ Some c → version_in c (pinned_asked l session v) v number ≡ Ok version → IsCatalog c → AllByRecursion IsVersioned l.pins → HasIt c version
  range asks.Latest found is shaped pins = version_there (of_catalog c) (meta_at c number).oldest asks.Latest version is (all_at (IsShaped c.floor c.next) c.tables number no_meta shaped.tables there).oldest
  range (asks.At n) found is shaped pins = version_there (of_catalog c) (meta_at c number).oldest (asks.At n) version is (all_at (IsShaped c.floor c.next) c.tables number no_meta shaped.tables there).oldest
  range (asks.Pin token) found is shaped pins = by (find (is_held_pin session token) l.pins) refl found is
    where
      by : (o : Option HeldPin) → find (is_held_pin session token) l.pins ≡ o → option_map (λ (p : HeldPin). p.copy) o ≡ Some c → version_in c (option_map (λ (p : HeldPin). p.version) o) (asks.Pin token) number ≡ Ok version → HasIt c version
      by None held e n = absurd cc
      by (Some p) held e n =
          let same : p.copy ≡ c = cc in
          let version_is : p.version ≡ version = cc in
          let versioned : IsVersioned p = found_holds IsVersioned (is_held_pin session token) l.pins p pins held in
          let most = common_most p.copy number (subst (λ (x : Catalog). number < length x.tables) (sym same) there) in
          let low = versioned.0 in
          subst (λ (x : Catalog). HasIt x version) same (subst (HasIt p.copy) version_is (omega (arith, most, low), versioned.1))

  pub version_range : IsCatalog c → AllByRecursion IsVersioned l.pins → HasIt c version
  version_range shaped pins = range words.version asked its shaped pins

  -- ---- what it sees of a state

  module _ (sees : Sees c (pinned_asked l session words.version) words session (books_of no_rows l).bare) (rows : Rows) (low : (meta_at c number).oldest ≤ version) (high : version < c.next) (s : State) (are : AreBooksOf true (books_of rows l) s) where
    abbrev w : Warehouse
    w = s.warehouse

    opened : s.warehouse.closed ≡ None
    opened = ap (λ (x : Warehouse). x.closed) are.projection ∙ sees.opened

    present : (v : VersionWord) → words.version ≡ v → l.catalogue ≡ c → store_asked s.warehouse session v ≡ Ok s.warehouse.store
        → (HasCatalog c s.warehouse → (n : ℕ) → version_seen s.warehouse s.warehouse.store (table_at s.warehouse.store n) v ≡ version_in c None v n) → SeesContents rows c None number version words session s.warehouse
    present v is same store seen =
        let kept : s.warehouse.store ≡ (kept_of rows c).store = ap (λ (k : Kept). k.store) (are.rows refl) ∙ ap (λ (x : Catalog). (kept_of rows x).store) same in
        let next : s.warehouse.next ≡ c.next = ap (λ (x : Warehouse). x.next) are.projection ∙ ap (λ (x : Catalog). x.next) same in
        let has = subst (HasContents rows c number version) (sym kept) (present_contents rows c number version there low high) in
        let catalog = kept_catalog rows c s.warehouse opened kept next in
        record {
          sees = record {
            opened = opened;
            store = s.warehouse.store;
            asked = subst (λ (x : VersionWord). store_asked s.warehouse session x ≡ Ok s.warehouse.store) (sym is) store;
            tables = has.tables;
            seen = λ n. subst (λ (x : VersionWord). version_seen s.warehouse s.warehouse.store (table_at s.warehouse.store n) x ≡ version_in c None x n) (sym is) (seen catalog n);
          };
          has = has;
        }

    pinned : (token : ℕ) → words.version ≡ asks.Pin token → (p : HeldPin) → find (is_held_pin session token) l.pins ≡ Some p → p.copy ≡ c → p.version ≡ version → SeesContents rows c (Some p.version) number version words session s.warehouse
    pinned token is p held same n =
        let copied : (held_with rows p).store ≡ store_at (kept_of rows c).store version = λ j. store_at (kept_of rows (same j)).store (n j) in
        let has = subst (HasContents rows c number version) (sym copied) (pinned_contents rows c number version (kept_of rows c).store there (present_contents rows c number version there low high)) in
        let with_rows : find (is_pin session token) (map (held_with rows) l.pins) ≡ Some (held_with rows p) = find_mapped (is_pin session token) (held_with rows) l.pins ∙ ap (option_map (held_with rows)) held in
        let found : find (is_pin session token) s.warehouse.pins ≡ Some (held_with rows p) = ap (find (is_pin session token)) (are.pins refl) ∙ with_rows in
        record {
          sees = record {
            opened = opened;
            store = (held_with rows p).store;
            asked = subst (λ (x : VersionWord). store_asked s.warehouse session x ≡ Ok (held_with rows p).store) (sym is) (ap (store_of token) found);
            tables = has.tables;
            seen = λ k. subst (λ (x : VersionWord). version_seen s.warehouse (held_with rows p).store (table_at (held_with rows p).store k) x ≡ version_in c (Some p.version) x k) (sym is) refl;
          };
          has = has;
        }

    sees_by : (v : VersionWord) → words.version ≡ v → catalogue_asked l session v ≡ Some c → version_in c (pinned_asked l session v) v number ≡ Ok version → SeesContents rows c (pinned_asked l session v) number version words session s.warehouse
    sees_by asks.Latest is found seen = let same : l.catalogue ≡ c = cc in present asks.Latest is same refl (λ has n. asked_there c s.warehouse has asks.Latest n)
    sees_by (asks.At m) is found seen = let same : l.catalogue ≡ c = cc in present (asks.At m) is same refl (λ has n. asked_there c s.warehouse has (asks.At m) n)
    sees_by (asks.Pin token) is found seen = by (find (is_held_pin session token) l.pins) refl found seen
      where
        by : (o : Option HeldPin) → find (is_held_pin session token) l.pins ≡ o → option_map (λ (p : HeldPin). p.copy) o ≡ Some c → version_in c (option_map (λ (p : HeldPin). p.version) o) (asks.Pin token) number ≡ Ok version
            → SeesContents rows c (option_map (λ (p : HeldPin). p.version) o) number version words session s.warehouse
        by None held e n = absurd cc
        by (Some p) held e n =
            let same : p.copy ≡ c = cc in
            let version_is : p.version ≡ version = cc in
            pinned token is p held same version_is

    -- A state of which these are the books shows the query the catalogue's content of its table.
    pub sees_state : SeesContents rows c (pinned_asked l session words.version) number version words session s.warehouse
    sees_state = sees_by words.version refl asked its
