-- What a query sees of a vault's books.
use Rattle.std.proofs.Common.{◌≡◌, ℕ, List, [], ◌∷◌, map, Bool, true, false, cond, refl, sym, ◌∙◌, ap, subst, Option, None, Some, Result, Ok, Err}
use Rattle.std.specs.Prelude.{find, option_map}
use Rattle.std.specs.Option.{ok_or}
use Rattle.std.proofs.lemmas.Simd.{map-map}
use Rattle.mesa_read_turns.specs.Seeing.{catalogue_asked, pinned_asked}
use Rattle.mesa_engine.specs.mesa_catalog.Lookups.{known_as}
use Rattle.mesa_filter.specs.declared.words.QueryWords.{QueryWords}
use Rattle.mesa_filter.specs.declared.words.VersionWord.{VersionWord}
use Rattle.mesa_filter.specs.declared.words.VersionWord.TheVariants as asks
use Rattle.mesa_engine.specs.mesa_store_spec.Catalog.{Catalog}
use Rattle.mesa_engine.specs.EngineState.{HeldPin, EngineState, bare_held, books_of, projection_at, projection_of, projections, projections_at}
use Rattle.mesa_engine.specs.Turned.{is_held_pin}
use Rattle.mesa_pick_files.specs.mesa_list.Checks.{◌>>=◌, ◌>>◌}
use Rattle.mesa_model.specs.Pins.{is_pin}
use Rattle.mesa_model.specs.Query.{Answer, query_answer, store_asked, version_seen}
use Rattle.mesa_model.specs.Refusals.{refuse_closed}
use Rattle.mesa_model.specs.Versions.{version_asked}
use Rattle.mesa_model.specs.Warehouse.{Pin, Store, Table, Warehouse, table_at}
use Rattle.mesa_model.specs.declared.replies.Refusal.{Refusal}
use Rattle.mesa_model.specs.declared.replies.Refusal.TheVariants as no
use Rattle.mesa_validate.proofs.Seen.{oldest_there}
use Rattle.mesa_validate.specs.Found.{Sees, of_catalog, version_in}
use Rattle.mesa_validate.specs.Seen.{HasCatalog, known_in, known_of}
use Rattle.mesa_engine.specs.mesa_history_spec.Rows.{Rows}

-- the tables of a catalogue without their contents
known_projections : (c : Catalog) → known_in (projections c) ≡ map known_as c.tables
known_projections c = map-map known_of projection_of c.tables

known_at : (version : ℕ) (c : Catalog) → known_in (projections_at version c) ≡ map known_as c.tables
known_at version c = map-map known_of (projection_at version) c.tables

-- a pin without rows is found where the state has it
found_held : (s token : ℕ) (pins : List HeldPin) → find (is_pin s token) (map bare_held pins) ≡ option_map bare_held (find (is_held_pin s token) pins)
found_held s token [] = refl
found_held s token (p ∷ pins) = by (is_held_pin s token p) (found_held s token pins)
  where
    by : (b : Bool) → find (is_pin s token) (map bare_held pins) ≡ option_map bare_held (find (is_held_pin s token) pins) → cond {A = Option Pin} b (Some (bare_held p)) (find (is_pin s token) (map bare_held pins)) ≡ option_map bare_held (cond {A = Option HeldPin} b (Some p) (find (is_held_pin s token) pins))
    by true rest = refl
    by false rest = rest

refused_store : (o : Option ℕ) (q : Result Store Refusal) (f : Store → Result Answer Refusal) (x : Refusal) → o ≡ None → q ≡ Err x → (refuse_closed o >> (q >>= f)) ≡ Err x
refused_store o q f x is none = λ i. (refuse_closed (is i) >> (none i >>= f))

-- A warehouse with the catalogue is asked for a table's versions as the catalogue is.
module _ (c : Catalog) (w : Warehouse) (has : HasCatalog c w) where
  asked_alike : (oldest : ℕ) (v : VersionWord) → version_asked w oldest v ≡ version_asked (of_catalog c) oldest v
  asked_alike oldest asks.Latest = ap (λ n. version_asked (record (of_catalog c) { next = n }) oldest asks.Latest) has.next
  asked_alike oldest (asks.At n) = ap (λ next. version_asked (record (of_catalog c) { next = next }) oldest (asks.At n)) has.next
  asked_alike oldest (asks.Pin token) = refl

  pub asked_there : (v : VersionWord) (number : ℕ) → version_asked w (table_at w.store number).oldest v ≡ version_in c None v number
  asked_there v number = asked_alike (table_at w.store number).oldest v ∙ ap (λ oldest. version_asked (of_catalog c) oldest v) (oldest_there c w number has)

module _ (rows : Rows) (l : EngineState) (s : ℕ) (words : QueryWords) where
  abbrev w : Warehouse
  w = (books_of rows l).bare

  -- the books have the state's catalogue
  has_catalog : l.closed ≡ None → HasCatalog l.catalogue (books_of rows l).bare
  has_catalog was_open = record {
    opened = was_open;
    tables = known_projections l.catalogue;
    oldests = map-map (λ (t : Table). t.oldest) projection_of l.catalogue.tables;
    floor = refl;
    next = refl;
  }

  sees_as : (v : VersionWord) → words.version ≡ v → l.closed ≡ None → (store : Store) → store_asked w s v ≡ Ok store → (c : Catalog) → known_in store ≡ map known_as c.tables → (pinned : Option ℕ) → ((number : ℕ) → version_seen w store (table_at store number) v ≡ version_in c pinned v number) → Sees c pinned words s w
  sees_as v is was_open store asked c tables pinned seen = record {
    opened = was_open;
    store = store;
    asked = subst (λ (x : VersionWord). store_asked w s x ≡ Ok store) (sym is) asked;
    tables = tables;
    seen = λ number. subst (λ (x : VersionWord). version_seen w store (table_at store number) x ≡ version_in c pinned x number) (sym is) (seen number);
  }

  -- the present tables
  pub sees_present : (v : VersionWord) → words.version ≡ v → ((token : ℕ) → v ≡ asks.Pin token → ⊥) → l.closed ≡ None → (c : Catalog) → c ≡ l.catalogue → Sees c None words s (books_of rows l).bare
  sees_present v is other was_open c same = subst (λ (x : Catalog). Sees x None words s w) (sym same) (by v is other)
    where
      by : (x : VersionWord) → words.version ≡ x → ((token : ℕ) → x ≡ asks.Pin token → ⊥) → Sees l.catalogue None words s w
      by asks.Latest e never = sees_as asks.Latest e was_open w.store refl l.catalogue (known_projections l.catalogue) None (asked_there l.catalogue w (has_catalog was_open) asks.Latest)
      by (asks.At n) e never = sees_as (asks.At n) e was_open w.store refl l.catalogue (known_projections l.catalogue) None (asked_there l.catalogue w (has_catalog was_open) (asks.At n))
      by (asks.Pin token) e never = absurd (never token refl)

  -- those of a pin
  pub sees_pinned : (token : ℕ) → words.version ≡ asks.Pin token → l.closed ≡ None → (p : HeldPin) → find (is_held_pin s token) l.pins ≡ Some p → Sees p.copy (Some p.version) words s (books_of rows l).bare
  sees_pinned token is was_open p there =
      sees_as (asks.Pin token) is was_open (bare_held p).store (ap (λ (o : Option Pin). ok_or o (no.NoPin token) >>= (λ (pin : Pin). Ok pin.store)) (found_held s token l.pins ∙ ap (option_map bare_held) there)) p.copy (known_at p.version p.copy) (Some p.version) (λ number. refl)

  -- a pin that isn't held
  pub sees_none : (token : ℕ) → words.version ≡ asks.Pin token → l.closed ≡ None → find (is_held_pin s token) l.pins ≡ None → query_answer (books_of rows l).bare s words ≡ Err (no.NoPin token)
  sees_none token is was_open none =
      refused_store l.closed (store_asked w s words.version) _ (no.NoPin token) was_open
      (subst (λ (x : VersionWord). store_asked w s x ≡ Err (no.NoPin token)) (sym is) (ap (λ (o : Option Pin). ok_or o (no.NoPin token) >>= (λ (pin : Pin). Ok pin.store)) (found_held s token l.pins ∙ ap (option_map bare_held) none)))

-- ---- the catalogue that it sees, and the pin's version

module _ (l : EngineState) (s : ℕ) where
  pub asked_present : (v : VersionWord) → ((token : ℕ) → v ≡ asks.Pin token → ⊥) → (c : Catalog) → c ≡ l.catalogue → catalogue_asked l s v ≡ Some c
  asked_present asks.Latest other c is = ap (λ (x : Catalog). Some x) (sym is)
  asked_present (asks.At n) other c is = ap (λ (x : Catalog). Some x) (sym is)
  asked_present (asks.Pin token) other c is = absurd (other token refl)

  pub asked_pinned : (v : VersionWord) (token : ℕ) → v ≡ asks.Pin token → (p : HeldPin) → find (is_held_pin s token) l.pins ≡ Some p → catalogue_asked l s v ≡ Some p.copy
  asked_pinned v token is p there = ap (catalogue_asked l s) is ∙ ap (option_map (λ (x : HeldPin). x.copy)) there

  pub version_present : (v : VersionWord) → ((token : ℕ) → v ≡ asks.Pin token → ⊥) → pinned_asked l s v ≡ None
  version_present asks.Latest other = refl
  version_present (asks.At n) other = refl
  version_present (asks.Pin token) other = absurd (other token refl)

  pub version_pinned : (v : VersionWord) (token : ℕ) → v ≡ asks.Pin token → (p : HeldPin) → find (is_held_pin s token) l.pins ≡ Some p → pinned_asked l s v ≡ Some p.version
  version_pinned v token is p there = ap (pinned_asked l s) is ∙ ap (option_map (λ (x : HeldPin). x.version)) there
