-- The books of a state with a pin more, or a pin less.
use Rattle.std.proofs.Common.{◌≡◌, ℕ, zero, suc, ◌+◌, ◌≤◌, List, [], ◌∷◌, ◌++◌, map, Bool, true, false, cond, not, refl, sym, ◌∙◌, ap, arith}
use Rattle.std.specs.Prelude.{filter}
use Rattle.std.specs.List.{AllByRecursion}
use Rattle.std.proofs.lemmas.List.{map-append}
use Rattle.std.proofs.lemmas.Simd.{map-map}
use Rattle.mesa_model.specs.Pins.{counted_at, is_pin, store_at}
use Rattle.mesa_model.specs.Warehouse.{Pin, Store, Table}
use Rattle.mesa_catalog.specs.mesa_store_spec.Catalog.{Catalog, TableMeta}
use Rattle.mesa_invariant_spec.specs.mesa_history_spec.Bare.{bare_pin, bare_store, bare_table}
use Rattle.mesa_invariant_spec.specs.mesa_history_spec.Rows.{Rows}
use Rattle.mesa_commit.specs.declared.trash.Hold.{Hold}
use Rattle.mesa_invariant_spec.specs.Books.{pinned_books, released_books}
use Rattle.mesa_engine.specs.EngineState.{HeldPin, EngineState, projection_at, projection_of, projections, projections_at, bare_held, held_with, books_of}
use Rattle.mesa_engine.specs.Turned.{pin_now, pinned_state, is_held_pin, released_state}

-- ---- projections

-- nothing is to be taken from tables without contents
pub bare_tables : (ts : List TableMeta) → map bare_table (map projection_of ts) ≡ map projection_of ts
bare_tables [] = refl
bare_tables (t ∷ ts) = ap (λ (x : List Table). projection_of t ∷ x) (bare_tables ts)

bare_again : (c : Catalog) → bare_store (projections c) ≡ projections c
bare_again c = ap (λ (x : List Table). record { tables = x; floor = c.floor }) (bare_tables c.tables)

-- nor from those of one version
bare_tables_at : (version : ℕ) (ts : List TableMeta) → map bare_table (map (projection_at version) ts) ≡ map (projection_at version) ts
bare_tables_at version [] = refl
bare_tables_at version (t ∷ ts) = ap (λ (x : List Table). projection_at version t ∷ x) (bare_tables_at version ts)

bare_again_at : (version : ℕ) (c : Catalog) → bare_store (projections_at version c) ≡ projections_at version c
bare_again_at version c = ap (λ (x : List Table). record { tables = x; floor = version }) (bare_tables_at version c.tables)

pub bare_pins : (pins : List HeldPin) → map bare_pin (map bare_held pins) ≡ map bare_held pins
bare_pins [] = refl
bare_pins (p ∷ pins) = λ i. record { session = p.session; token = p.token; version = p.version; store = bare_again_at p.version p.copy i } ∷ bare_pins pins i

-- nor from a copy of them at a version
bare_copy : (s : Store) (version : ℕ) (ts : List TableMeta) → map bare_table (store_at (record { tables = map projection_of ts; floor = s.floor }) version).tables ≡ map (projection_at version) ts
bare_copy s version ts = map-map _ _ (map projection_of ts) ∙ map-map _ _ ts

-- ---- a pin more

module _ (rows : Rows) (l : EngineState) (session version : ℕ) (hold : Hold) where
  -- the pin that the books make
  abbrev made : Pin
  made = record { session = session; token = (pin_now l session version hold).token; version = version; store = store_at (projections l.catalogue) version }

  copy_is : bare_store made.store ≡ projections_at version l.catalogue
  copy_is = ap (λ (x : List Table). record { tables = x; floor = version }) (bare_copy (projections l.catalogue) version l.catalogue.tables)

  pinned_bare : map bare_held (l.pins ++ pin_now l session version hold ∷ []) ≡ map bare_pin (map bare_held l.pins ++ made ∷ [])
  pinned_bare = map-append bare_held l.pins (pin_now l session version hold ∷ [])
      ∙ (λ i. sym (bare_pins l.pins) i ++ record { session = session; token = made.token; version = version; store = sym copy_is i } ∷ [])
      ∙ sym (map-append bare_pin (map bare_held l.pins) (made ∷ []))

  pub pinned_as : books_of rows (pinned_state l session version hold) ≡ pinned_books session version (books_of rows l)
  pinned_as =
      λ i. record (books_of rows (pinned_state l session version hold)) {
        bare = record (books_of rows (pinned_state l session version hold)).bare { store = sym (bare_again l.catalogue) i; pins = pinned_bare i };
        pins = map-append (held_with rows) l.pins (pin_now l session version hold ∷ []) i;
      }

-- the counts of pins, of which one is more
pub counted_more : (n : ℕ) (counts : List ℕ) (place : ℕ) → AllByRecursion (λ x. x ≤ n) counts → AllByRecursion (λ x. x ≤ n + 1) (counted_at counts place)
counted_more n [] zero all = (omega arith, tt)
counted_more n [] (suc place) all = (omega arith, counted_more n [] place tt)
counted_more n (x ∷ counts) zero all = ((let le = all.0 in omega (arith, le)), rest counts all.1)
  where
    rest : (xs : List ℕ) → AllByRecursion (λ x. x ≤ n) xs → AllByRecursion (λ x. x ≤ n + 1) xs
    rest [] is = tt
    rest (y ∷ xs) is = ((let le = is.0 in omega (arith, le)), rest xs is.1)
counted_more n (x ∷ counts) (suc place) all = ((let le = all.0 in omega (arith, le)), counted_more n counts place all.1)

-- ---- a pin less

mapped_less : {A B : Type 0} (f : A → B) (test : B → Bool) (xs : List A) → map f (filter (λ x. test (f x)) xs) ≡ filter test (map f xs)
mapped_less f test [] = refl
mapped_less f test (x ∷ xs) = by (test (f x)) ∙ ap (λ ys. cond (test (f x)) (f x ∷ ys) ys) (mapped_less f test xs)
  where
    by : (b : Bool) → map f (cond b (x ∷ filter (λ y. test (f y)) xs) (filter (λ y. test (f y)) xs)) ≡ cond b (f x ∷ map f (filter (λ y. test (f y)) xs)) (map f (filter (λ y. test (f y)) xs))
    by true = refl
    by false = refl

pub released_as : (rows : Rows) (l : EngineState) (session token : ℕ) → books_of rows (released_state l session token) ≡ released_books session token (books_of rows l)
released_as rows l session token =
    λ i. record (books_of rows (released_state l session token)) {
      bare = record (books_of rows (released_state l session token)).bare { store = sym (bare_again l.catalogue) i; pins = pins_are i };
      pins = mapped_less (held_with rows) (λ pin. not (is_pin session token pin)) l.pins i;
    }
  where
    pins_are : map bare_held (filter (λ p. not (is_held_pin session token p)) l.pins) ≡ map bare_pin (filter (λ pin. not (is_pin session token pin)) (map bare_held l.pins))
    pins_are = sym (bare_pins (filter (λ p. not (is_held_pin session token p)) l.pins)) ∙ ap (map bare_pin) (mapped_less bare_held (λ pin. not (is_pin session token pin)) l.pins)
