-- What a query sees of a vault.
use Rattle.std.specs.Prelude.{ℕ, find, None, Option, Some, option_map}
use Rattle.mesa_read_turns.specs.declared.seeing.Seen.{Seen}
use Rattle.mesa_filter.specs.declared.words.QueryWords.{QueryWords}
use Rattle.mesa_filter.specs.declared.words.VersionWord.{VersionWord}
use Rattle.mesa_filter.specs.declared.words.VersionWord.TheVariants as asks
use Rattle.mesa_engine.specs.mesa_store_spec.Catalog.{Catalog}
use Rattle.mesa_engine.specs.EngineState.{HeldPin, EngineState}
use Rattle.mesa_engine.specs.Turned.{is_held_pin}
use Rattle.mesa_validate.specs.Found.{Sees}
use Rattle.mesa_engine.specs.mesa_invariant_spec.Books.{Books}

-- A session's query sees these tables in the books, and where they are a pin's, this version of each of them.
abbrev pub SeesBooks : Seen → QueryWords → ℕ → Books → Type 0
SeesBooks seen words session books = Sees seen.catalog.now.catalogue seen.pinned words session books.bare

-- The catalogue that a session's query sees: the present one, or that of the pin that it names, as it was pinned.
abbrev pub catalogue_asked : EngineState → ℕ → VersionWord → Option Catalog
catalogue_asked l session asks.Latest = Some l.catalogue
catalogue_asked l session (asks.At version) = Some l.catalogue
catalogue_asked l session (asks.Pin token) = option_map (λ (p : HeldPin). p.copy) (find (is_held_pin session token) l.pins)

-- The version that a session's query asks of each table that it sees, where it names a pin: the pin's own.
abbrev pub pinned_asked : EngineState → ℕ → VersionWord → Option ℕ
pinned_asked l session asks.Latest = None
pinned_asked l session (asks.At version) = None
pinned_asked l session (asks.Pin token) = option_map (λ (p : HeldPin). p.version) (find (is_held_pin session token) l.pins)
