-- Commands of a plain warehouse, which nothing closes.
use Rattle.std.proofs.Common.{◌≡◌, ℕ, List, [], ◌∷◌, length, map, Bool, true, false, Result, Ok, Err, Some, None, refl, ◌∙◌, ap}
use Rattle.std.specs.Prelude.{filter, is_none, is_some, nat_le, not, Option}
use Rattle.std.specs.Option.{ok_or}
use Rattle.mesa_list.specs.Checks.{◌>>=◌, ◌>>◌, refuse_if, refused_as}
use Rattle.mesa_schema.specs.Changes.{columns_of}
use Rattle.mesa_batch.specs.declared.words.RowWords.{RowWords}
use Rattle.mesa_batch.specs.Batch.{Named, Placed, batch_of}
use Rattle.mesa_batch.specs.Glance.{Known, Sight, tables_of}
use Rattle.mesa_model.specs.declared.replies.Refusal.{Refusal}
use Rattle.mesa_model.specs.declared.replies.Refusal.TheVariants as no
use Rattle.mesa_model.specs.declared.replies.Reply.{Reply}
use Rattle.mesa_model.specs.declared.replies.Reply.TheVariants as reply
use Rattle.mesa_model.specs.Load as load
use Rattle.mesa_model.specs.Refusals.{batch_refusal, no_such_table}
use Rattle.mesa_model.specs.Relations.{table_number}
use Rattle.mesa_model.specs.Versions.{expire_all, expire_table, store_from, version_checked}
use Rattle.mesa_model.specs.Pins.{is_pin, release_pin, pin_of}
use Rattle.mesa_model.specs.Warehouse.{Pin, Store, Table, Warehouse, max_versions, table_at}
use Rattle.mesa_binding.specs.declared.failure.Failure.{Failure}
use Rattle.mesa_binding.specs.declared.failure.Failure.TheVariants.{Memory, Refused}
use Rattle.mesa_oracle_tables.specs.Kept.{Versioned, known_in, with_batch, with_table_from}
use Rattle.mesa_test_oracle.specs.Pinned.{warehouse_of}
use Rattle.mesa_binding.specs.Told.{IsDue}

-- ---- loads

abbrev as_named : Known → Named
as_named known = record { name = known.name; columns = columns_of known.lineage }

abbrev as_known : Table → Known
as_known t = record { name = t.name; lineage = t.lineage }

named_again : (tables : List Table) → map as_named (map as_known tables) ≡ map (λ (t : Table). as_named (as_known t)) tables
named_again [] = refl
named_again (t ∷ tables) = ap (λ ns. as_named (as_known t) ∷ ns) (named_again tables)

-- the tables of a store's glance are those by which a load's rows are read
pub glance_named : (sight : Sight) (store : Store) → sight.tables ≡ known_in store → tables_of sight ≡ load.tables_named store
glance_named sight store e = ap (map as_named) e ∙ named_again store.tables

-- what a load comes to, by its batch, whether there are as many versions as there may be, and its bounds
behind_batch : Warehouse → List Placed → Bool → Result (Unit {0}) Refusal → Result (Warehouse × Reply) Refusal
behind_batch w placed full bounds = refuse_if full (no.VersionsFull max_versions) >> (bounds >> Ok (load.with_batch w placed, reply.Loaded w.next (length placed)))

-- the parts of a load that was read
loads_as : (s : Versioned) (given : List ℕ) (pins : List Pin) (rows : List RowWords) (placed : List Placed) → batch_of (load.tables_named s.store) rows ≡ Ok placed
    → load.load_batch (warehouse_of s given pins) rows ≡ behind_batch (warehouse_of s given pins) placed (nat_le max_versions s.next) (load.bounds_checked placed 0 s.store.tables)
unfolding behind_batch
loads_as s given pins rows placed e = ap (λ r. refused_as batch_refusal r >>= (λ ps. refuse_if (nat_le max_versions s.next) (no.VersionsFull max_versions) >> (load.bounds_checked ps 0 s.store.tables >> Ok (load.with_batch (warehouse_of s given pins) ps, reply.Loaded s.next (length ps))))) e

pub load_done : (s : Versioned) (given : List ℕ) (pins : List Pin) (rows : List RowWords) (placed : List Placed) → batch_of (load.tables_named s.store) rows ≡ Ok placed → nat_le max_versions s.next ≡ false → load.bounds_checked placed 0 s.store.tables ≡ Ok tt
    → load.load_batch (warehouse_of s given pins) rows ≡ Ok (warehouse_of (with_batch placed s) given pins, reply.Loaded s.next (length placed))
unfolding behind_batch
load_done s given pins rows placed e full bounds = loads_as s given pins rows placed e ∙ (λ j. behind_batch (warehouse_of s given pins) placed (full j) (bounds j))

pub load_unread : (s : Versioned) (given : List ℕ) (pins : List Pin) (rows : List RowWords) (failure : Failure) → IsDue (refused_as batch_refusal (batch_of (load.tables_named s.store) rows)) failure → IsDue (load.load_batch (warehouse_of s given pins) rows) failure
load_unread s given pins rows Memory due = tt
load_unread s given pins rows (Refused r) due = ap (λ batch. batch >>= (λ ps. refuse_if (nat_le max_versions s.next) (no.VersionsFull max_versions) >> (load.bounds_checked ps 0 s.store.tables >> Ok (load.with_batch (warehouse_of s given pins) ps, reply.Loaded s.next (length ps))))) due

pub load_full : (s : Versioned) (given : List ℕ) (pins : List Pin) (rows : List RowWords) (placed : List Placed) → batch_of (load.tables_named s.store) rows ≡ Ok placed → nat_le max_versions s.next ≡ true → load.load_batch (warehouse_of s given pins) rows ≡ Err (no.VersionsFull max_versions)
unfolding behind_batch
load_full s given pins rows placed e full = loads_as s given pins rows placed e ∙ ap (λ b. behind_batch (warehouse_of s given pins) placed b (load.bounds_checked placed 0 s.store.tables)) full

pub load_over : (s : Versioned) (given : List ℕ) (pins : List Pin) (rows : List RowWords) (placed : List Placed) (failure : Failure) → batch_of (load.tables_named s.store) rows ≡ Ok placed → nat_le max_versions s.next ≡ false → IsDue (load.bounds_checked placed 0 s.store.tables) failure → IsDue (load.load_batch (warehouse_of s given pins) rows) failure
unfolding behind_batch
load_over s given pins rows placed Memory e full due = tt
load_over s given pins rows placed (Refused r) e full due = loads_as s given pins rows placed e ∙ (λ j. behind_batch (warehouse_of s given pins) placed (full j) (due j))

-- ---- versions

pub expire_done : (s : Versioned) (given : List ℕ) (pins : List Pin) (version : ℕ) → version_checked (warehouse_of s given pins) s.store.floor version ≡ Ok tt
    → expire_all (warehouse_of s given pins) version ≡ Ok (warehouse_of (record s { store = store_from s.store version }) given pins, reply.Expired None version)
expire_done s given pins version e = ap (λ r. r >> Ok (warehouse_of (record s { store = store_from s.store version }) given pins, reply.Expired None version)) e

pub expire_refused : (s : Versioned) (given : List ℕ) (pins : List Pin) (version : ℕ) (r : Refusal) → version_checked (warehouse_of s given pins) s.store.floor version ≡ Err r → expire_all (warehouse_of s given pins) version ≡ Err r
expire_refused s given pins version r e = ap (λ c. c >> Ok (warehouse_of (record s { store = store_from s.store version }) given pins, reply.Expired None version)) e

-- what the expiry of one table comes to, by the table's number and by whether the version can be queried
abbrev behind_check : Versioned → List ℕ → List Pin → List ℕ → ℕ → ℕ → Result (Unit {0}) Refusal → Result (Warehouse × Reply) Refusal
behind_check s given pins name version number checked = checked >> Ok (warehouse_of (with_table_from s number version) given pins, reply.Expired (Some name) version)

abbrev behind_table : Versioned → List ℕ → List Pin → List ℕ → ℕ → Option ℕ → Result (Warehouse × Reply) Refusal
behind_table s given pins name version found = ok_or found no_such_table >>= (λ number. behind_check s given pins name version number (version_checked (warehouse_of s given pins) (table_at s.store number).oldest version))

pub table_expired : (s : Versioned) (given : List ℕ) (pins : List Pin) (name : List ℕ) (version number : ℕ) → table_number s.store name ≡ Some number → version_checked (warehouse_of s given pins) (table_at s.store number).oldest version ≡ Ok tt
    → expire_table (warehouse_of s given pins) name version ≡ Ok (warehouse_of (with_table_from s number version) given pins, reply.Expired (Some name) version)
table_expired s given pins name version number found e = ap (behind_table s given pins name version) found ∙ ap (behind_check s given pins name version number) e

pub table_not_expired : (s : Versioned) (given : List ℕ) (pins : List Pin) (name : List ℕ) (version number : ℕ) (r : Refusal) → table_number s.store name ≡ Some number → version_checked (warehouse_of s given pins) (table_at s.store number).oldest version ≡ Err r
    → expire_table (warehouse_of s given pins) name version ≡ Err r
table_not_expired s given pins name version number r found e = ap (behind_table s given pins name version) found ∙ ap (behind_check s given pins name version number) e

pub no_table_expired : (s : Versioned) (given : List ℕ) (pins : List Pin) (name : List ℕ) (version : ℕ) → table_number s.store name ≡ None → expire_table (warehouse_of s given pins) name version ≡ Err no_such_table
no_table_expired s given pins name version found = ap (behind_table s given pins name version) found

-- ---- pins

none_of : {X : Type 0} (o : Option X) (b : Bool) → is_some o ≡ b → is_none o ≡ not b
none_of None b e = ap not e
none_of (Some x) b e = ap not e

-- what giving a pin back comes to, by whether it is held
pub released : (s : Versioned) (given : List ℕ) (pins : List Pin) (session token : ℕ) (held : Bool) → is_some (pin_of (warehouse_of s given pins) session token) ≡ held
    → release_pin (warehouse_of s given pins) session token ≡ (refuse_if (not held) (no.NoPin token) >> Ok (warehouse_of s given (filter (λ pin. not (is_pin session token pin)) pins), reply.Released token))
released s given pins session token held e = ap (λ b. refuse_if b (no.NoPin token) >> Ok (warehouse_of s given (filter (λ pin. not (is_pin session token pin)) pins), reply.Released token)) (none_of (pin_of (warehouse_of s given pins) session token) held e)
