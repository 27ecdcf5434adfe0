-- Tables go on: where tables are added, set or changed in place, no table's oldest version or epoch falls, and each has the first epoch that it had, and its columns as long as it has its epoch.
use Rattle.std.proofs.Common.{◌≡◌, ℕ, zero, suc, ◌+◌, ◌<◌, ◌≤◌, List, [], ◌∷◌, ◌++◌, length, map, set, get_or, refl, arith}
use Rattle.mesa_script.specs.mesa_schema.Changes.{columns_of, epoch_of}
use Rattle.mesa_script.specs.mesa_batch.Batch.{Placed}
use Rattle.mesa_script.specs.mesa_model.Warehouse.{Table, no_table}
use Rattle.mesa_script.specs.mesa_model.Load.{tables_loaded}

-- a table later on, which wasn't recast
pub record GoesOn (t later : Table) : Type 0 where
  pub oldest : t.oldest ≤ later.oldest
  pub begins : later.lineage.begins ≡ t.lineage.begins
  pub epoch : epoch_of t.lineage ≤ epoch_of later.lineage
  pub columns : epoch_of later.lineage ≡ epoch_of t.lineage → columns_of later.lineage ≡ columns_of t.lineage

pub stays_so : (t : Table) → GoesOn t t
stays_so t = record { oldest = omega arith; begins = refl; epoch = omega arith; columns = λ same. refl }

-- the table of a number among these
abbrev pub table_in : List Table → ℕ → Table
table_in ts number = get_or ts number no_table

pub pushed : (ts more : List Table) (number : ℕ) → number < length ts → GoesOn (table_in ts number) (table_in (ts ++ more) number)
pushed [] more number lt = absurd (omega (arith, lt))
pushed (x ∷ ts) more zero lt = stays_so x
pushed (x ∷ ts) more (suc number) lt = pushed ts more number (omega (arith, lt))

pub set_later : (ts : List Table) (place : ℕ) (t : Table) → GoesOn (table_in ts place) t → (number : ℕ) → GoesOn (table_in ts number) (table_in (set ts place t) number)
set_later [] place t on number = stays_so (table_in [] number)
set_later (x ∷ ts) zero t on zero = on
set_later (x ∷ ts) zero t on (suc number) = stays_so (table_in ts number)
set_later (x ∷ ts) (suc place) t on zero = stays_so x
set_later (x ∷ ts) (suc place) t on (suc number) = set_later ts place t on number

pub mapped : (f : Table → Table) → ((t : Table) → GoesOn t (f t)) → (ts : List Table) (number : ℕ) → GoesOn (table_in ts number) (table_in (map f ts) number)
mapped f on [] number = stays_so no_table
mapped f on (t ∷ ts) zero = on t
mapped f on (t ∷ ts) (suc number) = mapped f on ts number

pub loaded : (batch : List Placed) (n : ℕ) (ts : List Table) (number : ℕ) → GoesOn (table_in ts number) (table_in (tables_loaded batch n ts) number)
loaded batch n [] number = stays_so no_table
loaded batch n (t ∷ ts) zero = record { oldest = omega arith; begins = refl; epoch = omega arith; columns = λ same. refl }
loaded batch n (t ∷ ts) (suc number) = loaded batch (n + 1) ts number
