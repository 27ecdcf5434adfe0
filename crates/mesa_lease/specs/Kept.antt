-- What a run's leases are at a time.
use Rattle.std.specs.Prelude.{ℕ}
use Rattle.mesa_lease.specs.Book.{Book}

-- the book, and a position that lies behind every one at which a lease was granted, renewed or completed
pub record Kept : Type 0 where
  pub book : Book
  pub next : ℕ
