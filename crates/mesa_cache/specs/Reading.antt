-- What contracts see of a reader with a cache.
use Rattle.std.specs.Prelude.{ℕ}

-- The reader that it reads by, and how often it was read itself. The pages that it keeps make no difference to what is read.
pub record Reading (R : Type 0) : Type 0 where
  pub inner : R
  pub reads : ℕ
