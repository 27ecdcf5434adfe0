-- What a source and a sink in memory are to their callers.
use Rattle.std.specs.Prelude.{ℕ, List}

-- a source in memory: the bytes that are left, the numbers of the calls that fail, how many calls were made, and how many failed
pub record SourceState : Type 0 where
  pub left : List ℕ
  pub fails : List ℕ
  pub calls : ℕ
  pub faults : ℕ

-- a sink in memory: the bytes that it was given, the numbers of the calls that fail, how many calls were made, and how many failed
pub record SinkState : Type 0 where
  pub held : List ℕ
  pub fails : List ℕ
  pub calls : ℕ
  pub faults : ℕ
