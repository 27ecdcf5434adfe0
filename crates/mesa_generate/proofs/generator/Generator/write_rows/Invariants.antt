use Rattle.std.proofs.Common.{◌≡◌, ◌<◌, ◌-◌, ◌++◌, ℕ, List}
use Rattle.mesa_invariant_spec.specs.mesa_script.Generated.{rows_from}
use Rattle.mesa_generate.proofs.generator.Generator.write_rows.Given as goal

-- what was written and the rows to come are all four
abbrev pub invariant-rows : goal.invariant-rows
invariant-rows l = record {
  same : (rest : ℕ → List ℕ) → l.initial.self.script.items ++ rows_from l.version 0 4 l.initial.self.state rest ≡ l.self.script.items ++ rows_from l.version l.j (4 - l.j) l.self.state rest;
  small : l.self.state < 4294967296;
}
