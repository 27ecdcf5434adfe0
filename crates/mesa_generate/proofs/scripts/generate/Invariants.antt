use Rattle.std.proofs.Common.{◌≡◌, ◌<◌, ◌-◌, ◌++◌}
use Rattle.mesa_invariant_spec.specs.mesa_script.Generated.{versions_from}
use Rattle.mesa_generate.proofs.scripts.generate.Given as goal

-- what was written and the versions to come are all of them
abbrev pub invariant-versions : goal.invariant-versions
invariant-versions l = record {
  same : l.generator.script.items ++ versions_from l.version (l.versions - l.version) l.generator.state ≡ l.initial.generator.script.items ++ versions_from 0 l.versions l.seed;
  small : l.generator.state < 4294967296;
}
