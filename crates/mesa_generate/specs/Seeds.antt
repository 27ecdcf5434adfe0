-- That seeds give scripts.
use Rattle.std.specs.Prelude.{◌≡◌, ◌≤◌, ℕ, Ok}
use Rattle.mesa_model.specs.declared.commands.Script.{Script}
use Rattle.mesa_invariant_spec.specs.mesa_script.Generated.{generated}
use Rattle.mesa_invariant_spec.specs.mesa_script.Script.{script_of}

-- the most versions that a script is generated with
abbrev pub most_versions : ℕ
most_versions = 20000

-- Whatever the seed, so many versions or fewer give bytes that spell a script.
abbrev pub SeedsGiveScripts : Type 0
SeedsGiveScripts = (seed versions : ℕ) → versions ≤ most_versions → (script : Script) × (script_of (generated seed versions) ≡ Ok script)
