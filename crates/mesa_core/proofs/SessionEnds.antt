-- How a session ends.
use Rattle.std.proofs.Common.{◌≡◌, ℕ, ◌+◌, ◌≤◌, ◌||◌, true, length, ap, ◌∙◌}
use Rattle.std.specs.Prelude.{is_none}
use Rattle.std.proofs.lemmas.Bool.{or_right}
use Rattle.mesa_turn.specs.Passes.{Known}
use Rattle.mesa_model.specs.declared.commands.Script.{Script}
use Rattle.mesa_recast_turns.specs.mesa_history_spec.Run.{State, First, Finished, Place, command_at, commands_of}
use Rattle.mesa_recast_turns.specs.mesa_history_spec.Legal.{is_complete, is_cut_off, is_cut_off_at}
use Rattle.mesa_recast_turns.specs.mesa_history_spec.Turns.{place_then}
use Rattle.mesa_engine.proofs.mesa_history_spec.Due.{command_behind}
use Rattle.mesa_core.specs.Passes.{run_seen, at_stage, Mine, HasEnded}

-- a session whose commands are all finished
pub ended_whole : (script : Script) (start : State) (p : Known) (session i : ℕ) → length (commands_of script session) ≤ i → Mine script start p session (at_stage (i + 1) First) → HasEnded script start p session
ended_whole script start p session i le mine =
    let none : is_complete script (run_seen script start p.seen) session ≡ true = ap (λ (x : Place). is_none (command_at script session x.number)) mine.at ∙ ap is_none (command_behind script session i le) in
    record { exact = mine.holds.exact; fits = mine.holds.fits; ended = ap (λ b. b || is_cut_off (run_seen script start p.seen) session) none }

-- a session that was cut off
pub ended_cut : (script : Script) (start : State) (p : Known) (session number : ℕ) → Mine script start p session (place_then true number Finished) → HasEnded script start p session
ended_cut script start p session number mine =
    let cut : is_cut_off (run_seen script start p.seen) session ≡ true = ap (λ (x : Place). is_cut_off_at x.stage) mine.at in
    record { exact = mine.holds.exact; fits = mine.holds.fits; ended = or_right (is_complete script (run_seen script start p.seen) session) (is_cut_off (run_seen script start p.seen) session) cut }
