-- How many turns the sessions of a script may have.
use Rattle.std.proofs.Common.{◌≡◌, ℕ, ◌+◌, ◌*◌, ◌<◌, List, drop, length, get_or, refl, sym, ap, ◌∙◌}
use Rattle.std.proofs.lemmas.List.Recursion.{is_sum_by}
use Rattle.std.proofs.lemmas.List.Sums.{sum_by-drop_more}
use Rattle.mesa_model.specs.declared.commands.Command.{Command}
use Rattle.mesa_core.specs.Passes.{turns_of}

abbrev turns_for : List Command → ℕ
turns_for commands = 3 * length commands

-- those of one session, and those of the rest
pub turns_more : (sessions : List (List Command)) (i : ℕ) (d : List Command) → i < length sessions → turns_of (drop i sessions) ≡ 3 * length (get_or sessions i d) + turns_of (drop (i + 1) sessions)
turns_more sessions i d lt =
    let summed = is_sum_by turns_of turns_for refl (λ x xs. refl) in
    summed (drop i sessions) ∙ sum_by-drop_more turns_for sessions i d lt ∙ ap (λ n. 3 * length (get_or sessions i d) + n) (sym (summed (drop (i + 1) sessions)))
