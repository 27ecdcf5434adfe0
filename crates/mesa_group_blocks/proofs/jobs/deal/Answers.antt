use Rattle.std.proofs.Common.{◌≡◌, ◌∙◌, ◌++◌, ◌∷◌, [], List, ap, append-nil, arith, refl, subst, sym, true}
use Rattle.std.specs.Prelude.{flat_map}
use Rattle.std.specs.List.{AllByRecursion}
use Rattle.std.proofs.lemmas.Bool.Decides.{nat_tests}
use Rattle.std.proofs.lemmas.List.{nil_from_length}
use Rattle.mesa_answer.specs.Gathered.{wanted_of}
use Rattle.mesa_open_files.proofs.Retired.{all_append, all_back, all_front}
use Rattle.mesa_group_blocks.specs.declared.jobs.Job.{Job}
use Rattle.mesa_group_blocks.specs.declared.pieces.Piece.{Piece}
use Rattle.mesa_group_blocks.specs.Jobs.{IsJob, pieces_in}
use Rattle.mesa_group_blocks.specs.Pieces.{IsPieceOf}
use Rattle.mesa_group_blocks.proofs.JobSteps.{dealt_more, job_begun, split_whole}
use Rattle.mesa_group_blocks.proofs.jobs.deal.Goals as goal

pub each_run-preserved : goal.each_run-preserved
each_run-preserved c =
    let inv = c.each_run.invariant in
    let job : Job = record { pieces = c.in_ok-from_slice.field-0; next = 0; waiting = c.with_room.result; groups = c.in_ok-anew.field-0; sound = true } in
    let jobs : List Job = c.each_run.jobs.items in
    let run : List Piece = c.split_at.result.0.now in
    let behind : List Piece = c.split_at.result.1.now in
    let whole : c.each_run.rest.now ≡ run ++ behind = split_whole _ c.each_run.rest.now run behind c.split_at.ensures.front c.split_at.ensures.back in
    let own : job.pieces.items ≡ run = c.in_ok-from_slice.ensures.items in
    record {
      dealt = ap (λ (js : List Job). flat_map pieces_in js ++ behind) c.in_ok-push.ensures.items ∙ dealt_more jobs job run behind own ∙ ap (λ (ps : List Piece). flat_map pieces_in jobs ++ ps) (sym whole) ∙ inv.dealt;
      begun = λ files f are.
          let rest : AllByRecursion (IsPieceOf files) c.each_run.rest.now = all_back (IsPieceOf files) (flat_map pieces_in jobs) c.each_run.rest.now (subst (AllByRecursion (IsPieceOf files)) (sym inv.dealt) are) in
          let here : AllByRecursion (IsPieceOf files) run = all_front (IsPieceOf files) run behind (subst (AllByRecursion (IsPieceOf files)) whole rest) in
          let one : IsJob files (wanted_of c.args.groups.now) f job =
          job_begun files (wanted_of c.args.groups.now) f job refl c.with_room.ensures (subst (AllByRecursion (IsPieceOf files)) (sym own) here) c.in_ok-anew.ensures.wanted c.in_ok-anew.ensures.none in
          subst (AllByRecursion (IsJob files (wanted_of c.args.groups.now) f)) (sym c.in_ok-push.ensures.items) (all_append (IsJob files (wanted_of c.args.groups.now) f) jobs (job ∷ []) (inv.begun files f are) (one, tt));
    }

pub returns-clause-dealt : goal.returns-clause-dealt
returns-clause-dealt c =
    let none : c.each_run.rest.now ≡ [] = nil_from_length c.each_run.rest.now (grind (arith, nat_tests)) in
    sym (append-nil (flat_map pieces_in c.each_run.jobs.items)) ∙ ap (λ (ps : List Piece). flat_map pieces_in c.each_run.jobs.items ++ ps) (sym none) ∙ c.each_run.invariant.dealt
