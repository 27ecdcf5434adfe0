-- Groups of jobs that are joined.
use Rattle.std.proofs.Common.{◌≡◌, ◌≤◌, List, [], ◌∷◌, ◌++◌, length, sym, ◌∙◌, ap, append_assoc, subst}
use Rattle.std.specs.List.{AllByRecursion}
use Rattle.std.specs.Prelude.{flat_map}
use Rattle.std.proofs.lemmas.List.{append-nil}
use Rattle.mesa_open_files.specs.mesa_columns.declared.rows.Row.{Row}
use Rattle.mesa_filter.specs.Filter.{KeyFilter}
use Rattle.mesa_merge.specs.Inputs.{AreTold, Known}
use Rattle.mesa_answer.specs.Gathered.{HasPut, wanted_of}
use Rattle.mesa_answer.specs.Gathering.{Wanted}
use Rattle.mesa_answer.specs.declared.groups.Groups.{Groups}
use Rattle.mesa_open_files.proofs.Retired.{all_back}
use Rattle.mesa_group_blocks.specs.declared.jobs.Job.{Job}
use Rattle.mesa_group_blocks.specs.Jobs.{IsJob, pieces_in}
use Rattle.mesa_group_blocks.specs.Pieces.{rows_of_pieces}
use Rattle.mesa_group_blocks.proofs.JobSteps.{job_done}
use Rattle.mesa_group_blocks.proofs.PieceRows.{rows_append}

-- Groups have just the rows of some of the jobs.
abbrev pub AreJoined : List Job → List Job → Groups → Type 0
AreJoined all done g = (files : List Known) (w : Wanted) (f : KeyFilter) → AllByRecursion (IsJob files w f) all → (given : List Row) × HasPut g given × (wanted_of g ≡ w)
    × ((contents : List (List Row)) → AreTold files contents → given ≡ rows_of_pieces f files contents (flat_map pieces_in done))

-- those of the last one
pub joined_last : (all before : List Job) (j : Job) → before ++ j ∷ [] ≡ all → j.waiting ≡ [] → length j.pieces.items ≤ j.next → AreJoined all (j ∷ []) j.groups
joined_last all before j is none le files w f each =
    let one : IsJob files w f j = (all_back (IsJob files w f) before (j ∷ []) (subst (AllByRecursion (IsJob files w f)) (sym is) each)).0 in
    (one.given, one.put, one.wanted, λ contents told. job_done files w f j contents one none le told ∙ ap (rows_of_pieces f files contents) (sym (append-nil j.pieces.items)))

-- and of one more before them
pub joined_more : (all before done : List Job) (j : Job) (old new : Groups) → before ++ (j ∷ done) ≡ all → j.waiting ≡ [] → length j.pieces.items ≤ j.next → AreJoined all done old
    → ((given more : List Row) → HasPut j.groups given → HasPut old more → HasPut new (given ++ more)) → wanted_of new ≡ wanted_of j.groups → AreJoined all (j ∷ done) new
joined_more all before done j old new is none le h put wanted files w f each =
    let one : IsJob files w f j = (all_back (IsJob files w f) before (j ∷ done) (subst (AllByRecursion (IsJob files w f)) (sym is) each)).0 in
    let rest = h files w f each in (
      one.given ++ rest.0,
      put one.given rest.0 one.put rest.1,
      wanted ∙ one.wanted,
      λ contents told. (λ i. job_done files w f j contents one none le told i ++ rest.3 contents told i) ∙ sym (rows_append f files contents j.pieces.items (flat_map pieces_in done)),
    )

-- a job that was popped stands before them
pub popped : (all now before done : List Job) (j : Job) → now ≡ before ++ j ∷ [] → now ++ done ≡ all → before ++ (j ∷ done) ≡ all
popped all now before done j at is = sym (append_assoc before (j ∷ []) done) ∙ ap (λ (js : List Job). js ++ done) (sym at) ∙ is

-- one of the jobs
pub one_of : (files : List Known) (w : Wanted) (f : KeyFilter) (all before done : List Job) (j : Job) → before ++ (j ∷ done) ≡ all → AllByRecursion (IsJob files w f) all → IsJob files w f j
one_of files w f all before done j is each = (all_back (IsJob files w f) before (j ∷ done) (subst (AllByRecursion (IsJob files w f)) (sym is) each)).0
