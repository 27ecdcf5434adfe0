-- The files of a work's range, once they are opened.
use Rattle.std.specs.Prelude.{◌≡◌, ℕ, List, map, flat_map, Bool, true, false, Option, Result, Ok, Err}
use Rattle.mesa_disk.specs.Image.{Image}
use Rattle.mesa_span.specs.declared.works.Work.{Work}
use Rattle.mesa_validate.specs.mesa_store_spec.Catalog.{TableMeta}
use Rattle.mesa_validate.specs.mesa_store_spec.Moves.{is_base, last_of}
use Rattle.mesa_open_files.specs.Opening.{HaveOpened}
use Rattle.mesa_open_files.specs.declared.merging.Task.{Task}
use Rattle.mesa_open_files.specs.declared.opening.Unopened.{Unopened}
use Rattle.mesa_open_files.specs.declared.opening.Unopened.TheVariants as un
use Rattle.mesa_open_files.specs.declared.opening.Wanted.{Wanted}
use Rattle.mesa_pick_files.specs.Files.{table_wanted, want_of}
use Rattle.mesa_pick_files.specs.declared.gathering.Gathered.{Gathered}
use Rattle.mesa_pick_files.specs.Folding.{folded_deltas}

-- whether a fault of the disk or of a reader ended an opening
abbrev pub is_fault_among : {T : Type 0} → Result T Unopened → Bool
is_fault_among (Ok t) = false
is_fault_among (Err un.Fault) = true
is_fault_among (Err un.Memory) = false

-- the task of a work on the table of a number, once it is granted with this lease
abbrev pub task_with : {R : Type 0} → ℕ → Work → ℕ → Gathered R → Task R
task_with number work lease g = record { table = number; work = work; lease = lease; epoch = g.epoch; inputs = g.inputs; damage = g.damage; spare = g.spare }

-- A task has the table's files of the deltas that its work folds, in version order: all of them were opened, or those before the first that isn't the recorded one.
pub record IsGathered {R : Type 0} (bytes : R → Option (List ℕ)) (faults : R → ℕ) (told : Option Image) (t : TableMeta) (work : Work) (task : Task R) : Type 0 where
  pub wanted : List Wanted
  pub are : map want_of wanted ≡ flat_map (table_wanted t.lineage) (folded_deltas t (is_base work) (last_of work))
  pub opened : HaveOpened bytes faults told wanted task.inputs.items task.damage
