-- A batch with its files, from its plan.
use Rattle.std.proofs.Common.{◌≡◌, ℕ, List, Bool, Option, Ok, Err, map, flat_map, subst}
use Rattle.std.specs.Prelude.{Result}
use Rattle.std.specs.List.{list_any}
use Rattle.mesa_batch.specs.declared.words.BatchError.{BatchError}
use Rattle.mesa_batch.specs.Batch.{Placed}
use Rattle.mesa_batch.specs.Gathered.{Batched}
use Rattle.mesa_batch.specs.Glance.{Sight}
use Rattle.mesa_open_files.specs.Batches.{AreParts, Share, is_over, shares}
use Rattle.mesa_open_files.specs.Made.{Content}
use Rattle.mesa_open_files.specs.declared.made.MadeFile.{MadeFile}
use Rattle.mesa_open_files.specs.declared.prepared.PreparedPart.{PreparedPart}
use Rattle.mesa_load.specs.FilesToWrite.{content_in}
use Rattle.mesa_load.specs.Plans.{ArePlanned, HaveFiles, IsBatched, IsPlan, IsRead, contents_of}
use Rattle.mesa_load.specs.declared.planning.Plan.{Plan}

-- what was read is a batch by tables
pub batched : (read : Result (List Placed) BatchError) (sight : Sight) (batch : List Placed) (b : Batched) → read ≡ Ok batch → IsRead read sight b → IsBatched sight batch b
batched read sight batch b is was = subst (λ (r : Result (List Placed) BatchError). IsRead r sight b) is was

-- rows that were read are those of a batch
pub read_rows : (read : Result (List Placed) BatchError) (sight : Sight) (b : Batched) → IsRead read sight b → (rows : List Placed) × IsBatched sight rows b
read_rows (Ok batch) sight b is = (batch, is)
read_rows (Err refusal) sight b is = absurd is

module _ {M : Type 0} (bytes : M → Option (List ℕ)) (id_of : M → ℕ) where
  pub prepared : (sight : Sight) (batch : List Placed) (plan : Plan) (files : List (MadeFile M)) (parts : List (PreparedPart M)) → IsPlan batch sight.tables plan → HaveFiles bytes id_of plan.over (map content_in plan.jobs.items) files
      → ((over : Bool) (ss : List Share) → ArePlanned ss plan.parts.items → HaveFiles bytes id_of over (flat_map contents_of ss) files → AreParts bytes id_of over ss parts)
      → AreParts bytes id_of (list_any is_over (shares sight batch)) (shares sight batch) parts
  prepared sight batch plan files parts is there filed =
      let its = subst (λ (cs : List Content). HaveFiles bytes id_of plan.over cs files) is.contents there in
      subst (λ (over : Bool). AreParts bytes id_of over (shares sight batch) parts) is.over (filed plan.over (shares sight batch) is.parts its)
