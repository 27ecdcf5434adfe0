-- The image in which nothing was written.
use Rattle.std.proofs.Common.{refl, ◌≤◌, [], inl, arith}
use Rattle.mesa_history_spec.specs.Found.{kept_of as kept_in_state}
use Rattle.mesa_history_spec.specs.Run.{nothing_there}
use Rattle.mesa_history_spec.specs.mesa_model.declared.commands.Script.{Script}
use Rattle.mesa_commit.specs.mesa_disk.declared.area.Area.TheVariants.{Zero}
use Rattle.mesa_commit.specs.mesa_journal.Journal.{IsJournal}
use Rattle.mesa_store_spec.specs.Catalog.{empty_catalog}
use Rattle.mesa_store_spec.specs.Fitting.{catalog_from}
use Rattle.mesa_store_spec.specs.Contents.{Rows, kept_of}
use Rattle.mesa_store_spec.specs.Sound.{IsSound, IsSoundAs, StandsFor, empty_image}

no_rows : Rows
no_rows id = []

none : IsJournal [] [] 0
none = inl (record { short = (let e : 0 ≤ 1 = omega arith in e); none = refl; ends = refl })

sound_as : IsSoundAs empty_image [] empty_catalog no_rows
unfolding catalog_from
sound_as = record { live = Zero; end = 0; journal = record { whole = none; behind = record { others = []; end = 0; whole = none; leads = omega arith } }; records = refl; files = tt; rows_are = tt }

pub is_sound : IsSound empty_image
is_sound = record { bodies = []; catalogue = empty_catalog; rows = no_rows; is = sound_as }

pub stands_for_nothing : (script : Script) → StandsFor empty_image (kept_in_state (nothing_there script))
unfolding kept_of
stands_for_nothing script = record { bodies = []; catalogue = empty_catalog; rows = no_rows; is = sound_as; same = refl }
