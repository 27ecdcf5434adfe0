-- A store in which nothing was written.
use Rattle.std.proofs.Common.{◌≡◌, ℕ, ◌≤◌, List, length, inl, [], refl, sym, subst, arith}
use Rattle.mesa_disk.specs.Image.{Image}
use Rattle.mesa_disk.specs.declared.area.Area.TheVariants.{Zero}
use Rattle.mesa_recover.specs.mesa_journal.Journal.{IsJournal}
use Rattle.mesa_model.specs.declared.commands.Script.{Script}
use Rattle.mesa_session.specs.mesa_history_spec.Run.{nothing_there}
use Rattle.mesa_session.specs.mesa_history_spec.Rows.{no_rows}
use Rattle.mesa_engine.specs.mesa_store_spec.Catalog.{empty_catalog}
use Rattle.mesa_engine.specs.mesa_store_spec.Contents.{kept_of}
use Rattle.mesa_engine.specs.mesa_store_spec.Fitting.{catalog_from}
use Rattle.mesa_engine.specs.mesa_store_spec.Sound.{IsSoundAs, StandsFor}
use Rattle.mesa_shell.specs.Life.{kept_at_first}
use Rattle.mesa_shell.specs.StoreStart.{start_of}

pub empty_start : (script : Script) → start_of script empty_catalog no_rows ≡ nothing_there script
unfolding kept_of
empty_start script = refl

whole : (area : List ℕ) → area ≡ [] → IsJournal area [] 0
whole area is = inl (record { short = subst (λ (bytes : List ℕ). length bytes ≤ 1) (sym is) (omega arith); none = refl; ends = refl })

pub empty_sound : (image : Image) → image.zero ≡ [] → image.one ≡ [] → IsSoundAs image [] empty_catalog no_rows
unfolding catalog_from
empty_sound image zero one = record {
  live = Zero;
  end = 0;
  journal = record { whole = whole image.zero zero; behind = record { others = []; end = 0; whole = whole image.one one; leads = omega arith } };
  records = refl;
  files = tt;
  rows_are = tt;
}

pub empty_stands : (image : Image) → image.zero ≡ [] → image.one ≡ [] → StandsFor image kept_at_first
unfolding kept_of
empty_stands image zero one = record { bodies = []; catalogue = empty_catalog; rows = no_rows; is = empty_sound image zero one; same = refl }
