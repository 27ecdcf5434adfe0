-- What a read gives, and what a crash may leave, of a vault's catalogue.
use Rattle.std.proofs.Common.{◌≡◌, inr, ℕ, ◌<◌, List, refl, sym, ◌∙◌, subst, Some}
use Rattle.mesa_disk.specs.Image.{Image}
use Rattle.mesa_disk.specs.Story.{Story, Unmoved}
use Rattle.mesa_disk.specs.declared.area.Area.{Area}
use Rattle.mesa_commit.specs.Images.{Has}
use Rattle.mesa_catalog.specs.mesa_store_spec.Catalog.{Catalog}
use Rattle.mesa_catalog.specs.mesa_store_spec.Contents.{kept_of}
use Rattle.mesa_catalog.specs.mesa_store_spec.Fitting.{live_files}
use Rattle.mesa_catalog.specs.mesa_store_spec.Held.{IsHeld}
use Rattle.mesa_catalog.specs.mesa_store_spec.Sound.{StandsFor, wants}
use Rattle.mesa_invariant_spec.specs.mesa_history_spec.Rows.{Rows}
use Rattle.mesa_invariant_spec.specs.Invariant.{AllStand}
use Rattle.mesa_engine.specs.EngineState.{EngineState}
use Rattle.mesa_engine.specs.Vault.{IsReady, AreThere}

-- each image stands for the catalogue with its rows
pub held_stand : (story : Story) (area : Area) (bodies : List (List ℕ)) (end : ℕ) (c : Catalog) (rows : Rows) → IsHeld story area bodies end c rows → AllStand StandsFor story (kept_of rows c)
held_stand story area bodies end c rows is i left =
    let shows = is.stands.left i left in
    record { bodies = bodies; catalogue = c; rows = rows; is = record { live = area; end = end; journal = record { whole = inr shows.journal; behind = shows.behind }; records = is.records; files = shows.has; rows_are = is.sound_rows }; same = refl }

-- a read gives its files
pub held_there : (story : Story) (area : Area) (bodies : List (List ℕ)) (end : ℕ) (c : Catalog) (rows : Rows) → IsHeld story area bodies end c rows → (i : Image) → story.told ≡ Some i → Has (wants rows (live_files c)) i
held_there story area bodies end c rows is i told = (is.stands.read i told).has

-- ---- calls that move no image

module _ (story new : Story) (same : Unmoved story new) where
  pub held_unmoved : (area : Area) (bodies : List (List ℕ)) (end : ℕ) (c : Catalog) (rows : Rows) → IsHeld story area bodies end c rows → IsHeld new area bodies end c rows
  held_unmoved area bodies end c rows is = record {
    bytes = is.bytes;
    records = is.records;
    sound_rows = is.sound_rows;
    stands = record { read = λ i told. is.stands.read i (sym same.told ∙ told); left = λ i left. is.stands.left i ((same.may_leave i).0 left) };
  }

  pub ready_unmoved : (l : EngineState) → IsReady l story → IsReady l new
  ready_unmoved l is = record {
    long = subst (λ n. l.end < n) (sym (same.len l.area)) is.long;
    fresh = λ i told. is.fresh i (sym same.told ∙ told);
    strays = λ i told. is.strays i (sym same.told ∙ told);
  }

  pub there_unmoved : (rows : Rows) (seen : ℕ → Catalog) (l : EngineState) → AreThere rows seen l story → AreThere rows seen l new
  there_unmoved rows seen l is i told = is i (sym same.told ∙ told)
