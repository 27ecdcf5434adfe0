-- What a vault stands for doesn't change with the rows of files that are to come.
use Rattle.std.proofs.Common.{◌≡◌, ℕ, ◌<◌, ◌≤◌, List, [], ◌∷◌, map, length, Bool, arith, refl, Option}
use Rattle.std.specs.List.{AllByRecursion}
use Rattle.mesa_disk.specs.Story.{Story}
use Rattle.mesa_model.specs.declared.entries.Entry.{Entry}
use Rattle.mesa_model.specs.Pins.{store_at}
use Rattle.mesa_catalog.specs.mesa_store_spec.Contents.{kept_of}
use Rattle.mesa_catalog.specs.mesa_store_spec.Fitting.{live_files}
use Rattle.mesa_catalog.proofs.mesa_store_spec.Agreeing.{Agrees, agree_kept}
use Rattle.mesa_catalog.specs.mesa_store_spec.Ids.{named}
use Rattle.mesa_invariant_spec.specs.mesa_history_spec.Rows.{Rows}
use Rattle.mesa_commit.specs.Holding.{Held, IsHoldOf}
use Rattle.mesa_invariant_spec.specs.Invariant.{Outset}
use Rattle.mesa_engine.specs.EngineState.{HeldPin, EngineState, held_with, next_id, Holder, holders, ids_held}
use Rattle.mesa_engine.specs.Vault.{Origin, IsVault}
use Rattle.mesa_engine.proofs.Filing.{old_agree}
use Rattle.mesa_engine.proofs.Holding.{pins_of}
use Rattle.mesa_engine.proofs.Lists.{all_also, map_all}

same_held : (rows later : Rows) (pins : List HeldPin) → AllByRecursion (λ (p : HeldPin). kept_of later p.copy ≡ kept_of rows p.copy) pins → map (held_with later) pins ≡ map (held_with rows) pins
same_held rows later [] all = refl
same_held rows later (p ∷ pins) all = λ i. record { session = p.session; token = p.token; version = p.version; store = store_at (all.0 i).store p.version } ∷ same_held rows later pins all.1 i

module _ (o : Outset) (g : Origin) (sound : Bool) (l : EngineState) (story : Story) (held : Option (List ℕ)) (h : List Entry) (running refused : Bool) (v : IsVault o g sound l story held h running refused)
    (later : Rows) (agree : (id : ℕ) → id < next_id l → later id ≡ v.rows id) where
  -- the files that the catalogue names have the same rows
  pub named_agree : AllByRecursion (Agrees v.rows later) (live_files l.catalogue)
  named_agree = old_agree v.rows later (next_id l) (next_id l) agree l.catalogue v.filed.named_given

  pub same_kept : kept_of later l.catalogue ≡ kept_of v.rows l.catalogue
  same_kept = agree_kept v.rows later l.catalogue named_agree

  -- and so have those of each hold
  held_agree : AllByRecursion (λ (x : Holder). kept_of later x.1 ≡ kept_of v.rows x.1) (holders v.seen l)
  held_agree = all_also (λ x. IsHoldOf (named l.catalogue) l.trash (ids_held x).0 (ids_held x).1) (λ x. ((ids_held x).0.at < length h) × ((ids_held x).0.next ≤ next_id l)) (λ (x : Holder). kept_of later x.1 ≡ kept_of v.rows x.1) (holders v.seen l)
      (λ x is low. agree_kept v.rows later x.1 (old_agree v.rows later (next_id l) (next_id l) agree x.1 (λ id named. (let a = is.given id named in let b = low.1 in let lt : id < next_id l = omega (arith, a, b) in lt))))
      (map_all (λ (p : Held). IsHoldOf (named l.catalogue) l.trash p.0 p.1) ids_held (holders v.seen l) v.filed.held) (map_all (λ (p : Held). (p.0.at < length h) × (p.0.next ≤ next_id l)) ids_held (holders v.seen l) v.filed.before)

  pub same_pins : map (held_with later) l.pins ≡ map (held_with v.rows) l.pins
  same_pins = same_held v.rows later l.pins (pins_of (λ (x : Holder). kept_of later x.1 ≡ kept_of v.rows x.1) v.seen l held_agree)
