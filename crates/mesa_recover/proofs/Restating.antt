-- A catalogue that is stated anew.
use Rattle.std.proofs.Common.{◌≡◌, ℕ, ◌+◌, ◌^◌, ◌<◌, List, [], ◌∷◌, Option, Some, None, sym, ◌∙◌, ap, subst, arith, true}
use Rattle.std.specs.Prelude.{◌≢◌, ◌↔◌, IfSome}
use Rattle.std.specs.List.{AllByRecursion}
use Rattle.mesa_store.specs.mesa_key.Spelling.{AreBytes}
use Rattle.mesa_disk.specs.declared.area.Area.{Area}
use Rattle.mesa_disk.specs.declared.area.Area.TheVariants.{Zero, One}
use Rattle.mesa_disk.specs.Story.{Story}
use Rattle.mesa_journal.specs.Areas.{Leads, number_of, other_of}
use Rattle.mesa_record.specs.declared.record.Record.TheVariants as record_of
use Rattle.mesa_record.specs.Rules.{keeps_rules}
use Rattle.mesa_store_spec.specs.Catalog.{Catalog}
use Rattle.mesa_store_spec.specs.Checkpoint.{checkpoint_body, checkpoint_of}
use Rattle.mesa_store_spec.specs.Contents.{Rows}
use Rattle.mesa_store_spec.specs.Journaled.{catalog}
use Rattle.mesa_store_spec.proofs.Recordable.{checkpoint_recordable}
use Rattle.mesa_store_spec.proofs.Numbering.{carries_on}
use Rattle.mesa_store_spec.proofs.Wholes.{catalog_whole}
use Rattle.mesa_store.specs.Store.{IsFound, StatesIfAny, area_after}
use Rattle.mesa_recover.specs.Anew.{IsStatedAnew, StatesAnewBy}

-- the checkpoint of a store's catalogue is a record
pub checkpoint_ruled : (area : Area) (bodies : List (List ℕ)) (c : Catalog) (number : ℕ) → AllByRecursion AreBytes bodies → catalog area bodies ≡ Some c → number < 2 ^ 32 → keeps_rules (record_of.Checkpoint (checkpoint_of number c)) ≡ true
checkpoint_ruled area bodies c number bytes is small =
    let whole = catalog_whole area bodies c bytes is in
    (checkpoint_recordable c number small whole.shaped whole.statable whole.counted whole.recordable).rules

-- what is written states the catalogue as the first of the other area
pub states_anew : (story : Story) (area : Area) (bodies : List (List ℕ)) (end number : ℕ) (c : Catalog) (rows : Rows) (checkpoint : Option (List ℕ)) → number ≡ number_of bodies
    → IfSome checkpoint AreBytes → IsFound story area bodies end c rows → StatesAnewBy end number c checkpoint → StatesIfAny area bodies c checkpoint
states_anew story area bodies end number c rows None numbered bytes found anew = tt
states_anew story area bodies end number c rows (Some body) numbered bytes found anew =
    let few = anew.0.few in
    let small : number_of bodies + 1 < 2 ^ 32 = omega (arith, few, numbered) in
    let on = carries_on area bodies c found.bytes found.records small in
    let is = anew.1 ∙ ap (λ n. checkpoint_body (checkpoint_of (n + 1) c)) numbered in
    record {
      bytes = bytes;
      states = subst (λ b. catalog (other_of area) (b ∷ []) ≡ Some c) (sym is) on.0;
      leads = subst (λ b. Leads (other_of area) (b ∷ []) bodies) (sym is) on.1;
    }

others_differ : (area : Area) → other_of area ≡ area → ⊥
others_differ Zero e = cc
others_differ One e = cc

-- the store goes on in the other area just where its catalogue is stated anew
pub moves : (area gone : Area) (end number : ℕ) (c : Catalog) (checkpoint : Option (List ℕ)) → gone ≡ area_after area checkpoint → StatesAnewBy end number c checkpoint → (gone ≢ area) ↔ IsStatedAnew end number c
moves area gone end number c None same never = (λ other. absurd (other same), λ is. absurd (never is))
moves area gone end number c (Some body) same anew = (λ other. anew.0, λ is e. others_differ area (sym same ∙ e))
