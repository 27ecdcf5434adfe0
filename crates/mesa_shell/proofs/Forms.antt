-- What the top call ends with, by the form of its words.
use Rattle.std.proofs.Common.{◌≡◌, ℕ, List, inl, subst, Option, Some}
use Rattle.mesa_parse.specs.declared.forms.Form.{Form}
use Rattle.mesa_parse.specs.declared.forms.Form.TheVariants as form
use Rattle.mesa_model.specs.declared.commands.Script.{Script}
use Rattle.mesa_session.specs.mesa_history_spec.Rows.{Rows}
use Rattle.mesa_engine.specs.mesa_store_spec.Catalog.{Catalog}
use Rattle.mesa_recover.specs.Opening.{IsSoundStart}
use Rattle.mesa_shell.specs.Ports.{Ports}
use Rattle.mesa_shell.specs.Completing.{AsksFor, Completes, Decides, HasRoomToRun, IsUndamaged, NoneRose, NothingFailed}
use Rattle.mesa_shell.specs.Exit.{Ends, EndsForm}
use Rattle.mesa_shell.specs.Statuses.{Tells}
use Rattle.mesa_shell.specs.declared.done.Devices.{Devices}
use Rattle.mesa_shell.specs.declared.done.Done.{Done}
use Rattle.mesa_shell.proofs.Checked.{decides, looks}
use Rattle.mesa_shell.proofs.Completing.{completes}
use Rattle.mesa_shell.proofs.StatusTells.{all_tells}

module _ {K D M B : Type 0} (ports : Ports K D M B) (given : Devices K D B) (done : Done K D B) (asked : Option Form) (input : Option (List ℕ)) (before now : ℕ) where
  -- how it ends, what its status tells, and what it comes to where nothing failed
  pub record IsAnswered : Type 0 where
    pub ends : Ends ports given done asked input before now
    pub tells : Tells ports given done asked input before now
    pub completes : (script : Script) (c : Catalog) (rows : Rows) → AsksFor asked input script → HasRoomToRun ports given c rows → NothingFailed ports given done before now → Completes done
    pub looks : (name : List ℕ) (c : Catalog) (rows : Rows) → asked ≡ Some (form.Digest name) → IsSoundStart (ports.story given.disk) c rows → NoneRose ports given done → Decides done
    pub decides : asked ≡ Some form.Check → IsUndamaged (ports.story given.disk) → NoneRose ports given done → Decides done

  pub answered : Ends ports given done asked input before now → IsAnswered
  answered ends = record {
    ends = ends;
    tells = all_tells ports given done input before now asked ends;
    completes = λ script c rows asks room nothing. completes ports given done before now nothing c rows room asked input script asks ends;
    looks = λ name c rows is sound none. looks ports given done none name c rows input before now sound (subst (λ (a : Option Form). Ends ports given done a input before now) is ends);
    decides = λ is whole none. decides ports given done none input before now whole (subst (λ (a : Option Form). Ends ports given done a input before now) is ends);
  }

  -- of words of this form
  pub answered_as : (f : Option Form) → f ≡ asked → EndsForm ports given done f input before now → IsAnswered
  answered_as f is ends = answered (inl (subst (λ a. EndsForm ports given done a input before now) is ends))
