-- The life of a store: calls one after another, and crashes amid them.
use Rattle.std.specs.Prelude.{◌≡◌, ◌⊎◌, ◌<◌, ◌≤◌, ℕ, List, [], ◌∷◌, ◌++◌, Option, None, Some}
use Rattle.std.specs.List.{AllByRecursion}
use Rattle.mesa_disk.specs.Image.{Image}
use Rattle.mesa_model.specs.declared.commands.Script.{Script}
use Rattle.mesa_model.specs.declared.entries.Entry.{Entry}
use Rattle.mesa_session.specs.mesa_history_spec.Found.{Kept}
use Rattle.mesa_session.specs.mesa_history_spec.Law.{HoldsIn}
use Rattle.mesa_parse.specs.declared.forms.Form.{Form}
use Rattle.mesa_session.specs.mesa_invariant_spec.Invariant.{run_at}
use Rattle.mesa_shell.specs.Ports.{Ports}
use Rattle.mesa_shell.specs.StoreStart.{state_of}
use Rattle.mesa_shell.specs.Completing.{AsksFor}
use Rattle.mesa_shell.specs.Exit.{Ends}
use Rattle.mesa_shell.specs.Life.{Stretch, kept_after, kept_at_first, life_content, warehouse_of}
use Rattle.mesa_shell.specs.Next.{GoesOnAtRest, IsSoundWith}
use Rattle.mesa_shell.specs.declared.done.Devices.{Devices}
use Rattle.mesa_shell.specs.declared.done.Done.{Done}

-- A call in a store's life: its words and its input, what it was given and what it left, and the disk that the next call is given.
pub record Call (K D B : Type 0) : Type 0 where
  pub asked : Option Form
  pub input : Option (List ℕ)
  pub source_before : ℕ
  pub source_now : ℕ
  pub given : Devices K D B
  pub done : Done K D B
  pub next : D

-- the disk behind calls of which the first is given this one
unfoldable pub disk_after : {K D B : Type 0} → D → List (Call K D B) → D
disk_after disk [] = disk
disk_after disk (call ∷ calls) = disk_after call.next calls

module _ {K D M B : Type 0} (ports : Ports K D M B) where
  -- A crash at a moment of a call left an image, and the next call is given a disk that was opened from it: it tells that image, and a crash leaves no other of it.
  pub record HasCrashed (call : Call K D B) : Type 0 where
    pub moment : ℕ
    pub image : Image
    pub since : (ports.story call.given.disk).moment ≤ moment
    pub until : moment ≤ (ports.story call.done.disk).moment
    pub left : (ports.story call.done.disk).may_have_left moment image
    pub told : (ports.story call.next).told ≡ Some image
    pub only : (other : Image) → (ports.story call.next).may_leave other → other ≡ image

  -- A call that ended in one of the ways in which calls end, while the clock went on: it took no turn, or was asked for a run of a script, in which no fault closed the store. The next is given the disk that it left, or one that was opened after a crash amid it.
  pub record IsCall (call : Call K D B) : Type 0 where
    pub ends : Ends ports call.given call.done call.asked call.input call.source_before call.source_now
    pub goes : GoesOnAtRest ports call.given call.done
    pub asks : (call.done.history.items ≡ []) ⊎ ((script : Script) × AsksFor call.asked call.input script)
    pub unclosed : (script : Script) (kept : Kept) → AsksFor call.asked call.input script → (run_at script (state_of script kept) call.done.history.items).state.warehouse.closed ≡ None
    pub next : (call.next ≡ call.done.disk) ⊎ HasCrashed call

  -- Calls one after another, of which the first is given this disk.
  unfoldable pub AreCalls : D → List (Call K D B) → Type 0
  AreCalls disk [] = Unit {0}
  AreCalls disk (call ∷ calls) = (call.given.disk ≡ disk) × IsCall call × AreCalls call.next calls

  -- A run in the store's life is that of a call: it has all turns of the call, or where a crash came amid it a front of them, with every turn up to that moment.
  pub record IsStretch (call : Call K D B) (s : Stretch) : Type 0 where
    pub asks : AsksFor call.asked call.input s.script
    pub rest : List Entry
    pub split : call.done.history.items ≡ s.turns ++ rest
    pub has : (rest ≡ []) ⊎ ((crash : HasCrashed call) × AllByRecursion (λ (e : Entry). crash.moment < e.moment) rest)

  -- The runs in a store's life are those of these calls, in their order; a call that took no turn may have none.
  unfoldable pub AreRunsOf : List (Call K D B) → List Stretch → Type 0
  AreRunsOf [] life = life ≡ []
  AreRunsOf (call ∷ calls) life =
      ((call.done.history.items ≡ []) × AreRunsOf calls life)
      ⊎ ((s : Stretch) × (more : List Stretch) × (life ≡ s ∷ more) × IsStretch call s × AreRunsOf calls more)

  -- What a store has come to after calls: it is sound, and keeps what the runs of its life come to; so each content at a version that can be queried is the fold of all batches that these accepted through it, each carried to the present.
  pub record HasLived (calls : List (Call K D B)) (disk : D) : Type 0 where
    pub life : List Stretch
    pub runs : AreRunsOf calls life
    pub sound : IsSoundWith ports.bytes (ports.story disk) (kept_after kept_at_first life)
    pub holds : HoldsIn (life_content life) (warehouse_of (kept_after kept_at_first life))

  -- A life of calls and crashes that begins with an empty store is such a list of runs.
  abbrev pub LivesLaw : Type 0
  LivesLaw = (disk : D) (calls : List (Call K D B)) → IsSoundWith ports.bytes (ports.story disk) kept_at_first → AreCalls disk calls → HasLived calls (disk_after disk calls)
