-- An engine before its first turn.
use Rattle.std.proofs.Common.{◌≡◌, ℕ, List, [], Bool, true, false, sym, ap, subst, Option}
use Rattle.mesa_disk.specs.Story.{Story}
use Rattle.mesa_disk.specs.declared.area.Area.{Area}
use Rattle.mesa_catalog.specs.mesa_store_spec.Catalog.{Catalog}
use Rattle.mesa_lease.specs.Book.{Book}
use Rattle.mesa_invariant_spec.specs.mesa_history_spec.Rows.{Rows}
use Rattle.mesa_invariant_spec.specs.Books.{AreBooksOf}
use Rattle.mesa_invariant_spec.proofs.Beginning.{started}
use Rattle.mesa_engine.specs.EngineState.{books_of}
use Rattle.mesa_engine.specs.Vault.{Starts, IsVault, outset_of}
use Rattle.mesa_engine.proofs.BeforeTurns.{first_state, started_vault}
use Rattle.mesa_engine.specs.Memory.{opened_state}
use Rattle.mesa_engine.specs.Beginning.{IsBegun}

module _ (n : Starts) (w : Rows) (sound : Bool) (c : Catalog) (area : Area) (end turns : ℕ) (story : Story) (held : Option (List ℕ)) (is : IsBegun n w sound c area end turns story held) where
  state_is : first_state (outset_of n w) c (n.origin w).generation area end ≡ opened_state c area end turns
  state_is = λ i. record (opened_state c area end turns) { generation = is.generation i; leases = is.leases i }

  pub begun_vault : IsVault (outset_of n w) (n.origin w) sound (opened_state c area end turns) story held [] true false
  begun_vault =
      subst (λ l. IsVault (outset_of n w) (n.origin w) sound l story held [] true false) state_is
      (started_vault (outset_of n w) (n.origin w) sound c area end story held w is.bodies
      (started (outset_of n w) sound (books_of w (first_state (outset_of n w) c (n.origin w).generation area end)) story held
      (subst (λ l. AreBooksOf sound (books_of w l) (n.start w)) (sym state_is) is.state) is.since is.counted is.found is.sink)
      (sym is.run) is.ranges (ap (λ (b : Book). b.granted) is.leases) is.holds is.shaped is.own is.columns is.recordable is.named_given (record { long = is.ready.long; fresh = is.ready.fresh; strays = is.ready.strays }) is.sound_rows is.sourced is.read)
