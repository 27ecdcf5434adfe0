use Rattle.std.proofs.Common.{◌≡◌, ◌≤◌, [], true, false, sym, ap, subst, arith}
use Rattle.std.specs.List.{AllByRecursion}
use Rattle.mesa_engine.specs.Memory.{Memory}
use Rattle.mesa_invariant_spec.specs.mesa_history_spec.Rows.{no_rows}
use Rattle.mesa_model.specs.declared.entries.Entry.{Entry}
use Rattle.mesa_engine.specs.Vault.{Starts, IsVault, outset_of}
use Rattle.mesa_invariant_spec.specs.Undamaged.{NoneDamaged}
use Rattle.mesa_engine.specs.Engine.{starts_of}
use Rattle.mesa_engine.proofs.Beginning.{begun_vault}
use Rattle.mesa_engine.proofs.engine.Engine.start.Goals as goal

pub invariant_of-result : goal.invariant_of-result
invariant_of-result g c =
    let N = g.N.Naming in
    let n : Starts = starts_of N.script N.start N.sound N.origin N.since N.counted N.at_start in
    let a = c.args in
    let story = g.D.Disk.story a.disk in
    let held = g.K.Sink.held a.sink in
    record {
      vault = λ w b is.
          subst (λ h. IsVault (outset_of n w) (n.origin w) b c.new.result.state story held h true false) (sym c.requires.empty)
          (subst (λ (m : Memory). IsVault (outset_of n w) (n.origin w) b m.state story held [] true false) (sym c.new.ensures)
          (begun_vault n w b a.catalog.catalogue a.area a.end a.lease story held (c.requires.begun w b is)));
      room = c.requires.room;
      few = c.requires.few;
      leased = let none = ap (λ (m : Memory). m.leased) c.new.ensures in omega (arith, none);
      begun = subst (AllByRecursion (λ (e : Entry). n.since ≤ e.moment)) (sym c.requires.empty) tt;
      failed = λ is. absurd (let never : false ≡ true = is in cc);
      whole = λ is. c.requires.faults;
      first = λ empty. (c.requires.begun no_rows false (λ is. absurd cc)).sink;
      undamaged = λ w sound. subst NoneDamaged (sym c.requires.empty) tt;
    }
