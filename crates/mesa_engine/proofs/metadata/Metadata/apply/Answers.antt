use Rattle.std.proofs.Common.{◌≡◌, ◌<◌, ◌^◌, ℕ, true, arith, subst, sym, Option, None, Some, IsTrue}
use Rattle.std.specs.Prelude.{IfSome, option_map}
use Rattle.mesa_record.specs.declared.record.Record.{Record}
use Rattle.mesa_catalog.specs.mesa_store_spec.Catalog.{Catalog}
use Rattle.mesa_catalog.specs.mesa_store_spec.Fitting.{fits}
use Rattle.mesa_engine.specs.Meaning.{readied}
use Rattle.mesa_engine.specs.Memory.{HasRoomFor, Memory}
use Rattle.mesa_engine.proofs.Runs.{run_stays}
use Rattle.mesa_engine.proofs.metadata.Metadata.apply.Goals as goal

-- the record for which there is room is the one that is reserved for, and it fits
fits_there : (c : Catalog) (o : Option Record) (room n : ℕ) (r : Record) → HasRoomFor r n (option_map (readied room) o) → IfSome o (λ q. IsTrue (fits c q)) → fits c r ≡ true
fits_there c None room n r has fitting = absurd has
fits_there c (Some q) room n r has fitting = subst (λ q. fits c q ≡ true) has.0 fitting

pub invariant_of-self : goal.invariant_of-self
invariant_of-self c =
    let m = c.self.inside in
    let room = subst (λ (k : Memory). HasRoomFor c.args.r 0 k.reserved) (sym c.self.view_is) c.requires.room in
    let fitting = fits_there m.catalog.catalogue m.catalog.reserved m.room 0 c.args.r room c.self.invariant.fitting in
    record {
      run = subst (λ (k : Catalog). k.run < 2 ^ 24) (sym c.apply.ensures.applied) (run_stays m.catalog.catalogue c.args.r fitting c.self.invariant.run);
      few = c.requires.few;
      fitting = subst (λ (o : Option Record). IfSome o (λ q. IsTrue (fits c.apply.new.self.catalogue q))) (sym c.apply.ensures.spent) tt;
      spare = (let ok = m.trash.ok in omega arith);
      indexed = c.self.invariant.indexed;
    }
