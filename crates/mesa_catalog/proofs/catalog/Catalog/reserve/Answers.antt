use Rattle.std.proofs.Common.{◌≡◌, ◌∙◌, ap, sym, subst, true}
use Rattle.mesa_catalog_records.specs.mesa_store_spec.Catalog.{Catalog}
use Rattle.mesa_catalog_records.specs.mesa_store_spec.Fitting.{fits, kind_fits}
use Rattle.mesa_catalog.specs.Kept.{Reserved}
use Rattle.mesa_catalog_records.proofs.Applies.{kind_of_fits}
use Rattle.mesa_catalog.proofs.Keeping.{kept_roomier}
use Rattle.mesa_catalog.proofs.catalog.Catalog.reserve.Goals as goal

pub make_ready-requires-clause-fits : goal.make_ready-requires-clause-fits
make_ready-requires-clause-fits c =
    let same = c.in_ok-make_room.ensures.same ∙ ap (λ (k : Reserved). k.catalogue) c.self.view_is in
    subst (λ (k : Catalog). kind_fits k c.args.r.now ≡ true) (sym same) (kind_of_fits c.args.self.now.catalogue c.args.r.now c.requires)

pub invariant_of-self : goal.invariant_of-self
invariant_of-self c = kept_roomier c.self.inside.catalog_tables c.make_room.new.catalog_tables c.self.inside.ready c.self.inside.greatest c.make_room.ensures.same c.make_room.ensures.live_files c.make_room.ensures.kept c.self.invariant

pub invariant_of-self-in_err-ready : goal.invariant_of-self-in_err-ready
invariant_of-self-in_err-ready c = kept_roomier c.self.inside.catalog_tables c.make_room.new.catalog_tables c.self.inside.ready c.self.inside.greatest c.make_room.ensures.same c.make_room.ensures.live_files c.make_room.ensures.kept c.self.invariant

pub invariant_of-self-2 : goal.invariant_of-self-2
invariant_of-self-2 c =
    let kept = kept_roomier c.self.inside.catalog_tables c.make_room.new.catalog_tables c.self.inside.ready c.self.inside.greatest c.make_room.ensures.same c.make_room.ensures.live_files c.make_room.ensures.kept c.self.invariant in
    let same = c.make_room.ensures.same ∙ ap (λ (k : Reserved). k.catalogue) c.self.view_is in
    record {
      catalog_tables = kept.catalog_tables;
      ready = record {
        fits = (λ i. fits (same i) (c.in_ok-ready.ensures.record i)) ∙ c.requires;
        room = c.in_ok-make_room.ensures.room;
        made = c.in_ok-ready.ensures.made;
      };
      once = kept.once;
      most = kept.most;
    }
