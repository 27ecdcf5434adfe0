use Rattle.std.proofs.Common.{◌∙◌, ap, sym, map, is_ok}
use Rattle.mesa_schema.specs.Changes.{Lineage}
use Rattle.mesa_schema.specs.Recasts.{recast_checked, recast_lineage}
use Rattle.mesa_catalog_table.specs.mesa_store_spec.Catalog.{recast_in}
use Rattle.mesa_table_records.specs.declared.ready.ReadyRecast.{ReadyRecast}
use Rattle.mesa_catalog_table.specs.Meaning.{widths_of}
use Rattle.mesa_table_records.specs.Readied.{IsRecast}
use Rattle.mesa_table_records.specs.Stated.{loaded_stated}
use Rattle.mesa_table_records.proofs.Recasted.{recast_told}
use Rattle.mesa_table_records.proofs.recasting.make_recast.Goals as goal

pub renew-requires : goal.renew-requires
renew-requires c = ap (λ (l : Lineage). is_ok (recast_checked l (recast_in c.args.k.now))) c.deref.ensures ∙ c.requires.checked

pub first_widths-requires : goal.first_widths-requires
first_widths-requires c = ap (λ (l : Lineage). l.changes) c.in_ok-evolving.ensures

pub returns-clause-record : goal.returns-clause-record
returns-clause-record c =
    let k = c.args.k.now in
    let t = c.args.t.now in
    let y : ReadyRecast = record { evolving = c.in_ok-shared.shared; widths = c.in_ok-widths.widths; totals = c.in_ok-totals.totals; base = c.in_ok-base.base; loaded = c.in_ok-loaded.loaded } in
    let made : IsRecast t.evolving.value t.totals y k = record {
      lineage = c.in_ok-shared.ensures ∙ c.in_ok-evolving.ensures ∙ ap (λ (l : Lineage). recast_lineage l (recast_in k)) c.deref.ensures;
      widths = c.in_ok-widths.ensures ∙ ap widths_of (sym c.in_ok-shared.ensures);
      totals_are = c.in_ok-totals.ensures;
      base = c.in_ok-base.ensures;
      loaded = c.in_ok-loaded.ensures ∙ ap (map loaded_stated) c.as_slice.ensures;
    } in
    recast_told t y k c.requires.checked c.requires.next made

pub returns-clause-made : goal.returns-clause-made
returns-clause-made c =
    let k = c.args.k.now in
    record {
      lineage = c.in_ok-shared.ensures ∙ c.in_ok-evolving.ensures ∙ ap (λ (l : Lineage). recast_lineage l (recast_in k)) c.deref.ensures;
      widths = c.in_ok-widths.ensures ∙ ap widths_of (sym c.in_ok-shared.ensures);
      totals_are = c.in_ok-totals.ensures;
      base = c.in_ok-base.ensures;
      loaded = c.in_ok-loaded.ensures ∙ ap (map loaded_stated) c.as_slice.ensures;
    }
