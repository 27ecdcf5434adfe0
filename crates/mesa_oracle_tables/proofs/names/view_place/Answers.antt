use Rattle.std.proofs.Common.{◌∙◌, ap, sym}
use Rattle.mesa_list.specs.Bytes.{same_bytes}
use Rattle.mesa_oracle_tables.proofs.Relations.{view_behind, view_here}
use Rattle.mesa_oracle_tables.proofs.names.view_place.Goals as goal

pub returns-then-eq-clause-place : goal.returns-then-eq-clause-place
returns-then-eq-clause-place c = view_here c.args.name.now c.args.evolving.now.views c.views.view c.view_name.result.now c.view_name.ensures (sym (c.if-eq.ensures ∙ ap (same_bytes c.args.name.now) c.bytes.ensures.same)) c.views.invariant.place

pub views-preserved : goal.views-preserved
views-preserved c = record { place = view_behind c.args.name.now c.args.evolving.now.views c.views.view c.view_name.result.now c.view_name.ensures (sym (c.if-eq.ensures ∙ ap (same_bytes c.args.name.now) c.bytes.ensures.same)) c.views.invariant.place }
