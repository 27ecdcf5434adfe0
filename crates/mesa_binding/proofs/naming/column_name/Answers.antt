use Rattle.std.proofs.Common.{◌≡◌, ◌∙◌, ap, sym, map, false}
use Rattle.std.specs.Prelude.{is_some}
use Rattle.mesa_list.specs.Bytes.{same_bytes}
use Rattle.mesa_list.specs.Checks.{refuse_unless}
use Rattle.mesa_model.specs.mesa_columns.Names.{has_name}
use Rattle.mesa_model.proofs.mesa_columns.Maps.{is_some_position}
use Rattle.mesa_model.specs.declared.replies.Refusal.TheVariants as no
use Rattle.mesa_binding.proofs.Namings.{column_named}
use Rattle.mesa_binding.proofs.naming.column_name.Goals as goal

pub returns-in_default-clause-refused : goal.returns-in_default-clause-refused
returns-in_default-clause-refused g c =
    let names = map g.C.Named.name_of c.args.columns.now in
    let word = c.args.bytes.now in
    let missing : has_name word names ≡ false = sym (is_some_position (same_bytes word) names) ∙ ap is_some (sym c.place_of.ensures.place ∙ c.in_default.is) in
    ap (λ there. refuse_unless there no.NoColumn) missing

pub returns-clause-read : goal.returns-clause-read
returns-clause-read g c =
    let columns = c.args.columns.now in
    let found = sym c.place_of.ensures.place ∙ c.in-Some.is in
    c.in_ok-copy.ensures ∙ c.name.ensures ∙ column_named g.C.Named.name_of columns c.args.bytes.now c.in-Some.place c.index-columns-place.result found c.index-columns-place.is
