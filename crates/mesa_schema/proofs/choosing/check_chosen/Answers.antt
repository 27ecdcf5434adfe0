use Rattle.std.proofs.Common.{◌∙◌, ap, sym, true, false, map}
use Rattle.std.specs.Prelude.{is_some}
use Rattle.std.proofs.lemmas.List.{map-id}
use Rattle.mesa_columns.specs.Names.{repeated}
use Rattle.mesa_schema.proofs.Choices.{choice_left}
use Rattle.mesa_schema.proofs.choosing.check_chosen.Goals as goal

pub returns-then-is_some : goal.returns-then-is_some
returns-then-is_some g c =
    sym (choice_left (map g.C.Named.name_of c.args.columns.now) c.args.none c.args.names.now true (sym c.has_names.ensures ∙ c.if-not-has_names.false) (sym c.if-is_empty.ensures) (ap (λ names. is_some (repeated names)) (sym (map-id c.args.names.now)) ∙ sym c.repeated_place.ensures.found ∙ sym c.if-is_some.ensures))

pub returns : goal.returns
returns g c =
    sym (choice_left (map g.C.Named.name_of c.args.columns.now) c.args.none c.args.names.now false (sym c.has_names.ensures ∙ c.if-not-has_names.false) (sym c.if-is_empty.ensures) (ap (λ names. is_some (repeated names)) (sym (map-id c.args.names.now)) ∙ sym c.repeated_place.ensures.found ∙ sym c.if-is_some.ensures))
