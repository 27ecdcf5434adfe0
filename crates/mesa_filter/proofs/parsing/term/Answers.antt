use Rattle.std.proofs.Common.{◌∙◌, ap, sym, length, map}
use Rattle.std.proofs.lemmas.List.{take_rest}
use Rattle.mesa_fold.specs.mesa_columns.declared.columns.KeyColumn.{KeyColumn}
use Rattle.std.specs.Prelude.{slice_get}
use Rattle.mesa_fold.specs.mesa_columns.Numbers.{key_value_of}
use Rattle.mesa_fold.specs.mesa_columns.Columns.{place_of}
use Rattle.mesa_filter.specs.Filter.{each_some}
use Rattle.mesa_filter.proofs.Forms.{bad_literal, kind_there, no_column, spelled, well_formed}
use Rattle.mesa_filter.proofs.parsing.term.Goals as goal

pub returns-in_default-place_of-clause-refused : goal.returns-in_default-place_of-clause-refused
returns-in_default-place_of-clause-refused c _ =
    let name = c.front_name-name.result.now in
    no_column c.args.schema.now c.args.number c.args.bytes.now name c.in-Some.comparison c.in-Some-2.texts c.if-number-gt-MAX_TERMS.false
    (spelled c.args.bytes.now name _ c.in-Some.rest.now c.in-Some.comparison _ c.front_name-name.ensures.name (take_rest c.args.bytes.now (length name)) (sym c.if-is_empty.ensures) c.in-Some.ensures (sym c.in-Some-2.is ∙ c.in_ok-texts.ensures))
    (ap (λ columns. place_of name (map (λ (c : KeyColumn). c.name) columns)) (sym c.keys-columns.ensures.same) ∙ sym c.place_of.ensures.place ∙ c.in_default-place_of.is)

pub returns-in_default-3-clause-refused : goal.returns-in_default-3-clause-refused
returns-in_default-3-clause-refused c _ =
    let name = c.front_name-name.result.now in
    bad_literal c.args.schema.now c.args.number c.args.bytes.now name c.in-Some.comparison c.in-Some-2.texts c.in-Some-place_of.place c.index-columns-place.result.kind c.if-number-gt-MAX_TERMS.false
    (spelled c.args.bytes.now name _ c.in-Some.rest.now c.in-Some.comparison _ c.front_name-name.ensures.name (take_rest c.args.bytes.now (length name)) (sym c.if-is_empty.ensures) c.in-Some.ensures (sym c.in-Some-2.is ∙ c.in_ok-texts.ensures))
    (ap (λ columns. place_of name (map (λ (c : KeyColumn). c.name) columns)) (sym c.keys-columns.ensures.same) ∙ sym c.place_of.ensures.place ∙ c.in-Some-place_of.is)
    (ap (λ columns. slice_get (map (λ (c : KeyColumn). c.kind) columns) c.in-Some-place_of.place) (sym c.keys-columns.ensures.same) ∙ kind_there c.keys-columns.result.now c.in-Some-place_of.place c.index-columns-place.result c.in-Some-place_of.ensures.within c.index-columns-place.is)
    (ap (each_some (key_value_of c.index-columns-place.result.kind)) (sym c.as_slice.ensures) ∙ sym c.in_ok-literals.ensures ∙ c.in_default-3.is)

pub returns-clause-read : goal.returns-clause-read
returns-clause-read c =
    let name = c.front_name-name.result.now in
    well_formed c.args.schema.now c.args.number c.args.bytes.now name c.in-Some.comparison c.in-Some-2.texts c.in-Some-place_of.place c.index-columns-place.result.kind c.in-Some-3.literals c.if-number-gt-MAX_TERMS.false
    (spelled c.args.bytes.now name _ c.in-Some.rest.now c.in-Some.comparison _ c.front_name-name.ensures.name (take_rest c.args.bytes.now (length name)) (sym c.if-is_empty.ensures) c.in-Some.ensures (sym c.in-Some-2.is ∙ c.in_ok-texts.ensures))
    (ap (λ columns. place_of name (map (λ (c : KeyColumn). c.name) columns)) (sym c.keys-columns.ensures.same) ∙ sym c.place_of.ensures.place ∙ c.in-Some-place_of.is)
    (ap (λ columns. slice_get (map (λ (c : KeyColumn). c.kind) columns) c.in-Some-place_of.place) (sym c.keys-columns.ensures.same) ∙ kind_there c.keys-columns.result.now c.in-Some-place_of.place c.index-columns-place.result c.in-Some-place_of.ensures.within c.index-columns-place.is)
    (ap (each_some (key_value_of c.index-columns-place.result.kind)) (sym c.as_slice.ensures) ∙ sym c.in_ok-literals.ensures ∙ c.in-Some-3.is)
