use Rattle.std.proofs.Common.{◌≡◌, ◌≢◌, ◌∙◌, sym, ap, subst, map, Err}
use Rattle.std.specs.Prelude.{IfErr}
use Rattle.mesa_list.specs.Bytes.{same_bytes}
use Rattle.mesa_list.specs.Split.{split_at}
use Rattle.mesa_fold.specs.mesa_columns.declared.columns.KeyColumn.{KeyColumn}
use Rattle.mesa_filter.specs.declared.words.QueryError.TheVariants.{Memory}
use Rattle.mesa_filter.specs.Asked.{places_of}
use Rattle.mesa_filter.proofs.PlacesAsked.{group_named}
use Rattle.mesa_filter.proofs.places.group_places.Goals as goal

pub returns-clause-refused : goal.returns-clause-refused
returns-clause-refused c =
    let asked = group_named c.args.schema.now c.args.words.now (sym c.is_empty.ensures ∙ c.if-is_empty.false) (ap (same_bytes c.args.words.now) (sym c.as_slice.ensures) ∙ sym c.eq.ensures ∙ c.if-eq.false) in
    let same = ap (λ columns. places_of (map (λ (k : KeyColumn). k.name) columns) (split_at 59 c.args.words.now)) c.keys-columns.ensures.same ∙ sym asked in
    subst (λ r. IfErr c.named_places.result (λ e. e ≢ Memory → r ≡ Err e)) same c.named_places.ensures.refused
