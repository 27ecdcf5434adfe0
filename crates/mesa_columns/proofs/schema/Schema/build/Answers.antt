use Rattle.std.proofs.Common.{◌∙◌, sym, ap, None, Some, arith}
use Rattle.std.specs.Prelude.{is_ok}
use Rattle.mesa_columns.proofs.SchemaRules.{decided, named_there}
use Rattle.mesa_columns.proofs.schema.Schema.build.Goals as goal

pub returns-in-Some-repeated_place-clause-refused : goal.returns-in-Some-repeated_place-clause-refused
returns-in-Some-repeated_place-clause-refused c =
    let found = named_there _ _ _ _ _ c.deref-2.ensures.value c.in-Some-repeated_place.ensures.place c.swap_remove-name-in-Some-repeated_place.ensures.value in
    decided _ _ _ _ _ _ (Some c.swap_remove-name-in-Some-repeated_place.result.name) c.deref.ensures.value c.deref-2.ensures.value c.deref.ensures.len c.deref-2.ensures.len
    c.if-is_empty.ensures c.if-is_empty-2.ensures (omega arith) (omega arith) c.in_default.ensures.name (sym found ∙ c.in-Some-repeated_place.ensures.name)

pub invariant_of-result : goal.invariant_of-result
invariant_of-result c =
    ap is_ok (decided _ _ _ _ _ _ None (c.deref.ensures.value ∙ sym c.from_vec.ensures) (c.deref-2.ensures.value ∙ sym c.from_vec-2.ensures) c.deref.ensures.len c.deref-2.ensures.len
    c.if-is_empty.ensures c.if-is_empty-2.ensures (omega arith) (omega arith) c.in_default.ensures.name c.in_default-repeated_place.ensures.name)

pub returns-clause-allowed : goal.returns-clause-allowed
returns-clause-allowed c =
    ap is_ok (decided _ _ _ _ _ _ None c.deref.ensures.value c.deref-2.ensures.value c.deref.ensures.len c.deref-2.ensures.len
    c.if-is_empty.ensures c.if-is_empty-2.ensures (omega arith) (omega arith) c.in_default.ensures.name c.in_default-repeated_place.ensures.name)
