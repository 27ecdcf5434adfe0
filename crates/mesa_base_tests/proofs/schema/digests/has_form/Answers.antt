use Rattle.std.proofs.Common.{◌≡◌, ℕ, List, length, ap, subst, arith, rules}
use Rattle.std.specs.List.{AllByRecursion}
use Rattle.mesa_value.specs.Agg.{IsNarrow}
use Rattle.mesa_key.specs.declared.KeyType.{KeyType}
use Rattle.mesa_key.specs.Spelling.{IsKey, key_of, key_spelling}
use Rattle.mesa_print.specs.mesa_columns.Columns.{aggs_of}
use Rattle.mesa_base_tests.proofs.Forms.{of_columns}
use Rattle.mesa_base_tests.proofs.schema.digests.has_form.Goals as goal

pub returns : goal.returns
returns c = λ is.
    let kinds = c.args.kinds.now in
    let row = c.args.row.now in
    record {
      key = subst (λ (ks : List KeyType). IsKey ks (key_of ks row.key)) c.requires (subst (λ (k : List ℕ). IsKey kinds (key_of kinds k)) c.as_slice-2.ensures (c.is_key.ensures.key is));
      spelled = subst (λ (ks : List KeyType). key_spelling (key_of ks row.key) ≡ row.key) c.requires (subst (λ (k : List ℕ). key_spelling (key_of kinds k) ≡ k) c.as_slice-2.ensures (c.is_key.ensures.spelled is));
      values = omega (arith, ap length c.values.ensures.same);
      ranges = of_columns (aggs_of c.args.schema.now) row.values (subst (AllByRecursion IsNarrow) c.as_slice.ensures (c.are_narrow.ensures (search rules)));
    }
