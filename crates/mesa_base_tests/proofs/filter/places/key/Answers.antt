use Rattle.std.proofs.Common.{rules, ◌≡◌, ◌++◌, ◌∷◌, [], append-nil, ap, subst, sym, ◌∙◌}
use Rattle.std.specs.Prelude.{IsTrue}
use Rattle.std.proofs.lemmas.List.Concat.{flat_map-cons}
use Rattle.mesa_key.specs.declared.KeyType.TheVariants as types
use Rattle.mesa_key.specs.declared.KeyValue.{KeyValue}
use Rattle.mesa_key.specs.declared.KeyValue.TheVariants as value
use Rattle.mesa_key.specs.Spelling.{IsValue, is_spelling, key_spelling, value_spelling}
use Rattle.mesa_base_tests.proofs.filter.places.key.Goals as goal

two_values : (a b : KeyValue) → key_spelling (a ∷ b ∷ []) ≡ value_spelling a ++ value_spelling b
two_values a b = flat_map-cons value_spelling a (b ∷ []) ∙ ap (λ rest. value_spelling a ++ rest) (flat_map-cons value_spelling b [] ∙ append-nil (value_spelling b))

pub returns : goal.returns
returns g c =
    let a = value.Int c.args.number in
    let b = value.Text c.args.text.now in
    let int : c.encode_int.new.out.items ≡ value_spelling a = search rules in
    let bytes : c.encode_text.new.out.items ≡ value_spelling a ++ value_spelling b = c.in_ok-encode_text.ensures.ok ∙ ap (λ front. front ++ value_spelling b) int in
    let fits : IsValue types.Int a = search rules in
    subst (λ bytes. IsTrue (is_spelling (types.Int ∷ types.Text ∷ []) bytes)) (two_values a b ∙ sym bytes)
    (c.reads_back.ensures.passes (types.Int ∷ types.Text ∷ []) (a ∷ b ∷ []) (fits, (sym c.allows.ensures ∙ c.if-assert.false, tt)))
