use Rattle.std.proofs.Common.{◌≡◌, ◌∙◌, ◌+◌, ◌++◌, ◌∷◌, [], List, ℕ, suc, ap, sym, subst, drop, map, add-one, append_assoc}
use Rattle.std.proofs.Math.Seq.{drop-cons}
use Rattle.std.proofs.lemmas.Result.{err_from_is_err_and}
use Rattle.mesa_list.specs.Checks.{refuse_unless}
use Rattle.mesa_model.specs.mesa_columns.Names.{has_name}
use Rattle.mesa_model.specs.declared.replies.Refusal.TheVariants as no
use Rattle.mesa_binding.specs.Told.{IsDue}
use Rattle.mesa_binding.proofs.Viewings.{word_missing}
use Rattle.mesa_binding.proofs.viewing.names_of.Goals as goal

name_more : (names left rest all : List (List ℕ)) (name word : List ℕ) → name ≡ word → left ≡ word ∷ rest → names ++ left ≡ all → (names ++ name ∷ []) ++ rest ≡ all
name_more names left rest all name word is next before = append_assoc names (name ∷ []) rest ∙ ap (λ n. names ++ n ∷ rest) is ∙ ap (λ ws. names ++ ws) (sym next) ∙ before

pub words-preserved : goal.words-preserved
words-preserved g c =
    let i = c.words.word-index in
    let words = c.args.words.now in
    let w = c.word-item.result in
    let next : drop i words ≡ w ∷ drop (i + 1) words = rw add-one (drop-cons words i w c.words-test.true ∙ ap (λ (v : List ℕ). v ∷ drop (suc i) words) (sym c.word-item.is)) in
    ap (λ names. names ++ drop (i + 1) words) c.in_ok-push.ensures.ok
    ∙ name_more c.words.names (drop i words) (drop (i + 1) words) words _ w (c.in_ok-name.ensures.read ∙ c.as_slice.ensures) next c.words.invariant

pub returns-in_err-name-clause-refused : goal.returns-in_err-name-clause-refused
returns-in_err-name-clause-refused g c =
    let p = err_from_is_err_and c.from_residual.result c.from_residual.ensures.1 in
    let names = map g.C.Named.name_of c.args.columns.now in
    let failure = c.in_err-name.field-0.0 in
    let due = subst (λ n. IsDue (refuse_unless (has_name n names) no.NoColumn) failure) c.as_slice.ensures c.in_err-name.ensures.refused in
    rw (p.1, p.2) (word_missing names c.args.words.now c.words.word-index c.word-item.result failure c.words-test.true (sym c.word-item.is) due)
