use Rattle.std.proofs.Common.{◌∙◌, sym}
use Rattle.std.proofs.lemmas.Result.{IfOk-weaker}
use Rattle.mesa_parse.proofs.Named.{digest_named, gen_named}
use Rattle.clap.specs.Words.{found_of}
use Rattle.mesa_parse.proofs.forms.found_form.Goals as goal

pub returns-then-eq-3 : goal.returns-then-eq-3
returns-then-eq-3 c =
    IfOk-weaker c.found_digest.result _ _ (λ form is. is
    ∙ sym (digest_named _ c.in-Some.name.now (found_of c.in-Some.found.now) (sym c.in-Some.ensures.name) (sym c.in-Some.ensures.rows) (sym c.eq.ensures ∙ c.if-eq.false) (sym c.eq-else-eq.ensures ∙ c.if-eq-2.false) (sym c.eq-else-eq-2.ensures ∙ c.if-eq-3.true))) c.found_digest.ensures

pub returns-else-eq-3 : goal.returns-else-eq-3
returns-else-eq-3 c =
    c.found_gen.ensures
    ∙ sym (gen_named _ c.in-Some.name.now (found_of c.in-Some.found.now) (sym c.in-Some.ensures.name) (sym c.in-Some.ensures.rows) (sym c.eq.ensures ∙ c.if-eq.false) (sym c.eq-else-eq.ensures ∙ c.if-eq-2.false) (sym c.eq-else-eq-2.ensures ∙ c.if-eq-3.false))
