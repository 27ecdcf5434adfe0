use Rattle.std.proofs.Common.{◌∙◌, ◌+◌, ◌++◌, ap, codes, sym}
use Rattle.std.proofs.lemmas.Result.{on_ok_weaker}
use Rattle.mesa_invariant_spec.specs.mesa_script.Generated.{expiry_after, versions_from}
use Rattle.mesa_generate.proofs.Records.{both_written}
use Rattle.mesa_generate.proofs.generator.Generator.write_version.Goals as goal

pub returns-clause-script : goal.returns-clause-script
returns-clause-script c =
    let v = c.args.version in
    on_ok_weaker c.write_expiry.result (λ last more.
    c.in_ok-write_rows.ensures.script (λ y. codes "commit\nwork,facts\n" ++ expiry_after v ++ versions_from (v + 1) more y)
    ∙ both_written c.write_rows.new.self.script.items c.write.new.self.script.items c.write_expiry.new.self.script.items (codes "commit\nwork,facts\n") (expiry_after v) _ c.in_ok-write.ensures.script last
    ∙ ap (λ y. c.write_expiry.new.self.script.items ++ versions_from (v + 1) more y) (sym (c.write_expiry.ensures.state ∙ c.in_ok-write.ensures.state))) c.write_expiry.ensures.script
