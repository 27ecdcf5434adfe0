use Rattle.std.proofs.Common.{◌≡◌, ◌∙◌, ◌∷◌, ◌++◌, ap, codes, rules, FitsSigned, w64}
use Rattle.std.specs.Prelude.{◌+◌, ◌*◌, ◌/◌, ◌%◌, decimal, pos, ◌-ℤ◌}
use Rattle.std.specs.Fmt.{signed_decimal}
use Rattle.std.proofs.lemmas.Result.{on_ok_weaker}
use Rattle.std.proofs.lemmas.Int.{to_z-of_z}
use Rattle.mesa_invariant_spec.specs.mesa_script.Generated.{draw}
use Rattle.mesa_generate.proofs.Records.{joined}
use Rattle.mesa_generate.proofs.generator.Generator.write_row.Goals as goal

pub returns-clause-script : goal.returns-clause-script
returns-clause-script c =
    let x = c.args.self.now.state in
    let site : c.draw-site.result ≡ draw x = c.draw-site.ensures.drawn in
    let clicks : c.draw-clicks.result ≡ draw (draw x) = c.draw-clicks.ensures.drawn ∙ ap draw c.draw-site.ensures.state in
    let low : c.draw-low.result ≡ draw (draw (draw x)) = c.draw-low.ensures.drawn ∙ ap draw (c.draw-clicks.ensures.state ∙ ap draw c.draw-site.ensures.state) in
    let same : c.draw-low.new.self.script.items ≡ c.args.self.now.script.items = c.draw-low.ensures.script ∙ c.draw-clicks.ensures.script ∙ c.draw-site.ensures.script in
    let first : c.write_number.new.self.script.items ≡ c.args.self.now.script.items ++ (codes "row,facts," ++ decimal (c.args.version / 10)) = rw same at c.in_ok-write_number.ensures.script in
    let second : c.write_number-2.new.self.script.items ≡ c.write_number.new.self.script.items ++ 44 ∷ decimal (4 * (draw x % 16) + c.args.j) = rw site at c.in_ok-write_number-2.ensures.script in
    let fits : FitsSigned w64 c.clicks_of.result = search rules in
    let asked = simp to_z-of_z at c.in_ok-write_number-3.ensures.script in
    let third : c.write_number-3.new.self.script.items ≡ c.write_number-2.new.self.script.items ++ 44 ∷ signed_decimal (pos (draw (draw x) % 201) -ℤ pos 100) = rw (c.clicks_of.ensures, clicks) at asked in
    let fourth : c.write_number-4.new.self.script.items ≡ c.write_number-3.new.self.script.items ++ 44 ∷ decimal (draw (draw (draw x)) % 1000) = rw low at c.in_ok-write_number-4.ensures.script in
    on_ok_weaker c.write.result (λ last. joined c.args.self.now.script.items _ _ _ _ _ _ _ _ _ _ _ _ first second third fourth c.in_ok-write_number-5.ensures.script last) c.write.ensures.script
