use Rattle.std.proofs.Common.{◌∙◌, sym}
use Rattle.mesa_columns.proofs.Repeats.{goes_on, one_repeats, repeats}
use Rattle.mesa_columns.proofs.named.repeated_place.Goals as goal

pub returns-then-has_name-clause-name : goal.returns-then-has_name-clause-name
returns-then-has_name-clause-name g c =
    repeats g.N.Named.name_of c.args.names.now c.loop-i.i c.index-names-i.result c.bytes.result.now c.loop-i-test.true c.index-names-i.is (c.bytes.ensures.same ∙ c.name.ensures) (sym c.has_name.ensures ∙ c.if-has_name.true) c.loop-i.invariant

pub loop-i-preserved : goal.loop-i-preserved
loop-i-preserved g c =
    goes_on g.N.Named.name_of c.args.names.now c.loop-i.i c.index-names-i.result c.bytes.result.now c.loop-i-test.true c.index-names-i.is (c.bytes.ensures.same ∙ c.name.ensures) (sym c.has_name.ensures ∙ c.if-has_name.false) c.loop-i.invariant

pub returns-then-has_name-clause-found : goal.returns-then-has_name-clause-found
returns-then-has_name-clause-found g c =
    one_repeats g.N.Named.name_of c.args.names.now c.loop-i.i c.index-names-i.result c.bytes.result.now c.loop-i-test.true c.index-names-i.is (c.bytes.ensures.same ∙ c.name.ensures) (sym c.has_name.ensures ∙ c.if-has_name.true) c.loop-i.invariant
