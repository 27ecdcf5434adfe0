use Rattle.std.proofs.Common.{◌+◌, ◌<◌, [], Bool, arith, false, get_or, length, subst, true}
use Rattle.std.specs.Bool.{OnFalse}
use Rattle.mesa_schema.specs.Lineages.{IsLineage}
use Rattle.mesa_filter.specs.Pruning.{NoneMeets}
use Rattle.mesa_delta.specs.mesa_delta_format.Indexed.{Indexed, IsIndex}
use Rattle.mesa_delta.specs.Reading.{index_of}
use Rattle.mesa_delta.specs.mesa_delta_format.Spread.{blocks_of}
use Rattle.mesa_scan.specs.Allowing.{bounds_in}
use Rattle.mesa_scan.specs.Scanning.{keys_in}
use Rattle.mesa_scan.proofs.Skipping.{skipped}
use Rattle.mesa_scan.proofs.allowing.allows.Goals as goal

on_false : (b : Bool) (P Q : Type 0) → (P → Q) → OnFalse b P → OnFalse b Q
on_false false P Q f p = f p
on_false true P Q f p = p

pub returns : goal.returns
returns g c =
    let input = c.args.input.now in
    let f = c.args.filter.now in
    let n = c.args.block in
    let x : Indexed = index_of input.reader in
    let index = c.index-index.ensures in
    let lineage : IsLineage input.evolving.value = subst IsLineage c.deref.ensures c.present-columns.ensures.rules in
    record {
      none = on_false c.may_have.result _ _ (λ none b all told indexed.
          let misses : NoneMeets f.kinds (keys_in input) f.terms (get_or (bounds_in x) n []) (get_or (bounds_in x) (n + 1) []) = rw c.key_columns.ensures at (rw index at none) in
          let there : n < length (blocks_of x.layout all) = omega (arith, c.requires.within, indexed.blocks) in
          skipped c.fits_alone.ensures c.keys_between.ensures c.lifts_to_present.ensures.form c.lifts_to_present.ensures.keys input f all b n c.requires.input.columns lineage c.requires.filter (subst IsIndex index c.blocks-blocks.ensures.index) indexed there misses)
          c.may_have.ensures.none;
    }
