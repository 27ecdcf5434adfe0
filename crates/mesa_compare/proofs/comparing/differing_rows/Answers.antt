use lib.Pointwise.{pointwise}
use Rattle.std.proofs.Common.{◌≡◌, true, false, sym, ◌∙◌, ap}
use Rattle.std.specs.FinMap.{slice_cmp-IsAntisymmetric, nat_cmp-IsAntisymmetric}
use Rattle.std.specs.Ordering.{int_eq, is_gt, is_lt}
use Rattle.std.specs.declared.cmp.Ordering.TheVariants.{Less, Greater}
use Rattle.mesa_schema.specs.mesa_key.Order.{byte_cmp}
use Rattle.mesa_schema.specs.mesa_columns.declared.rows.Row.{Row as AnyRow}
use Rattle.mesa_schema.specs.mesa_columns.Lent.{lent}
use Rattle.mesa_compare.proofs.Same.{flipped_back, is_greater, is_less, is_neither, other_values, same_parts}
use Rattle.mesa_compare.proofs.Differences.{lesser_here, lesser_there}
use Rattle.mesa_compare.proofs.Differences.{other_values as values_apart}
use Rattle.mesa_compare.proofs.comparing.differing_rows.Goals as goal

pub returns-then-is_lt-clause-first : goal.returns-then-is_lt-clause-first
returns-then-is_lt-clause-first c =
    let a : AnyRow = lent c.args.row in
    let b : AnyRow = lent c.args.beside in
    let order : c.cmp-order.result ≡ byte_cmp a.key b.key = c.cmp-order.ensures in
    let less : byte_cmp a.key b.key ≡ Less = is_less _ (ap is_lt (sym order) ∙ sym c.is_lt.ensures ∙ c.if-is_lt.true) in
    λ rows others rises rise. lesser_here a b rows others less rises rise

pub returns-then-is_gt-clause-first : goal.returns-then-is_gt-clause-first
returns-then-is_gt-clause-first c =
    let a : AnyRow = lent c.args.row in
    let b : AnyRow = lent c.args.beside in
    let order : c.cmp-order.result ≡ byte_cmp a.key b.key = c.cmp-order.ensures in
    let greater : byte_cmp a.key b.key ≡ Greater = is_greater _ (ap is_gt (sym order) ∙ sym c.is_gt.ensures ∙ c.if-is_gt.true) in
    λ rows others rises rise. lesser_there a b rows others (flipped_back b.key a.key greater) rises rise

pub returns-then-eq-clause-same : goal.returns-then-eq-clause-same
returns-then-eq-clause-same c =
    let a : AnyRow = lent c.args.row in
    let b : AnyRow = lent c.args.beside in
    let order : c.cmp-order.result ≡ byte_cmp a.key b.key = c.cmp-order.ensures in
    let equal = is_neither _ (ap is_lt (sym order) ∙ sym c.is_lt.ensures ∙ c.if-is_lt.false) (ap is_gt (sym order) ∙ sym c.is_gt.ensures ∙ c.if-is_gt.false) in
    let told : pointwise int_eq a.values b.values ≡ true = sym c.eq.ensures ∙ c.if-eq.true in
    same_parts a b (slice_cmp-IsAntisymmetric nat_cmp-IsAntisymmetric a.key b.key equal) told

pub returns-clause-first : goal.returns-clause-first
returns-clause-first c =
    let a : AnyRow = lent c.args.row in
    let b : AnyRow = lent c.args.beside in
    let order : c.cmp-order.result ≡ byte_cmp a.key b.key = c.cmp-order.ensures in
    let equal = is_neither _ (ap is_lt (sym order) ∙ sym c.is_lt.ensures ∙ c.if-is_lt.false) (ap is_gt (sym order) ∙ sym c.is_gt.ensures ∙ c.if-is_gt.false) in
    let told : pointwise int_eq a.values b.values ≡ false = sym c.eq.ensures ∙ c.if-eq.false in
    λ rows others rises rise. values_apart a b rows others (slice_cmp-IsAntisymmetric nat_cmp-IsAntisymmetric a.key b.key equal) (other_values a b told) rises rise
