use Rattle.std.proofs.Common.{◌-◌, ◌≡◌, ltb, get_or, sym, ◌∙◌, ap, arith, rules, false}
use Rattle.std.proofs.lemmas.Bool.Decides.{nat_tests}
use Rattle.std.proofs.lemmas.List.Sorted.{IsPartitionPoint-from_clause, IsPartitionedBy-ltb}
use Rattle.mesa_commit.specs.declared.trash.Hold.{Hold}
use Rattle.mesa_engine.proofs.Indexed.{none_tells, one_tells}
use Rattle.mesa_engine.proofs.index.is_found.Goals as goal

pub returns-then-before-gt0 : goal.returns-then-before-gt0
returns-then-before-gt0 c =
    let index = c.args.index.now in
    let dropped = c.args.dropped.now in
    let parted = IsPartitionedBy-ltb (λ (h : Hold). h.at) index dropped.at c.requires.rising in
    let point = IsPartitionPoint-from_clause (λ (h : Hold). ltb h.at dropped.at) index _ c.partition_point-before.ensures.partitioned parted (λ a r q k. search rules) in
    let before = c.partition_point-before.result in
    let e : Hold = record { at = 0; next = 0 } in
    ap (λ id. ltb id (get_or index (before - 1) e).next) c.number.ensures ∙ sym (one_tells dropped index before e (omega (arith, c.if-before-gt0.true)) c.partition_point-before.ensures.bound point c.requires)

pub returns-else-before-gt0 : goal.returns-else-before-gt0
returns-else-before-gt0 c =
    let index = c.args.index.now in
    let dropped = c.args.dropped.now in
    let parted = IsPartitionedBy-ltb (λ (h : Hold). h.at) index dropped.at c.requires.rising in
    let point = IsPartitionPoint-from_clause (λ (h : Hold). ltb h.at dropped.at) index _ c.partition_point-before.ensures.partitioned parted (λ a r q k. search rules) in
    let none = c.if-before-gt0.false in
    let none_before : ltb 0 c.partition_point-before.result ≡ false = grind (arith, nat_tests) in
    none_before ∙ sym (none_tells dropped index c.partition_point-before.result (omega (arith, none)) point)
