use Rattle.std.proofs.Common.{◌≡◌, ◌+◌, ◌*◌, ◌∙◌, ap, sym, arith, length, true, false}
use Rattle.std.specs.Prelude.{◌==◌, ◌&&◌, nat_lt}
use Rattle.std.proofs.lemmas.Bool.Decides.{nat_tests}
use Rattle.mesa_catalog_table.specs.mesa_span.Ranges.{end_of}
use Rattle.mesa_catalog_table.specs.Meaning.{start_of_base}
use Rattle.mesa_catalog_table.proofs.Works.{cumulative_work}
use Rattle.mesa_table_records.proofs.fitting.may_be_cumulative.Goals as goal

pub overflow_mul-end : goal.overflow_mul-end
overflow_mul-end c = let tens = c.requires.tens in omega arith

pub overflow_add-end : goal.overflow_add-end
overflow_add-end c = let tens = c.requires.tens in omega arith

pub overflow_add-end-2 : goal.overflow_add-end-2
overflow_add-end-2 c = let tens = c.requires.tens in omega arith

pub returns-then-end-next : goal.returns-then-end-next
returns-then-end-next c =
    let start = start_of_base c.args.t.now.base in
    let end = end_of start (length c.args.t.now.cumulatives.items) in
    let from = c.args.from in
    let to = c.args.to in
    let whole : c.start-start.result + 10 * c.len.result + 9 ≡ end = omega arith in
    let begins : (from == start) ≡ true = grind (arith, nat_tests) in
    let fits : nat_lt end c.args.next ≡ true = grind (arith, nat_tests) in
    ap (λ n. n == to) whole
    ∙ sym (ap (λ b. b && (nat_lt end c.args.next && (end == to))) begins ∙ ap (λ b. b && (end == to)) fits)
    ∙ sym (cumulative_work c.args.next from to c.args.t.now)

pub returns-else-end-next : goal.returns-else-end-next
returns-else-end-next c =
    let start = start_of_base c.args.t.now.base in
    let end = end_of start (length c.args.t.now.cumulatives.items) in
    let from = c.args.from in
    let to = c.args.to in
    let whole : c.start-start.result + 10 * c.len.result + 9 ≡ end = omega arith in
    let begins : (from == start) ≡ true = grind (arith, nat_tests) in
    let fits : nat_lt end c.args.next ≡ false = grind (arith, nat_tests) in
    let test : nat_lt (c.start-start.result + 10 * c.len.result + 9) c.args.next ≡ false = grind (arith, nat_tests) in
    test
    ∙ sym (ap (λ b. b && (nat_lt end c.args.next && (end == to))) begins ∙ ap (λ b. b && (end == to)) fits)
    ∙ sym (cumulative_work c.args.next from to c.args.t.now)
