use Rattle.std.proofs.Common.{◌≡◌, ◌+◌, ◌-◌, ℕ, Bool, get_or, false, true, sym, ◌∙◌, ap, arith}
use Rattle.std.specs.Prelude.{◌&&◌}
use Rattle.std.specs.List.{list_all, range_with_len}
use Rattle.mesa_order.proofs.Marks.{marks_end, marks_next}
use Rattle.mesa_order.proofs.marking.all_marked.Goals as goal

pub places-init : goal.places-init
places-init c =
    let whole : c.args.count - 0 ≡ c.args.count = omega arith in
    ap (λ n. list_all (λ place. get_or c.args.marks.now place false) (range_with_len 0 n)) whole

pub returns-then-not-is_marked : goal.returns-then-not-is_marked
returns-then-not-is_marked c =
    let p : ℕ → Bool = λ place. get_or c.args.marks.now place false in
    let i = c.places.place in
    let none : p i ≡ false = sym c.is_marked.ensures ∙ c.if-not-is_marked.true in
    sym (ap (λ b. b && list_all p (range_with_len (i + 1) (c.args.count - (i + 1)))) none) ∙ sym (marks_next p i c.args.count c.places-test.true) ∙ c.places.invariant

pub places-preserved : goal.places-preserved
places-preserved c =
    let p : ℕ → Bool = λ place. get_or c.args.marks.now place false in
    let i = c.places.place in
    let some : p i ≡ true = sym c.is_marked.ensures ∙ c.if-not-is_marked.false in
    sym (ap (λ b. b && list_all p (range_with_len (i + 1) (c.args.count - (i + 1)))) some) ∙ sym (marks_next p i c.args.count c.places-test.true) ∙ c.places.invariant

pub returns : goal.returns
returns c =
    let p : ℕ → Bool = λ place. get_or c.args.marks.now place false in
    sym (marks_end p c.places.place c.args.count c.places-test.false) ∙ c.places.invariant
