use Rattle.std.proofs.Common.{ℕ, List, ◌∙◌, ap, sym, subst, length, map, [], ◌∷◌, None}
use Rattle.std.specs.List.{All}
use Rattle.mesa_batch.specs.declared.spots.Spot.{Spot}
use Rattle.mesa_batch.specs.Flat.{IsFirstTwice}
use Rattle.mesa_batch.specs.Gathered.{Batched, Gathered, each_once}
use Rattle.mesa_batch.specs.Heads.{IsSpot, place_of}
use Rattle.mesa_batch.specs.Totals.{abs_totals}
use Rattle.mesa_batch.specs.Batch.{rows_for}
use Rattle.mesa_schema.specs.mesa_fold.Folded.{folded}
use Rattle.mesa_batch.proofs.Finished.{AreParts, finished-fold, finished-rows, finished-totals, places-parted, spots-there}
use Rattle.mesa_batch.proofs.Twice.{all_once, first_refused}
use Rattle.mesa_batch.proofs.builder.BatchBuilder.finish.Goals as goal

pub first_twice-requires : goal.first_twice-requires
first_twice-requires c = subst (λ l. All (IsSpot c.self.inside.rows) l) (sym c.deref.ensures.value) c.in_ok-order.ensures.spots

pub returns-in-Some-clause-refused : goal.returns-in-Some-clause-refused
returns-in-Some-clause-refused c = λ _.
    let rows = c.self.inside.rows in
    let order : List ℕ = map place_of c.in_ok-order.order.items in
    let all : IsFirstTwice rows order (length order) c.first_twice.result = subst (λ l. IsFirstTwice rows (map place_of l) (length (map place_of l)) c.first_twice.result) c.deref.ensures.value c.first_twice.ensures in
    let found = subst (λ o. IsFirstTwice rows order (length order) o) c.in-Some.is all in
    let refused = first_refused rows order _ (c.in_ok-order.ensures.permutation, c.in_ok-order.ensures.sorted) found in
    ap (λ (g : Gathered). each_once g.rows) (sym c.self.view_is) ∙ refused ∙ rw (c.from.ensures, c.from-in-Some.ensures) (cc)

pub parted-requires : goal.parted-requires
parted-requires c =
    rw (c.deref-2.ensures.value, c.len.ensures)
    (spots-there (length c.self.inside.columns) c.self.inside.rows c.in_ok-order.order.items (c.in_ok-order.ensures.permutation, c.in_ok-order.ensures.sorted) c.in_ok-order.ensures.spots c.self.invariant)

pub returns-clause-once : goal.returns-clause-once
returns-clause-once c =
    let rows = c.self.inside.rows in
    let order : List ℕ = map place_of c.in_ok-order.order.items in
    let all : IsFirstTwice rows order (length order) c.first_twice.result = subst (λ l. IsFirstTwice rows (map place_of l) (length (map place_of l)) c.first_twice.result) c.deref.ensures.value c.first_twice.ensures in
    let none : IsFirstTwice rows order (length order) None = subst (λ o. IsFirstTwice rows order (length order) o) c.in_default.is all in
    ap (λ (g : Gathered). each_once g.rows) (sym c.self.view_is) ∙ all_once rows order (c.in_ok-order.ensures.permutation, c.in_ok-order.ensures.sorted) none

pub returns-clause-rows : goal.returns-clause-rows
returns-clause-rows c = λ table aggs.
    let rows = c.self.inside.rows in
    let spots : List Spot = c.in_ok-order.order.items in
    let order : List ℕ = map place_of spots in
    let all : IsFirstTwice rows order (length order) c.first_twice.result = subst (λ l. IsFirstTwice rows (map place_of l) (length (map place_of l)) c.first_twice.result) c.deref.ensures.value c.first_twice.ensures in
    let none : IsFirstTwice rows order (length order) None = subst (λ o. IsFirstTwice rows order (length order) o) c.in_default.is all in
    let its = rw c.deref-2.ensures.value at c.in_ok-tables.ensures in
    let parts : AreParts rows order c.in_ok-tables.tables = λ t. its t ∙ places-parted rows t spots c.in_ok-order.ensures.spots in
    finished-rows rows order c.in_ok-tables.tables c.of.result (c.in_ok-order.ensures.permutation, c.in_ok-order.ensures.sorted) none parts (ap (λ (b : Batched). b.tables) c.of.ensures) table aggs
    ∙ ap (λ (g : Gathered). folded aggs (rows_for table g.rows ∷ [])) c.self.view_is

pub returns-clause-fold : goal.returns-clause-fold
returns-clause-fold c = λ table aggs.
    let rows = c.self.inside.rows in
    let spots : List Spot = c.in_ok-order.order.items in
    let order : List ℕ = map place_of spots in
    let all : IsFirstTwice rows order (length order) c.first_twice.result = subst (λ l. IsFirstTwice rows (map place_of l) (length (map place_of l)) c.first_twice.result) c.deref.ensures.value c.first_twice.ensures in
    let none : IsFirstTwice rows order (length order) None = subst (λ o. IsFirstTwice rows order (length order) o) c.in_default.is all in
    let its = rw c.deref-2.ensures.value at c.in_ok-tables.ensures in
    let parts : AreParts rows order c.in_ok-tables.tables = λ t. its t ∙ places-parted rows t spots c.in_ok-order.ensures.spots in
    finished-fold rows order c.in_ok-tables.tables c.of.result (c.in_ok-order.ensures.permutation, c.in_ok-order.ensures.sorted) none parts (ap (λ (b : Batched). b.tables) c.of.ensures) table aggs

pub returns-clause-totals : goal.returns-clause-totals
returns-clause-totals c = λ table s.
    let rows = c.self.inside.rows in
    let spots : List Spot = c.in_ok-order.order.items in
    let order : List ℕ = map place_of spots in
    let all : IsFirstTwice rows order (length order) c.first_twice.result = subst (λ l. IsFirstTwice rows (map place_of l) (length (map place_of l)) c.first_twice.result) c.deref.ensures.value c.first_twice.ensures in
    let none : IsFirstTwice rows order (length order) None = subst (λ o. IsFirstTwice rows order (length order) o) c.in_default.is all in
    let its = rw c.deref-2.ensures.value at c.in_ok-tables.ensures in
    let parts : AreParts rows order c.in_ok-tables.tables = λ t. its t ∙ places-parted rows t spots c.in_ok-order.ensures.spots in
    finished-totals rows order c.in_ok-tables.tables c.of.result (c.in_ok-order.ensures.permutation, c.in_ok-order.ensures.sorted) none parts (ap (λ (b : Batched). b.tables) c.of.ensures) table s
    ∙ ap (λ (g : Gathered). abs_totals s (rows_for table g.rows)) c.self.view_is
