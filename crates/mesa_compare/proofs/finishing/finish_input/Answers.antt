use Rattle.std.proofs.Common.{◌≡◌, ◌∷◌, [], ◌++◌, refl, sym, subst, ◌∙◌, append_assoc}
use Rattle.std.proofs.lemmas.List.{append-nil}
use Rattle.std.proofs.lemmas.Bool.{false≢true}
use Rattle.mesa_schema.specs.mesa_columns.declared.rows.Row.{Row}
use Rattle.mesa_examine.specs.mesa_delta.Reading.{IsIndexed}
use Rattle.mesa_examine.specs.mesa_scan.Cursors.{HasGiven, IsAllOf}
use Rattle.mesa_examine.proofs.Streams.{same_input}
use Rattle.mesa_compare.proofs.finishing.finish_input.Goals as goal

pub returns-in-Err-clause-never : goal.returns-in-Err-clause-never
returns-in-Err-clause-never g c = λ d is b all told indexed.
    let inv = c.rows.invariant in
    c.in-Err.ensures.accepts d is inv.low inv.input b all (inv.same.told ∙ told) (subst (λ x. IsIndexed x all b) (sym inv.same.index) indexed)

pub rows-init : goal.rows-init
rows-init g c = record {
  input = c.requires.input;
  same = record { index = refl; evolving = refl; epoch = refl; told = refl };
  faults = refl;
  low = c.requires.whole;
  given = λ before h. ([], subst (HasGiven g.R.FileReader.bytes c.args.input.now c.args.cursor.now) (sym (append-nil before)) h);
}

pub rows-preserved : goal.rows-preserved
rows-preserved g c =
    let inv = c.rows.invariant in
    let bytes = g.R.FileReader.bytes in
    let some = rw c.if-not-more.false at c.in-Ok.ensures.some in
    let row : Row = c.next_row.new.row in
    record {
      input = c.in-Ok.ensures.input inv.input;
      same = same_input bytes c.args.input.now c.rows.input c.next_row.new.input inv.same c.in-Ok.ensures.same;
      faults = c.in-Ok.ensures.cause.quiet ∙ inv.faults;
      low = c.next_row.ensures.low ∙ inv.low;
      given = λ before h.
          let now = inv.given before h in
          (now.0 ++ row ∷ [], subst (HasGiven bytes c.next_row.new.input c.next_row.new.cursor) (append_assoc before now.0 (row ∷ [])) (some (before ++ now.0) now.1).0);
    }

pub returns-then-not-more-clause-rest : goal.returns-then-not-more-clause-rest
returns-then-not-more-clause-rest g c = λ before h ended.
    let now = c.rows.invariant.given before h in
    let none = rw c.if-not-more.true at c.in-Ok.ensures.none in
    let end = none (before ++ now.0) now.1 in
    (now.0, end.0, end.1, λ t. absurd (false≢true (sym c.if-ended.false ∙ t)))

pub returns-then-ended-clause-rest : goal.returns-then-ended-clause-rest
returns-then-ended-clause-rest g c = λ given h all.
    let bytes = g.R.FileReader.bytes in
    let none : given ≡ given ++ [] = sym (append-nil given) in
    ([], subst (HasGiven bytes c.args.input.now c.args.cursor.now) none h, subst (IsAllOf bytes c.args.input.now) none (all c.if-ended.true), λ _. refl)
