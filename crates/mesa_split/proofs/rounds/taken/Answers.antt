use Rattle.std.proofs.Common.{◌+◌, ◌++◌, ◌≤◌, [], ◌∷◌, List, drop, get_or, length, length-append, set, refl, sym, ap, subst, ◌∙◌, arith, append_assoc}
use Rattle.std.proofs.lemmas.List.{append-nil}
use Rattle.std.specs.Prelude.{Result}
use Rattle.mesa_compact.specs.mesa_columns.declared.rows.Row.{Row}
use Rattle.mesa_delta.specs.declared.error.FileError.{FileError}
use Rattle.mesa_compact.proofs.Putting.{map_set}
use Rattle.mesa_split.specs.Lending.{answers_of}
use Rattle.mesa_split.specs.declared.parts.Part.{Part}
use Rattle.mesa_split.proofs.Rounding.{none_left, rest_taken}
use Rattle.mesa_split.proofs.rounds.taken.Goals as goal

pub parts-init : goal.parts-init
parts-init g c = record {
  answers = ap (λ (rs : List (Result (List Row) FileError)). rs ++ answers_of c.args.parts.now) c.requires.none;
  inputs = refl;
  count = ap length c.requires.none;
  room = c.requires.few;
}

pub parts-preserved : goal.parts-preserved
parts-preserved g c =
    let inv = c.parts.invariant in
    let i = c.parts.i in
    let d = c.index-parts-i.result in
    let q : Part g.row.R.Denot = c.take_rows.new.part in
    let ps : List (Part g.row.R.Denot) = c.parts.parts in
    let rest : List (Result (List Row) FileError) = answers_of (drop (i + 1) (set ps i q)) in
    record {
      answers = ap (λ (rs : List (Result (List Row) FileError)). rs ++ rest) (c.push_reserved.ensures.items ∙ ap (λ (r : Result (List Row) FileError). c.parts.room.items ++ r ∷ []) c.take_rows.ensures.rows)
          ∙ append_assoc c.parts.room.items ((get_or ps i d).rows ∷ []) rest ∙ ap (λ (rs : List (Result (List Row) FileError)). c.parts.room.items ++ rs) (sym (rest_taken ps i q d (omega (arith, c.parts-test.true, c.parts.auto.parts)))) ∙ inv.answers;
      inputs = map_set (λ (p : Part g.row.R.Denot). p.inputs) ps i q d c.take_rows.ensures.inputs ∙ inv.inputs;
      count = ap length c.push_reserved.ensures.items ∙ length-append c.parts.room.items (c.take_rows.result ∷ []) ∙ ap (λ n. n + 1) inv.count;
      room = subst (λ n. length c.args.parts.now ≤ n) (sym c.push_reserved.ensures.capacity) inv.room;
    }

pub returns-clause-answers : goal.returns-clause-answers
returns-clause-answers g c =
    sym (append-nil c.parts.room.items) ∙ ap (λ (rs : List (Result (List Row) FileError)). c.parts.room.items ++ rs) (sym (none_left c.parts.parts c.parts.i (omega (arith, c.parts-test.false, c.parts.auto.parts)))) ∙ c.parts.invariant.answers
