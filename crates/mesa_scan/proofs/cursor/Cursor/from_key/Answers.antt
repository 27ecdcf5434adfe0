use Rattle.std.proofs.Common.{[], refl, subst, arith}
use Rattle.mesa_schema.specs.Lifting.{Lifts}
use Rattle.mesa_schema.specs.Lineages.{IsLineage}
use Rattle.mesa_delta.specs.mesa_delta_format.Indexed.{IsIndex}
use Rattle.mesa_delta.specs.Reading.{index_of}
use Rattle.mesa_scan.proofs.cursor.Cursor.from_key.Goals as goal

pub returns-clause-given : goal.returns-clause-given
returns-clause-given g c =
    let index : IsIndex (index_of c.args.input.now.reader) = subst IsIndex c.index.ensures c.blocks-blocks.ensures.index in
    record {
      start = c.start_of-next.result;
      parts = [];
      input = c.requires;
      lineage = subst IsLineage c.deref.ensures c.present-present.ensures.rules;
      lifts = subst (λ l. Lifts c.in_ok-lift.lift l c.args.input.now.epoch) c.deref-2.ensures c.in_ok-lift.ensures;
      key = c.in_ok-copied.ensures;
      none = c.start_of-next.ensures.none;
      next = omega arith;
      within = c.start_of-next.ensures.within;
      few = rw c.none.ensures (omega arith);
      blocks = tt;
      rise = refl;
      last = c.none.ensures;
      rows = c.none.ensures;
      read = λ start some. absurd (omega (arith, some));
      whole = λ start all. absurd (omega (arith, index.tail.some, all));
      before = c.start_of-next.ensures.before;
      again = λ b all told indexed. refl;
    }
