use Rattle.std.proofs.Common.{◌≡◌, ◌++◌, ◌∙◌, ap, map, subst, sym, arith}
use Rattle.std.proofs.lemmas.Simd.{map-map}
use Rattle.mesa_engine.specs.Recorded.{hold_of_pin, hold_of_query}
use Rattle.mesa_engine.specs.declared.holders.Pin.{Pin}
use Rattle.mesa_engine.specs.declared.holders.Query.{Query}
use Rattle.mesa_engine.specs.Index.{IsIndexOf}
use Rattle.mesa_engine.specs.Meaning.{holds_by, pin_as, query_as}
use Rattle.mesa_engine.proofs.holders.Holders.index_again.Goals as goal

pub returns-clause-indexed : goal.returns-clause-indexed
returns-clause-indexed c =
    let h = c.args.self.now in
    let pins = ap (map (λ (p : Pin). p.hold)) c.deref.ensures.value ∙ sym (map-map hold_of_pin pin_as h.pins.items) in
    let queries = ap (map (λ (q : Query). q.hold)) c.deref-2.ensures.value ∙ sym (map-map hold_of_query query_as h.queries.items) in
    let all : c.push_queries.new.index.items ≡ holds_by h =
    c.push_queries.ensures.items ∙ (λ i. (c.push_pins.ensures.items ∙ ap (λ xs. xs ++ map (λ (p : Pin). p.hold) c.deref.result.now) c.clear.ensures.items ∙ pins) i ++ queries i) in
    record {
      index = subst (λ hs. IsIndexOf hs c.make_index.new.holds.items) all c.make_index.ensures.index;
      room = omega (arith, c.requires, c.make_index.ensures.room, c.push_queries.ensures.room, c.push_pins.ensures.room, c.clear.ensures.capacity);
    }
