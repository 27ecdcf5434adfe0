use Rattle.std.proofs.Common.{◌≡◌, ℕ, List, [], ◌∷◌, ◌+◌, ◌++◌, length, take, drop, get_or, ◌-◌, subst, sym, ◌∙◌, ap, arith, rules}
use Rattle.std.proofs.lemmas.List.{drop_more, take_rest, map-append}
use Rattle.std.specs.List.{AllByRecursion}
use Rattle.mesa_disk.specs.mesa_key.Spelling.{AreBytes}
use Rattle.mesa_journal.specs.Read.{bodies_of, placed_from}
use Rattle.mesa_journal.specs.declared.reading.Body.{Body}
use Rattle.mesa_journal.proofs.Tails.{Parsed, bytes_push, parsed_more, placed_from-push}
use Rattle.mesa_journal.proofs.reading.parse_records.Goals as goal

pub loop-at-preserved : goal.loop-at-preserved
loop-at-preserved c =
    let area = c.args.area.now in
    let at = c.loop-at.at in
    let old = c.loop-at.bodies in
    let body = c.in-Some.body.now in
    let bodies = bodies_of old in
    let was = c.loop-at.invariant.parsed in
    let tail = take (length area - (at + 1)) (drop (at + 1) area) in
    let open_gate : get_or area at 0 ≡ 1 = c.loop-at-test.true in
    let here : drop at area ≡ 1 ∷ tail =
    drop_more area at 0 was.within ∙ ap (λ (g : ℕ). g ∷ drop (at + 1) area) open_gate ∙ ap (λ (l : List ℕ). 1 ∷ l) (sym (take_rest area (at + 1))) in
    let found = c.in-Some.ensures.body in
    let more : Parsed area (bodies ++ body ∷ []) (at + length body + 5) = parsed_more area bodies at tail body found.1.0 was here found.0 found.1.1 found.1.2 in
    let b : Body = record { at = at; bytes = body } in
    let pushed : c.push.new.self ≡ old ++ b ∷ [] = search rules in
    let now : bodies_of c.push.new.self ≡ bodies ++ body ∷ [] = ap bodies_of pushed ∙ map-append _ old _ in
    let end : at + length body + 5 ≡ at + (length body + 5) = omega arith in
    record {
      parsed = subst (λ (n : ℕ). Parsed area (bodies_of c.push.new.self) n) end (subst (λ bs. Parsed area bs (at + length body + 5)) (sym now) more);
      places = pushed ∙ ap (λ l. l ++ b ∷ []) c.loop-at.invariant.places ∙ placed_from-push 0 bodies body at (omega (arith, was.place)) ∙ ap (placed_from 0) (sym now);
      bytes = subst (λ bs. AllByRecursion AreBytes bs) (sym now) (bytes_push bodies body c.loop-at.invariant.bytes c.in-Some.ensures.bytes);
    }
