use Rattle.std.proofs.Common.{◌≡◌, ◌<◌, ◌≤◌, ◌+◌, length, arith, ap, ◌∙◌, subst, sym, List, get_or, []}
use Rattle.mesa_delta_format.specs.declared.index.Held.{Held}
use Rattle.mesa_delta_format.specs.declared.place.Entry.{Entry}
use Rattle.mesa_delta_format.specs.Indexed.{Indexed}
use Rattle.mesa_delta_format.proofs.Tailing.{within_follow}
use Rattle.mesa_delta_format.proofs.index.Index.entry.Goals as goal

pub returns-clause-within : goal.returns-clause-within
returns-clause-within c =
    let x = c.self.inside.held.value in
    let h = c.self.invariant in
    let lt : c.args.i < length x.entries = subst (λ (v : Indexed). c.args.i < length v.entries) (sym c.self.view_is) c.requires in
    let place = within_follow 0 x.entries x.tail c.args.i (record { short = []; offset = 0; len = 0; digest = [] }) h.tail.follow lt in
    let len : c.args.self.now.len ≡ x.len = ap (λ (v : Indexed). v.len) (sym c.self.view_is) in
    subst (λ (l : List Entry). (get_or l c.args.i record { short = []; offset = 0; len = 0; digest = [] }).offset + (get_or l c.args.i record { short = []; offset = 0; len = 0; digest = [] }).len ≤ c.args.self.now.len) (sym (c.as_slice.ensures ∙ ap (λ (k : Held). k.entries) c.deref.ensures))
    (omega (arith, place, h.whole, len))
