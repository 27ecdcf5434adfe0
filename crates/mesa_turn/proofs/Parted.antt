-- What passes know after a split and a join.
use Rattle.std.proofs.Common.{◌≡◌, ℕ, true, ◌++◌, sym, ap, ◌∙◌, subst}
use Rattle.std.specs.List.{slice_get}
use mathlib.Core.List.{IsPrefix}
use Rattle.mesa_turn.specs.History.{has, longer_of, shorter_of, once}
use Rattle.mesa_turn.specs.Passes.{Known, IsExact, HasNone, Joins, left_of, part_of, joined}
use Rattle.mesa_turn.proofs.Lists.{both_begin}
use Rattle.mesa_turn.proofs.Names.{has_at_without, once_apart}
use Rattle.mesa_turn.proofs.Sharing.{none_seen}

-- of a pass with exactly its own positions, none of which has the name, both parts have exactly their own
pub left_exact : (name room : ℕ) (p : Known) → IsExact p → has p.names name ≡ true → HasNone name p → IsExact (left_of name room p)
left_exact name room p exact named clear k = exact k ∙ has_at_without name p.names (slice_get p.seen k) (none_seen p.own p.names p.seen name exact named clear k)

pub part_exact : (name room : ℕ) (p : Known) → IsExact p → has p.names name ≡ true → HasNone name p → IsExact (part_of name room p)
part_exact name room p exact named clear k = sym (none_seen p.own p.names p.seen name exact named clear k)

-- where the shorter list begins the longer, and no name stands twice, the joined pass is known
pub joined_so : (a b p : Known) → p ≡ joined a b → IsPrefix (shorter_of a.seen b.seen) (longer_of a.seen b.seen) → IsExact a → IsExact b → IsExact p → once (a.names ++ b.names) ≡ true → Joins a b p
joined_so a b p is begins ea eb ep single =
    let both = both_begin a.seen b.seen begins in
    let seen : p.seen ≡ longer_of a.seen b.seen = ap (λ (z : Known). z.seen) is in
    record {
      is = is;
      first_seen = subst (IsPrefix a.seen) (sym seen) both.0;
      second_seen = subst (IsPrefix b.seen) (sym seen) both.1;
      first_exact = ea;
      second_exact = eb;
      exact = ep;
      apart = once_apart a.names b.names single;
    }
