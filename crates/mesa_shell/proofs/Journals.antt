-- An image has one journal, and so its records make one catalogue.
use Rattle.std.proofs.Common.{◌≡◌, ℕ, List, Option, Some, sym, subst}
use Rattle.mesa_disk.specs.Image.{Image}
use Rattle.mesa_disk.specs.declared.area.Area.{Area}
use Rattle.mesa_recover.specs.mesa_journal.Areas.{HasJournal}
use Rattle.mesa_recover.proofs.mesa_journal.Live.{one_live, same_live}
use Rattle.mesa_engine.specs.mesa_store_spec.Catalog.{Catalog}
use Rattle.mesa_engine.specs.mesa_store_spec.Journaled.{catalog}

some_same : (o : Option Catalog) (c d : Catalog) → o ≡ Some c → o ≡ Some d → c ≡ d
some_same o c d a b = cc

pub same_catalog : (image : Image) (a b : Area) (bodies others : List (List ℕ)) (end other_end : ℕ) (c d : Catalog) → HasJournal image a bodies end → HasJournal image b others other_end → catalog a bodies ≡ Some c → catalog b others ≡ Some d → c ≡ d
same_catalog image a b bodies others end other_end c d one other makes makes_other =
    let live : a ≡ b = one_live image a b bodies others end other_end one other in
    let same : bodies ≡ others = (same_live image a b bodies others end other_end one other).0 in
    some_same (catalog a bodies) c d makes (subst (λ (x : Area). catalog x bodies ≡ Some d) (sym live) (subst (λ (bs : List (List ℕ)). catalog b bs ≡ Some d) (sym same) makes_other))
