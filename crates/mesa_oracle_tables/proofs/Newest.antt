-- The newest of the contents that are kept.
use Rattle.std.proofs.Common.{◌≡◌, ◌<◌, ◌≤◌, ◌-◌, ℕ, zero, suc, List, [], ◌∷◌, length, map, get_or, Some, None, refl, ◌∙◌, arith, Bor}
use Rattle.std.specs.Prelude.{MatchOption, Option}
use Rattle.std.specs.declared.alloc.Global.{Global}
use Rattle.std.specs.declared.sync.Arc.{Arc}
use Rattle.std.proofs.lemmas.List.{length-map}
use Rattle.std.proofs.lemmas.Option.{get_or_from_slice_get}
use Rattle.mesa_answer.specs.mesa_columns.declared.rows.Row.{Row}
use Rattle.mesa_model.specs.Load.{newest_content}
use Rattle.mesa_oracle_tables.specs.Kept.{Contents, content_in, contents_in}
use Rattle.mesa_oracle_tables.proofs.Items.{map_there}

pub past : {X : Type 0} (xs : List X) (i : ℕ) (d : X) → length xs ≤ i → get_or xs i d ≡ d
past [] i d le = refl
past (x ∷ xs) zero d le = absurd (omega arith)
past (x ∷ xs) (suc i) d le = past xs i d (omega arith)

newest_at : (xs : List (List Row)) (n : ℕ) → suc n ≡ length xs → newest_content xs ≡ get_or xs n []
newest_at [] n e = absurd (omega arith)
newest_at (x ∷ []) zero e = refl
newest_at (x ∷ []) (suc n) e = absurd (omega arith)
newest_at (x ∷ y ∷ ys) zero e = absurd (omega arith)
newest_at (x ∷ y ∷ ys) (suc n) e = newest_at (y ∷ ys) n (omega arith)

-- the newest content of the table of a number stands in the last version
newest_in : (number : ℕ) (versions : List Contents) (contents : Contents) → 0 < length versions → contents ≡ get_or versions (length versions - 1) contents → newest_content (contents_in number versions) ≡ content_in number contents
newest_in number versions contents some is =
    let n = length versions - 1 in
    newest_at (contents_in number versions) n (omega (arith, length-map versions (content_in number)))
    ∙ get_or_from_slice_get (contents_in number versions) n (content_in number contents) [] (map_there (content_in number) versions n contents (omega arith) is)

pub newest_is : (number : ℕ) (versions : List Contents) (contents : Contents) (r : Option (Bor (Arc (List Row) Global))) → 0 < length versions → contents ≡ get_or versions (length versions - 1) contents
    → MatchOption r (length contents ≤ number) (λ x. (number < length contents) × ((d : Arc (List Row) Global) → x.now ≡ get_or contents number d))
    → MatchOption r (newest_content (contents_in number versions) ≡ []) (λ x. newest_content (contents_in number versions) ≡ x.now.value)
newest_is number versions contents None some is h =
    newest_in number versions contents some is ∙ past (map (λ (a : Arc (List Row) Global). a.value) contents) number [] (omega (arith, h, length-map contents (λ (a : Arc (List Row) Global). a.value)))
newest_is number versions contents (Some x) some is h =
    newest_in number versions contents some is ∙ get_or_from_slice_get (map (λ (a : Arc (List Row) Global). a.value) contents) number x.now.value [] (map_there (λ (a : Arc (List Row) Global). a.value) contents number x.now h.0 (h.1 x.now))

pub no_newest : (number : ℕ) (versions : List Contents) → length versions ≡ 0 → newest_content (contents_in number versions) ≡ []
no_newest number [] e = refl
no_newest number (v ∷ versions) e = absurd (omega arith)
