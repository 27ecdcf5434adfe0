-- Lists of names of which none is repeated.
use Rattle.std.proofs.Common.{◌≡◌, ℕ, zero, suc, List, [], ◌∷◌, ◌++◌, Bool, true, false, cond, refl, sym, ◌∙◌, subst, ◌||◌, Option, Some, None, is_none, is_some}
use Rattle.std.proofs.lemmas.Bool.{or_from, or_parts}
use Rattle.std.proofs.lemmas.Cmp.{nat_list_eq_equiv}
use Rattle.mesa_fold.specs.mesa_list.Bytes.{same_bytes}
use Rattle.mesa_columns.specs.Names.{has_name, repeated_after}
use Rattle.mesa_columns.specs.Changes.{without}
use Rattle.mesa_columns.proofs.Drops.{without-nil, without-suc}

-- each name is none of those before it
abbrev pub Apart : List (List ℕ) → List (List ℕ) → Type 0
Apart seen [] = Unit {0}
Apart seen (name ∷ names) = (has_name name seen ≡ false) × Apart (name ∷ seen) names

choice : {A : Type 0} (t : Bool) (x : A) (o : Option A) → is_none (cond t (Some x) o) ≡ true → (t ≡ false) × (is_none o ≡ true)
choice true x o h = cc
choice false x o h = (refl, h)

chosen : {A : Type 0} (t : Bool) (x : A) (o : Option A) → t ≡ false → is_none o ≡ true → is_none (cond t (Some x) o) ≡ true
chosen true x o e h = cc
chosen false x o e h = h

pub apart : (seen names : List (List ℕ)) → is_none (repeated_after seen names) ≡ true → Apart seen names
apart seen [] h = tt
apart seen (name ∷ names) h = let parts = choice (has_name name seen) name (repeated_after (name ∷ seen) names) h in (parts.0, apart (name ∷ seen) names parts.1)

pub unrepeated : (seen names : List (List ℕ)) → Apart seen names → is_none (repeated_after seen names) ≡ true
unrepeated seen [] h = refl
unrepeated seen (name ∷ names) h = chosen (has_name name seen) name (repeated_after (name ∷ seen) names) h.0 (unrepeated (name ∷ seen) names h.1)

pub not_some : {A : Type 0} (o : Option A) → is_some o ≡ false → is_none o ≡ true
not_some None h = refl
not_some (Some x) h = cc

pub is_nothing : {A : Type 0} (o : Option A) → is_none o ≡ true → o ≡ None
is_nothing None h = refl
is_nothing (Some x) h = cc

-- fewer names before
fewer : (seen less names : List (List ℕ)) → ((q : List ℕ) → has_name q seen ≡ false → has_name q less ≡ false) → Apart seen names → Apart less names
fewer seen less [] sub h = tt
fewer seen less (name ∷ names) sub h =
    (sub name h.0, fewer (name ∷ seen) (name ∷ less) names (λ q e. let parts = or_parts (same_bytes q name) (has_name q seen) e in or_from (same_bytes q name) (has_name q less) parts.0 (sub q parts.1)) h.1)

-- a name more before, that is none of these
one_before : (name : List ℕ) (seen names : List (List ℕ)) → has_name name names ≡ false → Apart seen names → Apart (name ∷ seen) names
one_before name seen [] none h = tt
one_before name seen (x ∷ names) none h =
    let parts = or_parts (same_bytes name x) (has_name name names) none in (
      or_from (same_bytes x name) (has_name x seen) (nat_list_eq_equiv.symm x name ∙ parts.0) h.0,
      fewer (name ∷ x ∷ seen) (x ∷ name ∷ seen) names
          (λ q e. let first = or_parts (same_bytes q name) (same_bytes q x || has_name q seen) e in let second = or_parts (same_bytes q x) (has_name q seen) first.1 in
          or_from (same_bytes q x) (same_bytes q name || has_name q seen) second.0 (or_from (same_bytes q name) (has_name q seen) first.0 second.1))
          (one_before name (x ∷ seen) names parts.1 h.1),
    )

-- A name more, somewhere among them.
pub apart_insert : (name : List ℕ) (seen a b : List (List ℕ)) → has_name name seen ≡ false → has_name name (a ++ b) ≡ false → Apart seen (a ++ b) → Apart seen (a ++ name ∷ b)
apart_insert name seen [] b new none h = (new, one_before name seen b none h)
apart_insert name seen (x ∷ a) b new none h =
    let parts = or_parts (same_bytes name x) (has_name name (a ++ b)) none in
    (h.0, apart_insert name (x ∷ seen) a b (or_from (same_bytes name x) (has_name name seen) parts.0 new) parts.1 h.1)

-- A name less.
pub apart_without : (i : ℕ) (seen names : List (List ℕ)) → Apart seen names → Apart seen (without i names)
apart_without i seen [] h = subst (Apart seen) (sym (without-nil i)) tt
apart_without zero seen (x ∷ names) h = fewer (x ∷ seen) seen names (λ q e. (or_parts (same_bytes q x) (has_name q seen) e).1) h.1
apart_without (suc i) seen (x ∷ names) h = subst (Apart seen) (sym (without-suc i x names)) (h.0, apart_without i (x ∷ seen) names h.1)
