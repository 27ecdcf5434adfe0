-- Pages that are looked up and kept.
use Rattle.std.proofs.Common.{◌≡◌, ℕ, nat_eq, inl, inr, List, Contains, Some, Result, Ok, Err, OnOk, OnErr, sym, subst}
use Rattle.std.specs.Map.{lookup}
use Rattle.std.proofs.lemmas.Bool.{eqb-true}
use Rattle.lru.specs.LruCache.{LruCache, promoted, put_entries, lru_cache}
use Rattle.lru.proofs.CallerLemmas.{Contains-lookup, Contains-promoted, Contains-put_entries}
use Rattle.mesa_cache.specs.Pages.{AreAmong, AreWith}

-- the page that a look-up finds is kept under its number
pub found_is_kept : (number : ℕ) (pages : List (ℕ × List ℕ)) (page : List ℕ) → lookup (nat_eq number) pages ≡ Some page → Contains pages (number, page)
found_is_kept number pages page h =
    let at = Contains-lookup (nat_eq number) pages page h in
    subst (λ n. Contains pages (n, page)) (sym (eqb-true number at.0 at.2)) at.1

pub promoted_among : (number : ℕ) (pages : List (ℕ × List ℕ)) → AreAmong (promoted (nat_eq number) pages) pages
promoted_among number pages n p = Contains-promoted (nat_eq number) pages (n, p)

pub put_with : (number : ℕ) (page : List ℕ) (pages : LruCache ℕ (List ℕ)) → AreWith number page (put_entries nat_eq pages number page) pages.entries
put_with number page pages n p is = elim (Contains-put_entries nat_eq pages number page (n, p) is) [
  | inl old ↦ inl old
  | inr put ↦ inr (
    (elim put.1 [
      | inl same ↦ same
      | inr there ↦ sym (eqb-true number n there.2)
    ]),
    put.0,
  )
]

-- a page that was put where there was memory for it
pub kept_with : {V E : Type 0} (r : Result V E) (number : ℕ) (page : List ℕ) (old new : LruCache ℕ (List ℕ)) → OnOk r (new ≡ lru_cache (put_entries nat_eq old number page) old.cap) → OnErr r (new ≡ old) → AreWith number page new.entries old.entries
kept_with (Ok v) number page old new put err = subst (λ c. AreWith number page c.entries old.entries) (sym put) (put_with number page old)
kept_with (Err e) number page old new put err = subst (λ c. AreWith number page c.entries old.entries) (sym err) (λ n p is. inl is)
