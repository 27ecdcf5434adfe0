-- Resume keys: their prefix, and the key behind it.
use Rattle.std.proofs.Common.{◌≡◌, ℕ, List, [], ◌∷◌, length, take, Bool, false, refl, sym, ◌∙◌, ap, Option, Ok, Err}
use Rattle.std.specs.Prelude.{◌==◌, nat_eq}
use Rattle.std.specs.List.{starts_with}
use Rattle.std.proofs.lemmas.Cmp.{nat_list_eq_equiv}
use lib.Pointwise.{pointwise}
use Rattle.mesa_fold.specs.mesa_key.declared.KeyType.{KeyType}
use Rattle.mesa_fold.specs.mesa_columns.Columns.{Columns, chosen, kinds_of}
use Rattle.mesa_filter.specs.declared.words.QueryWords.{QueryWords}
use Rattle.mesa_filter.specs.declared.words.QueryError.{QueryError}
use Rattle.mesa_filter.specs.declared.words.QueryError.TheVariants.{BadResume}
use Rattle.mesa_filter.specs.Asked.{Asked, asked_of}
use Rattle.mesa_filter.specs.Resume.{resume_behind, resume_of, resume_prefix}
use Rattle.mesa_filter.specs.Query.{query_of}

begins : (prefix words : List ℕ) (t : Bool) → pointwise nat_eq (take (length prefix) words) prefix ≡ t → starts_with nat_eq words prefix ≡ t
begins prefix words t e = nat_list_eq_equiv.symm prefix (take (length prefix) words) ∙ e

-- Another query's resume key.
pub other_prefix : (kinds : List KeyType) (prefix words : List ℕ) → (length words == 0) ≡ false → pointwise nat_eq (take (length prefix) words) prefix ≡ false → resume_behind kinds prefix words ≡ Err BadResume
other_prefix kinds prefix [] h e = cc
other_prefix kinds prefix (b ∷ words) h e = rw (begins prefix (b ∷ words) false e) refl

-- A resume key that is this query's own, in the code's words,
pub own_resume : (s : Columns) (relation : List ℕ) (version epoch : ℕ) (words : QueryWords) (columns : List ℕ) (kinds : List KeyType) (prefix resume : List ℕ) (key : Option (List ℕ))
    → kinds ≡ chosen columns (kinds_of s) → prefix ≡ resume_prefix s relation version epoch columns → resume ≡ words.resume → resume_behind kinds prefix resume ≡ Ok key → resume_of s relation version epoch columns words.resume ≡ Ok key
own_resume s relation version epoch words columns kinds prefix resume key k p r e =
    ap (λ xs. resume_behind (chosen columns (kinds_of s)) (resume_prefix s relation version epoch columns) xs) (sym r)
    ∙ ap (λ xs. resume_behind (chosen columns (kinds_of s)) xs resume) (sym p) ∙ ap (λ ks. resume_behind ks prefix resume) (sym k) ∙ e

-- and one that refuses its query.
pub resume_refused : (s : Columns) (relation : List ℕ) (version epoch : ℕ) (words : QueryWords) (asked : Asked) (kinds : List KeyType) (prefix resume : List ℕ) (e : QueryError) → asked_of s words ≡ Ok asked
    → kinds ≡ chosen asked.columns (kinds_of s) → prefix ≡ resume_prefix s relation version epoch asked.columns → resume ≡ words.resume → resume_behind kinds prefix resume ≡ Err e → query_of s relation version epoch words ≡ Err e
resume_refused s relation version epoch words asked kinds prefix resume e a k p r f =
    let refused : resume_of s relation version epoch asked.columns words.resume ≡ Err e =
    ap (λ xs. resume_behind (chosen asked.columns (kinds_of s)) (resume_prefix s relation version epoch asked.columns) xs) (sym r)
    ∙ ap (λ xs. resume_behind (chosen asked.columns (kinds_of s)) xs resume) (sym p) ∙ ap (λ ks. resume_behind ks prefix resume) (sym k) ∙ f in
    rw (a, refused) refl
