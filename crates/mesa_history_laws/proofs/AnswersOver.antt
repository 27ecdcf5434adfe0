-- What an answer rests on: the relation's columns, and its rows at the version asked.
use Rattle.std.proofs.Common.{◌≡◌, ℕ, zero, suc, ◌+◌, List, [], ◌∷◌, map, set, get_or, Bool, true, false, cond, refl, sym, ◌∙◌, ap, subst, arith, Option, Some, None, Result, Ok, Err, option_map, ok_or}
use Rattle.mesa_history_spec.specs.mesa_list.Bytes.{same_bytes}
use Rattle.mesa_history_spec.specs.mesa_list.Checks.{◌>>=◌, ◌>>◌, refused_as}
use Rattle.mesa_history_spec.specs.mesa_columns.declared.rows.Row.{Row}
use Rattle.mesa_history_spec.specs.mesa_columns.declared.views.View.{View}
use Rattle.mesa_history_spec.specs.mesa_columns.Columns.{Columns}
use Rattle.mesa_history_spec.specs.mesa_schema.Changes.{Lineage, columns_of, epoch_of}
use Rattle.mesa_history_spec.specs.mesa_schema.Views.{view_columns, view_rows}
use Rattle.mesa_history_spec.specs.mesa_filter.declared.words.QueryWords.{QueryWords}
use Rattle.mesa_history_spec.specs.mesa_filter.declared.words.VersionWord.{VersionWord}
use Rattle.mesa_history_spec.specs.mesa_filter.Asked.{asked_of}
use Rattle.mesa_history_spec.specs.mesa_filter.Resume.{resume_of}
use Rattle.mesa_history_spec.specs.mesa_model.declared.replies.Refusal.{Refusal}
use Rattle.mesa_history_spec.specs.mesa_model.Warehouse.{Store, Table, Warehouse, content_at, no_table}
use Rattle.mesa_history_spec.specs.mesa_model.Versions.{version_asked}
use Rattle.mesa_history_spec.specs.mesa_model.Page.{page_of}
use Rattle.mesa_history_spec.specs.mesa_model.Relations.{Relation, relation_columns, relation_from, relation_of}
use Rattle.mesa_history_spec.specs.mesa_model.Refusals.{no_such_table, query_refusal, refuse_closed}
use Rattle.mesa_history_spec.specs.mesa_model.Query.{Answer, answer_over, answer_rows, heading_of, store_asked, version_seen}
use Rattle.mesa_history_laws.proofs.RelationNames.{first_of_both, relation_in, view_named}

-- what comes after a value is the same, where it is at that value
pub after_same : {A B E : Type 0} (r : Result A E) (f g : A → Result B E) → ((x : A) → r ≡ Ok x → f x ≡ g x) → (r >>= f) ≡ (r >>= g)
after_same (Ok x) f g same = same x refl
after_same (Err e) f g same = refl

-- ---- tables that are alike

-- A table has another's name, columns and views, and stands to it, by its number, in some relation.
pub record IsLike (P : ℕ → Table → Table → Type 0) (number : ℕ) (t other : Table) : Type 0 where
  pub name : other.name ≡ t.name
  pub lineage : other.lineage ≡ t.lineage
  pub holds : P number t other

-- the same of tables from a number on, one by one
abbrev pub AreLike : (ℕ → Table → Table → Type 0) → ℕ → List Table → List Table → Type 0
AreLike P number [] [] = Unit {0}
AreLike P number (t ∷ ts) (other ∷ others) = IsLike P number t other × AreLike P (number + 1) ts others
AreLike P number ts others = ⊥

-- the same of relations that were found, if they were: of one number and view
abbrev pub FoundLike : (ℕ → Table → Table → Type 0) → Option Relation → Option Relation → Type 0
FoundLike P None None = Unit {0}
FoundLike P (Some r) (Some other) = (other.number ≡ r.number) × (other.view ≡ r.view) × IsLike P r.number r.table other.table
FoundLike P o others = ⊥

module _ (P : ℕ → Table → Table → Type 0) where
  -- every table is like itself
  pub like_same : ((number : ℕ) (t : Table) → P number t t) → (number : ℕ) (ts : List Table) → AreLike P number ts ts
  like_same same number [] = tt
  like_same same number (t ∷ ts) = (record { name = refl; lineage = refl; holds = same number t }, like_same same (number + 1) ts)

  -- what leaves names, columns and views makes tables that are alike
  pub like_mapped : (f : Table → Table) → ((t : Table) → (f t).name ≡ t.name) → ((t : Table) → (f t).lineage ≡ t.lineage) → ((number : ℕ) (t : Table) → P number t (f t)) → (number : ℕ) (ts : List Table) → AreLike P number ts (map f ts)
  like_mapped f names lineages holds number [] = tt
  like_mapped f names lineages holds number (t ∷ ts) = (record { name = names t; lineage = lineages t; holds = holds number t }, like_mapped f names lineages holds (number + 1) ts)

  -- also where it is done to one
  pub like_set : (f : Table → Table) → ((t : Table) → (f t).name ≡ t.name) → ((t : Table) → (f t).lineage ≡ t.lineage) → ((number : ℕ) (t : Table) → P number t t)
      → (number place : ℕ) → ((t : Table) → P (number + place) t (f t)) → (ts : List Table) → AreLike P number ts (set ts place (f (get_or ts place no_table)))
  like_set f names lineages same number place holds [] = tt
  like_set f names lineages same number zero holds (t ∷ ts) =
      let at : number + 0 ≡ number = omega arith in
      (record { name = names t; lineage = lineages t; holds = subst (λ n. P n t (f t)) at (holds t) }, like_same same (number + 1) ts)
  like_set f names lineages same number (suc place) holds (t ∷ ts) =
      let at : number + suc place ≡ number + 1 + place = omega arith in
      (record { name = refl; lineage = refl; holds = same number t }, like_set f names lineages same (number + 1) place (λ x. subst (λ n. P n x (f x)) at (holds x)) ts)

  view_like : (number : ℕ) (t other : Table) → IsLike P number t other → (o : Option View) → FoundLike P (option_map (λ view. record { number = number; table = t; view = Some view }) o) (option_map (λ view. record { number = number; table = other; view = Some view }) o)
  view_like number t other like None = tt
  view_like number t other like (Some view) = (refl, refl, like)

  by_name : (number : ℕ) (t other : Table) → IsLike P number t other → (b : Bool) (o : Option View)
      → FoundLike P (cond b (Some (record { number = number; table = t; view = None })) (option_map (λ view. record { number = number; table = t; view = Some view }) o)) (cond b (Some (record { number = number; table = other; view = None })) (option_map (λ view. record { number = number; table = other; view = Some view }) o))
  by_name number t other like true o = (refl, refl, like)
  by_name number t other like false o = view_like number t other like o

  in_like : (number : ℕ) (name : List ℕ) (t other : Table) → IsLike P number t other → FoundLike P (relation_in number name t) (relation_in number name other)
  in_like number name t other like =
      subst (FoundLike P (relation_in number name t))
      (λ i. cond (same_bytes name (sym like.name i)) (Some (record { number = number; table = other; view = None })) (option_map (λ view. record { number = number; table = other; view = Some view }) (view_named name (sym like.lineage i).views)))
      (by_name number t other like (same_bytes name t.name) (view_named name t.lineage.views))

  first_like : (o others rest more : Option Relation) → FoundLike P o others → FoundLike P rest more → FoundLike P (first_of_both o rest) (first_of_both others more)
  first_like None None rest more like then = then
  first_like (Some r) (Some other) rest more like then = like
  first_like None (Some other) rest more like then = absurd like
  first_like (Some r) None rest more like then = absurd like

  -- A name finds relations that are alike.
  pub from_like : (number : ℕ) (name : List ℕ) (ts others : List Table) → AreLike P number ts others → FoundLike P (relation_from number name ts) (relation_from number name others)
  from_like number name [] [] like = tt
  from_like number name (t ∷ ts) (other ∷ others) like =
      first_like (relation_in number name t) (relation_in number name other) _ _ (in_like number name t other like.0) (from_like (number + 1) name ts others like.1)
  from_like number name [] (other ∷ others) like = absurd like
  from_like number name (t ∷ ts) [] like = absurd like

-- ---- answers

-- the answer over some tables, once it is told which version is seen of a table
abbrev pub answer_in : Store → QueryWords → (Table → Result ℕ Refusal) → Result Answer Refusal
answer_in store words seen = do
  relation ← ok_or (relation_of store words.relation) no_such_table
  asked ← refused_as query_refusal (asked_of (relation_columns relation) words)
  version ← seen relation.table
  resume ← refused_as query_refusal (resume_of (relation_columns relation) words.relation version (epoch_of relation.table.lineage) asked.columns words.resume)
  Ok (answer_over relation words version asked resume)

-- one version is seen of every table
abbrev pub at_version : ℕ → Table → Result ℕ Refusal
at_version version t = Ok version

-- the version that this asks for of a present table
abbrev pub present_version : Warehouse → VersionWord → Table → Result ℕ Refusal
present_version w version t = version_asked w t.oldest version

-- the answer to a query that asks for this version
abbrev pub answer_at : Warehouse → ℕ → QueryWords → VersionWord → Result Answer Refusal
answer_at w session words version = refuse_closed w.closed >> (store_asked w session version >>= (λ store. answer_in store words (λ t. version_seen w store t version)))

-- a table's columns, or those of a view of it
abbrev pub columns_seen : Columns → Option View → Columns
columns_seen s None = s
columns_seen s (Some view) = view_columns s view

-- a table's rows, or those of a view of it
abbrev pub rows_seen : Columns → Option View → List Row → List Row
rows_seen s None rows = rows
rows_seen s (Some view) rows = view_rows s view rows

-- what a query is answered over columns and a view, once it is told which version is seen, with the rows at each version
abbrev pub answer_from : QueryWords → Option View → Lineage → Result ℕ Refusal → (ℕ → List Row) → Result Answer Refusal
answer_from words view l seen rows = do
  asked ← refused_as query_refusal (asked_of (columns_seen (columns_of l) view) words)
  version ← seen
  resume ← refused_as query_refusal (resume_of (columns_seen (columns_of l) view) words.relation version (epoch_of l) asked.columns words.resume)
  Ok (record {
    page = page_of version words.limit resume (answer_rows (columns_seen (columns_of l) view) asked (rows_seen (columns_of l) view (rows version)));
    heading = heading_of (columns_seen (columns_of l) view) words version (epoch_of l) asked;
  })

-- the answer over a relation, if there is one
abbrev pub answer_of : QueryWords → (Table → Result ℕ Refusal) → Option Relation → Result Answer Refusal
answer_of words seen o = ok_or o no_such_table >>= (λ (r : Relation). answer_from words r.view r.table.lineage (seen r.table) (content_at r.table))

-- the same version is seen of one table and of another, and they have the same rows at it
pub record SeesSame (seen later : Table → Result ℕ Refusal) (t other : Table) : Type 0 where
  pub version : later other ≡ seen t
  pub rows : (version : ℕ) → seen t ≡ Ok version → content_at other version ≡ content_at t version

module _ (P : ℕ → Table → Table → Type 0) (words : QueryWords) (seen later : Table → Result ℕ Refusal) where
  rows_same : (view : Option View) (l : Lineage) (version : Result ℕ Refusal) (rows other : ℕ → List Row) → ((v : ℕ) → version ≡ Ok v → other v ≡ rows v) → answer_from words view l version other ≡ answer_from words view l version rows
  rows_same view l version rows other same =
      after_same (refused_as query_refusal (asked_of (columns_seen (columns_of l) view) words)) _ _ (λ asked is.
      after_same version _ _ (λ v told.
      after_same (refused_as query_refusal (resume_of (columns_seen (columns_of l) view) words.relation v (epoch_of l) asked.columns words.resume)) _ _ (λ resume reads.
      ap (λ (found : List Row). Ok (record {
        page = page_of v words.limit resume (answer_rows (columns_seen (columns_of l) view) asked (rows_seen (columns_of l) view found));
        heading = heading_of (columns_seen (columns_of l) view) words v (epoch_of l) asked;
      })) (same v told))))

  same_of : (o others : Option Relation) → FoundLike P o others → ((r : Relation) (other : Table) → o ≡ Some r → P r.number r.table other → SeesSame seen later r.table other) → answer_of words later others ≡ answer_of words seen o
  same_of None None like sees = refl
  same_of (Some r) (Some other) like sees =
      let same : SeesSame seen later r.table other.table = sees r other.table refl like.2.holds in
      (λ i. answer_from words (like.1 i) (like.2.lineage i) (same.version i) (content_at other.table))
      ∙ rows_same r.view r.table.lineage (seen r.table) (content_at r.table) (content_at other.table) same.rows
  same_of None (Some other) like sees = absurd like
  same_of (Some r) None like sees = absurd like

  -- Tables of which the same version is seen, and which have the same rows at it, give the same answer.
  pub answers_same : (s other : Store) → AreLike P 0 s.tables other.tables
      → ((r : Relation) (t : Table) → relation_of s words.relation ≡ Some r → P r.number r.table t → SeesSame seen later r.table t) → answer_in other words later ≡ answer_in s words seen
  answers_same s other like sees = same_of (relation_of s words.relation) (relation_of other words.relation) (from_like P 0 words.relation s.tables other.tables like) sees
