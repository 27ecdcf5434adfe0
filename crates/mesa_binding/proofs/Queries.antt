-- A query's steps, one after another.
use Rattle.std.proofs.Common.{◌≡◌, ℕ, List, refl, ap, sym, subst, Option, Some, None, Result, Ok, Err}
use Rattle.std.specs.Prelude.{IsOk}
use Rattle.mesa_list.specs.Checks.{◌>>=◌, refused_as}
use Rattle.mesa_schema.specs.Changes.{epoch_of}
use Rattle.mesa_model.specs.mesa_columns.Columns.{Columns}
use Rattle.mesa_filter.specs.declared.words.QueryWords.{QueryWords}
use Rattle.mesa_filter.specs.declared.words.QueryError.{QueryError}
use Rattle.mesa_filter.specs.Asked.{Asked, asked_of}
use Rattle.mesa_filter.specs.Query.{built, query_of}
use Rattle.mesa_filter.specs.Resume.{resume_of}
use Rattle.mesa_model.specs.declared.replies.Refusal.{Refusal}
use Rattle.mesa_model.specs.Query.{answer_over, query_answer, store_asked, version_seen}
use Rattle.mesa_model.specs.Refusals.{no_such_table, query_refusal}
use Rattle.mesa_model.specs.Relations.{Relation, relation_columns, relation_of}
use Rattle.mesa_model.specs.Warehouse.{Store, Warehouse}
use Rattle.mesa_binding.specs.declared.failure.Failure.{Failure}
use Rattle.mesa_binding.specs.declared.failure.Failure.TheVariants.{Memory, Refused}
use Rattle.mesa_binding.specs.Told.{IsDue}

-- what is due is told by the first step that refuses
due_first : {A B : Type 0} (failure : Failure) (first : Result A Refusal) (next : A → Result B Refusal) → IsDue first failure → IsDue (first >>= next) failure
due_first Memory first next due = tt
due_first (Refused r) first next due = ap (λ x. x >>= next) due

-- what is done behind a step that refuses doesn't matter
due_same : {A B C : Type 0} (failure : Failure) (first : Result A QueryError) (f : A → B) (g : A → C) → IsDue (refused_as query_refusal (first >>= λ a. Ok (f a))) failure → IsDue (refused_as query_refusal first >>= λ a. Ok (g a)) failure
due_same Memory first f g due = tt
due_same (Refused r) (Ok a) f g due = absurd cc
due_same (Refused r) (Err e) f g due = cc

ok_there : {A E : Type 0} (r : Result A E) → IsOk r → (a : A) × (r ≡ Ok a)
ok_there (Ok a) h = (a, refl)
ok_there (Err e) h = absurd cc

pub no_tables : (w : Warehouse) (session : ℕ) (words : QueryWords) (r : Refusal) → w.closed ≡ None → store_asked w session words.version ≡ Err r → query_answer w session words ≡ Err r
no_tables w session words r opened tables = rw (opened, tables) refl

pub no_relation : (w : Warehouse) (session : ℕ) (words : QueryWords) (s : Store) → w.closed ≡ None → store_asked w session words.version ≡ Ok s → relation_of s words.relation ≡ None → query_answer w session words ≡ Err no_such_table
no_relation w session words s opened tables relation = rw (opened, tables, relation) refl

pub not_asked : (w : Warehouse) (session : ℕ) (words : QueryWords) (s : Store) (r : Relation) (failure : Failure) → w.closed ≡ None → store_asked w session words.version ≡ Ok s → relation_of s words.relation ≡ Some r → IsDue (refused_as query_refusal (asked_of (relation_columns r) words)) failure → IsDue (query_answer w session words) failure
not_asked w session words s r failure opened tables relation due =
    let one : query_answer w session words ≡ (refused_as query_refusal (asked_of (relation_columns r) words) >>= λ asked. version_seen w s r.table words.version >>= λ version. refused_as query_refusal (resume_of (relation_columns r) words.relation version (epoch_of r.table.lineage) asked.columns words.resume) >>= λ resume. Ok (answer_over r words version asked resume)) = rw (opened, tables, relation) refl in
    subst (λ x. IsDue x failure) (sym one) (due_first failure (refused_as query_refusal (asked_of (relation_columns r) words)) _ due)

pub no_version : (w : Warehouse) (session : ℕ) (words : QueryWords) (s : Store) (r : Relation) (refusal : Refusal) → w.closed ≡ None → store_asked w session words.version ≡ Ok s → relation_of s words.relation ≡ Some r → IsOk (asked_of (relation_columns r) words) → version_seen w s r.table words.version ≡ Err refusal → query_answer w session words ≡ Err refusal
no_version w session words s r refusal opened tables relation asked version =
    let a = ok_there (asked_of (relation_columns r) words) asked in
    rw (opened, tables, relation, a.1, version) refl

not_built_of : (w : Warehouse) (session : ℕ) (words : QueryWords) (s : Store) (r : Relation) (asked : Asked) (version : ℕ) (failure : Failure) → w.closed ≡ None → store_asked w session words.version ≡ Ok s → relation_of s words.relation ≡ Some r → asked_of (relation_columns r) words ≡ Ok asked → version_seen w s r.table words.version ≡ Ok version → IsDue (refused_as query_refusal (query_of (relation_columns r) words.relation version (epoch_of r.table.lineage) words)) failure → IsDue (query_answer w session words) failure
not_built_of w session words s r asked version failure opened tables relation is there due =
    let resume = resume_of (relation_columns r) words.relation version (epoch_of r.table.lineage) asked.columns words.resume in
    let one : query_answer w session words ≡ (refused_as query_refusal resume >>= λ resume. Ok (answer_over r words version asked resume)) = rw (opened, tables, relation, is, there) refl in
    let query : query_of (relation_columns r) words.relation version (epoch_of r.table.lineage) words ≡ (resume >>= λ resume. Ok (built (relation_columns r) words.relation version (epoch_of r.table.lineage) words asked resume)) = rw is refl in
    subst (λ x. IsDue x failure) (sym one) (due_same failure resume _ _ (subst (λ x. IsDue (refused_as query_refusal x) failure) query due))

pub not_built : (w : Warehouse) (session : ℕ) (words : QueryWords) (s : Store) (r : Relation) (version : ℕ) (failure : Failure) → w.closed ≡ None → store_asked w session words.version ≡ Ok s → relation_of s words.relation ≡ Some r → IsOk (asked_of (relation_columns r) words) → version_seen w s r.table words.version ≡ Ok version → IsDue (refused_as query_refusal (query_of (relation_columns r) words.relation version (epoch_of r.table.lineage) words)) failure → IsDue (query_answer w session words) failure
not_built w session words s r version failure opened tables relation asked there due =
    let a = ok_there (asked_of (relation_columns r) words) asked in
    not_built_of w session words s r a.0 version failure opened tables relation a.1 there due

pub answered : (w : Warehouse) (session : ℕ) (words : QueryWords) (s : Store) (r : Relation) (asked : Asked) (version : ℕ) (resume : Option (List ℕ)) → w.closed ≡ None → store_asked w session words.version ≡ Ok s → relation_of s words.relation ≡ Some r → asked_of (relation_columns r) words ≡ Ok asked → version_seen w s r.table words.version ≡ Ok version → resume_of (relation_columns r) words.relation version (epoch_of r.table.lineage) asked.columns words.resume ≡ Ok resume → query_answer w session words ≡ Ok (answer_over r words version asked resume)
answered w session words s r asked version resume opened tables relation is there after = rw (opened, tables, relation, is, there, after) refl

-- the same refusal is due where the columns are the relation's
pub not_built_by : (w : Warehouse) (session : ℕ) (words : QueryWords) (store : Store) (r : Relation) (s : Columns) (version : ℕ) (failure : Failure) → w.closed ≡ None → store_asked w session words.version ≡ Ok store → relation_of store words.relation ≡ Some r → s ≡ relation_columns r → IsOk (asked_of s words) → version_seen w store r.table words.version ≡ Ok version → IsDue (refused_as query_refusal (query_of s words.relation version (epoch_of r.table.lineage) words)) failure → IsDue (query_answer w session words) failure
not_built_by w session words store r s version failure opened tables relation same asked there due =
    not_built w session words store r version failure opened tables relation
    (subst (λ (s : Columns). IsOk (asked_of s words)) same asked) there
    (subst (λ (s : Columns). IsDue (refused_as query_refusal (query_of s words.relation version (epoch_of r.table.lineage) words)) failure) same due)
