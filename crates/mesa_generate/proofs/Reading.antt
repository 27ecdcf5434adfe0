-- What a generated script says: commands that aren't queries, and three queries behind them, all of one session.
use Rattle.std.proofs.Common.{◌≡◌, ℕ, zero, suc, ◌+◌, ◌-◌, ◌≤◌, ◌<◌, ◌==◌, List, [], ◌∷◌, ◌++◌, length, Bool, true, false, refl, sym, ap, subst, ◌∙◌, append_assoc, append-nil, arith, Option, Some, None, Result, Ok, Err, ok_or, slice_get, nat_le}
use Rattle.std.specs.Prelude.{⊤, codes, if◌then◌else◌, slice_index_or, ◌%◌}
use Rattle.std.specs.Fmt.{decimal}
use Rattle.std.specs.List.{AllByRecursion}
use Rattle.std.proofs.lemmas.List.{length-append}
use Rattle.mesa_invariant_spec.specs.mesa_list.Checks.{◌>>=◌, ◌>>◌, each_of, refuse_if, refuse_unless, refused_as}
use Rattle.mesa_invariant_spec.specs.mesa_list.Split.{entries_of}
use Rattle.mesa_invariant_spec.specs.mesa_script.Words.{key_words, limit_of, max_number, number_in, value_words, version_of}
use Rattle.mesa_invariant_spec.proofs.mesa_columns.Lists.{all_append}
use Rattle.mesa_model.specs.declared.commands.Command.{Command}
use Rattle.mesa_model.specs.declared.commands.Command.TheVariants as command
use Rattle.mesa_model.specs.declared.commands.Script.{Script}
use Rattle.mesa_invariant_spec.specs.mesa_history_spec.Run.{command_at, commands_of}
use Rattle.mesa_invariant_spec.specs.mesa_script.declared.script.Reason.{Reason}
use Rattle.mesa_invariant_spec.specs.mesa_script.declared.script.Reason.TheVariants as reason
use Rattle.mesa_invariant_spec.specs.mesa_script.declared.script.ScriptError.{ScriptError}
use Rattle.mesa_invariant_spec.specs.mesa_script.declared.script.ScriptError.TheVariants as bad
use Rattle.mesa_invariant_spec.specs.mesa_script.Generated.{draw, generated}
use Rattle.mesa_invariant_spec.specs.mesa_script.Items.{EndOfLoad, Item, LeaseOf, NextSession, RowOf, Single, expire_words, item_of, parts_of}
use Rattle.mesa_invariant_spec.specs.mesa_script.Records.{Alter, Commit, Expire, Explain, Lease, Name, Pin, Query, Release, Row, Session, Table, View, Work, Recast, field, fits_fields, name_of}
use Rattle.mesa_invariant_spec.specs.mesa_script.Script.{Read, fits_order, item_at, max_commands, nothing_read, read_from, records_of, script_from, script_of, with_item, with_record}
use Rattle.mesa_generate.specs.Excerpt.{before_last_three, is_unasked}
use Rattle.mesa_generate.proofs.LastRecords.{HasField, all_records, expiry_records, generated_records, query_records, row_fields, row_records, day_record, sites_record, table_record, totals_record, version_records, view_record}

-- ---- what an outcome says of what came before it

bound : {A B E : Type 0} (r : Result A E) (f : A → Result B E) (y : B) → (r >>= f) ≡ Ok y → (x : A) × (r ≡ Ok x) × (f x ≡ Ok y)
bound (Ok x) f y h = (x, refl, h)
bound (Err e) f y h = absurd cc

passed : {A B E : Type 0} (r : Result A E) (next : Result B E) (y : B) → (r >> next) ≡ Ok y → next ≡ Ok y
passed (Ok x) next y h = h
passed (Err e) next y h = absurd cc

found : {A B E : Type 0} (o : Option A) (e : E) (x : A) (f : A → Result B E) (y : B) → o ≡ Some x → (ok_or o e >>= f) ≡ Ok y → f x ≡ Ok y
found None e x f y is h = absurd cc
found (Some z) e x f y is h = (let same : z ≡ x = cc in subst (λ w. f w ≡ Ok y) same h)

other : {A B D E : Type 0} (say : D → E) (r : Result A D) (f : A → Result B E) (y : B) → (refused_as say r >>= f) ≡ Ok y → (x : A) × (r ≡ Ok x) × (f x ≡ Ok y)
other say (Ok x) f y h = (x, refl, h)
other say (Err d) f y h = absurd cc

-- ---- items

-- names of records that say no query, no session and no lease
abbrev is_plain_name : Name → Bool
is_plain_name Table = true
is_plain_name View = true
is_plain_name Row = true
is_plain_name Commit = true
is_plain_name Expire = true
is_plain_name Work = true
is_plain_name n = false

-- such a record, or one of the queries
abbrev IsPlainItem : Item → Type 0
IsPlainItem (LeaseOf n) = ⊥
IsPlainItem NextSession = ⊥
IsPlainItem (RowOf row) = ⊤
IsPlainItem EndOfLoad = ⊤
IsPlainItem (Single c) = is_unasked c ≡ true

abbrev IsSingle : Item → Type 0
IsSingle (LeaseOf n) = ⊥
IsSingle NextSession = ⊥
IsSingle (RowOf row) = ⊥
IsSingle EndOfLoad = ⊥
IsSingle (Single c) = ⊤

item_is : (a item : Item) → ◌≡◌ {A = Result Item Reason} (Ok a) (Ok item) → a ≡ item
item_is a item is = cc

-- what is so of an item that was read
record Says (P : Item → Type 0) (r : Result Item Reason) : Type 0 where
  holds : (item : Item) → r ≡ Ok item → P item

says_it : (P : Item → Type 0) (a : Item) → P a → Says P (Ok a)
says_it P a is = record { holds = λ item e. subst P (item_is a item e) is }

says_none : (P : Item → Type 0) (e : Reason) → Says P (Err e)
says_none P e = record { holds = λ item is. absurd cc }

says_then : (P : Item → Type 0) {A : Type 0} (r : Result A Reason) (f : A → Result Item Reason) → ((x : A) → Says P (f x)) → Says P (r >>= f)
says_then P (Ok x) f all = all x
says_then P (Err e) f all = says_none P e

-- a command that is made of a word
says_of : (P : Item → Type 0) {A : Type 0} (r : Result A Reason) (f : A → Command) → ((x : A) → P (Single (f x))) → Says P ((r >>= (λ x. Ok (f x))) >>= (λ c. Ok (Single c)))
says_of P (Ok x) f all = says_it P (Single (f x)) (all x)
says_of P (Err e) f all = says_none P e

expiry_item : (named : Bool) (f : List (List ℕ)) → Says IsPlainItem (expire_words named f >>= (λ c. Ok (Single c)))
expiry_item false f = says_of IsPlainItem (number_in 0 max_number (field 1 f)) (λ n. command.Expire None n) (λ n. refl)
expiry_item true f = says_of IsPlainItem (number_in 0 max_number (field 2 f)) (λ n. command.Expire (Some (field 1 f)) n) (λ n. refl)

plain_item : (n : Name) (f : List (List ℕ)) → is_plain_name n ≡ true → Says IsPlainItem (item_of n f)
plain_item Table f is = says_then IsPlainItem (each_of key_words (entries_of (field 2 f))) _ (λ keys. says_then IsPlainItem (each_of value_words (entries_of (field 3 f))) _ (λ values. says_it IsPlainItem (Single _) refl))
plain_item View f is = says_it IsPlainItem (Single _) refl
plain_item Row f is = says_it IsPlainItem (RowOf _) tt
plain_item Commit f is = says_it IsPlainItem EndOfLoad tt
plain_item Expire f is = expiry_item (length f == 3) f
plain_item Work f is = says_then IsPlainItem (parts_of (length f == 3) f) _ (λ parts. says_it IsPlainItem (Single _) refl)
plain_item Lease f is = absurd cc
plain_item Session f is = absurd cc
plain_item Alter f is = absurd cc
plain_item Query f is = absurd cc
plain_item Explain f is = absurd cc
plain_item Pin f is = absurd cc
plain_item Release f is = absurd cc
plain_item Recast f is = absurd cc

query_item : (f : List (List ℕ)) → Says IsSingle (item_of Query f)
query_item f = says_then IsSingle (version_of true (field 2 f)) _ (λ version. says_then IsSingle (limit_of (field 6 f)) _ (λ limit. says_it IsSingle (Single _) tt))

item_named : (place : ℕ) (fields : List (List ℕ)) (rows : List _) (n : Name) (item : Item) → name_of (field 0 fields) ≡ Some n → item_at place fields rows ≡ Ok item → item_of n fields ≡ Ok item
item_named place fields rows n item is e =
    let named = found (name_of (field 0 fields)) reason.Unknown n _ item is e in
    passed (refuse_unless (fits_order place n rows) reason.Order) (item_of n fields) item (passed (refuse_unless (fits_fields n fields) reason.Fields) _ item named)

-- ---- what was read with a record more

-- so many commands more, of the same session
record Adds (r next : Read) (more : List Command) : Type 0 where
  finished : next.finished ≡ r.finished
  current : next.current ≡ r.current ++ more

adds_none : (r next : Read) → next.finished ≡ r.finished → next.current ≡ r.current → Adds r next []
adds_none r next finished current = record { finished = finished; current = current ∙ sym (append-nil r.current) }

adds_both : (a b c : Read) (x y : List Command) → Adds a b x → Adds b c y → Adds a c (x ++ y)
adds_both a b c x y p q = record { finished = q.finished ∙ p.finished; current = q.current ∙ ap (λ (l : List Command). l ++ y) p.current ∙ append_assoc a.current x y }

-- commands that are no queries
abbrev AreUnasked : List Command → Type 0
AreUnasked commands = AllByRecursion (λ (c : Command). is_unasked c ≡ true) commands

record AddsPlain (r next : Read) : Type 0 where
  more : List Command
  unasked : AreUnasked more
  adds : Adds r next more

with_one : (place : ℕ) (c : Command) (r next : Read) → (refuse_if (nat_le max_commands r.count) (bad.TooManyCommands place) >> Ok (record r { current = r.current ++ c ∷ []; rows = []; count = r.count + 1 })) ≡ Ok next → Adds r next (c ∷ [])
with_one place c r next e =
    let same : record r { current = r.current ++ c ∷ []; rows = []; count = r.count + 1 } ≡ next = (let ok = passed (refuse_if (nat_le max_commands r.count) (bad.TooManyCommands place)) _ next e in cc) in
    record { finished = ap (λ (x : Read). x.finished) (sym same); current = ap (λ (x : Read). x.current) (sym same) }

plain_more : (place : ℕ) (item : Item) (r next : Read) → IsPlainItem item → with_item place item r ≡ Ok next → AddsPlain r next
plain_more place (LeaseOf n) r next is e = absurd is
plain_more place NextSession r next is e = absurd is
plain_more place (RowOf row) r next is e = (let same : record r { rows = r.rows ++ row ∷ [] } ≡ next = cc in record { more = []; unasked = tt; adds = adds_none r next (ap (λ (x : Read). x.finished) (sym same)) (ap (λ (x : Read). x.current) (sym same)) })
plain_more place EndOfLoad r next is e = record { more = command.Load r.rows ∷ []; unasked = (refl, tt); adds = with_one place (command.Load r.rows) r next e }
plain_more place (Single c) r next is e = record { more = c ∷ []; unasked = (is, tt); adds = with_one place c r next e }

one_more : (place : ℕ) (item : Item) (r next : Read) → IsSingle item → with_item place item r ≡ Ok next → (c : Command) × Adds r next (c ∷ [])
one_more place (LeaseOf n) r next is e = absurd is
one_more place NextSession r next is e = absurd is
one_more place (RowOf row) r next is e = absurd is
one_more place EndOfLoad r next is e = absurd is
one_more place (Single c) r next is e = (c, with_one place c r next e)

-- a record of such a name
record IsPlainRecord (fields : List (List ℕ)) : Type 0 where
  name : Name
  is : name_of (field 0 fields) ≡ Some name
  plain : is_plain_name name ≡ true
  some : HasField fields

plain_record : (place : ℕ) (fields : List (List ℕ)) (r next : Read) → IsPlainRecord fields → with_record place fields r ≡ Ok next → AddsPlain r next
plain_record place fields r next is e =
    let item = other (bad.BadRecord place) (item_at place fields r.rows) _ next e in
    plain_more place item.0 r next ((plain_item is.name fields is.plain).holds item.0 (item_named place fields r.rows is.name item.0 is.is item.1)) item.2

query_record : (place : ℕ) (fields : List (List ℕ)) (r next : Read) → name_of (field 0 fields) ≡ Some Query → with_record place fields r ≡ Ok next → (c : Command) × Adds r next (c ∷ [])
query_record place fields r next is e =
    let item = other (bad.BadRecord place) (item_at place fields r.rows) _ next e in
    one_more place item.0 r next ((query_item fields).holds item.0 (item_named place fields r.rows Query item.0 is item.1)) item.2

-- ---- a whole script

record AddsAll (r next : Read) : Type 0 where
  before : List Command
  unasked : AreUnasked before
  queries : List Command
  three : length queries ≡ 3
  adds : Adds r next (before ++ queries)

at_end_same : (place : ℕ) (r next : Read) → read_from place [] r ≡ Ok next → r ≡ next
at_end_same place r next e = by (length r.rows == 0) e
  where
    by : (b : Bool) → (if b then Ok r else Err (bad.BadRecord place reason.Order)) ≡ Ok next → r ≡ next
    by true e = cc
    by false e = absurd cc

queries_read : (place : ℕ) (r next : Read) → read_from place query_records r ≡ Ok next → AddsAll r next
queries_read place r next e =
    let first = bound (with_record place totals_record r) (λ n. read_from (place + 1) (sites_record ∷ day_record ∷ []) n) next e in
    let one = query_record place totals_record r first.0 refl first.1 in
    let second = bound (with_record (place + 1) sites_record first.0) (λ n. read_from (place + 1 + 1) (day_record ∷ []) n) next first.2 in
    let two = query_record (place + 1) sites_record first.0 second.0 refl second.1 in
    let third = bound (with_record (place + 1 + 1) day_record second.0) (λ n. read_from (place + 1 + 1 + 1) [] n) next second.2 in
    let three = query_record (place + 1 + 1) day_record second.0 third.0 refl third.1 in
    let end = at_end_same (place + 1 + 1 + 1) third.0 next third.2 in
    record {
      before = [];
      unasked = tt;
      queries = one.0 ∷ two.0 ∷ three.0 ∷ [];
      three = refl;
      adds = subst (λ n. Adds r n (one.0 ∷ two.0 ∷ three.0 ∷ [])) end (adds_both r first.0 third.0 (one.0 ∷ []) (two.0 ∷ three.0 ∷ []) one.1 (adds_both first.0 second.0 third.0 (two.0 ∷ []) (three.0 ∷ []) two.1 three.1));
    }

rows_then : (place : ℕ) (rows : List (List (List ℕ))) (r next : Read) → AllByRecursion IsPlainRecord rows → read_from place (rows ++ query_records) r ≡ Ok next → AddsAll r next
rows_then place [] r next all e = queries_read place r next e
rows_then place (row ∷ rows) r next all e =
    let first = bound (with_record place row r) (λ n. read_from (place + 1) (rows ++ query_records) n) next e in
    let one = plain_record place row r first.0 all.0 first.1 in
    let rest = rows_then (place + 1) rows first.0 next all.1 first.2 in
    record {
      before = one.more ++ rest.before;
      unasked = all_append (λ (c : Command). is_unasked c ≡ true) one.more rest.before one.unasked rest.unasked;
      queries = rest.queries;
      three = rest.three;
      adds = subst (Adds r next) (sym (append_assoc one.more rest.before rest.queries)) (adds_both r first.0 next one.more (rest.before ++ rest.queries) one.adds rest.adds);
    }

-- ---- the records of a generated script

plain : (name : Name) (fields : List (List ℕ)) → name_of (field 0 fields) ≡ Some name → is_plain_name name ≡ true → HasField fields → IsPlainRecord fields
plain name fields is so some = record { name = name; is = is; plain = so; some = some }

rows_plain : (version j rows x : ℕ) (rest : ℕ → List (List (List ℕ))) → ((y : ℕ) → AllByRecursion IsPlainRecord (rest y)) → AllByRecursion IsPlainRecord (row_records version j rows x rest)
rows_plain version j zero x rest all = all x
rows_plain version j (suc rows) x rest all = (plain Row (row_fields version j (draw x) (draw (draw x)) (draw (draw (draw x)))) refl refl tt, rows_plain version (j + 1) rows (draw (draw (draw x))) rest all)

expiry_plain : (b : Bool) (row : List (List ℕ)) → IsPlainRecord row → AllByRecursion IsPlainRecord (if b then row ∷ [] else [])
expiry_plain true row is = (is, tt)
expiry_plain false row is = tt

versions_plain : (version versions x : ℕ) → AllByRecursion IsPlainRecord (version_records version versions x)
versions_plain version zero x = tt
versions_plain version (suc versions) x =
    let rest : ℕ → List (List (List ℕ)) = λ y. (codes "commit" ∷ []) ∷ (codes "work" ∷ codes "facts" ∷ []) ∷ (expiry_records version ++ version_records (version + 1) versions y) in
    let all : (y : ℕ) → AllByRecursion IsPlainRecord (rest y) = λ y. (
      plain Commit (codes "commit" ∷ []) refl refl tt,
      (
        plain Work (codes "work" ∷ codes "facts" ∷ []) refl refl tt,
        all_append IsPlainRecord (expiry_records version) (version_records (version + 1) versions y)
            (expiry_plain (version % 25 == 24) (codes "expire" ∷ decimal (version - 10) ∷ []) (plain Expire (codes "expire" ∷ decimal (version - 10) ∷ []) refl refl tt)) (versions_plain (version + 1) versions y),
      ),
    ) in
    rows_plain version 0 4 x rest all

plain_has : (rows : List (List (List ℕ))) → AllByRecursion IsPlainRecord rows → AllByRecursion HasField rows
plain_has [] all = tt
plain_has (row ∷ rows) all = (all.0.some, plain_has rows all.1)

all_have : (seed versions : ℕ) → AllByRecursion HasField (all_records seed versions)
all_have seed versions = (tt, (tt, all_append HasField (version_records 0 versions seed) query_records (plain_has (version_records 0 versions seed) (versions_plain 0 versions seed)) (tt, (tt, (tt, tt)))))

-- A script of one session, in which no query stands before the last three commands.
pub record EndsWithQueries (script : Script) : Type 0 where
  pub one : length script.sessions ≡ 1
  pub some : 3 ≤ length (commands_of script 0)
  pub unasked : (n : ℕ) (c : Command) → n ≤ before_last_three script → command_at script 0 n ≡ Some c → is_unasked c ≡ true

got_before : (before queries : List Command) (i : ℕ) (c : Command) → i < length before → slice_get (before ++ queries) i ≡ Some c → AreUnasked before → is_unasked c ≡ true
got_before [] queries i c lt is all = absurd (omega (arith, lt))
got_before (b ∷ before) queries zero c lt is all = (let same : b ≡ c = cc in subst (λ x. is_unasked x ≡ true) same all.0)
got_before (b ∷ before) queries (suc i) c lt is all = got_before before queries i c (omega (arith, lt)) is all.1

shape : (script : Script) (before queries : List Command) → script.sessions ≡ (before ++ queries) ∷ [] → length queries ≡ 3 → AreUnasked before → EndsWithQueries script
shape script before queries is three all = record {
  one = ap length is;
  some = (let long = ap length commands in omega (arith, long, length-append before queries, three));
  unasked = asked;
}
  where
    commands : commands_of script 0 ≡ before ++ queries
    commands = ap (λ (ss : List (List Command)). slice_index_or ss 0 []) is

    asked : (n : ℕ) (c : Command) → n ≤ before_last_three script → command_at script 0 n ≡ Some c → is_unasked c ≡ true
    asked zero c le known = absurd cc
    asked (suc i) c le known =
        got_before before queries i c (let long = ap length commands in omega (arith, le, long, length-append before queries, three)) (subst (λ cs. slice_get cs i ≡ Some c) commands known) all

pub ends_with_queries : (seed versions : ℕ) (script : Script) → script_of (generated seed versions) ≡ Ok script → EndsWithQueries script
ends_with_queries seed versions script e =
    let read = bound (read_from 1 (records_of (generated seed versions)) nothing_read) (λ r. Ok (script_from r)) script e in
    let same : script_from read.0 ≡ script = script_is _ script read.2 in
    let rows = subst (λ records. read_from 1 records nothing_read ≡ Ok read.0) (generated_records seed versions (all_have seed versions)) read.1 in
    let all = rows_then 1 (table_record ∷ view_record ∷ version_records 0 versions seed) nothing_read read.0 (plain Table table_record refl refl tt, (plain View view_record refl refl tt, versions_plain 0 versions seed)) rows in
    let sessions : script.sessions ≡ (all.before ++ all.queries) ∷ [] = ap (λ (s : Script). s.sessions) (sym same) ∙ (λ i. all.adds.finished i ++ all.adds.current i ∷ []) in
    shape script all.before all.queries sessions all.three all.unasked
  where
    script_is : (a b : Script) → ◌≡◌ {A = Result Script ScriptError} (Ok a) (Ok b) → a ≡ b
    script_is a b is = cc
