-- Every record of a generated script is read.
use Rattle.std.proofs.Common.{◌≡◌, ℕ, zero, suc, ◌+◌, ◌-◌, ◌*◌, ◌≤◌, ◌<◌, List, [], ◌∷◌, ◌++◌, length, drop, Bool, true, false, refl, sym, ◌∙◌, ap, subst, append_assoc, arith, None, Result, Ok, Err}
use Rattle.std.specs.Prelude.{nat_le, codes, ◌==◌, ◌%◌, if◌then◌else◌}
use Rattle.std.specs.Fmt.{decimal}
use Rattle.std.proofs.lemmas.Bool.{lt-leb}
use Rattle.std.specs.List.{AllByRecursion}
use Rattle.mesa_invariant_spec.specs.mesa_list.Checks.{◌>>=◌, ◌>>◌, refuse_if, refused_as}
use Rattle.mesa_invariant_spec.proofs.mesa_columns.Lists.{all_append}
use Rattle.mesa_invariant_spec.specs.mesa_batch.declared.words.RowWords.{RowWords}
use Rattle.mesa_model.specs.declared.commands.Command.{Command}
use Rattle.mesa_model.specs.declared.commands.Command.TheVariants as command
use Rattle.mesa_model.specs.declared.commands.Script.{Script}
use Rattle.mesa_invariant_spec.specs.mesa_script.declared.script.Reason.{Reason}
use Rattle.mesa_invariant_spec.specs.mesa_script.declared.script.Reason.TheVariants as reason
use Rattle.mesa_invariant_spec.specs.mesa_script.declared.script.ScriptError.{ScriptError}
use Rattle.mesa_invariant_spec.specs.mesa_script.declared.script.ScriptError.TheVariants as bad
use Rattle.mesa_invariant_spec.specs.mesa_script.Generated.{draw, generated}
use Rattle.mesa_invariant_spec.specs.mesa_script.Items.{Item, Single}
use Rattle.mesa_invariant_spec.specs.mesa_script.Script.{Read, item_at, max_commands, nothing_read, read_from, script_from, script_of, with_item, with_record}
use Rattle.mesa_invariant_spec.specs.mesa_script.Words.{max_number}
use Rattle.mesa_generate.proofs.LastRecords.{HasField, all_records, day_record, expiry_records, generated_records, query_records, row_fields, row_records, sites_record, table_record, totals_record, version_records, view_record}
use Rattle.mesa_generate.specs.Seeds.{most_versions}
use Rattle.mesa_generate.proofs.Numbers.{number_back}

-- ---- one record

-- what was read with a command more
abbrev more : Command → Read → Read
more c r = record r { current = r.current ++ c ∷ []; rows = []; count = r.count + 1 }

one_more : (place : ℕ) (c : Command) (r : Read) → r.count < max_commands → (refuse_if (nat_le max_commands r.count) (bad.TooManyCommands place) >> Ok (more c r)) ≡ Ok (more c r)
one_more place c r lt = ap (λ (b : Bool). refuse_if b (bad.TooManyCommands place) >> Ok (more c r)) (lt-leb max_commands r.count lt)

commit_read : (place : ℕ) (r : Read) → r.count < max_commands → with_record place (codes "commit" ∷ []) r ≡ Ok (more (command.Load r.rows) r)
commit_read place r lt = one_more place (command.Load r.rows) r lt

-- a record that is a command by itself
abbrev Says : List (List ℕ) → Command → Type 0
Says fields c = (place : ℕ) → item_at place fields [] ≡ Ok (Single c)

single_read : (place : ℕ) (fields : List (List ℕ)) (c : Command) (r : Read) → Says fields c → r.rows ≡ [] → r.count < max_commands → with_record place fields r ≡ Ok (more c r)
single_read place fields c r says none lt =
    ap (λ (rows : List RowWords). refused_as (bad.BadRecord place) (item_at place fields rows) >>= (λ (i : Item). with_item place i r)) none
    ∙ ap (λ (o : Result Item Reason). refused_as (bad.BadRecord place) o >>= (λ (i : Item). with_item place i r)) (says place)
    ∙ one_more place c r lt

-- ---- records one after the other

-- these records are read, and those behind them, where there is room for so many commands
record Accepts (room : ℕ) (records : List (List (List ℕ))) : Type 0 where
  reads : (place : ℕ) (r : Read) → r.rows ≡ [] → r.count + room ≤ max_commands → (s : Read) × (read_from place records r ≡ Ok s)

then_rest : (place : ℕ) (fields : List (List ℕ)) (rest : List (List (List ℕ))) (r next : Read) → with_record place fields r ≡ Ok next → (s : Read) × (read_from (place + 1) rest next ≡ Ok s) → (s : Read) × (read_from place (fields ∷ rest) r ≡ Ok s)
then_rest place fields rest r next is read = (read.0, ap (λ (o : Result Read ScriptError). o >>= (λ (n : Read). read_from (place + 1) rest n)) is ∙ read.1)

then_single : (room : ℕ) (fields : List (List ℕ)) (c : Command) (rest : List (List (List ℕ))) → Says fields c → Accepts room rest → Accepts (1 + room) (fields ∷ rest)
then_single room fields c rest says accepts = record {
  reads = λ place r none few. then_rest place fields rest r (more c r) (single_read place fields c r says none (omega (arith, few))) (accepts.reads (place + 1) (more c r) refl (omega (arith, few)));
}

-- ---- the queries

nothing_more : Accepts 0 []
nothing_more = record { reads = λ place r none few. (r, ap (λ (rows : List RowWords). if length rows == 0 then Ok r else Err (bad.BadRecord place reason.Order)) none) }

queries_accepted : Accepts 3 query_records
queries_accepted = then_single 2 totals_record _ (sites_record ∷ day_record ∷ []) (λ place. refl) (then_single 1 sites_record _ (day_record ∷ []) (λ place. refl) (then_single 0 day_record _ [] (λ place. refl) nothing_more))

-- ---- the versions

expire_says : (version : ℕ) → version ≤ max_number → Says (codes "expire" ∷ decimal version ∷ []) (command.Expire None version)
expire_says version le place = ap (λ (o : Result ℕ Reason). (o >>= (λ n. Ok (command.Expire None n))) >>= (λ (c : Command). Ok (Single c))) (number_back version le)

expiry_accepted : (room version : ℕ) (rest : List (List (List ℕ))) → version ≤ max_number → Accepts room rest → (b : Bool) → Accepts (1 + room) ((if b then (codes "expire" ∷ decimal version ∷ []) ∷ [] else []) ++ rest)
expiry_accepted room version rest le accepts true = then_single room _ (command.Expire None version) rest (expire_says version le) accepts
expiry_accepted room version rest le accepts false = record { reads = λ place r none few. accepts.reads place r none (omega (arith, few)) }

-- with a row more
abbrev with_row : ℕ → ℕ → ℕ → ℕ → ℕ → Read → Read
with_row version j site clicks low r = record r { rows = r.rows ++ record { table = codes "facts"; fields = drop 2 (row_fields version j site clicks low) } ∷ [] }

row_then : (place version j site clicks low : ℕ) (rest : List (List (List ℕ))) (r : Read) → (s : Read) × (read_from (place + 1) rest (with_row version j site clicks low r) ≡ Ok s)
    → (s : Read) × (read_from place (row_fields version j site clicks low ∷ rest) r ≡ Ok s)
row_then place version j site clicks low rest r read = then_rest place (row_fields version j site clicks low) rest r (with_row version j site clicks low r) refl read

commit_then : (room place : ℕ) (rest : List (List (List ℕ))) (r : Read) → Accepts room rest → r.count + (1 + room) ≤ max_commands → (s : Read) × (read_from place ((codes "commit" ∷ []) ∷ rest) r ≡ Ok s)
commit_then room place rest r accepts few =
    let loaded = more (command.Load r.rows) r in
    then_rest place (codes "commit" ∷ []) rest r loaded (commit_read place r (omega (arith, few))) (accepts.reads (place + 1) loaded refl (omega (arith, few)))

-- four rows and their load, a work, and what follows
rows_accepted : (room version x : ℕ) (rest : ℕ → List (List (List ℕ))) (tail : List (List (List ℕ))) → ((y : ℕ) → Accepts room (rest y ++ tail)) → Accepts (2 + room) (row_records version 0 4 x (λ y. (codes "commit" ∷ []) ∷ (codes "work" ∷ codes "facts" ∷ []) ∷ rest y) ++ tail)
rows_accepted room version x rest tail accepts =
    let a = draw x in
    let b = draw (draw (draw a)) in
    let c = draw (draw (draw b)) in
    let d = draw (draw (draw c)) in
    let work : List (List (List ℕ)) = (codes "work" ∷ codes "facts" ∷ []) ∷ (rest (draw (draw d)) ++ tail) in
    let worked : Accepts (1 + room) work = then_single room (codes "work" ∷ codes "facts" ∷ []) (command.Work (record { table = codes "facts"; parts = 1 })) (rest (draw (draw d)) ++ tail) (λ place. refl) (accepts (draw (draw d))) in
    let load : List (List (List ℕ)) = (codes "commit" ∷ []) ∷ work in
    let fourth : List (List (List ℕ)) = row_fields version 3 d (draw d) (draw (draw d)) ∷ load in
    let third : List (List (List ℕ)) = row_fields version 2 c (draw c) (draw (draw c)) ∷ fourth in
    let second : List (List (List ℕ)) = row_fields version 1 b (draw b) (draw (draw b)) ∷ third in
    record {
      reads = λ place r none few.
          let one = with_row version 0 a (draw a) (draw (draw a)) r in
          let two = with_row version 1 b (draw b) (draw (draw b)) one in
          let three = with_row version 2 c (draw c) (draw (draw c)) two in
          let four = with_row version 3 d (draw d) (draw (draw d)) three in
          row_then place version 0 a (draw a) (draw (draw a)) second r
          (row_then (place + 1) version 1 b (draw b) (draw (draw b)) third one
          (row_then (place + 1 + 1) version 2 c (draw c) (draw (draw c)) fourth two
          (row_then (place + 1 + 1 + 1) version 3 d (draw d) (draw (draw d)) load three
          (commit_then (1 + room) (place + 1 + 1 + 1 + 1) work four worked (omega (arith, few))))));
    }

versions_accepted : (room version versions x : ℕ) (tail : List (List (List ℕ))) → version + versions ≤ most_versions → Accepts room tail → Accepts (3 * versions + room) (version_records version versions x ++ tail)
versions_accepted room version zero x tail few accepts = (let same : room ≡ 3 * 0 + room = omega arith in subst (λ (n : ℕ). Accepts n tail) same accepts)
versions_accepted room version (suc versions) x tail few accepts =
    let all = rows_accepted (1 + (3 * versions + room)) version x (λ y. expiry_records version ++ version_records (version + 1) versions y) tail (λ y.
    subst (Accepts (1 + (3 * versions + room))) (sym (append_assoc (expiry_records version) (version_records (version + 1) versions y) tail))
    (expiry_accepted (3 * versions + room) (version - 10) (version_records (version + 1) versions y ++ tail) (omega (arith, few)) (versions_accepted room (version + 1) versions y tail (omega (arith, few)) accepts) (version % 25 == 24))) in
    let same : 2 + (1 + (3 * versions + room)) ≡ 3 * suc versions + room = omega arith in
    subst (λ (n : ℕ). Accepts n (version_records version (suc versions) x ++ tail)) same all

-- ---- the whole

-- none of the records is without a field
expiry_has : (row : List (List ℕ)) → HasField row → (b : Bool) → AllByRecursion HasField (if b then row ∷ [] else [])
expiry_has row is true = (is, tt)
expiry_has row is false = tt

versions_have : (version versions x : ℕ) → AllByRecursion HasField (version_records version versions x)
versions_have version zero x = tt
versions_have version (suc versions) x =
    let rest = all_append HasField (expiry_records version) (version_records (version + 1) versions _) (expiry_has (codes "expire" ∷ decimal (version - 10) ∷ []) tt (version % 25 == 24)) (versions_have (version + 1) versions _) in
    (tt, (tt, (tt, (tt, (tt, (tt, rest))))))

all_have : (seed versions : ℕ) → AllByRecursion HasField (all_records seed versions)
all_have seed versions = (tt, (tt, all_append HasField (version_records 0 versions seed) query_records (versions_have 0 versions seed) (tt, (tt, (tt, tt)))))

pub seed_gives : (seed versions : ℕ) → versions ≤ most_versions → (script : Script) × (script_of (generated seed versions) ≡ Ok script)
seed_gives seed versions few =
    let all = then_single (1 + (3 * versions + 3)) table_record _ _ (λ place. refl) (then_single (3 * versions + 3) view_record _ _ (λ place. refl) (versions_accepted 3 0 versions seed query_records (omega (arith, few)) queries_accepted)) in
    let read = all.reads 1 nothing_read refl (omega (arith, few)) in (
      script_from read.0,
      ap (λ (o : Result Read ScriptError). o >>= (λ (r : Read). Ok (script_from r))) (ap (λ rs. read_from 1 rs nothing_read) (generated_records seed versions (all_have seed versions)) ∙ read.1),
    )
