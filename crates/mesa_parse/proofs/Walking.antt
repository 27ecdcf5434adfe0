-- What clap's walk over words comes to, where none of them begins with a hyphen.
use Rattle.std.proofs.Common.{◌≡◌, ℕ, List, [], ◌∷◌, ◌++◌, Bool, true, false, refl, sym, ap, ap₂, ◌∙◌, append_assoc, subst, Option, Some, None}
use Rattle.std.specs.Prelude.{codes, fold, if◌then◌else◌, ◌==◌, ◌&&◌, ◌||◌, is_some, ⊤}
use Rattle.std.specs.Str.{bytes_eq}
use Rattle.clap.specs.Words.{Row, Rule, Shape, Text, built, fault_of, first_of, subcommand_of}
use Rattle.clap.specs.Simple.{built_leaf, entered, inherited, marked_built, names_of, new_shape, with_leaf_noted}
use Rattle.clap.specs.Faults.{bundle_fault, check_fault, defaults_fault, entered_fault, flag_word_fault, level_fault, other_fault, settle_fault, step_fault, turn_fault, walk_fault, word_fault}
use Rattle.clap.specs.Kinds.{Kinds, or_else}
use Rattle.clap.specs.Lexer.{long_of, long_of_rest, short_of, short_of_rest, strip_byte}
use Rattle.clap.specs.Walk.{Held, Names, Step, Walk, after_step, arg_by_index, finished, idle, long_or_other, nothing_held, settled, short_or_plain, subcommand_met, subcommand_or_other, to_positional, trailing, value, walk_from, walked, word_met}
use Rattle.std.specs.Prelude.{option_and_then, option_map}
use Rattle.std.specs.Option.{option_map_or}
use Rattle.clap.proofs.OnLiterals.{clap_on_literals}
use Rattle.clap.specs.declared.builder.value_parser.Reading.TheVariants.{AsWritten}
use Rattle.clap.specs.declared.parser.matches.ValueSource.TheVariants.{CommandLine}
use Rattle.mesa_parse.specs.Command.{digest, gen, mesa}

-- the word begins with no hyphen
abbrev pub IsPlain : Text → Type 0
IsPlain word = strip_byte 45 word ≡ None

-- ---- a word that begins with no hyphen is no flag

long_none : (word : Text) → IsPlain word → long_of word ≡ None
long_none word plain = ap (λ (o : Option Text). option_and_then long_of_rest (option_and_then (strip_byte 45) o)) plain

short_none : (word : Text) → IsPlain word → short_of word ≡ None
short_none word plain = ap (λ (o : Option Text). option_and_then short_of_rest o) plain

no_dashes : (word : Text) → IsPlain word → bytes_eq word (45 ∷ 45 ∷ []) ≡ false
no_dashes [] plain = refl
no_dashes (x ∷ xs) plain = elim (x == 45) as (λ b. (if b then Some xs else None) ≡ None → (b && bytes_eq xs (45 ∷ [])) ≡ false) [ true ↦ λ e. cc | false ↦ λ e. refl ] plain

plain_met : (c : List Rule) (names : Names) (position : ℕ) (word : Text) (h : Held) → IsPlain word → subcommand_met names idle word ≡ None → word_met c names false idle position word h ≡ (h, value)
plain_met c names position word h plain none =
    ap (λ o. subcommand_or_other c o idle position word h) none
    ∙ ap (λ b. if b then (h, trailing position) else long_or_other c idle word (long_of word) h) (no_dashes word plain)
    ∙ ap (λ o. long_or_other c idle word o h) (long_none word plain)
    ∙ ap (λ o. short_or_plain c idle word o h) (short_none word plain)

plain_fault : (s : Shape) (names : Names) (word : Text) (h : Held) → IsPlain word → subcommand_met names idle word ≡ None → word_fault s names false idle word h ≡ []
plain_fault s names word h plain none =
    ap (λ o. other_fault s o word h) none
    ∙ ap (λ (b : Bool). if b then [] else flag_word_fault s.rules s.args_override_self (long_of word) word h) (no_dashes word plain)
    ∙ ap (λ o. flag_word_fault s.rules s.args_override_self o word h) (long_none word plain)
    ∙ ap (λ (o : Option Text). option_map_or (λ flags. bundle_fault s.rules s.args_override_self flags h) o []) (short_none word plain)

-- between two words, with so many positionals taken
abbrev at : Held → ℕ → Walk
at h position = record { held = h; waiting = idle; position = position; is_trailing = false; stopped = None }

turn_plain : (s : Shape) (names : Names) (h : Held) (position : ℕ) (word : Text) → IsPlain word → subcommand_met names idle word ≡ None → turn_fault s names (at h position) word ≡ step_fault s position h value
turn_plain s names h position word plain none =
    ap₂ (λ (met : Held × Step) (faults : Kinds). or_else faults (step_fault s position met.0 met.1)) (plain_met s.rules names position word h plain none) (plain_fault s names word h plain none)

walked_plain : (c : List Rule) (names : Names) (h : Held) (position : ℕ) (word : Text) → IsPlain word → subcommand_met names idle word ≡ None
    → walked c names (at h position) word ≡ to_positional c (arg_by_index c position) word (at h position) h
unfolding walked
walked_plain c names h position word plain none = ap (λ (met : Held × Step). after_step c word (at h position) met.0 met.1) (plain_met c names position word h plain none)

-- ---- behind a command's name

-- a walk that has met a command, with the words behind it
abbrev stop : Text → List Text → Walk
stop name words = record { held = nothing_held; waiting = idle; position = 1; is_trailing = false; stopped = Some (name, words) }

pub goes_on : (c : List Rule) (names : Names) (name : Text) (words rest : List Text) → fold (walked c names) (stop name words) rest ≡ stop name (words ++ rest)
unfolding walked
goes_on c names name words [] = ap (stop name) (sym (append_nil words))
  where
    append_nil : (xs : List Text) → xs ++ [] ≡ xs
    append_nil [] = refl
    append_nil (x ∷ xs) = ap (λ ys. x ∷ ys) (append_nil xs)
goes_on c names name words (word ∷ rest) = goes_on c names name (words ++ word ∷ []) rest ∙ ap (stop name) (append_assoc words (word ∷ []) rest)

quiet : (s : Shape) (names : Names) (name : Text) (words rest : List Text) → walk_fault s names (stop name words) rest ≡ []
unfolding walk_fault walked
quiet s names name words [] = refl
quiet s names name words (word ∷ rest) = quiet s names name (words ++ word ∷ []) rest

-- ---- `run` and `check` have no words behind them

abbrev top : Shape
top = (built mesa).top

abbrev names : Names
names = names_of (built mesa)

-- what is wrong with words, by what is wrong on the way and by where the walk ends
abbrev faults_at : Kinds → Walk → Kinds
faults_at faults end =
    or_else faults
    (or_else (entered_fault (built mesa) end.stopped)
    (or_else (settle_fault top.rules top.args_override_self end.held)
    (or_else (defaults_fault (settled top.rules end.held).rows top.rules)
    (check_fault top (finished top.rules end.held) (is_some (entered (built mesa) end.stopped))))))

-- a word names a command
record IsCommand (name : Text) : Type 0 where
  walks : walked top.rules names (walk_from nothing_held) name ≡ stop name []
  turn : turn_fault top names (walk_from nothing_held) name ≡ []

named_fault : (name : Text) (rest : List Text) → IsCommand name → fault_of mesa (name ∷ rest) ≡ faults_at [] (stop name rest)
unfolding walk_fault
named_fault name rest it =
    ap₂ faults_at
    (ap₂ or_else it.turn (ap (λ w. walk_fault top names w rest) it.walks ∙ quiet top names name [] rest))
    (ap (λ w. fold (walked top.rules names) w rest) it.walks ∙ goes_on top.rules names name [] rest)

named_stop : (name : Text) (rest : List Text) → IsCommand name → subcommand_of mesa (name ∷ rest) ≡ entered (built mesa) (Some (name, rest))
named_stop name rest it = ap (λ (w : Walk). entered (built mesa) w.stopped) (ap (λ w. fold (walked top.rules names) w rest) it.walks ∙ goes_on top.rules names name [] rest)

names_run : IsCommand (codes "run")
unfolding clap_on_literals
names_run = record { walks = refl; turn = refl }

names_check : IsCommand (codes "check")
unfolding clap_on_literals
names_check = record { walks = refl; turn = refl }

names_gen : IsCommand (codes "gen")
unfolding clap_on_literals
names_gen = record { walks = refl; turn = refl }

names_digest : IsCommand (codes "digest")
unfolding clap_on_literals
names_digest = record { walks = refl; turn = refl }

-- ---- what is wrong

abbrev pub HasSome : Kinds → Type 0
HasSome [] = ⊥
HasSome (k ∷ ks) = ⊤

or_some : (a b : Kinds) → HasSome a → HasSome (or_else a b)
or_some [] b h = absurd h
or_some (k ∷ ks) b h = tt

stray : (s : Shape) (names : Names) (h : Held) (position : ℕ) (word : Text) (rest : List Text) → IsPlain word → subcommand_met names idle word ≡ None → HasSome (step_fault s position h value)
    → HasSome (walk_fault s names (at h position) (word ∷ rest))
unfolding walk_fault
stray s names h position word rest plain none some = or_some (turn_fault s names (at h position) word) _ (subst HasSome (sym (turn_plain s names h position word plain none)) some)

-- a command that takes no words
abbrev leaf : Text → Shape
leaf name = built_leaf (inherited (with_leaf_noted (marked_built mesa.top)) (new_shape name))

pub run_stray : (word : Text) (rest : List Text) → IsPlain word → HasSome (fault_of mesa (codes "run" ∷ word ∷ rest))
run_stray word rest plain =
    subst HasSome (sym (named_fault (codes "run") (word ∷ rest) names_run))
    (or_some (level_fault (leaf (codes "run")) [] nothing_held (word ∷ rest) false []) _
    (or_some (walk_fault (leaf (codes "run")) [] (walk_from nothing_held) (word ∷ rest)) _
    (stray (leaf (codes "run")) [] nothing_held 1 word rest plain refl tt)))

pub check_stray : (word : Text) (rest : List Text) → IsPlain word → HasSome (fault_of mesa (codes "check" ∷ word ∷ rest))
check_stray word rest plain =
    subst HasSome (sym (named_fault (codes "check") (word ∷ rest) names_check))
    (or_some (level_fault (leaf (codes "check")) [] nothing_held (word ∷ rest) false []) _
    (or_some (walk_fault (leaf (codes "check")) [] (walk_from nothing_held) (word ∷ rest)) _
    (stray (leaf (codes "check")) [] nothing_held 1 word rest plain refl tt)))

-- ---- `gen` has two words behind it

abbrev pub gen_leaf : Shape
gen_leaf = built_leaf (inherited (with_leaf_noted (marked_built mesa.top)) gen.top)

abbrev seed_held : Text → Held
seed_held seed = record { rows = []; pending = Some (codes "seed", seed ∷ []); skip = 0 }

abbrev both_held : Text → Text → Held
both_held seed versions = record {
  rows = record { id = codes "seed"; values = seed ∷ []; count = None; source = Some CommandLine; reading = AsWritten } ∷ [];
  pending = Some (codes "versions", versions ∷ []);
  skip = 0;
}

seed_walked : (seed : Text) → IsPlain seed → walked gen_leaf.rules [] (at nothing_held 1) seed ≡ at (seed_held seed) 2
seed_walked seed plain = walked_plain gen_leaf.rules [] nothing_held 1 seed plain refl

both_walked : (seed versions : Text) → IsPlain versions → walked gen_leaf.rules [] (at (seed_held seed) 2) versions ≡ at (both_held seed versions) 3
both_walked seed versions plain = walked_plain gen_leaf.rules [] (seed_held seed) 2 versions plain refl

seed_turn : (seed : Text) → IsPlain seed → turn_fault gen_leaf [] (at nothing_held 1) seed ≡ []
seed_turn seed plain = turn_plain gen_leaf [] nothing_held 1 seed plain refl

both_turn : (seed versions : Text) → IsPlain versions → turn_fault gen_leaf [] (at (seed_held seed) 2) versions ≡ []
both_turn seed versions plain = turn_plain gen_leaf [] (seed_held seed) 2 versions plain refl

gen_walk : (seed versions : Text) (rest : List Text) → IsPlain seed → IsPlain versions → walk_fault gen_leaf [] (at nothing_held 1) (seed ∷ versions ∷ rest) ≡ walk_fault gen_leaf [] (at (both_held seed versions) 3) rest
unfolding walk_fault
gen_walk seed versions rest p q =
    ap₂ or_else (seed_turn seed p) (ap (λ w. walk_fault gen_leaf [] w (versions ∷ rest)) (seed_walked seed p))
    ∙ ap₂ or_else (both_turn seed versions q) (ap (λ w. walk_fault gen_leaf [] w rest) (both_walked seed versions q))

pub gen_stray : (seed versions word : Text) (rest : List Text) → IsPlain seed → IsPlain versions → IsPlain word → HasSome (fault_of mesa (codes "gen" ∷ seed ∷ versions ∷ word ∷ rest))
gen_stray seed versions word rest p q plain =
    subst HasSome (sym (named_fault (codes "gen") (seed ∷ versions ∷ word ∷ rest) names_gen))
    (or_some (level_fault gen_leaf [] nothing_held (seed ∷ versions ∷ word ∷ rest) false []) _
    (or_some (walk_fault gen_leaf [] (walk_from nothing_held) (seed ∷ versions ∷ word ∷ rest)) _
    (subst HasSome (sym (gen_walk seed versions (word ∷ rest) p q))
    (stray gen_leaf [] (both_held seed versions) 3 word rest plain refl tt))))

-- what is wrong with the words behind `gen`, by where the walk ends
abbrev gen_faults : Kinds → Held → Kinds
gen_faults faults end =
    or_else faults
    (or_else (settle_fault gen_leaf.rules gen_leaf.args_override_self end)
    (or_else (defaults_fault (settled gen_leaf.rules end).rows gen_leaf.rules)
    (check_fault gen_leaf (finished gen_leaf.rules end) false)))

pub gen_none : HasSome (fault_of mesa (codes "gen" ∷ []))
unfolding clap_on_literals
gen_none = tt

pub gen_one : (seed : Text) → IsPlain seed → HasSome (fault_of mesa (codes "gen" ∷ seed ∷ []))
unfolding walk_fault defaults_fault
gen_one seed plain =
    subst HasSome (sym (named_fault (codes "gen") (seed ∷ []) names_gen))
    (or_some (level_fault gen_leaf [] nothing_held (seed ∷ []) false []) _
    (subst HasSome (sym (ap₂ gen_faults (ap₂ or_else (seed_turn seed plain) refl) (ap (λ (w : Walk). w.held) (seed_walked seed plain)))) tt))

gen_level : (seed versions : Text) → IsPlain seed → IsPlain versions → level_fault gen_leaf [] nothing_held (seed ∷ versions ∷ []) false [] ≡ []
unfolding walk_fault defaults_fault
gen_level seed versions p q =
    ap₂ gen_faults (gen_walk seed versions [] p q) (ap (λ (w : Walk). w.held) (ap (λ w. walked gen_leaf.rules [] w versions) (seed_walked seed p) ∙ both_walked seed versions q))

gen_entered : (words : List Text) → faults_at [] (stop (codes "gen") words) ≡ or_else (level_fault gen_leaf [] nothing_held words false []) []
unfolding defaults_fault
gen_entered words = refl

pub gen_two : (seed versions : Text) → IsPlain seed → IsPlain versions → fault_of mesa (codes "gen" ∷ seed ∷ versions ∷ []) ≡ []
gen_two seed versions p q =
    named_fault (codes "gen") (seed ∷ versions ∷ []) names_gen
    ∙ gen_entered (seed ∷ versions ∷ [])
    ∙ ap (λ (faults : Kinds). or_else faults []) (gen_level seed versions p q)

-- the matches of `gen`
abbrev pub gen_rows : Text → Text → List Row
gen_rows seed versions = finished gen_leaf.rules (both_held seed versions)

pub gen_matches : (seed versions : Text) → IsPlain seed → IsPlain versions → subcommand_of mesa (codes "gen" ∷ seed ∷ versions ∷ []) ≡ Some (codes "gen", gen_rows seed versions)
gen_matches seed versions p q =
    named_stop (codes "gen") (seed ∷ versions ∷ []) names_gen
    ∙ ap (λ (w : Walk). Some (codes "gen", finished gen_leaf.rules w.held)) (ap (λ w. walked gen_leaf.rules [] w versions) (seed_walked seed p) ∙ both_walked seed versions q)

seed_of : (seed versions : Text) → first_of (codes "seed") (gen_rows seed versions) ≡ Some seed
seed_of seed versions = refl

versions_of : (seed versions : Text) → first_of (codes "versions") (gen_rows seed versions) ≡ Some versions
versions_of seed versions = refl

-- ---- `digest` has one word behind it

abbrev pub digest_leaf : Shape
digest_leaf = built_leaf (inherited (with_leaf_noted (marked_built mesa.top)) digest.top)

abbrev name_held : Text → Held
name_held name = record { rows = []; pending = Some (codes "relation", name ∷ []); skip = 0 }

name_walked : (name : Text) → IsPlain name → walked digest_leaf.rules [] (at nothing_held 1) name ≡ at (name_held name) 2
name_walked name plain = walked_plain digest_leaf.rules [] nothing_held 1 name plain refl

name_turn : (name : Text) → IsPlain name → turn_fault digest_leaf [] (at nothing_held 1) name ≡ []
name_turn name plain = turn_plain digest_leaf [] nothing_held 1 name plain refl

digest_walk : (name : Text) (rest : List Text) → IsPlain name → walk_fault digest_leaf [] (at nothing_held 1) (name ∷ rest) ≡ walk_fault digest_leaf [] (at (name_held name) 2) rest
unfolding walk_fault
digest_walk name rest p = ap₂ or_else (name_turn name p) (ap (λ w. walk_fault digest_leaf [] w rest) (name_walked name p))

pub digest_stray : (name word : Text) (rest : List Text) → IsPlain name → IsPlain word → HasSome (fault_of mesa (codes "digest" ∷ name ∷ word ∷ rest))
digest_stray name word rest p plain =
    subst HasSome (sym (named_fault (codes "digest") (name ∷ word ∷ rest) names_digest))
    (or_some (level_fault digest_leaf [] nothing_held (name ∷ word ∷ rest) false []) _
    (or_some (walk_fault digest_leaf [] (walk_from nothing_held) (name ∷ word ∷ rest)) _
    (subst HasSome (sym (digest_walk name (word ∷ rest) p))
    (stray digest_leaf [] (name_held name) 2 word rest plain refl tt))))

-- what is wrong with the words behind `digest`, by where the walk ends
abbrev digest_faults : Kinds → Held → Kinds
digest_faults faults end =
    or_else faults
    (or_else (settle_fault digest_leaf.rules digest_leaf.args_override_self end)
    (or_else (defaults_fault (settled digest_leaf.rules end).rows digest_leaf.rules)
    (check_fault digest_leaf (finished digest_leaf.rules end) false)))

pub digest_none : HasSome (fault_of mesa (codes "digest" ∷ []))
unfolding clap_on_literals
digest_none = tt

digest_level : (name : Text) → IsPlain name → level_fault digest_leaf [] nothing_held (name ∷ []) false [] ≡ []
unfolding walk_fault defaults_fault
digest_level name p = ap₂ digest_faults (digest_walk name [] p) (ap (λ (w : Walk). w.held) (name_walked name p))

digest_entered : (words : List Text) → faults_at [] (stop (codes "digest") words) ≡ or_else (level_fault digest_leaf [] nothing_held words false []) []
unfolding defaults_fault
digest_entered words = refl

pub digest_one : (name : Text) → IsPlain name → fault_of mesa (codes "digest" ∷ name ∷ []) ≡ []
digest_one name p =
    named_fault (codes "digest") (name ∷ []) names_digest
    ∙ digest_entered (name ∷ [])
    ∙ ap (λ (faults : Kinds). or_else faults []) (digest_level name p)

-- the matches of `digest`
abbrev pub digest_rows : Text → List Row
digest_rows name = finished digest_leaf.rules (name_held name)

pub digest_matches : (name : Text) → IsPlain name → subcommand_of mesa (codes "digest" ∷ name ∷ []) ≡ Some (codes "digest", digest_rows name)
digest_matches name p =
    named_stop (codes "digest") (name ∷ []) names_digest
    ∙ ap (λ (w : Walk). Some (codes "digest", finished digest_leaf.rules w.held)) (name_walked name p)

name_of : (name : Text) → first_of (codes "relation") (digest_rows name) ≡ Some name
name_of name = refl

-- ---- the first word

-- the command that a word names, by the comparisons with each
abbrev met_by : Bool → Bool → Bool → Bool → Option Text
met_by run check gen digest = option_map (λ (s : Text × List Text). s.0) (if run || false then Some (codes "run", []) else if check || false then Some (codes "check", []) else if gen || false then Some (codes "gen", []) else if digest || false then Some (codes "digest", []) else None)

pub top_stray : (word : Text) (rest : List Text) → IsPlain word → bytes_eq (codes "run") word ≡ false → bytes_eq (codes "check") word ≡ false → bytes_eq (codes "gen") word ≡ false → bytes_eq (codes "digest") word ≡ false → HasSome (fault_of mesa (word ∷ rest))
top_stray word rest plain run check gen digest =
    let none : subcommand_met names idle word ≡ None = (λ i. met_by (run i) (check i) (gen i) (digest i)) in
    or_some (walk_fault top names (walk_from nothing_held) (word ∷ rest)) _ (stray top names nothing_held 1 word rest plain none tt)
