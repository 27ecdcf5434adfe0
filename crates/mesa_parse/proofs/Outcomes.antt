-- Words either have a form, and clap takes them, or have none, and clap or a hyphen refuses them.
use Rattle.std.proofs.Common.{◌≡◌, ◌⊎◌, inl, inr, ℕ, List, [], ◌∷◌, Bool, true, false, refl, sym, ap, subst, ◌∙◌, Some, None}
use Rattle.std.specs.Prelude.{codes, map, ◌==◌, ◌||◌, if◌then◌else◌, Result, Ok, Err}
use Rattle.std.specs.List.{AllByRecursion, list_any}
use Rattle.std.specs.Str.{bytes_eq}
use Rattle.std.proofs.lemmas.Slice.Eq.{bytes_eq-Decides}
use Rattle.std.proofs.lemmas.Bool.{eqb-true}
use Rattle.std.specs.Borrow.{Bor}
use Rattle.clap.specs.Words.{IsAmong, Text, fault_of, subcommand_of}
use Rattle.clap.specs.declared.error.kind.ErrorKind.{ErrorKind}
use Rattle.clap.proofs.OnLiterals.{clap_on_literals}
use Rattle.mesa_script.specs.declared.script.Reason.{Reason}
use Rattle.mesa_script.specs.declared.script.Reason.TheVariants as reason
use Rattle.mesa_script.specs.Words.{number_in}
use Rattle.mesa_parse.specs.Command.{mesa}
use Rattle.mesa_parse.specs.Forms.{begins_hyphen, digest_of, form_of, gen_from, gen_of, max_seed}
use Rattle.mesa_parse.specs.Found.{form_found}
use Rattle.mesa_parse.specs.declared.forms.Form.TheVariants.{Run, Check, Digest}
use Rattle.mesa_parse.proofs.Walking.{HasSome, IsPlain, check_stray, digest_matches, digest_none, digest_one, digest_stray, gen_matches, gen_none, gen_one, gen_stray, gen_two, run_stray, top_stray}

-- ---- words that begin with no hyphen

abbrev pub AllPlain : List Text → Type 0
AllPlain words = AllByRecursion IsPlain words

-- what clap says of words, and what their form is
pub data Outcome (words : List Text) : Type 0 where
  taken : fault_of mesa words ≡ [] → form_found (subcommand_of mesa words) ≡ form_of words → Outcome words
  refused : HasSome (fault_of mesa words) → form_of words ≡ None → Outcome words

same : (name word : Text) → (name ≡ word) ⊎ (bytes_eq name word ≡ false)
same name word = elim (bytes_eq name word) as (λ t. bytes_eq name word ≡ t → (name ≡ word) ⊎ (bytes_eq name word ≡ false)) [ true ↦ λ e. inl ((bytes_eq-Decides name word).0 e) | false ↦ λ e. inr e ] refl

behind_run : (rest : List Text) → AllPlain rest → Outcome (codes "run" ∷ rest)
unfolding clap_on_literals
behind_run [] all = taken refl refl
behind_run (word ∷ []) all = refused (run_stray word [] all.0) refl
behind_run (word ∷ a ∷ []) all = refused (run_stray word (a ∷ []) all.0) refl
behind_run (word ∷ a ∷ b ∷ rest) all = refused (run_stray word (a ∷ b ∷ rest) all.0) refl

behind_check : (rest : List Text) → AllPlain rest → Outcome (codes "check" ∷ rest)
unfolding clap_on_literals
behind_check [] all = taken refl refl
behind_check (word ∷ []) all = refused (check_stray word [] all.0) refl
behind_check (word ∷ a ∷ []) all = refused (check_stray word (a ∷ []) all.0) refl
behind_check (word ∷ a ∷ b ∷ rest) all = refused (check_stray word (a ∷ b ∷ rest) all.0) refl

behind_gen : (rest : List Text) → AllPlain rest → Outcome (codes "gen" ∷ rest)
behind_gen [] all = refused gen_none refl
behind_gen (seed ∷ []) all = refused (gen_one seed all.0) refl
behind_gen (seed ∷ versions ∷ []) all = taken (gen_two seed versions all.0 all.1.0) (ap form_found (gen_matches seed versions all.0 all.1.0))
behind_gen (seed ∷ versions ∷ word ∷ rest) all = refused (gen_stray seed versions word rest all.0 all.1.0 all.1.1.0) refl

unhyphened : (word : Text) → IsPlain word → begins_hyphen word ≡ false
unhyphened [] plain = refl
unhyphened (b ∷ word) plain = elim (b == 45) as (λ t. (if t then Some word else None) ≡ None → t ≡ false) [ true ↦ λ e. cc | false ↦ λ e. refl ] plain

behind_digest : (rest : List Text) → AllPlain rest → Outcome (codes "digest" ∷ rest)
behind_digest [] all = refused digest_none refl
behind_digest (name ∷ []) all = taken (digest_one name all.0) (ap form_found (digest_matches name all.0) ∙ ap (λ t. if t then None else Some (Digest name)) (sym (unhyphened name all.0)))
behind_digest (name ∷ word ∷ []) all = refused (digest_stray name word [] all.0 all.1.0) refl
behind_digest (name ∷ word ∷ more ∷ rest) all = refused (digest_stray name word (more ∷ rest) all.0 all.1.0) refl

no_form : (word : Text) (rest : List Text) → bytes_eq (codes "run") word ≡ false → bytes_eq (codes "check") word ≡ false → bytes_eq (codes "gen") word ≡ false → bytes_eq (codes "digest") word ≡ false → form_of (word ∷ rest) ≡ None
no_form word [] run check gen digest = (λ i. if run i then Some Run else if check i then Some Check else None)
no_form word (a ∷ []) run check gen digest = ap (λ t. if t then digest_of a else None) digest
no_form word (a ∷ b ∷ []) run check gen digest = ap (λ t. if t then gen_of a b else None) gen
no_form word (a ∷ b ∷ c ∷ rest) run check gen digest = refl

no_words : Outcome []
unfolding clap_on_literals
no_words = refused tt refl

outcome : (words : List Text) → AllPlain words → Outcome words
outcome [] all = no_words
outcome (word ∷ rest) all = elim (same (codes "run") word) [
  | inl e ↦ subst (λ w. Outcome (w ∷ rest)) e (behind_run rest all.1)
  | inr run ↦ elim (same (codes "check") word) [
    | inl e ↦ subst (λ w. Outcome (w ∷ rest)) e (behind_check rest all.1)
    | inr check ↦ elim (same (codes "gen") word) [
      | inl e ↦ subst (λ w. Outcome (w ∷ rest)) e (behind_gen rest all.1)
      | inr gen ↦ elim (same (codes "digest") word) [
        | inl e ↦ subst (λ w. Outcome (w ∷ rest)) e (behind_digest rest all.1)
        | inr digest ↦ refused (top_stray word rest all.0 run check gen digest) (no_form word rest run check gen digest)
      ]
    ]
  ]
]

-- ---- words of which one begins with a hyphen

plain_of : (word : Text) → begins_hyphen word ≡ false → IsPlain word
plain_of [] e = refl
plain_of (b ∷ word) e = ap (λ t. if t then Some word else None) e

both_false : (a b : Bool) → (a || b) ≡ false → (a ≡ false) × (b ≡ false)
both_false true b e = cc
both_false false b e = (refl, e)

abbrev pub Words : Type 0
Words = List (Bor Text)

abbrev pub texts : Words → List Text
texts words = map (λ word. word.now) words

abbrev pub is_hyphened : Words → Bool
is_hyphened words = list_any (λ word. begins_hyphen word.now) words

all_plain : (words : Words) → is_hyphened words ≡ false → AllPlain (texts words)
all_plain [] e = tt
all_plain (word ∷ rest) e =
    let both = both_false (begins_hyphen word.now) (is_hyphened rest) e in
    (plain_of word.now both.0, all_plain rest both.1)

-- what clap says of words without a hyphen
outcome_of : (words : Words) → is_hyphened words ≡ false → Outcome (texts words)
outcome_of words e = outcome (texts words) (all_plain words e)

-- words that clap takes
pub taken_form : (words : Words) → is_hyphened words ≡ false → fault_of mesa (texts words) ≡ [] → form_found (subcommand_of mesa (texts words)) ≡ form_of (texts words)
taken_form words plain none = elim (outcome_of words plain) [ taken fine e ↦ e | refused some e ↦ absurd (subst HasSome none some) ]

-- words that it refuses
pub refused_form : (words : Words) (k : ErrorKind) → is_hyphened words ≡ false → IsAmong k (fault_of mesa (texts words)) → form_of (texts words) ≡ None
refused_form words k plain among = elim (outcome_of words plain) [ taken fine e ↦ absurd (subst (IsAmong k) fine among) | refused some e ↦ e ]

-- what begins with a hyphen is a hyphen and what follows it
hyphen_first : (P : Text → Type 0) (word : Text) → begins_hyphen word ≡ true → ((rest : Text) → P (45 ∷ rest)) → P word
hyphen_first P [] e all = cc e
hyphen_first P (b ∷ word) e all = subst (λ x. P (x ∷ word)) (sym (eqb-true b 45 e)) (all word)

neither : {A : Type 0} (t : Bool) (x : A) → (if t then x else x) ≡ x
neither true x = refl
neither false x = refl

no_versions : (seed : Result ℕ Reason) (e : Reason) → gen_from seed (Err e) ≡ None
no_versions (Ok n) e = refl
no_versions (Err n) e = refl

first_or : (a b : Bool) (P : Type 0) → (a || b) ≡ true → (a ≡ true → P) → (b ≡ true → P) → P
first_or true b P e x y = x refl
first_or false b P e x y = y e

pub hyphened_none : (words : Words) → is_hyphened words ≡ true → form_of (texts words) ≡ None
hyphened_none [] e = cc e
hyphened_none (word ∷ []) e = first_or (begins_hyphen word.now) false _ e (λ is. hyphen_first (λ w. form_of (w ∷ []) ≡ None) word.now is (λ rest. refl)) (λ is. cc is)
hyphened_none (word ∷ name ∷ []) e =
    first_or (begins_hyphen word.now) _ _ e (λ is. hyphen_first (λ w. form_of (w ∷ name.now ∷ []) ≡ None) word.now is (λ rest. refl))
    (λ e1. first_or (begins_hyphen name.now) false _ e1 (λ is. hyphen_first (λ w. form_of (word.now ∷ w ∷ []) ≡ None) name.now is (λ rest. neither (bytes_eq (codes "digest") word.now) None)) (λ is. cc is))
hyphened_none (word ∷ seed ∷ versions ∷ []) e =
    first_or (begins_hyphen word.now) _ _ e (λ is. hyphen_first (λ w. form_of (w ∷ seed.now ∷ versions.now ∷ []) ≡ None) word.now is (λ rest. refl))
    (λ e1. first_or (begins_hyphen seed.now) _ _ e1 (λ is. hyphen_first (λ w. form_of (word.now ∷ w ∷ versions.now ∷ []) ≡ None) seed.now is (λ rest. neither (bytes_eq (codes "gen") word.now) None))
    (λ e2. first_or (begins_hyphen versions.now) false _ e2 (λ is. hyphen_first (λ w. form_of (word.now ∷ seed.now ∷ w ∷ []) ≡ None) versions.now is
    (λ rest. ap (λ o. if bytes_eq (codes "gen") word.now then o else None) (no_versions (number_in 0 max_seed seed.now) reason.Number) ∙ neither (bytes_eq (codes "gen") word.now) None)) (λ is. cc is)))
hyphened_none (a ∷ b ∷ c ∷ d ∷ rest) e = refl
