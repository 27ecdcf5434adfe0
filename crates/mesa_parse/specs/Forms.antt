-- The four forms of the words that the program is called with.
use Rattle.std.specs.Prelude.{ℕ, List, [], ◌∷◌, ◌==◌, Bool, false, codes, if◌then◌else◌, Option, Some, None, Result, Ok}
use Rattle.mesa_list.specs.Bytes.{same_bytes}
use Rattle.mesa_script.specs.declared.script.Reason.{Reason}
use Rattle.mesa_script.specs.Records.{named}
use Rattle.mesa_script.specs.Words.{number_in}
use Rattle.mesa_parse.specs.declared.forms.Form.{Form}
use Rattle.mesa_parse.specs.declared.forms.Form.TheVariants.{Run, Check, Gen, Digest}

-- the greatest seed
abbrev pub max_seed : ℕ
max_seed = 65536

-- the most versions that a script is generated with
abbrev pub max_versions : ℕ
max_versions = 20000

-- both numbers, or none
abbrev pub gen_from : Result ℕ Reason → Result ℕ Reason → Option Form
gen_from (Ok seed) (Ok versions) = Some (Gen seed versions)
gen_from seed versions = None

-- a script to be generated, where a seed and a number of versions are number words in their ranges
abbrev pub gen_of : List ℕ → List ℕ → Option Form
gen_of seed versions = gen_from (number_in 0 max_seed seed) (number_in 1 max_versions versions)

-- whether a word begins with a hyphen
abbrev pub begins_hyphen : List ℕ → Bool
begins_hyphen [] = false
begins_hyphen (b ∷ word) = b == 45

-- a digest of the relation of a name, which may be any word that begins with no hyphen
abbrev pub digest_of : List ℕ → Option Form
digest_of name = if begins_hyphen name then None else Some (Digest name)

-- The form of words: `run`, `check`, `gen` with a seed and a number of versions, or `digest` with the name of a relation; other words have none.
abbrev pub form_of : List (List ℕ) → Option Form
form_of (word ∷ []) = named ((codes "run", Run) ∷ (codes "check", Check) ∷ []) word
form_of (word ∷ name ∷ []) = if same_bytes (codes "digest") word then digest_of name else None
form_of (word ∷ seed ∷ versions ∷ []) = if same_bytes (codes "gen") word then gen_of seed versions else None
form_of words = None
