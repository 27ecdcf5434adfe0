-- What words say to the command line, and what its matches say.
use Rattle.std.specs.Prelude.{List, codes, if◌then◌else◌, Option, Some, None}
use Rattle.std.specs.Str.{bytes_eq}
use Rattle.clap.specs.Words.{Row, Text, first_of}
use Rattle.mesa_parse.specs.declared.forms.Form.{Form}
use Rattle.mesa_parse.specs.declared.forms.Form.TheVariants.{Run, Check, Digest}
use Rattle.mesa_parse.specs.Forms.{gen_of}

-- a script to be generated, where both of its words were found
abbrev pub gen_found : Option Text → Option Text → Option Form
gen_found (Some seed) (Some versions) = gen_of seed versions
gen_found seed versions = None

-- a digest of the relation whose name was found
abbrev pub digest_found : Option Text → Option Form
digest_found None = None
digest_found (Some name) = Some (Digest name)

-- the form that a command has, by its name and by what was found of it
abbrev pub form_found : Option (Text × List Row) → Option Form
form_found None = None
form_found (Some p) =
    if bytes_eq p.0 (codes "run") then Some Run
    else if bytes_eq p.0 (codes "check") then Some Check
    else if bytes_eq p.0 (codes "digest") then digest_found (first_of (codes "relation") p.1)
    else gen_found (first_of (codes "seed") p.1) (first_of (codes "versions") p.1)
