-- Steps of what is done while a folder is opened.
use Rattle.std.specs.Prelude.{◌≡◌, ℕ, ◌+◌, List, length, Option}
use Rattle.std.proofs.Common.{sym, subst}
use Rattle.std.specs.declared.io.ErrorKind.{ErrorKind}
use Rattle.mesa_os.specs.Calls.{Call, Removed, with_call}
use Rattle.mesa_dir.specs.Opening.{DraftsRemoved, IsDraftName, IsPiece, WrittenAgain, more, piece}
use Rattle.mesa_dir.specs.Paths.{within}

pub again_more : (first old new : Option (List Call)) (at count : ℕ) → WrittenAgain first at old → IsPiece at count old new → WrittenAgain first (at + count) new
again_more first old new at count again p =
    let P : ℕ → Type 0 = λ n. WrittenAgain first (at + n) new in
    let Q : Option (List Call) → Type 0 = λ t. WrittenAgain first (at + length p.bytes) t in
    subst P p.counted (subst Q (sym p.again) (piece at p.bytes old again))

pub removed_more : (folder name path : List ℕ) (answer : Option ErrorKind) (first old new : Option (List Call)) → DraftsRemoved folder first old → IsDraftName name
    → path ≡ within folder name → new ≡ with_call (Removed path answer) old → DraftsRemoved folder first new
removed_more folder name path answer first old new removed is lies asked =
    let P : List ℕ → Type 0 = λ q. DraftsRemoved folder first (with_call (Removed q answer) old) in
    let Q : Option (List Call) → Type 0 = λ t. DraftsRemoved folder first t in
    subst Q (sym asked) (subst P (sym lies) (more name answer old is removed))
