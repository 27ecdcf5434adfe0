use Rattle.std.proofs.Common.{◌∙◌, refl, subst}
use Rattle.std.specs.Prelude.{ℕ, List, Option}
use Rattle.mesa_delta.specs.Reading.{IsBlockDamage}
use Rattle.mesa_delta.proofs.Following.{each_err, each_ok, read_moved}
use Rattle.mesa_delta.proofs.reader.DeltaReader.block.Goals as goal

pub returns-clause-first : goal.returns-clause-first
returns-clause-first g c =
    let after = c.accept-block.new.self in
    each_ok c.accept-block.result (λ rows first e. read_moved g.R.FileReader.bytes after after.reader c.read_block_bytes.new.bytes _ refl (first e)) c.accept-block.ensures.first

pub returns-clause-damaged : goal.returns-clause-damaged
returns-clause-damaged g c =
    let bytes = g.R.FileReader.bytes in
    let size = g.R.FileReader.size in
    let self = c.args.self.now in
    let read = c.read_block_bytes in
    each_err c.accept-block.result (λ e damaged d is parts h.
    subst (λ (told : Option (List ℕ)). IsBlockDamage told (size self.reader) self.index c.args.i parts d) read.ensures.bytes
    (subst (λ (n : ℕ). IsBlockDamage (bytes read.new.reader) n self.index c.args.i parts d) read.ensures.size (damaged d is parts (read_moved bytes self read.new.reader c.replace-bytes.new.dest parts read.ensures.bytes h)))) c.accept-block.ensures.damaged

pub returns-clause-accepts : goal.returns-clause-accepts
returns-clause-accepts g c =
    let bytes = g.R.FileReader.bytes in
    let self = c.args.self.now in
    let read = c.read_block_bytes in
    each_err c.accept-block.result (λ e accepts d is parts h b all at f.
    accepts d is parts (read_moved bytes self read.new.reader c.replace-bytes.new.dest parts read.ensures.bytes h) b all (read.ensures.bytes ∙ at) f) c.accept-block.ensures.accepts
