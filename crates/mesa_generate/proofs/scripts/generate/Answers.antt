use Rattle.std.proofs.Common.{◌∙◌, arith}
use Rattle.mesa_generate.proofs.Records.{version_more}
use Rattle.mesa_generate.proofs.scripts.generate.Goals as goal

pub versions-preserved : goal.versions-preserved
versions-preserved c =
    let done = c.in_ok-write_version.ensures in
    record {
      same = version_more c.versions.version c.args.versions c.versions.generator.state c.write_version.new.self.state c.versions.generator.script.items c.write_version.new.self.script.items (omega arith) done.script ∙ c.versions.invariant.same;
      small = done.state;
    }
