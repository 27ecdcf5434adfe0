-- Why a load isn't published.
use Rattle.mesa_model.specs.declared.replies.Reply.TheVariants as reply
use Rattle.mesa_model.specs.Refusals.{batch_refusal}
use Rattle.mesa_open_files.specs.declared.prepared.LoadError.{LoadError}
use Rattle.mesa_open_files.specs.declared.prepared.LoadError.TheVariants as load
use Rattle.mesa_engine.specs.mesa_invariant_spec.Causes.{Cause, NoMemory, Replies, Unwritten}
use Rattle.mesa_write_turns.specs.declared.publishing.Unready.{Unready}
use Rattle.mesa_write_turns.specs.declared.publishing.Unready.TheVariants as why

-- the cause of a turn that publishes nothing
abbrev pub cause_of : Unready → Cause
cause_of (why.Refused refusal) = Replies (reply.Refused refusal)
cause_of why.Draft = Unwritten
cause_of why.Memory = NoMemory

-- why a load isn't published whose rows have no files
abbrev pub unready_as : LoadError → Unready
unready_as (load.Batch error) = why.Refused (batch_refusal error)
unready_as load.Draft = why.Draft
unready_as load.Memory = why.Memory
