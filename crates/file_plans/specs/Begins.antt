-- Whether a host has the hold that its call wants.
use Rattle.std.specs.Prelude.{Bool}
use Rattle.vol_base.specs.declared.plain.PlainCall.TheVariants.{Read}
use Rattle.vol_layout.specs.declared.kind.Resource.TheVariants.{File}
use Rattle.lock_store.specs.declared.host.HostState.{HostState}
use Rattle.lock_store.specs.Memories.{holds, may_read}
use Rattle.file_plans.specs.Calls.{file_of}
use Rattle.file_plans.specs.declared.call.FileCall.{FileCall}
use Rattle.file_plans.specs.declared.call.FileCall.TheVariants.{Plain}

-- a read may be done under a read hold or a write hold of its file, any other call under a write hold
abbrev pub has_hold : FileCall → HostState → Bool
has_hold (Plain (Read f i)) m = may_read m (File f)
has_hold call m = holds m (File (file_of call))
