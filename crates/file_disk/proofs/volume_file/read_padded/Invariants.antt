use Rattle.std.proofs.Common.{◌≤◌, length}
use Rattle.file_disk.proofs.volume_file.read_padded.Given as goal

-- as many bytes were read as there is room for, or fewer
abbrev pub invariant-reading : goal.invariant-reading
invariant-reading g l = l.done ≤ length l.into
