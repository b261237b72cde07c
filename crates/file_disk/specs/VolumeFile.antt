use Rattle.std.specs.Prelude.{Bool, is_ok}
use Rattle.file_disk.specs.declared.volume_file.VolumeFile.{VolumeFile}

-- whether the file could be opened
abbrev pub is_opened : VolumeFile → Bool
is_opened f = is_ok f.file
