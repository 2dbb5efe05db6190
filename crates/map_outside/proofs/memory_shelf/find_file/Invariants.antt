use Rattle.std.proofs.Common.{◌≡◌, drop}
use Rattle.map_outside.specs.Forms.{named_bytes, file_named}
use Rattle.map_outside.proofs.memory_shelf.find_file.Given as goal

abbrev pub invariant-loop-file : goal.invariant-loop-file
invariant-loop-file l = file_named (named_bytes (drop l.file-index l.files)) l.name ≡ file_named (named_bytes l.files) l.name
