-- Files in memory.
use Rattle.std.specs.BTreeMap.{get_by_text}
use Rattle.co_link.specs.Calls.{Calls}
use Rattle.co_link.specs.Files.{Folder}
use Rattle.co_link.specs.declared.memory_files.MemoryFiles.{MemoryFiles}

-- the bytes under each name
abbrev pub folder_of : MemoryFiles → Folder
folder_of m = λ name. get_by_text m.files name

-- its calls, those to read and those to write together
abbrev pub files_calls : MemoryFiles → Calls
files_calls m = m.calls
