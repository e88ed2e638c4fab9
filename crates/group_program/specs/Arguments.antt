-- What a program's arguments say.
use Rattle.std.specs.Prelude.{◌≡◌, ℕ, List, [], drop, map, Result, Ok, Err, String}
use Rattle.std.specs.Global.{Global}
use Rattle.std.specs.declared.io.Error.{Error}
use Rattle.std.specs.IoError.{error_kind}
use Rattle.std.specs.String.{string_bytes}
use Rattle.std.specs.declared.vec.IntoIter.{IntoIter}
use Rattle.std.specs.Vec.Iter.{into_iter_items}
use Rattle.std.specs.declared.io.ErrorKind.TheVariants.{OutOfMemory}

-- the words behind the program's name: none where the arguments are no text
abbrev pub words_behind : Result (IntoIter (String Global) Global) Error → List (List ℕ)
words_behind (Ok all) = drop 1 (map string_bytes (into_iter_items all))
words_behind (Err _) = []

-- there was no memory to hold the arguments
abbrev pub lacks_memory : Result (IntoIter (String Global) Global) Error → Type 0
lacks_memory (Ok _) = ⊥
lacks_memory (Err error) = error_kind error ≡ OutOfMemory
