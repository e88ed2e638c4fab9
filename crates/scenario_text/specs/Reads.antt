use Rattle.std.specs.Prelude.{◌≡◌, Option, Some, None, Result, Ok, Err, ⊤}
use Rattle.scenario_text.specs.declared.line.LineFault.{LineFault}
use Rattle.scenario_text.specs.declared.line.LineFault.TheVariants.{BadLine, BadShape, Want}

-- an answer of reading, seen through f: what there is to read, or a bad line where there is nothing;
-- want of memory may come at any time
abbrev pub IsReadBy : {T X : Type 0} → (T → X) → Result T LineFault → Option X → Type 0
IsReadBy f (Ok x) read = read ≡ Some (f x)
IsReadBy f (Err BadLine) read = read ≡ None
IsReadBy f (Err (BadShape _)) read = ⊥
IsReadBy f (Err Want) read = ⊤

-- the same of an answer as it is
abbrev pub IsReadAs : {T : Type 0} → Result T LineFault → Option T → Type 0
IsReadAs result read = IsReadBy (λ x. x) result read

-- an answer is the meaning, but that want of memory may come at any time
abbrev pub IsMeaning : {T : Type 0} → Result T LineFault → Result T LineFault → Type 0
IsMeaning (Ok x) meaning = meaning ≡ Ok x
IsMeaning (Err BadLine) meaning = meaning ≡ Err BadLine
IsMeaning (Err (BadShape field)) meaning = meaning ≡ Err (BadShape field)
IsMeaning (Err Want) meaning = ⊤
