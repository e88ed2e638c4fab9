-- Where the words and the slots of a stage lie: each word on a cache line of its own, and no two nodes on one.
use Rattle.std.specs.Prelude.{ℕ, ◌+◌, ◌*◌, ◌/◌, slice_index, List}
use Rattle.group_types.specs.Dimensions.{Dimensions, processes_of}

-- the word of a process, by its index: 0 while its node is free
abbrev pub word_of : ℕ → ℕ
word_of p = p * 8

-- the process whose word it is
abbrev pub word_process : ℕ → ℕ
word_process word = word / 8

-- the slot of a process's node
abbrev pub slot_of : ℕ → ℕ
slot_of p = p * 2

-- the word that counts the events of the schedule
abbrev pub history_word : Dimensions → ℕ
history_word s = word_of (processes_of s)

-- the word that counts the caller numbers which were drawn
abbrev pub drawing_of : Dimensions → ℕ
drawing_of s = word_of (processes_of s + 1)

-- what a process's word is
abbrev pub word_in : List ℕ → ℕ → ℕ
word_in words p = slice_index words (word_of p)
