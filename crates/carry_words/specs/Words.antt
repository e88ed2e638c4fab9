-- What is said at a member's control address.
use Rattle.std.specs.Prelude.{ℕ, List, ◌++◌, codes}
use Rattle.std.specs.Fmt.{decimal}
use Rattle.carry_words.specs.declared.word.Word.{Word}
use Rattle.carry_words.specs.declared.word.Word.TheVariants.{Close, Moved, Status, Items}

abbrev pub items_text : ℕ → ℕ → List ℕ
items_text partition from = codes "items " ++ (decimal partition ++ (codes " " ++ (decimal from ++ codes "\n")))

abbrev pub word_text : Word → List ℕ
word_text Close = codes "close\n"
word_text Moved = codes "moved\n"
word_text Status = codes "status\n"
word_text (Items partition from) = items_text partition from
