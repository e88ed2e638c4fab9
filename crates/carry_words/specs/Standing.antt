-- What a member's status tells, as lines of a name and what it has.
use Rattle.std.specs.Prelude.{ℕ, ◌≡◌, ◌==◌, ◌++◌, ◌&&◌, ◌||◌, not, Bool, List, codes, nat_eq, Contains, Some}
use Rattle.std.specs.Fmt.{decimal}
use Rattle.std.specs.List.{slice_split, list_any, list_all, starts_with, ends_with}
use Rattle.std.specs.Str.{bytes_eq}
use Rattle.memc_table.specs.Numeral.{number_of}

abbrev pub status_lines : List ℕ → List (List ℕ)
status_lines status = slice_split (λ b. b == 10) status

-- one of the lines is this text
abbrev pub has_line : List (List ℕ) → List ℕ → Bool
has_line lines text = list_any (λ line. bytes_eq line text) lines

-- a line, if it counts the unfinished updates of a partition, counts none
abbrev pub is_settled : List ℕ → Bool
is_settled line = not (starts_with nat_eq line (codes "unfinished ")) || ends_with nat_eq line (codes " 0")

-- the member is closed, no call is open there that may change an item, and no update is unfinished in a partition that it heads
abbrev pub is_at_rest : List ℕ → Bool
is_at_rest status =
    has_line (status_lines status) (codes "closed 1") && (has_line (status_lines status) (codes "changing 0") && list_all is_settled (status_lines status))

abbrev pub base_front : ℕ → List ℕ
base_front partition = codes "base " ++ (decimal partition ++ codes " ")

-- a line has this number behind this front
pub record HasNumberLine (lines : List (List ℕ)) (front : List ℕ) (n : ℕ) : Type 0 where
  pub digits : List ℕ
  pub line : Contains lines (front ++ digits)
  pub is : number_of digits ≡ Some n

-- the status tells this base of a partition
abbrev pub TellsBase : List ℕ → ℕ → ℕ → Type 0
TellsBase status partition base = HasNumberLine (status_lines status) (base_front partition) base
