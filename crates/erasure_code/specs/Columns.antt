-- What it means that columns of the code agree with some of its rows.
use Rattle.std.specs.Prelude.{◌≡◌, ◌≢◌, ℕ, ◌<◌, List, [], All, AllPairs, Contains, length, map, slice_index_or}
use Rattle.erasure_code.specs.Code.{Column, coded}

-- no number stands twice in the list
abbrev pub AreDifferent : List ℕ → Type 0
AreDifferent xs = AllPairs (λ x y. x ≢ y) xs

-- the list has each number below n once
pub record IsEachBelow (n : ℕ) (xs : List ℕ) : Type 0 where
  pub different : AreDifferent xs
  pub below : All (λ x. x < n) xs
  pub all : (x : ℕ) → x < n → Contains xs x

-- the numbers of columns, or of rows
abbrev pub column_numbers : List Column → List ℕ
column_numbers columns = map (λ column. column.number) columns

-- k columns of n bytes: those known stand in their places, and each row is what the code makes of all
pub record Agree (k m n : ℕ) (rows known : List Column) (columns : List (List ℕ)) : Type 0 where
  pub many : length columns ≡ k
  pub long : All (λ column. length column ≡ n) columns
  pub holds : All (λ column. slice_index_or columns column.number [] ≡ column.bytes) known
  pub codes : All (λ row. row.bytes ≡ coded m row.number n columns) rows

-- every column consists of bytes
abbrev pub AreOfBytes : List (List ℕ) → Type 0
AreOfBytes columns = All (λ column. All (λ byte. byte < 256) column) columns
