-- The law of the code: as many rows as columns are lost give the lost columns.
use Rattle.std.specs.Prelude.{◌≡◌, ℕ, ◌+◌, ◌<◌, ◌≤◌, List, [], ◌++◌, All, length, slice_index_or}
use Rattle.erasure_code.specs.Code.{Column, decoded}
use Rattle.erasure_code.specs.Columns.{Agree, AreDifferent, AreOfBytes, IsEachBelow, column_numbers}

-- each of k partitions is lost or known, and as many different rows of m as columns are lost are there
pub record CanDecode (k m : ℕ) (lost : List ℕ) (rows known : List Column) : Type 0 where
  pub processes : k + m ≤ 256
  pub partitions : IsEachBelow k (lost ++ column_numbers known)
  pub different : AreDifferent (column_numbers rows)
  pub below : All (λ i. i < m) (column_numbers rows)
  pub as_many : length rows ≡ length lost

-- the columns that agree have in their lost places what the rows and the known columns decode to
abbrev pub LostAreDecoded : Type 0
LostAreDecoded = (k m n : ℕ) (lost : List ℕ) (rows known : List Column) (columns : List (List ℕ)) → CanDecode k m lost rows known → AreOfBytes columns
    → Agree k m n rows known columns → All (λ d. slice_index_or columns d [] ≡ decoded m n lost rows known d) lost

-- no others agree
abbrev pub OnlyOneAgrees : Type 0
OnlyOneAgrees = (k m n : ℕ) (lost : List ℕ) (rows known : List Column) (columns others : List (List ℕ))
    → CanDecode k m lost rows known → AreOfBytes columns → AreOfBytes others
    → Agree k m n rows known columns → Agree k m n rows known others → others ≡ columns
