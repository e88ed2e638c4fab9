-- The coefficients of the parity processes, what rows of the code are, and what lost columns are,
-- given rows and known columns.
use Rattle.std.specs.Prelude.{ℕ, ◌+◌, ◌==◌, List, [], ◌∷◌, map, filter, not, replicate, bit_xor}
use Rattle.field_byte.specs.Field.{product, inverse}
use Rattle.field_byte.specs.Vectors.{add_bytes, scale}

-- the coefficient of parity process i for partition d: an entry of a Cauchy matrix
abbrev pub coefficient : ℕ → ℕ → ℕ → ℕ
coefficient m i d = inverse (bit_xor i (m + d))

-- the code of parity process i over columns, of the partitions from d on
abbrev pub coded_from : ℕ → ℕ → ℕ → List ℕ → List (List ℕ) → List ℕ
coded_from m i d sum [] = sum
coded_from m i d sum (column ∷ columns) = coded_from m i (d + 1) (add_bytes sum (scale (coefficient m i d) column)) columns

-- coded bytes: at each place the field sum, over the partitions, of coefficient times byte
abbrev pub coded : ℕ → ℕ → ℕ → List (List ℕ) → List ℕ
coded m i size columns = coded_from m i 0 (replicate size 0) columns

-- a row or a column of the code, with the number of its parity process or its partition
pub record Column : Type 0 where
  pub number : ℕ
  pub bytes : List ℕ

-- the product of numbers of the field
abbrev pub product_over : List ℕ → (ℕ → ℕ) → ℕ
product_over [] f = 1
product_over (x ∷ xs) f = product (f x) (product_over xs f)

-- the others of a list
abbrev pub others_than : ℕ → List ℕ → List ℕ
others_than x xs = filter (λ y. not (y == x)) xs

-- the inverse of the square of the code that has these rows and these lost columns, at column l and
-- row i: Cauchy's closed form, where a row has x = i, a column has y = m + l, and the entries are the
-- inverses of x + y
abbrev pub weight : ℕ → List ℕ → List ℕ → ℕ → ℕ → ℕ
weight m rows lost l i = product
    (product (product_over lost (λ c. bit_xor i (m + c))) (product_over rows (λ r. bit_xor r (m + l))))
    (inverse (product (bit_xor i (m + l)) (product
    (product_over (others_than i rows) (λ r. bit_xor i r))
    (product_over (others_than l lost) (λ c. bit_xor (m + l) (m + c))))))

-- a row of the code with columns added; those that it had already are gone by that
abbrev pub with_columns : ℕ → ℕ → List Column → List ℕ → List ℕ
with_columns m i [] bytes = bytes
with_columns m i (column ∷ rest) bytes = with_columns m i rest (add_bytes bytes (scale (coefficient m i column.number) column.bytes))

-- the weighted sum of the rows
abbrev pub weighted : ℕ → List ℕ → List ℕ → ℕ → List Column → List Column → List ℕ → List ℕ
weighted m rows lost l known [] sum = sum
weighted m rows lost l known (row ∷ rest) sum =
    weighted m rows lost l known rest (add_bytes sum (scale (weight m rows lost l row.number) (with_columns m row.number known row.bytes)))

-- the lost column l, from as many rows of the code as columns are lost, and the known columns
abbrev pub decoded : ℕ → ℕ → List ℕ → List Column → List Column → ℕ → List ℕ
decoded m block lost rows known l = weighted m (map (λ row. row.number) rows) lost l known rows (replicate block 0)
