-- "Little-endian.": numbers as bytes, and bytes as numbers.
use Rattle.std.specs.Prelude.{List, [], ◌∷◌, map, ℕ, zero, suc, ◌+◌, ◌*◌, ◌/◌, ◌%◌, ◌<◌, get_or, take, drop}
use Rattle.plan.specs.Lists.{joined}

-- numbers that are bytes
abbrev pub IsBytes : List ℕ → Type 0
IsBytes s = (k : ℕ) → get_or s k 0 < 256

-- the number that bytes hold
unfoldable pub value_of : List ℕ → ℕ
value_of [] = 0
value_of (b ∷ bs) = b + 256 * value_of bs

-- a number in so many bytes
unfoldable pub bytes_of : ℕ → ℕ → List ℕ
bytes_of zero v = []
bytes_of (suc width) v = v % 256 ∷ bytes_of width (v / 256)

-- numbers of 4 bytes each
unfoldable pub words_of : List ℕ → List ℕ
words_of xs = joined (map (bytes_of 4) xs)

-- the number in so many bytes from an offset on
abbrev pub word : List ℕ → ℕ → ℕ → ℕ
word s at width = value_of (take width (drop at s))
