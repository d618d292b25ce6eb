-- "A name is 1 to 16 of A–Z, a–z, 0–9 and hyphen, then zero bytes to its end."
use Rattle.std.specs.Prelude.{Bool, true, false, ◌&&◌, ◌||◌, List, [], ◌∷◌, ℕ, zero, suc, ◌+◌, ◌*◌, eqb, get_or, take, drop}
use Rattle.plan.specs.Lists.{same}
use Rattle.plan.specs.Tasks.{between}
use Rattle.plan.specs.Layout.{names_at, name_width}

-- the 16 bytes of task i's name, counted from 0
abbrev pub name_start : List ℕ → ℕ → ℕ
name_start s i = names_at s + name_width * i

abbrev pub name_field : List ℕ → ℕ → List ℕ
name_field s i = take name_width (drop (name_start s i) s)

abbrev pub is_name_byte : ℕ → Bool
is_name_byte b = between 65 b 90 || (between 97 b 122 || (between 48 b 57 || eqb b 45))

abbrev pub all_zero : List ℕ → Bool
all_zero [] = true
all_zero (b ∷ bs) = eqb b 0 && all_zero bs

-- name bytes, then zero bytes
abbrev pub name_then_zeros : List ℕ → Bool
name_then_zeros [] = true
name_then_zeros (b ∷ bs) = elim (is_name_byte b) [ true ↦ name_then_zeros bs | false ↦ all_zero (b ∷ bs) ]

abbrev pub name_ok : List ℕ → Bool
name_ok field = is_name_byte (get_or field 0 0) && name_then_zeros field

-- "the name, without its zeros"
abbrev pub without_zeros : List ℕ → List ℕ
without_zeros [] = []
without_zeros (b ∷ bs) = elim (eqb b 0) [ true ↦ [] | false ↦ b ∷ without_zeros bs ]

-- "a name equal to an earlier one": task i's, among the first j
abbrev pub named_earlier : List ℕ → ℕ → ℕ → Bool
named_earlier s i zero = false
named_earlier s i (suc j) = named_earlier s i j || same (name_field s i) (name_field s j)
