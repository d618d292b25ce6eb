-- The lines of the tasks with their counts.
use mathlib.Core.Path.{◌≡◌, refl}
use mathlib.Core.List.{List, [], ◌∷◌, ◌++◌}
use Prim.Native.Nat.{ℕ, ◌+◌}
use native.Mathlib.Numerals.{add-one}
use lib.ListN.{get_or}
use Rattle.plan.specs.Files.{name_of}
use Rattle.listing.specs.Text.{line, decimal}
use Rattle.feeders.specs.Text.{count_lines}

pub count-more : (s cs : List ℕ) (i : ℕ) {name : List ℕ} {count : ℕ} → name ≡ name_of s (i + 1) → count ≡ get_or cs i 0
    → count_lines s cs i ++ line (name ∷ decimal count ∷ []) ≡ count_lines s cs (i + 1)
count-more s cs i n c = rw (add-one, n, c) refl
