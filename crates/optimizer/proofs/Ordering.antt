-- The library's order of slices is the order of assignments of the same cost.
use Rattle.std.proofs.Common.{◌≡◌, ℕ, Bool, List, Some, nat_cmp, is_lt, refl, arith}
use Rattle.std.specs.Ordering.{is_some_and}
use Rattle.std.specs.Cmp.Lexicographic.{slice_partial_cmp}
use Rattle.std.proofs.lemmas.Bool.Decides.{nat_tests}
use Rattle.std.proofs.lemmas.Cmp.{same_from_slice_cmp_tested}
use Rattle.response.specs.Assignments.{before}

pub before-is : (xs ys : List ℕ) (r : Bool) → r ≡ is_some_and is_lt (slice_partial_cmp (λ x y. Some (nat_cmp x y)) xs ys) → r ≡ before xs ys
before-is = same_from_slice_cmp_tested nat_cmp is_lt before refl (λ _ _. refl) (λ _ _. refl) (λ x y xs ys o h. grind (arith, nat_tests))
