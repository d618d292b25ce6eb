-- Masks joined through a task, one by one.
use mathlib.Core.Path.{◌≡◌, refl, sym, ◌∙◌}
use mathlib.Core.List.{List}
use Prim.Native.Nat.{ℕ, ◌+◌, ◌≤◌, ◌<◌}
use native.Mathlib.Omega.{arith}
use lib.ListN.{length, get_or, take, set, length-map, length-set}
use Rattle.std.proofs.lemmas.List.{get_or-map, get_or-set_other, take_all, take_more, take_more_set}
use Rattle.precedence.specs.Inner.{joined, joined_through}

-- the first i of the masks are joined through task j, and the others are as they were
pub record Joined (j i : ℕ) (masks old : List ℕ) : Type 0 where
  pub sized : length masks ≡ length old
  pub first : take i masks ≡ take i (joined_through j old)
  pub others : (k : ℕ) → i ≤ k → get_or masks k 0 ≡ get_or old k 0

module _ {j i : ℕ} {masks old : List ℕ} (v : Joined j i masks old) where
  pub one-more-joined : i < length old → {mask : ℕ}
      → mask ≡ joined j old (get_or masks i 0)
      → Joined j (i + 1) (set masks i mask) old
  one-more-joined inside {mask} is =
      let at = get_or-map (joined j old) old i 0 0 inside in
      let room : i < length (joined_through j old) = omega (arith, length-map old (joined j old)) in
      let same = v.others i (omega arith) in
      record {
        sized = length-set masks i mask ∙ v.sized;
        first = rw (take_more_set masks i mask (omega (arith, v.sized)), take_more (joined_through j old) i 0 room)
            (rw (v.first, at, rw same at is) refl);
        others = λ k h. get_or-set_other masks i k mask 0 (λ e. omega arith) ∙ v.others k (omega arith);
      }

  pub all-joined : length old ≤ i → masks ≡ joined_through j old
  all-joined h =
      let long = length-map old (joined j old) in
      sym (take_all i masks (omega (arith, v.sized))) ∙ v.first
      ∙ take_all i (joined_through j old) (omega (arith, long))
