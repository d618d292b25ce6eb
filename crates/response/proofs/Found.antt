-- Times as the code answers them: none, or the time.
use Rattle.std.proofs.Common.{◌≡◌, ℕ, zero, suc, leb, ◌≤◌, rules, is_some, Some, None}
use Rattle.std.specs.Option.{IsSome}
use Rattle.response.specs.Inner.{some_time}

pub found-none : (n : ℕ) → some_time n ≡ None → n ≡ 0
found-none zero e = search rules
found-none (suc n) e = search rules

pub found-some : (n : ℕ) {t : ℕ} → some_time n ≡ Some t → (t ≡ n) × (1 ≤ t)
found-some zero e = search rules
found-some (suc n) e = search rules

pub found : (n : ℕ) → 1 ≤ n → IsSome (some_time n)
found zero h = search rules
found (suc n) h = search rules

pub is-found : (n : ℕ) → is_some (some_time n) ≡ leb 1 n
is-found zero = search rules
is-found (suc n) = search rules
