-- The files of the examples P and S, in their canonical form.
use mathlib.Core.List.{List, [], ◌∷◌, map}
use Prim.Native.Nat.{ℕ}
use Rattle.plan.specs.declared.tasks.Task.{Task}
use Rattle.plan.specs.Canonical.{canonical}

-- C, lo, hi, cap, w; no hold and no late
abbrev task : ℕ → ℕ → ℕ → ℕ → ℕ → Task
task c lo hi most w = record {
  wcet = c;
  period_min = lo;
  period_max = hi;
  deadline_cap = most;
  weight = w;
  blocking = 0;
  jitter = 0;
}

abbrev gauge : List ℕ
gauge = 103 ∷ 97 ∷ 117 ∷ 103 ∷ 101 ∷ []

abbrev radio : List ℕ
radio = 114 ∷ 97 ∷ 100 ∷ 105 ∷ 111 ∷ []

-- "Plan P: gauge (C 1, bounds 1 to 6), radio (C 2, bounds 1 to 8), caps 1,000, weights 1 and 1"; its variants have another high bound
-- of gauge, another cap or another weight of radio
abbrev pub variant_p : ℕ → ℕ → ℕ → List ℕ
variant_p high most weight = canonical (task 1 1 high 1000 1 ∷ task 2 1 8 most weight ∷ []) (gauge ∷ radio ∷ [])

abbrev pub plan_p : List ℕ
plan_p = variant_p 6 1000 1

-- "Plan S: C 20, 30, 40, 50, 60, 70, each bounds 1 to 1,000, caps 1,000, weights 1"; its names are job-1 to job-6
abbrev pub plan_s : List ℕ
plan_s =
    canonical
    (map (λ (c : ℕ). task c 1 1000 1000 1) (20 ∷ 30 ∷ 40 ∷ 50 ∷ 60 ∷ 70 ∷ []))
    (map (λ (d : ℕ). 106 ∷ 111 ∷ 98 ∷ 45 ∷ d ∷ []) (49 ∷ 50 ∷ 51 ∷ 52 ∷ 53 ∷ 54 ∷ []))
