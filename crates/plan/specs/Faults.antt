-- Refusals: "each fault gets its number and place".
use Rattle.std.specs.Prelude.{Bool, cond, List, [], ◌∷◌, ℕ, zero, suc, eqb}
use Rattle.plan.specs.declared.faults.Fault.{Fault}

-- number 0 is no fault
abbrev pub fault : ℕ → ℕ → Fault
fault n p = record { number = n; place = p }

abbrev pub none : Fault
none = fault 0 0

abbrev pub fault_if : Bool → ℕ → ℕ → Fault
fault_if broken n p = cond broken (fault n p) none

abbrev pub passed : Fault → Bool
passed f = eqb f.number 0

-- rules are tested in their order: the first one that is broken counts
abbrev pub or_else : Fault → Fault → Fault
or_else f g = cond (passed f) g f

abbrev pub first_fault : List Fault → Fault
first_fault [] = none
first_fault (f ∷ fs) = or_else f (first_fault fs)

-- the first fault among the rules f i, f (i + 1), .., so many of them
unfoldable pub first_from : (ℕ → Fault) → ℕ → ℕ → Fault
first_from f zero i = none
first_from f (suc left) i = or_else (f i) (first_from f left (suc i))
