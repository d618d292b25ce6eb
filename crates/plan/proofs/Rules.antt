-- The first broken rule: of two, of a list, of a run.
use mathlib.Core.Path.{◌≡◌, refl, sym, ap, ◌∙◌}
use mathlib.Core.Bool.{Bool, true, false}
use mathlib.Core.Logic.{inl, inr}
use mathlib.Core.List.{List}
use Prim.Native.Nat.{ℕ, zero, suc, ◌+◌, ◌-◌, ◌≤◌, ◌<◌}
use native.Mathlib.Omega.{arith}
use lib.ListN.{length, get_or}
use borrow.Author.Tests.{eq-eqb, ne_eqb}
use denote.Param.Members.{Mut}
use Rattle.std.specs.Prelude.{Option, None, Some}
use Rattle.std.specs.Fn.{Called}
use Rattle.std.specs.Iterator.{YieldsThen}
use Rattle.std.specs.List.{FoldsTo, AllWithin, HoldsAt}
use Rattle.std.specs.Option.{MatchOption, option_map}
use Rattle.std.proofs.lemmas.Iterator.{YieldsList, IsFirst-from_position}
use Rattle.plan.specs.declared.faults.Fault.{Fault}
use Rattle.plan.specs.Faults.{fault, none, fault_if, or_else, first_from}
use Rattle.plan.proofs.Tests.{eq-or-ne}

-- a rule that passed leaves the word to the next; one that did not has it
pub or-next : (f g : Fault) → f.number ≡ 0 → or_else f g ≡ g
or-next f g e = rw (eq-eqb f.number 0 e)

pub or-here : (f g : Fault) → (f.number ≡ 0 → ⊥) → or_else f g ≡ f
or-here f g h = rw (ne_eqb f.number 0 h)

-- no fault of two is no fault of either
pub or-first : (f g : Fault) → (or_else f g).number ≡ 0 → f.number ≡ 0
or-first f g e = elim (eq-or-ne f.number 0) [ inl z ↦ z | inr z ↦ rw (or-here f g z) at e ]

pub or-second : (f g : Fault) → (or_else f g).number ≡ 0 → g.number ≡ 0
or-second f g e = rw (or-next f g (or-first f g e)) at e

-- a test as its rule's fault
pub if-passed : (b : Bool) (n p : ℕ) → (fault_if b (suc n) p).number ≡ 0 → b ≡ false
if-passed true n p e = let z : ⊥ = omega arith in absurd z
if-passed false n p e = refl

-- a run of n rules from 0 or later, at rule i
module _ (f : ℕ → Fault) (n i : ℕ) where
  left : i < n → n - i ≡ suc (n - (i + 1))
  left h = omega arith

  pub run-here : i < n → ((f i).number ≡ 0 → ⊥) → first_from f (n - i) i ≡ f i
  unfolding first_from
  run-here h z = rw (left h) (or-here (f i) _ z)

  pub run-next : i < n → (f i).number ≡ 0 → first_from f (n - i) i ≡ first_from f (n - (i + 1)) (i + 1)
  unfolding first_from
  run-next h z = let e : suc i ≡ i + 1 = omega arith in rw (left h) (or-next (f i) _ z ∙ ap (first_from f (n - (i + 1))) e)

  pub run-if : (m p : ℕ) → i < n → f i ≡ fault (suc m) p → first_from f (n - i) i ≡ fault (suc m) p
  run-if m p h e = run-here h (λ z. let q : suc m ≡ 0 = sym (ap (λ g. g.number) e) ∙ z in omega arith) ∙ e

  -- of tasks: the place of rule i is task i + 1
  pub run-task : (m : ℕ) → i < n → f i ≡ fault (suc m) (suc i) → first_from f (n - i) i ≡ fault (suc m) (i + 1)
  run-task m h e = let a : suc i ≡ i + 1 = omega arith in rw (← a) (run-if m (suc i) h e)

  pub run_end : n ≤ i → first_from f (n - i) i ≡ none
  unfolding first_from
  run_end h = let e : n - i ≡ 0 = omega arith in rw e

-- rules that pass are passed over, k at once
pub run-skip : (f : ℕ → Fault) (n i k : ℕ) → i + k ≤ n → ((j : ℕ) → i ≤ j → j < i + k → (f j).number ≡ 0)
    → first_from f (n - i) i ≡ first_from f (n - (i + k)) (i + k)
run-skip f n i zero h p = let e : i + 0 ≡ i = omega arith in rw e
run-skip f n i (suc k) h p =
    let e : i + 1 + k ≡ i + suc k = omega arith in
    let others = run-skip f n (i + 1) k (omega arith) (λ j l m. p j (omega arith) (omega arith)) in
    run-next f n i (omega arith) (p i (omega arith) (omega arith)) ∙ rw e at others

-- a run in two parts, and two runs of the same rules
pub run-split : (f : ℕ → Fault) (a b i : ℕ)
    → first_from f (a + b) i ≡ or_else (first_from f a i) (first_from f b (i + a))
unfolding first_from
run-split f zero b i = let e : i + 0 ≡ i = omega arith in let z : 0 + b ≡ b = omega arith in rw (z, e)
run-split f (suc a) b i =
    let e : i + suc a ≡ suc i + a = omega arith in
    let n : suc a + b ≡ suc (a + b) = omega arith in
    elim (eq-or-ne (f i).number 0) [
      | inl z ↦ rw (n, e, eq-eqb (f i).number 0 z) (run-split f a b (suc i))
      | inr z ↦ rw (n, ne_eqb (f i).number 0 z, ne_eqb (f i).number 0 z) refl
    ]

pub run-on : (f : ℕ → Fault) (i k n : ℕ) → i ≤ k → k ≤ n
    → first_from f (n - i) i ≡ or_else (first_from f (k - i) i) (first_from f (n - k) k)
run-on f i k n l m =
    let a : n - i ≡ k - i + (n - k) = omega arith in
    let b : i + (k - i) ≡ k = omega arith in
    rw a (rw b at (run-split f (k - i) (n - k) i))

pub run-same : (f g : ℕ → Fault) (left i : ℕ) → ((k : ℕ) → i ≤ k → k < i + left → f k ≡ g k)
    → first_from f left i ≡ first_from g left i
unfolding first_from
run-same f g zero i h = refl
run-same f g (suc left) i h =
    rw (h i (omega arith) (omega arith), run-same f g left (suc i) (λ k p q. h k (omega arith) (omega arith)))

-- a run without a fault: each of its rules passed
pub run-passed : (f : ℕ → Fault) (left i : ℕ) → (first_from f left i).number ≡ 0 → (k : ℕ) → i ≤ k → k < i + left → (f k).number ≡ 0
unfolding first_from
run-passed f zero i e k p q = let z : ⊥ = omega arith in absurd z
run-passed f (suc left) i e k p q = elim (eq-or-ne i k) [
  | inl z ↦ rw z at (or-first (f i) (first_from f left (suc i)) e)
  | inr z ↦ run-passed f left (suc i) (or-second (f i) (first_from f left (suc i)) e) k (omega arith) (omega arith)
]

pub run_none : (f : ℕ → Fault) (left i : ℕ) → (first_from f left i).number ≡ 0 → first_from f left i ≡ none
unfolding first_from
run_none f zero i e = refl
run_none f (suc left) i e =
    let others = first_from f left (suc i) in
    or-next (f i) others (or-first (f i) others e) ∙ run_none f left (suc i) (or-second (f i) others e)

pub run-all : (f : ℕ → Fault) (left i : ℕ) → ((k : ℕ) → i ≤ k → k < i + left → (f k).number ≡ 0) → first_from f left i ≡ none
unfolding first_from
run-all f zero i h = refl
run-all f (suc left) i h =
    or-next (f i) (first_from f left (suc i)) (h i (omega arith) (omega arith))
    ∙ run-all f left (suc i) (λ k p q. h k (omega arith) (omega arith))

-- the first rule of a run that is broken, where all before it passed
pub run-first : (f : ℕ → Fault) (n i k : ℕ) → i ≤ k → k < n → ((j : ℕ) → i ≤ j → j < k → (f j).number ≡ 0)
    → ((f k).number ≡ 0 → ⊥) → first_from f (n - i) i ≡ f k
run-first f n i k l m p h =
    let e : i + (k - i) ≡ k = omega arith in
    let skip = run-skip f n i (k - i) (omega arith) (λ j a b. p j a (omega arith)) in
    rw e at skip ∙ run-here f n k m h

-- a search answers which rule of a run is the first that is broken, or that none is; and the run's fault is that rule's
abbrev pub FirstBroken : (ℕ → Fault) → ℕ → ℕ → Option ℕ → Type 0
FirstBroken f i n r =
    MatchOption r ((k : ℕ) → i ≤ k → k < n → (f k).number ≡ 0)
    (λ k. (i ≤ k) × (k < n) × ((f k).number ≡ 0 → ⊥) × ((j : ℕ) → i ≤ j → j < k → (f j).number ≡ 0))

abbrev pub fault_at : (ℕ → Fault) → Option ℕ → Fault
fault_at f None = none
fault_at f (Some k) = f k

pub run-found : (f : ℕ → Fault) (i n : ℕ) (r : Option ℕ) → FirstBroken f i n r → first_from f (n - i) i ≡ fault_at f r
run-found f i n None h = run-all f (n - i) i (λ k l m. h k l (omega arith))
run-found f i n (Some k) (l, m, z, p) = run-first f n i k l m p z

-- the same of a rule for each element of a list, by a test of it: what `position` answers
module _ {A : Type 0} (t : A → Bool) (all : List A) (d : A) where
  abbrev pub FirstPassing : Option ℕ → Type 0
  FirstPassing r =
      MatchOption r (AllWithin (λ x. t x ≡ false) all 0 (length all))
      (λ k. (k < length all) × HoldsAt (λ x. t x ≡ true) all k × AllWithin (λ x. t x ≡ false) all 0 k)

  pub position-passing : {S A' F : Type 0} {steps : S → Option A' → S → Type 0} {v : A' → A}
      {g : Mut F (A' × Unit {0}) Bool} {s : S} (u : S) (p : F)
      (r : Option ℕ)
      → (xs : List A') × (o : Option A') × (j : F) × YieldsThen steps s xs o u
      × FoldsTo (λ p x q. Called g p (x, tt) false q) p xs j
      × MatchOption o (r ≡ None) (λ x. (r ≡ Some (length xs)) × ((h : F) × Called g j (x, tt) true h))
      → YieldsList steps v s all
      → ((x : A') (b : Bool) (q : F) → Called g p (x, tt) b q → (q ≡ p) × (b ≡ t (v x)))
      → FirstPassing r
  position-passing u p r ran chain test =
      IsFirst-from_position u p r (λ x. t x ≡ true) (λ x. t x ≡ false) ran chain
      (λ x q k. sym (test x true q k).1)
      (λ x q k. let e = test x false q k in (e.0, sym e.1))

  -- where the test tells whether the element's rule is broken
  module _ (f : ℕ → Fault) (i : ℕ)
      (pass : (k : ℕ) → k < length all → t (get_or all k d) ≡ false → (f (i + k)).number ≡ 0)
      (break : (k : ℕ) → k < length all → t (get_or all k d) ≡ true → (f (i + k)).number ≡ 0 → ⊥) where
    passed-before : (m : ℕ) → m ≤ length all → AllWithin (λ x. t x ≡ false) all 0 m → (k : ℕ) → i ≤ k → k < i + m
        → (f k).number ≡ 0
    passed-before m h all k a b =
        let e : i + (k - i) ≡ k = omega arith in
        rw e at (pass (k - i) (omega arith) (all (k - i) d (omega arith) (omega arith)))

    pub position-broken : (r : Option ℕ) → FirstPassing r → FirstBroken f i (i + length all) (option_map (λ k. i + k) r)
    position-broken None h = passed-before (length all) (omega arith) h
    position-broken (Some k) (l, here, before) =
        (omega arith, omega arith, break k l (here d), passed-before k (omega arith) before)

-- a run with a fault: it is that of one of its rules
pub run-some : (f : ℕ → Fault) (left i : ℕ) → ((first_from f left i).number ≡ 0 → ⊥) → (k : ℕ) × ((k < i + left) × (first_from f left i ≡ f k))
unfolding first_from
run-some f zero i h = absurd (h refl)
run-some f (suc left) i h = elim (eq-or-ne (f i).number 0) [
  | inr z ↦ (i, (omega arith, or-here (f i) _ z))
  | inl z ↦ let e = or-next (f i) (first_from f left (suc i)) z in
      let r = run-some f left (suc i) (λ y. h (ap (λ g. g.number) e ∙ y)) in
      (r.0, (omega (arith, r.1.0), e ∙ r.1.1))
]
