-- A number of each task, as a plan's column has it.
use mathlib.Core.Path.{◌≡◌, refl}
use mathlib.Core.List.{List, [], ◌∷◌, ◌++◌, map}
use Prim.Native.Nat.{ℕ}
use Rattle.std.specs.List.{AllZip}
use Rattle.plan.specs.declared.tasks.Task.{Task}

pub zip-push : {A B : Type 0} (R : A → B → Type 0) (xs : List A) (ys : List B) (x : A) (y : B)
    → AllZip R xs ys → R x y → AllZip R (xs ++ x ∷ []) (ys ++ y ∷ [])
zip-push R [] [] x y h r = (r, tt)
zip-push R [] (z ∷ ys) x y h r = absurd h
zip-push R (z ∷ xs) [] x y h r = absurd h
zip-push R (z ∷ xs) (w ∷ ys) x y h r = (h.0, zip-push R xs ys x y h.1 r)

-- where a number that the closure may return of a task is always f of it
pub column-is : (f : Task → ℕ) {P : Task → ℕ → Type 0} → ((t : Task) (x : ℕ) → P t x → x ≡ f t)
    → (ts : List Task) (xs : List ℕ) → AllZip P ts xs → xs ≡ map f ts
column-is f s [] [] h = refl
column-is f s [] (x ∷ xs) h = absurd h
column-is f s (t ∷ ts) [] h = absurd h
column-is f s (t ∷ ts) (x ∷ xs) h = let e = s t x h.0 in let es = column-is f s ts xs h.1 in rw (e, es)
