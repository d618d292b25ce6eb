-- The block's bytes: stored field by field and number by number, and what they read back as.
use mathlib.Core.Path.{◌≡◌, refl, sym, ap, ◌∙◌}
use mathlib.Core.List.{List, [], ◌∷◌, ◌++◌, append_assoc}
use Prim.Native.Nat.{ℕ, suc, ◌+◌, ◌*◌, ◌^◌, ◌<◌}
use native.Mathlib.Omega.{arith}
use lib.ListN.{length, length-append}
use lib.Seq.{sets, take_at, drop_at}
use Rattle.plan.specs.Lists.{tabulate}
use Rattle.plan.specs.Words.{bytes_of, words_of, word}
use Rattle.plan.specs.Tasks.{max_tasks}
use Rattle.plan.proofs.Lists.{sets-append, sets-whole}
use Rattle.plan.proofs.Bytes.{bytes-length, bytes-value, put, put_then, words-length}
use Rattle.optimizer.specs.declared.conclusion.Answer.{Answer}
use Rattle.desk.specs.declared.block.Carried.{Carried}
use Rattle.desk.specs.Block.{block_size, periods_at, answer_bytes, encoded, carried}
use Rattle.desk.specs.Inner.{Narrow, Writes}

pub answer-put : (b : List ℕ) (a : Answer) (n : ℕ)
    → put
    (put (put (put (put (put b 0 4 a.fault.number) 4 4 a.fault.place) 8 8 a.cost) 16 8 a.rounds) 24 8 a.bound) 32 4 n
    ≡ sets b 0 (answer_bytes a n)
unfolding answer_bytes
answer-put b a n = simp put_then

-- numbers of 4 bytes each, behind other bytes, read back
words_back : (xs front : List ℕ) (at i : ℕ) → length front ≡ at + 4 * i → Narrow xs
    → tabulate (λ k. word (front ++ words_of xs) (at + 4 * k) 4) (length xs) i ≡ xs
unfolding words_of
words_back [] front at i l h = refl
words_back (x ∷ xs) front at i l h =
    let n = bytes-length 4 x in
    let rest : List ℕ = bytes_of 4 x ++ words_of xs in
    let here : word (front ++ rest) (at + 4 * i) 4 ≡ x =
    rw (drop_at front rest (at + 4 * i) l, take_at (bytes_of 4 x) (words_of xs) 4 n) (bytes-value 4 x (h 0)) in
    let there = words_back xs (front ++ bytes_of 4 x) at (suc i) (simp length-append (omega arith)) (λ k. h (suc k)) in
    rw here (ap (λ (l : List ℕ). x ∷ l) (rw append_assoc at there))

-- each number is below its width
pub record Fits (a : Carried) : Type 0 where
  pub number : a.answer.fault.number < 256 ^ 4
  pub place : a.answer.fault.place < 256 ^ 4
  pub cost : a.answer.cost < 256 ^ 8
  pub rounds : a.answer.rounds < 256 ^ 8
  pub bound : a.answer.bound < 256 ^ 8
  pub tasks : a.tasks < 256 ^ 4
  pub periods : Narrow a.periods
  pub sixteen : length a.periods ≡ max_tasks

encoded-carried : (c : Carried) → Fits c → carried (encoded c) ≡ c
unfolding encoded carried answer_bytes bytes_of
encoded-carried c f =
    let a : Answer = c.answer in
    let front : List ℕ = answer_bytes a c.tasks in
    let periods = rw f.sixteen at (words_back c.periods front periods_at 0 refl f.periods) in
    rw (
      bytes-value 4 a.fault.number f.number,
      bytes-value 4 a.fault.place f.place,
      bytes-value 8 a.cost f.cost,
      bytes-value 8 a.rounds f.rounds,
      bytes-value 8 a.bound f.bound,
      bytes-value 4 c.tasks f.tasks,
      periods,
    )

answer-length : (a : Answer) (n : ℕ) → length (answer_bytes a n) ≡ periods_at
unfolding answer_bytes bytes_of
answer-length a n = refl

-- the whole block, its periods behind the answer
pub block_written : (b : List ℕ) (c : Carried) → length b ≡ block_size → Fits c
    → Writes c (sets (sets b 0 (answer_bytes c.answer c.tasks)) periods_at (words_of c.periods))
unfolding encoded
block_written b c l f =
    let front : List ℕ = answer_bytes c.answer c.tasks in
    let behind = answer-length c.answer c.tasks in
    let size : length (encoded c) ≡ block_size = simp (length-append, words-length) (omega (arith, f.sixteen)) in
    let joined = rw behind at (sets-append b front (words_of c.periods) 0) in
    let all = sym joined ∙ sets-whole b (encoded c) (l ∙ sym size) in
    record { bytes = all; reads = rw all (encoded-carried c f) }
