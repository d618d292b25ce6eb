-- The published listing of plan P, a refusal and a stop, computed from the bytes of the file.
use mathlib.Core.Path.{◌≡◌, refl, ap}
use mathlib.Core.List.{[], ◌∷◌}
use Rattle.plan.specs.Words.{value_of, bytes_of, words_of}
use Rattle.plan.specs.Canonical.{header_bytes, canonical}
use Rattle.plan.specs.Faults.{first_from}
use Rattle.plan.specs.Files.{file_fault, tasks_of}
use Rattle.plan.proofs.Samples.{plan_p}
use Rattle.response.specs.Analysis.{demand, climb_from, busy_period}
use Rattle.optimizer.specs.Promises.{call_fault, outcome_of}
use Rattle.optimizer.proofs.Examples.{published as searched}
use Rattle.listing.specs.Text.{decimal, listing_for, listing_of}
use Rattle.listing.specs.Promises.{timetable_of}

pub record Published : Type 0 where
  -- `cost 6 rounds 4`, `gauge 2 1`, `radio 4 4`
  pub answer : timetable_of plan_p
      ≡ 99 ∷ 111 ∷ 115 ∷ 116 ∷ 32 ∷ 54 ∷ 32 ∷ 114 ∷ 111 ∷ 117 ∷ 110 ∷ 100 ∷ 115 ∷ 32 ∷ 52 ∷ 10
      ∷ 103 ∷ 97 ∷ 117 ∷ 103 ∷ 101 ∷ 32 ∷ 50 ∷ 32 ∷ 49 ∷ 10
      ∷ 114 ∷ 97 ∷ 100 ∷ 105 ∷ 111 ∷ 32 ∷ 52 ∷ 32 ∷ 52 ∷ 10 ∷ []
  -- `refused 1 0`
  pub refusal : timetable_of [] ≡ 114 ∷ 101 ∷ 102 ∷ 117 ∷ 115 ∷ 101 ∷ 100 ∷ 32 ∷ 49 ∷ 32 ∷ 48 ∷ 10 ∷ []
  -- `refused 33 0 bound 6 rounds 3 best 6`
  pub stop : listing_of plan_p 3 16000
      ≡ 114 ∷ 101 ∷ 102 ∷ 117 ∷ 115 ∷ 101 ∷ 100 ∷ 32 ∷ 51 ∷ 51 ∷ 32 ∷ 48 ∷ 32 ∷ 98 ∷ 111 ∷ 117 ∷ 110 ∷ 100 ∷ 32 ∷ 54 ∷ 32
      ∷ 114 ∷ 111 ∷ 117 ∷ 110 ∷ 100 ∷ 115 ∷ 32 ∷ 51 ∷ 32 ∷ 98 ∷ 101 ∷ 115 ∷ 116 ∷ 32 ∷ 54 ∷ 10 ∷ []

pub published : Published
unfolding value_of bytes_of words_of header_bytes canonical first_from file_fault tasks_of demand climb_from busy_period call_fault outcome_of decimal listing_for
published = record {
  answer = ap (listing_for plan_p) searched.answer;
  refusal = refl;
  stop = ap (listing_for plan_p) searched.budget3;
}
