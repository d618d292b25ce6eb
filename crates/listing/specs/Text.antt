-- Program `timetable`'s text, as bytes, in the order of docs/FORMAT.md, "Listing".
use Rattle.std.specs.Prelude.{cond, List, [], ◌∷◌, ◌++◌, ℕ, zero, suc, ◌+◌, ◌/◌, ◌%◌, ltb, length, get_or}
use Rattle.plan.specs.declared.faults.Fault.{Fault}
use Rattle.plan.specs.Faults.{passed}
use Rattle.plan.specs.Files.{tasks_of, name_of}
use Rattle.response.specs.Analysis.{response_time}
use Rattle.optimizer.specs.Promises.{Outcome, outcome}

-- "All numbers are decimal.": the digits of a number that has so many at most
abbrev pub decimal_of : ℕ → ℕ → List ℕ
decimal_of zero n = []
decimal_of (suc most) n = cond (ltb n 10) [] (decimal_of most (n / 10)) ++ ((48 + n % 10) ∷ [])

-- of a 64-bit number
unfoldable pub decimal : ℕ → List ℕ
decimal n = decimal_of 20 n

-- "Fields are parted by one space": with a byte after the last
abbrev pub fields : List (List ℕ) → ℕ → List ℕ
fields [] end = []
fields (f ∷ []) end = f ++ (end ∷ [])
fields (f ∷ g ∷ fs) end = f ++ (32 ∷ fields (g ∷ fs) end)

-- "every line ends in LF"
abbrev pub line : List (List ℕ) → List ℕ
line fs = fields fs 10

-- `cost`, `rounds`, `refused`, `bound`, `best`
abbrev pub cost_word : List ℕ
cost_word = 99 ∷ 111 ∷ 115 ∷ 116 ∷ []

abbrev pub rounds_word : List ℕ
rounds_word = 114 ∷ 111 ∷ 117 ∷ 110 ∷ 100 ∷ 115 ∷ []

abbrev pub refused_word : List ℕ
refused_word = 114 ∷ 101 ∷ 102 ∷ 117 ∷ 115 ∷ 101 ∷ 100 ∷ []

abbrev pub bound_word : List ℕ
bound_word = 98 ∷ 111 ∷ 117 ∷ 110 ∷ 100 ∷ []

abbrev pub best_word : List ℕ
best_word = 98 ∷ 101 ∷ 115 ∷ 116 ∷ []

-- "one line a job, in order: name, period, response time": of task i, counted from 0, whose name is that of
-- number i + 1
abbrev pub task_line : List ℕ → List ℕ → ℕ → List ℕ
task_line s xs i =
    line (name_of s (i + 1) ∷ decimal (get_or xs i 0) ∷ decimal (response_time (tasks_of s) xs i) ∷ [])

-- of the first tasks, so many
abbrev pub task_lines : List ℕ → List ℕ → ℕ → List ℕ
task_lines s xs zero = []
task_lines s xs (suc i) = task_lines s xs i ++ task_line s xs i

-- "The first line is `cost`, the cost, `rounds`, the rounds."
abbrev pub answer_text : List ℕ → Outcome → List ℕ
answer_text s o =
    line (cost_word ∷ decimal o.answer.cost ∷ rounds_word ∷ decimal o.answer.rounds ∷ [])
    ++ task_lines s o.periods (length (tasks_of s))

-- "Refusals print one line: `refused`, number, place"
abbrev pub refusal_fields : Fault → List (List ℕ)
refusal_fields f = refused_word ∷ decimal f.number ∷ decimal f.place ∷ []

abbrev pub refusal_text : Outcome → List ℕ
refusal_text o = line (refusal_fields o.answer.fault)

-- "33 and 34 add to it `bound`, its number, `rounds`, its number", and "`best` and that cost": of a stop's number,
-- bound, rounds and cost
abbrev pub stop_fields : Fault → ℕ → ℕ → ℕ → List (List ℕ)
stop_fields f bound rounds cost =
    refusal_fields f
    ++ (bound_word ∷ decimal bound ∷ rounds_word ∷ decimal rounds ∷ best_word ∷ decimal cost ∷ [])

abbrev pub stop_text : Outcome → List ℕ
stop_text o = let a = o.answer in line (stop_fields a.fault a.bound a.rounds a.cost)

unfoldable pub listing_for : List ℕ → Outcome → List ℕ
listing_for s o =
    cond (passed o.answer.fault) (answer_text s o)
    (cond (ltb o.answer.fault.number 33) (refusal_text o) (stop_text o))

-- of a file, a budget and a work space of so many numbers
abbrev pub listing_of : List ℕ → ℕ → ℕ → List ℕ
listing_of s budget work = listing_for s (outcome s budget (length (tasks_of s)) work)
