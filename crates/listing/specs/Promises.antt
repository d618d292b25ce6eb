-- What program `timetable` prints.
use Rattle.std.specs.Prelude.{List, ℕ}
use Rattle.listing.specs.Text.{listing_of}

-- "Program `timetable` reads a plan file from standard input (2,049 bytes at most), budget 100,000, work space 16,000
-- numbers."
abbrev pub input_size : ℕ
input_size = 2049

abbrev pub timetable_of : List ℕ → List ℕ
timetable_of s = listing_of s 100000 16000
