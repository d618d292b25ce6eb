-- Sizes, for the functions that write the text.
use Rattle.std.specs.Prelude.{ℕ}

-- the most bytes of a task's line: a name of 16, two numbers of 20, two spaces and LF; and of a listing, with its
-- first line
abbrev pub line_size : ℕ
line_size = 59

abbrev pub listing_size : ℕ
listing_size = 1024
