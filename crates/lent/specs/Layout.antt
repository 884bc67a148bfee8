-- Where the words of a state lie: k, N, how many wait, the waiting order, then rows of one word a slot. Each number by name; the code has
-- them as the constants of `lent`. Two are the limits' (`layout`, in proofs/StateLaws), and the others are made from these.
use Rattle.std.specs.Prelude.{ℕ, ◌+◌, ◌*◌}

-- a row has a word for each slot, and so has the waiting order
abbrev pub row_length : ℕ
row_length = 16

-- a column has a word for each page that a path may hold: one column for the path, one for the pages beside it
abbrev pub column_length : ℕ
column_length = 10

-- The word of a held page has the page in its lower half and the number of the kind of its lock in its upper half: pages are below this.
abbrev pub page_range : ℕ
page_range = 65536

-- ---- the words in front

abbrev pub k_at : ℕ
k_at = 0

abbrev pub n_at : ℕ
n_at = 1

abbrev pub waiting_at : ℕ
waiting_at = 2

abbrev pub order_from : ℕ
order_from = 3

abbrev pub rows_from : ℕ
rows_from = order_from + row_length

-- ---- the rows: what each says of a slot

abbrev pub kind_row : ℕ
kind_row = 0

abbrev pub key_row : ℕ
key_row = 1

abbrev pub information_row : ℕ
information_row = 2

abbrev pub want_row : ℕ
want_row = 3

-- the number of the lock that it wants it with
abbrev pub lock_row : ℕ
lock_row = 4

-- how long the path is, and how many pages stand beside it
abbrev pub depth_row : ℕ
depth_row = 5

abbrev pub breadth_row : ℕ
breadth_row = 6

-- from here on the path, and from there on the pages beside it
abbrev pub path_row : ℕ
path_row = 7

abbrev pub beside_row : ℕ
beside_row = path_row + column_length

abbrev pub row_count : ℕ
row_count = beside_row + column_length

-- ---- all words: of the rows, and of a state

abbrev pub row_words : ℕ
row_words = row_length * row_count

abbrev pub state_length : ℕ
state_length = rows_from + row_words
