-- The values of a roster, and a u64 as eight bytes.
-- Assumes nothing.
use Rattle.std.specs.Prelude.{ℕ, ◌/◌, ◌%◌, ◌^◌, ◌<◌, ◌≤◌, ◌≡◌, ◌↔◌, Bool, List, ltb}
use Rattle.std.specs.Int.Bits.{bit_and}
use Rattle.model.specs.Lists.{any, tabulate}
use Rattle.model.specs.Roster.{mark}

-- 01, refusal 2: "a roster value over 3"
unfoldable pub over_three : List ℕ → Bool
over_three l = any (λ m. ltb 3 m) l

-- n values of a roster from place i on, 0 behind its end
abbrev pub values : List ℕ → ℕ → ℕ → List ℕ
values roster i n = tabulate (mark roster) i n

-- a byte of a word, byte 0 the lowest
unfoldable pub byte_of : ℕ → ℕ → ℕ
byte_of w k = w / 256 ^ k % 256

-- the eight bytes of a word, the lowest first
abbrev pub bytes_of : ℕ → List ℕ
bytes_of w = tabulate (byte_of w) 0 8

-- the six upper bits of each of eight bytes
abbrev pub upper_bits : ℕ
upper_bits = 0xFCFC_FCFC_FCFC_FCFC

-- 02: "show for every u64 that one test of the word passes exactly if none of its eight bytes is over 3"
abbrev pub WordTest : Type 0
WordTest = (w : ℕ) → w < 2 ^ 64 → (bit_and w upper_bits ≡ 0) ↔ ((k : ℕ) → k < 8 → byte_of w k ≤ 3)
