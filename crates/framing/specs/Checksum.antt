-- The checksum of AD2CP frames. Assumes nothing.
use Rattle.std.specs.Prelude.{ℕ, ◌+◌, ◌*◌, ◌%◌, List, [], ◌∷◌}

-- the sum of the 16-bit little-endian words of some bytes; a last byte without a partner is the high byte of its word
abbrev pub words : List ℕ → ℕ
words [] = 0
words (low ∷ []) = 256 * low
words (low ∷ (high ∷ rest)) = low + 256 * high + words rest

-- S of some bytes
unfoldable pub checksum : List ℕ → ℕ
checksum bytes = (0xB58C + words bytes) % 65536
