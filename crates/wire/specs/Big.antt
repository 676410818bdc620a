-- 01, Byte records: "Big-endian .. Floats travel as their bits".
use Rattle.std.specs.Prelude.{ℕ, ◌+◌, ◌*◌, ◌/◌, ◌%◌, List, [], ◌∷◌, ◌++◌, get_or, Float}
use Rattle.std.specs.Float.{binary64}
use Rattle.std.specs.Float.Ieee.{of_bits, to_bits}

-- ---- the number at a place of a list of bytes

unfoldable pub be16 : List ℕ → ℕ → ℕ
be16 s i = get_or s i 0 * 256 + get_or s (i + 1) 0

unfoldable pub be32 : List ℕ → ℕ → ℕ
be32 s i = be16 s i * 65536 + be16 s (i + 2)

unfoldable pub be64 : List ℕ → ℕ → ℕ
be64 s i = be32 s i * 4294967296 + be32 s (i + 4)

-- every NaN pattern is the one NaN
unfoldable pub f64_at : List ℕ → ℕ → Float
f64_at s i = of_bits binary64 (be64 s i)

-- ---- the bytes of a number

unfoldable pub bytes16 : ℕ → List ℕ
bytes16 n = n / 256 % 256 ∷ n % 256 ∷ []

unfoldable pub bytes32 : ℕ → List ℕ
bytes32 n = bytes16 (n / 65536) ++ bytes16 n

unfoldable pub bytes64 : ℕ → List ℕ
bytes64 n = bytes32 (n / 4294967296) ++ bytes32 n

unfoldable pub float_bytes : List Float → List ℕ
float_bytes [] = []
float_bytes (x ∷ xs) = bytes64 (to_bits binary64 x) ++ float_bytes xs
