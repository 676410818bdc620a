-- Bytes written one after another into a lent table.
use Rattle.std.specs.Prelude.{ℕ, ◌+◌, List, [], ◌∷◌, set}

-- from place i on
unfoldable pub placed : List ℕ → ℕ → List ℕ → List ℕ
placed s i [] = s
placed s i (b ∷ bytes) = placed (set s i b) (i + 1) bytes
