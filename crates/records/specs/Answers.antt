-- 01, Byte records, kind 3: "refusal (1), count (2), floats".
use Rattle.std.specs.Prelude.{ℕ, ◌+◌, ◌*◌, Bool, ◌&&◌, List, ◌∷◌, ◌++◌, eqb, leb, length, get_or, Float}
use Rattle.wire.specs.Big.{be16, bytes16, bytes32, float_bytes}
use Rattle.records.specs.Layout.{headed}
use Rattle.records.specs.Calls.{floats_in}

-- what an answer record holds
pub record Answer : Type 0 where
  pub number : ℕ
  pub figures : List Float

-- all but the figures, n of them
unfoldable pub head_bytes : ℕ → ℕ → List ℕ
head_bytes number n = bytes32 (5 + 8 * n) ++ 1 ∷ 3 ∷ number ∷ bytes16 n

unfoldable pub answer_bytes : Answer → List ℕ
answer_bytes a = head_bytes a.number (length a.figures) ++ float_bytes a.figures

-- "an answer's count above 69 fits no layout"
unfoldable pub answer_laid : List ℕ → Bool
answer_laid s =
    let n = be16 s 7 in
    leb n 69 && (eqb (length s) (9 + 8 * n) && headed s 0 (5 + 8 * n) 3)

unfoldable pub answer_in : List ℕ → Answer
answer_in s = record { number = get_or s 6 0; figures = floats_in s 9 (be16 s 7) }
