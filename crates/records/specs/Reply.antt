-- 01: "The program reads one model and one call, nothing after them, and writes one answer; a refused answer has count 0."
use Rattle.std.specs.Prelude.{ℕ, zero, suc, cond, List, [], ◌++◌, leb, length, drop, replicate, Result, Ok, Err}
use Rattle.spatial.specs.Constants.{plus_zero}
use Rattle.outcome.specs.Call.{Call}
use Rattle.outcome.specs.Outcome.{Outcome, outcome}
use Rattle.outcome.specs.Refusal.{output_length}
use Rattle.refusal.specs.declared.Refusal.{Refusal}
use Rattle.refusal.specs.Numbers.{number_of}
use Rattle.records.specs.Layout.{layout_checked}
use Rattle.records.specs.Calls.{call_in}
use Rattle.records.specs.Answers.{Answer, answer_bytes}

-- "a refused answer has count 0"
abbrev pub answer_of : ℕ → Outcome → Answer
answer_of zero o = record { number = 0; figures = o.output }
answer_of (suc n) o = record { number = suc n; figures = [] }

abbrev pub answer_from : Outcome → Answer
answer_from o = answer_of o.number o

-- what the library answers to a call, its output being of the right length
unfoldable pub answer_to : Call → Answer
answer_to c = answer_from (outcome c (replicate (output_length c.mode c.model.moving) plus_zero))

-- the answer to the call, or the refusal of the layout
abbrev pub answer_by : Result Unit Refusal → List ℕ → Answer
answer_by (Ok a) s = answer_to (call_in s)
answer_by (Err e) s = record { number = number_of e; figures = [] }

-- any bytes
unfoldable pub reply : List ℕ → List ℕ
reply s = answer_bytes (answer_by (layout_checked s) s)

-- how many bytes were written, and the lent table after it; where they do not fit, none
pub record Sent : Type 0 where
  pub count : ℕ
  pub out : List ℕ

unfoldable pub sent : List ℕ → List ℕ → Sent
sent bytes out = cond (leb (length bytes) (length out)) (record { count = length bytes; out = bytes ++ drop (length bytes) out }) (record { count = 0; out = out })
