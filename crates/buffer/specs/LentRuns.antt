-- 01, The load buffer: "A buffer is changed where it stands"; runs of calls over a lent buffer and of listings into lent tables.
use Rattle.std.specs.Prelude.{ℕ, List, [], ◌∷◌, ◌++◌, map, length, drop}
use Rattle.loads.specs.declared.Load.{Load}
use Rattle.buffer.specs.declared.Stored.{Stored}
use Rattle.buffer.specs.declared.LoadBuffer.{LoadBuffer}
use Rattle.loads.specs.Checks.{accepted}
use Rattle.buffer.specs.Calls.{load_of, listed_in, list_number}
use Rattle.buffer.specs.Runs as Runs
use Rattle.buffer.specs.Runs.{answer_of, after_of, list_refused, map_answer, map_after}

-- a call on a buffer where it stands, or a listing into a lent table
pub data LentCall : Type 0 where
  call : Runs.Call → LentCall
  list_in : List Load → LentCall

-- a listing answers its number, and the lent table after it
pub data LentAnswer : Type 0 where
  answer : Runs.Answer → LentAnswer
  table : ℕ → List Load → LentAnswer

-- ---- the buffer

unfoldable pub lent_answer : LoadBuffer → LentCall → LentAnswer
lent_answer b (call c) = answer (answer_of b c)
lent_answer b (list_in t) = table (list_number b (length t)) (accepted (list_number b (length t)) (listed_in b t) t)

unfoldable pub lent_after : LoadBuffer → LentCall → LoadBuffer
lent_after b (call c) = after_of b c
lent_after b (list_in t) = b

unfoldable pub lent_answers : LoadBuffer → List LentCall → List LentAnswer
lent_answers b [] = []
lent_answers b (c ∷ cs) = lent_answer b c ∷ lent_answers (lent_after b c) cs

-- ---- the map

module _ (own links : ℕ) where
  unfoldable pub map_lent : List Stored → LentCall → LentAnswer
  map_lent ss (call c) = answer (map_answer own links ss c)
  map_lent ss (list_in t) =
      table (list_refused own links ss (length t)) (accepted (list_refused own links ss (length t)) (map (load_of own) ss ++ drop (length ss) t) t)

  unfoldable pub map_lent_after : List Stored → LentCall → List Stored
  map_lent_after ss (call c) = map_after own links ss c
  map_lent_after ss (list_in t) = ss

  unfoldable pub map_lent_answers : List Stored → List LentCall → List LentAnswer
  map_lent_answers ss [] = []
  map_lent_answers ss (c ∷ cs) = map_lent ss c ∷ map_lent_answers (map_lent_after ss c) cs
