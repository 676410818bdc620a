-- 01, The load buffer: "From a new buffer, any run of calls answers as a map would, kept in this order."
use Rattle.std.specs.Prelude.{ℕ, List, [], ◌∷◌, ◌++◌, map, eqb, length, drop}
use Rattle.refusal.specs.Numbers as Numbers
use Rattle.spatial.specs.declared.Wrench.{Wrench}
use Rattle.buffer.specs.declared.Stored.{Stored}
use Rattle.buffer.specs.declared.LoadBuffer.{LoadBuffer}
use Rattle.loads.specs.Checks.{or_else, accepted, link_checked, wrench_checked, sum_checked, list_checked}
use Rattle.buffer.specs.Calls.{Counted, Emptiness, Listed, set_of, add_of, remove_of, clear_of, len_of, is_empty_of, load_of, blank_table, list_of}
use Rattle.buffer.specs.Map.{map_set, map_added, map_remove}

pub data Call : Type 0 where
  set : ℕ → ℕ → Wrench → Call
  add : ℕ → ℕ → Wrench → Call
  remove : ℕ → ℕ → Call
  clear : Call
  len : Call
  is_empty : Call
  list : ℕ → Call

pub data Answer : Type 0 where
  number : ℕ → Answer
  count : Counted → Answer
  empty : Emptiness → Answer
  loads : Listed → Answer

-- ---- the buffer

unfoldable pub answer_of : LoadBuffer → Call → Answer
answer_of b (set id l w) = number (set_of b id l w).number
answer_of b (add id l w) = number (add_of b id l w).number
answer_of b (remove id l) = number (remove_of b id l).number
answer_of b clear = number (clear_of b).number
answer_of b len = count (len_of b)
answer_of b is_empty = empty (is_empty_of b)
answer_of b (list places) = loads (list_of b places)

unfoldable pub after_of : LoadBuffer → Call → LoadBuffer
after_of b (set id l w) = (set_of b id l w).buffer
after_of b (add id l w) = (add_of b id l w).buffer
after_of b (remove id l) = (remove_of b id l).buffer
after_of b clear = (clear_of b).buffer
after_of b len = b
after_of b is_empty = b
after_of b (list places) = b

-- the answers of a run, and the buffer after it
unfoldable pub answers_of : LoadBuffer → List Call → List Answer
answers_of b [] = []
answers_of b (c ∷ cs) = answer_of b c ∷ answers_of (after_of b c) cs

unfoldable pub last_of : LoadBuffer → List Call → LoadBuffer
last_of b [] = b
last_of b (c ∷ cs) = last_of (after_of b c) cs

-- ---- the map of a model with an id and so many links: no number is 11

module _ (own links : ℕ) where
  abbrev pub set_refused : ℕ → ℕ → Wrench → ℕ
  set_refused id l w = or_else (Numbers.number (link_checked own links id l)) (Numbers.number (wrench_checked w))

  abbrev pub add_refused : List Stored → ℕ → ℕ → Wrench → ℕ
  add_refused ss id l w = or_else (set_refused id l w) (Numbers.number (sum_checked (map_added l w ss)))

  abbrev pub remove_refused : ℕ → ℕ → ℕ
  remove_refused id l = Numbers.number (link_checked own links id l)

  abbrev pub list_refused : List Stored → ℕ → ℕ
  list_refused ss places = Numbers.number (list_checked (length ss) places)

  -- the map's size; its loads in order, in a blank table
  unfoldable pub map_answer : List Stored → Call → Answer
  map_answer ss (set id l w) = number (set_refused id l w)
  map_answer ss (add id l w) = number (add_refused ss id l w)
  map_answer ss (remove id l) = number (remove_refused id l)
  map_answer ss clear = number 0
  map_answer ss len = count (record { number = 0; count = length ss })
  map_answer ss is_empty = empty (record { number = 0; empty = eqb (length ss) 0 })
  map_answer ss (list places) =
      loads
      (record {
        number = list_refused ss places;
        count = accepted (list_refused ss places) (length ss) 0;
        loads = accepted (list_refused ss places) (map (load_of own) ss ++ drop (length ss) blank_table) blank_table;
      })

  unfoldable pub map_after : List Stored → Call → List Stored
  map_after ss (set id l w) = accepted (set_refused id l w) (map_set l w ss) ss
  map_after ss (add id l w) = accepted (add_refused ss id l w) (map_set l (map_added l w ss) ss) ss
  map_after ss (remove id l) = accepted (remove_refused id l) (map_remove l ss) ss
  map_after ss clear = []
  map_after ss len = ss
  map_after ss is_empty = ss
  map_after ss (list places) = ss

  unfoldable pub map_answers : List Stored → List Call → List Answer
  map_answers ss [] = []
  map_answers ss (c ∷ cs) = map_answer ss c ∷ map_answers (map_after ss c) cs

  unfoldable pub map_last : List Stored → List Call → List Stored
  map_last ss [] = ss
  map_last ss (c ∷ cs) = map_last (map_after ss c) cs
