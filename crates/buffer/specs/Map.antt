-- 01, The load buffer: the map from link to wrench that a buffer is, in stored order, and the buffer that a map is.
use Rattle.std.specs.Prelude.{ℕ, zero, suc, ◌+◌, ◌-◌, Bool, cond, List, [], ◌∷◌, ◌++◌, ltb, eqb, length, get_or, set, take, replicate}
use Rattle.spatial.specs.declared.Wrench.{Wrench}
use Rattle.spatial.specs.Constants.{zero_wrench}
use Rattle.spatial.specs.Wrenches.{wrench_sum}
use Rattle.buffer.specs.declared.Stored.{Stored}
use Rattle.buffer.specs.declared.LoadBuffer.{LoadBuffer}
use Rattle.buffer.specs.Agree.{MAX, cleared, no_stored}
use Rattle.buffer.specs.Calls.{entry}

-- where a link stands in the map, or the map's size
unfoldable pub place_of : ℕ → List Stored → ℕ
place_of l [] = 0
place_of l (s ∷ ss) = cond (eqb s.link l) 0 (place_of l ss + 1)

abbrev pub has : ℕ → List Stored → Bool
has l ss = ltb (place_of l ss) (length ss)

-- "`set` replaces or appends"
unfoldable pub map_set : ℕ → Wrench → List Stored → List Stored
map_set l w [] = entry l w ∷ []
map_set l w (s ∷ ss) = cond (eqb s.link l) (entry l w ∷ ss) (s ∷ map_set l w ss)

-- "`add` to an absent link stores the wrench itself"
unfoldable pub map_added : ℕ → Wrench → List Stored → Wrench
map_added l w ss = cond (has l ss) (wrench_sum (get_or ss (place_of l ss) no_stored).wrench w) w

-- "removing the last stored load moves nothing, otherwise the last moves into the gap"
abbrev pub swap_out : ℕ → List Stored → List Stored
swap_out p ss = take (length ss - 1) (set ss p (get_or ss (length ss - 1) no_stored))

-- "`remove` of an absent link is accepted and changes nothing"
unfoldable pub map_remove : ℕ → List Stored → List Stored
map_remove l ss = cond (has l ss) (swap_out (place_of l ss) ss) ss

-- f 0 to f (n - 1)
unfoldable pub table : {A : Type 0} → ℕ → (ℕ → A) → List A
table zero f = []
table (suc n) f = table n f ++ (f n ∷ [])

-- the tables of a map: the count is its size, each of its links is marked with its place, and the rest is empty
unfoldable pub buffer_of : ℕ → ℕ → List Stored → LoadBuffer
buffer_of id links ss =
    record {
      id = id;
      links = links;
      count = length ss;
      positions = table 64 (λ l. cond (has l ss) (place_of l ss) MAX);
      loads = ss ++ replicate (64 - length ss) cleared;
    }

-- a link's wrench in the map added to +0, or `none` for a link that is not in it
unfoldable pub sum_of : Wrench → List Stored → ℕ → Wrench
sum_of none [] l = none
sum_of none (s ∷ ss) l = cond (eqb s.link l) (wrench_sum zero_wrench s.wrench) (sum_of none ss l)
