-- A run of calls over a lent buffer answers as the map would.
use mathlib.Core.Path.{◌≡◌, refl, ap}
use mathlib.Core.List.{List, [], ◌∷◌}
use Prim.Native.Nat.{ℕ}
use Rattle.buffer.specs.declared.LoadBuffer.{LoadBuffer}
use Rattle.std.proofs.Common.{Ok}
use Rattle.loads.specs.Checks.{links_checked}
use Rattle.buffer.specs.Agree.{Sized, Agree}
use Rattle.buffer.specs.Calls.{empty_buffer, new_of, stored, listed_in}
use Rattle.buffer.specs.LentRuns.{LentCall, LentAnswer, lent_answer, lent_after, lent_answers, map_lent, map_lent_after, map_lent_answers}
use Rattle.buffer.proofs.MapPut.{stored_length}
use Rattle.buffer.proofs.Runs.{After, passes, step_after, step_answer, new_sized, new_agrees}

module _ (b : LoadBuffer) (z : Sized b) (a : Agree b) where
  lent_after_as_map : (c : LentCall) → After b (map_lent_after b.id b.links (stored b) c) (lent_after b c)
  unfolding lent_after map_lent_after
  lent_after_as_map (LentCall.call c) = step_after b z a c
  lent_after_as_map (LentCall.list_in t) = record { id = refl; links = refl; sized = z; agree = a; map = refl }

  lent_answer_as_map : (c : LentCall) → lent_answer b c ≡ map_lent b.id b.links (stored b) c
  unfolding lent_answer map_lent listed_in
  lent_answer_as_map (LentCall.call c) = ap LentAnswer.answer (step_answer b z a c)
  lent_answer_as_map (LentCall.list_in t) = rw (passes b z a, stored_length b z a)

lent_run : (b : LoadBuffer) → Sized b → Agree b → (cs : List LentCall) → lent_answers b cs ≡ map_lent_answers b.id b.links (stored b) cs
unfolding lent_answers map_lent_answers
lent_run b z a [] = refl
lent_run b z a (c ∷ cs) =
    let t : After b (map_lent_after b.id b.links (stored b) c) (lent_after b c) = lent_after_as_map b z a c in
    rw (lent_answer_as_map b z a c, lent_run (lent_after b c) t.sized t.agree cs, t.id, t.links, t.map)

-- from a new buffer
pub lent_as_map : (id links : ℕ) → links_checked links ≡ Ok tt → (cs : List LentCall) → lent_answers (new_of id links).buffer cs ≡ map_lent_answers id links [] cs
unfolding new_of empty_buffer
lent_as_map id links h cs = lent_run (empty_buffer id links) (new_sized id links h) (new_agrees id links h) cs
