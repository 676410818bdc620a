-- What is set is listed, bit by bit: a -0 stays a -0.
use mathlib.Core.Path.{◌≡◌, refl, ◌∙◌}
use mathlib.Core.Bool.{true}
use mathlib.Core.List.{List, [], ◌∷◌}
use Prim.Native.Nat.{ℕ, ◌<◌}
use native.Mathlib.Omega.{arith}
use lib.IntN.{pos}
use lib.ListN.{drop}
use lib.Ieee.{fin}
use Rattle.spatial.specs.declared.Vector3.{Vector3}
use Rattle.spatial.specs.declared.Wrench.{Wrench}
use Rattle.fit.specs.Finite.{is_finite, all_finite}
use Rattle.std.proofs.Common.{Ok}
use Rattle.loads.specs.Checks.{links_checked, wrench_checked, list_checked}
use Rattle.buffer.specs.Calls.{entry, new_of, load_of, blank_table}
use Rattle.buffer.specs.Map.{map_set}
use Rattle.buffer.specs.Runs.{Call, Answer, answers_of, map_answer, map_after, map_answers}
use Rattle.loads.proofs.CheckLaws.{known_if}
use Rattle.buffer.proofs.AgreeLaws.{allowed_few}
use Rattle.buffer.proofs.Runs.{run_as_map}

-- the answers of a `set` and a listing into a table of one place
abbrev pub listed : ℕ → ℕ → Wrench → List Answer
listed id l w = Answer.number 0 ∷ Answer.loads (record { number = 0; count = 1; loads = load_of id (entry l w) ∷ drop 1 blank_table }) ∷ []

pub set_then_list : (id links l : ℕ) (w : Wrench) → links_checked links ≡ Ok tt → l < links → wrench_checked w ≡ Ok tt → answers_of (new_of id links).buffer (Call.set id l w ∷ Call.list 1 ∷ []) ≡ listed id l w
unfolding map_answers map_answer map_after map_set list_checked
set_then_list id links l w h k f =
    run_as_map id links h (Call.set id l w ∷ Call.list 1 ∷ [])
    ∙ simp (known_if id links l k (omega (arith, allowed_few links h)), f)

abbrev pub minus_zeros : Vector3
minus_zeros = record { x = fin true 0 (pos 0); y = fin true 0 (pos 0); z = fin true 0 (pos 0) }

abbrev pub minus_wrench : Wrench
minus_wrench = record { torque = minus_zeros; force = minus_zeros }

minus_finite : wrench_checked minus_wrench ≡ Ok tt
unfolding wrench_checked all_finite is_finite
minus_finite = refl

pub minus_zero_listed : (id links l : ℕ) → links_checked links ≡ Ok tt → l < links → answers_of (new_of id links).buffer (Call.set id l minus_wrench ∷ Call.list 1 ∷ []) ≡ listed id l minus_wrench
minus_zero_listed id links l h k = set_then_list id links l minus_wrench h k minus_finite
