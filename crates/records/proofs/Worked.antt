-- 01's worked table from bytes to bytes: W1 as a record, W8 and W9.
use Prim.Native.Nat.{ℕ}
use mathlib.Core.Path.{◌≡◌, refl}
use mathlib.Core.Bool.{false}
use mathlib.Core.List.{List, [], ◌∷◌, ◌++◌}
use lib.IntN.{pos}
use lib.ListN.{replicate}
use lib.Ieee.{Float, add, fin, le, mul, neg, of_bits, sub, to_bits}
use Rattle.spatial.specs.All.{all}
use Rattle.spatial.specs.Constants.{plus_zero, standard_gravity, zero_vector, zero_twist, zero_wrench}
use Rattle.fit.specs.Finite.{is_finite, all_finite}
use Rattle.fit.specs.Unit.{is_unit, unit_pair, unit_vector, unit_quaternion}
use Rattle.spatial.specs.Vectors.{vector_sum, scaled, crossed, dotted}
use Rattle.spatial.specs.Rotations.{inverted, multiplied, rotated, matrix_of, transformed}
use Rattle.spatial.specs.Wrenches.{wrench_sum, wrench_to_parent}
use Rattle.tree.specs.Tree.{climb, value_at, total, total_of, root_sum}
use Rattle.model.specs.Bases.{good_base}
use Rattle.build.specs.Build.{blank_model, with_link, with_joint}
use Rattle.model.specs.Tables.{kind_of}
use Rattle.model.specs.Good.{counts_fit, good_model}
use Rattle.model.specs.Joints.{axis_fits, fits, good_joint}
use Rattle.model.specs.Links.{weighs, good_link}
use Rattle.model.specs.Lists.{list_checked}
use Rattle.model.specs.Numbers.{taken, numbered_at, numbered, holder_of}
use Rattle.model.specs.Poses.{pose_checked, first, kind_of_number, positions_checked}
use Rattle.loads.specs.Checks.{link_checked, wrench_checked, sum_checked, amount_checked}
use Rattle.loads.specs.Sums.{start_sums, sum_step, sum_from, load_sums, prepared_sums}
use Rattle.dynamics.specs.Runs.{value_in}
use Rattle.dynamics.specs.Frames.{half_turn, joint_frame}
use Rattle.dynamics.specs.Motions.{root_motion, acceleration_at, carried, turning, sliding, driven, moved, inertial_wrench}
use Rattle.dynamics.specs.Weights.{gravity_wrench}
use Rattle.dynamics.specs.Run.{frame_of}
use Rattle.dynamics.specs.Figures.{figure, figure_of, root_of}
use Rattle.outcome.specs.Refusal.{start_checked, refusal}
use Rattle.spatial.specs.Listed.{list_of}
use Rattle.outcome.specs.Figures.{figures}
use Rattle.outcome.specs.Outcome.{outcome}
use Rattle.outcome.proofs.Worked as Outcomes
use Rattle.wire.specs.Big.{be16, be32, be64, f64_at, bytes16, bytes32, bytes64, float_bytes}
use Rattle.wire.specs.Fill.{fill}
use Rattle.dynamics.specs.Weights as Weights
use Rattle.records.specs.Layout.{headed, joint_laid, pose_laid, counted, model_laid, call_laid, laid}
use Rattle.records.specs.Parts.{vector_in, twist_in, frame_in}
use Rattle.records.specs.Models.{link_in, entry_in, model_in}
use Rattle.records.specs.Calls.{function_of, mode_of, base_in, pose_in, load_in, call_with, call_in}
use Rattle.records.specs.Answers.{head_bytes, answer_bytes}
use Rattle.records.specs.Reply.{answer_to, reply}

abbrev one : Float
one = fin false 1 (pos 0)

abbrev zeros : ℕ → List Float
zeros n = replicate n plus_zero

-- "m1 = root and one link of mass 2, centre (1,0,0), zero inertia, axis y, revolute"
abbrev m1 : List ℕ
m1 =
    bytes32 299 ++ (1 ∷ 1 ∷ []) ++ bytes16 2 ++ bytes16 1 ++ float_bytes (zeros 13 ++ (fin false 1 (pos 1) ∷ one ∷ zeros 11)) ++ (1 ∷ []) ++ bytes16 0
    ++ bytes16 0 ++ float_bytes (one ∷ zeros 7 ++ (one ∷ plus_zero ∷ []))

-- one link and no joint
abbrev alone : List ℕ
alone = bytes32 110 ++ (1 ∷ 1 ∷ []) ++ bytes16 1 ++ bytes16 0 ++ float_bytes (zeros 13)

-- "Fixed mode, identity base": gravity, with so many joints and these parts after the counts
abbrev gravity_call : ℕ → ℕ → List ℕ → List ℕ
gravity_call length m rest = bytes32 length ++ (1 ∷ 2 ∷ 2 ∷ 0 ∷ []) ++ float_bytes (one ∷ zeros 18) ++ bytes16 m ++ bytes16 0 ++ rest

pub record Table : Type 0 where
  -- -G is c0339d013a92a305
  pub w1 : reply (m1 ++ gravity_call 193 1 ((1 ∷ []) ++ float_bytes (plus_zero ∷ one ∷ zeros 2)))
      ≡ 0 ∷ 0 ∷ 0 ∷ 13 ∷ 1 ∷ 3 ∷ 0 ∷ 0 ∷ 1 ∷ 192 ∷ 51 ∷ 157 ∷ 1 ∷ 58 ∷ 146 ∷ 163 ∷ 5 ∷ []
  -- "00 00 00 05 01 03 00 00 00"
  pub w8 : reply (alone ++ gravity_call 160 0 []) ≡ 0 ∷ 0 ∷ 0 ∷ 5 ∷ 1 ∷ 3 ∷ 0 ∷ 0 ∷ 0 ∷ []
  -- "00 00 00 05 01 03 09 00 00"
  pub w9 : reply [] ≡ 0 ∷ 0 ∷ 0 ∷ 5 ∷ 1 ∷ 3 ∷ 9 ∷ 0 ∷ 0 ∷ []

pub worked_bytes : Table
unfolding reply answer_to answer_bytes head_bytes laid headed joint_laid pose_laid counted model_laid call_laid model_in link_in entry_in call_in call_with function_of mode_of vector_in twist_in frame_in base_in pose_in load_in fill be16 be32 be64 f64_at bytes16 bytes32 bytes64 float_bytes of_bits to_bits outcome refusal start_checked figures list_of good_base good_model counts_fit numbered numbered_at taken holder_of good_joint fits axis_fits good_link weighs positions_checked pose_checked first kind_of_number list_checked all all_finite is_finite unit_pair unit_quaternion unit_vector is_unit vector_sum scaled crossed dotted inverted multiplied rotated matrix_of transformed wrench_sum wrench_to_parent standard_gravity zero_vector zero_twist zero_wrench le add sub mul neg climb value_at total total_of root_sum kind_of blank_model with_link with_joint link_checked wrench_checked sum_checked amount_checked start_sums sum_step sum_from load_sums prepared_sums value_in half_turn joint_frame root_motion acceleration_at carried turning sliding driven moved inertial_wrench Weights.turned gravity_wrench frame_of figure figure_of root_of
worked_bytes = record { w1 = refl; w8 = refl; w9 = refl }

-- W1 to W9 together
pub worked_nine : Outcomes.Table × Table
worked_nine = (Outcomes.worked_table, worked_bytes)
