-- Two arms at the root, then a third on the second: the first arm's figure stays, bit for bit. Its joint, link, load, pose and motion are
-- any, and what is not joint 0's or link 1's may change.
use Prim.Native.Nat.{ℕ, zero, suc, ◌≤◌, ◌<◌}
use native.Mathlib.Omega.{arith}
use mathlib.Core.List.{List, [], ◌∷◌}
use mathlib.Core.Logic.{inl, inr}
use mathlib.Core.Bool.{false≢true}
use mathlib.Core.Path.{◌≡◌, refl}
use lib.ListN.{get_or}
use lib.Ieee.{Float}
use Rattle.spatial.specs.declared.Vector3.{Vector3}
use Rattle.spatial.specs.declared.Frame.{Frame}
use Rattle.spatial.specs.declared.Wrench.{Wrench}
use Rattle.tree.proofs.WayLaws.{low, above_passes}
use Rattle.model.specs.declared.JointType.{JointType}
use Rattle.model.specs.declared.Link.{Link}
use Rattle.model.specs.declared.Pose.{Pose}
use Rattle.dynamics.specs.declared.Motion.{Motion}
use Rattle.dynamics.specs.Run.{Run, Fit}
use Rattle.dynamics.specs.Figures.{inverse_of, figure_of}
use Rattle.dynamics.specs.Same.{parent_of, BeyondIn, SameDriven, Same}
use Rattle.dynamics.proofs.RunLocal.{inverse_stays}

-- a joint but for its parent, and the link that it leads to
pub record Part : Type 0 where
  pub kind : JointType
  pub origin : Frame
  pub axis : Vector3
  pub pose : Pose
  pub speed : Float
  pub acceleration : Float
  pub link : Link
  pub load : Wrench

abbrev first : {X : Type 0} → X → (ℕ → X) → ℕ → X
first x f zero = x
first x f (suc j) = f j

-- joint j's number is j
abbrev made : ℕ → List ℕ → Link → Wrench → (ℕ → Part) → Run
made count parents link load part =
    record {
      count = count;
      joint = λ j. record { kind = (part j).kind; parent = get_or parents j 0; number = j; origin = (part j).origin; axis = (part j).axis };
      link = first link (λ j. (part j).link);
      pose = λ j. (part j).pose;
      speed = λ j. (part j).speed;
      acceleration = λ j. (part j).acceleration;
      load = first load (λ j. (part j).load);
    }

module _ (root : Motion) (arm : Part) (others others' : ℕ → Part) (link link' : Link) (load load' : Wrench) where
  abbrev two : Run
  two = made 3 (0 ∷ 0 ∷ []) link load (first arm others)

  abbrev three : Run
  three = made 4 (0 ∷ 0 ∷ 2 ∷ []) link' load' (first arm others')

  tree : (j : ℕ) → j < 2 → parent_of two j ≤ j
  tree zero h = omega arith
  tree (suc zero) h = omega arith
  tree (suc (suc j)) h = absurd (omega arith)

  tree' : (j : ℕ) → j < 3 → parent_of three j ≤ j
  tree' zero h = omega arith
  tree' (suc zero) h = omega arith
  tree' (suc (suc zero)) h = omega arith
  tree' (suc (suc (suc j))) h = absurd (omega arith)

  fit : Fit two 2
  fit = record { some = omega arith; few = omega arith; tree = tree; inside = λ j h b. h; apart = λ i j h k b c e. e }

  fit' : Fit three 3
  fit' = record { some = omega arith; few = omega arith; tree = tree'; inside = λ j h b. h; apart = λ i j h k b c e. e }

  -- nothing hangs on joint 0
  alone : (x : ℕ) → BeyondIn two three 0 x → x ≡ 0
  alone zero a = refl
  alone (suc zero) (inl a) = absurd (false≢true (above_passes (parent_of two) 2 tree 2 (omega arith) (omega arith) a.1))
  alone (suc (suc x)) (inl a) = let h : suc (suc x) < 2 = a.0 in absurd (omega arith)
  alone (suc zero) (inr a) = absurd (false≢true (above_passes (parent_of three) 3 tree' 2 (omega arith) (omega arith) a.1))
  alone (suc (suc zero)) (inr a) = absurd (false≢true (above_passes (parent_of three) 3 tree' 3 (omega arith) (omega arith) a.1))
  alone (suc (suc (suc x))) (inr a) = let h : suc (suc (suc x)) < 3 = a.0 in absurd (omega arith)

  joint : SameDriven two three 0
  joint = record { posed = record { joint = refl; pose = λ b. refl }; speed = λ b. refl; acceleration = λ b. refl }

  same : Same SameDriven two root three root 0
  same =
      record {
        base = refl;
        joints_from_the_root_to_it = λ x a. let h : x < 1 = low (parent_of two) 2 tree (omega arith) a in let e : x ≡ 0 = omega arith in rw e joint;
        those_beyond_it = λ x a. rw (alone x a) joint;
        are_in_both = λ x a. rw (alone x a) (omega arith, omega arith);
        links_beyond_it = λ x a. rw (alone x a);
        with_the_same_loads = λ x a. rw (alone x a);
      }

  pub first_arm_stays : figure_of two (inverse_of two root) 0 ≡ figure_of three (inverse_of three root) 0
  first_arm_stays = (inverse_stays two three 2 fit root root 3 fit' 0 (omega arith) same).figure
