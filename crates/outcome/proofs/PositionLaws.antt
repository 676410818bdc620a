-- What positions that pass their check give: each moving joint's pose is of its kind.
use Prim.Native.Nat.{ℕ, zero, suc, ◌<◌, ◌≤◌}
use mathlib.Core.Bool.{Bool, true, false, false≢true}
use mathlib.Core.List.{List}
use mathlib.Core.Logic.{⊎_elim}
use mathlib.Core.Path.{◌≡◌, refl, sym, ap, ◌∙◌}
use native.Mathlib.Nat.{eq-or-lt_of_le}
use native.Mathlib.Omega.{arith}
use lib.Dec.{eqb}
use lib.Ieee.{Float}
use lib.ListN.{get_or}
use Rattle.fit.specs.Finite.{all_finite}
use Rattle.std.specs.Prelude.{Result, Ok, Err}
use Rattle.refusal.specs.declared.Refusal.{Refusal}
use Rattle.refusal.specs.declared.Refusal.TheVariants.{WrongLength, InvalidPose, NonFiniteInput}
use Rattle.refusal.specs.Numbers.{or_else, unless}
use Rattle.model.specs.Numbers.{Numbering, Holds, Numbered, holds}
use Rattle.model.specs.Poses.{pose_numbers, pose_fits, pose_checked, first, kind_of_number, no_pose, positions_checked}
use Rattle.model.specs.Tables.{joint_at}
use Rattle.model.specs.declared.JointType.{JointType}
use Rattle.model.specs.declared.Model.{Model}
use Rattle.model.specs.declared.Pose.{Pose}
use Rattle.dynamics.specs.Runs.{run_of}
use Rattle.spatial.specs.declared.Wrench.{Wrench}
use Rattle.spatial.proofs.BoolLaws.{by_bool}
use Rattle.model.proofs.NumberedLaws.{said, told}

-- ---- both of two answers are good where the first refusal of them is none

pub good_first : (a b : Result Unit Refusal) → or_else a b ≡ Ok tt → a ≡ Ok tt
good_first (Ok a) b e = refl
good_first (Err x) b e = e

pub good_next : (a b : Result Unit Refusal) → or_else a b ≡ Ok tt → b ≡ Ok tt
good_next (Ok a) b e = e
good_next (Err x) b e = cc

passes : (b : Bool) → unless b InvalidPose ≡ Ok tt → b ≡ true
passes true e = refl
passes false e = cc

pub right : (b : Bool) → unless b WrongLength ≡ Ok tt → b ≡ true
right true e = refl
right false e = cc

first_at : (f : ℕ → Result Unit Refusal) (n k : ℕ) → first n f ≡ Ok tt → k < n → f k ≡ Ok tt
unfolding first
first_at f zero k e l = absurd (omega arith)
first_at f (suc n) k e l =
    let m : k ≤ n = omega arith in
    ⊎_elim (λ q. ap f q ∙ good_next (first n f) (f n) e) (λ q. first_at f n k (good_first (first n f) (f n) e) q) (eq-or-lt_of_le m)

-- the joint that holds a number gives its kind
kind_found : (t : Numbering) (kind : ℕ → JointType) (n i : ℕ) → holds t n i ≡ true → ((k : ℕ) → k < t.count → holds t n k ≡ true → k ≡ i) → (j : ℕ) → i < j → j ≤ t.count → kind_of_number t kind j n ≡ kind i
unfolding kind_of_number
kind_found t kind n i h once zero l m = absurd (omega arith)
kind_found t kind n i h once (suc j) l m =
    ⊎_elim
    (λ e. rw e (ap kind (once j (omega arith) e)))
    (λ e. rw e (kind_found t kind n i h once j (let d : (i ≡ j → ⊥) = (λ q. false≢true (sym e ∙ ap (holds t n) (sym q) ∙ h)) in omega arith) (omega arith)))
    (by_bool (holds t n j))

pub kind_held : (t : Numbering) (kind : ℕ → JointType) → Numbered t → (n i : ℕ) → Holds t n i → kind_of_number t kind t.count n ≡ kind i
kind_held t kind g n i h = kind_found t kind n i (said t n i h) (λ k l q. g.once n k i (told t n k l q) h) t.count h.inside (omega arith)

-- ---- positions that pass

module _ (t : Numbering) (kind : ℕ → JointType) (ps : List Pose) (count : ℕ) (good : positions_checked t kind ps count ≡ Ok tt) where
  fitting : (n : ℕ) → n < t.moving → pose_fits (kind_of_number t kind t.count n) (get_or ps n no_pose) ≡ true
  unfolding positions_checked pose_checked
  fitting n l =
      passes (pose_fits (kind_of_number t kind t.count n) (get_or ps n no_pose))
      (good_next (unless (all_finite (pose_numbers (get_or ps n no_pose))) NonFiniteInput) _
      (first_at (λ i. pose_checked (kind_of_number t kind t.count i) (get_or ps i no_pose)) t.moving n (good_next (unless (eqb count t.moving) WrongLength) _ good) l))

  module _ (g : Numbered t) where
    -- so the entry of a moving joint's number is a pose of its kind
    fits_holder : (n i : ℕ) → Holds t n i → pose_fits (kind i) (get_or ps n no_pose) ≡ true
    fits_holder n i h =
        ap (λ (k : JointType). pose_fits k (get_or ps n no_pose)) (sym (kind_held t kind g n i h))
        ∙ fitting n (g.below n i h)

    pub pose_same : (i : ℕ) → i < t.count → t.moves i ≡ true → pose_fits (kind i) (get_or ps (t.number i) no_pose) ≡ true
    pose_same i l m = fits_holder (t.number i) i (record { inside = l; moving = m; number = refl })

-- and that is the pose at which the kernels take a joint: its number's entry, whatever the other lists are
pub tabled : (m : Model) (ps : List Pose) (speeds accelerations : List Float) (loads : List Wrench) (j : ℕ)
    → (run_of m ps speeds accelerations loads).pose j ≡ get_or ps (joint_at m j).number no_pose
tabled m ps speeds accelerations loads j = refl
