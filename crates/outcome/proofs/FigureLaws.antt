-- What the kernels leave over a model is what the definition gives of the call.
use Prim.Native.Nat.{ℕ, zero, suc, ◌<◌}
use mathlib.Core.Bool.{true}
use mathlib.Core.List.{List, [], ◌++◌}
use mathlib.Core.Path.{◌≡◌, refl, ap, ◌∙◌}
use native.Mathlib.Omega.{arith}
use lib.ListN.{get_or, get_or-replicate}
use Rattle.std.specs.Prelude.{replicate}
use lib.Ieee.{Float, nan}
use Rattle.spatial.specs.Constants.{standard_gravity, zero_twist, zero_vector, plus_zero, zero_wrench}
use Rattle.spatial.specs.Past.{no_wrench}
use Rattle.spatial.specs.declared.Quaternion.{Quaternion}
use Rattle.spatial.specs.declared.Vector3.{Vector3}
use Rattle.spatial.specs.declared.Wrench.{Wrench}
use Rattle.tree.specs.Tree.{Kernel}
use Rattle.model.specs.Tables.{view_of}
use Rattle.model.specs.Good.{GoodModel}
use Rattle.model.specs.Numbers.{Numbered, holder_of}
use Rattle.model.specs.View.{View, joint_count, moves, numbering_of}
use Rattle.model.specs.declared.BaseState.{BaseState}
use Rattle.model.specs.declared.JointType.{JointType}
use Rattle.model.specs.declared.JointType.TheVariants.{Fixed, Revolute, Prismatic}
use Rattle.model.specs.declared.Model.{Model}
use Rattle.model.specs.declared.Pose.{Pose}
use Rattle.model.specs.declared.RootMode.{RootMode}
use Rattle.model.proofs.GoodLaws.{number_below, few_moving}
use Rattle.model.proofs.NumberedLaws.{holder_holds}
use Rattle.loads.specs.Sums.{LoadSums}
use Rattle.dynamics.specs.Runs.{value_in, run_of}
use Rattle.loads.specs.Sums.{start_sums}
use Rattle.dynamics.specs.Motions.{root_motion, inertial_wrench}
use Rattle.dynamics.specs.Weights.{turned, gravity_wrench}
use Rattle.dynamics.specs.Run.{Run, frame_of}
use Rattle.dynamics.specs.Same.{SameDriven}
use Rattle.dynamics.proofs.RunLocal.{SameRun, AlikeFigures, inverse_alike}
use Rattle.dynamics.specs.Figures.{figure_of, root_of}
use Rattle.dynamics.specs.declared.Motion.{Motion}
use Rattle.outcome.specs.declared.Function.TheVariants.{InverseDynamics, Gravity, VelocityProduct}
use Rattle.outcome.specs.Call.{Call, call_of}
use Rattle.sweeps.specs.Kernels.{driven_step, gravity_step}
use Rattle.sweeps.specs.Swept.{kernel_by}
use Rattle.spatial.specs.Listed.{list_of}
use Rattle.outcome.specs.Figures.{still, in_mode, root_figures, figures}
use Rattle.outcome.specs.Solved.{solved_list}
use Rattle.outcome.proofs.OutputLaws.{fit_good}

list_same : (m : ℕ) (f g : ℕ → Float) → ((i : ℕ) → i < m → f i ≡ g i) → list_of m f ≡ list_of m g
unfolding list_of
list_same zero f g h = refl
list_same (suc m) f g h = rw (list_same m f g (λ i l. h i (omega arith)), h m (omega arith))

-- runs with the same figures leave the same list
solved_same : {S : Type 0} (mode : RootMode) (base : Quaternion) (v : View) → Numbered (numbering_of v) → (t u : Run) (k l : Kernel S Wrench) → t.count ≡ v.count → AlikeFigures t k u l → root_figures mode base (root_of k) ++ list_of v.moving (λ i. figure_of t k (holder_of (numbering_of v) (joint_count v) i)) ≡ root_figures mode base (root_of l) ++ list_of v.moving (λ i. figure_of u l (holder_of (numbering_of v) (joint_count v) i))
solved_same mode base v g t u k l e a =
    ap (λ (w : Wrench). root_figures mode base w ++ list_of v.moving (λ i. figure_of t k (holder_of (numbering_of v) (joint_count v) i))) a.root
    ∙ ap (λ (xs : List Float). root_figures mode base (root_of l) ++ xs)
    (list_same v.moving _ _ (λ i q. a.joint (holder_of (numbering_of v) (joint_count v) i) (rw e (holder_holds (numbering_of v) g i q).inside)))

module _ (model : Model) (good : GoodModel (view_of model)) (mode : RootMode) (base : BaseState) (ps : List Pose) (entries : ℕ) where
  abbrev view : View
  view = view_of model

  -- the loads and the base's rotation as they are, by the steps of a kernel with these lists
  pub inverse_figures : (speeds accelerations : List Float) (loads : LoadSums) (root : Motion)
      → root ≡ root_motion base.frame.rotation (in_mode mode base.velocity) (in_mode mode base.acceleration) standard_gravity
      → (let t = run_of model ps [] [] loads.sums in solved_list mode base.frame.rotation model t (kernel_by (driven_step speeds accelerations) inertial_wrench t root)) ≡ figures (call_of InverseDynamics mode model base ps entries speeds accelerations loads)
  unfolding figures frame_of figure_of
  inverse_figures speeds accelerations loads root e = rw e refl

  pub gravity_figures : (loads : LoadSums) (root : Vector3)
      → root ≡ turned base.frame.rotation standard_gravity
      → (let t = run_of model ps [] [] loads.sums in solved_list mode base.frame.rotation model t (kernel_by gravity_step gravity_wrench t root)) ≡ figures (call_of Gravity mode model base ps entries [] [] loads)
  unfolding figures frame_of figure_of
  gravity_figures loads root e = rw e refl

  -- with accelerations of +0, and loads of +0 on the links that there are
  module _ (speeds : List Float) (loads : List Wrench) (zero_load : (l : ℕ) → l < model.count → get_or loads l no_wrench ≡ zero_wrench) where
    abbrev coasting : Run
    coasting = run_of model ps speeds (replicate 63 plus_zero) loads

    abbrev product : Call
    product = call_of VelocityProduct mode model base ps entries speeds [] start_sums

    zero_acceleration : (j : ℕ) → j < joint_count view → (k : JointType) → (view.joint j).kind ≡ k → moves k ≡ true → value_in k (view.joint j).number (replicate 63 plus_zero) ≡ plus_zero
    unfolding value_in
    zero_acceleration j h Fixed e m = refl
    zero_acceleration j h Revolute e m = get_or-replicate 63 (view.joint j).number plus_zero nan (omega (arith, number_below view good j h (ap moves e), few_moving view good))
    zero_acceleration j h Prismatic e m = get_or-replicate 63 (view.joint j).number plus_zero nan (omega (arith, number_below view good j h (ap moves e), few_moving view good))

    velocity_run : (root root' : Motion) → root ≡ root' → SameRun SameDriven coasting root (still product) root'
    velocity_run root root' e =
        record {
          count = refl;
          base = e;
          joints = λ j h. record { posed = record { joint = refl; pose = λ m. refl }; speed = λ m. refl; acceleration = zero_acceleration j h (view.joint j).kind refl };
          links = λ l h. refl;
          loads = zero_load;
        }

    pub velocity_figures : (root : Motion)
        → root ≡ root_motion base.frame.rotation (in_mode mode base.velocity) zero_twist zero_vector
        → (let t = run_of model ps [] [] loads in solved_list mode base.frame.rotation model t (kernel_by (driven_step speeds (replicate 63 plus_zero)) inertial_wrench t root)) ≡ figures product
    unfolding figures frame_of figure_of
    velocity_figures root e =
        solved_same mode base.frame.rotation view good.numbers coasting (still product) _ _ refl
        (inverse_alike coasting (still product) model.moving (fit_good model ps speeds (replicate 63 plus_zero) loads good) root _ (velocity_run root _ e))
