-- What the figures of a run depend on: demand 3, and that two descriptions of one call have the same figures.
use Prim.Native.Nat.{ℕ, suc, ◌-◌, ◌<◌}
use native.Mathlib.Omega.{arith}
use mathlib.Core.Bool.{true}
use mathlib.Core.Logic.{inl}
use mathlib.Core.Path.{◌≡◌, refl, sym, ap, ◌∙◌}
use lib.Ieee.{Float}
use Rattle.spatial.specs.Wrenches.{wrench_sum, wrench_to_parent}
use Rattle.spatial.specs.declared.Vector3.{Vector3}
use Rattle.spatial.specs.declared.Frame.{Frame}
use Rattle.spatial.specs.declared.Wrench.{Wrench}
use Rattle.tree.specs.Tree.{Kernel, value_at, total_of, out_of, in_of}
use Rattle.tree.specs.Ways.{here}
use Rattle.tree.proofs.WayLaws.{low}
use Rattle.tree.proofs.LocalLaws.{SameOut, SameIn, climb_local, totals_same, root_same}
use Rattle.tree.proofs.Locality.{SameAt, local}
use Rattle.model.specs.View.{moves}
use Rattle.model.specs.declared.Joint.{Joint}
use Rattle.model.specs.declared.JointType.{JointType}
use Rattle.model.specs.declared.JointType.TheVariants.{Fixed, Revolute, Prismatic}
use Rattle.model.specs.declared.Link.{Link}
use Rattle.model.specs.declared.Pose.{Pose}
use Rattle.dynamics.specs.declared.Motion.{Motion}
use Rattle.dynamics.specs.Frames.{joint_frame}
use Rattle.dynamics.specs.Motions.{carried, driven, moved, inertial_wrench}
use Rattle.dynamics.specs.Weights.{turned, gravity_wrench}
use Rattle.dynamics.specs.Run.{Run, joint_count, frame_of, Fit}
use Rattle.dynamics.specs.Figures.{kernel_of, inverse_step, inverse_own, inverse_of, gravity_step, gravity_own, gravity_of, figure, figure_of, root_of}
use Rattle.dynamics.specs.Same.{BeyondIn, SamePosed, SameDriven, Same, Stays}

-- the same at every joint and every link
pub record SameRun (SameJoint : Run → Run → ℕ → Type 0) {S : Type 0} (t : Run) (root : S) (u : Run) (root' : S) : Type 0 where
  pub count : t.count ≡ u.count
  pub base : root ≡ root'
  pub joints : (c : ℕ) → c < joint_count t → SameJoint t u c
  pub links : (l : ℕ) → l < t.count → t.link l ≡ u.link l
  pub loads : (l : ℕ) → l < t.count → t.load l ≡ u.load l

-- the same root wrench and the same figures
pub record AlikeFigures {S : Type 0} (t : Run) (k : Kernel S Wrench) (u : Run) (k' : Kernel S Wrench) : Type 0 where
  pub root : root_of k ≡ root_of k'
  pub joint : (j : ℕ) → j < joint_count t → figure_of t k j ≡ figure_of u k' j

-- a fixed joint's pose, speed and acceleration do not count
pose_counts : (kind : JointType) (origin : Frame) (axis : Vector3) (p q : Pose) → (moves kind ≡ true → p ≡ q) → joint_frame kind origin axis p ≡ joint_frame kind origin axis q
unfolding joint_frame
pose_counts Fixed origin axis p q h = refl
pose_counts Revolute origin axis p q h = ap (joint_frame Revolute origin axis) (h refl)
pose_counts Prismatic origin axis p q h = ap (joint_frame Prismatic origin axis) (h refl)

speed_counts : (kind : JointType) (axis : Vector3) (v w d e : Float) (x : Motion) → (moves kind ≡ true → v ≡ w) → (moves kind ≡ true → d ≡ e) → driven kind axis v d x ≡ driven kind axis w e x
unfolding driven
speed_counts Fixed axis v w d e x h k = refl
speed_counts Revolute axis v w d e x h k = rw (h refl, k refl)
speed_counts Prismatic axis v w d e x h k = rw (h refl, k refl)

frame_same : (t u : Run) (c : ℕ) → SamePosed t u c → frame_of t c ≡ frame_of u c
unfolding frame_of
frame_same t u c s =
    pose_counts (t.joint c).kind (t.joint c).origin (t.joint c).axis (t.pose c) (u.pose c) s.pose
    ∙ ap (λ (x : Joint). joint_frame x.kind x.origin x.axis (u.pose c)) s.joint

-- for any value at a link
module _ (SameJoint : Run → Run → ℕ → Type 0) {S : Type 0} (t u : Run) (root root' : S) (step step' : ℕ → S → S) (own own' : ℕ → S → Wrench)
    (posed : (c : ℕ) → SameJoint t u c → SamePosed t u c)
    (steps : (c : ℕ) → SameJoint t u c → (s : S) → step c s ≡ step' c s)
    (owns : (l : ℕ) → t.link l ≡ u.link l → (s : S) → own l s ≡ own' l s)
    (m : ℕ) (fit : Fit t m) where
  abbrev first : Kernel S Wrench
  first = kernel_of t root step own

  abbrev second : Kernel S Wrench
  second = kernel_of u root' step' own'

  out : (c : ℕ) → SameJoint t u c → SameOut (out_of first) (out_of second) c
  out c s = record { parent = ap (λ (x : Joint). x.parent) (posed c s).joint; step = steps c s }

  carry_same : (c : ℕ) → SameJoint t u c → (w : Wrench) → wrench_to_parent (frame_of t c) w ≡ wrench_to_parent (frame_of u c) w
  carry_same c s w = ap (λ (f : Frame). wrench_to_parent f w) (frame_same t u c (posed c s))

  figure_same : (j : ℕ) → SameJoint t u j → total_of (in_of first) j ≡ total_of (in_of second) j → figure_of t first j ≡ figure_of u second j
  unfolding figure_of
  figure_same j s e =
      ap (λ (x : Joint). figure x.kind (total_of (in_of first) j) x.axis) (posed j s).joint
      ∙ ap (λ (w : Wrench). figure (u.joint j).kind w (u.joint j).axis) e

  -- demand 3
  module _ (m' : ℕ) (fit' : Fit u m') (j : ℕ) (b : j < joint_count t) (same : Same SameJoint t root u root' j) where
    at : (c : ℕ) → BeyondIn t u j c → SameAt first second c
    at c a =
        let s : SameJoint t u c = same.those_beyond_it c a in
        record {
          first = (same.are_in_both c a).0;
          second = (same.are_in_both c a).1;
          parent = (out c s).parent;
          step = steps c s;
          start = same.with_the_same_loads c a;
          own = owns (suc c) (same.links_beyond_it c a);
          carry = carry_same c s;
        }

    stays : Stays t first u second j
    stays =
        let s : SameJoint t u j = same.those_beyond_it j (inl (b, here)) in
        let e : figure_of t first j ≡ figure_of u second j = figure_same j s (local first second same.base (λ x y. refl) fit.tree fit'.tree j b (λ c a. out c (same.joints_from_the_root_to_it c a)) at) in
        record {
          number = ap (λ (x : Joint). x.number) (posed j s).joint;
          figure = e;
          output = λ moving o o' w w'. w j b moving ∙ e ∙ sym (w' j (same.are_in_both j (inl (b, here))).1 (sym (ap (λ (x : Joint). moves x.kind) (posed j s).joint) ∙ moving));
        }

  -- two descriptions
  module _ (same : SameRun SameJoint t root u root') where
    joints_same : joint_count t ≡ joint_count u
    joints_same = ap (λ (n : ℕ). n - 1) same.count

    value_same : (c : ℕ) → c < joint_count t → value_at (out_of first) (suc c) ≡ value_at (out_of second) (suc c)
    unfolding value_at
    value_same c h =
        climb_local (out_of first) (out_of second) same.base (suc c) (suc c)
        (λ i a.
        let k : i < suc c = low (λ x. (t.joint x).parent) (joint_count t) fit.tree h a in
        out i (same.joints i (omega arith)))

    in_same : (c : ℕ) → c < joint_count t → SameIn (in_of first) (in_of second) c
    in_same c h =
        let s : SameJoint t u c = same.joints c h in
        record {
          first = h;
          second = rw joints_same at h;
          parent = (out c s).parent;
          start = same.loads (suc c) (omega arith);
          own = owns (suc c) (same.links (suc c) (omega arith)) _ ∙ ap (own' (suc c)) (value_same c h);
          carry = carry_same c s;
        }

    roots_same : root_of first ≡ root_of second
    unfolding root_of
    roots_same =
        let some : 0 < t.count = fit.some in
        root_same (in_of first) (in_of second) (λ x y. refl) joints_same in_same
        (ap (λ (w : Wrench). wrench_sum w (own 0 root)) (same.loads 0 some)
        ∙ ap (wrench_sum (u.load 0)) (owns 0 (same.links 0 some) root ∙ ap (own' 0) same.base))

    alike : AlikeFigures t first u second
    alike =
        record {
          root = roots_same;
          joint = λ j h. figure_same j (same.joints j h) (totals_same (in_of first) (in_of second) (λ x y. refl) joints_same in_same j h);
        }

-- ---- the two functions

module _ (t u : Run) where
  inverse_step_same : (c : ℕ) → SameDriven t u c → (x : Motion) → inverse_step t c x ≡ inverse_step u c x
  unfolding moved
  inverse_step_same c s x =
      speed_counts (t.joint c).kind (t.joint c).axis (t.speed c) (u.speed c) (t.acceleration c) (u.acceleration c) (carried (frame_of t c) x) s.speed s.acceleration
      ∙ ap (λ (y : Joint). driven y.kind y.axis (u.speed c) (u.acceleration c) (carried (frame_of t c) x)) s.posed.joint
      ∙ ap (λ (y : Frame). driven (u.joint c).kind (u.joint c).axis (u.speed c) (u.acceleration c) (carried y x)) (frame_same t u c s.posed)

  inverse_own_same : (l : ℕ) → t.link l ≡ u.link l → (x : Motion) → inverse_own t l x ≡ inverse_own u l x
  inverse_own_same l e x = ap (λ (y : Link). inertial_wrench y x) e

  gravity_step_same : (c : ℕ) → SamePosed t u c → (x : Vector3) → gravity_step t c x ≡ gravity_step u c x
  gravity_step_same c s x = ap (λ (y : Frame). turned y.rotation x) (frame_same t u c s)

  gravity_own_same : (l : ℕ) → t.link l ≡ u.link l → (x : Vector3) → gravity_own t l x ≡ gravity_own u l x
  gravity_own_same l e x = ap (λ (y : Link). gravity_wrench y x) e

  module _ (m : ℕ) (fit : Fit t m) where
    pub inverse_stays : (root root' : Motion) (m' : ℕ) (fit' : Fit u m') (j : ℕ) → j < joint_count t → Same SameDriven t root u root' j → Stays t (inverse_of t root) u (inverse_of u root') j
    inverse_stays root root' = stays SameDriven t u root root' _ _ _ _ (λ c s. s.posed) inverse_step_same inverse_own_same m fit

    pub gravity_stays : (root root' : Vector3) (m' : ℕ) (fit' : Fit u m') (j : ℕ) → j < joint_count t → Same SamePosed t root u root' j → Stays t (gravity_of t root) u (gravity_of u root') j
    gravity_stays root root' = stays SamePosed t u root root' _ _ _ _ (λ c s. s) gravity_step_same gravity_own_same m fit

    pub inverse_alike : (root root' : Motion) → SameRun SameDriven t root u root' → AlikeFigures t (inverse_of t root) u (inverse_of u root')
    inverse_alike root root' = alike SameDriven t u root root' _ _ _ _ (λ c s. s.posed) inverse_step_same inverse_own_same m fit

    pub gravity_alike : (root root' : Vector3) → SameRun SamePosed t root u root' → AlikeFigures t (gravity_of t root) u (gravity_of u root')
    gravity_alike root root' = alike SamePosed t u root root' _ _ _ _ (λ c s. s) gravity_step_same gravity_own_same m fit
