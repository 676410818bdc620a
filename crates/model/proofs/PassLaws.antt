-- What a joint that passes the quick test has, with its link, its entry and its number.
use Prim.Native.Nat.{ℕ, suc, ◌+◌, ◌<◌, ◌≤◌}
use mathlib.Core.Path.{◌≡◌, refl, sym, ap, ◌∙◌}
use mathlib.Core.Bool.{Bool, true, false, not, cond, ◌&&◌, ◌||◌, false≢true, or-false}
use mathlib.Core.List.{List}
use Rattle.std.specs.Prelude.{Ok}
use mathlib.Core.Logic.{⊎_elim}
use native.Mathlib.Omega.{arith}
use lib.Dec.{eqb, leb, ltb}
use lib.ListN.{get_or}
use lib.Ieee.{Float, le}
use borrow.Author.Tests.{lt-ltb, le-ltb, ltb-true, leb-true, eq-eqb, ne_eqb, eqb-true}
use Rattle.spatial.specs.declared.Vector3.{Vector3}
use Rattle.spatial.specs.Constants.{plus_zero}
use Rattle.spatial.proofs.BoolLaws.{and_left, and_right, and_both, by_bool, lt_or_ge, same_or_not}
use Rattle.fit.specs.Finite.{is_finite, all_finite, vector_numbers}
use Rattle.fit.specs.Unit.{unit_pair, unit_vector, unit_quaternion}
use Rattle.fit.proofs.FiniteLaws.{all_one, all_two}
use Rattle.fit.proofs.UnitLaws.{unit_pair_finite}
use Rattle.model.specs.declared.Link.{Link}
use Rattle.model.specs.declared.Joint.{Joint}
use Rattle.model.specs.declared.JointType.{JointType}
use Rattle.model.specs.declared.JointType.TheVariants.{Fixed, Revolute, Prismatic}
use Rattle.model.specs.declared.Pose.{Pose}
use Rattle.model.specs.declared.Pose.TheVariants.{Half, Slide}
use Rattle.model.specs.Tables.{kind_of}
use Rattle.model.specs.Joints.{joint_numbers}
use Rattle.model.specs.Links.{good_link}
use Rattle.model.specs.Numbers.{Numbering, no_number, taken, numbered_at}
use Rattle.model.specs.Poses.{no_pose, pose_checked, kind_of_number}
use Rattle.model.specs.View.{moves}
use Rattle.model.specs.Walk.{stays_in, entry_passes, sound, joint_passes, next_after, times_link, times_joint}
use Rattle.model.proofs.PoseLaws.{says_pose}
use Rattle.model.proofs.ProductLaws.{finite_times, link_good, joint_finite}

-- ---- products

abbrev pub Finite : Vector3 → Type 0
Finite v = all_finite (vector_numbers v) ≡ true

pub times_link_finite : (zero : Vector3) (l : Link) → le plus_zero l.mass ≡ true → Finite (times_link zero l) → Finite zero × (good_link l ≡ true)
unfolding times_link
times_link_finite zero l mass h =
    let z = finite_times _ l.inertia.z h in
    let y = finite_times _ l.inertia.y z.0 in
    let x = finite_times _ l.inertia.x y.0 in
    let m = finite_times zero _ x.0 in
    (m.0, link_good l mass m.1 x.1 y.1 z.1)

pub times_joint_finite : (zero : Vector3) (t : Joint) → unit_quaternion t.origin.rotation ≡ true → Finite (times_joint zero t) → Finite zero × (all_finite (joint_numbers t) ≡ true)
unfolding times_joint
times_joint_finite zero t turn h =
    let y = finite_times _ t.axis h in
    let x = finite_times zero _ y.0 in
    (x.0, joint_finite t turn x.1 y.1)

-- ---- an entry

-- by whether the joint is revolute
half_says : (revolute : Bool) (x y : Float) → (revolute && unit_pair x y) ≡ true → pose_checked (cond revolute Revolute Prismatic) (Half x y) ≡ Ok tt
half_says true x y h = says_pose Revolute (Half x y) (record { finite = sym (all_two x y) ∙ unit_pair_finite x y h; fits = h })
half_says false x y h = absurd (false≢true h)

slide_says : (revolute : Bool) (x : Float) → (not revolute && is_finite x) ≡ true → pose_checked (cond revolute Revolute Prismatic) (Slide x) ≡ Ok tt
slide_says true x h = absurd (false≢true h)
slide_says false x h = says_pose Prismatic (Slide x) (record { finite = all_one x ∙ h; fits = refl })

entry_good : (code : ℕ) (pose : Pose) → eqb code 0 ≡ false → entry_passes code pose ≡ true → pose_checked (kind_of code) pose ≡ Ok tt
unfolding kind_of
entry_good code (Half x y) e h = rw e (half_says (eqb code 1) x y h)
entry_good code (Slide x) e h = rw e (slide_says (eqb code 1) x h)

-- ---- a joint

pub kind_moves : (code : ℕ) → moves (kind_of code) ≡ not (eqb code 0)
unfolding kind_of
kind_moves code = says (eqb code 0) (eqb code 1)
  where
    says : (fixed revolute : Bool) → moves (cond fixed Fixed (cond revolute Revolute Prismatic)) ≡ not fixed
    says true revolute = refl
    says false true = refl
    says false false = refl

-- what every joint that passed has, and the link that it leads to
pub record Sound (code : ℕ) (t : Joint) (l : Link) : Type 0 where
  pub kind : code ≤ 2
  pub mass : le plus_zero l.mass ≡ true
  pub rotation : unit_quaternion t.origin.rotation ≡ true

sound_says : (code : ℕ) (t : Joint) (l : Link) → sound code t l ≡ true → Sound code t l
unfolding sound
sound_says code t l h =
    let a = leb code 2 && le plus_zero l.mass in
    let b = and_left a _ h in
    record { kind = leb-true code 2 (and_left (leb code 2) _ b); mass = and_right (leb code 2) _ b; rotation = and_right a _ h }

module _ (j code : ℕ) (t : Joint) (l : Link) (moving next : ℕ) (ps : List Pose) where
  -- a fixed joint that passed
  pub record Still : Type 0 where
    pub sound : Sound code t l
    pub parent : t.parent ≤ j
    pub number : t.number ≡ no_number

  -- a moving one
  pub record Moving : Type 0 where
    pub sound : Sound code t l
    pub parent : t.parent ≤ j
    pub inside : t.number < moving
    pub number : t.number ≡ next
    pub axis : unit_vector t.axis ≡ true
    pub entry : pose_checked (kind_of code) (get_or ps next no_pose) ≡ Ok tt

  module _ (s : stays_in j code t moving ≡ true) (p : joint_passes code t l next ps ≡ true) where
    pub still : eqb code 0 ≡ true → Still
    unfolding stays_in joint_passes
    still e =
        let h : (sound code t l && eqb t.number no_number) ≡ true = rw e at p in
        record {
          sound = sound_says code t l (and_left (sound code t l) _ h);
          parent = leb-true _ _ (let k : leb t.parent j ≡ true = rw e at s in k);
          number = eqb-true _ _ (and_right (sound code t l) _ h);
        }

    pub moved : eqb code 0 ≡ false → Moving
    unfolding stays_in joint_passes
    moved e =
        let a = sound code t l in
        let b = eqb t.number next in
        let u = unit_vector t.axis in
        let v = entry_passes code (get_or ps t.number no_pose) in
        let k : (leb t.parent j && ltb t.number moving) ≡ true = rw e at s in
        let h : (((a && b) && u) && v) ≡ true = rw e at p in
        let f = and_left ((a && b) && u) v h in
        let g = and_left (a && b) u f in
        let n = eqb-true t.number next (and_right a b g) in
        record {
          sound = sound_says code t l (and_left a b g);
          parent = leb-true _ _ (and_left (leb t.parent j) _ k);
          inside = ltb-true _ _ (and_right (leb t.parent j) _ k);
          number = n;
          axis = and_right (a && b) u f;
          entry = ap (λ (i : ℕ). pose_checked (kind_of code) (get_or ps i no_pose)) (sym n) ∙ entry_good code (get_or ps t.number no_pose) e (and_right ((a && b) && u) v h);
        }

-- ---- numbers

-- a number is below the next but one where it is below the next, or the next
below_or_next : (n next : ℕ) → (ltb n next || eqb next n) ≡ ltb n (next + 1)
below_or_next n next =
    ⊎_elim
    (λ l. rw (lt-ltb n next l, lt-ltb n (next + 1) (omega arith)))
    (λ g.
    ⊎_elim
    (λ e. rw (le-ltb n next g, eq-eqb next n e, lt-ltb n (next + 1) (omega arith)))
    (λ d. rw (le-ltb n next g, ne_eqb next n d, le-ltb n (next + 1) (omega arith)))
    (same_or_not next n))
    (lt_or_ge n next)

pub next_most : (code next : ℕ) → next_after code next ≤ next + 1
unfolding next_after
next_most code next = ⊎_elim (λ e. rw e (omega arith)) (λ e. rw e (omega arith)) (by_bool (eqb code 0))

-- one joint more: a fixed one changes nothing
module _ (N : Numbering) (j : ℕ) (e : N.moves j ≡ false) where
  pub still_taken : (n : ℕ) → taken N (suc j) n ≡ taken N j n
  unfolding taken
  still_taken n = rw e (or-false (taken N j n))

  pub still_kind : (kind : ℕ → JointType) (n : ℕ) → kind_of_number N kind (suc j) n ≡ kind_of_number N kind j n
  unfolding kind_of_number
  still_kind kind n = rw e

  pub still_numbered : N.number j ≡ no_number → numbered_at N j ≡ true
  unfolding numbered_at
  still_numbered h = rw e (eq-eqb _ _ h)

-- a moving one takes the next number
module _ (N : Numbering) (j : ℕ) (e : N.moves j ≡ true) where
  pub moved_taken : (next : ℕ) → N.number j ≡ next → ((n : ℕ) → taken N j n ≡ ltb n next) → (n : ℕ) → taken N (suc j) n ≡ ltb n (next + 1)
  unfolding taken
  moved_taken next h t n = rw (e, t n, h) (below_or_next n next)

  pub own_kind : (kind : ℕ → JointType) (n : ℕ) → N.number j ≡ n → kind_of_number N kind (suc j) n ≡ kind j
  unfolding kind_of_number
  own_kind kind n h = rw (e, eq-eqb _ _ h)

  pub other_kind : (kind : ℕ → JointType) (n : ℕ) → (N.number j ≡ n → ⊥) → kind_of_number N kind (suc j) n ≡ kind_of_number N kind j n
  unfolding kind_of_number
  other_kind kind n h = rw (e, ne_eqb _ _ h)

  pub moved_numbered : N.number j < N.moving → taken N j (N.number j) ≡ false → numbered_at N j ≡ true
  unfolding numbered_at
  moved_numbered l h = rw e (and_both _ _ (lt-ltb _ _ l) (ap not h))
