-- The decision of a good model says the rule, both ways; and what a good model gives its users.
use Prim.Native.Nat.{ℕ, ◌-◌, ◌<◌, ◌≤◌}
use mathlib.Core.Path.{◌≡◌, refl, sym, ◌∙◌}
use mathlib.Core.Bool.{Bool, true, false, not, ◌&&◌}
use lib.Dec.{leb}
use lib.Ieee.{le}
use mathlib.Core.Logic.{⊎_elim}
use native.Mathlib.Omega.{arith}
use borrow.Author.Tests.{leb-true, le-leb}
use Rattle.spatial.specs.All.{all}
use Rattle.spatial.specs.Constants.{plus_zero}
use Rattle.fit.specs.Finite.{all_finite}
use Rattle.fit.specs.Unit.{unit_vector, unit_quaternion}
use Rattle.spatial.proofs.AllLaws.{all_at, all_if}
use Rattle.std.specs.Prelude.{Ok, Err}
use Rattle.refusal.specs.declared.Refusal.TheVariants.{InvalidModel}
use Rattle.refusal.specs.Numbers.{unless}
use Rattle.model.specs.Numbers.{Holds, numbered}
use Rattle.model.specs.declared.Link.{Link}
use Rattle.model.specs.declared.Joint.{Joint}
use Rattle.model.specs.declared.BaseState.{BaseState}
use Rattle.model.specs.View.{View, joint_count, moves, numbering_of}
use Rattle.model.specs.Links.{link_numbers, GoodLink, weighs, good_link}
use Rattle.model.specs.Joints.{joint_numbers, GoodJoint, axis_fits, fits, good_joint}
use Rattle.model.specs.Bases.{base_numbers, GoodBase, good_base}
use Rattle.model.specs.Good.{GoodModel, counts_fit, good_model, model_checked}
use Rattle.spatial.proofs.BoolLaws.{and_both, and_left, and_right, by_bool, or_right}
use Rattle.model.proofs.NumberedLaws.{numbered_says, says_numbered, few_numbers}

-- ---- the check's tests

pub record Counts (count moving : ℕ) : Type 0 where
  pub some : 1 ≤ count
  pub few : count ≤ 64
  pub least : moving ≤ count - 1

pub counts : (count moving : ℕ) → counts_fit count moving ≡ true → Counts count moving
unfolding counts_fit
counts count moving h =
    let r = and_right (leb 1 count) (leb count 64 && leb moving (count - 1)) h in
    record {
      some = leb-true 1 count (and_left (leb 1 count) (leb count 64 && leb moving (count - 1)) h);
      few = leb-true count 64 (and_left (leb count 64) (leb moving (count - 1)) r);
      least = leb-true moving (count - 1) (and_right (leb count 64) (leb moving (count - 1)) r);
    }

module _ (t : View) where
  pub refused : counts_fit t.count t.moving ≡ false → Err InvalidModel ≡ model_checked t
  unfolding good_model
  refused h = rw h

  module _ (links joints numbers : Bool) (c : counts_fit t.count t.moving ≡ true)
      (el : links ≡ all t.count (λ l. good_link (t.link l)))
      (ej : joints ≡ all (joint_count t) (λ j. good_joint j (t.code j) (t.joint j)))
      (en : numbers ≡ numbered (numbering_of t)) where
    told : (links && (joints && numbers)) ≡ good_model t
    unfolding good_model
    told = rw (c, el, ej, en)

    pub told_good : (links && (joints && numbers)) ≡ true → Ok tt ≡ model_checked t
    told_good h = rw (sym told ∙ h)

    pub told_bad : (links && (joints && numbers)) ≡ false → Err InvalidModel ≡ model_checked t
    told_bad h = rw (sym told ∙ h)

-- ---- the rule, both ways

pub link_says : (l : Link) → good_link l ≡ true → GoodLink l
unfolding good_link weighs
link_says l h =
    let w = and_right (all_finite (link_numbers l)) _ h in
    record {
      finite = and_left (all_finite (link_numbers l)) _ h;
      mass = and_left (le plus_zero l.mass) _ w;
      moment = and_right (le plus_zero l.mass) _ w;
    }

pub says_link : (l : Link) → GoodLink l → good_link l ≡ true
unfolding good_link weighs
says_link l g = and_both _ _ g.finite (and_both _ _ g.mass g.moment)

axis_says : (t : Joint) → axis_fits t ≡ true → moves t.kind ≡ true → unit_vector t.axis ≡ true
unfolding axis_fits
axis_says t h e = rw e at h

says_axis : (t : Joint) → (moves t.kind ≡ true → unit_vector t.axis ≡ true) → axis_fits t ≡ true
unfolding axis_fits
says_axis t h = ⊎_elim (λ e. or_right (not (moves t.kind)) _ (h e)) (λ e. rw e) (by_bool (moves t.kind))

pub joint_says : (j code : ℕ) (t : Joint) → good_joint j code t ≡ true → GoodJoint j code t
unfolding good_joint fits
joint_says j code t h =
    let a = leb code 2 in
    let b = leb t.parent j in
    let u = unit_quaternion t.origin.rotation in
    let f : (((a && b) && u) && axis_fits t) ≡ true = and_right (all_finite (joint_numbers t)) _ h in
    let g : ((a && b) && u) ≡ true = and_left ((a && b) && u) (axis_fits t) f in
    let k : (a && b) ≡ true = and_left (a && b) u g in
    record {
      kind = leb-true code 2 (and_left a b k);
      parent = leb-true t.parent j (and_right a b k);
      finite = and_left (all_finite (joint_numbers t)) _ h;
      rotation = and_right (a && b) u g;
      axis = axis_says t (and_right ((a && b) && u) (axis_fits t) f);
    }

pub says_joint : (j code : ℕ) (t : Joint) → GoodJoint j code t → good_joint j code t ≡ true
unfolding good_joint fits
says_joint j code t g =
    and_both _ _ g.finite
    (and_both _ _ (and_both _ _ (and_both _ _ (le-leb _ _ g.kind) (le-leb _ _ g.parent)) g.rotation) (says_axis t g.axis))

-- what the check calls good is good
pub good_says : (t : View) → good_model t ≡ true → GoodModel t
unfolding good_model
good_says t h =
    let ls = all t.count (λ l. good_link (t.link l)) in
    let js = all (joint_count t) (λ j. good_joint j (t.code j) (t.joint j)) in
    let c = counts t.count t.moving (and_left (counts_fit t.count t.moving) _ h) in
    let r : (ls && (js && numbered (numbering_of t))) ≡ true = and_right (counts_fit t.count t.moving) _ h in
    let s : (js && numbered (numbering_of t)) ≡ true = and_right ls _ r in
    record {
      some = c.some;
      few = c.few;
      links = λ l m. link_says (t.link l) (all_at t.count l (λ i. good_link (t.link i)) (and_left ls _ r) m);
      joints = λ j m. joint_says j (t.code j) (t.joint j) (all_at (joint_count t) j (λ i. good_joint i (t.code i) (t.joint i)) (and_left js _ s) m);
      numbers = numbered_says (numbering_of t) (and_right js _ s);
    }

-- and what is good the check calls so
pub says_good : (t : View) → GoodModel t → good_model t ≡ true
unfolding good_model counts_fit
says_good t g =
    and_both _ _
    (and_both _ _ (le-leb _ _ g.some) (and_both _ _ (le-leb _ _ g.few) (le-leb _ _ (few_numbers (numbering_of t) g.numbers))))
    (and_both _ _ (all_if t.count (λ l. good_link (t.link l)) (λ l m. says_link (t.link l) (g.links l m)))
    (and_both _ _
    (all_if (joint_count t) (λ j. good_joint j (t.code j) (t.joint j)) (λ j m. says_joint j (t.code j) (t.joint j) (g.joints j m)))
    (says_numbered (numbering_of t) g.numbers)))

pub base_says : (b : BaseState) → good_base b ≡ true → GoodBase b
unfolding good_base
base_says b h = record { finite = and_left (all_finite (base_numbers b)) _ h; rotation = and_right (all_finite (base_numbers b)) _ h }

pub says_base : (b : BaseState) → GoodBase b → good_base b ≡ true
unfolding good_base
says_base b g = and_both _ _ g.finite g.rotation

-- ---- what a good model gives its users

module _ (t : View) (g : GoodModel t) where
  pub parent_first : (j : ℕ) → j < joint_count t → (t.joint j).parent ≤ j
  parent_first j l = (g.joints j l).parent

  pub number_below : (j : ℕ) → j < joint_count t → moves (t.joint j).kind ≡ true → (t.joint j).number < t.moving
  number_below j l m = g.numbers.below (t.joint j).number j (record { inside = l; moving = m; number = refl })

  pub number_apart : (i j : ℕ) → i < joint_count t → j < joint_count t → moves (t.joint i).kind ≡ true → moves (t.joint j).kind ≡ true → (t.joint i).number ≡ (t.joint j).number → i ≡ j
  number_apart i j p q m n e =
      g.numbers.once (t.joint j).number i j (record { inside = p; moving = m; number = e }) (record { inside = q; moving = n; number = refl })

  -- each number has one joint, and no other
  pub one_holder : (n : ℕ) → n < t.moving → (j : ℕ) × Holds (numbering_of t) n j × ((i : ℕ) → Holds (numbering_of t) n i → i ≡ j)
  one_holder n l =
      let r = g.numbers.held n l in
      (r.0, r.1, λ i h. g.numbers.once n i r.0 h r.1)

  pub few_moving : t.moving ≤ 63
  few_moving = omega (arith, few_numbers (numbering_of t) g.numbers, g.some, g.few)

-- what a check of a good model leaves to those after it
pub good_counts : (t : View) → Ok tt ≡ model_checked t → Counts t.count t.moving
unfolding good_model
good_counts t e = counts _ _ (and_left (counts_fit t.count t.moving) _ (is_good (good_model t) (sym e)))
  where
    is_good : (b : Bool) → unless b InvalidModel ≡ Ok tt → b ≡ true
    is_good true q = refl
    is_good false q = cc
