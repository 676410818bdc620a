-- 01, Tables and their limits: what a good model is.
use Rattle.std.specs.Prelude.{ℕ, ◌-◌, ◌<◌, ◌≤◌, Bool, ◌&&◌, leb, Result}
use Rattle.spatial.specs.All.{all}
use Rattle.refusal.specs.declared.Refusal.{Refusal}
use Rattle.refusal.specs.declared.Refusal.TheVariants.{InvalidModel}
use Rattle.refusal.specs.Numbers.{unless}
use Rattle.model.specs.View.{View, joint_count, numbering_of}
use Rattle.model.specs.Links.{GoodLink, good_link}
use Rattle.model.specs.Joints.{GoodJoint, good_joint}
use Rattle.model.specs.Numbers.{Numbered, numbered}

-- "A model has .. 1 to 64 links"
pub record GoodModel (t : View) : Type 0 where
  pub some : 1 ≤ t.count
  pub few : t.count ≤ 64
  pub links : (l : ℕ) → l < t.count → GoodLink (t.link l)
  pub joints : (j : ℕ) → j < joint_count t → GoodJoint j (t.code j) (t.joint j)
  pub numbers : Numbered (numbering_of t)

-- ---- decided

-- 1 to 64 links, and no more moving joints than joints
unfoldable pub counts_fit : ℕ → ℕ → Bool
counts_fit count moving = leb 1 count && (leb count 64 && leb moving (count - 1))

unfoldable pub good_model : View → Bool
good_model t =
    counts_fit t.count t.moving
    && (all t.count (λ l. good_link (t.link l)) && (all (joint_count t) (λ j. good_joint j (t.code j) (t.joint j)) && numbered (numbering_of t)))

-- "1: the model isn't good"
abbrev pub model_checked : View → Result Unit Refusal
model_checked t = unless (good_model t) InvalidModel
