-- What a call shows once its checks have passed.
use Prim.Native.Nat.{ℕ}
use mathlib.Core.Bool.{Bool, true, false}
use mathlib.Core.List.{List}
use mathlib.Core.Path.{◌≡◌, refl}
use lib.Dec.{eqb}
use lib.ListN.{length}
use lib.Ieee.{Float}
use borrow.Author.Tests.{eqb-true}
use Rattle.fit.specs.Finite.{all_finite}
use Rattle.std.specs.Prelude.{Ok}
use Rattle.refusal.specs.Numbers.{unless}
use Rattle.model.specs.Bases.{base_checked}
use Rattle.model.specs.Good.{GoodModel, counts_fit, good_model, model_checked}
use Rattle.model.specs.Lists.{list_checked}
use Rattle.model.specs.Poses.{positions_checked}
use Rattle.model.specs.View.{View, numbering_of}
use Rattle.model.specs.declared.BaseState.{BaseState}
use Rattle.refusal.specs.declared.Refusal.TheVariants.{InvalidModel, WrongLength, NonFiniteInput}
use Rattle.model.specs.declared.Pose.{Pose}
use Rattle.model.specs.declared.RootMode.{RootMode}
use Rattle.model.proofs.GoodLaws.{good_says, says_good}
use Rattle.spatial.proofs.BoolLaws.{and_left}
use Rattle.outcome.specs.Refusal.{start_checked, output_length, output_checked}
use Rattle.outcome.proofs.PositionLaws.{good_first, good_next, right}

pub is_good : (b : Bool) → unless b InvalidModel ≡ Ok tt → b ≡ true
is_good true e = refl
is_good false e = cc

pub counts_good : (t : View) → GoodModel t → counts_fit t.count t.moving ≡ true
unfolding good_model
counts_good t g = and_left (counts_fit t.count t.moving) _ (says_good t g)

module _ (t : View) (base : BaseState) (ps : List Pose) (entries : ℕ) (e : start_checked t base ps entries ≡ Ok tt) where
  pub model_good : GoodModel t
  unfolding start_checked
  model_good = good_says t (is_good (good_model t) (good_first (model_checked t) _ e))

  pub positions_good : positions_checked (numbering_of t) (λ j. (t.joint j).kind) ps entries ≡ Ok tt
  unfolding start_checked
  positions_good = good_next (base_checked base) _ (good_next (model_checked t) _ e)

pub positions_length : (t : View) (ps : List Pose) (entries : ℕ) → positions_checked (numbering_of t) (λ j. (t.joint j).kind) ps entries ≡ Ok tt → entries ≡ t.moving
unfolding positions_checked
positions_length t ps entries e = eqb-true entries t.moving (right (eqb entries t.moving) (good_first (unless (eqb entries t.moving) WrongLength) _ e))

pub list_length : (xs : List Float) (m : ℕ) → list_checked xs m ≡ Ok tt → length xs ≡ m
unfolding list_checked
list_length xs m e = eqb-true (length xs) m (right (eqb (length xs) m) (good_first (unless (eqb (length xs) m) WrongLength) (unless (all_finite xs) NonFiniteInput) e))

pub output_length_if_good : (mode : RootMode) (m n : ℕ) → output_checked mode m n ≡ Ok tt → n ≡ output_length mode m
output_length_if_good mode m n e = eqb-true n (output_length mode m) (right (eqb n (output_length mode m)) e)
