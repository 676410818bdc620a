-- Laws of the first refusal in a list, and of positions.
use Rattle.std.proofs.Common.{◌≡◌, ℕ, zero, suc, ◌+◌, ◌-◌, ◌<◌, Bool, true, false, List, get_or, refl, sym, ap, ◌∙◌, arith, add-one, add-zero, add-suc, Result, Ok, Err, subst}
use borrow.Author.Tests.{eq-eqb, ne_eqb}
use Rattle.fit.specs.Finite.{all_finite}
use Rattle.model.specs.declared.JointType.{JointType}
use Rattle.model.specs.declared.Pose.{Pose}
use Rattle.refusal.specs.declared.Refusal.{Refusal}
use Rattle.refusal.specs.declared.Refusal.TheVariants.{WrongLength, InvalidPose, NonFiniteInput}
use Rattle.refusal.specs.Numbers.{or_else, unless}
use Rattle.model.specs.Tables.{kind_of}
use Rattle.model.specs.Numbers.{Numbering}
use Rattle.model.specs.Poses.{pose_numbers, pose_fits, GoodPose, pose_checked, first, no_pose, positions_checked}
use Rattle.model.specs.Marks.{Coded}

-- a loop that stops at the first refusal: its start, a turn, and a turn that refuses
pub first_none : (f : ℕ → Result Unit Refusal) → first 0 f ≡ Ok tt
unfolding first
first_none f = refl

pub first_more : (f : ℕ → Result Unit Refusal) (n : ℕ) → first (n + 1) f ≡ or_else (first n f) (f n)
unfolding first
first_more f n = rw add-one refl

stays : (f : ℕ → Result Unit Refusal) (n d : ℕ) (e : Refusal) → first n f ≡ Err e → first (n + d) f ≡ Err e
stays f n zero e h = rw add-zero h
stays f n (suc d) e h = rw add-suc (rw (← add-one) (first_more f (n + d) ∙ ap (λ (x : Result Unit Refusal). or_else x (f (n + d))) (stays f n d e h)))

pub first_refused : (f : ℕ → Result Unit Refusal) (n k : ℕ) (e : Refusal) → n < k → first n f ≡ Ok tt → f n ≡ Err e → first k f ≡ Err e
first_refused f n k e l good bad =
    let here : first (n + 1) f ≡ Err e = first_more f n ∙ ap (λ (x : Result Unit Refusal). or_else x (f n)) good ∙ bad in
    let end : (n + 1) + (k - (n + 1)) ≡ k = omega arith in
    subst (λ (j : ℕ). first j f ≡ Err e) end (stays f (n + 1) (k - (n + 1)) e here)

first_same : (f g : ℕ → Result Unit Refusal) (n : ℕ) → ((k : ℕ) → k < n → f k ≡ g k) → first n f ≡ first n g
unfolding first
first_same f g zero h = refl
first_same f g (suc n) h = rw (first_same f g n (λ k l. h k (omega arith)), h n (omega arith))

pub first_good : (f : ℕ → Result Unit Refusal) (n : ℕ) → ((k : ℕ) → k < n → f k ≡ Ok tt) → first n f ≡ Ok tt
unfolding first
first_good f zero h = refl
first_good f (suc n) h = rw (first_good f n (λ k l. h k (omega arith)), h n (omega arith))

module _ (t : Numbering) (kind : ℕ → JointType) (ps : List Pose) (count : ℕ) where
  pub wrong_length : (count ≡ t.moving → ⊥) → Err WrongLength ≡ positions_checked t kind ps count
  unfolding positions_checked
  wrong_length n = rw (ne_eqb count t.moving n)

  -- the loop over the entries, with the kinds by number
  pub entries_checked : (codes : List ℕ) → count ≡ t.moving → Coded t kind t.count codes → positions_checked t kind ps count ≡ first count (λ k. pose_checked (kind_of (get_or codes k 0)) (get_or ps k no_pose))
  unfolding positions_checked
  entries_checked codes e coded =
      rw (eq-eqb count t.moving e)
      (first_same _ _ t.moving (λ k l. ap (λ (x : JointType). pose_checked x (get_or ps k no_pose)) (sym (coded k l)))
      ∙ ap (λ (k : ℕ). first k (λ i. pose_checked (kind_of (get_or codes i 0)) (get_or ps i no_pose))) (sym e))

-- ---- the check of an entry says the rule, both ways

told : (a b : Bool) → or_else (unless a NonFiniteInput) (unless b InvalidPose) ≡ Ok tt → (a ≡ true) × (b ≡ true)
told true true e = (refl, refl)
told true false e = (refl, cc)
told false b e = (cc, cc)

pub pose_says : (kind : JointType) (p : Pose) → pose_checked kind p ≡ Ok tt → GoodPose kind p
unfolding pose_checked
pose_says kind p e = let t = told (all_finite (pose_numbers p)) (pose_fits kind p) e in record { finite = t.0; fits = t.1 }

pub says_pose : (kind : JointType) (p : Pose) → GoodPose kind p → pose_checked kind p ≡ Ok tt
unfolding pose_checked
says_pose kind p g = rw (g.finite, g.fits)
