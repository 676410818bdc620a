-- What the checks answer when their turn comes.
use Prim.Native.Nat.{ℕ, zero, suc, ◌<◌}
use mathlib.Core.Bool.{true, false}
use mathlib.Core.List.{List}
use mathlib.Core.Logic.{⊎_elim}
use mathlib.Core.Path.{◌≡◌, refl, sym, ap, ◌∙◌}
use native.Mathlib.Omega.{arith}
use lib.ListN.{length}
use lib.Ieee.{Float}
use borrow.Author.Tests.{eq-eqb, ne_eqb}
use Rattle.fit.specs.Finite.{all_finite}
use Rattle.spatial.proofs.BoolLaws.{upto}
use Rattle.model.specs.Lists.{list_checked}
use Rattle.model.specs.Numbers.{Holds}
use Rattle.model.specs.Poses.{pose_checked, first, kind_of_number, positions_checked}
use Rattle.model.specs.View.{numbering_of}
use Rattle.std.specs.Prelude.{Result, Ok, Err}
use Rattle.refusal.specs.declared.Refusal.{Refusal}
use Rattle.refusal.specs.declared.Refusal.TheVariants.{WrongLength, NonFiniteInput}
use Rattle.model.specs.declared.JointType.{JointType}
use Rattle.model.proofs.GoodLaws.{says_good, says_base, one_holder}
use Rattle.model.proofs.PoseLaws.{first_good, says_pose}
use Rattle.outcome.specs.declared.Function.{Function}
use Rattle.outcome.specs.declared.Function.TheVariants.{InverseDynamics, Gravity, VelocityProduct}
use Rattle.outcome.specs.Call.{Call}
use Rattle.outcome.specs.Refusal.{start_checked, speeds_checked, accelerations_checked, loads_number}
use Rattle.outcome.specs.When.{takes_speeds, takes_accelerations, takes_loads, PositionsTurn, EntriesTurn, entry, GoodEntry, EntryTurn, SpeedsTurn, GoodList}
use Rattle.outcome.proofs.AnswerLaws.{Refused, kept}
use Rattle.outcome.proofs.PositionLaws.{kind_held}

-- ---- the law of a list of checks: the first that refuses decides

first_bad : (f : ℕ → Result Unit Refusal) (i n : ℕ) → i < n → ((k : ℕ) → k < i → f k ≡ Ok tt) → Refused (f i) → first n f ≡ f i
unfolding first
first_bad f i zero l h r = absurd (omega arith)
first_bad f i (suc n) l h r =
    ⊎_elim
    (λ e. rw (first_good f n (λ k m. h k (omega arith))) (ap f (sym e)))
    (λ m. rw (first_bad f i n m h r) (sym (kept (f i) (f n) r)))
    (upto n i l)

-- ---- the start

module _ (c : Call) where
  abbrev kinds : ℕ → JointType
  kinds j = (c.model.joint j).kind

  abbrev pub checked_at : ℕ → Result Unit Refusal
  checked_at n = pose_checked (kind_of_number (numbering_of c.model) kinds (numbering_of c.model).count n) (entry c n)

  abbrev start : Result Unit Refusal
  start = start_checked c.model c.base c.positions c.entries

  module _ (t : PositionsTurn c) where
    pub positions_turn : start ≡ positions_checked (numbering_of c.model) kinds c.positions c.entries
    unfolding start_checked
    positions_turn = rw (says_good c.model t.model, says_base c.base t.base)

    pub at_holder : (n j : ℕ) → Holds (numbering_of c.model) n j → checked_at n ≡ pose_checked (kinds j) (entry c n)
    at_holder n j h = ap (λ (k : JointType). pose_checked k (entry c n)) (kind_held (numbering_of c.model) kinds t.model.numbers n j h)

    good_at : (n : ℕ) → n < c.model.moving → GoodEntry c n → checked_at n ≡ Ok tt
    good_at n l g =
        let h = one_holder c.model t.model n l in
        at_holder n h.0 h.1 ∙ says_pose (kinds h.0) (entry c n) (g h.0 h.1)

  entries_turn : EntriesTurn c → start ≡ first c.model.moving checked_at
  unfolding positions_checked
  entries_turn t = positions_turn t.before ∙ rw (eq-eqb c.entries c.model.moving t.count)

  -- entry n refuses
  pub entry_turn : (n : ℕ) → EntryTurn c n → Refused (checked_at n) → start ≡ checked_at n
  entry_turn n t r = entries_turn t.before ∙ first_bad checked_at n c.model.moving t.inside (λ k l. good_at t.before.before k (omega (arith, t.inside)) (t.good k l)) r

  -- none does
  pub speeds_turn : SpeedsTurn c → start ≡ Ok tt
  speeds_turn t = entries_turn t.before ∙ first_good checked_at c.model.moving (λ k l. good_at t.before.before k l (t.entries k l))

-- ---- a list, and who takes it

list_good : (xs : List Float) (m : ℕ) → GoodList xs m → list_checked xs m ≡ Ok tt
unfolding list_checked
list_good xs m g = rw (eq-eqb (length xs) m g.count, g.finite)

pub list_wrong : (xs : List Float) (m : ℕ) → (length xs ≡ m → ⊥) → Err WrongLength ≡ list_checked xs m
unfolding list_checked
list_wrong xs m n = rw (ne_eqb (length xs) m n)

pub list_infinite : (xs : List Float) (m : ℕ) → length xs ≡ m → all_finite xs ≡ false → Err NonFiniteInput ≡ list_checked xs m
unfolding list_checked
list_infinite xs m e h = rw (eq-eqb (length xs) m e, h)

module _ (c : Call) where
  pub speeds_taken : (f : Function) → takes_speeds f ≡ true → speeds_checked c f ≡ list_checked c.speeds c.model.moving
  speeds_taken InverseDynamics e = refl
  speeds_taken Gravity e = cc
  speeds_taken VelocityProduct e = refl

  pub speeds_good : (f : Function) → (takes_speeds f ≡ true → GoodList c.speeds c.model.moving) → speeds_checked c f ≡ Ok tt
  speeds_good InverseDynamics h = list_good _ _ (h refl)
  speeds_good Gravity h = refl
  speeds_good VelocityProduct h = list_good _ _ (h refl)

  pub accelerations_taken : (f : Function) → takes_accelerations f ≡ true → accelerations_checked c f ≡ list_checked c.accelerations c.model.moving
  accelerations_taken InverseDynamics e = refl
  accelerations_taken Gravity e = cc
  accelerations_taken VelocityProduct e = cc

  pub accelerations_good : (f : Function) → (takes_accelerations f ≡ true → GoodList c.accelerations c.model.moving) → accelerations_checked c f ≡ Ok tt
  accelerations_good InverseDynamics h = list_good _ _ (h refl)
  accelerations_good Gravity h = refl
  accelerations_good VelocityProduct h = refl

  pub loads_taken : (f : Function) → takes_loads f ≡ true → loads_number c f ≡ c.loads.number
  loads_taken InverseDynamics e = refl
  loads_taken Gravity e = refl
  loads_taken VelocityProduct e = cc

  pub loads_good : (f : Function) → (takes_loads f ≡ true → c.loads.number ≡ 0) → loads_number c f ≡ 0
  loads_good InverseDynamics h = h refl
  loads_good Gravity h = h refl
  loads_good VelocityProduct h = refl
