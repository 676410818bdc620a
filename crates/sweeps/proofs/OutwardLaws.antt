-- A joint that stays in its bounds: what a sweep may read and write for it.
use Prim.Native.Nat.{ℕ, ◌+◌, ◌-◌, ◌<◌, ◌≤◌}
use mathlib.Core.Bool.{Bool, true, false, false≢true, ◌&&◌}
use mathlib.Core.List.{List, []}
use mathlib.Core.Logic.{⊎_elim}
use mathlib.Core.Path.{◌≡◌, sym, ap, ◌∙◌}
use lib.Dec.{eqb, leb, ltb}
use borrow.Author.Tests.{eq-eqb, eqb-true, le-leb, leb-true, lt-ltb, ltb-true}
use Rattle.spatial.specs.declared.Vector3.{Vector3}
use Rattle.spatial.proofs.BoolLaws.{and_both, and_left, and_right, by_bool}
use Rattle.model.specs.Tables.{joint_at, entry_at, link_at, kind_of}
use Rattle.model.specs.View.{moves}
use Rattle.model.specs.Walk.{stays_in, joint_passes, next_after, times_link, times_joint}
use Rattle.model.specs.declared.Joint.{Joint}
use Rattle.model.specs.declared.Model.{Model}
use Rattle.model.specs.declared.Pose.{Pose}
use Rattle.model.proofs.NumberLaws.{moves_fixed, moves_other}
use Rattle.model.proofs.WalkLaws.{Walked, walked_turn}
use Rattle.dynamics.specs.Runs.{run_of}
use Rattle.dynamics.specs.Run.{Fit}

module _ (j code m : ℕ) (joint : Joint) (h : stays_in j code joint m ≡ true) where
  pub stays_parent : joint.parent ≤ j
  unfolding stays_in
  stays_parent =
      ⊎_elim
      (λ e. leb-true _ _ (rw e at h))
      (λ e. leb-true _ _ (and_left (leb joint.parent j) _ (rw e at h)))
      (by_bool (eqb code 0))

  pub stays_number : eqb code 0 ≡ false → joint.number < m
  unfolding stays_in
  stays_number e = ltb-true _ _ (and_right (leb joint.parent j) _ (rw e at h))

-- a code other than 0 moves
pub moves_coded : (code : ℕ) → moves (kind_of code) ≡ true → eqb code 0 ≡ false
moves_coded code h = ⊎_elim (λ e. absurd (false≢true (sym (moves_fixed code (eqb-true code 0 e)) ∙ h))) (λ e. e) (by_bool (eqb code 0))

stays : (j code m : ℕ) (joint : Joint) → joint.parent ≤ j → (eqb code 0 ≡ false → joint.number < m) → stays_in j code joint m ≡ true
unfolding stays_in
stays j code m joint up inside =
    ⊎_elim
    (λ q. rw q (le-leb _ _ up))
    (λ q. rw q (and_both (leb joint.parent j) (ltb joint.number m) (le-leb _ _ up) (lt-ltb _ _ (inside q))))
    (by_bool (eqb code 0))

-- the joints of a tree stay
pub fit_stays : (m : Model) (n j : ℕ) (joint : Joint) → Fit (run_of m [] [] [] []) n → j < m.count - 1 → joint ≡ joint_at m j → stays_in j (entry_at m j).kind joint n ≡ true
fit_stays m n j joint f h e =
    let code = (entry_at m j).kind in
    ap (λ (x : Joint). stays_in j code x n) e
    ∙ stays j code n (joint_at m j) (f.tree j h) (λ q. f.inside j h (moves_other code (λ z. false≢true (sym q ∙ eq-eqb code 0 z))))

-- a turn of the walk, with the joint at hand known to be the model's
pub walked_next :
    (m : Model) (ps : List Pose) (good passes : Bool) (zero zero' zero'' : Vector3) (next next' j : ℕ) (joint : Joint)
    → Walked m ps good zero next j
    → joint ≡ joint_at m j
    → stays_in j (entry_at m j).kind joint m.moving ≡ true
    → passes ≡ joint_passes (entry_at m j).kind joint (link_at m (j + 1)) next ps
    → next' ≡ next_after (entry_at m j).kind next
    → zero' ≡ times_link zero (link_at m (j + 1))
    → zero'' ≡ times_joint zero' joint
    → Walked m ps (good && passes) zero'' next' (j + 1)
walked_next m ps good passes zero zero' zero'' next next' j joint w ej s p n z y =
    walked_turn m ps good passes zero zero' zero'' next next' j w
    (ap (λ (x : Joint). stays_in j (entry_at m j).kind x m.moving) (sym ej) ∙ s)
    (p ∙ ap (λ (x : Joint). joint_passes (entry_at m j).kind x (link_at m (j + 1)) next ps) ej)
    n z
    (y ∙ ap (times_joint zero') ej)
