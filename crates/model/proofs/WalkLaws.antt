-- What a walk past all joints shows: a model and positions that pass are good.
use Prim.Native.Nat.{ℕ, suc, ◌+◌, ◌-◌, ◌<◌, ◌≤◌}
use mathlib.Core.Path.{◌≡◌, refl, sym, ap, ◌∙◌}
use mathlib.Core.Bool.{Bool, true, false, not, ◌&&◌, false≢true}
use mathlib.Core.List.{List}
use Rattle.std.specs.Prelude.{Ok}
use mathlib.Core.Logic.{⊎_elim}
use native.Mathlib.Numerals.{add-one}
use native.Mathlib.Omega.{arith}
use lib.Dec.{eqb, ltb}
use lib.ListN.{get_or}
use lib.Ieee.{le}
use borrow.Author.Tests.{lt-ltb, le-ltb, eq-eqb}
use Rattle.spatial.specs.declared.Vector3.{Vector3}
use Rattle.spatial.specs.Constants.{plus_zero, zero_vector}
use Rattle.spatial.proofs.AllLaws.{all_if}
use Rattle.spatial.proofs.BoolLaws.{and_left, and_right, and_both, by_bool, lt_or_ge, upto}
use Rattle.fit.specs.Finite.{all_finite, vector_numbers}
use Rattle.fit.specs.Unit.{unit_vector}
use Rattle.model.specs.declared.Link.{Link}
use Rattle.model.specs.declared.Joint.{Joint}
use Rattle.model.specs.declared.JointType.{JointType}
use Rattle.model.specs.declared.Model.{Model}
use Rattle.model.specs.declared.Pose.{Pose}
use Rattle.model.specs.Tables.{view_of, link_at, entry_at}
use Rattle.model.specs.Good.{counts_fit, good_model}
use Rattle.model.specs.Joints.{joint_numbers, good_joint}
use Rattle.model.specs.Links.{good_link}
use Rattle.model.specs.Numbers.{Numbering, taken, numbered_at, numbered}
use Rattle.model.specs.Poses.{no_pose, pose_checked, kind_of_number, positions_checked}
use Rattle.model.specs.View.{View, moves, numbering_of}
use Rattle.model.specs.Walk.{stays_in, joint_passes, next_after, times_link, times_joint, Passed}
use Rattle.model.proofs.GoodLaws.{counts, says_joint}
use Rattle.model.proofs.PoseLaws.{first_good}
use Rattle.model.proofs.PassLaws.{Finite, times_link_finite, times_joint_finite, kind_moves, Sound, Still, Moving, still, moved, next_most, still_taken, still_kind, still_numbered, moved_taken, own_kind, other_kind, moved_numbered}

module _ (m : Model) (ps : List Pose) where
  abbrev view : View
  view = view_of m

  abbrev N : Numbering
  N = numbering_of view

  abbrev joint : ℕ → Joint
  joint = view.joint

  abbrev code : ℕ → ℕ
  code j = (entry_at m j).kind

  abbrev link : ℕ → Link
  link = link_at m

  abbrev kind : ℕ → JointType
  kind j = (joint j).kind

  -- what the joints before j have shown, where all passed
  pub record Shown (zero : Vector3) (next j : ℕ) : Type 0 where
    pub numbers : (i : ℕ) → i < j → numbered_at N i ≡ true
    pub taken : (n : ℕ) → taken N j n ≡ ltb n next
    pub posed : (n : ℕ) → n < next → pose_checked (kind_of_number N kind j n) (get_or ps n no_pose) ≡ Ok tt
    pub links : all_finite (vector_numbers zero) ≡ true → (l : ℕ) → l ≤ j → good_link (link l) ≡ true
    pub joints : all_finite (vector_numbers zero) ≡ true → (i : ℕ) → i < j → good_joint i (code i) (joint i) ≡ true

  pub record Walked (good : Bool) (zero : Vector3) (next j : ℕ) : Type 0 where
    pub most : next ≤ j
    pub shown : good ≡ true → Shown zero next j

  pub walked_first : (good : Bool) (zero : Vector3) → good ≡ le plus_zero (link 0).mass → zero ≡ times_link zero_vector (link 0) → Walked good zero 0 0
  unfolding taken
  walked_first good zero e z =
      record {
        most = omega arith;
        shown = λ h.
            record {
              numbers = λ i l. absurd (omega arith);
              taken = λ n. sym (le-ltb n 0 (omega arith));
              posed = λ n l. absurd (omega arith);
              links = λ f l k.
                  let o : l ≡ 0 = omega arith in
                  ap (λ (i : ℕ). good_link (link i)) o ∙ (times_link_finite zero_vector (link 0) (sym e ∙ h) (ap (λ (v : Vector3). all_finite (vector_numbers v)) (sym z) ∙ f)).1;
              joints = λ f i l. absurd (omega arith);
            };
      }

  -- all but the numbers: the product with a link and its joint
  module _ (zero : Vector3) (next j : ℕ) (s : Shown zero next j) (o : Sound (code j) (joint j) (link (j + 1))) (below : (joint j).parent ≤ j) (axis : moves (kind j) ≡ true → unit_vector (joint j).axis ≡ true)
      (f : Finite (times_joint (times_link zero (link (j + 1))) (joint j))) where
    met : Finite (times_link zero (link (j + 1))) × (all_finite (joint_numbers (joint j)) ≡ true)
    met = times_joint_finite (times_link zero (link (j + 1))) (joint j) o.rotation f

    before : Finite zero × (good_link (link (j + 1)) ≡ true)
    before = times_link_finite zero (link (j + 1)) o.mass met.0

    more_links : (l : ℕ) → l ≤ suc j → good_link (link l) ≡ true
    more_links l k =
        ⊎_elim
        (λ q.
        let e : l ≡ j + 1 = omega arith in
        ap (λ (i : ℕ). good_link (link i)) e ∙ before.1)
        (λ q. s.links before.0 l q)
        (lt_or_ge j l)

    more_joints : (i : ℕ) → i < suc j → good_joint i (code i) (joint i) ≡ true
    more_joints i k =
        ⊎_elim
        (λ e. ap (λ (k : ℕ). good_joint k (code k) (joint k)) e ∙ says_joint j (code j) (joint j) (record { kind = o.kind; parent = below; finite = met.1; rotation = o.rotation; axis = axis }))
        (λ q. s.joints before.0 i q)
        (upto j i k)

  -- a joint more
  module _ (zero : Vector3) (next j : ℕ) (s : Shown zero next j) where
    abbrev product : Vector3
    product = times_joint (times_link zero (link (j + 1))) (joint j)

    more_numbers : numbered_at N j ≡ true → (i : ℕ) → i < suc j → numbered_at N i ≡ true
    more_numbers h i l = ⊎_elim (λ e. ap (numbered_at N) e ∙ h) (λ m. s.numbers i m) (upto j i l)

    still_shown : moves (kind j) ≡ false → Still j (code j) (joint j) (link (j + 1)) m.moving next ps → Shown product next (suc j)
    still_shown e p =
        let axis : (moves (kind j) ≡ true → unit_vector (joint j).axis ≡ true) = (λ m. absurd (false≢true (sym e ∙ m))) in
        record {
          numbers = more_numbers (still_numbered N j e p.number);
          taken = λ n. still_taken N j e n ∙ s.taken n;
          posed = λ n l. rw (still_kind N j e kind n) (s.posed n l);
          links = λ f. more_links zero next j s p.sound p.parent axis f;
          joints = λ f. more_joints zero next j s p.sound p.parent axis f;
        }

    moved_shown : moves (kind j) ≡ true → Moving j (code j) (joint j) (link (j + 1)) m.moving next ps → Shown product (next + 1) (suc j)
    moved_shown e p =
        let free = s.taken (joint j).number ∙ le-ltb (joint j).number next (omega (arith, p.number)) in
        record {
          numbers = more_numbers (moved_numbered N j e p.inside free);
          taken = moved_taken N j e next p.number s.taken;
          posed = posed;
          links = λ f. more_links zero next j s p.sound p.parent (λ _. p.axis) f;
          joints = λ f. more_joints zero next j s p.sound p.parent (λ _. p.axis) f;
        }
      where
        posed : (n : ℕ) → n < next + 1 → pose_checked (kind_of_number N kind (suc j) n) (get_or ps n no_pose) ≡ Ok tt
        posed n l =
            ⊎_elim
            (λ m. rw (other_kind N j e kind n (λ q. let r : (joint j).number ≡ next = p.number in omega arith)) (s.posed n m))
            (λ m.
            let q : n ≡ next = omega arith in
            rw (own_kind N j e kind n (p.number ∙ sym q), q) p.entry)
            (lt_or_ge n next)

    more_shown : stays_in j (code j) (joint j) m.moving ≡ true → joint_passes (code j) (joint j) (link (j + 1)) next ps ≡ true → Shown product (next_after (code j) next) (suc j)
    unfolding next_after
    more_shown k p =
        ⊎_elim
        (λ e. rw e (still_shown (kind_moves (code j) ∙ ap not e) (still j (code j) (joint j) (link (j + 1)) m.moving next ps k p e)))
        (λ e. rw e (moved_shown (kind_moves (code j) ∙ ap not e) (moved j (code j) (joint j) (link (j + 1)) m.moving next ps k p e)))
        (by_bool (eqb (code j) 0))

  pub walked_turn :
      (good passes : Bool) (zero zero' zero'' : Vector3) (next next' j : ℕ)
      → Walked good zero next j
      → stays_in j (code j) (joint j) m.moving ≡ true
      → passes ≡ joint_passes (code j) (joint j) (link (j + 1)) next ps
      → next' ≡ next_after (code j) next
      → zero' ≡ times_link zero (link (j + 1))
      → zero'' ≡ times_joint zero' (joint j)
      → Walked (good && passes) zero'' next' (j + 1)
  walked_turn good passes zero zero' zero'' next next' j w k p n z h =
      rw (add-one, h, z, n)
      (record {
        most = omega (arith, w.most, next_most (code j) next);
        shown = λ g. more_shown zero next j (w.shown (and_left good passes g)) k (sym p ∙ and_right good passes g);
      })

  -- past all joints
  module _ (zero : Vector3) (next j : ℕ) (s : Shown zero next j) (e : j ≡ m.count - 1) (c : counts_fit m.count m.moving ≡ true) (o : next ≡ m.moving) where
    all_held : (n : ℕ) → n < m.moving → taken N (m.count - 1) n ≡ true
    all_held n l = ap (λ (i : ℕ). taken N i n) (sym e) ∙ s.taken n ∙ lt-ltb n next (omega arith)

    model_good : Finite zero → good_model view ≡ true
    unfolding good_model numbered
    model_good f =
        let k = counts m.count m.moving c in
        and_both _ _ c
        (and_both _ _ (all_if m.count (λ l. good_link (link l)) (λ l q. s.links f l (omega (arith, k.some))))
        (and_both _ _ (all_if (m.count - 1) (λ i. good_joint i (code i) (joint i)) (λ i q. s.joints f i (omega arith)))
        (and_both _ _ (all_if (m.count - 1) (numbered_at N) (λ i q. s.numbers i (omega arith))) (all_if m.moving (taken N (m.count - 1)) all_held))))

    all_posed : (n : ℕ) → n < m.moving → pose_checked (kind_of_number N kind (m.count - 1) n) (get_or ps n no_pose) ≡ Ok tt
    all_posed n l = ap (λ (i : ℕ). pose_checked (kind_of_number N kind i n) (get_or ps n no_pose)) (sym e) ∙ s.posed n (omega arith)

    positions_good : positions_checked N kind ps m.moving ≡ Ok tt
    unfolding positions_checked
    positions_good = rw (eq-eqb m.moving m.moving refl) (first_good _ m.moving all_posed)

  pub walked_end :
      (good : Bool) (zero : Vector3) (next j : ℕ)
      → Walked good zero next j
      → j ≡ m.count - 1
      → counts_fit m.count m.moving ≡ true
      → good ≡ true
      → all_finite (vector_numbers zero) ≡ true
      → next ≡ m.moving
      → Passed m ps
  walked_end good zero next j w e c g f o =
      let s = w.shown g in
      record { model = model_good zero next j s e c o f; positions = positions_good zero next j s e c o }
