-- The turns of the two sweeps, over plain lists, for any value at a link.
use Prim.Native.Nat.{ℕ, zero, suc, ◌+◌, ◌≤◌, ◌<◌}
use native.Mathlib.Omega.{arith}
use native.Mathlib.Decide.{ℕ_discrete}
use mathlib.Core.List.{List, []}
use mathlib.Core.Bool.{Bool, true, false}
use mathlib.Core.Path.{◌≡◌, refl, sym, ap, ◌∙◌}
use lib.ListN.{get_or, set, length}
use lib.Seq.{get_or-set_same, get_or-set_other}
use lib.Ieee.{Float, nan}
use Rattle.spatial.specs.Wrenches.{wrench_sum, wrench_to_parent}
use Rattle.spatial.specs.declared.Frame.{Frame}
use Rattle.spatial.specs.declared.Wrench.{Wrench}
use Rattle.tree.specs.Tree.{Outward, Inward, climb, value_at, total_of, in_of}
use Rattle.tree.proofs.SweepLaws.{values_first, values_next, sum_from, sum_end, total_now, sums_next, sum_from_root}
use Rattle.tree.proofs.LocalLaws.{SameIn, totals_same, root_same}
use Rattle.model.specs.View.{moves}
use Rattle.model.specs.declared.Joint.{Joint}
use Rattle.model.specs.declared.Model.{Model}
use Rattle.model.specs.declared.Pose.{Pose}
use Rattle.model.specs.Poses.{no_pose}
use Rattle.model.specs.Tables.{joint_at}
use Rattle.dynamics.specs.Frames.{joint_frame}
use Rattle.dynamics.specs.Run.{Run, joint_count, Moves, frame_of, Fit}
use Rattle.dynamics.specs.Figures.{start_of, kernel_of, figure, figure_of, root_of}
use Rattle.spatial.specs.Past.{no_wrench}
use Rattle.dynamics.specs.Runs.{run_of}
use Rattle.dynamics.specs.Output.{placed, put_of, Done}
use Rattle.spatial.specs.Past.{no_frame}
use Rattle.sweeps.specs.Swept.{Swept, steps_of}

-- ---- a joint at hand, known to be the run's

module _ (t : Run) (m : ℕ) (fit : Fit t m) (j : ℕ) (joint : Joint) (e : joint ≡ t.joint j) (h : j < joint_count t) where
  pub number_fits : moves joint.kind ≡ true → joint.number < m
  number_fits b = rw e (fit.inside j h (rw e at b))

-- the lists are no part of what a run's tree needs
pub fit_listed : (m : Model) (n : ℕ) (ps : List Pose) (loads : List Wrench) → Fit (run_of m [] [] [] []) n → Fit (run_of m ps [] [] loads) n
fit_listed m n ps loads f = record { some = f.some; few = f.few; tree = f.tree; inside = f.inside; apart = f.apart }

pub frame_is :
    (m : Model) (ps : List Pose) (j : ℕ) (joint : Joint) (f : Frame)
    → joint ≡ joint_at m j
    → f ≡ joint_frame joint.kind joint.origin joint.axis (get_or ps joint.number no_pose)
    → f ≡ frame_of (run_of m ps [] [] []) j
unfolding frame_of
frame_is m ps j joint f e p = p ∙ ap (λ (x : Joint). joint_frame x.kind x.origin x.axis (get_or ps x.number no_pose)) e

-- ---- outward

-- a list is filled from the front by a rule
fill_next : {X : Type 0} (f : ℕ → X) (z : X) (xs : List X) (i : ℕ) (x : X) → i < length xs → ((k : ℕ) → k < i → get_or xs k z ≡ f k) → x ≡ f i → (k : ℕ) → k < i + 1 → get_or (set xs i x) k z ≡ f k
fill_next f z xs i x h inv e k p = go (ℕ_discrete k i)
  where
    go : Dec (k ≡ i) → get_or (set xs i x) k z ≡ f k
    go (yes q) = rw (q, get_or-set_same xs i x z h) e
    go (no q) = get_or-set_other xs i k x z q ∙ inv k (let n : (k ≡ i → ⊥) = q in omega arith)

module _ {S : Type 0} (t : Run) (root : S) (step : ℕ → S → S) (z : S) where
  abbrev out : Outward S
  out = record { parent = λ i. (t.joint i).parent; root = root; step = step }

  pub swept_first : (frames : List Frame) (values : List S) → get_or values 0 z ≡ root → Swept t root step z frames values 0
  swept_first frames values e =
      record { framed = λ i h. absurd (omega arith); valued = values_first out z values e }

  swept_next :
      (m : ℕ) (fit : Fit t m) (frames : List Frame) (values : List S) (j : ℕ) (f : Frame) (v : S)
      → j < joint_count t
      → length frames ≡ 63
      → length values ≡ 64
      → f ≡ frame_of t j
      → v ≡ step j (get_or values (t.joint j).parent z)
      → Swept t root step z frames values j
      → Swept t root step z (set frames j f) (set values (j + 1) v) (j + 1)
  swept_next m fit frames values j f v h n n' ef ev o =
      let most : t.count ≤ 64 = fit.few in
      record {
        framed = fill_next (frame_of t) no_frame frames j f (omega arith) o.framed ef;
        valued = values_next out (joint_count t) fit.tree z values j v h (omega arith) o.valued ev;
      }

  -- a turn, with the lists that it leaves
  pub swept_turn :
      (m : ℕ) (fit : Fit t m) (frames frames' : List Frame) (values values' : List S) (j : ℕ) (f : Frame) (v : S)
      → j < joint_count t
      → length frames ≡ 63
      → length values ≡ 64
      → frames' ≡ set frames j f
      → values' ≡ set values (j + 1) v
      → f ≡ frame_of t j
      → v ≡ step j (get_or values (t.joint j).parent z)
      → Swept t root step z frames values j
      → Swept t root step z frames' values' (j + 1)
  swept_turn m fit frames frames' values values' j f v h n n' es es' ef ev o = rw (es, es') (swept_next m fit frames values j f v h n n' ef ev o)

-- the value at the root
pub root_value : {S : Type 0} (t : Run) (root : S) (step : ℕ → S → S) (z : S) (frames : List Frame) (values : List S) (j : ℕ) → Swept t root step z frames values j → get_or values 0 z ≡ root
unfolding value_at climb
root_value t root step z frames values j o = o.valued 0 (omega arith)

-- the loads are no part of it
pub swept_loaded : {S : Type 0} (step : Joint → Frame → S → S) (m : Model) (ps : List Pose) (xs ys : List Wrench) (root z : S) (frames : List Frame) (values : List S) (j : ℕ)
    → let before = run_of m ps [] [] xs in
    let after = run_of m ps [] [] ys in
    Swept before root (steps_of step before) z frames values j → Swept after root (steps_of step after) z frames values j
unfolding frame_of
swept_loaded step m ps xs ys root z frames values j o = record { framed = o.framed; valued = o.valued }

-- ---- inward

-- what the second sweep adds up: own wrenches by link, and the frames and the starts in lists
abbrev inward_of : ℕ → (ℕ → Joint) → List Frame → (ℕ → Wrench) → List Wrench → Inward Wrench
inward_of n joint frames own starts =
    record {
      count = n;
      parent = λ j. (joint j).parent;
      start = λ l. get_or starts l no_wrench;
      own = λ j. own (suc j);
      carry = λ j w. wrench_to_parent (get_or frames j no_frame) w;
      plus = wrench_sum;
    }

-- what holds of the sums and the output when the n joints from k on are done
pub record Inner (n : ℕ) (joint : ℕ → Joint) (frames : List Frame) (own : ℕ → Wrench) (starts : List Wrench) (sums : List Wrench) (out : List Float) (k : ℕ) : Type 0 where
  pub summed : (l : ℕ) → l ≤ k → get_or sums l no_wrench ≡ sum_from (inward_of n joint frames own starts) k l
  pub done : (j : ℕ) → k ≤ j → j < n → moves (joint j).kind ≡ true → get_or out (joint j).number nan ≡ figure (joint j).kind (total_of (inward_of n joint frames own starts) j) (joint j).axis

pub inner_first : (n : ℕ) (joint : ℕ → Joint) (frames : List Frame) (own : ℕ → Wrench) (starts : List Wrench) (out : List Float) → Inner n joint frames own starts starts out n
inner_first n joint frames own starts out =
    record { summed = λ l h. sym (sum_end (inward_of n joint frames own starts) l); done = λ j p q. absurd (omega arith) }

module _ (t : Run) (m : ℕ) (fit : Fit t m) (frames : List Frame) (own : ℕ → Wrench) (starts : List Wrench) where
  abbrev in_lists : Inward Wrench
  in_lists = inward_of (joint_count t) t.joint frames own starts

  abbrev Right : List Float → ℕ → Type 0
  Right out j = get_or out (t.joint j).number nan ≡ figure (t.joint j).kind (total_of in_lists j) (t.joint j).axis

  -- one joint's figure is written where it has a place; those of the joints after it stay
  out_next :
      (out : List Float) (j : ℕ) (w : Wrench)
      → length out ≡ m
      → j < joint_count t
      → w ≡ total_of in_lists j
      → ((i : ℕ) → suc j ≤ i → i < joint_count t → Moves t i → Right out i)
      → (i : ℕ)
      → j ≤ i
      → i < joint_count t
      → Moves t i
      → Right (put_of (t.joint j) w out) i
  out_next out j w n h e inv i q r s = go (ℕ_discrete i j)
    where
      other : (b : Bool) (x : Float) → moves (t.joint j).kind ≡ b → (i ≡ j → ⊥) → Right (placed b (t.joint j).number x out) i
      other true x b z = get_or-set_other out (t.joint j).number (t.joint i).number x nan (λ y. z (fit.apart i j r h s b y)) ∙ inv i (omega arith) r s
      other false x b z = inv i (omega arith) r s

      same : Moves t j → Right (put_of (t.joint j) w out) j
      same b = rw (b, get_or-set_same out (t.joint j).number (figure (t.joint j).kind w (t.joint j).axis) nan (rw n (fit.inside j h b)), e)

      go : Dec (i ≡ j) → Right (put_of (t.joint j) w out) i
      go (yes z) = rw z (same (rw z at s))
      go (no z) = other (moves (t.joint j).kind) (figure (t.joint j).kind w (t.joint j).axis) refl z

  abbrev Turned : ℕ → List Wrench → List Float → Type 0
  Turned k sums out = Inner (joint_count t) t.joint frames own starts sums out k

  inner_turn :
      (k j : ℕ) (sums : List Wrench) (out : List Float) (w v : Wrench)
      → length out ≡ m
      → k ≡ suc j
      → j < joint_count t
      → length sums ≡ 64
      → w ≡ wrench_sum (get_or sums k no_wrench) (own k)
      → v ≡ wrench_sum (get_or sums (t.joint j).parent no_wrench) (wrench_to_parent (get_or frames j no_frame) w)
      → Turned k sums out
      → Turned j (set sums (t.joint j).parent v) (put_of (t.joint j) w out)
  inner_turn k j sums out w v n at h n' ew ev i =
      let most : t.count ≤ 64 = fit.few in
      let tot : w ≡ total_of in_lists j = ew ∙ ap (λ (l : ℕ). wrench_sum (get_or sums k no_wrench) (own l)) at ∙ total_now in_lists fit.tree no_wrench sums k j at h i.summed in
      record {
        summed = sums_next in_lists fit.tree no_wrench sums k j at h i.summed v (omega arith) (ev ∙ ap (λ (x : Wrench). wrench_sum (get_or sums (t.joint j).parent no_wrench) (wrench_to_parent (get_or frames j no_frame) x)) tot);
        done = out_next out j w n h tot (λ y u. i.done y (omega arith));
      }

  -- a turn, with the joint at hand known to be the run's
  pub inner_next :
      (k j : ℕ) (joint : Joint) (sums sums' : List Wrench) (out out' : List Float) (w v : Wrench)
      → length out ≡ m
      → k ≡ suc j
      → j < joint_count t
      → length sums ≡ 64
      → joint ≡ t.joint j
      → w ≡ wrench_sum (get_or sums k no_wrench) (own k)
      → out' ≡ put_of joint w out
      → v ≡ wrench_sum (get_or sums joint.parent no_wrench) (wrench_to_parent (get_or frames j no_frame) w)
      → sums' ≡ set sums joint.parent v
      → Turned k sums out
      → Turned j sums' out'
  inner_next k j joint sums sums' out out' w v n at h n' ej ew eo ev es i =
      rw (es, eo, ej)
      (inner_turn k j sums out w v n at h n' ew
      (ev ∙ ap (λ (x : Joint). wrench_sum (get_or sums x.parent no_wrench) (wrench_to_parent (get_or frames j no_frame) w)) ej)
      i)

-- ---- both

-- the sums start from the loads, at the root with its own wrench added
pub begun :
    (t : Run) (own : Wrench) (loads : List Wrench) (v : Wrench)
    → ((l : ℕ) → t.load l ≡ get_or loads l no_wrench)
    → length loads ≡ 64
    → v ≡ wrench_sum (get_or loads 0 no_wrench) own
    → (l : ℕ)
    → get_or (set loads 0 v) l no_wrench ≡ start_of t own l
begun t own loads v f n e zero = get_or-set_same loads 0 v no_wrench (omega arith) ∙ e ∙ ap (λ (x : Wrench). wrench_sum x own) (sym (f 0))
begun t own loads v f n e (suc l) = get_or-set_other loads 0 (suc l) v no_wrench (λ q. let z : ◌≡◌ {A = ℕ} (suc l) 0 = q in omega arith) ∙ sym (f (suc l))

-- both sweeps are done: what they leave is the definition's
module _ {S : Type 0} (t : Run) (root : S) (step : ℕ → S → S) (own : ℕ → S → Wrench) (z : S) (frames : List Frame) (values : List S) (starts : List Wrench) where
  abbrev mine : Inward Wrench
  mine = inward_of (joint_count t) t.joint frames (λ l. own l (get_or values l z)) starts

  abbrev theirs : Inward Wrench
  theirs = in_of (kernel_of t root step own)

  module _ (j : ℕ) (all : joint_count t ≤ j) (outer : Swept t root step z frames values j) (start : (l : ℕ) → get_or starts l no_wrench ≡ start_of t (own 0 root) l) where
    same : (c : ℕ) → c < joint_count t → SameIn mine theirs c
    same c h =
        record {
          first = h;
          second = h;
          parent = refl;
          start = start (suc c);
          own = ap (own (suc c)) (outer.valued (suc c) (omega arith));
          carry = λ w. ap (λ (f : Frame). wrench_to_parent f w) (outer.framed c (omega arith));
        }

    pub summed_up :
        (sums : List Wrench) (out : List Float) (k : ℕ)
        → k ≡ 0
        → Inner (joint_count t) t.joint frames (λ l. own l (get_or values l z)) starts sums out k
        → Done t (kernel_of t root step own) (get_or sums 0 no_wrench) out
    unfolding figure_of root_of
    summed_up sums out k e i = (
      i.summed 0 (omega arith) ∙ ap (λ (n : ℕ). sum_from mine n 0) e ∙ sum_from_root mine ∙ root_same mine theirs (λ x y. refl) refl same (start 0),
      λ c h s. i.done c (omega arith) h s ∙ ap (λ (w : Wrench). figure (t.joint c).kind w (t.joint c).axis) (totals_same mine theirs (λ x y. refl) refl same c h),
    )
