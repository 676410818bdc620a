-- What a kernel writes, as the list that the definition gives.
use Prim.Native.Nat.{ℕ, ◌+◌, ◌<◌}
use mathlib.Core.List.{List, [], ◌++◌}
use mathlib.Core.Path.{◌≡◌, sym, ap, ◌∙◌}
use native.Mathlib.Omega.{arith}
use lib.ListN.{length, get_or, take, drop, length-drop, take-append-drop}
use lib.Seq.{ext_get_or}
use lib.Ieee.{Float, nan}
use Rattle.spatial.specs.declared.Wrench.{Wrench}
use Rattle.tree.specs.Tree.{Kernel}
use Rattle.model.specs.Numbers.{Numbering, Numbered, holder_of}
use Rattle.model.specs.View.{moves}
use Rattle.model.proofs.NumberedLaws.{holder_holds}
use Rattle.dynamics.specs.Run.{Run, joint_count}
use Rattle.dynamics.specs.Figures.{figure_of, Written}
use Rattle.dynamics.specs.Run.{Fit}
use Rattle.dynamics.specs.Runs.{run_of}
use Rattle.dynamics.specs.Output.{Floating}
use Rattle.spatial.specs.declared.Quaternion.{Quaternion}
use Rattle.model.specs.Tables.{view_of}
use Rattle.model.specs.declared.Model.{Model}
use Rattle.model.specs.declared.Pose.{Pose}
use Rattle.model.specs.Good.{GoodModel}
use Rattle.model.specs.declared.RootMode.TheVariants.{Fixed, Floating as FloatingMode}
use Rattle.model.proofs.GoodLaws.{parent_first, number_below, number_apart}
use Rattle.spatial.specs.Listed.{list_of}
use Rattle.spatial.proofs.ListedLaws.{length_list_of, listed_at}
use Rattle.outcome.specs.Solved.{solved_list}

pub get_or_list_of : (n : ℕ) (f : ℕ → Float) (i : ℕ) → i < n → get_or (list_of n f) i nan ≡ f i
get_or_list_of n f i = listed_at n f i nan

-- the numbering of a run's joints, for m numbers
abbrev pub numbers_of : Run → ℕ → Numbering
numbers_of t m = record { count = joint_count t; moving = m; moves = λ j. moves (t.joint j).kind; number = λ j. (t.joint j).number }

-- every place is written, so the output is the list of figures by number
pub written_list : {S : Type 0} (t : Run) (k : Kernel S Wrench) (m : ℕ) → Numbered (numbers_of t m) → (out : List Float) → length out ≡ m → Written t k out → out ≡ list_of m (λ n. figure_of t k (holder_of (numbers_of t m) (joint_count t) n))
written_list t k m g out e w =
    ext_get_or nan out (list_of m (λ n. figure_of t k (holder_of (numbers_of t m) (joint_count t) n))) (e ∙ sym (length_list_of m _))
    (λ i l.
    let h = holder_holds (numbers_of t m) g i (omega (arith, l, e)) in
    ap (λ (x : ℕ). get_or out x nan) (sym h.number)
    ∙ w (holder_of (numbers_of t m) (joint_count t) i) h.inside h.moving
    ∙ sym (get_or_list_of m (λ n. figure_of t k (holder_of (numbers_of t m) (joint_count t) n)) i (omega (arith, l, e))))

-- the first six places, and the rest
pub split_list : (out six rest : List Float) → take 6 out ≡ six → drop 6 out ≡ rest → out ≡ six ++ rest
split_list out six rest e f = sym (take-append-drop 6 out) ∙ ap (λ (x : List Float). x ++ drop 6 out) e ∙ ap (λ (x : List Float). six ++ x) f

-- what a good model gives a kernel over it
pub fit_good : (m : Model) (ps : List Pose) (speeds accelerations : List Float) (loads : List Wrench) → GoodModel (view_of m) → Fit (run_of m ps speeds accelerations loads) m.moving
fit_good m ps speeds accelerations loads g =
    let t = view_of m in
    record {
      some = g.some;
      few = g.few;
      tree = parent_first t g;
      inside = number_below t g;
      apart = number_apart t g;
    }

pub fit_as_long : (m : Model) → GoodModel (view_of m) → (n : ℕ) → n ≡ m.moving → Fit (run_of m [] [] [] []) n
fit_as_long m g n e = rw e (fit_good m [] [] [] [] g)

module _ {S : Type 0} (m : Model) (ps : List Pose) (loads : List Wrench) (g : GoodModel (view_of m)) (k : Kernel S Wrench) (base : Quaternion) (out : List Float) where
  abbrev run : Run
  run = run_of m ps [] [] loads

  pub fixed_list : length out ≡ m.moving → Written run k out → out ≡ solved_list Fixed base m run k
  fixed_list e w = written_list run k m.moving g.numbers out e w

  pub floating_list : length out ≡ 6 + m.moving → Floating run k base out → out ≡ solved_list FloatingMode base m run k
  floating_list e w = split_list out _ _ w.0 (written_list run k m.moving g.numbers (drop 6 out) (length-drop 6 out ∙ (let d : length out ≡ 6 + m.moving = e in omega arith)) w.1)
