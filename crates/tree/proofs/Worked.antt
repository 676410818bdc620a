-- The definition computes: a tree of four joints, each total written down as the list of what it adds, in order.
use Prim.Native.Nat.{ℕ, ◌+◌}
use mathlib.Core.Path.{◌≡◌, refl}
use mathlib.Core.List.{List, [], ◌∷◌, ◌++◌}
use lib.ListN.{get_or}
use Rattle.tree.specs.Tree.{climb, value_at, total, total_of, root_sum, Kernel, in_of}

-- joints 0 and 1 at the root, 2 and 3 on joint 0; link l's start is 10 + l, and joint j's link adds j, its depth beside it
abbrev four : Kernel ℕ (List ℕ)
four =
    record {
      count = 4;
      parent = λ j. get_or (0 ∷ 0 ∷ 1 ∷ 1 ∷ []) j 0;
      root = 0;
      step = λ j s. s + 1;
      start = λ l. (10 + l) ∷ [];
      own = λ j s. j ∷ s ∷ [];
      carry = λ j w. w;
      plus = ◌++◌;
    }

-- link 1: its start, then joint 3's total, joint 2's, and its own
pub total_of_joint_0 : total_of (in_of four) 0 ≡ 11 ∷ 14 ∷ 3 ∷ 2 ∷ 13 ∷ 2 ∷ 2 ∷ 0 ∷ 1 ∷ []
unfolding total_of total value_at climb
total_of_joint_0 = refl

-- the root: its start, then joint 1's total, and joint 0's
pub root_of_four : root_sum (in_of four) ≡ 10 ∷ 12 ∷ 1 ∷ 1 ∷ 11 ∷ 14 ∷ 3 ∷ 2 ∷ 13 ∷ 2 ∷ 2 ∷ 0 ∷ 1 ∷ []
unfolding root_sum total_of total value_at climb
root_of_four = refl
