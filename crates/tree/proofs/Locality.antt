-- Locality: a kernel's total at a joint depends only on the joints on its way to the root, and on those that hang on it with their links.
use Prim.Native.Nat.{ℕ, suc, ◌+◌, ◌≤◌, ◌<◌}
use native.Mathlib.Omega.{arith}
use mathlib.Core.Logic.{◌⊎◌, inl, inr, ⊎_elim}
use mathlib.Core.Path.{◌≡◌, ap, ◌∙◌}
use Rattle.tree.specs.Tree.{value_at, total_of, Kernel, out_of, in_of}
use Rattle.tree.specs.Ways.{Above, here, Beyond}
use Rattle.tree.proofs.SweepLaws.{total_enough}
use Rattle.tree.proofs.WayLaws.{ordered, low, carried}
use Rattle.tree.proofs.LocalLaws.{SameOut, climb_local, total_local}

-- joint c is in both, and it and its link are the same
pub record SameAt {S W : Type 0} (t u : Kernel S W) (c : ℕ) : Type 0 where
  pub first : c < t.count
  pub second : c < u.count
  pub parent : t.parent c ≡ u.parent c
  pub step : (s : S) → t.step c s ≡ u.step c s
  pub start : t.start (suc c) ≡ u.start (suc c)
  pub own : (s : S) → t.own c s ≡ u.own c s
  pub carry : (w : W) → t.carry c w ≡ u.carry c w

-- The two may have unlike numbers of joints. On the way only the joints need be the same, not what their links add.
module _ {S W : Type 0} (t u : Kernel S W) (root : t.root ≡ u.root) (plus : (x y : W) → t.plus x y ≡ u.plus x y)
    (tree : (j : ℕ) → j < t.count → t.parent j ≤ j) (tree' : (j : ℕ) → j < u.count → u.parent j ≤ j) (j : ℕ) (b : j < t.count)
    (way : (c : ℕ) → Above t.parent (suc j) c → SameOut (out_of t) (out_of u) c)
    (beyond : (c : ℕ) → Beyond t.count t.parent j c ⊎ Beyond u.count u.parent j c → SameAt t u c) where
  -- what is beyond j in the second is beyond it in the first
  hung : (c : ℕ) → Beyond t.count t.parent j c ⊎ Beyond u.count u.parent j c → Above t.parent (suc c) j
  hung c (inl a) = a.1
  hung c (inr a) = carried t.parent u.parent u.count tree' j (λ x q w. (beyond x (inr (q, w))).parent) a.0 a.1

  value_same : (c : ℕ) → c < t.count → Above t.parent (suc c) j → value_at (out_of t) (suc c) ≡ value_at (out_of u) (suc c)
  unfolding value_at
  value_same c h a = climb_local (out_of t) (out_of u) root (suc c) (suc c) (λ i q. ⊎_elim (out i q) (way i) (ordered q a))
    where
      out : (i : ℕ) → Above t.parent (suc c) i → Above t.parent (suc i) j → SameOut (out_of t) (out_of u) i
      out i q v =
          let k : i < suc c = low t.parent t.count tree h q in
          let s : SameAt t u i = beyond i (inl (omega arith, v)) in
          record { parent = s.parent; step = s.step }

  pub local : total_of (in_of t) j ≡ total_of (in_of u) j
  unfolding total_of
  local =
      let b' : j < u.count = (beyond j (inl (b, here))).second in
      total_enough (in_of t) tree t.count (t.count + u.count) j b (omega arith) (omega arith)
      ∙ total_local (in_of t) (in_of u) plus (t.count + u.count) j b
      (λ c a.
      let v : SameAt t u c = beyond c a in
      record {
        first = v.first;
        second = v.second;
        parent = v.parent;
        start = v.start;
        own = v.own (value_at (out_of t) (suc c)) ∙ ap (u.own c) (value_same c v.first (hung c a));
        carry = v.carry;
      })
      ∙ total_enough (in_of u) tree' (t.count + u.count) u.count j b' (omega arith) (omega arith)
