-- A tree of links, for any value at a link and any sum: joint j leads to link suc j, and link 0 is the root.
use Rattle.std.specs.Prelude.{ℕ, zero, suc, List, [], ◌∷◌, Bool, true, false, eqb}

-- ---- outward: what a link has from its parent

pub record Outward (S : Type 0) : Type 0 where
  pub parent : ℕ → ℕ
  pub root : S
  pub step : ℕ → S → S

-- The value at a link: the root's, or what its joint makes of the value at its parent link. The first number bounds the climb.
unfoldable pub climb : {S : Type 0} → Outward S → ℕ → ℕ → S
climb t zero l = t.root
climb t (suc f) zero = t.root
climb t (suc f) (suc j) = t.step j (climb t f (t.parent j))

-- A parent's number is below its child's, so a link's own number bounds the climb from it.
unfoldable pub value_at : {S : Type 0} → Outward S → ℕ → S
value_at t l = climb t l l

-- ---- inward: what a link has from its children

pub record Inward (W : Type 0) : Type 0 where
  pub count : ℕ
  pub parent : ℕ → ℕ
  -- what the sum at a link starts from
  pub start : ℕ → W
  -- what joint j's link adds last
  pub own : ℕ → W
  -- joint j's total, seen from its parent link
  pub carry : ℕ → W → W
  pub plus : W → W → W

-- k, k + 1, .. , d numbers
abbrev pub from : ℕ → ℕ → List ℕ
from k zero = []
from k (suc d) = k ∷ from (suc k) d

-- one joint's total, added where the joint is a child
abbrev pub joined : {W : Type 0} → Inward W → (ℕ → W) → ℕ → Bool → W → W
joined t totals c true sum = t.plus sum (t.carry c (totals c))
joined t totals c false sum = sum

-- the sum at link l: its start, then the totals of those of the joints listed that are its children, the list's last first
abbrev pub gathered : {W : Type 0} → Inward W → (ℕ → W) → ℕ → List ℕ → W
gathered t totals l [] = t.start l
gathered t totals l (c ∷ cs) = joined t totals c (eqb (t.parent c) l) (gathered t totals l cs)

-- The total of joint j's link: the sum with all its children in falling joint number, then its own. The first number bounds the depth.
unfoldable pub total : {W : Type 0} → Inward W → ℕ → ℕ → W
total t zero j = t.start (suc j)
total t (suc f) j = t.plus (gathered t (total t f) (suc j) (from 0 t.count)) (t.own j)

-- there are no more levels than joints
unfoldable pub total_of : {W : Type 0} → Inward W → ℕ → W
total_of t j = total t t.count j

-- the root's sum
unfoldable pub root_sum : {W : Type 0} → Inward W → W
root_sum t = gathered t (total_of t) 0 (from 0 t.count)

-- ---- both together

-- what a link adds last goes by the value at it
pub record Kernel (S W : Type 0) : Type 0 where
  -- joints
  pub count : ℕ
  pub parent : ℕ → ℕ
  pub root : S
  pub step : ℕ → S → S
  pub start : ℕ → W
  pub own : ℕ → S → W
  pub carry : ℕ → W → W
  pub plus : W → W → W

abbrev pub out_of : {S W : Type 0} → Kernel S W → Outward S
out_of t = record { parent = t.parent; root = t.root; step = t.step }

abbrev pub in_of : {S W : Type 0} → Kernel S W → Inward W
in_of t =
    record {
      count = t.count;
      parent = t.parent;
      start = t.start;
      own = λ j. t.own j (value_at (out_of t) (suc j));
      carry = t.carry;
      plus = t.plus;
    }
