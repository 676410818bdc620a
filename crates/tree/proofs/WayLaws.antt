-- Laws of the ways to the root.
use Prim.Native.Nat.{ℕ, zero, suc, ◌≤◌, ◌<◌}
use mathlib.Core.Path.{◌≡◌, refl}
use mathlib.Core.Logic.{◌⊎◌, inl, inr}
use mathlib.Core.Bool.{Bool, true, false, ◌||◌, false≢true}
use native.Mathlib.Omega.{arith}
use lib.Dec.{eqb}
use borrow.Author.Tests.{eqb-true, eq-eqb}
use Rattle.tree.specs.Ways.{Above, here, up, passes}

-- a way goes on from a joint on it
pub onward : {parent : ℕ → ℕ} {l c i : ℕ} → Above parent l c → Above parent (parent c) i → Above parent l i
onward here b = up b
onward (up a) b = up (onward a b)

-- of two joints on one way one is above the other
pub ordered : {parent : ℕ → ℕ} {l i j : ℕ} → Above parent l i → Above parent l j → Above parent (suc i) j ⊎ Above parent (suc j) i
ordered here b = inl b
ordered (up a) here = inr (up a)
ordered (up a) (up b) = ordered a b

-- a child's way passes its parent's joint
pub child : (parent : ℕ → ℕ) (c j : ℕ) → parent c ≡ suc j → Above parent (parent c) j
child parent c j e = rw e here

-- a way stays below the link that it starts from
pub low : (parent : ℕ → ℕ) (n : ℕ) → ((j : ℕ) → j < n → parent j ≤ j) → {l i : ℕ} → l ≤ n → Above parent l i → i < l
low parent n tree h (here {j}) = omega arith
low parent n tree h (up {j} {i} a) =
    let p : parent j ≤ j = tree j (omega arith) in
    let q : i < parent j = low parent n tree (omega arith) a in
    omega arith

pub passes_above : (parent : ℕ → ℕ) (f l i : ℕ) → passes parent f l i ≡ true → Above parent l i
passes_above parent zero l i e = absurd (false≢true e)
passes_above parent (suc f) zero i e = absurd (false≢true e)
passes_above parent (suc f) (suc j) i e = go (eqb j i) refl e (λ r. passes_above parent f (parent j) i r)
  where
    go : (b : Bool) → eqb j i ≡ b → (b || passes parent f (parent j) i) ≡ true → (passes parent f (parent j) i ≡ true → Above parent (parent j) i) → Above parent (suc j) i
    go true q r k = rw (eqb-true j i q) here
    go false q r k = up (k r)

or_true : (b : Bool) → (b || true) ≡ true
or_true true = refl
or_true false = refl

pub above_passes : (parent : ℕ → ℕ) (n : ℕ) → ((j : ℕ) → j < n → parent j ≤ j) → (f : ℕ) {l i : ℕ} → l ≤ f → l ≤ n → Above parent l i → passes parent f l i ≡ true
above_passes parent n tree zero p q (here {j}) = absurd (omega arith)
above_passes parent n tree zero p q (up {j} {i} a) = absurd (omega arith)
above_passes parent n tree (suc f) p q (here {j}) = rw (eq-eqb j j refl)
above_passes parent n tree (suc f) p q (up {j} {i} a) =
    let d : parent j ≤ j = tree j (omega arith) in
    rw (above_passes parent n tree f (omega arith) (omega arith) a) (or_true (eqb j i))

-- a way in one tree is one in the other, where the two agree on what hangs on j
pub carried : (p q : ℕ → ℕ) (n : ℕ) → ((j : ℕ) → j < n → q j ≤ j) → (j : ℕ) → ((x : ℕ) → x < n → Above q (suc x) j → p x ≡ q x) → {l : ℕ} → l ≤ n → Above q l j → Above p l j
carried p q n tree j h b here = here
carried p q n tree j h b (up {j = c} a) =
    let d : q c ≤ c = tree c (omega arith) in
    up {j = c} {i = j} (rw (h c (omega arith) (up a)) (carried p q n tree j h (omega arith) a))
