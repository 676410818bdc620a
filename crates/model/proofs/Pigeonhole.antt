-- m numbers with a place of their own each among k have room: m is at most k.
use Prim.Native.Nat.{ℕ, zero, suc, ◌<◌, ◌≤◌}
use mathlib.Core.Path.{◌≡◌, sym, ◌∙◌}
use native.Mathlib.Decide.{ℕ_discrete}
use native.Mathlib.Omega.{arith}

-- x, or y where x is k
abbrev swap : {k : ℕ} (x y : ℕ) → Dec (x ≡ k) → ℕ
swap x y (yes e) = y
swap x y (no n) = x

module _ (k x y : ℕ) (lx : x < suc k) (ly : y < suc k) (apart : x ≡ k → y ≡ k → ⊥) where
  swap_small : (d : Dec (x ≡ k)) → swap x y d < k
  swap_small (yes e) = let n : (y ≡ k → ⊥) = apart e in omega arith
  swap_small (no n) = let z : (x ≡ k → ⊥) = n in omega arith

swap_same : (k x x' y : ℕ) (d : Dec (x ≡ k)) (d' : Dec (x' ≡ k)) → (x ≡ y → ⊥) → (x' ≡ y → ⊥) → swap x y d ≡ swap x' y d' → x ≡ x'
swap_same k x x' y (yes e) (yes e') n n' q = e ∙ sym e'
swap_same k x x' y (yes e) (no d') n n' q = absurd (n' (sym q))
swap_same k x x' y (no d) (yes e') n n' q = absurd (n q)
swap_same k x x' y (no d) (no d') n n' q = q

pub pigeonhole : (k m : ℕ) (f : (n : ℕ) → n < m → ℕ) → ((n : ℕ) (h : n < m) → f n h < k) → ((a b : ℕ) (p : a < m) (q : b < m) → f a p ≡ f b q → a ≡ b) → m ≤ k
pigeonhole zero zero f small once = omega arith
pigeonhole zero (suc m) f small once = absurd (let h : f 0 (omega arith) < 0 = small 0 (omega arith) in omega arith)
pigeonhole (suc k) zero f small once = omega arith
pigeonhole (suc k) (suc m) f small once =
    let r : m ≤ k = pigeonhole k m g g_small g_once in omega arith
  where
    end : m < suc m
    end = omega arith

    last : ℕ
    last = f m end

    up : (n : ℕ) → n < m → n < suc m
    up n h = omega arith

    other : (n : ℕ) (h : n < m) → f n (up n h) ≡ last → ⊥
    other n h e = let q : n ≡ m = once n m (up n h) end e in omega arith

    g : (n : ℕ) → n < m → ℕ
    g n h = swap (f n (up n h)) last (ℕ_discrete (f n (up n h)) k)

    g_small : (n : ℕ) (h : n < m) → g n h < k
    g_small n h =
        swap_small k (f n (up n h)) last (small n (up n h)) (small m end) (λ e e'. other n h (e ∙ sym e')) (ℕ_discrete (f n (up n h)) k)

    g_once : (a b : ℕ) (p : a < m) (q : b < m) → g a p ≡ g b q → a ≡ b
    g_once a b p q e =
        once a b (up a p) (up b q)
        (swap_same k (f a (up a p)) (f b (up b q)) last (ℕ_discrete (f a (up a p)) k) (ℕ_discrete (f b (up b q)) k) (other a p) (other b q) e)
