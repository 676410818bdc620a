-- Parts of one width, one after another: how long they are, and how a loop writes them.
use Prim.Native.Nat.{ℕ, zero, suc, ◌+◌, ◌*◌, ◌<◌}
use mathlib.Core.Path.{◌≡◌, refl, ap, ◌∙◌}
use mathlib.Core.List.{List}
use native.Mathlib.Numerals.{add-one}
use native.Mathlib.Omega.{arith}
use native.Mathlib.Nat.{mul-suc}
use lib.ListN.{length, length-append}
use Rattle.wire.specs.Placed.{placed}
use Rattle.wire.proofs.PlacedLaws.{placed_then, length_placed}
use Rattle.encode.specs.Joined.{joined}

pub length_joined : (n w : ℕ) (f : ℕ → List ℕ) → ((i : ℕ) → i < n → length (f i) ≡ w) → length (joined n f) ≡ w * n
unfolding joined
length_joined zero w f h = omega arith
length_joined (suc n) w f h =
    length-append (joined n f) (f n) ∙ omega (arith, h n (omega arith), length_joined n w f (λ i l. h i (omega arith)), mul-suc w n)

-- a loop that writes one part after another: its start, and a turn
pub joined_start : (s : List ℕ) (at : ℕ) (f : ℕ → List ℕ) → s ≡ placed s at (joined 0 f)
unfolding joined placed
joined_start s at f = refl

pub joined_turn : (s t u : List ℕ) (at n w : ℕ) (f : ℕ → List ℕ) → ((i : ℕ) → i < n → length (f i) ≡ w)
    → (length t ≡ length s) × (t ≡ placed s at (joined n f)) → u ≡ placed t (at + w * n) (f n)
    → (length u ≡ length s) × (u ≡ placed s at (joined (n + 1) f))
unfolding joined
joined_turn s t u at n w f h (k, p) q = (
  ap length q ∙ length_placed t (at + w * n) (f n) ∙ k,
  rw add-one (placed_then s t u at (at + w * n) (joined n f) (f n) p q (ap (λ (i : ℕ). at + i) (length_joined n w f h))),
)
