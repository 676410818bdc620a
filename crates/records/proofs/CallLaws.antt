-- The call that is asked is the one that the bytes mean.
use Prim.Native.Nat.{ℕ, zero, suc, ◌+◌, ◌-◌, ◌*◌, ◌≤◌}
use mathlib.Core.Path.{◌≡◌, refl, ap, sym}
use mathlib.Core.List.{List, ◌∷◌}
use native.Mathlib.Omega.{arith}
use native.Mathlib.Nat.{le_of_suc-le-suc, not-suc-le-zero}
use lib.ListN.{length, get_or, take, replicate, length-replicate}
use lib.Ieee.{Float}
use Rattle.spatial.specs.Constants.{plus_zero}
use Rattle.outcome.specs.Outcome.{outcome}
use Rattle.outcome.specs.Refusal.{output_length}
use Rattle.outcome.specs.declared.Function.{Function}
use Rattle.outcome.specs.declared.Function.TheVariants.{InverseDynamics, Gravity, VelocityProduct}
use Rattle.records.specs.declared.shape.CallShape.{CallShape}
use Rattle.records.specs.Places.{link_count, moving, call_place, load_count}
use Rattle.records.specs.Models.{model_in}
use Rattle.records.specs.Calls.{mode_of, function_of, call_with, call_in}
use Rattle.records.specs.Reply.{answer_from, answer_to}

-- ---- zeros lent for the figures

take_zeros : (n size : ℕ) → n ≤ size → take n (replicate size plus_zero) ≡ replicate n plus_zero
take_zeros zero size h = refl
take_zeros (suc n) zero h = absurd (not-suc-le-zero h)
take_zeros (suc n) (suc size) h = ap (λ (xs : List Float). plus_zero ∷ xs) (take_zeros n size (le_of_suc-le-suc h))

pub zeros_lent : (n size : ℕ) (xs : List Float) → xs ≡ replicate size plus_zero → n ≤ size → take n xs ≡ replicate n plus_zero
zeros_lent n size xs e h = rw e (take_zeros n size h)

pub length_zeros : (n size : ℕ) (xs : List Float) → xs ≡ replicate size plus_zero → n ≤ size → n ≡ length (take n xs)
length_zeros n size xs e h = rw (zeros_lent n size xs e h) (sym (length-replicate n plus_zero))

pub to_zeros : (s : List ℕ) (f : Function) (c m k n : ℕ) (xs : List Float) → m ≡ moving s → n ≡ output_length (mode_of (get_or s (c + 7) 0)) m
    → xs ≡ replicate n plus_zero → answer_from (outcome (call_with s f c m k) xs) ≡ answer_to (call_with s f c m k)
unfolding answer_to call_with model_in
to_zeros s InverseDynamics c m k n xs e d q = rw (q, d, e) refl
to_zeros s Gravity c m k n xs e d q = rw (q, d, e) refl
to_zeros s VelocityProduct c m k n xs e d q = rw (q, d, e) refl

-- ---- places and counts as they are read

pub call_is : (s : List ℕ) (call : CallShape) → call ≡ record { place = call_place (link_count s); moving = moving s; loads = load_count s (call_place (link_count s)) }
    → call_with s (function_of (get_or s (call.place + 6) 0)) call.place call.moving call.loads ≡ call_in s
unfolding call_in
call_is s call e = rw e refl

pub place : (n : ℕ) → 10 + 104 * n + 85 * (n - 1) ≡ call_place n
place n = omega arith
