-- The front of a call's record, written part after part.
use Prim.Native.Nat.{ℕ}
use mathlib.Core.Path.{◌≡◌, refl}
use mathlib.Core.List.{List}
use lib.Ieee.{Float}
use Rattle.model.specs.Bases.{base_numbers}
use Rattle.model.specs.declared.BaseState.{BaseState}
use Rattle.model.specs.declared.RootMode.{RootMode}
use Rattle.outcome.specs.declared.Function.{Function}
use Rattle.records.specs.Places.{call_length}
use Rattle.wire.specs.Big.{bytes16, bytes32, bytes64, float_bytes}
use Rattle.wire.specs.Placed.{placed}
use Rattle.wire.proofs.PlacedLaws.{placed_then}
use Rattle.encode.specs.Calls.{function_code, mode_code, call_start, call_head}

pub head_placed : (f : Function) (mode : RootMode) (base : BaseState) (m k : ℕ) (s t u v w : List ℕ) (fc mc : ℕ) (xs : List Float) → fc ≡ function_code f → mc ≡ mode_code mode
    → xs ≡ base_numbers base → t ≡ placed s 0 (call_start (call_length m k) fc mc) → u ≡ placed t 8 (float_bytes xs) → v ≡ placed u 160 (bytes16 m) → w ≡ placed v 162 (bytes16 k)
    → w ≡ placed s 0 (call_head f mode base m k)
unfolding call_head call_start float_bytes bytes64 bytes32 bytes16
head_placed f mode base m k s t u v w fc mc xs e d b p q r z =
    placed_then s v w 0 162 _ (bytes16 k) (placed_then s u v 0 160 _ (bytes16 m) (placed_then s t u 0 8 _ (float_bytes (base_numbers base)) (rw (e, d) at p) (rw b at q) refl) r refl) z refl
