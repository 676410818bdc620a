use Prim.Native.Nat.{ℕ, ◌+◌, ◌/◌, ◌%◌}
use mathlib.Core.Path.{◌≡◌, refl}
use mathlib.Core.List.{List, [], ◌∷◌}
use Rattle.wire.specs.Big.{bytes16}
use Rattle.wire.specs.Placed.{placed}
use Rattle.wire.proofs.PlacedLaws.{placed_then}
use Rattle.wire.proofs.write.put_u16.Goals as goal

both : (n : ℕ) (s t u : List ℕ) (i high low : ℕ) → high ≡ n / 256 % 256 → low ≡ n % 256 → t ≡ placed s i (high ∷ []) → u ≡ placed t (i + 1) (low ∷ [])
    → u ≡ placed s i (bytes16 n)
unfolding bytes16
both n s t u i high low e d p q = rw (← e, ← d) (placed_then s t u i (i + 1) (high ∷ []) (low ∷ []) p q refl)

pub returns : goal.returns
returns c = both c.args.n _ _ _ _ _ _ c.low_byte-high.ensures c.low_byte-low.ensures c.put_u8.ensures c.put_u8-2.ensures
