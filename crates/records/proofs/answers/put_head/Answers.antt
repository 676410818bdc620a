use Prim.Native.Nat.{ℕ, ◌+◌, ◌*◌}
use mathlib.Core.Path.{◌≡◌, refl}
use mathlib.Core.List.{List, [], ◌∷◌}
use Rattle.wire.specs.Big.{bytes16, bytes32}
use Rattle.wire.specs.Placed.{placed}
use Rattle.wire.proofs.PlacedLaws.{placed_then}
use Rattle.records.specs.Answers.{head_bytes}
use Rattle.records.proofs.answers.put_head.Goals as goal

heads : (number n : ℕ) (s a b d e f : List ℕ) → a ≡ placed s 0 (bytes32 (5 + 8 * n)) → b ≡ placed a 4 (1 ∷ []) → d ≡ placed b 5 (3 ∷ [])
    → e ≡ placed d 6 (number ∷ []) → f ≡ placed e 7 (bytes16 n) → f ≡ placed s 0 (head_bytes number n)
unfolding head_bytes bytes32 bytes16
heads number n s a b d e f p q r t u =
    let one = placed_then s a b 0 4 _ _ p q refl in
    let two = placed_then s b d 0 5 _ _ one r refl in
    let three = placed_then s d e 0 6 _ _ two t refl in
    placed_then s e f 0 7 _ _ three u refl

pub returns : goal.returns
returns c = heads _ _ _ _ _ _ _ _ c.put_u32.ensures c.put_u8.ensures c.put_u8-2.ensures c.put_u8-3.ensures c.put_u16.ensures
