-- Records at 01's bounds: how long they can be, and one written out.
use Prim.Native.Nat.{◌+◌, ◌≤◌}
use mathlib.Core.Path.{◌≡◌, refl}
use mathlib.Core.Bool.{true}
use mathlib.Core.List.{[], ◌∷◌}
use native.Mathlib.Omega.{arith}
use lib.ListN.{length, take}
use Rattle.spatial.specs.All.{all}
use Rattle.build.specs.Build.{blank_model}
use Rattle.model.specs.declared.Model.{Model}
use Rattle.wire.specs.Big.{bytes16, bytes32}
use Rattle.encode.specs.Models.{model_head, model_bytes, counts_writable, joints_writable, writable}
use Rattle.encode.specs.Calls.{Asked, call_bytes, call_writable}
use Rattle.encode.proofs.SizeLaws.{length_model}
use Rattle.encode.proofs.CallSizes.{length_call}
use Rattle.encode.proofs.WritableLaws.{writable_fit}
use Rattle.encode.proofs.CallTrip.{fit}

-- "at most 12,017", after the 4 bytes that say it
pub model_longest : (m : Model) → writable m ≡ true → length (model_bytes m) ≤ 4 + 12017
model_longest m w = let f = writable_fit m w in omega (arith, length_model m)

-- "Length 160 + 33m + 50k", m at most 63 and k at most 256
pub call_longest : (c : Asked) → call_writable c ≡ true → length (call_bytes c) ≤ 4 + 15039
call_longest c w = let f = fit c w in omega (arith, length_call c f)

-- a model of one link: 110 bytes follow; version 1, kind 1, one link, none moving
pub one_writable : writable (blank_model 0 1 0) ≡ true
unfolding writable counts_writable joints_writable all blank_model
one_writable = refl

pub one_written : take 10 (model_bytes (blank_model 0 1 0)) ≡ 0 ∷ 0 ∷ 0 ∷ 110 ∷ 1 ∷ 1 ∷ 0 ∷ 1 ∷ 0 ∷ 0 ∷ []
unfolding model_bytes model_head bytes32 bytes16 blank_model
one_written = refl
