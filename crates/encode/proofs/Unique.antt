-- Two results that meet a writer's promise are equal: the count, and the whole lent table.
use Prim.Native.Nat.{ℕ}
use mathlib.Core.List.{List}
use mathlib.Core.Path.{◌≡◌}
use Rattle.model.specs.declared.Model.{Model}
use Rattle.records.proofs.Unique.{sent_unique}
use Rattle.encode.specs.Calls.{Asked}
use Rattle.encode.specs.Written.{told, written_model, written_call}

module _ (n n' : ℕ) (out a a' : List ℕ) where
  pub model_unique : (m : Model) → told n a ≡ written_model m out → told n' a' ≡ written_model m out → (n ≡ n') × (a ≡ a')
  model_unique m = sent_unique n n' a a' (written_model m out)

  pub call_unique : (c : Asked) → told n a ≡ written_call c out → told n' a' ≡ written_call c out → (n ≡ n') × (a ≡ a')
  call_unique c = sent_unique n n' a a' (written_call c out)
