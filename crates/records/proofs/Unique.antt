-- Two results that meet the promise of `answer`, or of a writer, are equal: the count, and the whole lent table.
use Prim.Native.Nat.{ℕ}
use mathlib.Core.List.{List}
use mathlib.Core.Path.{◌≡◌, ap}
use Rattle.spatial.proofs.Unique.{unique}
use Rattle.records.specs.Reply.{Sent, sent, reply}

module _ (n n' : ℕ) (a a' : List ℕ) where
  pub sent_unique : (x : Sent) → record { count = n; out = a } ≡ x → record { count = n'; out = a' } ≡ x → (n ≡ n') × (a ≡ a')
  sent_unique x m m' =
      let e : ◌≡◌ {A = Sent} (record { count = n; out = a }) (record { count = n'; out = a' }) = unique m m' in
      (ap (λ (s : Sent). s.count) e, ap (λ (s : Sent). s.out) e)

  pub answer_unique : (input out : List ℕ) → record { count = n; out = a } ≡ sent (reply input) out → record { count = n'; out = a' } ≡ sent (reply input) out → (n ≡ n') × (a ≡ a')
  answer_unique input out = sent_unique (sent (reply input) out)
