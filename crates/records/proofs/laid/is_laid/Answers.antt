use Prim.Native.Nat.{ℕ, ◌+◌, ◌-◌, ◌*◌, ◌<◌, ◌≤◌}
use mathlib.Core.Path.{◌≡◌, refl, sym}
use mathlib.Core.Bool.{Bool, true, false, ◌&&◌}
use mathlib.Core.List.{List}
use native.Mathlib.Omega.{arith}
use lib.ListN.{length}
use Rattle.records.specs.Places.{link_count, moving, call_place, call_length, load_count}
use Rattle.records.specs.Layout.{model_laid, call_laid, laid, Laid}
use Rattle.records.proofs.CallLaws.{place}
use Rattle.records.proofs.LaidLaws.{says_laid, unlaid}
use Rattle.records.proofs.laid.is_laid.Goals as goal

-- by the counts as the check reads them
same : (s : List ℕ) (n m k n' m' k' : ℕ) → n ≡ n' → m ≡ m' → k ≡ k' → Laid s n m k → Laid s n' m' k'
same s n m k n' m' k' e d f h = rw (← e, ← d, ← f) h

no_counts : (s : List ℕ) (n m : ℕ) → n ≡ link_count s → m ≡ moving s → ((k : ℕ) → Laid s n m k → ⊥) → false ≡ laid s
no_counts s n m e d h = unlaid s (λ b. h (load_count s (call_place (link_count s))) (rw (e, d) b))

loads_are : (s : List ℕ) (n c k : ℕ) → n ≡ link_count s → c ≡ call_place n → k ≡ load_count s c → load_count s (call_place (link_count s)) ≡ k
loads_are s n c k e g f = cc

no_loads : (s : List ℕ) (n m c k : ℕ) → n ≡ link_count s → m ≡ moving s → c ≡ call_place n → k ≡ load_count s c → (Laid s n m k → ⊥) → false ≡ laid s
no_loads s n m c k e d g f h = unlaid s (λ b. h (rw (e, d, ← loads_are s n c k e g f) b))

all_laid : (s : List ℕ) (n m c k : ℕ) → n ≡ link_count s → m ≡ moving s → c ≡ call_place n → k ≡ load_count s c → Laid s n m k → true ≡ laid s
all_laid s n m c k e d g f h = sym (says_laid s (same s n m k _ _ _ e d (sym (loads_are s n c k e g f)) h))

short : (l n m k : ℕ) → l < 10 → l ≡ call_place n + (4 + call_length m k) → ⊥
short l n m k h e = omega arith

short_call : (l n m k : ℕ) → l < 10 + 104 * n + 85 * (n - 1) + 164 → l ≡ call_place n + (4 + call_length m k) → ⊥
short_call l n m k h e = omega arith

other_size : (l n m k : ℕ) → (l ≡ 10 + 104 * n + 85 * (n - 1) + 164 + 33 * m + 50 * k → ⊥) → l ≡ call_place n + (4 + call_length m k) → ⊥
other_size l n m k h e = h (omega arith)

right_size : (l n m k : ℕ) → l ≡ 10 + 104 * n + 85 * (n - 1) + 164 + 33 * m + 50 * k → l ≡ call_place n + (4 + call_length m k)
right_size l n m k e = omega arith

apart : (a b : ℕ) → a < b → b ≤ a → ⊥
apart a b h k = omega arith

-- what is left to ask is whether the two records are laid
asked : (s : List ℕ) (n m c k : ℕ) (a b : Bool) → n ≡ link_count s → m ≡ moving s → c ≡ call_place n → k ≡ load_count s c → 1 ≤ n → n ≤ 64 → m ≤ 63 → k ≤ 256
    → length s ≡ call_place n + (4 + call_length m k) → a ≡ model_laid s n → b ≡ call_laid s c m k → (a && b) ≡ laid s
asked s n m c k true true p q g r some few moves loads size e f =
    all_laid s n m c k p q g r (record { some = some; few = few; moves = moves; loads = loads; size = size; model = sym e; call = rw (← g) (sym f) })
asked s n m c k true false p q g r some few moves loads size e f = no_loads s n m c k p q g r (λ l. cc l.call)
asked s n m c k false b p q g r some few moves loads size e f = no_loads s n m c k p q g r (λ l. cc l.model)

pub returns-then-size-lt10 : goal.returns-then-size-lt10
returns-then-size-lt10 c = no_counts _ _ _ refl refl (λ k h. short _ _ _ k c.if-size-lt10.true h.size)

pub returns-then-n-lt1 : goal.returns-then-n-lt1
returns-then-n-lt1 c = no_counts _ _ _ c.size_at-n.ensures.0 c.size_at-m.ensures.0 (λ k h. apart _ _ c.if-n-lt1.true h.some)

pub returns-then-n-gt64 : goal.returns-then-n-gt64
returns-then-n-gt64 c = no_counts _ _ _ c.size_at-n.ensures.0 c.size_at-m.ensures.0 (λ k h. apart _ _ c.if-n-gt64.true h.few)

pub returns-then-m-gt63 : goal.returns-then-m-gt63
returns-then-m-gt63 c = no_counts _ _ _ c.size_at-n.ensures.0 c.size_at-m.ensures.0 (λ k h. apart _ _ c.if-m-gt63.true h.moves)

pub returns-then-size-c : goal.returns-then-size-c
returns-then-size-c c = no_counts _ _ _ c.size_at-n.ensures.0 c.size_at-m.ensures.0 (λ k h. short_call _ _ _ k c.if-size-c.true h.size)

pub returns-then-k-gt256 : goal.returns-then-k-gt256
returns-then-k-gt256 c = no_loads _ _ _ _ _ c.size_at-n.ensures.0 c.size_at-m.ensures.0 (place _) c.size_at-k.ensures.0 (λ h. apart _ _ c.if-k-gt256.true h.loads)

pub returns-then-size-c-2 : goal.returns-then-size-c-2
returns-then-size-c-2 c = no_loads _ _ _ _ _ c.size_at-n.ensures.0 c.size_at-m.ensures.0 (place _) c.size_at-k.ensures.0 (λ h. other_size _ _ _ _ c.if-size-c-2.true h.size)

pub returns : goal.returns
returns c = asked _ _ _ _ _ _ _ c.size_at-n.ensures.0 c.size_at-m.ensures.0 (place _) c.size_at-k.ensures.0 (omega arith) (omega arith) (omega arith) (omega arith) (right_size _ _ _ _ c.if-size-c-2.false) c.model_laid.ensures c.call_laid.ensures
