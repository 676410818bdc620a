-- What is sent: all bytes where they fit, and else none.
use Prim.Native.Nat.{ℕ, ◌+◌, ◌*◌, ◌<◌, ◌≤◌}
use mathlib.Core.Path.{◌≡◌, refl, ap, ◌∙◌}
use mathlib.Core.Bool.{Bool, true, false}
use mathlib.Core.List.{List}
use native.Mathlib.Omega.{arith}
use lib.Dec.{leb}
use lib.ListN.{length, drop, length-append}
use lib.Ieee.{Float}
use borrow.Author.Tests.{le-leb, lt-leb}
use Rattle.wire.specs.Big.{bytes16, bytes32, float_bytes}
use Rattle.wire.specs.Placed.{placed}
use Rattle.wire.proofs.PlacedLaws.{placed_front, placed_then}
use Rattle.wire.proofs.BytesLaws.{length_float_bytes}
use Rattle.records.specs.Answers.{head_bytes, answer_bytes}
use Rattle.records.specs.Reply.{Sent, sent}

length_head : (number n : ℕ) → length (head_bytes number n) ≡ 9
unfolding head_bytes bytes32 bytes16
length_head number n = refl

pub length_answer : (number : ℕ) (figures : List Float) → length (answer_bytes (record { number = number; figures = figures })) ≡ 9 + 8 * length figures
unfolding answer_bytes
length_answer number figures =
    length-append (head_bytes number (length figures)) (float_bytes figures) ∙ omega (arith, length_head number (length figures), length_float_bytes figures)

pub sent_all : (bytes out after : List ℕ) (n : ℕ) → length bytes ≡ n → n ≤ length out → after ≡ placed out 0 bytes
    → ◌≡◌ {A = Sent} (record { count = n; out = after }) (sent bytes out)
unfolding sent
sent_all bytes out after n e h p =
    let k : length bytes ≤ length out = omega arith in
    rw (le-leb (length bytes) (length out) k, ← e, p, placed_front out bytes k) refl

pub sent_none : (bytes out : List ℕ) (n : ℕ) → length bytes ≡ n → length out < n → ◌≡◌ {A = Sent} (record { count = 0; out = out }) (sent bytes out)
unfolding sent
sent_none bytes out n e h = let k : length out < length bytes = omega arith in rw (lt-leb (length bytes) (length out) k) refl

-- an answer, its head before its figures
pub sent_answer : (number : ℕ) (figures : List Float) (out mid after : List ℕ) → 9 + 8 * length figures ≤ length out
    → mid ≡ placed out 0 (head_bytes number (length figures)) → after ≡ placed mid 9 (float_bytes figures)
    → ◌≡◌ {A = Sent} (record { count = 9 + 8 * length figures; out = after }) (sent (answer_bytes (record { number = number; figures = figures })) out)
unfolding answer_bytes
sent_answer number figures out mid after h p q =
    sent_all _ out after _ (length_answer number figures) h (placed_then out mid after 0 9 _ _ p q (omega (arith, length_head number (length figures))))

-- what was sent stands at the front of the table
counted : (b : Bool) (bytes out : List ℕ) → leb (length bytes) (length out) ≡ b → (sent bytes out).count ≤ length (sent bytes out).out
unfolding sent
counted true bytes out e = rw e (omega (arith, length-append bytes (drop (length bytes) out)))
counted false bytes out e = rw e (omega arith)

pub sent_counts : (bytes out after : List ℕ) (n : ℕ) → ◌≡◌ {A = Sent} (record { count = n; out = after }) (sent bytes out) → n ≤ length after
sent_counts bytes out after n e =
    let p : n ≡ (sent bytes out).count = ap (λ (t : Sent). t.count) e in
    let q : after ≡ (sent bytes out).out = ap (λ (t : Sent). t.out) e in
    rw (p, q) (counted (leb (length bytes) (length out)) bytes out refl)
