-- Bytes written from the front of a lent table, or none where they do not fit.
use Prim.Native.Nat.{ℕ, ◌≤◌, ◌<◌}
use mathlib.Core.Path.{◌≡◌, ◌∙◌, sym}
use mathlib.Core.List.{List}
use lib.ListN.{length}
use borrow.Author.Tests.{le-leb, lt-leb}
use Rattle.wire.specs.Placed.{placed}
use Rattle.wire.proofs.PlacedLaws.{placed_front}
use Rattle.records.specs.Reply.{sent}
use Rattle.encode.specs.Written.{told}

pub sent_short : (bytes out : List ℕ) (size : ℕ) → length bytes ≡ size → length out < size → told 0 out ≡ sent bytes out
unfolding sent
sent_short bytes out size e h = rw (lt-leb (length bytes) (length out) (rw e h))

pub sent_whole : (bytes out t : List ℕ) (size : ℕ) → length bytes ≡ size → size ≤ length out → t ≡ placed out 0 bytes → told size t ≡ sent bytes out
unfolding sent
sent_whole bytes out t size e h p =
    let l : length bytes ≤ length out = rw e h in
    rw (le-leb (length bytes) (length out) l, p ∙ placed_front out bytes l, sym e)
