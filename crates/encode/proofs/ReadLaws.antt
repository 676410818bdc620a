-- What is read where known bytes stand: parts of one width, lists, tables and headers.
use Prim.Native.Nat.{ℕ, zero, suc, ◌+◌, ◌*◌, ◌≤◌, ◌<◌}
use mathlib.Core.Path.{◌≡◌, refl, sym, ap, subst, ◌∙◌}
use mathlib.Core.Bool.{true}
use mathlib.Core.List.{List}
use mathlib.Core.Logic.{⊎_elim}
use native.Mathlib.Nat.{not-suc-le-zero}
use native.Mathlib.Omega.{arith}
use lib.ListN.{length, get_or, take}
use lib.Seq.{take-suc, take-length}
use lib.Ieee.{Float, nan}
use borrow.Author.Tests.{eq-eqb}
use Rattle.spatial.specs.Listed.{list_of}
use Rattle.spatial.proofs.BoolLaws.{upto}
use Rattle.wire.specs.Big.{be32, bytes32, float_bytes}
use Rattle.wire.specs.Fill.{fill}
use Rattle.wire.proofs.StandsLaws.{Stands, Doubles, stands_left, stands_right, be32_stands, float_stands}
use Rattle.records.specs.Layout.{headed}
use Rattle.records.specs.Calls.{floats_in}
use Rattle.encode.specs.Joined.{joined}
use Rattle.encode.proofs.JoinedLaws.{length_joined}

-- one of the parts
pub joined_stands : {s : List ℕ} (at n w j : ℕ) (f : ℕ → List ℕ) → ((i : ℕ) → i < n → length (f i) ≡ w) → j < n → Stands s at (joined n f) → Stands s (at + w * j) (f j)
unfolding joined
joined_stands at zero w j f e l h = absurd (not-suc-le-zero l)
joined_stands {s} at (suc n) w j f e l h =
    ⊎_elim
    (λ (q : j ≡ n). subst (λ (k : ℕ). Stands s (at + w * k) (f k)) (sym q)
    (stands_right (at + w * n) (joined n f) (f n) h (ap (λ (k : ℕ). at + k) (length_joined n w f (λ i m. e i (omega arith))))))
    (λ (m : j < n). joined_stands at n w j f (λ i p. e i (omega arith)) m (stands_left (joined n f) (f n) h))
    (upto n j l)

pub list_of_same : {A : Type 0} (n : ℕ) (f g : ℕ → A) → ((i : ℕ) → i < n → f i ≡ g i) → list_of n f ≡ list_of n g
unfolding list_of
list_of_same zero f g h = refl
list_of_same (suc n) f g h = rw (h n (omega arith), list_of_same n f g (λ i l. h i (omega arith)))

pub fill_same : {A : Type 0} (n : ℕ) (f g : ℕ → A) (base : List A) → ((i : ℕ) → i < n → f i ≡ g i) → fill f base n ≡ fill g base n
unfolding fill
fill_same zero f g base h = refl
fill_same (suc n) f g base h = rw (h n (omega arith), fill_same n f g base (λ i l. h i (omega arith)))

listed : {A : Type 0} (z : A) (n : ℕ) (xs : List A) → n ≤ length xs → list_of n (λ i. get_or xs i z) ≡ take n xs
unfolding list_of
listed z zero xs h = refl
listed z (suc n) xs h = rw (listed z n xs (omega arith)) (sym (take-suc xs n z h))

-- a list whose every place is read
pub list_read : {A : Type 0} {f : ℕ → A} (xs : List A) (z : A) → ((i : ℕ) → i < length xs → f i ≡ get_or xs i z) → list_of (length xs) f ≡ xs
list_read {A} {f} xs z h = list_of_same (length xs) f (λ i. get_or xs i z) h ∙ listed z (length xs) xs (omega arith) ∙ take-length xs

-- a list of doubles
pub floats_read : {s : List ℕ} (at n : ℕ) (xs : List Float) → Doubles xs → n ≡ length xs → Stands s at (float_bytes xs) → floats_in s at n ≡ xs
floats_read {s} at n xs d e h =
    ap (λ (k : ℕ). floats_in s at k) e ∙ list_read xs nan (λ i l. float_stands (at + 8 * i) xs i d l h refl)

-- "a 4-byte length of what follows, then version byte 1, then kind"
pub headed_stands : {s : List ℕ} (at n kind : ℕ) → n < 4294967296 → Stands s at (bytes32 n) → get_or s (at + 4) 0 ≡ 1 → get_or s (at + 5) 0 ≡ kind → headed s at n kind ≡ true
unfolding headed
headed_stands {s} at n kind l h v k =
    let e : be32 s at ≡ n = omega (arith, be32_stands n h) in
    rw (eq-eqb (be32 s at) n e, eq-eqb (get_or s (at + 4) 0) 1 v, eq-eqb (get_or s (at + 5) 0) kind k)
