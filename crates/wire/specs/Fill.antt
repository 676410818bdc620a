-- A table whose first n places hold f 0, f 1, ..
use Rattle.std.specs.Prelude.{ℕ, zero, suc, List, set}

unfoldable pub fill : {A : Type 0} → (ℕ → A) → List A → ℕ → List A
fill f base zero = base
fill f base (suc n) = set (fill f base n) n (f n)
