-- 01, Tables and their limits: "The moving joints hold the numbers 0 to m-1, each exactly once, a fixed one none".
use Rattle.std.specs.Prelude.{ℕ, zero, suc, ◌<◌, ◌≡◌, Bool, true, false, not, cond, ◌&&◌, ◌||◌, eqb, ltb}
use Rattle.spatial.specs.All.{all}

-- what the rule reads: how many joints, m, and of each joint whether it moves and its number
pub record Numbering : Type 0 where
  pub count : ℕ
  pub moving : ℕ
  pub moves : ℕ → Bool
  pub number : ℕ → ℕ

-- joint j moves and holds n
pub record Holds (t : Numbering) (n j : ℕ) : Type 0 where
  pub inside : j < t.count
  pub moving : t.moves j ≡ true
  pub number : t.number j ≡ n

-- the number that stands for none
abbrev pub no_number : ℕ
no_number = 65535

pub record Numbered (t : Numbering) : Type 0 where
  pub below : (n j : ℕ) → Holds t n j → n < t.moving
  pub held : (n : ℕ) → n < t.moving → (j : ℕ) × Holds t n j
  pub once : (n i j : ℕ) → Holds t n i → Holds t n j → i ≡ j
  pub none : (j : ℕ) → j < t.count → t.moves j ≡ false → t.number j ≡ no_number

-- ---- decided

abbrev pub holds : Numbering → ℕ → ℕ → Bool
holds t n j = t.moves j && eqb (t.number j) n

-- one of the joints before j holds n
unfoldable pub taken : Numbering → ℕ → ℕ → Bool
taken t zero n = false
taken t (suc j) n = taken t j n || holds t n j

-- a moving joint's number is below m, and free; a fixed joint's is none
abbrev pub number_fits : Bool → ℕ → ℕ → Bool → Bool
number_fits moves number moving free = cond moves (ltb number moving && free) (eqb number no_number)

unfoldable pub numbered_at : Numbering → ℕ → Bool
numbered_at t j = number_fits (t.moves j) (t.number j) t.moving (not (taken t j (t.number j)))

unfoldable pub numbered : Numbering → Bool
numbered t = all t.count (numbered_at t) && all t.moving (taken t t.count)

-- ---- who holds a number

-- the last of the joints before j that holds n, and 0 where none does
unfoldable pub holder_of : Numbering → ℕ → ℕ → ℕ
holder_of t zero n = 0
holder_of t (suc j) n = cond (holds t n j) j (holder_of t j n)
