-- 01, The load buffer: what it is that the tables agree, and a test of it place by place.
use Rattle.std.specs.Prelude.{ℕ, ◌<◌, ◌≤◌, ◌≡◌, Bool, true, ◌&&◌, ◌||◌, cond, T, ltb, leb, eqb, length, get_or, Result}
use Rattle.std.specs.Float.{binary64}
use Rattle.std.specs.Float.Ieee.{fits}
use Rattle.spatial.specs.declared.Vector3.{Vector3}
use Rattle.spatial.specs.All.{all}
use Rattle.spatial.specs.Constants.{zero_wrench}
use Rattle.fit.specs.Finite.{all_finite, wrench_numbers, is_plus_zero}
use Rattle.buffer.specs.declared.Stored.{Stored}
use Rattle.buffer.specs.declared.LoadBuffer.{LoadBuffer}
use Rattle.refusal.specs.declared.Refusal.{Refusal}
use Rattle.refusal.specs.declared.Refusal.TheVariants.{CorruptBuffer}
use Rattle.refusal.specs.Numbers.{unless}
use Rattle.spatial.specs.Past.{no_wrench}

-- "`usize::MAX` stays as the empty mark"
abbrev pub MAX : ℕ
MAX = 0xffff_ffff_ffff_ffff

-- "A freed place is cleared to link 0 and +0"
abbrev pub cleared : Stored
cleared = record { link = 0; wrench = zero_wrench }

-- what stands past the table's end
abbrev pub no_stored : Stored
no_stored = record { link = 0; wrench = no_wrench }

-- what stands at place i, and link l's mark
abbrev pub at : LoadBuffer → ℕ → Stored
at b i = get_or b.loads i no_stored

abbrev pub mark : LoadBuffer → ℕ → ℕ
mark b l = get_or b.positions l 0

-- what every buffer has by its type: 64 marks and 64 places
pub record Sized (b : LoadBuffer) : Type 0 where
  pub marks : length b.positions ≡ 64
  pub places : length b.loads ≡ 64

-- and a double for each number
pub record Doubles (v : Vector3) : Type 0 where
  pub first : T (fits binary64 v.x)
  pub second : T (fits binary64 v.y)
  pub third : T (fits binary64 v.z)

pub record Held (b : LoadBuffer) : Type 0 where
  pub torques : (i : ℕ) → i < 64 → Doubles (at b i).wrench.torque
  pub forces : (i : ℕ) → i < 64 → Doubles (at b i).wrench.force

-- "the link count is 1 to 64 and the count at most that"
pub record Counts (b : LoadBuffer) : Type 0 where
  pub some : 1 ≤ b.links
  pub few : b.links ≤ 64
  pub fit : b.count ≤ b.links

-- "each stored load is finite, its link is below the link count and that link's mark is its place"
pub record Kept (b : LoadBuffer) (i : ℕ) : Type 0 where
  pub finite : all_finite (wrench_numbers (at b i).wrench) ≡ true
  pub inside : (at b i).link < b.links
  pub marked : mark b (at b i).link ≡ i

-- "all other marks are empty, and places past the count are cleared"
pub record Agree (b : LoadBuffer) : Type 0 where
  pub counts : Counts b
  pub kept : (i : ℕ) → i < b.count → Kept b i
  pub others : (l : ℕ) → l < 64 → ((i : ℕ) → i < b.count → (at b i).link ≡ l → ⊥) → mark b l ≡ MAX
  pub free : (i : ℕ) → b.count ≤ i → i < 64 → at b i ≡ cleared

-- ---- the test

unfoldable pub is_zero_vector : Vector3 → Bool
is_zero_vector v = is_plus_zero v.x && is_plus_zero v.y && is_plus_zero v.z

unfoldable pub is_cleared : Stored → Bool
is_cleared s = eqb s.link 0 && is_zero_vector s.wrench.torque && is_zero_vector s.wrench.force

-- the load s at place i, where n and m are the link count and the count, with its link's mark
unfoldable pub load_agrees : ℕ → ℕ → ℕ → Stored → ℕ → Bool
load_agrees n m i s its = cond (ltb i m) (all_finite (wrench_numbers s.wrench) && ltb s.link n && eqb its i) (is_cleared s)

-- link l's mark p: empty, or the place of a stored load, whose link is l
unfoldable pub mark_agrees : ℕ → ℕ → ℕ → ℕ → Bool
mark_agrees m l p link = eqb p MAX || (ltb p m && eqb link l)

-- the load at place i and link i's mark
unfoldable pub place_agrees : LoadBuffer → ℕ → Bool
place_agrees b i =
    load_agrees b.links b.count i (at b i) (mark b (at b i).link)
    && mark_agrees b.count i (mark b i) (at b (mark b i)).link

unfoldable pub counts_agree : LoadBuffer → Bool
counts_agree b = (leb 1 b.links && leb b.links 64) && leb b.count b.links

unfoldable pub tables_agree : LoadBuffer → Bool
tables_agree b = counts_agree b && all 64 (place_agrees b)

-- "11: a buffer's two tables disagree"
unfoldable pub tables : LoadBuffer → Result Unit Refusal
tables b = unless (tables_agree b) CorruptBuffer
