-- 01, Tables and their limits: what a good link is.
use Rattle.std.specs.Prelude.{◌≡◌, Bool, true, ◌&&◌, List, ◌∷◌, ◌++◌, Float}
use Rattle.std.specs.Float.Ieee.{le}
use Rattle.spatial.specs.Constants.{plus_zero}
use Rattle.fit.specs.Finite.{all_finite, vector_numbers, matrix_numbers}
use Rattle.spatial.specs.Vectors.{scaled}
use Rattle.model.specs.declared.Link.{Link}

abbrev pub link_numbers : Link → List Float
link_numbers l = l.mass ∷ (vector_numbers l.center ++ matrix_numbers l.inertia)

-- "all its numbers are finite, each mass is at least 0, mass times each centre coordinate is finite"
pub record GoodLink (l : Link) : Type 0 where
  pub finite : all_finite (link_numbers l) ≡ true
  pub mass : le plus_zero l.mass ≡ true
  pub moment : all_finite (vector_numbers (scaled l.center l.mass)) ≡ true

-- ---- decided

-- the mass's two rules
unfoldable pub weighs : Link → Bool
weighs l = le plus_zero l.mass && all_finite (vector_numbers (scaled l.center l.mass))

unfoldable pub good_link : Link → Bool
good_link l = all_finite (link_numbers l) && weighs l
