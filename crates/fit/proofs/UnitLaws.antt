-- What passes the unit test is finite.
use mathlib.Core.Path.{◌≡◌, refl, sym, ◌∙◌}
use mathlib.Core.Bool.{true, false, ◌&&◌}
use lib.Ieee.{Float, nan, inf, fin, le}
use Rattle.spatial.specs.declared.Quaternion.{Quaternion}
use Rattle.spatial.specs.Float.{◌⊕◌, ◌⊗◌}
use Rattle.spatial.proofs.BoolLaws.{and_both}
use Rattle.fit.specs.Finite.{is_finite, all_finite, quaternion_numbers}
use Rattle.fit.specs.Unit.{is_unit, unit_pair, unit_quaternion}
use Rattle.fit.proofs.FiniteLaws.{finite_mul, finite_add, all_four}

unit_finite : (x : Float) → is_unit x ≡ true → is_finite x ≡ true
unfolding is_unit is_finite le
unit_finite nan h = h
unit_finite (inf true) h = h
unit_finite (inf false) h = h
unit_finite (fin s m e) h = refl

square_finite : (x : Float) → is_finite (x ⊗ x) ≡ true → is_finite x ≡ true
square_finite x h = (finite_mul x x h).0

pub unit_rotation_finite : (q : Quaternion) → unit_quaternion q ≡ true → all_finite (quaternion_numbers q) ≡ true
unfolding unit_quaternion
unit_rotation_finite q h =
    let a = finite_add (q.w ⊗ q.w ⊕ q.i ⊗ q.i ⊕ q.j ⊗ q.j) (q.k ⊗ q.k) (unit_finite _ h) in
    let b = finite_add (q.w ⊗ q.w ⊕ q.i ⊗ q.i) (q.j ⊗ q.j) a.0 in
    let c = finite_add (q.w ⊗ q.w) (q.i ⊗ q.i) b.0 in
    sym (all_four q.w q.i q.j q.k)
    ∙ and_both _ _ (and_both _ _ (and_both _ _ (square_finite q.w c.0) (square_finite q.i c.1)) (square_finite q.j b.1)) (square_finite q.k a.1)

pub unit_pair_finite : (x y : Float) → unit_pair x y ≡ true → (is_finite x && is_finite y) ≡ true
unfolding unit_pair
unit_pair_finite x y h =
    let a = finite_add (x ⊗ x) (y ⊗ y) (unit_finite _ h) in
    and_both _ _ (square_finite x a.0) (square_finite y a.1)
