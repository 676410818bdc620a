-- The test for +0, of one double and of a cleared place.
use mathlib.Core.Path.{◌≡◌, sym, ap, ◌∙◌}
use mathlib.Core.Bool.{true, ◌&&◌}
use lib.Dec.{T, eqb}
use lib.Ieee.{Float, binary64, fits, of_bits, to_bits, size}
use lib.Ieee.Bits.{of_bits-to_bits}
use borrow.Author.Tests.{eqb-true}
use Rattle.spatial.specs.declared.Vector3.{Vector3}
use Rattle.spatial.specs.Constants.{plus_zero, zero_vector, zero_wrench}
use Rattle.fit.specs.Finite.{is_plus_zero}
use Rattle.fit.proofs.FiniteLaws.{zero_bits}
use Rattle.buffer.specs.declared.Stored.{Stored}
use Rattle.buffer.specs.Agree.{cleared, Doubles, is_zero_vector, is_cleared}
use Rattle.spatial.proofs.BoolLaws.{and_left, and_right}

zero_passes : is_plus_zero plus_zero ≡ true
unfolding to_bits size fits
zero_passes = sym (zero_bits plus_zero tt)

passed_zero : (x : Float) → T (fits binary64 x) → is_plus_zero x ≡ true → x ≡ plus_zero
unfolding of_bits
passed_zero x d h = sym (of_bits-to_bits binary64 x d) ∙ ap (of_bits binary64) (eqb-true (to_bits binary64 x) 0 (zero_bits x d ∙ h))

passed_vector : (v : Vector3) → Doubles v → is_zero_vector v ≡ true → v ≡ zero_vector
unfolding is_zero_vector zero_vector
passed_vector v d h =
    let x : v.x ≡ plus_zero = passed_zero v.x d.first (and_left _ _ (and_left (is_plus_zero v.x && is_plus_zero v.y) _ h)) in
    let y : v.y ≡ plus_zero = passed_zero v.y d.second (and_right (is_plus_zero v.x) _ (and_left (is_plus_zero v.x && is_plus_zero v.y) _ h)) in
    let z : v.z ≡ plus_zero = passed_zero v.z d.third (and_right (is_plus_zero v.x && is_plus_zero v.y) _ h) in
    let all : ◌≡◌ {A = Vector3} record { x = v.x; y = v.y; z = v.z } zero_vector = rw (x, y, z) in
    all

pub cleared_passes : is_cleared cleared ≡ true
unfolding is_cleared is_zero_vector zero_wrench zero_vector
cleared_passes = simp zero_passes

-- a place that passes is cleared
pub passed_cleared : (s : Stored) → Doubles s.wrench.torque → Doubles s.wrench.force → is_cleared s ≡ true → s ≡ cleared
unfolding is_cleared zero_wrench
passed_cleared s d e h =
    let l : s.link ≡ 0 = eqb-true s.link 0 (and_left (eqb s.link 0) _ (and_left (eqb s.link 0 && is_zero_vector s.wrench.torque) _ h)) in
    let t : s.wrench.torque ≡ zero_vector = passed_vector s.wrench.torque d (and_right (eqb s.link 0) _ (and_left (eqb s.link 0 && is_zero_vector s.wrench.torque) _ h)) in
    let f : s.wrench.force ≡ zero_vector = passed_vector s.wrench.force e (and_right (eqb s.link 0 && is_zero_vector s.wrench.torque) _ h) in
    let all : ◌≡◌ {A = Stored} record { link = s.link; wrench = record { torque = s.wrench.torque; force = s.wrench.force } } cleared = rw (l, t, f) in
    all
