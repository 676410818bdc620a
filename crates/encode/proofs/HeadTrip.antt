-- Where the front of a call's record stands, it is headed as asked, and what it holds is read from it.
use Prim.Native.Nat.{ℕ, ◌+◌, ◌≤◌}
use mathlib.Core.Path.{◌≡◌, refl, ap, ◌∙◌}
use mathlib.Core.Bool.{true}
use mathlib.Core.List.{List, [], ◌∷◌, ◌++◌}
use native.Mathlib.Omega.{arith}
use lib.Dec.{leb}
use lib.ListN.{get_or, length-append}
use Rattle.model.specs.Bases.{base_numbers}
use Rattle.model.specs.declared.BaseState.{BaseState}
use Rattle.model.specs.declared.RootMode.{RootMode}
use Rattle.model.specs.declared.RootMode.TheVariants.{Fixed, Floating}
use Rattle.outcome.specs.declared.Function.{Function}
use Rattle.outcome.specs.declared.Function.TheVariants.{InverseDynamics, Gravity, VelocityProduct}
use Rattle.wire.specs.Big.{be16, bytes16, bytes32, float_bytes}
use Rattle.wire.proofs.BytesLaws.{length_float_bytes}
use Rattle.wire.proofs.StandsLaws.{Stands, Doubles, stands_left, stands_right, stands_byte, be16_stands}
use Rattle.records.specs.Places.{call_length, base_place, load_count}
use Rattle.records.specs.Layout.{headed}
use Rattle.records.specs.Calls.{function_of, mode_of, base_in}
use Rattle.encode.specs.Calls.{function_code, mode_code, call_start, call_head}
use Rattle.encode.proofs.ReadLaws.{headed_stands}
use Rattle.encode.proofs.PartTrips.{base_stands}

function_back : (f : Function) → function_of (function_code f) ≡ f
unfolding function_of
function_back InverseDynamics = refl
function_back Gravity = refl
function_back VelocityProduct = refl

mode_back : (mode : RootMode) → mode_of (mode_code mode) ≡ mode
unfolding mode_of
mode_back Fixed = refl
mode_back Floating = refl

-- "function (1 inverse, 2 gravity, 3 velocity)"
function_low : (f : Function) → leb 1 (function_code f) ≡ true
function_low InverseDynamics = refl
function_low Gravity = refl
function_low VelocityProduct = refl

function_high : (f : Function) → leb (function_code f) 3 ≡ true
function_high InverseDynamics = refl
function_high Gravity = refl
function_high VelocityProduct = refl

-- "mode (0 fixed, 1 floating)"
mode_high : (mode : RootMode) → leb (mode_code mode) 1 ≡ true
mode_high Fixed = refl
mode_high Floating = refl

module _ (s : List ℕ) (at : ℕ) (f : Function) (mode : RootMode) (base : BaseState) (m k : ℕ) (few : m ≤ 63) (small : k ≤ 256) (st : Stands s at (call_head f mode base m k)) where
  front : Stands s at (call_start (call_length m k) (function_code f) (mode_code mode) ++ float_bytes (base_numbers base) ++ bytes16 m)
  unfolding call_head
  front = stands_left _ (bytes16 k) st

  opening : Stands s at (call_start (call_length m k) (function_code f) (mode_code mode) ++ float_bytes (base_numbers base))
  opening = stands_left _ (bytes16 m) front

  start : Stands s at (call_start (call_length m k) (function_code f) (mode_code mode))
  start = stands_left _ (float_bytes (base_numbers base)) opening

  codes : Stands s (at + 4) (1 ∷ 2 ∷ function_code f ∷ mode_code mode ∷ [])
  unfolding call_start bytes32 bytes16
  codes = stands_right (at + 4) (bytes32 (call_length m k)) _ start refl

  pub head_laid : headed s at (call_length m k) 2 ≡ true
  unfolding call_start
  head_laid =
      headed_stands at (call_length m k) 2 (omega arith) (stands_left (bytes32 (call_length m k)) _ start)
      (stands_byte (at + 4) 0 _ codes (omega arith) (omega arith))
      (stands_byte (at + 5) 1 _ codes (omega arith) (omega arith))

  function_code_stands : get_or s (at + 6) 0 ≡ function_code f
  function_code_stands = stands_byte (at + 6) 2 _ codes (omega arith) (omega arith)

  mode_code_stands : get_or s (at + 7) 0 ≡ mode_code mode
  mode_code_stands = stands_byte (at + 7) 3 _ codes (omega arith) (omega arith)

  pub function_some : leb 1 (get_or s (at + 6) 0) ≡ true
  function_some = rw function_code_stands (function_low f)

  pub function_few : leb (get_or s (at + 6) 0) 3 ≡ true
  function_few = rw function_code_stands (function_high f)

  pub mode_laid : leb (get_or s (at + 7) 0) 1 ≡ true
  mode_laid = rw mode_code_stands (mode_high mode)

  pub function_read : function_of (get_or s (at + 6) 0) ≡ f
  function_read = ap function_of function_code_stands ∙ function_back f

  pub mode_read : mode_of (get_or s (at + 7) 0) ≡ mode
  mode_read = ap mode_of mode_code_stands ∙ mode_back mode

  pub base_read : Doubles (base_numbers base) → base_in s (base_place at) ≡ base
  unfolding call_start bytes32 bytes16
  base_read d = base_stands (at + 8) base d (stands_right (at + 8) (call_start (call_length m k) (function_code f) (mode_code mode)) _ opening refl)

  pub entries_read : be16 s (at + 160) ≡ m
  unfolding call_start bytes32 bytes16
  entries_read =
      omega (arith, be16_stands m (stands_right (at + 160) (call_start (call_length m k) (function_code f) (mode_code mode) ++ float_bytes (base_numbers base)) (bytes16 m) front (simp length-append (omega (arith, length_float_bytes (base_numbers base))))))

  pub count_read : load_count s at ≡ k
  unfolding call_head call_start bytes32 bytes16
  count_read =
      omega (arith, be16_stands k (stands_right (at + 162) (call_start (call_length m k) (function_code f) (mode_code mode) ++ float_bytes (base_numbers base) ++ bytes16 m) (bytes16 k) st (simp length-append (omega (arith, length_float_bytes (base_numbers base))))))
