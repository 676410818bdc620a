-- 01, Byte records, kind 2: the record of a call.
use Rattle.std.specs.Prelude.{ℕ, ◌*◌, ◌≤◌, ◌≡◌, Bool, ◌&&◌, List, [], ◌∷◌, ◌++◌, eqb, ltb, leb, length, get_or, take, drop, Float}
use Rattle.spatial.specs.All.{all}
use Rattle.spatial.specs.Constants.{plus_zero}
use Rattle.model.specs.Bases.{base_numbers}
use Rattle.model.specs.Poses.{no_pose}
use Rattle.model.specs.declared.BaseState.{BaseState}
use Rattle.model.specs.declared.Pose.{Pose}
use Rattle.model.specs.declared.Pose.TheVariants.{Half, Slide}
use Rattle.model.specs.declared.RootMode.{RootMode}
use Rattle.model.specs.declared.RootMode.TheVariants.{Fixed, Floating}
use Rattle.outcome.specs.declared.Function.{Function}
use Rattle.outcome.specs.declared.Function.TheVariants.{InverseDynamics, Gravity, VelocityProduct}
use Rattle.wire.specs.Big.{bytes16, bytes32, float_bytes}
use Rattle.records.specs.Places.{call_length}
use Rattle.encode.specs.Joined.{joined}
use Rattle.encode.specs.declared.CallArguments.{CallArguments}

-- "function (1 inverse, 2 gravity, 3 velocity)"
abbrev pub function_code : Function → ℕ
function_code InverseDynamics = 1
function_code Gravity = 2
function_code VelocityProduct = 3

-- "mode (0 fixed, 1 floating)"
abbrev pub mode_code : RootMode → ℕ
mode_code Fixed = 0
mode_code Floating = 1

-- "tag 1 pair, 2 distance; two floats, the second +0 bits for tag 2"
abbrev pub pose_tag : Pose → ℕ
pose_tag (Half s c) = 1
pose_tag (Slide x) = 2

abbrev pub pose_floats : Pose → List Float
pose_floats (Half s c) = s ∷ c ∷ []
pose_floats (Slide x) = x ∷ plus_zero ∷ []

unfoldable pub pose_bytes : List Pose → ℕ → List ℕ
pose_bytes ps i = pose_tag (get_or ps i no_pose) ∷ float_bytes (pose_floats (get_or ps i no_pose))

-- "loads of link (2) and 6 floats"
unfoldable pub load_bytes : List ℕ → List Float → ℕ → List ℕ
load_bytes links numbers i = bytes16 (get_or links i 0) ++ float_bytes (take 6 (drop (6 * i) numbers))

-- "a 4-byte length of what follows, then version byte 1, then kind"; then function and mode
unfoldable pub call_start : ℕ → ℕ → ℕ → List ℕ
call_start size function mode = bytes32 size ++ (1 ∷ 2 ∷ function ∷ mode ∷ [])

-- "function .., mode .., 19 base floats, m, load count (2 each)"
unfoldable pub call_head : Function → RootMode → BaseState → ℕ → ℕ → List ℕ
call_head function mode base m k =
    call_start (call_length m k) (function_code function) (mode_code mode) ++ float_bytes (base_numbers base) ++ bytes16 m ++ bytes16 k

-- "m poses ..; m speeds; m accelerations; loads"
unfoldable pub call_lists : List Pose → List Float → List Float → List ℕ → List Float → List ℕ
call_lists positions speeds accelerations links numbers =
    joined (length positions) (pose_bytes positions) ++ float_bytes speeds ++ float_bytes accelerations ++ joined (length links) (load_bytes links numbers)

-- what is asked for: the arguments of a call, six numbers a load
pub record Asked : Type 0 where
  pub function : Function
  pub mode : RootMode
  pub base : BaseState
  pub positions : List Pose
  pub speeds : List Float
  pub accelerations : List Float
  pub links : List ℕ
  pub numbers : List Float

abbrev pub asked : CallArguments → Asked
asked c =
    record {
      function = c.function;
      mode = c.mode;
      base = c.base;
      positions = c.positions.now;
      speeds = c.speeds.now;
      accelerations = c.accelerations.now;
      links = c.links.now;
      numbers = c.numbers.now;
    }

unfoldable pub call_bytes : Asked → List ℕ
call_bytes c =
    call_head c.function c.mode c.base (length c.positions) (length c.links)
    ++ call_lists c.positions c.speeds c.accelerations c.links c.numbers

-- "A call's k above 256 is 9"; m speeds and accelerations, six numbers a load
unfoldable pub counts_fit : ℕ → ℕ → ℕ → ℕ → ℕ → Bool
counts_fit m speeds accelerations k numbers = leb k 256 && (leb m 63 && (eqb speeds m && (eqb accelerations m && eqb numbers (6 * k))))

-- "link (2)"
unfoldable pub links_writable : List ℕ → Bool
links_writable links = all (length links) (λ i. ltb (get_or links i 0) 65536)

-- what such counts are: m, the speeds, the accelerations, the loads and their numbers
pub record CallFit (m s a k x : ℕ) : Type 0 where
  pub few : k ≤ 256
  pub moving : m ≤ 63
  pub speeds : s ≡ m
  pub accelerations : a ≡ m
  pub sixes : x ≡ 6 * k

abbrev pub Counted : Asked → Type 0
Counted c = CallFit (length c.positions) (length c.speeds) (length c.accelerations) (length c.links) (length c.numbers)

abbrev pub call_counts_fit : Asked → Bool
call_counts_fit c = counts_fit (length c.positions) (length c.speeds) (length c.accelerations) (length c.links) (length c.numbers)

-- any other call has no record
unfoldable pub call_writable : Asked → Bool
call_writable c = call_counts_fit c && links_writable c.links
