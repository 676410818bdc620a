-- 01, Byte records, kind 2: the call that a record means.
use Rattle.std.specs.Prelude.{ℕ, ◌+◌, ◌*◌, cond, List, [], eqb, get_or, replicate, Float}
use Rattle.spatial.specs.Constants.{plus_zero}
use Rattle.spatial.specs.Listed.{list_of}
use Rattle.model.specs.declared.BaseState.{BaseState}
use Rattle.model.specs.declared.Pose.{Pose}
use Rattle.model.specs.declared.Pose.TheVariants.{Half, Slide}
use Rattle.model.specs.declared.RootMode.{RootMode}
use Rattle.model.specs.declared.RootMode.TheVariants.{Fixed, Floating}
use Rattle.loads.specs.Sums.{start_sums, prepared_sums}
use Rattle.loads.specs.declared.Load.{Load}
use Rattle.outcome.specs.Call.{Call, call_of}
use Rattle.outcome.specs.declared.Function.{Function}
use Rattle.outcome.specs.declared.Function.TheVariants.{InverseDynamics, Gravity, VelocityProduct}
use Rattle.wire.specs.Big.{be16, f64_at}
use Rattle.wire.specs.Fill.{fill}
use Rattle.records.specs.Places.{link_count, moving, call_place, base_place, load_count, pose_place, speeds_place, accelerations_place, load_place}
use Rattle.records.specs.Parts.{vector_in, twist_in, frame_in}
use Rattle.records.specs.Models.{model_in}

-- "function (1 inverse, 2 gravity, 3 velocity)"
unfoldable pub function_of : ℕ → Function
function_of code = cond (eqb code 1) InverseDynamics (cond (eqb code 2) Gravity VelocityProduct)

-- "mode (0 fixed, 1 floating)"
unfoldable pub mode_of : ℕ → RootMode
mode_of code = cond (eqb code 0) Fixed Floating

-- "19 base floats": rotation, translation, velocity, acceleration
unfoldable pub base_in : List ℕ → ℕ → BaseState
base_in s at = record { frame = frame_in s at; velocity = twist_in s (at + 56); acceleration = twist_in s (at + 104) }

-- "tag 1 pair, 2 distance; two floats"
unfoldable pub pose_in : List ℕ → ℕ → Pose
pose_in s at = cond (eqb (get_or s at 0) 1) (Half (f64_at s (at + 1)) (f64_at s (at + 9))) (Slide (f64_at s (at + 1)))

-- the m entries
abbrev pub entries_in : List ℕ → ℕ → ℕ → List Pose
entries_in s c m = list_of m (λ i. pose_in s (pose_place c i))

-- places past the last entry hold distances of +0
unfoldable pub positions_in : List ℕ → ℕ → ℕ → List Pose
positions_in s c m = fill (λ i. pose_in s (pose_place c i)) (replicate 63 (Slide plus_zero)) m

-- n floats from a place on
abbrev pub floats_in : List ℕ → ℕ → ℕ → List Float
floats_in s at n = list_of n (λ i. f64_at s (at + 8 * i))

-- "loads of link (2) and 6 floats", torque before force; the model's id is 0
unfoldable pub load_in : List ℕ → ℕ → Load
load_in s at = record { id = 0; link = be16 s at; wrench = record { torque = vector_in s (at + 2); force = vector_in s (at + 26) } }

abbrev pub loads_in : List ℕ → ℕ → ℕ → ℕ → List Load
loads_in s c m k = list_of k (λ i. load_in s (load_place c m i))

-- "unused speeds, accelerations and loads are skipped unread"
unfoldable pub call_with : List ℕ → Function → ℕ → ℕ → ℕ → Call
call_with s InverseDynamics c m k =
    call_of InverseDynamics (mode_of (get_or s (c + 7) 0)) (model_in s) (base_in s (base_place c)) (entries_in s c m) m
    (floats_in s (speeds_place c m) m) (floats_in s (accelerations_place c m) m) (prepared_sums 0 (link_count s) (loads_in s c m k))
call_with s Gravity c m k =
    call_of Gravity (mode_of (get_or s (c + 7) 0)) (model_in s) (base_in s (base_place c)) (entries_in s c m) m [] []
    (prepared_sums 0 (link_count s) (loads_in s c m k))
call_with s VelocityProduct c m k =
    call_of VelocityProduct (mode_of (get_or s (c + 7) 0)) (model_in s) (base_in s (base_place c)) (entries_in s c m) m
    (floats_in s (speeds_place c m) m) [] start_sums

-- the call after the model
unfoldable pub call_in : List ℕ → Call
call_in s =
    let c = call_place (link_count s) in
    call_with s (function_of (get_or s (c + 6) 0)) c (moving s) (load_count s c)
