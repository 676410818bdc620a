-- The steps of the two kernels, by a joint and its frame at its pose.
use Rattle.std.specs.Prelude.{List, Float}
use Rattle.spatial.specs.Past.{no_vector}
use Rattle.spatial.specs.declared.Frame.{Frame}
use Rattle.spatial.specs.declared.Vector3.{Vector3}
use Rattle.model.specs.declared.Joint.{Joint}
use Rattle.dynamics.specs.declared.Motion.{Motion}
use Rattle.dynamics.specs.Motions.{moved}
use Rattle.dynamics.specs.Runs.{value_in}
use Rattle.dynamics.specs.Weights.{turned}

-- what stands past the end of a table of motions
abbrev pub no_motion : Motion
no_motion = record { omega = no_vector; alpha = no_vector; acceleration = no_vector }

abbrev pub driven_step : List Float → List Float → Joint → Frame → Motion → Motion
driven_step speeds accelerations joint frame m =
    moved frame joint.kind joint.axis (value_in joint.kind joint.number speeds) (value_in joint.kind joint.number accelerations) m

abbrev pub gravity_step : Joint → Frame → Vector3 → Vector3
gravity_step joint frame g = turned frame.rotation g
