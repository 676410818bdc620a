-- What stands past the end of an array, as the language has it: a float there is a NaN.
use Rattle.std.specs.Float.{nan}
use Rattle.spatial.specs.declared.Vector3.{Vector3}
use Rattle.spatial.specs.declared.Matrix3.{Matrix3}
use Rattle.spatial.specs.declared.Frame.{Frame}
use Rattle.spatial.specs.declared.Wrench.{Wrench}

abbrev pub no_vector : Vector3
no_vector = record { x = nan; y = nan; z = nan }

abbrev pub no_matrix : Matrix3
no_matrix = record { x = no_vector; y = no_vector; z = no_vector }

abbrev pub no_frame : Frame
no_frame = record { rotation = record { w = nan; i = nan; j = nan; k = nan }; translation = no_vector }

abbrev pub no_wrench : Wrench
no_wrench = record { torque = no_vector; force = no_vector }
