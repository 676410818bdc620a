-- A run over a model and the lists of a call: each moving joint's place in a list is its number.
use Rattle.std.specs.Prelude.{ℕ, List, get_or, Float}
use Rattle.std.specs.Float.{nan}
use Rattle.spatial.specs.Constants.{plus_zero}
use Rattle.spatial.specs.Past.{no_wrench}
use Rattle.spatial.specs.declared.Wrench.{Wrench}
use Rattle.model.specs.Poses.{no_pose}
use Rattle.model.specs.Tables.{joint_at, link_at}
use Rattle.model.specs.declared.JointType.{JointType}
use Rattle.model.specs.declared.JointType.TheVariants.{Fixed, Revolute, Prismatic}
use Rattle.model.specs.declared.Model.{Model}
use Rattle.model.specs.declared.Pose.{Pose}
use Rattle.dynamics.specs.Run.{Run}

-- a moving joint's number in a list; a fixed joint has none, and takes +0
unfoldable pub value_in : JointType → ℕ → List Float → Float
value_in Fixed n xs = plus_zero
value_in Revolute n xs = get_or xs n nan
value_in Prismatic n xs = get_or xs n nan

abbrev pub run_of : Model → List Pose → List Float → List Float → List Wrench → Run
run_of m positions speeds accelerations loads =
    record {
      count = m.count;
      joint = joint_at m;
      link = link_at m;
      pose = λ j. get_or positions (joint_at m j).number no_pose;
      speed = λ j. value_in (joint_at m j).kind (joint_at m j).number speeds;
      acceleration = λ j. value_in (joint_at m j).kind (joint_at m j).number accelerations;
      load = λ l. get_or loads l no_wrench;
    }
