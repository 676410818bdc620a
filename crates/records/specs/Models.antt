-- 01, Byte records, kind 1: the model that a record means.
use Rattle.std.specs.Prelude.{ℕ, ◌+◌, ◌-◌, List, get_or, replicate}
use Rattle.model.specs.declared.Link.{Link}
use Rattle.model.specs.declared.JointEntry.{JointEntry}
use Rattle.model.specs.declared.Model.{Model}
use Rattle.build.specs.Build.{blank_link, blank_entry}
use Rattle.wire.specs.Big.{be16, f64_at}
use Rattle.wire.specs.Fill.{fill}
use Rattle.records.specs.Places.{link_count, moving, link_place, joint_place}
use Rattle.records.specs.Parts.{vector_in, frame_in}

-- "13 floats each (inertia by rows)": mass, centre, inertia
unfoldable pub link_in : List ℕ → ℕ → Link
link_in s at =
    record {
      mass = f64_at s at;
      center = vector_in s (at + 8);
      inertia = record { x = vector_in s (at + 32); y = vector_in s (at + 56); z = vector_in s (at + 80) };
    }

-- "each kind (1 ..), parent (2), moving number (2 ..), 10 floats": origin, axis
unfoldable pub entry_in : List ℕ → ℕ → JointEntry
entry_in s at =
    record {
      kind = get_or s at 0;
      parent = be16 s (at + 1);
      number = be16 s (at + 3);
      origin = frame_in s (at + 5);
      axis = vector_in s (at + 61);
    }

-- the first links and joints of a model of n links, m of whose joints move; zeros past them
abbrev pub model_to : List ℕ → ℕ → ℕ → ℕ → ℕ → Model
model_to s n m links joints =
    record {
      id = 0;
      count = n;
      moving = m;
      links = fill (λ l. link_in s (link_place l)) (replicate 64 blank_link) links;
      joints = fill (λ j. entry_in s (joint_place n j)) (replicate 63 blank_entry) joints;
    }

-- "The id is 0"; places past the last link and joint hold zeros
unfoldable pub model_in : List ℕ → Model
model_in s =
    let n = link_count s in
    model_to s n (moving s) n (n - 1)
