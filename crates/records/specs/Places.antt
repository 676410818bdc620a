-- 01, Byte records: where the parts of a model and of the call after it stand, and how long the two are.
use Rattle.std.specs.Prelude.{ℕ, ◌+◌, ◌-◌, ◌*◌, List}
use Rattle.wire.specs.Big.{be16}

-- "Length 6 + 104n + 85(n-1)", after the 4 bytes that say it
abbrev pub model_length : ℕ → ℕ
model_length n = 6 + 104 * n + 85 * (n - 1)

-- "Length 160 + 33m + 50k"
abbrev pub call_length : ℕ → ℕ → ℕ
call_length m k = 160 + 33 * m + 50 * k

-- "link count (2 bytes), m (2)"
abbrev pub link_count : List ℕ → ℕ
link_count s = be16 s 6

abbrev pub moving : List ℕ → ℕ
moving s = be16 s 8

-- "all links, 13 floats each .. then all joints"
abbrev pub link_place : ℕ → ℕ
link_place l = 10 + 104 * l

abbrev pub joint_place : ℕ → ℕ → ℕ
joint_place n j = 10 + 104 * n + 85 * j

-- the call stands after a model of n links
abbrev pub call_place : ℕ → ℕ
call_place n = 4 + model_length n

-- "function .., mode .., 19 base floats, m, load count (2 each); m poses ..; m speeds; m accelerations; loads", in a call at place c
abbrev pub base_place : ℕ → ℕ
base_place c = c + 8

abbrev pub load_count : List ℕ → ℕ → ℕ
load_count s c = be16 s (c + 162)

abbrev pub pose_place : ℕ → ℕ → ℕ
pose_place c i = c + 164 + 17 * i

abbrev pub speeds_place : ℕ → ℕ → ℕ
speeds_place c m = c + 164 + 17 * m

abbrev pub accelerations_place : ℕ → ℕ → ℕ
accelerations_place c m = c + 164 + 25 * m

abbrev pub load_place : ℕ → ℕ → ℕ → ℕ
load_place c m i = c + 164 + 33 * m + 50 * i
