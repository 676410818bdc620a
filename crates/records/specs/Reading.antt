-- The bounds within which the parts of a model and of a call at place c are read.
use Rattle.std.specs.Prelude.{ℕ, ◌≤◌, List, length}
use Rattle.records.specs.Places.{link_count, call_place, load_place}

pub record Readable (s : List ℕ) (c m k : ℕ) : Type 0 where
  pub some : 1 ≤ link_count s
  pub few : link_count s ≤ 64
  pub model : call_place (link_count s) ≤ length s
  pub place : c ≤ 20000
  pub moves : m ≤ 63
  pub loads : k ≤ 256
  pub size : load_place c m k ≤ length s
