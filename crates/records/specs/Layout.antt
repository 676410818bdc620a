-- 01, refusal 9: "a byte record breaks its layout".
use Rattle.std.specs.Prelude.{ℕ, ◌+◌, ◌-◌, ◌≤◌, ◌≡◌, Bool, true, not, ◌&&◌, ◌||◌, List, Result, eqb, leb, length, get_or}
use Rattle.spatial.specs.All.{all}
use Rattle.wire.specs.Big.{be16, be32, be64}
use Rattle.refusal.specs.declared.Refusal.{Refusal}
use Rattle.refusal.specs.declared.Refusal.TheVariants.{InvalidRecord}
use Rattle.refusal.specs.Numbers.{unless}
use Rattle.records.specs.Places.{model_length, call_length, link_count, moving, joint_place, call_place, load_count, pose_place}

-- "first a 4-byte length of what follows, then version byte 1, then kind"
unfoldable pub headed : List ℕ → ℕ → ℕ → ℕ → Bool
headed s at length kind = eqb (be32 s at) length && (eqb (get_or s (at + 4) 0) 1 && eqb (get_or s (at + 5) 0) kind)

-- "joint kind .., a fixed joint's number other than 65535"
unfoldable pub joint_laid : List ℕ → ℕ → Bool
joint_laid s at = leb (get_or s at 0) 2 && (not (eqb (get_or s at 0) 0) || eqb (be16 s (at + 3)) 65535)

-- "tag, a tag 2 second float other than +0 bits"
unfoldable pub pose_laid : List ℕ → ℕ → Bool
pose_laid s at = eqb (get_or s at 0) 1 || (eqb (get_or s at 0) 2 && eqb (be64 s (at + 9)) 0)

-- "A link count of 0 or above 64, a model's m above 63 .. A call's k above 256 is 9"
unfoldable pub counted : ℕ → ℕ → ℕ → Bool
counted n m k = leb 1 n && (leb n 64 && (leb m 63 && leb k 256))

-- a model of n links at the front
unfoldable pub model_laid : List ℕ → ℕ → Bool
model_laid s n = headed s 0 (model_length n) 1 && all (n - 1) (λ j. joint_laid s (joint_place n j))

-- "function, mode .. or a call's m unlike the model's": a call at place c, for m moving joints and k loads
unfoldable pub call_laid : List ℕ → ℕ → ℕ → ℕ → Bool
call_laid s c m k =
    headed s c (call_length m k) 2
    && (leb 1 (get_or s (c + 6) 0) && (leb (get_or s (c + 6) 0) 3 && (leb (get_or s (c + 7) 0) 1 && (eqb (be16 s (c + 160)) m && all m (λ i. pose_laid s (pose_place c i))))))

-- "one model and one call, nothing after them"
unfoldable pub laid : List ℕ → Bool
laid s =
    let n = link_count s in
    let m = moving s in
    let c = call_place n in
    let k = load_count s c in
    counted n m k && (eqb (length s) (c + (4 + call_length m k)) && (model_laid s n && call_laid s c m k))

-- ---- what a kept layout says

pub record Laid (s : List ℕ) (n m k : ℕ) : Type 0 where
  pub some : 1 ≤ n
  pub few : n ≤ 64
  pub moves : m ≤ 63
  pub loads : k ≤ 256
  pub size : length s ≡ call_place n + (4 + call_length m k)
  pub model : model_laid s n ≡ true
  pub call : call_laid s (call_place n) m k ≡ true

-- by the counts that the two records name
abbrev pub LaidBytes : List ℕ → Type 0
LaidBytes s = Laid s (link_count s) (moving s) (load_count s (call_place (link_count s)))

-- ---- the check's answer

-- "9: a byte record breaks its layout"
abbrev pub layout_checked : List ℕ → Result Unit Refusal
layout_checked s = unless (laid s) InvalidRecord
