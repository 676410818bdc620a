-- Where a writable call's record stands in a list, it is laid out as asked, and the call is read from it.
use Prim.Native.Nat.{ℕ, ◌+◌, ◌<◌}
use mathlib.Core.Path.{◌≡◌, refl}
use mathlib.Core.Bool.{true}
use mathlib.Core.List.{List}
use native.Mathlib.Omega.{arith}
use lib.ListN.{length, get_or}
use borrow.Author.Tests.{eq-eqb, ltb-true}
use Rattle.spatial.proofs.AllLaws.{all_at}
use Rattle.spatial.proofs.BoolLaws.{and_left, and_right}
use Rattle.model.specs.Bases.{base_numbers}
use Rattle.model.specs.Poses.{no_pose}
use Rattle.model.specs.declared.Model.{Model}
use Rattle.outcome.specs.declared.Function.{Function}
use Rattle.outcome.specs.declared.Function.TheVariants.{InverseDynamics, Gravity, VelocityProduct}
use Rattle.wire.proofs.StandsLaws.{Stands, Doubles, stands_left, stands_right}
use Rattle.records.specs.Places.{link_count, load_count, base_place, speeds_place, accelerations_place}
use Rattle.records.specs.Layout.{call_laid}
use Rattle.records.specs.Models.{model_in}
use Rattle.records.specs.Calls.{function_of, mode_of, base_in, entries_in, floats_in, loads_in, call_with}
use Rattle.encode.specs.Calls.{pose_floats, Asked, call_bytes, Counted, call_counts_fit, links_writable, call_writable}
use Rattle.encode.specs.Kept.{kept_model, kept_loads, kept_for}
use Rattle.encode.proofs.CallSizes.{counted, head_of, lists_of, length_head_of}
use Rattle.encode.proofs.HeadTrip as head
use Rattle.encode.proofs.ListTrip as lists

-- every number of a call is a double
pub record CallDoubles (c : Asked) : Type 0 where
  pub base : Doubles (base_numbers c.base)
  pub pose : (i : ℕ) → i < length c.positions → Doubles (pose_floats (get_or c.positions i no_pose))
  pub speeds : Doubles c.speeds
  pub accelerations : Doubles c.accelerations
  pub numbers : Doubles c.numbers

module _ (c : Asked) (w : call_writable c ≡ true) where
  pub fit : Counted c
  unfolding call_writable
  fit = counted c (and_left _ (links_writable c.links) w)

  link_small : (i : ℕ) → i < length c.links → get_or c.links i 0 < 65536
  unfolding call_writable links_writable
  link_small i l = ltb-true _ 65536 (all_at (length c.links) i _ (and_right (call_counts_fit c) _ w) l)

  abbrev m : ℕ
  m = length c.positions

  module _ (s : List ℕ) (at : ℕ) (st : Stands s at (call_bytes c)) where
    front : Stands s at (head_of c)
    unfolding call_bytes
    front = stands_left (head_of c) _ st

    rest : Stands s (at + 164) (lists_of c)
    unfolding call_bytes
    rest = stands_right (at + 164) (head_of c) _ st (omega (arith, length_head_of c))

    pub function_read : function_of (get_or s (at + 6) 0) ≡ c.function
    function_read = head.function_read s at _ _ _ _ _ fit.moving fit.few front

    pub count_read : load_count s at ≡ length c.links
    count_read = head.count_read s at _ _ _ _ _ fit.moving fit.few front

    pub call_is_laid : call_laid s at m (length c.links) ≡ true
    unfolding call_laid
    call_is_laid =
        rw (
          head.head_laid s at _ _ _ _ _ fit.moving fit.few front,
          head.function_some s at _ _ _ _ _ fit.moving fit.few front,
          head.function_few s at _ _ _ _ _ fit.moving fit.few front,
          head.mode_laid s at _ _ _ _ _ fit.moving fit.few front,
          head.entries_read s at _ _ _ _ _ fit.moving fit.few front,
          eq-eqb m m refl,
        )
        (lists.poses_laid s at c fit rest)

    mode_read : mode_of (get_or s (at + 7) 0) ≡ c.mode
    mode_read = head.mode_read s at _ _ _ _ _ fit.moving fit.few front

    base_read : CallDoubles c → base_in s (base_place at) ≡ c.base
    base_read d = head.base_read s at _ _ _ _ _ fit.moving fit.few front d.base

    positions_read : CallDoubles c → entries_in s at m ≡ c.positions
    positions_read d = lists.positions_read s at c fit rest d.pose

    speeds_read : CallDoubles c → floats_in s (speeds_place at m) m ≡ c.speeds
    speeds_read d = lists.speeds_read s at c fit rest d.speeds

    accelerations_read : CallDoubles c → floats_in s (accelerations_place at m) m ≡ c.accelerations
    accelerations_read d = lists.accelerations_read s at c fit rest d.accelerations

    loads_read : CallDoubles c → loads_in s at m (length c.links) ≡ kept_loads c.links c.numbers
    loads_read d = lists.loads_read s at c fit rest link_small d.numbers

    -- what each function keeps of a call, where the model before it is read back
    pub with_read : (t : Model) → CallDoubles c → model_in s ≡ kept_model t → link_count s ≡ t.count → (f : Function)
        → call_with s f at m (length c.links) ≡ kept_for f t c
    unfolding call_with kept_for
    with_read t d model links InverseDynamics =
        rw (mode_read, model, base_read d, positions_read d, speeds_read d, accelerations_read d, links, loads_read d)
    with_read t d model links Gravity = rw (mode_read, model, base_read d, positions_read d, links, loads_read d)
    with_read t d model links VelocityProduct = rw (mode_read, model, base_read d, positions_read d, speeds_read d)
