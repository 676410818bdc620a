-- What a writable model, or a refused one, is known to be.
use Prim.Native.Nat.{ℕ, ◌-◌, ◌≤◌, ◌<◌}
use mathlib.Core.Path.{◌≡◌}
use mathlib.Core.Bool.{true, false, not, ◌&&◌, ◌||◌}
use lib.Dec.{eqb, ltb, leb}
use borrow.Author.Tests.{ltb-true, leb-true}
use Rattle.spatial.proofs.AllLaws.{all_at}
use Rattle.spatial.proofs.BoolLaws.{and_left, and_right, and_both, and_false}
use Rattle.model.specs.Tables.{entry_at}
use Rattle.model.specs.declared.JointEntry.{JointEntry}
use Rattle.model.specs.declared.Model.{Model}
use Rattle.encode.specs.Models.{counts_writable, joint_writable, joints_writable, writable}

-- the counts of a writable model
pub record Fit (n m : ℕ) : Type 0 where
  pub some : 1 ≤ n
  pub links : n ≤ 64
  pub moving : m ≤ 63

pub counts_are_fit : (id n m : ℕ) → counts_writable id n m ≡ true → Fit n m
unfolding counts_writable
counts_are_fit id n m h =
    let r = and_right (eqb id 0) (leb 1 n && (leb n 64 && leb m 63)) h in
    let q = and_right (leb 1 n) (leb n 64 && leb m 63) r in
    record {
      some = leb-true 1 n (and_left (leb 1 n) (leb n 64 && leb m 63) r);
      links = leb-true n 64 (and_left (leb n 64) (leb m 63) q);
      moving = leb-true m 63 (and_right (leb n 64) (leb m 63) q);
    }

pub counts_refused : (m : Model) → counts_writable m.id m.count m.moving ≡ false → writable m ≡ false
unfolding writable
counts_refused m h = rw h

pub joints_refused : (m : Model) → joints_writable m ≡ false → writable m ≡ false
unfolding writable
joints_refused m h = and_false (counts_writable m.id m.count m.moving) _ h

pub both_writable : (m : Model) → counts_writable m.id m.count m.moving ≡ true → joints_writable m ≡ true → writable m ≡ true
unfolding writable
both_writable m h k = and_both (counts_writable m.id m.count m.moving) (joints_writable m) h k

pub writable_fit : (m : Model) → writable m ≡ true → Fit m.count m.moving
unfolding writable
writable_fit m h = counts_are_fit m.id m.count m.moving (and_left (counts_writable m.id m.count m.moving) _ h)

-- a joint of a writable model
pub record JointFit (e : JointEntry) : Type 0 where
  pub laid : leb e.kind 2 && (not (eqb e.kind 0) || eqb e.number 65535) ≡ true
  pub parent_small : e.parent < 65536
  pub number_small : e.number < 65536

joint_fit : (e : JointEntry) → joint_writable e ≡ true → JointFit e
unfolding joint_writable
joint_fit e h =
    let k = leb e.kind 2 in
    let q = not (eqb e.kind 0) || eqb e.number 65535 in
    let p = ltb e.parent 65536 in
    let n = ltb e.number 65536 in
    let r = and_right k (q && (p && n)) h in
    let t = and_right q (p && n) r in
    record {
      laid = and_both k q (and_left k (q && (p && n)) h) (and_left q (p && n) r);
      parent_small = ltb-true e.parent 65536 (and_left p n t);
      number_small = ltb-true e.number 65536 (and_right p n t);
    }

pub writable_joint : (m : Model) (j : ℕ) → writable m ≡ true → j < m.count - 1 → JointFit (entry_at m j)
unfolding writable joints_writable
writable_joint m j h l = joint_fit _ (all_at (m.count - 1) j _ (and_right (counts_writable m.id m.count m.moving) _ h) l)
