-- Every good model of id 0 has a record.
use Prim.Native.Nat.{ℕ, ◌-◌, ◌<◌}
use mathlib.Core.Path.{◌≡◌}
use mathlib.Core.Bool.{true}
use mathlib.Core.Logic.{⊎_elim}
use native.Mathlib.Omega.{arith}
use borrow.Author.Tests.{le-leb, lt-ltb, eq-eqb, ne_eqb}
use Rattle.spatial.proofs.AllLaws.{all_if}
use Rattle.spatial.proofs.BoolLaws.{and_both, same_or_not}
use Rattle.model.specs.Good.{GoodModel}
use Rattle.model.specs.Tables.{entry_at, view_of}
use Rattle.model.specs.declared.Model.{Model}
use Rattle.model.proofs.GoodLaws.{number_below, few_moving}
use Rattle.model.proofs.NumberLaws.{moves_fixed, moves_other}
use Rattle.encode.specs.Models.{counts_writable, joint_writable, joints_writable, writable}

module _ (m : Model) (g : GoodModel (view_of m)) where
  fixed_writable : (j : ℕ) → j < m.count - 1 → (entry_at m j).kind ≡ 0 → joint_writable (entry_at m j) ≡ true
  unfolding joint_writable
  fixed_writable j l e =
      let n = g.numbers.none j l (moves_fixed (entry_at m j).kind e) in
      rw (e, n, lt-ltb (entry_at m j).parent 65536 (let f = g.few in omega (arith, (g.joints j l).parent)))

  moving_writable : (j : ℕ) → j < m.count - 1 → ((entry_at m j).kind ≡ 0 → ⊥) → joint_writable (entry_at m j) ≡ true
  unfolding joint_writable
  moving_writable j l e =
      let f = g.few in
      rw (
        le-leb (entry_at m j).kind 2 (g.joints j l).kind,
        ne_eqb (entry_at m j).kind 0 e,
        lt-ltb (entry_at m j).parent 65536 (omega (arith, (g.joints j l).parent)),
        lt-ltb (entry_at m j).number 65536 (omega (arith, number_below (view_of m) g j l (moves_other (entry_at m j).kind e), few_moving (view_of m) g)),
      )

  pub good_writable : m.id ≡ 0 → writable m ≡ true
  unfolding writable counts_writable joints_writable
  good_writable z =
      and_both (counts_writable m.id m.count m.moving) _
      (rw (eq-eqb m.id 0 z, le-leb 1 m.count g.some, le-leb m.count 64 g.few, le-leb m.moving 63 (few_moving (view_of m) g)))
      (all_if (m.count - 1) _ (λ j l. ⊎_elim (λ e. fixed_writable j l e) (λ e. moving_writable j l e) (same_or_not (entry_at m j).kind 0)))
