-- Demand 3 of the three functions, over what they promise: an accepted result's figure is the same in any accepted result of a call that is
-- the same for the joint.
use Prim.Native.Nat.{ℕ}
use mathlib.Core.List.{List, []}
use mathlib.Core.Path.{◌≡◌, refl, sym, ap, ◌∙◌}
use lib.ListN.{length}
use lib.Ieee.{Float}
use Rattle.model.specs.Tables.{view_of}
use Rattle.model.specs.Numbers.{Holds}
use Rattle.model.specs.View.{numbering_of}
use Rattle.model.specs.declared.BaseState.{BaseState}
use Rattle.model.specs.declared.Model.{Model}
use Rattle.model.specs.declared.Pose.{Pose}
use Rattle.model.specs.declared.RootMode.{RootMode}
use Rattle.loads.specs.Sums.{start_sums, prepared_sums, table_loads, flat_sums}
use Rattle.loads.specs.declared.Load.{Load}
use Rattle.outcome.specs.declared.Function.{Function}
use Rattle.outcome.specs.declared.Function.TheVariants.{InverseDynamics, Gravity, VelocityProduct}
use Rattle.outcome.specs.Call.{Call, call_of}
use Rattle.outcome.specs.Outcome.{Outcome, told, outcome}
use Rattle.outcome.specs.Same.{SameFor, figure_at}
use Rattle.outcome.proofs.AcceptedLaws.{lent_carried, flat_carried, none_carried}
use Rattle.outcome.proofs.Demand3.{results_stay}

-- the calls that the functions promise to answer
abbrev pub inverse : RootMode → Model → BaseState → List Pose → ℕ → List Float → List Float → List Load → Call
inverse mode model base ps n vs ds ls = call_of InverseDynamics mode model base ps n vs ds (prepared_sums model.id model.count ls)

abbrev pub gravity : RootMode → Model → BaseState → List Pose → ℕ → List Load → Call
gravity mode model base ps n ls = call_of Gravity mode model base ps n [] [] (prepared_sums model.id model.count ls)

abbrev pub velocity : RootMode → Model → BaseState → List Pose → ℕ → List Float → Call
velocity mode model base ps n vs = call_of VelocityProduct mode model base ps n vs [] start_sums

-- with a table in three parts
abbrev pub flat : Function → RootMode → Model → BaseState → List Pose → ℕ → List Float → List Float → List ℕ → List ℕ → List Float → Call
flat f mode model base ps n vs ds ids links ws = call_of f mode model base ps n vs ds (flat_sums model.id model.count ids links ws)

-- whatever two results meet the promises of these calls and are accepted have the same figure at number n
abbrev pub Kept : ℕ → Call → Call → Type 0
Kept n c d =
    (found found' : List Float) (r r' : ℕ) (out out' : List Float) → told r out ≡ outcome c found → told r' out' ≡ outcome d found' → r ≡ 0 → r' ≡ 0 → figure_at c n out ≡ figure_at d n out'

module _ (mode mode' : RootMode) (model model' : Model) (base base' : BaseState) (ps ps' : List Pose) (entries entries' : ℕ) (n j : ℕ) (holds : Holds (numbering_of (view_of model)) n j) where
  module _ (vs vs' ds ds' : List Float) (ls ls' : List Load) where
    abbrev driven : Call
    driven = inverse mode model base ps entries vs ds ls

    abbrev driven' : Call
    driven' = inverse mode' model' base' ps' entries' vs' ds' ls'

    pub inverse_dynamics_kept : SameFor j driven ls driven' ls' → Kept n driven driven'
    inverse_dynamics_kept =
        results_stay driven driven' ls ls' (lent_carried InverseDynamics mode model base ps entries vs ds ls) (lent_carried InverseDynamics mode' model' base' ps' entries' vs' ds' ls') n j holds

  module _ (ls ls' : List Load) where
    abbrev weighed : Call
    weighed = gravity mode model base ps entries ls

    abbrev weighed' : Call
    weighed' = gravity mode' model' base' ps' entries' ls'

    pub gravity_kept : SameFor j weighed ls weighed' ls' → Kept n weighed weighed'
    gravity_kept = results_stay weighed weighed' ls ls' (lent_carried Gravity mode model base ps entries [] [] ls) (lent_carried Gravity mode' model' base' ps' entries' [] [] ls') n j holds

  module _ (vs vs' : List Float) where
    abbrev coasting : Call
    coasting = velocity mode model base ps entries vs

    abbrev coasting' : Call
    coasting' = velocity mode' model' base' ps' entries' vs'

    pub velocity_product_kept : SameFor j coasting [] coasting' [] → Kept n coasting coasting'
    velocity_product_kept =
        results_stay coasting coasting' [] [] (none_carried VelocityProduct mode model base ps entries vs [] refl start_sums []) (none_carried VelocityProduct mode' model' base' ps' entries' vs' [] refl start_sums []) n j holds

  -- inverse dynamics and gravity over tables in three parts
  module _ (f f' : Function) (vs vs' ds ds' : List Float) (ids ids' links links' : List ℕ) (ws ws' : List Float) where
    abbrev tabled : Call
    tabled = flat f mode model base ps entries vs ds ids links ws

    abbrev tabled' : Call
    tabled' = flat f' mode' model' base' ps' entries' vs' ds' ids' links' ws'

    pub flat_kept : SameFor j tabled (table_loads ids links ws (length ids)) tabled' (table_loads ids' links' ws' (length ids')) → Kept n tabled tabled'
    flat_kept same found found' r r' out out' met met' e e' =
        results_stay tabled tabled' _ _
        (flat_carried f mode model base ps entries vs ds ids links ws found (sym (ap (λ (o : Outcome). o.number) met) ∙ e))
        (flat_carried f' mode' model' base' ps' entries' vs' ds' ids' links' ws' found' (sym (ap (λ (o : Outcome). o.number) met') ∙ e'))
        n j holds same found found' r r' out out' met met' e e'
