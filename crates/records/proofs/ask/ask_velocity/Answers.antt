use Rattle.std.proofs.Common.{◌≡◌, ◌∙◌, ◌+◌, ℕ, List, refl, length, get_or, []}
use lib.Ieee.{Float}
use Rattle.spatial.proofs.ListedLaws.{length_list_of}
use Rattle.loads.specs.Sums.{start_sums}
use Rattle.model.specs.declared.BaseState.{BaseState}
use Rattle.model.specs.declared.Model.{Model}
use Rattle.model.specs.declared.Pose.{Pose}
use Rattle.model.specs.declared.RootMode.{RootMode}
use Rattle.outcome.specs.Call.{call_of}
use Rattle.outcome.specs.Outcome.{outcome, told}
use Rattle.outcome.specs.declared.Function.TheVariants.{VelocityProduct}
use Rattle.records.specs.Models.{model_in}
use Rattle.records.specs.Calls.{mode_of, base_in, entries_in, positions_in, floats_in, call_with}
use Rattle.records.specs.Places.{speeds_place}
use Rattle.records.proofs.ListLaws.{front_is}
use Rattle.records.proofs.ask.ask_velocity.Goals as goal

asked : (s : List ℕ) (c m k : ℕ) (mode : RootMode) (model : Model) (base : BaseState) (positions : List Pose) (speeds : List Float) (r : ℕ) (before after : List Float)
    → mode ≡ mode_of (get_or s (c + 7) 0) → model ≡ model_in s → base ≡ base_in s (c + 8) → positions ≡ entries_in s c m
    → speeds ≡ floats_in s (speeds_place c m) m
    → told r after ≡ outcome (call_of VelocityProduct mode model base positions (length positions) speeds [] start_sums) before
    → told r after ≡ outcome (call_with s VelocityProduct c m k) before
unfolding call_with model_in
asked s c m k mode model base positions speeds r before after a b d e f q = q ∙ rw (a, b, d, e, f, length_list_of) refl

pub returns : goal.returns
unfolding positions_in
returns c =
    asked c.args.s.now c.args.call.place c.args.call.moving c.args.call.loads c.mode_of-mode.result c.model_in-model.result c.base_in-base.result _ _ _ c.args.output.now c.velocity_product_forces.new.output
    c.mode_of-mode.ensures c.model_in-model.ensures c.base_in-base.ensures (front_is _ 63 _ _ _ c.positions_in-positions.ensures c.requires.moves)
    (front_is _ 63 _ _ _ c.floats_in-speeds.ensures c.requires.moves) c.velocity_product_forces.ensures
