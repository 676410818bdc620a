use Rattle.std.proofs.Common.{◌≡◌, ◌∙◌, ◌+◌, ℕ, List, refl, length, get_or, []}
use lib.Ieee.{Float}
use Rattle.spatial.proofs.ListedLaws.{length_list_of}
use Rattle.loads.specs.Sums.{LoadSums, prepared_sums}
use Rattle.model.specs.declared.BaseState.{BaseState}
use Rattle.model.specs.declared.Model.{Model}
use Rattle.model.specs.declared.Pose.{Pose}
use Rattle.model.specs.declared.RootMode.{RootMode}
use Rattle.outcome.specs.Call.{call_of}
use Rattle.outcome.specs.Outcome.{outcome, told}
use Rattle.outcome.specs.declared.Function.TheVariants.{Gravity}
use Rattle.records.specs.Models.{model_in}
use Rattle.records.specs.Calls.{mode_of, base_in, entries_in, positions_in, loads_in, call_with}
use Rattle.records.proofs.ListLaws.{front_is}
use Rattle.records.proofs.ask.ask_gravity.Goals as goal

asked : (s : List ℕ) (c m k : ℕ) (mode : RootMode) (model : Model) (base : BaseState) (positions : List Pose) (sums : LoadSums) (r : ℕ) (before after : List Float)
    → mode ≡ mode_of (get_or s (c + 7) 0) → model ≡ model_in s → base ≡ base_in s (c + 8) → positions ≡ entries_in s c m
    → sums ≡ prepared_sums 0 model.count (loads_in s c m k)
    → told r after ≡ outcome (call_of Gravity mode model base positions (length positions) [] [] sums) before
    → told r after ≡ outcome (call_with s Gravity c m k) before
unfolding call_with model_in
asked s c m k mode model base positions sums r before after a b d e h q = q ∙ rw (h, a, b, d, e, length_list_of) refl

pub returns : goal.returns
unfolding positions_in
returns c =
    asked c.args.s.now c.args.call.place c.args.call.moving c.args.call.loads c.mode_of-mode.result c.model_in-model.result c.base_in-base.result _ _ _ c.args.output.now c.gravity_lent.new.output
    c.mode_of-mode.ensures c.model_in-model.ensures c.base_in-base.ensures (front_is _ 63 _ _ _ c.positions_in-positions.ensures c.requires.moves)
    c.sums_in-loaded.ensures c.gravity_lent.ensures
