-- Laws of the checks' answers: one that is not good stands, whatever follows it.
use Prim.Native.Nat.{ℕ}
use mathlib.Core.List.{List}
use mathlib.Core.Path.{◌≡◌, refl, ap, ◌∙◌}
use Rattle.std.specs.Prelude.{Result, Ok, Err}
use Rattle.refusal.specs.declared.Refusal.{Refusal}
use Rattle.refusal.specs.Numbers.{or_else}
use Rattle.model.specs.View.{View, numbering_of}
use Rattle.model.specs.Tables.{view_of}
use Rattle.model.specs.declared.Model.{Model}
use Rattle.model.specs.Good.{model_checked}
use Rattle.model.specs.Bases.{base_checked}
use Rattle.model.specs.Poses.{positions_checked}
use Rattle.model.specs.Walk.{Passed}
use Rattle.model.specs.declared.BaseState.{BaseState}
use Rattle.model.specs.declared.Pose.{Pose}
use Rattle.outcome.specs.Refusal.{start_checked}

-- any answer but one that accepts
abbrev pub Refused : Result Unit Refusal → Type 0
Refused a = a ≡ Ok tt → ⊥

pub kept : (a next : Result Unit Refusal) → Refused a → a ≡ or_else a next
kept (Ok a) next h = absurd (h refl)
kept (Err e) next h = refl

-- ---- the start of a call: each check's answer where those before it are good

module _ (t : View) (base : BaseState) (ps : List Pose) (entries : ℕ) (a : Result Unit Refusal) where
  pub start_model : a ≡ model_checked t → Refused a → a ≡ start_checked t base ps entries
  unfolding start_checked
  start_model e h = kept a _ h ∙ ap (λ (x : Result Unit Refusal). or_else x (or_else (base_checked base) (positions_checked (numbering_of t) (λ j. (t.joint j).kind) ps entries))) e

  module _ (good : model_checked t ≡ Ok tt) where
    pub start_base : a ≡ base_checked base → Refused a → a ≡ start_checked t base ps entries
    unfolding start_checked
    start_base e h = rw good (kept a _ h ∙ ap (λ (x : Result Unit Refusal). or_else x (positions_checked (numbering_of t) (λ j. (t.joint j).kind) ps entries)) e)

or_good : (a : Result Unit Refusal) → a ≡ or_else a (Ok tt)
or_good (Ok a) = refl
or_good (Err e) = refl

-- where a walk has passed the model and its positions, only the base state is left
pub start_passed : (m : Model) (ps : List Pose) (base : BaseState) (entries : ℕ) (a : Result Unit Refusal) → Passed m ps → entries ≡ m.moving → a ≡ base_checked base → a ≡ start_checked (view_of m) base ps entries
unfolding start_checked
start_passed m ps base entries a p e h = rw (p.model, e, p.positions) (h ∙ or_good (base_checked base))
