-- Demand 3: a joint's figure depends on nothing but its way to the root and what hangs on it, over the outcomes of accepted calls.
use Prim.Native.Nat.{ℕ, suc, ◌<◌, ◌≤◌}
use mathlib.Core.Bool.{true}
use mathlib.Core.List.{List, foldl}
use mathlib.Core.Logic.{inl}
use mathlib.Core.Path.{◌≡◌, refl, sym, ap, ◌∙◌}
use native.Mathlib.Omega.{arith}
use lib.ListN.{get_or}
use lib.Ieee.{Float, nan}
use Rattle.spatial.specs.Constants.{standard_gravity, zero_twist, zero_vector, zero_wrench}
use Rattle.spatial.specs.Past.{no_wrench}
use Rattle.spatial.specs.Wrenches.{wrench_sum}
use Rattle.spatial.specs.declared.Vector3.{Vector3}
use Rattle.spatial.specs.declared.Wrench.{Wrench}
use Rattle.tree.specs.Ways.{here}
use Rattle.model.specs.Good.{GoodModel}
use Rattle.model.specs.Numbers.{Holds}
use Rattle.model.specs.Poses.{no_pose}
use Rattle.model.specs.View.{joint_count, moves, numbering_of}
use Rattle.model.specs.declared.Joint.{Joint}
use Rattle.model.specs.declared.JointType.{JointType}
use Rattle.model.specs.declared.JointType.TheVariants.{Fixed as FixedJoint, Revolute, Prismatic}
use Rattle.model.proofs.GoodLaws.{parent_first, number_below, number_apart}
use Rattle.loads.specs.declared.Load.{Load}
use Rattle.loads.specs.Sums.{LoadSums}
use Rattle.loads.proofs.LinkSums.{link_sum}
use Rattle.dynamics.specs.Runs.{value_in}
use Rattle.dynamics.specs.Motions.{root_motion}
use Rattle.dynamics.specs.Weights.{turned}
use Rattle.dynamics.specs.Run.{Run, Fit}
use Rattle.dynamics.specs.Same.{SamePosed, SameDriven, Same}
use Rattle.dynamics.specs.declared.Motion.{Motion}
use Rattle.dynamics.proofs.RunLocal.{inverse_stays, gravity_stays}
use Rattle.outcome.specs.declared.Function.{Function}
use Rattle.outcome.specs.declared.Function.TheVariants.{InverseDynamics, Gravity, VelocityProduct}
use Rattle.outcome.specs.Call.{Call}
use Rattle.outcome.specs.Figures.{run_of, loaded, still, in_mode, solved}
use Rattle.outcome.specs.Outcome.{Outcome, told, outcome}
use Rattle.outcome.specs.When.{takes_speeds, takes_accelerations, takes_loads}
use Rattle.outcome.specs.Same.{HangsOn, loads_on, Carries, SameJoint, SamePart, SameFor, figure_at, Stays}
use Rattle.outcome.proofs.AcceptedLaws.{model_is, output_is, loads_are, figure_is}

-- ---- the runs of two calls

-- what stands at the root, and a joint's speed
abbrev inverse_root : Call → Motion
inverse_root c = root_motion c.base.frame.rotation (in_mode c.mode c.base.velocity) (in_mode c.mode c.base.acceleration) standard_gravity

abbrev gravity_root : Call → Vector3
gravity_root c = turned c.base.frame.rotation standard_gravity

abbrev velocity_root : Call → Motion
velocity_root c = root_motion c.base.frame.rotation (in_mode c.mode c.base.velocity) zero_twist zero_vector

abbrev speed_of : Call → ℕ → Float
speed_of c i = value_in (c.model.joint i).kind (c.model.joint i).number c.speeds

fits : (c : Call) → GoodModel c.model → (acceleration : ℕ → Float) (load : ℕ → Wrench) → Fit (run_of c acceleration load) c.model.moving
fits c g acceleration load = record { some = g.some; few = g.few; tree = parent_first c.model g; inside = number_below c.model g; apart = number_apart c.model g }

value_same : (x y : Joint) → x ≡ y → (xs ys : List Float) → (moves x.kind ≡ true → get_or xs x.number nan ≡ get_or ys x.number nan) → moves x.kind ≡ true → value_in x.kind x.number xs ≡ value_in y.kind y.number ys
unfolding value_in
value_same x y e xs ys h m = by_kind x.kind refl ∙ ap (λ (z : Joint). value_in z.kind z.number ys) e
  where
    by_kind : (k : JointType) → x.kind ≡ k → value_in k x.number xs ≡ value_in k x.number ys
    by_kind FixedJoint q = refl
    by_kind Revolute q = h m
    by_kind Prismatic q = h m

module _ (c d : Call) (ls ms : List Load) (carries : Carries c ls) (carries' : Carries d ms) (found found' : List Float)
    (ok : (outcome c found).number ≡ 0) (ok' : (outcome d found').number ≡ 0)
    (n j : ℕ) (holds : Holds (numbering_of c.model) n j) (same : SameFor j c ls d ms) where
  g : GoodModel c.model
  g = model_is c found ok

  g' : GoodModel d.model
  g' = model_is d found' ok'

  posed_same : (i : ℕ) → SameJoint c d i → (a a' : ℕ → Float) (l l' : ℕ → Wrench) → SamePosed (run_of c a l) (run_of d a' l') i
  posed_same i s a a' l l' = record { joint = s.joint; pose = λ m. s.pose m ∙ ap (λ (x : Joint). get_or d.positions x.number no_pose) s.joint }

  load_same : takes_loads c.function ≡ true → (i : ℕ) → HangsOn c.model d.model j i → get_or c.loads.sums (suc i) no_wrench ≡ get_or d.loads.sums (suc i) no_wrench
  load_same t i h =
      let part : SamePart c ls d ms i = same.what_hangs_on_it i h in
      sum_is c ls carries g.few (loads_are c found ok) t part.first
      ∙ ap (foldl wrench_sum zero_wrench) (part.loads t)
      ∙ sym (sum_is d ms carries' g'.few (loads_are d found' ok') (sym (ap takes_loads same.function) ∙ t) part.second)
    where
      sum_is : (e : Call) (ks : List Load) → Carries e ks → e.model.count ≤ 64 → (takes_loads e.function ≡ true → e.loads.number ≡ 0) → takes_loads e.function ≡ true → i < joint_count e.model → get_or e.loads.sums (suc i) no_wrench ≡ foldl wrench_sum zero_wrench (loads_on (suc i) ks)
      sum_is e ks carried few none taken inside =
          let k = carried taken in
          ap (λ (s : LoadSums). get_or s.sums (suc i) no_wrench) k.1
          ∙ link_sum k.0 e.model.count ks (sym (ap (λ (s : LoadSums). s.number) k.1) ∙ none taken) (suc i) (omega arith)

  itself : SamePart c ls d ms j
  itself = same.what_hangs_on_it j (inl (holds.inside, here))

  -- one law for the three functions, by what each takes of a joint, and its loads
  module _ (Taken : Run → Run → ℕ → Type 0) (a a' : ℕ → Float) (l l' : ℕ → Wrench) where
    run_same : ((i : ℕ) → SameJoint c d i → Taken (run_of c a l) (run_of d a' l') i) → ((i : ℕ) → HangsOn c.model d.model j i → l (suc i) ≡ l' (suc i)) → {S : Type 0} (root root' : S) → root ≡ root' → Same Taken (run_of c a l) root (run_of d a' l') root' j
    run_same joints loads root root' e =
        record {
          base = e;
          joints_from_the_root_to_it = λ i o. joints i (same.way_to_the_root i o);
          those_beyond_it = λ i h. joints i (same.what_hangs_on_it i h).joint;
          are_in_both = λ i h. ((same.what_hangs_on_it i h).first, (same.what_hangs_on_it i h).second);
          links_beyond_it = λ i h. (same.what_hangs_on_it i h).link;
          with_the_same_loads = loads;
        }

  speed_same : takes_speeds c.function ≡ true → (i : ℕ) → SameJoint c d i → moves (c.model.joint i).kind ≡ true → speed_of c i ≡ speed_of d i
  speed_same t i s = value_same _ _ s.joint c.speeds d.speeds (λ m. s.speed m t)

  solved_same : (f : Function) → c.function ≡ f → (solved c f).joint j ≡ (solved d f).joint j
  solved_same InverseDynamics e =
      (inverse_stays (loaded c) (loaded d) c.model.moving (fits c g _ _) (inverse_root c) (inverse_root d) d.model.moving (fits d g' _ _) j holds.inside
      (run_same SameDriven _ _ _ _
      (λ i s. record {
        posed = posed_same i s _ _ _ _;
        speed = speed_same (ap takes_speeds e) i s;
        acceleration = value_same _ _ s.joint c.accelerations d.accelerations (λ m. s.acceleration m (ap takes_accelerations e));
      })
      (load_same (ap takes_loads e)) (inverse_root c) (inverse_root d) (rw (same.base, same.mode)))
      ).figure
  solved_same Gravity e =
      (gravity_stays (loaded c) (loaded d) c.model.moving (fits c g _ _) (gravity_root c) (gravity_root d) d.model.moving (fits d g' _ _) j holds.inside
      (run_same SamePosed _ _ _ _ (λ i s. posed_same i s _ _ _ _) (load_same (ap takes_loads e)) (gravity_root c) (gravity_root d) (rw same.base))
      ).figure
  solved_same VelocityProduct e =
      (inverse_stays (still c) (still d) c.model.moving (fits c g _ _) (velocity_root c) (velocity_root d) d.model.moving (fits d g' _ _) j holds.inside
      (run_same SameDriven _ _ _ _
      (λ i s. record { posed = posed_same i s _ _ _ _; speed = speed_same (ap takes_speeds e) i s; acceleration = λ m. refl })
      (λ i h. refl) (velocity_root c) (velocity_root d) (rw (same.base, same.mode)))
      ).figure

  held : Holds (numbering_of d.model) n j
  held =
      let e = itself.joint.joint in
      record {
        inside = itself.second;
        moving = sym (ap (λ (x : Joint). moves x.kind) e) ∙ holds.moving;
        number = sym (ap (λ (x : Joint). x.number) e) ∙ holds.number;
      }

  pub figure_stays : Stays n j c d found found'
  figure_stays =
      record {
        held = held;
        figure =
            ap (figure_at c n) (output_is c found ok)
            ∙ figure_is c g n j holds
            ∙ solved_same c.function refl
            ∙ ap (λ (f : Function). (solved d f).joint j) same.function
            ∙ sym (figure_is d g' n j held)
            ∙ sym (ap (figure_at d n) (output_is d found' ok'));
      }

-- whatever results meet the promises of two such calls, both accepted, have the same figure
pub results_stay : (c d : Call) (ls ms : List Load) → Carries c ls → Carries d ms → (n j : ℕ) → Holds (numbering_of c.model) n j → SameFor j c ls d ms → (found found' : List Float) (r r' : ℕ) (out out' : List Float) → told r out ≡ outcome c found → told r' out' ≡ outcome d found' → r ≡ 0 → r' ≡ 0 → figure_at c n out ≡ figure_at d n out'
results_stay c d ls ms carries carries' n j holds same found found' r r' out out' met met' e e' =
    ap (λ (o : Outcome). figure_at c n o.output) met
    ∙ (figure_stays c d ls ms carries carries' found found' (sym (ap (λ (o : Outcome). o.number) met) ∙ e) (sym (ap (λ (o : Outcome). o.number) met') ∙ e') n j holds same).figure
    ∙ sym (ap (λ (o : Outcome). figure_at d n o.output) met')
