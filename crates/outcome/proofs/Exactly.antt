-- A call gets each number exactly when 01's line says.
use Prim.Native.Nat.{ℕ, zero, suc, ◌<◌, ◌≤◌}
use mathlib.Core.Bool.{Bool, true, false, cond, false≢true}
use mathlib.Core.List.{List}
use mathlib.Core.Logic.{◌⊎◌, inl, inr, ⊎_elim}
use mathlib.Core.Path.{◌≡◌, refl, sym, ap, subst, ◌∙◌}
use native.Mathlib.Omega.{arith}
use lib.ListN.{length}
use lib.Ieee.{Float}
use borrow.Author.Tests.{ne_eqb, eq-eqb}
use Rattle.fit.specs.Finite.{all_finite}
use Rattle.spatial.proofs.BoolLaws.{by_bool, same_or_not, upto}
use Rattle.std.specs.Prelude.{Result, Ok, Err}
use Rattle.refusal.specs.declared.Refusal.{Refusal}
use Rattle.refusal.specs.Numbers as Numbers
use Rattle.model.specs.Bases.{good_base}
use Rattle.model.specs.Good.{good_model}
use Rattle.model.specs.Lists.{list_checked}
use Rattle.model.specs.Poses.{pose_numbers, pose_fits, pose_checked}
use Rattle.refusal.specs.declared.Refusal.TheVariants.{InvalidModel, InvalidBaseState, WrongLength, InvalidPose, NonFiniteInput}
use Rattle.model.proofs.GoodLaws.{good_says, says_good, base_says, says_base, one_holder}
use Rattle.model.proofs.PoseLaws.{wrong_length}
use Rattle.loads.specs.When.{LoadsNumber}
use Rattle.outcome.specs.Call.{Call}
use Rattle.outcome.specs.Refusal.{start_checked, speeds_checked, accelerations_checked, output_length, output_checked}
use Rattle.outcome.specs.Figures.{figures}
use Rattle.outcome.specs.Outcome.{Outcome, told, outcome}
use Rattle.outcome.specs.When.{takes_speeds, takes_accelerations, takes_loads, PositionsTurn, EntriesTurn, entry, GoodEntry, EntryTurn, SpeedsTurn, GoodList, AccelerationsTurn, OutputTurn, LoadsTurn, FiguresTurn, One, Two, LoadsGive, Three, Four, Five, Six, Seven, Eight, Ten, None}
use Rattle.outcome.proofs.AnswerLaws.{Refused, start_model, start_base}
use Rattle.outcome.proofs.OutcomeLaws.{stop_start, stop_speeds, stop_accelerations, stop_output, stop_loads, go_on}
use Rattle.outcome.proofs.TurnLaws.{checked_at, positions_turn, at_holder, entry_turn, speeds_turn, list_wrong, list_infinite, speeds_taken, speeds_good, accelerations_taken, accelerations_good, loads_taken, loads_good}

denied : (b : Bool) → (b ≡ true → ⊥) → b ≡ false
denied b h = ⊎_elim (λ e. absurd (h e)) (λ e. e) (by_bool b)

-- a list that is taken is good, or too short or long, or not finite
list_cases : {X : Type 0} (taken : Bool) (xs : List Float) (m : ℕ) → ((taken ≡ true → GoodList xs m) → X) → (taken ≡ true → (length xs ≡ m → ⊥) → X) → (taken ≡ true → length xs ≡ m → all_finite xs ≡ false → X) → X
list_cases taken xs m good short infinite =
    ⊎_elim
    (λ t. ⊎_elim
    (λ e. ⊎_elim (λ f. good (λ _. record { count = e; finite = f })) (λ f. infinite t e f) (by_bool (all_finite xs)))
    (λ n. short t n) (same_or_not (length xs) m))
    (λ t. good (λ q. absurd (false≢true (sym t ∙ q)))) (by_bool taken)

module _ (c : Call) (found : List Float) where
  abbrev places : ℕ
  places = length found

  -- what is said of a call that gets n
  abbrev When : ℕ → Type 0
  When zero = None c places
  When (suc zero) = One c
  When (suc (suc zero)) = Two c
  When (suc (suc (suc zero))) = Three c places
  When (suc (suc (suc (suc zero)))) = Four c
  When (suc (suc (suc (suc (suc zero))))) = Five c places
  When (suc (suc (suc (suc (suc (suc zero)))))) = Six c places
  When (suc (suc (suc (suc (suc (suc (suc zero))))))) = Seven c places
  When (suc (suc (suc (suc (suc (suc (suc (suc zero)))))))) = Eight c places
  When (suc (suc (suc (suc (suc (suc (suc (suc (suc zero))))))))) = ⊥
  When (suc (suc (suc (suc (suc (suc (suc (suc (suc (suc zero)))))))))) = Ten c places
  When (suc (suc (suc (suc (suc (suc (suc (suc (suc (suc (suc n))))))))))) = ⊥

  abbrev Said : Type 0
  Said = (n : ℕ) × When n

  -- ---- of every call one of these is said

  from_figures : FiguresTurn c places → Said
  from_figures t = ⊎_elim {C = Said} (λ e. (0, record { turn = t; finite = e })) (λ e. (8, record { turn = t; broken = e })) (by_bool (all_finite (figures c)))

  from_loads : LoadsNumber c.loads.number → LoadsTurn c places → Said
  from_loads l t =
      ⊎_elim
      (λ k.
      ⊎_elim {C = Said} (λ e. from_figures (record { before = t; loads = λ _. e }))
      (⊎_elim {C = Said} (λ e. (3, Three.loads (record { turn = t; taken = k; number = e })))
      (⊎_elim {C = Said} (λ e. (5, Five.load (record { turn = t; taken = k; number = e })))
      (⊎_elim {C = Said} (λ e. (6, record { turn = t; taken = k; number = e }))
      (⊎_elim {C = Said} (λ e. (7, record { turn = t; taken = k; number = e })) (λ e. (10, record { turn = t; taken = k; number = e })))))) l)
      (λ k. from_figures (record { before = t; loads = λ q. absurd (false≢true (sym k ∙ q)) }))
      (by_bool (takes_loads c.function))

  module _ (l : LoadsNumber c.loads.number) where
    from_output : OutputTurn c → Said
    from_output t =
        ⊎_elim {C = Said} (λ e. from_loads l (record { before = t; output = e })) (λ n. (3, Three.output t n)) (same_or_not places (output_length c.mode c.model.moving))

    from_accelerations : AccelerationsTurn c → Said
    from_accelerations t =
        list_cases {X = Said} (takes_accelerations c.function) c.accelerations c.model.moving
        (λ g. from_output (record { before = t; accelerations = g })) (λ k n. (3, Three.accelerations t k n)) (λ k e f. (5, Five.acceleration t k e f))

    from_speeds : SpeedsTurn c → Said
    from_speeds t =
        list_cases {X = Said} (takes_speeds c.function) c.speeds c.model.moving
        (λ g. from_accelerations (record { before = t; speeds = g })) (λ k n. (3, Three.speeds t k n)) (λ k e f. (5, Five.speed t k e f))

    -- the entries before n are good, or one of them is not
    abbrev Scanned : ℕ → Type 0
    Scanned n = ((k : ℕ) → k < n → GoodEntry c k) ⊎ Said

    one_more : (n : ℕ) → EntryTurn c n → Scanned (suc n)
    one_more n t =
        let h = one_holder c.model t.before.before.model n t.inside in
        ⊎_elim {C = Scanned (suc n)}
        (λ f. ⊎_elim {C = Scanned (suc n)}
        (λ g. inl (λ k m. ⊎_elim {C = GoodEntry c k}
        (λ e j q. rw (e, h.2 j (rw e at q)) (record { finite = f; fits = g }))
        (λ m'. t.good k m') (upto n k m)))
        (λ g. inr (4, record { at = n; turn = t; finite = f; joint = h.0; holds = h.1; broken = g }))
        (by_bool (pose_fits (c.model.joint h.0).kind (entry c n))))
        (λ f. inr (5, Five.position n t f))
        (by_bool (all_finite (pose_numbers (entry c n))))

    scan : EntriesTurn c → (n : ℕ) → n ≤ c.model.moving → Scanned n
    scan t zero m = inl (λ k q. absurd (omega arith))
    scan t (suc n) m = ⊎_elim {C = Scanned (suc n)} (λ g. one_more n (record { before = t; inside = omega arith; good = g })) (λ s. inr s) (scan t n (omega arith))

    from_entries : EntriesTurn c → Said
    from_entries t = ⊎_elim {C = Said} (λ g. from_speeds (record { before = t; entries = g })) (λ s. s) (scan t c.model.moving (omega arith))

    from_positions : PositionsTurn c → Said
    from_positions t = ⊎_elim {C = Said} (λ e. from_entries (record { before = t; count = e })) (λ n. (3, Three.positions t n)) (same_or_not c.entries c.model.moving)

    said : Said
    said =
        ⊎_elim {C = Said}
        (λ m. ⊎_elim {C = Said}
        (λ b. from_positions (record { model = good_says c.model m; base = base_says c.base b }))
        (λ b. (2, record { model = good_says c.model m; base = λ g. false≢true (sym b ∙ says_base c.base g) }))
        (by_bool (good_base c.base)))
        (λ m. (1, λ g. false≢true (sym m ∙ says_good c.model g)))
        (by_bool (good_model c.model))

  -- ---- and what is said decides the number

  abbrev number : ℕ
  number = (outcome c found).number

  abbrev start : Result Unit Refusal
  start = start_checked c.model c.base c.positions c.entries

  numbered : (n : ℕ) (out : List Float) → told n out ≡ outcome c found → number ≡ n
  numbered n out e = sym (ap (λ (o : Outcome). o.number) e)

  at_start : (a : Result Unit Refusal) → Refused a → a ≡ start → number ≡ Numbers.number a
  at_start a r e = numbered (Numbers.number a) found (stop_start c found a (Numbers.number a) refl r e)

  at_speeds : SpeedsTurn c → takes_speeds c.function ≡ true → (a : Result Unit Refusal) → Refused a → a ≡ list_checked c.speeds c.model.moving → number ≡ Numbers.number a
  at_speeds t k a r e = numbered (Numbers.number a) found (stop_speeds c found (speeds_turn c t) a (Numbers.number a) refl r (e ∙ sym (speeds_taken c c.function k)))

  module _ (t : AccelerationsTurn c) where
    begun : start ≡ Ok tt
    begun = speeds_turn c t.before

    fast : speeds_checked c c.function ≡ Ok tt
    fast = speeds_good c c.function t.speeds

    at_accelerations : takes_accelerations c.function ≡ true → (a : Result Unit Refusal) → Refused a → a ≡ list_checked c.accelerations c.model.moving → number ≡ Numbers.number a
    at_accelerations k a r e = numbered (Numbers.number a) found (stop_accelerations c found begun fast a (Numbers.number a) refl r (e ∙ sym (accelerations_taken c c.function k)))

  pushed : OutputTurn c → accelerations_checked c c.function ≡ Ok tt
  pushed t = accelerations_good c c.function t.accelerations

  at_output : OutputTurn c → (places ≡ output_length c.mode c.model.moving → ⊥) → number ≡ 3
  at_output t n = numbered 3 found (stop_output c found (begun t.before) (fast t.before) (pushed t) (Err WrongLength) 3 refl (λ r. cc) (rw (ne_eqb places (output_length c.mode c.model.moving) n)))

  roomy : LoadsTurn c places → output_checked c.mode c.model.moving places ≡ Ok tt
  roomy t = rw (eq-eqb places (output_length c.mode c.model.moving) t.output)

  at_loads : (n : ℕ) → LoadsGive c places (suc n) → number ≡ suc n
  at_loads n g =
      let t = g.turn in
      let o = t.before in
      numbered (suc n) found (stop_loads c found (begun o.before) (fast o.before) (pushed o) (roomy t) (suc n) (loads_taken c c.function g.taken ∙ g.number) (λ e. omega arith))

  at_figures : FiguresTurn c places → (n : ℕ) → n ≡ cond (all_finite (figures c)) 0 8 → number ≡ n
  at_figures t n e =
      let o = t.before.before in
      numbered n (figures c) (go_on c found (begun o.before) (fast o.before) (pushed o) (roomy t.before) (loads_good c c.function t.loads) n (figures c) refl e)

  infinite : (n : ℕ) → EntryTurn c n → all_finite (pose_numbers (entry c n)) ≡ false → number ≡ 5
  unfolding pose_checked
  infinite n t f =
      let h = one_holder c.model t.before.before.model n t.inside in
      let e : checked_at c n ≡ Err NonFiniteInput = at_holder c t.before.before n h.0 h.1 ∙ rw f in
      at_start (Err NonFiniteInput) (λ r. cc) (sym e ∙ sym (entry_turn c n t (rw e (λ r. cc))))

  unfit : Four c → number ≡ 4
  unfolding pose_checked
  unfit w =
      let e : checked_at c w.at ≡ Err InvalidPose = at_holder c w.turn.before.before w.at w.joint w.holds ∙ rw (w.finite, w.broken) in
      at_start (Err InvalidPose) (λ r. cc) (sym e ∙ sym (entry_turn c w.at w.turn (rw e (λ r. cc))))

  decided : (n : ℕ) → When n → number ≡ n
  decided zero w = at_figures w.turn 0 (rw w.finite)
  decided (suc zero) w =
      at_start (Err InvalidModel) (λ r. cc) (start_model _ _ _ _ (Err InvalidModel) (rw (denied (good_model c.model) (λ e. w (good_says c.model e)))) (λ r. cc))
  decided (suc (suc zero)) w =
      at_start (Err InvalidBaseState) (λ r. cc)
      (start_base _ _ _ _ (Err InvalidBaseState) (rw (says_good c.model w.model)) (rw (denied (good_base c.base) (λ e. w.base (base_says c.base e)))) (λ r. cc))
  decided (suc (suc (suc zero))) (Three.positions t n) = at_start (Err WrongLength) (λ r. cc) (wrong_length _ _ _ _ n ∙ sym (positions_turn c t))
  decided (suc (suc (suc zero))) (Three.speeds t k n) = at_speeds t k (Err WrongLength) (λ r. cc) (list_wrong _ _ n)
  decided (suc (suc (suc zero))) (Three.accelerations t k n) = at_accelerations t k (Err WrongLength) (λ r. cc) (list_wrong _ _ n)
  decided (suc (suc (suc zero))) (Three.output t n) = at_output t n
  decided (suc (suc (suc zero))) (Three.loads g) = at_loads 2 g
  decided (suc (suc (suc (suc zero)))) w = unfit w
  decided (suc (suc (suc (suc (suc zero))))) (Five.position n t f) = infinite n t f
  decided (suc (suc (suc (suc (suc zero))))) (Five.speed t k e f) = at_speeds t k (Err NonFiniteInput) (λ r. cc) (list_infinite _ _ e f)
  decided (suc (suc (suc (suc (suc zero))))) (Five.acceleration t k e f) = at_accelerations t k (Err NonFiniteInput) (λ r. cc) (list_infinite _ _ e f)
  decided (suc (suc (suc (suc (suc zero))))) (Five.load g) = at_loads 4 g
  decided (suc (suc (suc (suc (suc (suc zero)))))) w = at_loads 5 w
  decided (suc (suc (suc (suc (suc (suc (suc zero))))))) w = at_loads 6 w
  decided (suc (suc (suc (suc (suc (suc (suc (suc zero)))))))) w = at_figures w.turn 8 (rw w.broken)
  decided (suc (suc (suc (suc (suc (suc (suc (suc (suc zero))))))))) w = absurd w
  decided (suc (suc (suc (suc (suc (suc (suc (suc (suc (suc zero)))))))))) w = at_loads 9 w
  decided (suc (suc (suc (suc (suc (suc (suc (suc (suc (suc (suc n))))))))))) w = absurd w

  -- ---- the law: a number is given exactly when its line is said

  module _ (l : LoadsNumber c.loads.number) where
    exactly : (n : ℕ) → (number ≡ n → When n) × (When n → number ≡ n)
    exactly n = (λ e. subst When (sym (decided (said l).0 (said l).1) ∙ e) (said l).1, decided n)

    pub none : (number ≡ 0 → None c places) × (None c places → number ≡ 0)
    none = exactly 0

    pub one : (number ≡ 1 → One c) × (One c → number ≡ 1)
    one = exactly 1

    pub two : (number ≡ 2 → Two c) × (Two c → number ≡ 2)
    two = exactly 2

    pub three : (number ≡ 3 → Three c places) × (Three c places → number ≡ 3)
    three = exactly 3

    pub four : (number ≡ 4 → Four c) × (Four c → number ≡ 4)
    four = exactly 4

    pub five : (number ≡ 5 → Five c places) × (Five c places → number ≡ 5)
    five = exactly 5

    pub six : (number ≡ 6 → Six c places) × (Six c places → number ≡ 6)
    six = exactly 6

    pub seven : (number ≡ 7 → Seven c places) × (Seven c places → number ≡ 7)
    seven = exactly 7

    pub eight : (number ≡ 8 → Eight c places) × (Eight c places → number ≡ 8)
    eight = exactly 8

    pub ten : (number ≡ 10 → Ten c places) × (Ten c places → number ≡ 10)
    ten = exactly 10
