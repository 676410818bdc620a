-- A list of loads gets each number exactly when 01's line says.
use Prim.Native.Nat.{ℕ, zero, suc, ◌*◌, ◌<◌}
use mathlib.Core.Bool.{Bool, true, false, ◌&&◌, false≢true}
use mathlib.Core.List.{List, [], ◌∷◌}
use mathlib.Core.Logic.{◌⊎◌, inl, inr, ⊎_elim}
use mathlib.Core.Path.{◌≡◌, refl, sym, ◌∙◌}
use native.Mathlib.Omega.{arith}
use lib.Dec.{ltb, leb, eqb}
use lib.Ieee.{Float}
use lib.ListN.{length, take}
use borrow.Author.Tests.{ltb-true, leb-true, leb-false, eqb-true, lt-ltb, le-leb, lt-leb, eq-eqb}
use Rattle.fit.specs.Finite.{all_finite, wrench_numbers}
use Rattle.spatial.proofs.BoolLaws.{and_both, and_left, and_right, by_bool}
use Rattle.loads.specs.declared.Load.{Load}
use Rattle.loads.specs.Sums.{LoadSums}
use Rattle.refusal.specs.declared.Refusal.TheVariants.{InvalidLinkId, NonFiniteInput, NonFiniteLoadSum}
use Rattle.refusal.specs.Numbers as Numbers
use Rattle.refusal.specs.Numbers.{unless}
use Rattle.loads.specs.Checks.{or_else, link_checked, wrench_checked, sum_checked, amount_checked, table_checked}
use Rattle.loads.specs.Sums.{sum_at, sum_step, sum_from, start_sums, load_sums, prepared_sums, table_loads, flat_sums}
use Rattle.loads.specs.When.{TooMany, load_in, Turn, OfModel, Unknown, NotFinite, SumNotFinite, Fitting, LoadsNumber}
use Rattle.loads.proofs.SumLaws.{step_kept, start_number}

-- ---- one load: its three tests decide the number

unfoldable chosen : Bool → Bool → Bool → ℕ
chosen a b c = or_else (Numbers.number (unless a InvalidLinkId)) (or_else (Numbers.number (unless b NonFiniteInput)) (Numbers.number (unless c NonFiniteLoadSum)))

is_six : (a b c : Bool) → (chosen a b c ≡ 6 → a ≡ false) × (a ≡ false → chosen a b c ≡ 6)
unfolding chosen
is_six true true true = (λ e. absurd (omega arith), λ e. cc)
is_six true true false = (λ e. absurd (omega arith), λ e. cc)
is_six true false c = (λ e. absurd (omega arith), λ e. cc)
is_six false b c = (λ e. refl, λ e. refl)

is_five : (a b c : Bool) → (chosen a b c ≡ 5 → (a ≡ true) × (b ≡ false)) × (a ≡ true → b ≡ false → chosen a b c ≡ 5)
unfolding chosen
is_five true true true = (λ e. absurd (omega arith), λ e f. cc)
is_five true true false = (λ e. absurd (omega arith), λ e f. cc)
is_five true false c = (λ e. (refl, refl), λ e f. refl)
is_five false b c = (λ e. absurd (omega arith), λ e f. cc)

is_seven : (a b c : Bool) → (chosen a b c ≡ 7 → (a ≡ true) × (b ≡ true) × (c ≡ false)) × (a ≡ true → b ≡ true → c ≡ false → chosen a b c ≡ 7)
unfolding chosen
is_seven true true true = (λ e. absurd (omega arith), λ e f g. cc)
is_seven true true false = (λ e. (refl, refl, refl), λ e f g. refl)
is_seven true false c = (λ e. absurd (omega arith), λ e f g. cc)
is_seven false b c = (λ e. absurd (omega arith), λ e f g. cc)

some_number : (a b c : Bool) (n : ℕ) → chosen a b c ≡ suc n → (suc n ≡ 5) ⊎ ((suc n ≡ 6) ⊎ (suc n ≡ 7))
unfolding chosen
some_number true true true n e = absurd (omega arith)
some_number true true false n e = inr (inr (sym e))
some_number true false c n e = inl (sym e)
some_number false b c n e = inr (inl (sym e))

module _ (id links : ℕ) where
  abbrev known : Load → Bool
  known l = eqb l.id id && (ltb l.link links && ltb l.link 64)

  known_says : (l : Load) → known l ≡ true → OfModel id links l
  known_says l h =
      let k : (ltb l.link links && ltb l.link 64) ≡ true = and_right (eqb l.id id) _ h in
      record {
        same = eqb-true l.id id (and_left (eqb l.id id) _ h);
        below = ltb-true l.link links (and_left (ltb l.link links) _ k);
        small = ltb-true l.link 64 (and_right (ltb l.link links) _ k);
      }

  says_known : (l : Load) → OfModel id links l → known l ≡ true
  says_known l m = and_both _ _ (eq-eqb _ _ m.same) (and_both _ _ (lt-ltb _ _ m.below) (lt-ltb _ _ m.small))

  unknown : (l : Load) → (OfModel id links l → ⊥) → known l ≡ false
  unknown l h = ⊎_elim (λ e. absurd (h (known_says l e))) (λ e. e) (by_bool (known l))

  -- the number after one load more
  abbrev next : LoadSums → Load → ℕ
  next s l = (sum_step id links s l).number

  next_is : (s : LoadSums) (l : Load) → s.number ≡ 0 → next s l ≡ chosen (known l) (all_finite (wrench_numbers l.wrench)) (all_finite (wrench_numbers (sum_at s l)))
  unfolding sum_step link_checked wrench_checked sum_checked chosen
  next_is s l z = rw z

  -- ---- the law of a list: the first load that refuses decides

  abbrev after : LoadSums → List Load → LoadSums
  after s ls = sum_from id links s ls

  record First (s : LoadSums) (ls : List Load) (n : ℕ) : Type 0 where
    at : ℕ
    inside : at < length ls
    before : (after s (take at ls)).number ≡ 0
    refuses : next (after s (take at ls)) (load_in ls at) ≡ n

  pub stays : (k : ℕ) (ls : List Load) (s : LoadSums) → s.number ≡ suc k → (after s ls).number ≡ suc k
  unfolding sum_from
  stays k [] s e = e
  stays k (l ∷ ls) s e = stays k ls (sum_step id links s l) (rw (step_kept id links s l (λ z. omega arith)) e)

  refused : (k : ℕ) (ls : List Load) (s : LoadSums) → s.number ≡ 0 → (after s ls).number ≡ suc k → First s ls (suc k)
  unfolding sum_from
  refused k [] s z e = absurd (omega arith)
  refused k (l ∷ ls) s z e = go (next s l) refl (λ q. refused k ls (sum_step id links s l) q e)
    where
      go : (n : ℕ) → next s l ≡ n → (next s l ≡ 0 → First (sum_step id links s l) ls (suc k)) → First s (l ∷ ls) (suc k)
      go zero q later =
          let r = later q in
          record { at = suc r.at; inside = omega (arith, r.inside); before = r.before; refuses = r.refuses }
      go (suc n) q later = record { at = 0; inside = omega arith; before = z; refuses = q ∙ sym (stays n ls (sum_step id links s l) q) ∙ e }

  refuses : (k : ℕ) (ls : List Load) (s : LoadSums) (i : ℕ) → i < length ls → next (after s (take i ls)) (load_in ls i) ≡ suc k → (after s ls).number ≡ suc k
  unfolding sum_from
  refuses k [] s i h e = absurd (omega arith)
  refuses k (l ∷ ls) s zero h e = stays k ls (sum_step id links s l) e
  refuses k (l ∷ ls) s (suc i) h e = refuses k ls (sum_step id links s l) i (omega arith) e

-- ---- "10; loads in turn, each 6, 5, 7"

module _ (id links : ℕ) (ls : List Load) where
  abbrev number : ℕ
  number = (prepared_sums id links ls).number

  few_is : leb (length ls) 256 ≡ true → number ≡ (load_sums id links ls).number
  unfolding prepared_sums amount_checked
  few_is h = rw (number, h)

  many_is : leb (length ls) 256 ≡ false → number ≡ 10
  unfolding prepared_sums amount_checked
  many_is h = rw (number, h)

  -- what the tests of load i say, after those before it
  abbrev told : ℕ → ℕ
  told i = chosen (known id links (load_in ls i)) (all_finite (wrench_numbers (load_in ls i).wrench)) (all_finite (wrench_numbers (sum_at (load_sums id links (take i ls)) (load_in ls i))))

  record InTurn (n : ℕ) : Type 0 where
    at : ℕ
    turn : Turn id links ls at
    says : told at ≡ n

  stopped : (k : ℕ) → number ≡ suc k → (TooMany ls × (suc k ≡ 10)) ⊎ InTurn (suc k)
  unfolding load_sums
  stopped k e = ⊎_elim few many (by_bool (leb (length ls) 256))
    where
      few : leb (length ls) 256 ≡ true → (TooMany ls × (suc k ≡ 10)) ⊎ InTurn (suc k)
      few h =
          let r = refused id links k ls start_sums start_number (sym (few_is h) ∙ e) in
          inr (record {
            at = r.at;
            turn = record { few = leb-true _ _ h; inside = r.inside; before = r.before };
            says = sym (next_is id links _ (load_in ls r.at) r.before) ∙ r.refuses;
          })

      many : leb (length ls) 256 ≡ false → (TooMany ls × (suc k ≡ 10)) ⊎ InTurn (suc k)
      many h = inl (leb-false _ _ h, sym e ∙ many_is h)

  stops : (k : ℕ) → InTurn (suc k) → number ≡ suc k
  unfolding load_sums
  stops k r = few_is (le-leb _ _ r.turn.few) ∙ (refuses id links k ls start_sums r.at r.turn.inside (next_is id links _ (load_in ls r.at) r.turn.before ∙ r.says))

  refusing : (k : ℕ) → InTurn (suc k) → (suc k ≡ 5) ⊎ ((suc k ≡ 6) ⊎ (suc k ≡ 7))
  refusing k r = some_number _ _ _ k r.says

  in_turn : (k : ℕ) → (suc k ≡ 10 → ⊥) → number ≡ suc k → InTurn (suc k)
  in_turn k h e = ⊎_elim (λ m. absurd (h m.1)) (λ r. r) (stopped k e)

  -- "10: more than 256 loads"
  pub ten : (number ≡ 10 → TooMany ls) × (TooMany ls → number ≡ 10)
  ten = (λ e. ⊎_elim (λ m. m.0) (λ r. absurd (⊎_elim (λ q. omega arith) (⊎_elim (λ q. omega arith) (λ q. omega arith)) (refusing 9 r))) (stopped 9 e), λ m. many_is (lt-leb _ _ m))

  -- "6: a load's id or link is not the model's"
  pub six : (number ≡ 6 → Unknown id links ls) × (Unknown id links ls → number ≡ 6)
  six = (
    λ e. let r = in_turn 5 (λ q. omega arith) e in
        record { at = r.at; turn = r.turn; broken = λ m. false≢true (sym ((is_six _ _ _).0 r.says) ∙ says_known id links _ m) },
    λ u. stops 5 (record { at = u.at; turn = u.turn; says = (is_six _ _ _).1 (unknown id links (load_in ls u.at) u.broken) }),
  )

  -- "5: a .. load is not finite"
  pub five : (number ≡ 5 → NotFinite id links ls) × (NotFinite id links ls → number ≡ 5)
  five = (
    λ e. let r = in_turn 4 (λ q. omega arith) e in
        let t = (is_five _ _ _).0 r.says in
        record { at = r.at; turn = r.turn; known = known_says id links _ t.0; broken = t.1 },
    λ u. stops 4 (record { at = u.at; turn = u.turn; says = (is_five _ _ _).1 (says_known id links (load_in ls u.at) u.known) u.broken }),
  )

  -- "7: a load sum is not finite"
  pub seven : (number ≡ 7 → SumNotFinite id links ls) × (SumNotFinite id links ls → number ≡ 7)
  seven = (
    λ e. let r = in_turn 6 (λ q. omega arith) e in
        let t = (is_seven _ _ _).0 r.says in
        record { at = r.at; turn = r.turn; known = known_says id links _ t.0; finite = t.1; broken = t.2 },
    λ u. stops 6 (record { at = u.at; turn = u.turn; says = (is_seven _ _ _).1 (says_known id links (load_in ls u.at) u.known) u.finite u.broken }),
  )

  never_three : number ≡ 3 → ⊥
  never_three e = ⊎_elim (λ q. omega arith) (⊎_elim (λ q. omega arith) (λ q. omega arith)) (refusing 2 (in_turn 2 (λ q. omega arith) e))

  -- no other number
  pub prepared_number : LoadsNumber number
  prepared_number = go number refl
    where
      go : (n : ℕ) → number ≡ n → LoadsNumber number
      go zero e = inl e
      go (suc k) e =
          ⊎_elim (λ m. inr (inr (inr (inr (inr (e ∙ m.1))))))
          (λ r. ⊎_elim (λ q. inr (inr (inl (e ∙ q)))) (⊎_elim (λ q. inr (inr (inr (inl (e ∙ q))))) (λ q. inr (inr (inr (inr (inl (e ∙ q))))))) (refusing k r))
          (stopped k e)

-- ---- a table in three parts: 3 before all these

module _ (id count : ℕ) (ids links : List ℕ) (ws : List Float) where
  abbrev fits : Bool
  fits = eqb (length links) (length ids) && eqb (length ws) (6 * length ids)

  fits_says : fits ≡ true → Fitting ids links ws
  fits_says h = record { each = eqb-true _ _ (and_left (eqb (length links) (length ids)) _ h); sixes = eqb-true _ _ (and_right (eqb (length links) (length ids)) _ h) }

  says_fits : Fitting ids links ws → fits ≡ true
  says_fits f = and_both _ _ (eq-eqb _ _ f.each) (eq-eqb _ _ f.sixes)

  abbrev listed : List Load
  listed = table_loads ids links ws (length ids)

  fitting : fits ≡ true → (flat_sums id count ids links ws).number ≡ (prepared_sums id count listed).number
  unfolding flat_sums table_checked
  fitting h = rw h

  unfitting : fits ≡ false → (flat_sums id count ids links ws).number ≡ 3
  unfolding flat_sums table_checked
  unfitting h = rw h

  -- "3: a .. lent table has the wrong length"
  pub three : ((flat_sums id count ids links ws).number ≡ 3 → Fitting ids links ws → ⊥) × ((Fitting ids links ws → ⊥) → (flat_sums id count ids links ws).number ≡ 3)
  three = (
    λ e f. never_three id count listed (sym (fitting (says_fits f)) ∙ e),
    λ n. ⊎_elim (λ h. absurd (n (fits_says h))) unfitting (by_bool fits),
  )

  -- else the number of the loads that it means
  pub flat_listed : Fitting ids links ws → (flat_sums id count ids links ws).number ≡ (prepared_sums id count listed).number
  flat_listed f = fitting (says_fits f)

  pub flat_number : LoadsNumber (flat_sums id count ids links ws).number
  flat_number = ⊎_elim (λ h. rw (fitting h) (prepared_number id count listed)) (λ h. inr (inl (unfitting h))) (by_bool fits)
