-- Laws of the moving numbers: what the marks mean, and that the decision says the rule.
use Prim.Native.Nat.{ℕ, ◌+◌, ◌<◌, ◌≤◌}
use mathlib.Core.Path.{◌≡◌, refl, sym, ap, ◌∙◌}
use mathlib.Core.Bool.{Bool, true, false, not, cond, ◌&&◌, ◌||◌}
use mathlib.Core.List.{List}
use Rattle.std.specs.Prelude.{replicate}
use mathlib.Core.Logic.{⊎_elim}
use native.Mathlib.Decide.{ℕ_discrete}
use native.Mathlib.Numerals.{add-one}
use native.Mathlib.Omega.{arith}
use lib.Dec.{eqb}
use lib.ListN.{length, get_or, set, get_or-replicate}
use lib.Seq.{get_or-set_same, get_or-set_other}
use borrow.Author.Tests.{lt-ltb, le-ltb, eq-eqb, ne_eqb}
use Rattle.spatial.proofs.BoolLaws.{and_false, or_right, lt_or_ge}
use Rattle.spatial.specs.All.{all}
use Rattle.spatial.proofs.AllLaws.{all_turn, all_same}
use Rattle.model.specs.declared.JointType.{JointType}
use Rattle.model.specs.declared.JointType.TheVariants.{Revolute, Prismatic}
use Rattle.model.specs.View.{moves}
use Rattle.model.specs.Tables.{kind_of}
use Rattle.model.specs.Numbers.{Numbering, holds, taken, number_fits, numbered_at, numbered}
use Rattle.model.specs.Poses.{kind_of_number}
use Rattle.model.specs.Marks.{slot_of, Coded}

or_false : (a : Bool) → (a || false) ≡ a
or_false true = refl
or_false false = refl

-- ---- a kind as the table has it

pub moves_fixed : (code : ℕ) → code ≡ 0 → moves (kind_of code) ≡ false
unfolding kind_of
moves_fixed code e = rw (eq-eqb code 0 e)

pub moves_other : (code : ℕ) → (code ≡ 0 → ⊥) → moves (kind_of code) ≡ true
unfolding kind_of
moves_other code n = rw (ne_eqb code 0 n) (pick (eqb code 1))
  where
    pick : (b : Bool) → moves (cond b Revolute Prismatic) ≡ true
    pick true = refl
    pick false = refl

-- ---- places

module _ (number moving : ℕ) where
  abbrev at : ℕ
  at = slot_of number moving

  slot_in : number < moving → at ≡ number
  unfolding slot_of
  slot_in h = rw (lt-ltb number moving h)

  slot_out : moving ≤ number → at ≡ 63
  unfolding slot_of
  slot_out h = rw (le-ltb number moving h)

  pub slot_small : moving ≤ 63 → at < 64
  slot_small small = ⊎_elim (λ h. let e : at ≡ number = slot_in h in omega arith) (λ h. let e : at ≡ 63 = slot_out h in omega arith) (lt_or_ge number moving)

  -- a number below m has the place just where it is the one placed
  slot_own : moving ≤ 63 → (n : ℕ) → n < moving → n ≡ at → number ≡ n
  slot_own small n l e = ⊎_elim (λ h. sym (slot_in h) ∙ sym e) (λ h. absurd (let q : at ≡ 63 = slot_out h in omega arith)) (lt_or_ge number moving)

  slot_other : (n : ℕ) → n < moving → (n ≡ at → ⊥) → number ≡ n → ⊥
  slot_other n l q e = q (sym (slot_in (rw e l) ∙ e))

-- ---- the marks

-- a number below m is marked where a joint before j holds it
abbrev pub Marked : Numbering → ℕ → List Bool → Type 0
Marked t j held = (n : ℕ) → n < t.moving → get_or held n false ≡ taken t j n

pub marked_none : (t : Numbering) → t.moving ≤ 63 → Marked t 0 (replicate 64 false)
unfolding taken
marked_none t h n m = get_or-replicate 64 n false false (omega arith)

-- a turn, with the place, the test and the mark as code has them
module _ (t : Numbering) (j : ℕ) (held : List Bool) (small : t.moving ≤ 63) (long : length held ≡ 64) (inv : Marked t j held) (place : ℕ) (e : place ≡ slot_of (t.number j) t.moving) where
  fits_now : number_fits (t.moves j) (t.number j) t.moving (not (get_or held place false)) ≡ numbered_at t j
  unfolding numbered_at
  fits_now =
      ⊎_elim
      (λ h. rw (e, slot_in (t.number j) t.moving h, inv (t.number j) h))
      (λ h. rw (le-ltb (t.number j) t.moving h))
      (lt_or_ge (t.number j) t.moving)

  pub good_turn : (good now : Bool) → good ≡ all j (numbered_at t) → now ≡ number_fits (t.moves j) (t.number j) t.moving (not (get_or held place false)) → (good && now) ≡ all (j + 1) (numbered_at t)
  good_turn good now g h = all_turn (numbered_at t) j good now g (h ∙ fits_now)

  -- a moving joint marks its place
  pub marks_turn : t.moves j ≡ true → Marked t (j + 1) (set held place true)
  unfolding taken
  marks_turn m n l = rw (add-one, m) (go (ℕ_discrete n place))
    where
      go : Dec (n ≡ place) → get_or (set held place true) n false ≡ (taken t j n || eqb (t.number j) n)
      go (yes q) =
          ap (λ (i : ℕ). get_or (set held place true) i false) q
          ∙ get_or-set_same held place true false (rw e (omega (arith, slot_small (t.number j) t.moving small, long)))
          ∙ sym (or_right (taken t j n) _ (eq-eqb (t.number j) n (slot_own (t.number j) t.moving small n l (q ∙ e))))
      go (no q) =
          get_or-set_other held place n true false q
          ∙ inv n l
          ∙ sym (rw (ne_eqb (t.number j) n (slot_other (t.number j) t.moving n l (λ r. q (r ∙ sym e)))) (or_false (taken t j n)))

-- a fixed one marks none
pub marks_stay : (t : Numbering) (j : ℕ) (held : List Bool) → Marked t j held → t.moves j ≡ false → Marked t (j + 1) held
unfolding taken
marks_stay t j held inv m n l = rw (add-one, m) (inv n l ∙ sym (or_false (taken t j n)))

-- the two halves of the decision, from the marks
pub numbered_end : (t : Numbering) (j : ℕ) (held : List Bool) (good filled : Bool) → j ≤ t.count → t.count ≤ j → good ≡ all j (numbered_at t) → Marked t j held → filled ≡ all t.moving (λ n. get_or held n false) → (good && filled) ≡ numbered t
unfolding numbered
numbered_end t j held good filled p q g inv f =
    let e : j ≡ t.count = omega arith in
    rw (g, f, all_same t.moving (λ n. get_or held n false) (taken t j) inv, e)

-- ---- the kinds by number

pub coded_none : (t : Numbering) (kind : ℕ → JointType) → t.moving ≤ 63 → Coded t kind 0 (replicate 64 0)
unfolding kind_of_number kind_of
coded_none t kind h n m = rw (get_or-replicate {A = ℕ} 64 n 0 0 (omega arith))

-- a turn, with the place and what is stored as code has them
module _ (t : Numbering) (code : ℕ → ℕ) (m : (j : ℕ) → t.moves j ≡ moves (kind_of (code j))) (j : ℕ) (codes : List ℕ) (small : t.moving ≤ 63) (long : length codes ≡ 64) (inv : Coded t (λ i. kind_of (code i)) j codes) (place : ℕ) (e : place ≡ slot_of (t.number j) t.moving) where
  pub codes_turn : (v : ℕ) → v ≡ cond (eqb (code j) 0) (get_or codes place 0) (code j) → Coded t (λ i. kind_of (code i)) (j + 1) (set codes place v)
  unfolding kind_of_number
  codes_turn v h n l = rw add-one (go (ℕ_discrete n place))
    where
      next : Bool → JointType
      next b = cond b (kind_of (code j)) (kind_of_number t (λ i. kind_of (code i)) j n)

      fixed : Dec (code j ≡ 0) → (number : t.number j ≡ n) → n ≡ place → kind_of v ≡ next (holds t n j)
      fixed (yes z) q r =
          let k : v ≡ get_or codes n 0 = h ∙ (rw (eq-eqb (code j) 0 z, r)) in
          ap kind_of k
          ∙ inv n l
          ∙ sym (rw (m j, moves_fixed (code j) z))
      fixed (no z) q r =
          let k : v ≡ code j = h ∙ (rw (ne_eqb (code j) 0 z)) in
          ap kind_of k
          ∙ sym (rw (m j, moves_other (code j) z, eq-eqb (t.number j) n q))

      go : Dec (n ≡ place) → kind_of (get_or (set codes place v) n 0) ≡ next (holds t n j)
      go (yes q) =
          ap kind_of (ap (λ (i : ℕ). get_or (set codes place v) i 0) q ∙ get_or-set_same codes place v 0 (rw e (omega (arith, slot_small (t.number j) t.moving small, long))))
          ∙ fixed (ℕ_discrete (code j) 0) (slot_own (t.number j) t.moving small n l (q ∙ e)) q
      go (no q) =
          ap kind_of (get_or-set_other codes place n v 0 q)
          ∙ inv n l
          ∙ sym (rw (ne_eqb (t.number j) n (slot_other (t.number j) t.moving n l (λ r. q (r ∙ sym e)))) (ap next (and_false (t.moves j) false refl)))

pub coded_end : (t : Numbering) (kind : ℕ → JointType) (j k : ℕ) (codes : List ℕ) → j ≤ k → k ≤ j → Coded t kind j codes → Coded t kind k codes
coded_end t kind j k codes p q inv n l = inv n l ∙ ap (λ (i : ℕ). kind_of_number t kind i n) (let e : j ≡ k = omega arith in e)
