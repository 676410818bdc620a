-- A check that keeps its finite tests in products: they are finite only where all so far was good, and 0 where all was.
use Prim.Native.Nat.{ℕ, ◌+◌, ◌≤◌}
use mathlib.Core.Path.{◌≡◌, refl, sym, ◌∙◌, ap}
use mathlib.Core.Bool.{Bool, true, false, ◌&&◌}
use mathlib.Core.List.{List, ◌++◌}
use lib.Dec.{leb}
use lib.Ieee.{Float, le}
use native.Mathlib.Omega.{arith}
use native.Mathlib.Numerals.{add-one}
use Rattle.spatial.specs.declared.Vector3.{Vector3}
use Rattle.spatial.specs.All.{all}
use Rattle.spatial.specs.Constants.{plus_zero, zero_vector}
use Rattle.spatial.specs.Vectors.{scaled}
use Rattle.spatial.proofs.BoolLaws.{and_left, and_right, and_both}
use Rattle.fit.specs.Finite.{is_finite, all_finite, vector_numbers, matrix_numbers, quaternion_numbers, frame_numbers}
use Rattle.fit.specs.Unit.{unit_quaternion}
use Rattle.fit.proofs.FiniteLaws.{Zero, zero_finite, zero_mul_finite, finite_mul, all_append, all_three}
use Rattle.fit.proofs.UnitLaws.{unit_rotation_finite}
use Rattle.model.specs.declared.Link.{Link}
use Rattle.model.specs.declared.Joint.{Joint}
use Rattle.model.specs.Products.{times_each}
use Rattle.model.specs.Links.{good_link}
use Rattle.model.specs.Joints.{joint_numbers, axis_fits, fits, good_joint}
use Rattle.model.proofs.GoodLaws.{link_says, says_link}

-- ---- vectors

abbrev Finite : Vector3 → Type 0
Finite v = all_finite (vector_numbers v) ≡ true

abbrev Zeros : Vector3 → Type 0
Zeros v = Zero v.x × Zero v.y × Zero v.z

each : (v : Vector3) → Finite v → (is_finite v.x ≡ true) × (is_finite v.y ≡ true) × (is_finite v.z ≡ true)
each v h =
    let a : ((is_finite v.x && is_finite v.y) && is_finite v.z) ≡ true = all_three v.x v.y v.z ∙ h in
    let b = and_left (is_finite v.x && is_finite v.y) _ a in
    (and_left (is_finite v.x) _ b, and_right (is_finite v.x) _ b, and_right (is_finite v.x && is_finite v.y) _ a)

finite : (v : Vector3) → is_finite v.x ≡ true → is_finite v.y ≡ true → is_finite v.z ≡ true → Finite v
finite v x y z = sym (all_three v.x v.y v.z) ∙ and_both _ _ (and_both _ _ x y) z

pub finite_times : (a b : Vector3) → Finite (times_each a b) → Finite a × Finite b
unfolding times_each
finite_times a b h =
    let e = each (times_each a b) h in
    let x = finite_mul a.x b.x e.0 in
    let y = finite_mul a.y b.y e.1 in
    let z = finite_mul a.z b.z e.2 in
    (finite a x.0 y.0 z.0, finite b x.1 y.1 z.1)

finite_scaled : (v : Vector3) (s : Float) → Finite (scaled v s) → Finite v × (is_finite s ≡ true)
unfolding scaled
finite_scaled v s h =
    let e = each (scaled v s) h in
    let x = finite_mul v.x s e.0 in
    (finite v x.0 (finite_mul v.y s e.1).0 (finite_mul v.z s e.2).0, x.1)

zeros_times : (a b : Vector3) → Finite b → Zeros a → Zeros (times_each a b)
unfolding times_each
zeros_times a b h z =
    let e = each b h in
    (zero_mul_finite a.x b.x z.0 e.0, zero_mul_finite a.y b.y z.1 e.1, zero_mul_finite a.z b.z z.2 e.2)

-- ---- two lists of numbers

both : (xs ys : List Float) → all_finite xs ≡ true → all_finite ys ≡ true → all_finite (xs ++ ys) ≡ true
both xs ys h k = all_append xs ys ∙ and_both _ _ h k

parts : (xs ys : List Float) → all_finite (xs ++ ys) ≡ true → (all_finite xs ≡ true) × (all_finite ys ≡ true)
parts xs ys h =
    let e = sym (all_append xs ys) ∙ h in
    (and_left (all_finite xs) _ e, and_right (all_finite xs) _ e)

-- ---- the loop: good and two products tell k

pub record Told (good : Bool) (a b : Vector3) (k : Bool) : Type 0 where
  pub sound : good ≡ true → Finite a → Finite b → k ≡ true
  pub kept : k ≡ true → (good ≡ true) × Zeros a × Zeros b

pub told_start : (a b : Vector3) (f : ℕ → Bool) → a ≡ zero_vector → b ≡ zero_vector → Told true a b (all 0 f)
unfolding all zero_vector
told_start a b f e h =
    rw (e, h) (record { sound = λ _ _ _. refl; kept = λ _. (refl, ((false, refl), (false, refl), (false, refl)), ((false, refl), (false, refl), (false, refl))) })

same : (x y : Bool) → (x ≡ true → y ≡ true) → (y ≡ true → x ≡ true) → x ≡ y
same true y f g = sym (f refl)
same false true f g = g refl
same false false f g = refl

zeros_finite : (v : Vector3) → Zeros v → Finite v
zeros_finite v z = finite v (zero_finite _ z.0) (zero_finite _ z.1) (zero_finite _ z.2)

pub told_end : (good now : Bool) (a b c : Vector3) (f : ℕ → Bool) (k n : ℕ) → Told good a b (all k f) → c ≡ times_each a b → now ≡ all_finite (vector_numbers c) → k ≤ n → n ≤ k → (good && now) ≡ all n f
told_end good now a b c f k n t p e l m =
    same _ _ to from ∙ ap (λ (i : ℕ). all i f) (let r : k ≡ n = omega arith in r)
  where
    is : now ≡ all_finite (vector_numbers (times_each a b))
    is = e ∙ ap (λ (v : Vector3). all_finite (vector_numbers v)) p

    to : (good && now) ≡ true → all k f ≡ true
    to h =
        let v = finite_times a b (sym is ∙ and_right good now h) in
        t.sound (and_left good now h) v.0 v.1

    from : all k f ≡ true → (good && now) ≡ true
    from h =
        let z = t.kept h in
        and_both good now z.0 (is ∙ zeros_finite (times_each a b) (zeros_times a b (zeros_finite b z.2) z.1))

-- a turn: now and the two new products tell what the next one is
record Turn (now : Bool) (a b c d : Vector3) (next : Bool) : Type 0 where
  pub sound : now ≡ true → Finite c → Finite d → Finite a × Finite b × (next ≡ true)
  pub kept : next ≡ true → Zeros a → Zeros b → (now ≡ true) × Zeros c × Zeros d

told_turn : (good now : Bool) (a b c d : Vector3) (f : ℕ → Bool) (n : ℕ) → Told good a b (all n f) → Turn now a b c d (f n) → Told (good && now) c d (all (n + 1) f)
unfolding all
told_turn good now a b c d f n t u =
    rw add-one
    (record {
      sound = λ h x y.
          let s = u.sound (and_right good now h) x y in
          and_both (all n f) (f n) (t.sound (and_left good now h) s.0 s.1) s.2;
      kept = λ h.
          let z = t.kept (and_left (all n f) (f n) h) in
          let v = u.kept (and_right (all n f) (f n) h) z.1 z.2 in
          (and_both good now z.0 v.0, v.1, v.2);
    })

-- ---- a link

pub link_good : (l : Link) → le plus_zero l.mass ≡ true → Finite (scaled l.center l.mass) → Finite l.inertia.x → Finite l.inertia.y → Finite l.inertia.z → good_link l ≡ true
unfolding all_finite
link_good l h m x y z =
    let ix = vector_numbers l.inertia.x in
    let iy = vector_numbers l.inertia.y in
    let iz = vector_numbers l.inertia.z in
    let w = finite_scaled l.center l.mass m in
    let rows = both ix (iy ++ iz) x (both iy iz y z) in
    says_link l (record { finite = and_both _ _ w.1 (both (vector_numbers l.center) (matrix_numbers l.inertia) w.0 rows); mass = h; moment = m })

link_turn : (a b : Vector3) (l : Link) → Turn (le plus_zero l.mass) a b (times_each (times_each a (scaled l.center l.mass)) l.inertia.y) (times_each (times_each b l.inertia.x) l.inertia.z) (good_link l)
unfolding all_finite
link_turn a b l =
    let ix = l.inertia.x in
    let iy = l.inertia.y in
    let iz = l.inertia.z in
    let moment = scaled l.center l.mass in
    record {
      sound = λ h c d.
          let y = finite_times (times_each a moment) iy c in
          let m = finite_times a moment y.0 in
          let z = finite_times (times_each b ix) iz d in
          let x = finite_times b ix z.0 in
          (m.0, x.0, link_good l h m.1 x.1 y.1 z.1);
      kept = λ h p q.
          let g = link_says l h in
          let rows = (parts (vector_numbers l.center) (matrix_numbers l.inertia) (and_right (is_finite l.mass) _ g.finite)).1 in
          let x = parts (vector_numbers ix) (vector_numbers iy ++ vector_numbers iz) rows in
          let yz = parts (vector_numbers iy) (vector_numbers iz) x.1 in
          (g.mass, zeros_times _ iy yz.0 (zeros_times a moment g.moment p), zeros_times _ iz yz.1 (zeros_times b ix x.0 q));
    }

pub told_link : (good : Bool) (a b : Vector3) (f : ℕ → Link) (n : ℕ) (l : Link) (m u v c d : Vector3) → Told good a b (all n (λ k. good_link (f k))) → l ≡ f n → m ≡ scaled l.center l.mass → u ≡ times_each a m → c ≡ times_each u l.inertia.y → v ≡ times_each b l.inertia.x → d ≡ times_each v l.inertia.z → Told (good && le plus_zero l.mass) c d (all (n + 1) (λ k. good_link (f k)))
told_link good a b f n l m u v c d t e h p q r s =
    rw (q, p, h, s, r, e) (told_turn good _ a b _ _ (λ k. good_link (f k)) n t (link_turn a b (f n)))

-- ---- a joint

pub joint_finite : (t : Joint) → unit_quaternion t.origin.rotation ≡ true → Finite t.origin.translation → Finite t.axis → all_finite (joint_numbers t) ≡ true
joint_finite t r x y =
    let turned = quaternion_numbers t.origin.rotation in
    let moved = vector_numbers t.origin.translation in
    both (frame_numbers t.origin) (vector_numbers t.axis) (both turned moved (unit_rotation_finite t.origin.rotation r) x) y

joint_turn : (a b : Vector3) (j code : ℕ) (t : Joint) → Turn (fits j code t) a b (times_each a t.origin.translation) (times_each b t.axis) (good_joint j code t)
unfolding good_joint fits
joint_turn a b j code t =
    let u = unit_quaternion t.origin.rotation in
    let turned = quaternion_numbers t.origin.rotation in
    let moved = vector_numbers t.origin.translation in
    record {
      sound = λ h c d.
          let x = finite_times a t.origin.translation c in
          let y = finite_times b t.axis d in
          let r = and_right (leb code 2 && leb t.parent j) u (and_left ((leb code 2 && leb t.parent j) && u) (axis_fits t) h) in
          (x.0, y.0, and_both _ _ (joint_finite t r x.1 y.1) h);
      kept = λ h p q.
          let n = parts (frame_numbers t.origin) (vector_numbers t.axis) (and_left (all_finite (joint_numbers t)) _ h) in
          (and_right (all_finite (joint_numbers t)) _ h, zeros_times a _ (parts turned moved n.0).1 p, zeros_times b _ n.1 q);
    }

pub told_joint : (good now : Bool) (a b c d : Vector3) (code : ℕ → ℕ) (f : ℕ → Joint) (n : ℕ) (t : Joint) → Told good a b (all n (λ k. good_joint k (code k) (f k))) → t ≡ f n → c ≡ times_each a t.origin.translation → d ≡ times_each b t.axis → now ≡ fits n (code n) t → Told (good && now) c d (all (n + 1) (λ k. good_joint k (code k) (f k)))
told_joint good now a b c d code f n t h e p q r =
    rw (p, q, r, e) (told_turn good _ a b _ _ (λ k. good_joint k (code k) (f k)) n h (joint_turn a b n (code n) (f n)))
