-- The buffer's tables are determined by the map.
use mathlib.Core.Path.{◌≡◌, refl, sym, ap, ◌∙◌}
use mathlib.Core.Bool.{not, cond}
use mathlib.Core.Logic.{⊎_elim}
use mathlib.Core.List.{List, [], ◌∷◌, ◌++◌}
use Prim.Native.Nat.{ℕ, zero, suc, ◌+◌, ◌-◌, ◌<◌}
use native.Mathlib.Omega.{arith}
use native.Mathlib.Numerals.{add-one}
use lib.ListN.{length, get_or, drop, replicate, length-append, length-drop, take-append-drop, length-replicate, get_or-replicate, get_or-append}
use lib.Seq.{ext_get_or, get_or-drop, get_or_at}
use lib.Dec.{eqb}
use borrow.Author.Tests.{lt-ltb, le-ltb, eq-eqb, ne_eqb}
use Rattle.buffer.specs.declared.Stored.{Stored}
use Rattle.buffer.specs.declared.LoadBuffer.{LoadBuffer}
use Rattle.buffer.specs.Agree.{MAX, cleared, no_stored, at, mark, Sized, Agree}
use Rattle.buffer.specs.Calls.{stored}
use Rattle.buffer.specs.Map.{place_of, has, table, buffer_of}
use Rattle.spatial.proofs.BoolLaws.{upto}
use Rattle.buffer.proofs.Decided.{back, decided}
use Rattle.buffer.proofs.MapPut.{stored_length}
use Rattle.buffer.proofs.MapRemove.{present, absent}

-- ---- a table of values

pub length_table : {A : Type 0} (n : ℕ) (f : ℕ → A) → length (table n f) ≡ n
unfolding table
length_table zero f = refl
length_table (suc n) f = length-append (table n f) (f n ∷ []) ∙ rw (length_table n f) (add-one n)

pub table_at : {A : Type 0} (n i : ℕ) (f : ℕ → A) (d : A) → i < n → get_or (table n f) i d ≡ f i
unfolding table
table_at zero i f d l = absurd (omega arith)
table_at (suc n) i f d l =
    ⊎_elim (λ q. ap (λ (j : ℕ). get_or (table n f ++ (f n ∷ [])) j d) q ∙ get_or_at (table n f) (f n) [] d n (length_table n f) ∙ ap f (sym q))
    (λ m. get_or-append (table n f) (f n ∷ []) d i (omega (arith, length_table n f)) ∙ table_at n i f d m) (upto n i l)

module _ (b : LoadBuffer) (z : Sized b) (a : Agree b) where
  pub mark_is : (l : ℕ) → l < 64 → mark b l ≡ cond (has l (stored b)) (place_of l (stored b)) MAX
  mark_is l k =
      ⊎_elim (λ e. rw (le-ltb (place_of l (stored b)) (length (stored b)) (omega (arith, absent b z a l e, stored_length b z a))) e)
      (λ its. rw (lt-ltb (place_of l (stored b)) (length (stored b)) (omega (arith, present b z a l its, stored_length b z a, its.0))) (sym (present b z a l its)))
      (back b (decided b a) l k)

  marks_are : b.positions ≡ table 64 (λ l. cond (has l (stored b)) (place_of l (stored b)) MAX)
  marks_are =
      ext_get_or 0 b.positions (table 64 (λ l. cond (has l (stored b)) (place_of l (stored b)) MAX)) (z.marks ∙ sym (length_table 64 _))
      (λ i m. mark_is i (omega (arith, z.marks)) ∙ sym (table_at 64 i (λ l. cond (has l (stored b)) (place_of l (stored b)) MAX) 0 (omega (arith, z.marks))))

  rest_length : length (drop b.count b.loads) ≡ 64 - length (stored b)
  rest_length = length-drop b.count b.loads ∙ rw (z.places, stored_length b z a)

  rest_is : drop b.count b.loads ≡ replicate (64 - length (stored b)) cleared
  rest_is =
      ext_get_or no_stored (drop b.count b.loads) (replicate (64 - length (stored b)) cleared) (rest_length ∙ sym (length-replicate (64 - length (stored b)) cleared))
      (λ i m. get_or-drop b.count b.loads i no_stored ∙ a.free (b.count + i) (omega arith) (omega (arith, rest_length, stored_length b z a, a.counts.fit, a.counts.few))
      ∙ sym (get_or-replicate (64 - length (stored b)) i cleared no_stored (omega (arith, rest_length))))

  -- tables that agree are those of the map
  pub determined : b ≡ buffer_of b.id b.links (stored b)
  unfolding buffer_of
  determined =
      parts (sym (stored_length b z a)) marks_are (sym (take-append-drop b.count b.loads) ∙ ap (λ (ss : List Stored). stored b ++ ss) rest_is)
    where
      parts : {n : ℕ} {ps : List ℕ} {ss : List Stored} → b.count ≡ n → b.positions ≡ ps → b.loads ≡ ss → b ≡ record { id = b.id; links = b.links; count = n; positions = ps; loads = ss }
      parts e f g = rw (← e, ← f, ← g)

-- two buffers of one id and link count whose tables agree and that hold the same map are equal
pub same_map : (b b' : LoadBuffer) → Sized b → Agree b → Sized b' → Agree b' → b.id ≡ b'.id → b.links ≡ b'.links → stored b ≡ stored b' → b ≡ b'
same_map b b' z a z' a' e l m = determined b z a ∙ rw (e, l, m) (sym (determined b' z' a'))

-- ---- a link has a mark where it is in the map

pub member : (b : LoadBuffer) → Sized b → Agree b → (l : ℕ) → l < 64 → eqb (mark b l) MAX ≡ not (has l (stored b))
member b z a l k =
    ⊎_elim (λ e. rw (eq-eqb (mark b l) MAX e, le-ltb (place_of l (stored b)) (length (stored b)) (omega (arith, absent b z a l e, stored_length b z a))))
    (λ its. rw (ne_eqb (mark b l) MAX (λ e. omega (arith, its.0, a.counts.fit, a.counts.few)), lt-ltb (place_of l (stored b)) (length (stored b)) (omega (arith, present b z a l its, stored_length b z a, its.0))))
    (back b (decided b a) l k)

-- ---- the count is the map's size, and no link is in it twice

pub count_size : (b : LoadBuffer) → Sized b → Agree b → b.count ≡ length (stored b)
count_size b z a = sym (stored_length b z a)

pub links_once : (b : LoadBuffer) → Agree b → (i j : ℕ) → i < b.count → j < b.count → (at b i).link ≡ (at b j).link → i ≡ j
links_once b a i j m k e = sym (a.kept i m).marked ∙ ap (mark b) e ∙ (a.kept j k).marked
