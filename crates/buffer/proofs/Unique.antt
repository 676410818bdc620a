-- Two results of a call on a buffer, or on a lent table, that meet its promise are equal.
use Prim.Native.Nat.{ℕ}
use mathlib.Core.List.{List}
use mathlib.Core.Bool.{Bool}
use mathlib.Core.Path.{◌≡◌, refl, sym, ap, ◌∙◌}
use lib.ListN.{length}
use Rattle.spatial.specs.declared.Wrench.{Wrench}
use Rattle.std.proofs.Common.{Result, Ok, Err, IfOk}
use Rattle.std.proofs.lemmas.Result.{IfOk-at_ok}
use Rattle.refusal.specs.declared.Refusal.{Refusal}
use Rattle.refusal.specs.Numbers.{number}
use Rattle.refusal.proofs.Unique.{one_result}
use Rattle.spatial.proofs.Unique.{Meets, both, unique}
use Rattle.loads.specs.declared.Load.{Load}
use Rattle.buffer.specs.declared.LoadBuffer.{LoadBuffer}
use Rattle.buffer.specs.declared.Listing.{Listing}
use Rattle.loads.specs.Checks.{accepted}
use Rattle.buffer.specs.Calls.{Counted, Emptiness, Listed, new_of, set_of, add_of, remove_of, clear_of, counted, emptied, gathered, listed_in, list_number}

module _ (b : LoadBuffer) (r r' : ℕ) where
  module _ (a a' : LoadBuffer) where
    pub set_unique : (id l : ℕ) (w : Wrench) → Meets (set_of b id l w).number (set_of b id l w).buffer r a → Meets (set_of b id l w).number (set_of b id l w).buffer r' a' → (r ≡ r') × (a ≡ a')
    set_unique id l w = both

    pub add_unique : (id l : ℕ) (w : Wrench) → Meets (add_of b id l w).number (add_of b id l w).buffer r a → Meets (add_of b id l w).number (add_of b id l w).buffer r' a' → (r ≡ r') × (a ≡ a')
    add_unique id l w = both

    pub remove_unique : (id l : ℕ) → Meets (remove_of b id l).number (remove_of b id l).buffer r a → Meets (remove_of b id l).number (remove_of b id l).buffer r' a' → (r ≡ r') × (a ≡ a')
    remove_unique id l = both

    pub clear_unique : Meets (clear_of b).number (clear_of b).buffer r a → Meets (clear_of b).number (clear_of b).buffer r' a' → (r ≡ r') × (a ≡ a')
    clear_unique = both

  abbrev listed : List Load → List Load
  listed table = accepted (list_number b (length table)) (listed_in b table) table

  pub list_unique : (table a a' : List Load) → Meets (list_number b (length table)) (listed table) r a → Meets (list_number b (length table)) (listed table) r' a' → (r ≡ r') × (a ≡ a')
  list_unique table a a' = both

-- ---- calls whose answer carries a value

-- what `new` promises
abbrev pub Made : ℕ → ℕ → Result LoadBuffer Refusal → Type 0
Made id links r = (number r ≡ (new_of id links).number) × IfOk r (λ b. b ≡ (new_of id links).buffer)

pub new_unique : (id links : ℕ) (r r' : Result LoadBuffer Refusal) → Made id links r → Made id links r' → r ≡ r'
new_unique id links r r' m m' =
    one_result r r' (unique m.0 m'.0)
    (λ x y e e'. unique (IfOk-at_ok (λ b. b ≡ (new_of id links).buffer) e m.1) (IfOk-at_ok (λ b. b ≡ (new_of id links).buffer) e' m'.1))

-- what an answer is told as fixes it, where that has its number and its value
module _ {A B : Type 0} (tell : Result A Refusal → B) (number_in : B → ℕ) (numbered : (r : Result A Refusal) → number_in (tell r) ≡ number r) (valued : (x y : A) → tell (Ok x) ≡ tell (Ok y) → x ≡ y) where
  told_unique : (t : B) (r r' : Result A Refusal) → tell r ≡ t → tell r' ≡ t → r ≡ r'
  told_unique t r r' m m' =
      let k : tell r ≡ tell r' = unique m m' in
      one_result r r' (sym (numbered r) ∙ ap number_in k ∙ numbered r') (λ x y e e'. valued x y (ap tell (sym e) ∙ k ∙ ap tell e'))

counted_number : (r : Result ℕ Refusal) → (counted r).number ≡ number r
counted_number (Ok n) = refl
counted_number (Err e) = refl

pub counted_unique : (t : Counted) (r r' : Result ℕ Refusal) → counted r ≡ t → counted r' ≡ t → r ≡ r'
counted_unique = told_unique counted (λ t. t.number) counted_number (λ n m k. ap (λ (t : Counted). t.count) k)

emptied_number : (r : Result Bool Refusal) → (emptied r).number ≡ number r
emptied_number (Ok t) = refl
emptied_number (Err e) = refl

pub emptied_unique : (t : Emptiness) (r r' : Result Bool Refusal) → emptied r ≡ t → emptied r' ≡ t → r ≡ r'
emptied_unique = told_unique emptied (λ t. t.number) emptied_number (λ b c k. ap (λ (t : Emptiness). t.empty) k)

gathered_number : (r : Result Listing Refusal) → (gathered r).number ≡ number r
gathered_number (Ok l) = refl
gathered_number (Err e) = refl

-- the listing that is told
abbrev listing_in : Listed → Listing
listing_in t = record { count = t.count; loads = t.loads }

pub gathered_unique : (t : Listed) (r r' : Result Listing Refusal) → gathered r ≡ t → gathered r' ≡ t → r ≡ r'
gathered_unique = told_unique gathered (λ t. t.number) gathered_number (λ l m k. ap listing_in k)
