-- What the calls' code reads and writes place by place.
use mathlib.Core.Path.{◌≡◌, sym, ap, ◌∙◌}
use mathlib.Core.List.{List, [], ◌∷◌, ◌++◌, map, map-append}
use Prim.Native.Nat.{ℕ, suc, ◌+◌, ◌-◌, ◌<◌, ◌≤◌}
use native.Mathlib.Omega.{arith}
use native.Mathlib.Numerals.{add-one}
use lib.ListN.{length, get_or, set, take, drop, length-map}
use lib.Seq.{length-take-le, take-suc, drop-cons, append_snoc, set_at}
use Rattle.std.proofs.Common.{Ok}
use Rattle.loads.specs.declared.Load.{Load}
use Rattle.buffer.specs.declared.Stored.{Stored}
use Rattle.buffer.specs.declared.LoadBuffer.{LoadBuffer}
use Rattle.buffer.specs.Agree.{MAX, no_stored, at, mark, tables}
use Rattle.buffer.specs.Calls.{Ready, load_of}
use Rattle.buffer.proofs.AgreeLaws.{sound_true}
use Rattle.buffer.proofs.Decided.{counted, room_small, here, last_link}

-- ---- where a call may write

module _ (b : LoadBuffer) where
  pub count_small : tables b ≡ Ok tt → b.count ≤ 64
  count_small h = let n = counted b (sound_true b h) in omega (arith, n.fit, n.few)

  module _ (l : ℕ) (r : Ready b l) where
    pub ready_room : mark b l ≡ MAX → b.count < 64
    ready_room e = room_small b (sound_true b r.sound) l r.known e

    pub ready_mark : (mark b l ≡ MAX → ⊥) → (mark b l < b.count) × (b.count ≤ 64)
    ready_mark e = ((here b (sound_true b r.sound) l r.known e).0, count_small r.sound)

    pub ready_last : (mark b l ≡ MAX → ⊥) → (at b (b.count - 1)).link < 64
    ready_last e = last_link b (sound_true b r.sound) l r.known e

-- a table with the first n of the loads copied into it
module _ (id : ℕ) (ss : List Stored) (table : List Load) where
  abbrev pub copied : ℕ → List Load
  copied n = map (load_of id) (take n ss) ++ drop n table

  pub copied_more : (n : ℕ) → n < length ss → n < length table → set (copied n) n (load_of id (get_or ss n no_stored)) ≡ copied (n + 1)
  copied_more n h k =
      rw (drop-cons table n (load_of id no_stored) k)
      (set_at (map (load_of id) (take n ss)) (get_or table n (load_of id no_stored)) (drop (suc n) table) (load_of id (get_or ss n no_stored)) n (length-map (take n ss) (load_of id) ∙ length-take-le n ss (omega arith)))
      ∙ sym (append_snoc (map (load_of id) (take n ss)) (load_of id (get_or ss n no_stored)) (drop (suc n) table))
      ∙ sym (ap (λ (xs : List Load). xs ++ drop (suc n) table) (ap (map (load_of id)) (take-suc ss n no_stored h) ∙ map-append (load_of id) (take n ss) (get_or ss n no_stored ∷ [])))
      ∙ ap copied (sym (add-one n))
