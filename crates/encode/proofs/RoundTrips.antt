-- What is read from records is what was written in them.
use Prim.Native.Nat.{◌+◌, ◌*◌, ◌≤◌}
use mathlib.Core.Path.{◌≡◌, refl, sym, ◌∙◌}
use mathlib.Core.Bool.{true}
use mathlib.Core.List.{[], ◌∷◌, ◌++◌}
use native.Mathlib.Omega.{arith}
use lib.ListN.{length, length-append}
use borrow.Author.Tests.{le-leb, eq-eqb}
use Rattle.model.specs.declared.Model.{Model}
use Rattle.wire.specs.Big.{be16, bytes16, bytes32, float_bytes}
use Rattle.wire.proofs.StandsLaws.{Stands, Doubles, stands_whole, stands_left, stands_right, stands_head, be16_stands}
use Rattle.records.specs.Answers.{Answer, head_bytes, answer_bytes, answer_laid, answer_in}
use Rattle.records.specs.Calls.{call_in}
use Rattle.records.specs.Layout.{headed, counted, laid}
use Rattle.records.specs.Models.{model_in}
use Rattle.records.specs.Reply.{answer_to, reply}
use Rattle.records.proofs.SentLaws.{length_answer}
use Rattle.records.specs.Places.{link_count, moving, call_place, load_count}
use Rattle.encode.specs.Models.{model_bytes, writable}
use Rattle.encode.specs.Calls.{Asked, call_bytes, call_writable}
use Rattle.encode.specs.Kept.{kept_model, kept_call}
use Rattle.encode.proofs.SizeLaws.{length_model}
use Rattle.encode.proofs.CallSizes.{length_call}
use Rattle.encode.proofs.WritableLaws.{writable_fit}
use Rattle.encode.proofs.ReadLaws.{floats_read, headed_stands}
use Rattle.encode.proofs.ModelTrip as model
use Rattle.encode.proofs.ModelTrip.{ModelDoubles}
use Rattle.encode.proofs.CallTrip as call
use Rattle.encode.proofs.CallTrip.{CallDoubles}

-- "an answer's count above 69 fits no layout"
module _ (a : Answer) (few : length a.figures ≤ 69) where
  start : Stands (answer_bytes a) 0 (head_bytes a.number (length a.figures))
  unfolding answer_bytes
  start = stands_left (head_bytes a.number (length a.figures)) (float_bytes a.figures) (stands_whole (answer_bytes a))

  front : Stands (answer_bytes a) 4 (1 ∷ 3 ∷ a.number ∷ bytes16 (length a.figures))
  unfolding head_bytes bytes32 bytes16
  front = stands_right 4 (bytes32 (5 + 8 * length a.figures)) (1 ∷ 3 ∷ a.number ∷ bytes16 (length a.figures)) start refl

  count_read : be16 (answer_bytes a) 7 ≡ length a.figures
  count_read = omega (arith, be16_stands (length a.figures) (stands_right 7 (1 ∷ 3 ∷ a.number ∷ []) (bytes16 (length a.figures)) front refl))

  figures : Stands (answer_bytes a) 9 (float_bytes a.figures)
  unfolding answer_bytes head_bytes bytes32 bytes16
  figures = stands_right 9 (head_bytes a.number (length a.figures)) (float_bytes a.figures) (stands_whole (answer_bytes a)) refl

  head : headed (answer_bytes a) 0 (5 + 8 * length a.figures) 3 ≡ true
  unfolding head_bytes
  head =
      headed_stands 0 (5 + 8 * length a.figures) 3 (omega arith)
      (stands_left (bytes32 (5 + 8 * length a.figures)) (1 ∷ 3 ∷ a.number ∷ bytes16 (length a.figures)) start) (stands_head front)
      (front.each 1 (omega arith))

  pub answer_is_laid : answer_laid (answer_bytes a) ≡ true
  unfolding answer_laid
  answer_is_laid = rw (count_read, le-leb (length a.figures) 69 few, eq-eqb (length (answer_bytes a)) (9 + 8 * length a.figures) (length_answer a.number a.figures), head)

  pub answer_read : Doubles a.figures → answer_in (answer_bytes a) ≡ a
  unfolding answer_in
  answer_read d = rw (front.each 2 (omega arith), count_read, floats_read 9 (length a.figures) a.figures d refl figures)

-- a model's record and the record of a call of it
module _ (m : Model) (w : writable m ≡ true) (c : Asked) (v : call_writable c ≡ true) (same : length c.positions ≡ m.moving) where
  model_length : length (model_bytes m) ≡ call_place m.count
  model_length = omega (arith, length_model m)

  model_stands : Stands (model_bytes m ++ call_bytes c) 0 (model_bytes m)
  model_stands = stands_left (model_bytes m) (call_bytes c) (stands_whole (model_bytes m ++ call_bytes c))

  call_stands : Stands (model_bytes m ++ call_bytes c) (call_place m.count) (call_bytes c)
  call_stands = stands_right (call_place m.count) (model_bytes m) (call_bytes c) (stands_whole (model_bytes m ++ call_bytes c)) (omega (arith, model_length))

  links_read : link_count (model_bytes m ++ call_bytes c) ≡ m.count
  links_read = model.count_read _ m w model_stands

  moving_read : moving (model_bytes m ++ call_bytes c) ≡ length c.positions
  moving_read = model.moving_read _ m w model_stands ∙ sym same

  loads_counted : load_count (model_bytes m ++ call_bytes c) (call_place m.count) ≡ length c.links
  loads_counted = call.count_read c v _ (call_place m.count) call_stands

  long : length (model_bytes m ++ call_bytes c) ≡ call_place m.count + (4 + (160 + 33 * length c.positions + 50 * length c.links))
  long =
      length-append (model_bytes m) (call_bytes c) ∙ omega (arith, model_length, length_call c (call.fit c v))

  pub records_laid : laid (model_bytes m ++ call_bytes c) ≡ true
  unfolding laid counted
  records_laid =
      let f = writable_fit m w in
      let g = call.fit c v in
      rw (
        links_read,
        moving_read,
        loads_counted,
        le-leb 1 m.count f.some,
        le-leb m.count 64 f.links,
        le-leb (length c.positions) 63 g.moving,
        le-leb (length c.links) 256 g.few,
        eq-eqb (length (model_bytes m ++ call_bytes c)) _ long,
        model.model_is_laid _ m w model_stands,
        call.call_is_laid c v _ (call_place m.count) call_stands,
      )

  pub model_read : ModelDoubles m → model_in (model_bytes m ++ call_bytes c) ≡ kept_model m
  model_read = model.model_read _ m w model_stands

  pub call_read : ModelDoubles m → CallDoubles c → call_in (model_bytes m ++ call_bytes c) ≡ kept_call m c
  unfolding call_in
  call_read t d =
      rw (links_read, moving_read, loads_counted, call.function_read c v _ (call_place m.count) call_stands)
      (call.with_read c v _ (call_place m.count) call_stands m d (model_read t) links_read c.function)

  -- "The program reads one model and one call": what it writes is the answer to that call
  pub written_answered : ModelDoubles m → CallDoubles c → reply (model_bytes m ++ call_bytes c) ≡ answer_bytes (answer_to (kept_call m c))
  unfolding reply
  written_answered t d = rw (records_laid, call_read t d)
