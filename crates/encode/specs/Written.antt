-- What a writer answers: how many bytes it wrote and the lent table after it; none for what has no record.
use Rattle.std.specs.Prelude.{ℕ, Bool, true, false, List}
use Rattle.model.specs.declared.Model.{Model}
use Rattle.records.specs.Reply.{Sent, sent}
use Rattle.encode.specs.Models.{model_bytes, writable}
use Rattle.encode.specs.Calls.{Asked, call_bytes, call_writable}

abbrev pub told : ℕ → List ℕ → Sent
told count out = record { count = count; out = out }

abbrev pub written : Bool → List ℕ → List ℕ → Sent
written true bytes out = sent bytes out
written false bytes out = told 0 out

abbrev pub written_model : Model → List ℕ → Sent
written_model m out = written (writable m) (model_bytes m) out

abbrev pub written_call : Asked → List ℕ → Sent
written_call c out = written (call_writable c) (call_bytes c) out
