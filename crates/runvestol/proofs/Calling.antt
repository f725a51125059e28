-- What a call answers: refusal 18 at a set out of range, 1 for a short answer buffer, else what is judged of its texts, whatever
-- that is. Assumes nothing.
use Rattle.std.proofs.Common.{ℕ, Bool, Result, Ok, Err, ◌≡◌, ap, subst, ◌∙◌}
use Rattle.definitions.specs.declared.Limits.{Limits}
use Rattle.definitions.specs.declared.Answer.{Answer}
use Rattle.definitions.specs.Bytes.{Bytes}
use Rattle.definitions.specs.Operations.{Done, Judged, TextOut, refusal, prelude, finish, say}
use Rattle.definitions.specs.Calls.{Called, answered, call, quiet, buffer_published, buffer_lent}
use Rattle.reading.specs.declared.Cause.{Cause}
use Rattle.reading.specs.Refusals.{number_of}
use Rattle.laws.specs.Ends.{Comes}
use Rattle.slices.specs.Prelude.{Before, finishes_before, finishes_behind, says_before, says_behind}

-- a number m, an answer buffer b' and an output o'
abbrev Calls : Called → ℕ → Bytes → Bytes → Type 0
Calls c m b' o' = record { number : m ≡ c.number; answered : b' ≡ c.answer; written : o' ≡ c.output }

-- without an output
abbrev Answers : Called → ℕ → Bytes → Type 0
Answers c m b' = record { number : m ≡ c.number; answered : b' ≡ c.answer }

-- an answer r that is told, at limits l that are those of the call; r' is what goes before the texts
module _ (buffer : Bytes) {buffer' : Bytes} (r : Answer) {m : ℕ} (told : (m ≡ r.number) × (buffer' ≡ answered buffer r))
    {l l' : Limits} (same : l ≡ l') {r' : Result (Unit {0}) Cause} (b : Before l buffer_published (buffer_lent buffer) r') where
  module _ (out : Bytes) (j : Limits → Judged TextOut) where
    abbrev at_set : Limits → Done
    at_set k = finish out (prelude k buffer_published (buffer_lent buffer) (j k))

    comes : {out' : Bytes} → Comes (at_set l) r out' → Calls (call buffer (at_set l')) m buffer' out'
    unfolding call
    comes {out'} w =
        let (a, o) = subst (λ (k : Limits). Comes (at_set k) r out') same w in
        record { number = told.0 ∙ ap (λ (x : Answer). x.number) a; answered = told.1 ∙ ap (answered buffer) a; written = o }

    pub calls_before : {k : Cause} → r' ≡ Err k → {n : ℕ} → n ≡ number_of k → r ≡ refusal n 0 0 → Calls (call buffer (at_set l')) m buffer' out
    calls_before f q a = comes (finishes_before b f q out (j l) a)

    pub calls_behind : {out' : Bytes} → r' ≡ Ok tt → Comes (finish out (j l)) r out' → Calls (call buffer (at_set l')) m buffer' out'
    calls_behind z w = comes (finishes_behind b z out (j l) w)

  module _ (j : Limits → Judged Bool) where
    abbrev said_at : Limits → Answer
    said_at k = say (prelude k buffer_published (buffer_lent buffer) (j k))

    says : r ≡ said_at l → Answers (call buffer (quiet (said_at l'))) m buffer'
    unfolding call quiet
    says w =
        let a = subst (λ (k : Limits). r ≡ said_at k) same w in
        record { number = told.0 ∙ ap (λ (x : Answer). x.number) a; answered = told.1 ∙ ap (answered buffer) a }

    pub answers_before : {k : Cause} → r' ≡ Err k → {n : ℕ} → n ≡ number_of k → r ≡ refusal n 0 0 → Answers (call buffer (quiet (said_at l'))) m buffer'
    answers_before f q a = says (says_before b f q (j l) a)

    pub answers_behind : r' ≡ Ok tt → r ≡ say (j l) → Answers (call buffer (quiet (said_at l'))) m buffer'
    answers_behind z w = says (says_behind b z (j l) w)
