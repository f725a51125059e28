-- What both texts of an operation came to, by the case of the answer. Assumes nothing.
use Rattle.std.specs.Prelude.{ℕ, ◌≡◌, Result, Ok, Err}
use Rattle.std.proofs.Common.{subst}
use Rattle.definitions.specs.declared.Limits.{Limits}
use Rattle.definitions.specs.Bytes.{Bytes}
use Rattle.definitions.specs.Operations.{Reading, stopped, refusal, judge_both}
use Rattle.reading.specs.Refusals.{number_of}
use Rattle.inputs.specs.declared.Texts.{Texts}
use Rattle.inputs.specs.declared.TextRefusal.{TextRefusal}
use Rattle.inputs.specs.Inputs.{BothPass, BothOutcome, JudgesBoth}

module _
    {A B : Type 0} {l : Limits} {read : Reading A} {s : Bytes} {read' : Reading B} {t : Bytes} {Held : ℕ → ℕ → ℕ → A → B → Type 0}
    {r : Result Texts TextRefusal} (j : JudgesBoth l read s read' t Held r)
  where
    pub both_passes : {x : Texts} → r ≡ Ok x → BothPass l read s read' t (Held x.first x.second x.top)
    both_passes e = subst (BothOutcome l read s read' t Held) e j.answer

    pub both_refused
        : {q : TextRefusal} → r ≡ Err q
        → judge_both l read s read' t ≡ stopped (refusal (number_of q.refusal.cause) q.text q.refusal.place)
    both_refused e = subst (BothOutcome l read s read' t Held) e j.answer
