-- The end of an operation: what is answered, and the output afterwards, where a judgement stops or passes. Each law is of any
-- judgement, so that an operation's own proof only cites them. Assumes nothing.
use Rattle.std.specs.Prelude.{ℕ, ◌≡◌, refl, Bool, true, false, List}
use Rattle.std.proofs.Common.{sym, ap, ◌∙◌}
use Rattle.definitions.specs.declared.Limits.{Limits}
use Rattle.definitions.specs.declared.Answer.{Answer}
use Rattle.definitions.specs.Limits.{in_range}
use Rattle.definitions.specs.Bytes.{Bytes}
use Rattle.definitions.specs.Operations.{Done, Judged, passed, stopped, ◌>>=◌, refusal, TextOut, slices_short, prelude, finish, say}
use Rattle.laws.specs.Judging.{bind_of, bind_stopped, prelude_out, prelude_short, prelude_long}

-- ---- with an output

-- an answer and an output are what an operation comes to
abbrev pub Comes : Done → Answer → Bytes → Type 0
Comes d r out' = (r ≡ d.answer) × (out' ≡ d.output)

comes_as : {d d' : Done} {r : Answer} {out' : Bytes} → d ≡ d' → Comes d r out' → Comes d' r out'
comes_as e c = (c.0 ∙ ap (λ (d : Done). d.answer) e, c.1 ∙ ap (λ (d : Done). d.output) e)

-- by another way to the same judgement
pub finishes_as
    : {j j' : Judged TextOut} {r : Answer} {out' : Bytes} (out : Bytes) → j ≡ j' → Comes (finish out j') r out' → Comes (finish out j) r out'
finishes_as out e c = comes_as (ap (λ j. finish out j) (sym e)) c

-- what stopped keeps the output
pub stopped_keeps : {j : Judged TextOut} {r a : Answer} (out : Bytes) → r ≡ a → j ≡ stopped a → Comes (finish out j) r out
unfolding finish
stopped_keeps out e g = finishes_as out g (e, refl)

module _ {A : Type 0} {m : Judged A} (out : Bytes) (f : A → Judged TextOut) where
  pub finishes_stopped : {r a : Answer} → r ≡ a → m ≡ stopped a → Comes (finish out (m >>= f)) r out
  finishes_stopped e g = stopped_keeps out e (bind_stopped f g)

  pub finishes_passed
      : {x : A} {r : Answer} {out' : Bytes} → m ≡ passed x → Comes (finish out (f x)) r out' → Comes (finish out (m >>= f)) r out'
  finishes_passed g c = finishes_as out (bind_of f g) c

-- behind the prelude
module _ (l : Limits) (published lent : List ℕ) (out : Bytes) (j : Judged TextOut) {r : Answer} where
  pub finishes_out : in_range l ≡ false → r ≡ refusal 18 0 0 → Comes (finish out (prelude l published lent j)) r out
  finishes_out h e = stopped_keeps out e (prelude_out l published lent j h)

  module _ (h : in_range l ≡ true) where
    pub finishes_short : slices_short published lent ≡ true → r ≡ refusal 1 0 0 → Comes (finish out (prelude l published lent j)) r out
    finishes_short s e = stopped_keeps out e (prelude_short l published lent j h s)

    pub finishes_long
        : {out' : Bytes} → slices_short published lent ≡ false → Comes (finish out j) r out'
        → Comes (finish out (prelude l published lent j)) r out'
    finishes_long s c = finishes_as out (prelude_long l published lent j h s) c

-- ---- without an output

pub says_as : {j j' : Judged Bool} {r : Answer} → j ≡ j' → r ≡ say j' → r ≡ say j
says_as e c = c ∙ sym (ap say e)

module _ {A : Type 0} {m : Judged A} (f : A → Judged Bool) where
  pub says_stopped : {r a : Answer} → r ≡ a → m ≡ stopped a → r ≡ say (m >>= f)
  unfolding say
  says_stopped e g = says_as (bind_stopped f g) e

  pub says_passed : {x : A} {r : Answer} → m ≡ passed x → r ≡ say (f x) → r ≡ say (m >>= f)
  says_passed g c = says_as (bind_of f g) c

module _ (l : Limits) (published lent : List ℕ) (j : Judged Bool) {r : Answer} where
  pub says_out : in_range l ≡ false → r ≡ refusal 18 0 0 → r ≡ say (prelude l published lent j)
  unfolding say
  says_out h e = says_as (prelude_out l published lent j h) e

  module _ (h : in_range l ≡ true) where
    pub says_short : slices_short published lent ≡ true → r ≡ refusal 1 0 0 → r ≡ say (prelude l published lent j)
    unfolding say
    says_short s e = says_as (prelude_short l published lent j h s) e

    pub says_long : slices_short published lent ≡ false → r ≡ say j → r ≡ say (prelude l published lent j)
    says_long s c = says_as (prelude_long l published lent j h s) c
