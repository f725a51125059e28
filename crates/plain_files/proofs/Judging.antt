-- What the operation makes of a document in the program's buffers is the definition's. Assumes nothing.
use Rattle.std.proofs.Common.{◌≡◌, ℕ, ◌<◌, List, [], ◌∷◌, length, replicate, arith, sym, ap, ap₂, ◌∙◌}
use Rattle.std.proofs.Math.ListN.{length-replicate}
use Rattle.definitions.specs.declared.Answer.{Answer}
use Rattle.definitions.specs.Bytes.{Bytes}
use Rattle.definitions.specs.Limits.{standard}
use Rattle.definitions.specs.Json.{read_json}
use Rattle.definitions.specs.Operations.{Done, stopped, refusal, finish, plain_judged, plain_operation}
use Rattle.definitions.specs.WorkSlices.{plain_slices}
use Rattle.laws.specs.Judging.{prelude_long, bind_stopped, text_long}
use Rattle.laws.specs.Tests.{lt-ltb}
use Rattle.laws.proofs.Theorems.{standard_in_range}
use Rattle.slices.specs.Long.{two_long}
use Rattle.plain_files.specs.Lines.{judged}

-- the lengths of the work slices
abbrev lent : List ℕ
lent = length (replicate {A = ℕ} 1536 0) ∷ length (replicate {A = ℕ} 2559 0) ∷ []

abbrev done_of : Answer → Bytes → Done
done_of r o = record { answer = r; output = o }

module _ (document : Bytes) where
  -- in the work slices as published
  abbrev on_slices : Done
  on_slices = plain_operation read_json (plain_slices standard) lent standard document (replicate 16384 0)

  alone : on_slices ≡ judged document
  unfolding plain_operation judged standard
  alone =
      ap (λ j. finish (replicate 16384 0) j)
      (prelude_long standard (plain_slices standard) lent (plain_judged read_json standard document) standard_in_range
      (two_long 1536 2559 _ _ (omega (arith, length-replicate {A = ℕ} 1536 0)) (omega (arith, length-replicate {A = ℕ} 2559 0))))

  pub done_judged : (r : Answer) (o : Bytes) → r ≡ on_slices.answer → o ≡ on_slices.output → done_of r o ≡ judged document
  done_judged r o e f = ap₂ done_of e f ∙ alone

-- ---- a document that is too long

long_stopped : (document : Bytes) → 16384 < length document → plain_judged read_json standard document ≡ stopped (refusal 2 1 0)
unfolding plain_judged standard
long_stopped document h = bind_stopped _ (text_long 1 standard read_json document (lt-ltb _ _ h))

pub longs_alike : (a b : Bytes) → 16384 < length a → 16384 < length b → judged a ≡ judged b
unfolding judged
longs_alike a b h k = ap (λ j. finish (replicate 16384 0) j) (long_stopped a h ∙ sym (long_stopped b k))
