-- Every refusal of a shape text, a reader or a check has a number above 0. Assumes nothing.
use Rattle.std.specs.Prelude.{ℕ, suc, Bool, true, false, List, [], ◌∷◌, length}
use Rattle.std.proofs.Math.Option.{Option, none, some}
use Rattle.std.proofs.Common.{lit<}
use Rattle.definitions.specs.declared.Limits.{Limits}
use Rattle.definitions.specs.Bytes.{Bytes}
use Rattle.definitions.specs.Outcome.{Outcome, ok, refused, ◌>>=◌}
use Rattle.definitions.specs.Shape.{Kind, Shape, Record, no_rec, rec_of, within, record_of, find}
use Rattle.definitions.specs.Limits.{over}
use Rattle.definitions.specs.Tokens.{Placed, Step, misplaced, go, opens, judge_step, or_end, read_tokens, tokens}
use Rattle.definitions.specs.ShapeText.{read_shape}
use Rattle.definitions.specs.Reader.{Place, Result, Pairs, no_pairs, pair, read_result, read_reader}
use Rattle.definitions.specs.Checking.{wants, listed, field_shape, field_kinds, convert_kinds, list_kinds}
use Rattle.definitions.specs.Checking.{if_kinds, check_place, check, check_pairs, check_reader}
use Rattle.laws.specs.Judging.{Numbered}

-- ---- texts of forms

numbered_judge
    : {Q A : Type 0} (l : Limits) (n at : ℕ) (s : Step Q) (on : ℕ → Q → Outcome ℕ A) → ((m : ℕ) (q : Q) → Numbered (on m q))
    → Numbered (judge_step l n at s on)
unfolding judge_step
numbered_judge l n at misplaced on h = lit< tt
numbered_judge l n at (go q) on h = h n q
numbered_judge {A = A} l n at (opens d q) on h = by (over l (suc n) d)
  where
    by : (b : Bool) → Numbered {A = A} (elim b [ true ↦ refused 8 at | false ↦ on (suc n) q ])
    by true = lit< tt
    by false = h (suc n) q

numbered_end : {A : Type 0} (end : ℕ) (o : Option A) → Numbered (or_end end o)
unfolding or_end
numbered_end end none = lit< tt
numbered_end end (some a) = tt

pub numbered_tokens
    : {Q A : Type 0} (step : Q → Placed → Step Q) (whole : Q → Option A) (l : Limits) (n end : ℕ) (q : Q) (ts : List Placed)
    → Numbered (read_tokens step whole l n end q ts)
unfolding read_tokens
numbered_tokens step whole l n end q [] = numbered_end end (whole q)
numbered_tokens step whole l n end q (t ∷ ts) =
    numbered_judge l n t.at (step q t) _ (λ m r. numbered_tokens step whole l m end r ts)

pub numbered_shape : (l : Limits) (s : Bytes) → Numbered (read_shape l s)
unfolding read_shape
numbered_shape l s = numbered_tokens _ _ l 0 (length s) _ (tokens s)

numbered_result : (l : Limits) (end : ℕ) (ts : List Placed) → Numbered (read_result l end ts)
unfolding read_result
numbered_result l end [] = tt
numbered_result l end (t ∷ ts) = numbered_tokens _ _ l 0 end _ (t ∷ ts)

pub numbered_reader : (l : Limits) (s : Bytes) → Numbered (read_reader l s)
unfolding read_reader
numbered_reader l s = numbered_result l (length s) (tokens s)

-- ---- checking

numbered_bind
    : {A B : Type 0} (o : Outcome ℕ A) (f : A → Outcome ℕ B) → Numbered o → ((a : A) → Numbered (f a)) → Numbered (o >>= f)
unfolding ◌>>=◌
numbered_bind (ok a) f h k = k a
numbered_bind (refused n p) f h k = h

numbered_wants : {A : Type 0} (at : ℕ) (ks : List Kind) (s : Shape) (o : Outcome ℕ A) → Numbered o → Numbered (wants at ks s o)
unfolding wants
numbered_wants {A} at ks s o h = by (within ks s)
  where
    by : (b : Bool) → Numbered {A = A} (elim b [ true ↦ o | false ↦ refused 9 at ])
    by true = h
    by false = lit< tt

numbered_listed : (at : ℕ) (n : Bytes) (r : Record) → Numbered (listed at n r)
unfolding listed
numbered_listed at n no_rec = lit< tt
numbered_listed at n (rec_of fs) = by (find n fs)
  where
    by : (o : Option Shape) → Numbered {A = Shape} (elim o [ none ↦ refused 10 at | some s ↦ ok s ])
    by none = lit< tt
    by (some s) = tt

numbered_place : (p : Place) (env : List Shape) → Numbered (check_place p env)
unfolding check_place field_shape
numbered_place (Place.it at n) env = tt
numbered_place (Place.field at n p) env =
    numbered_bind (check_place p env) _ (numbered_place p env) λ s.
    numbered_wants at field_kinds s _ (numbered_bind (listed at n (record_of s)) _ (numbered_listed at n (record_of s)) λ t. tt)

mutual
  unfolding check

  numbered_check : (r : Result) (env : List Shape) → Numbered (check r env)
  numbered_check (Result.convert at c p) env =
      numbered_bind (check_place p env) _ (numbered_place p env) λ s. numbered_wants at (convert_kinds c) s _ tt
  numbered_check (Result.keep at p) env = numbered_place p env
  numbered_check (Result.count at p) env =
      numbered_bind (check_place p env) _ (numbered_place p env) λ s. numbered_wants at list_kinds s _ tt
  numbered_check (Result.each at p r) env =
      numbered_bind (check_place p env) _ (numbered_place p env) λ s.
      numbered_bind (check r _) _ (numbered_check r _) λ t. numbered_wants at list_kinds s _ tt
  numbered_check (Result.when at k p r₁ r₂) env =
      numbered_bind (check_place p env) _ (numbered_place p env) λ s.
      numbered_bind (check r₁ _) _ (numbered_check r₁ _) λ t₁. numbered_bind (check r₂ _) _ (numbered_check r₂ _) λ t₂. tt
  numbered_check (Result.choose at r₁ r₂ r₃) env =
      numbered_bind (check r₁ env) _ (numbered_check r₁ env) λ t₁.
      numbered_bind (check r₂ env) _ (numbered_check r₂ env) λ t₂.
      numbered_bind (check r₃ env) _ (numbered_check r₃ env) λ t₃. numbered_wants at if_kinds t₁ _ tt
  numbered_check (Result.literal at v) env = tt
  numbered_check (Result.pack at ps) env = numbered_bind (check_pairs ps env) _ (numbered_pairs ps env) λ fs. tt

  numbered_pairs : (ps : Pairs) (env : List Shape) → Numbered (check_pairs ps env)
  numbered_pairs no_pairs env = tt
  numbered_pairs (pair n r ps) env =
      numbered_bind (check r env) _ (numbered_check r env) λ s. numbered_bind (check_pairs ps env) _ (numbered_pairs ps env) λ fs. tt

pub numbered_check_reader : (r : Result) (s : Shape) → Numbered (check_reader r s)
unfolding check_reader
numbered_check_reader r s = numbered_check r (s ∷ [])
