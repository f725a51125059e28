-- What each operation judges of its texts is refused with a number above 0, if it is refused. Assumes nothing.
use Rattle.std.specs.Prelude.{ℕ, ◌<◌, ◌≡◌, refl, ◌⊎◌, Bool, true, false}
use Rattle.std.proofs.Common.{arith, inl, inr, lit<}
use Rattle.definitions.specs.declared.Limits.{Limits}
use Rattle.definitions.specs.Bytes.{Bytes}
use Rattle.definitions.specs.Outcome.{Outcome, ok, refused}
use Rattle.definitions.specs.Value.{Value}
use Rattle.definitions.specs.Json.{read_json}
use Rattle.definitions.specs.Join.{join, shape_of}
use Rattle.definitions.specs.ShapeText.{read_shape}
use Rattle.definitions.specs.Reader.{Result, read_reader}
use Rattle.definitions.specs.Checking.{check_reader}
use Rattle.definitions.specs.Running.{Ran, run_reader}
use Rattle.definitions.specs.Operations.{Source, result_out, plain_judged, infer_judged, join_judged, below_judged, admits_judged, check_judged}
use Rattle.definitions.specs.Operations.{run_judged}
use Rattle.laws.specs.Judging.{Numbered, Positive, bind_positive, text_positive, both_positive, in_text_positive, refusal_positive}
use Rattle.laws.specs.Judging.{shape_out_positive, result_over, result_out_over, result_out_fits}
use Rattle.laws.specs.Numbered.{numbered_shape, numbered_reader, numbered_check_reader}
use Rattle.laws.proofs.JsonAdequate.{json_refused}
use Rattle.laws.proofs.CauseRefuses.{cause_numbered}
use Rattle.laws.specs.RunLaws.{run_refusals}
use Rattle.laws.specs.Chain.{ProperSource}

pub numbered_json : (l : Limits) (s : Bytes) → Numbered (read_json l s)
numbered_json l s = go (read_json l s) refl
  where
    go : (o : Outcome ℕ Value) → read_json l s ≡ o → Numbered o
    go (ok v) e = tt
    go (refused n p) e = cause_numbered (json_refused l s n p e)

pub numbered_run : (r : Result) (l : Limits) (v : Value) → Numbered (run_reader r l v)
numbered_run r l v = go (run_reader r l v) refl
  where
    halt : {n : ℕ} → (n ≡ 12) ⊎ (n ≡ 13) → 0 < n
    halt (inl e) = omega arith
    halt (inr e) = omega arith

    go : (o : Outcome ℕ (Ran Value)) → run_reader r l v ≡ o → Numbered o
    go (ok x) e = tt
    go (refused n p) e = halt (run_refusals r l v n p e)

result_out_positive : (l : Limits) (x : Ran Value) → Positive (result_out l x)
result_out_positive l x = go (result_over l x.result) refl
  where
    go : (b : Bool) → result_over l x.result ≡ b → Positive (result_out l x)
    go true q = rw (result_out_over l x q) (refusal_positive 14 0 0 (lit< tt))
    go false q = rw (result_out_fits l x q) tt

module _ (l : Limits) where
  pub join_positive : (first second : Bytes) → Positive (join_judged l first second)
  unfolding join_judged
  join_positive first second =
      bind_positive _ _ (both_positive l read_shape first read_shape second (numbered_shape l first) (numbered_shape l second)) λ (s, t).
      shape_out_positive l (join s t)

  pub below_positive : (first second : Bytes) → Positive (below_judged l first second)
  unfolding below_judged
  below_positive first second =
      bind_positive _ _ (both_positive l read_shape first read_shape second (numbered_shape l first) (numbered_shape l second)) λ (s, t). tt

  pub check_positive : (reader shape : Bytes) → Positive (check_judged l reader shape)
  unfolding check_judged
  check_positive reader shape =
      bind_positive _ _ (both_positive l read_reader reader read_shape shape (numbered_reader l reader) (numbered_shape l shape)) λ (r, s).
      bind_positive _ _ (in_text_positive 1 (check_reader r s) (numbered_check_reader r s)) λ t. shape_out_positive l t

pub source_numbered : {source : Source} → ProperSource source → (l : Limits) (document : Bytes) → Numbered (source l document)
source_numbered {source} proper l document = go (source l document) refl
  where
    go : (o : Outcome ℕ Value) → source l document ≡ o → Numbered o
    go (ok v) e = tt
    go (refused n p) e = proper.numbered l document n p e

-- over a source whose refusals have a number
module _ (source : Source) (l : Limits) (numbered : (document : Bytes) → Numbered (source l document)) where
  pub plain_positive : (document : Bytes) → Positive (plain_judged source l document)
  unfolding plain_judged
  plain_positive document = bind_positive _ _ (text_positive 1 l source document (numbered document)) λ v. tt

  pub infer_positive : (shape document : Bytes) → Positive (infer_judged source l shape document)
  unfolding infer_judged
  infer_positive shape document =
      bind_positive _ _ (both_positive l read_shape shape source document (numbered_shape l shape) (numbered document)) λ (s, v).
      shape_out_positive l (join s (shape_of v))

  pub admits_positive : (shape document : Bytes) → Positive (admits_judged source l shape document)
  unfolding admits_judged
  admits_positive shape document =
      bind_positive _ _ (both_positive l read_shape shape source document (numbered_shape l shape) (numbered document)) λ (s, v). tt

  pub run_positive : (reader document : Bytes) → Positive (run_judged source l reader document)
  unfolding run_judged
  run_positive reader document =
      bind_positive _ _ (both_positive l read_reader reader source document (numbered_reader l reader) (numbered document)) λ (r, v).
      bind_positive _ _ (in_text_positive 1 (run_reader r l v) (numbered_run r l v)) λ x. result_out_positive l x
