-- Request Q-13 along a list of infer calls: the text that further calls reach is that of a shape above, so what is claimed of two ordered texts
-- holds of both. Assumes nothing.
use Rattle.std.specs.Prelude.{ℕ, ◌≡◌, true}
use Rattle.std.proofs.Math.Path.{refl}
use Rattle.std.proofs.Common.{sym, ap, ◌∙◌, subst}
use mathlib.Core.List.{List, [], ◌∷◌, ◌++◌, map, map-append}
use Rattle.definitions.specs.declared.Limits.{Limits}
use Rattle.definitions.specs.Bytes.{Bytes}
use Rattle.definitions.specs.Shape.{Shape, nothing}
use Rattle.definitions.specs.Order.{below}
use Rattle.definitions.specs.Operations.{Source, check_operation}
use Rattle.definitions.specs.Calls.{call, buffer_published, buffer_lent, check_call}
use Rattle.laws.specs.Chain.{Call, start, left_by, reached, ProperSource, InRange}
use Rattle.laws.proofs.ChainReached.{Stands, stands_reads, stands_short, stands_start, reaches}
use Rattle.laws.proofs.ChainReaders.{check_passed}
use Rattle.laws.specs.HostChain.{InferCall, reached_text}
use Rattle.laws.proofs.HostDemand3.{as_operation, reached_as}
use Rattle.laws.proofs.WidensOperations.{Ordered, ordered_as, says_ordered, checks_say, check_above}
use Rattle.laws.proofs.WidensCalls.{calls_ordered, check_calls_say, check_call_above}
use Rattle.laws.specs.Widens.{check_widens, check_lost}
use Rattle.laws.specs.Statements.{ReadersWiden, SamplesWiden}

stands_ordered
    : {l : Limits} {first second : Bytes} {s t : Shape} → Stands l first s → Stands l second t → below s t ≡ true → Ordered l first second
stands_ordered {s = s} {t} h k o =
    record {
      lower = s;
      upper = t;
      reads_lower = stands_reads h;
      short_lower = stands_short h;
      reads_upper = stands_reads k;
      short_upper = stands_short k;
      order = o;
    }

module _ (source : Source) (proper : ProperSource source) where
  module _ (for_infer : List ℕ) (l : Limits) where
    -- further calls go on from the text that was reached
    reached_further
        : (calls further : List Call) (t : Bytes)
        → reached source for_infer l (calls ++ further) t ≡ reached source for_infer l further (reached source for_infer l calls t)
    unfolding reached
    reached_further [] further t = refl
    reached_further (c ∷ calls) further t = reached_further calls further (left_by source for_infer l c t)

    pub reached_ordered
        : InRange l → (calls further : List Call)
        → Ordered l (reached source for_infer l calls start) (reached source for_infer l (calls ++ further) start)
    reached_ordered range calls further =
        let r = reaches source proper for_infer l calls start nothing (stands_start l range) in
        let q = reaches source proper for_infer l further (reached source for_infer l calls start) r.shape r.stands in
        subst (λ (t : Bytes). Ordered l (reached source for_infer l calls start) t) (sym (reached_further calls further start))
        (stands_ordered r.stands q.stands q.above)

  -- the same as a host makes the calls
  pub texts_ordered
      : (l : Limits) → InRange l → (list further : List InferCall)
      → Ordered l (reached_text source l list start) (reached_text source l (list ++ further) start)
  texts_ordered l range list further =
      ordered_as (reached_as source proper l range list start) same_later
      (reached_ordered buffer_published l range (map as_operation list) (map as_operation further))
    where
      same_later
          : reached source buffer_published l (map as_operation list ++ map as_operation further) start
          ≡ reached_text source l (list ++ further) start
      same_later =
          ap (λ (cs : List Call). reached source buffer_published l cs start) (sym (map-append as_operation list further))
          ∙ reached_as source proper l range (list ++ further) start

-- ---- as the statements have it

pub widening : ReadersWiden
widening =
    record {
      widened = λ r s t u w i j h e f. check_widens r s t u i j h e w f;
      lost = λ r s t u n p i j h e f. check_lost r s t u i j h e n p f;
      by_check = λ l first second reader output output' for_below lent_to_below for_check lent lent' h.
          checks_say for_check l reader (says_ordered for_below lent_to_below l first second h) output output' lent lent';
      lost_by_check = λ l first second reader output output' for_below lent_to_below for_check lent lent' h.
          check_above for_check l reader (says_ordered for_below lent_to_below l first second h) output output' lent lent';
      by_check_call = λ l first second reader output output' told answer answer' h.
          check_calls_say l reader (calls_ordered l first second told h) output output' answer answer';
      lost_by_check_call = λ l first second reader output output' told answer answer' h.
          check_call_above l reader (calls_ordered l first second told h) output output' answer answer';
    }

-- a check that gave 0 was at a set in range
range_checked
    : (for_check lent : List ℕ) (l : Limits) (reader text output : Bytes) → (check_operation for_check lent l reader text output).answer.number ≡ 0
    → InRange l
range_checked for_check lent l reader text output e = (check_passed for_check lent l reader text output e).3.range

range_called : (l : Limits) (reader text output answer : Bytes) → (check_call l reader text output answer).number ≡ 0 → InRange l
unfolding check_call call
range_called l reader text output answer e = range_checked buffer_published (buffer_lent answer) l reader text output e

pub samples_widen : (source : Source) → ProperSource source → SamplesWiden source
samples_widen source proper =
    record {
      by_check = λ for_infer for_check l calls further reader output output' lent lent' e.
          checks_say for_check l reader
          (reached_ordered source proper for_infer l (range_checked for_check lent l reader _ output e) calls further) output output' lent lent' e;
      lost_by_check = λ for_infer for_check l calls further reader output output' lent lent' e.
          check_above for_check l reader
          (reached_ordered source proper for_infer l (range_checked for_check lent l reader _ output e) calls further) output output' lent lent' e;
      by_check_call = λ l list further reader output output' answer answer' e.
          check_calls_say l reader (texts_ordered source proper l (range_called l reader _ output answer e) list further) output output' answer
          answer' e;
      lost_by_check_call = λ l list further reader output output' answer answer' e.
          check_call_above l reader (texts_ordered source proper l (range_called l reader _ output answer e) list further) output output' answer
          answer' e;
    }
