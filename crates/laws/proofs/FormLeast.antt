-- A refusal of a text of forms is the least of its causes, for any grammar whose steps are adequate to it. Assumes nothing.
use Prim.Native.Nat.{ℕ, suc, ◌+◌, ◌<◌}
use Rattle.std.specs.Prelude.{◌≡◌, refl, ◌⊎◌, true, ltb}
use Rattle.std.proofs.Common.{sym, ◌∙◌, subst, inl, inr}
use Rattle.std.proofs.Math.Path.{ap}
use mathlib.Core.List.{List, [], ◌∷◌, ◌++◌, append_assoc}
use Rattle.std.proofs.Math.Option.{Option, none, some, none-ne-some}
use Rattle.std.proofs.Math.ListN.{length, length-append}
use native.Mathlib.Omega.{arith}
use Rattle.definitions.specs.declared.Limits.{Limits}
use Rattle.definitions.specs.Bytes.{Bytes}
use Rattle.definitions.specs.Outcome.{ok, refused}
use Rattle.definitions.specs.Limits.{over}
use Rattle.definitions.specs.Tokens.{Placed, tokens, Step, misplaced, opens, read_tokens}
use Rattle.laws.specs.Bools.{or_cases}
use Rattle.laws.specs.Tests.{ltb_lt}
use Rattle.laws.specs.Causes.{First, earlier, same_place}
use Rattle.laws.specs.FormCauses.{Begins, Cause, misplaced_token, missing_token, full_bracket}
use Rattle.laws.specs.FormRuns.{Walk, stay, enter, most, most_append, walk_unique, Fits, Accepted, read_accepted}
use Rattle.laws.proofs.FormStops.{Stopped, stopped_token, stopped_end, stopped_full, read_stopped, Reaches}
use Rattle.laws.proofs.FormStops.{walk_parts, walk_join, walk_misplaced, walk_opens, before_end, stop_first}

-- ---- adequate steps

-- the steps from a start read the right texts, each state that is reached has a completion, and the forms that count are the brackets'
pub record Adequate
    {Q A : Type 0} (step : Q → Placed → Step Q) (whole : Q → Option A) (start : Q) (Right : List Placed → Type 0)
    (Bracket : List Placed → Placed → ℕ → ℕ → Type 0)
    : Type 0 where
  pub sound
      : {ts : List Placed} {ds : List ℕ} {u : Q} {a : A} → Walk step start ts ds u [] → whole u ≡ some a → Right ts
  pub complete : {ts : List Placed} → Right ts → Reaches step whole start ts
  pub live
      : {pre : List Placed} {ds : List ℕ} {q : Q} → Walk step start pre ds q [] → (rest : List Placed) × Reaches step whole q rest
  pub bracket_to
      : {pre : List Placed} {ds : List ℕ} {q r : Q} {t : Placed} {d : ℕ} → Walk step start pre ds q [] → step q t ≡ opens d r
      → Bracket pre t (suc (length ds)) d
  pub bracket_from
      : {pre : List Placed} {ds : List ℕ} {q : Q} {t : Placed} {n d : ℕ} → Walk step start pre ds q [] → Bracket pre t n d
      → (r : Q) × (step q t ≡ opens d r) × (n ≡ suc (length ds))

module _ {Q A : Type 0} {step : Q → Placed → Step Q} {whole : Q → Option A} {start : Q} {Right : List Placed → Type 0}
    {Bracket : List Placed → Placed → ℕ → ℕ → Type 0} (adequate : Adequate step whole start Right Bracket) where
  -- where a walk goes, some right text begins so, and the other way round
  walk_begins : {pre : List Placed} {ds : List ℕ} {q : Q} → Walk step start pre ds q [] → Begins Right pre
  walk_begins w =
      let h = adequate.live w in
      record { rest = h.0; right = adequate.sound (walk_join w h.1.walk) h.1.is_whole }

  begins_walk : (pre : List Placed) → Begins Right pre → (ds : List ℕ) × (q : Q) × Walk step start pre ds q []
  begins_walk pre b =
      let h = walk_parts pre (adequate.complete b.right).walk in
      (h.before, h.between, h.first)

  -- behind a walk no right text has a misplaced token
  none_begins
      : (pre : List Placed) {ds : List ℕ} {q : Q} {t : Placed} → Walk step start pre ds q [] → step q t ≡ misplaced
      → Begins Right (pre ++ t ∷ []) → ⊥
  none_begins pre {q = q} {t} w m b =
      let v = begins_walk (pre ++ t ∷ []) b in
      let h = walk_parts pre v.2 in
      walk_misplaced h.second (ap (λ x. step x t) (walk_unique {w = q} h.first w).1 ∙ m)

  -- a walk that does not end in a whole text is over no right one
  none_right
      : {ts : List Placed} {ds : List ℕ} {q : Q} → Walk step start ts ds q [] → whole q ≡ none → Right ts → ⊥
  none_right {q = q} w e r =
      let h = adequate.complete r in
      none-ne-some h.value (sym e ∙ ap whole (walk_unique {w = h.last} w h.walk).1 ∙ h.is_whole)

  -- ---- the refusal given is a cause

  pub refused_cause
      : (l : Limits) (s : Bytes) (n p : ℕ) → read_tokens step whole l 0 (length s) start (tokens s) ≡ refused n p
      → Cause Right Bracket l s n p
  refused_cause l s n p e = by_stop (read_stopped step whole l (length s) (tokens s) n p 0 start (omega arith) e)
    where
      exceeds : (n d : ℕ) → (ltb l.values n ≡ true) ⊎ (ltb l.nesting d ≡ true) → (l.values < n) ⊎ (l.nesting < d)
      exceeds n d (inl h) = inl (ltb_lt l.values n h)
      exceeds n d (inr h) = inr (ltb_lt l.nesting d h)

      by_stop : {n p : ℕ} → Stopped step whole l 0 (length s) start (tokens s) n p → Cause Right Bracket l s n p
      by_stop (stopped_token pre t post ds u i w f m) = misplaced_token pre t post i (walk_begins w) (none_begins pre w m)
      by_stop (stopped_end ds u w f o) = missing_token (walk_begins w) (none_right w o)
      by_stop (stopped_full pre t post ds u r d i w f o h) =
          full_bracket
          pre
          t
          post
          (suc (length ds))
          d
          i
          (adequate.bracket_to w o)
          (exceeds
          (suc (length ds))
          d
          (or_cases
          (ltb l.values (suc (length ds)))
          (ltb l.nesting d)
          (subst (λ c. over l (suc c) d ≡ true) (let z : 0 + length ds ≡ length ds = omega arith in z) h)))

  -- ---- no cause stands before

  -- a walk within the limits passes no cause
  passed_7
      : (pre : List Placed) (t : Placed) (mid : List Placed) {ds : List ℕ} {q : Q} → Walk step start (pre ++ t ∷ mid) ds q []
      → (Begins Right (pre ++ t ∷ []) → ⊥) → ⊥
  passed_7 pre t mid {ds} {q} w never =
      let v = subst (λ x. Walk step start x ds q []) (sym (append_assoc pre (t ∷ []) mid)) w in
      never (walk_begins (walk_parts (pre ++ t ∷ []) v).first)

  passed_8
      : (l : Limits) (pre : List Placed) (t : Placed) (mid : List Placed) {ds : List ℕ} {q : Q} {n d : ℕ}
      → Walk step start (pre ++ t ∷ mid) ds q [] → Fits l 0 ds → Bracket pre t n d → (l.values < n) ⊎ (l.nesting < d) → ⊥
  unfolding most
  passed_8 l pre t mid {ds} {q} {n} {d} w f b over =
      let h = walk_parts pre w in
      let o = adequate.bracket_from h.first b in
      let x = walk_opens h.second o.1 in
      excess h.before x.0 (h.split ∙ ap (λ y. h.before ++ y) x.1) o.2 over
    where
      excess
          : (bs es : List ℕ) → ds ≡ bs ++ d ∷ es → n ≡ suc (length bs) → (l.values < n) ⊎ (l.nesting < d) → ⊥
      excess bs es i j (inl k) =
          let a = f.count_fits in
          let b = ap length i ∙ length-append bs (d ∷ es) in
          omega arith
      excess bs es i j (inr k) =
          let a = f.depth_fits in
          let b = ap most i ∙ most_append bs (d ∷ es) in
          omega arith

  -- ---- the refusal given is the least cause

  pub refused_least
      : (l : Limits) (s : Bytes) (n p m q : ℕ) → read_tokens step whole l 0 (length s) start (tokens s) ≡ refused n p
      → Cause Right Bracket l s m q → First n p m q
  refused_least l s n p m q e c = by_stop (read_stopped step whole l (length s) (tokens s) n p 0 start (omega arith) e) c
    where
      over_walk
          : {ts us : List Placed} {ds : List ℕ} {u : Q} → ts ≡ us → Walk step start ts ds u [] → Walk step start us ds u []
      over_walk {ds = ds} {u} i w = subst (λ x. Walk step start x ds u []) i w

      by_stop : {n p m q : ℕ} → Stopped step whole l 0 (length s) start (tokens s) n p → Cause Right Bracket l s m q → First n p m q
      by_stop (stopped_token pre t post ds u i w f x) (misplaced_token pre' t' post' j b never) =
          stop_first s 7 7 pre t post pre' t' post' i j (λ mid k. passed_7 pre' t' mid (over_walk k w) never) (λ a b. omega arith)
      by_stop (stopped_token pre t post ds u i w f x) (missing_token b never) = earlier (before_end s pre t post i)
      by_stop (stopped_token pre t post ds u i w f x) (full_bracket pre' t' post' n d j b over) =
          stop_first s 7 8 pre t post pre' t' post' i j (λ mid k. passed_8 l pre' t' mid (over_walk k w) f b over) (λ a b. omega arith)
      by_stop (stopped_end ds u w f x) (misplaced_token pre' t' post' j b never) = absurd (passed_7 pre' t' post' (over_walk j w) never)
      by_stop (stopped_end ds u w f x) (missing_token b never) = same_place refl (omega arith)
      by_stop (stopped_end ds u w f x) (full_bracket pre' t' post' n d j b over) =
          absurd (passed_8 l pre' t' post' (over_walk j w) f b over)
      by_stop (stopped_full pre t post ds u r d i w f o h) (misplaced_token pre' t' post' j b never) =
          stop_first s 8 7 pre t post pre' t' post' i j (λ mid k. passed_7 pre' t' mid (over_walk k w) never)
          (λ a b. absurd (never (walk_begins (over_walk (λ k. a k ++ b k ∷ []) (walk_join w (enter o stay))))))
      by_stop (stopped_full pre t post ds u r d i w f o h) (missing_token b never) = earlier (before_end s pre t post i)
      by_stop (stopped_full pre t post ds u r d i w f o h) (full_bracket pre' t' post' n e j b over) =
          stop_first s 8 8 pre t post pre' t' post' i j (λ mid k. passed_8 l pre' t' mid (over_walk k w) f b over) (λ a b. omega arith)

  -- ---- what is accepted has no cause

  pub accepted_causeless
      : (l : Limits) (s : Bytes) (a : A) (m q : ℕ) → read_tokens step whole l 0 (length s) start (tokens s) ≡ ok a
      → Cause Right Bracket l s m q → ⊥
  accepted_causeless l s a m q e c = by_cause (read_accepted step whole l (length s) (tokens s) a 0 start (omega arith) e) c
    where
      over_walk
          : {ts us : List Placed} {ds : List ℕ} {u : Q} → ts ≡ us → Walk step start ts ds u [] → Walk step start us ds u []
      over_walk {ds = ds} {u} i w = subst (λ x. Walk step start x ds u []) i w

      by_cause : {m q : ℕ} → Accepted step whole l 0 start (tokens s) a → Cause Right Bracket l s m q → ⊥
      by_cause w (misplaced_token pre t post j b never) = passed_7 pre t post (over_walk j w.walk) never
      by_cause w (missing_token b never) = never (adequate.sound w.walk w.is_whole)
      by_cause w (full_bracket pre t post n d j b over) = passed_8 l pre t post (over_walk j w.walk) w.fits b over
