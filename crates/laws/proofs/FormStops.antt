-- Where reading a text of forms stops, and why, said by walks over what stands before. Assumes nothing.
use Prim.Native.Nat.{ℕ, suc, ◌+◌, ◌≤◌, ◌<◌}
use Rattle.std.specs.Prelude.{◌≡◌, Bool, true, false, ltb}
use Rattle.std.proofs.Math.Path.{refl, subst₂}
use Rattle.std.proofs.Common.{sym, ◌∙◌, ap, subst}
use mathlib.Core.List.{List, [], ◌∷◌, ◌++◌}
use Rattle.std.proofs.Math.Option.{Option, none, some}
use Rattle.std.proofs.Math.ListN.{length}
use native.Mathlib.Omega.{arith}
use Rattle.definitions.specs.declared.Limits.{Limits}
use Rattle.definitions.specs.Bytes.{Bytes}
use Rattle.definitions.specs.Outcome.{Outcome, ok, refused}
use Rattle.definitions.specs.Limits.{over}
use Rattle.definitions.specs.Tokens.{Placed, tokens, Step, misplaced, go, opens, judge_step, or_end, read_tokens}
use Rattle.laws.specs.Bools.{or_false_left, or_false_right}
use Rattle.laws.specs.Causes.{First, earlier, same_place}
use Rattle.laws.specs.Tests.{ltb_le}
use Rattle.laws.specs.FormPlaces.{Ascends, tokens_ascend, ascends_split}
use Rattle.laws.specs.FormRuns.{opens_depth, misplaced_go, misplaced_opens, go_opens, Walk}
use Rattle.laws.specs.FormRuns.{stay, on, enter, most, walk_append, walk_more, Fits, refused_ok}

-- ---- what a refusal says

-- the number and the place of a refusal
number_of : {A : Type 0} → Outcome ℕ A → ℕ
number_of (ok a) = 0
number_of (refused n p) = n

place_of : {A : Type 0} → Outcome ℕ A → ℕ
place_of (ok a) = 0
place_of (refused n p) = p

refused_number : {A : Type 0} {n p m q : ℕ} → Path (Outcome ℕ A) (refused n p) (refused m q) → n ≡ m
unfolding number_of
refused_number e = ap number_of e

refused_place : {A : Type 0} {n p m q : ℕ} → Path (Outcome ℕ A) (refused n p) (refused m q) → p ≡ q
unfolding place_of
refused_place e = ap place_of e

-- a walk over the tokens before a place, within the limits, and why it ends there
pub data Stopped
    {Q A : Type 0} (step : Q → Placed → Step Q) (whole : Q → Option A) (l : Limits) (n end : ℕ) (q : Q) (ts : List Placed)
    : ℕ → ℕ → Type 0 where
  stopped_token
      : (pre : List Placed) (t : Placed) (post : List Placed) (ds : List ℕ) (u : Q) → ts ≡ pre ++ t ∷ post
      → Walk step q pre ds u [] → Fits l n ds → step u t ≡ misplaced → Stopped step whole l n end q ts 7 t.at
  stopped_end
      : (ds : List ℕ) (u : Q) → Walk step q ts ds u [] → Fits l n ds → whole u ≡ none
      → Stopped step whole l n end q ts 7 end
  stopped_full
      : (pre : List Placed) (t : Placed) (post : List Placed) (ds : List ℕ) (u r : Q) (d : ℕ) → ts ≡ pre ++ t ∷ post
      → Walk step q pre ds u [] → Fits l n ds → step u t ≡ opens d r → over l (suc (n + length ds)) d ≡ true
      → Stopped step whole l n end q ts 8 t.at

module _ {Q A : Type 0} (step : Q → Placed → Step Q) (whole : Q → Option A) (l : Limits) (end : ℕ) where
  -- one token more before
  later_on
      : {n k p : ℕ} {q r : Q} {t : Placed} {ts : List Placed} → step q t ≡ go r → Stopped step whole l n end r ts k p
      → Stopped step whole l n end q (t ∷ ts) k p
  later_on {t = t} e (stopped_token pre u post ds v i w f m) =
      stopped_token (t ∷ pre) u post ds v (ap (λ x. t ∷ x) i) (on e w) f m
  later_on e (stopped_end ds u w f o) = stopped_end ds u (on e w) f o
  later_on {t = t} e (stopped_full pre u post ds v r d i w f o h) =
      stopped_full (t ∷ pre) u post ds v r d (ap (λ x. t ∷ x) i) (on e w) f o h

  later_enter
      : {n k p d : ℕ} {q r : Q} {t : Placed} {ts : List Placed} → step q t ≡ opens d r → d ≤ l.nesting
      → Stopped step whole l (suc n) end r ts k p → Stopped step whole l n end q (t ∷ ts) k p
  unfolding most
  later_enter {n} {d = d} {t = t} e h (stopped_token pre u post ds v i w f m) =
      stopped_token
      (t ∷ pre)
      u
      post
      (d ∷ ds)
      v
      (ap (λ x. t ∷ x) i)
      (enter e w)
      (record { count_fits = let z = f.count_fits in omega arith; depth_fits = let z = f.depth_fits in omega arith })
      m
  later_enter {d = d} e h (stopped_end ds u w f o) =
      stopped_end
      (d ∷ ds)
      u
      (enter e w)
      (record { count_fits = let z = f.count_fits in omega arith; depth_fits = let z = f.depth_fits in omega arith })
      o
  later_enter {n} {d = d} {t = t} e h (stopped_full pre u post ds v r x i w f o y) =
      stopped_full
      (t ∷ pre)
      u
      post
      (d ∷ ds)
      v
      r
      x
      (ap (λ x. t ∷ x) i)
      (enter e w)
      (record { count_fits = let z = f.count_fits in omega arith; depth_fits = let z = f.depth_fits in omega arith })
      o
      (subst (λ c. over l (suc c) x ≡ true) (let z : suc n + length ds ≡ n + suc (length ds) = omega arith in z) y)

  pub read_stopped
      : (ts : List Placed) (k p n : ℕ) (q : Q) → n ≤ l.values → read_tokens step whole l n end q ts ≡ refused k p
      → Stopped step whole l n end q ts k p
  unfolding read_tokens or_end judge_step most
  read_stopped [] k p n q h e = at_end (whole q) refl e
    where
      at_end : (o : Option A) → whole q ≡ o → or_end end o ≡ refused k p → Stopped step whole l n end q [] k p
      at_end none f g =
          subst₂
          (Stopped step whole l n end q [])
          (refused_number g)
          (refused_place g)
          (stopped_end [] q stay (record { count_fits = omega arith; depth_fits = omega arith }) f)
      at_end (some a) f g = refused_ok (sym g)
  read_stopped (t ∷ ts) k p n q h e = by_step (step q t) refl e (read_stopped ts k p)
    where
      empty : Fits l n []
      empty = record { count_fits = omega arith; depth_fits = omega arith }

      next : ℕ → Q → Outcome ℕ A
      next n' q' = read_tokens step whole l n' end q' ts

      entered
          : (d : ℕ) (r : Q) → step q t ≡ opens d r → (b : Bool) → over l (suc n) d ≡ b
          → Path (Outcome ℕ A) (elim b [ true ↦ refused 8 t.at | false ↦ next (suc n) r ]) (refused k p)
          → ((m : ℕ) (r : Q) → m ≤ l.values → next m r ≡ refused k p → Stopped step whole l m end r ts k p)
          → Stopped step whole l n end q (t ∷ ts) k p
      entered d r f true g e rest =
          subst₂
          (Stopped step whole l n end q (t ∷ ts))
          (refused_number e)
          (refused_place e)
          (stopped_full [] t ts [] q r d refl stay empty f (subst (λ c. over l (suc c) d ≡ true) (let z : n ≡ n + 0 = omega arith in z) g))
      entered d r f false g e rest =
          let i : suc n ≤ l.values = ltb_le l.values (suc n) (or_false_left (ltb l.values (suc n)) (ltb l.nesting d) g) in
          let j : d ≤ l.nesting = ltb_le l.nesting d (or_false_right (ltb l.values (suc n)) (ltb l.nesting d) g) in
          later_enter f j (rest (suc n) r i e)

      by_step
          : (x : Step Q) → step q t ≡ x → judge_step l n t.at x next ≡ refused k p
          → ((m : ℕ) (r : Q) → m ≤ l.values → next m r ≡ refused k p → Stopped step whole l m end r ts k p)
          → Stopped step whole l n end q (t ∷ ts) k p
      by_step misplaced f g rest =
          subst₂
          (Stopped step whole l n end q (t ∷ ts))
          (refused_number g)
          (refused_place g)
          (stopped_token [] t ts [] q refl stay empty f)
      by_step (go r) f g rest = later_on f (rest n r h g)
      by_step (opens d r) f g rest = entered d r f (over l (suc n) d) refl g rest

-- ---- walks over a beginning

-- the tokens lead from q to a whole text
pub record Reaches {Q A : Type 0} (step : Q → Placed → Step Q) (whole : Q → Option A) (q : Q) (ts : List Placed) : Type 0 where
  pub depths : List ℕ
  pub last : Q
  pub value : A
  pub walk : Walk step q ts depths last []
  pub is_whole : whole last ≡ some value

-- a walk over two parts of a text
pub record SplitWalk {Q : Type 0} (step : Q → Placed → Step Q) (q : Q) (pre post : List Placed) (ds : List ℕ) (u : Q) : Type 0 where
  pub before : List ℕ
  pub behind : List ℕ
  pub between : Q
  pub first : Walk step q pre before between []
  pub second : Walk step between post behind u []
  pub split : ds ≡ before ++ behind

module _ {Q : Type 0} {step : Q → Placed → Step Q} where
  pub walk_parts
      : (pre : List Placed) {q u : Q} {post : List Placed} {ds : List ℕ} → Walk step q (pre ++ post) ds u []
      → SplitWalk step q pre post ds u
  walk_parts [] {q} {ds = ds} w = record { before = []; behind = ds; between = q; first = stay; second = w; split = refl }
  walk_parts (t ∷ pre) (on e w) =
      let h = walk_parts pre w in
      record { before = h.before; behind = h.behind; between = h.between; first = on e h.first; second = h.second; split = h.split }
  walk_parts (t ∷ pre) (enter {d = d} e w) =
      let h = walk_parts pre w in
      record {
        before = d ∷ h.before;
        behind = h.behind;
        between = h.between;
        first = enter e h.first;
        second = h.second;
        split = ap (λ x. d ∷ x) h.split;
      }

  -- one walk behind another
  pub walk_join
      : {q r u : Q} {pre post : List Placed} {ds es : List ℕ} → Walk step q pre ds r [] → Walk step r post es u []
      → Walk step q (pre ++ post) (ds ++ es) u []
  walk_join {post = post} w v = walk_append (walk_more w post) v

  -- no walk goes over a misplaced token
  pub walk_misplaced {ℓ} : {X : Type ℓ} {q u : Q} {t : Placed} {ts : List Placed} {ds : List ℕ} → Walk step q (t ∷ ts) ds u [] → step q t ≡ misplaced → X
  walk_misplaced (on e w) m = misplaced_go (sym m ∙ e)
  walk_misplaced (enter e w) m = misplaced_opens (sym m ∙ e)

  -- a walk over a bracket of a form that counts
  pub walk_opens
      : {q r u : Q} {t : Placed} {ts : List Placed} {d : ℕ} {ds : List ℕ} → Walk step q (t ∷ ts) ds u [] → step q t ≡ opens d r
      → (es : List ℕ) × (ds ≡ d ∷ es)
  walk_opens (on e w) o = go_opens (sym e ∙ o)
  walk_opens (enter {ds = es} e w) o = (es, ap (λ x. x ∷ es) (opens_depth (sym e ∙ o)))

-- ---- two tokens of a text

-- one token is the other, stands before it, or behind it
data Compared (pre : List Placed) (t : Placed) (post pre' : List Placed) (t' : Placed) (post' : List Placed) : Type 0 where
  same_token : pre ≡ pre' → t ≡ t' → Compared pre t post pre' t' post'
  token_before : (mid : List Placed) → post ≡ mid ++ t' ∷ post' → Compared pre t post pre' t' post'
  token_behind : (mid : List Placed) → pre ≡ pre' ++ t' ∷ mid → Compared pre t post pre' t' post'

compare_tokens
    : (pre : List Placed) (t : Placed) (post pre' : List Placed) (t' : Placed) (post' : List Placed)
    → pre ++ t ∷ post ≡ pre' ++ t' ∷ post' → Compared pre t post pre' t' post'
compare_tokens [] t post [] t' post' e = same_token refl (cc e)
compare_tokens [] t post (u ∷ pre') t' post' e = token_before pre' (cc e)
compare_tokens (u ∷ pre) t post [] t' post' e = token_behind pre (cc e)
compare_tokens (u ∷ pre) t post (v ∷ pre') t' post' e = more (cc e) (compare_tokens pre t post pre' t' post' (cc e))
  where
    more : u ≡ v → Compared pre t post pre' t' post' → Compared (u ∷ pre) t post (v ∷ pre') t' post'
    more h (same_token i j) = same_token (λ k. h k ∷ i k) j
    more h (token_before mid i) = token_before mid i
    more h (token_behind mid i) = token_behind mid (λ k. h k ∷ i k)

-- the place of a token, against those of the tokens behind it and the end
pub before_end : (s : Bytes) (pre : List Placed) (t : Placed) (post : List Placed) → tokens s ≡ pre ++ t ∷ post → t.at < length s
before_end s pre t post i = (ascends_split pre t (subst (Ascends (length s) 0) i (tokens_ascend s))).1

before_token
    : (s : Bytes) (pre : List Placed) (t : Placed) (mid : List Placed) (u : Placed) (post : List Placed)
    → tokens s ≡ pre ++ t ∷ (mid ++ u ∷ post) → t.at < u.at
before_token s pre t mid u post i =
    (ascends_split mid u (ascends_split pre t (subst (Ascends (length s) 0) i (tokens_ascend s))).2).0

-- a stop at one token against a cause at another, where none stands before the stop
pub stop_first
    : (s : Bytes) (n m : ℕ) (pre : List Placed) (t : Placed) (post pre' : List Placed) (t' : Placed) (post' : List Placed)
    → tokens s ≡ pre ++ t ∷ post → tokens s ≡ pre' ++ t' ∷ post' → ((mid : List Placed) → pre ≡ pre' ++ t' ∷ mid → ⊥)
    → (pre ≡ pre' → t ≡ t' → n ≤ m) → First n t.at m t'.at
stop_first s n m pre t post pre' t' post' i j never least = by_order (compare_tokens pre t post pre' t' post' (sym i ∙ j))
  where
    by_order : Compared pre t post pre' t' post' → First n t.at m t'.at
    by_order (same_token a b) = same_place (ap (λ x. x.at) b) (least a b)
    by_order (token_before mid a) = earlier (before_token s pre t mid t' post' (i ∙ ap (λ x. pre ++ t ∷ x) a))
    by_order (token_behind mid a) = absurd (never mid a)
