-- A reader that is refused, and a place that stands alone, is refused with the least of its causes. Assumes nothing.
use Prim.Native.Nat.{ℕ, suc}
use Rattle.std.specs.Prelude.{◌≡◌, true, false, length}
use Rattle.std.proofs.Math.Path.{refl, sym, ap}
use Rattle.std.proofs.Common.{◌∙◌, subst, subst₂, inl, inr}
use mathlib.Core.List.{List, [], ◌∷◌, ◌++◌, append_assoc, nil≢cons}
use Rattle.std.proofs.Math.Option.{some}
use native.Mathlib.Omega.{arith}
use Rattle.definitions.specs.declared.Limits.{Limits}
use Rattle.definitions.specs.Bytes.{Bytes}
use Rattle.definitions.specs.Outcome.{ok, refused}
use Rattle.definitions.specs.Reader.{Place, Result, text_end, place_end, place_open, result_open, State, want, whole_place}
use Rattle.definitions.specs.Reader.{whole_result, depth, place_depth, step, finished_result, finished_place, read_result, read_reader, read_place}
use Rattle.definitions.specs.Tokens.{Placed, tokens, opens}
use Rattle.laws.specs.Causes.{First}
use Rattle.laws.specs.FormGrammar.{ResultForm, ResultText, ReaderText, PlaceText, result_forms}
use Rattle.laws.specs.FormRuns.{Walk, stay, on, enter, walk_unique}
use Rattle.laws.proofs.FormSteps.{says_go, says_opens}
use Rattle.laws.specs.FormCauses.{form_begun, forms_begun, forms_open, Begins, FormBracket, form_bracket, Cause, misplaced_token}
use Rattle.laws.specs.FormCauses.{missing_token, full_bracket, ReaderCause, PlaceCause}
use Rattle.laws.specs.JsonMoves.{ok≢refused}
use Rattle.laws.proofs.FormStops.{Reaches, walk_parts, walk_join}
use Rattle.laws.proofs.FormLeast.{Adequate, refused_cause, refused_least, accepted_causeless}
use Rattle.laws.proofs.ReaderBacks.{walk_right, place_right}
use Rattle.laws.proofs.ReaderDepths.{result_depths, place_depths, depths_result_forms}
use Rattle.laws.proofs.ReaderForms.{reader_from_start, whole_result_state, whole_place_state, reader_right_walk, place_right_walk}
use Rattle.laws.proofs.ReaderLive.{root_around, root, Ends, ends_place, ends_result, Live, live}
use Rattle.laws.proofs.ReaderOpen.{open_in, Goes, Enters, step_says, walk_open, walk_begun, walk_root}

-- ---- brackets, from any start that is not yet in a form

module _ (start : State) (Right : List Placed → Type 0) (outside : open_in start ≡ 0)
    (begins : (pre : List Placed) (ds : List ℕ) (q : State) → Walk step start pre ds q [] → Begins Right pre)
    (walks : (ts : List Placed) → Right ts → (ds : List ℕ) × (u : State) × Walk step start ts ds u []) where
  bracket_to
      : {pre : List Placed} {ds : List ℕ} {q r : State} {t : Placed} {d : ℕ} → Walk step start pre ds q [] → step q t ≡ opens d r
      → FormBracket Right pre t (suc (length ds)) d
  bracket_to {pre} {ds} {q} {t = t} w e =
      let h = says_opens (Goes q) (Enters q) (step_says q t) e in
      subst₂
      (FormBracket Right pre t)
      (ap suc (sym (walk_begun w refl)))
      (ap suc (ap (λ n. forms_open n pre) (sym outside) ∙ sym (walk_open w refl)) ∙ sym h.at_depth)
      (form_bracket h.is_bracket (begins (pre ++ t ∷ []) _ _ (walk_join w (enter e stay))))

  bracket_from
      : {pre : List Placed} {ds : List ℕ} {q : State} {t : Placed} {n d : ℕ} → Walk step start pre ds q [] → FormBracket Right pre t n d
      → (r : State) × (step q t ≡ opens d r) × (n ≡ suc (length ds))
  unfolding form_begun
  bracket_from {pre} {ds} {q} {t} w (form_bracket i b) =
      let v = walks ((pre ++ t ∷ []) ++ b.rest) b.right in
      let h = walk_parts pre (subst (λ ts. Walk step start ts v.0 v.1 []) (append_assoc pre (t ∷ []) b.rest) v.2) in
      over (subst (λ x. Walk step x (t ∷ b.rest) h.behind v.1 []) (walk_unique {w = q} h.first w).1 h.second)
    where
      over
          : {ts : List Placed} {es : List ℕ} {u : State} → Walk step q (t ∷ ts) es u []
          → (r : State) × (step q t ≡ opens (suc (forms_open 0 pre)) r) × (suc (forms_begun pre) ≡ suc (length ds))
      over (on {r = r} e x) =
          let j = (says_go (Goes q) (Enters q) (step_says q t) e).no_bracket in
          absurd (let y : Path ℕ 1 0 = sym (ap form_begun i) ∙ j in let z : ⊥ = omega arith in z)
      over (enter {r = r} e x) =
          let h = says_opens (Goes q) (Enters q) (step_says q t) e in
          (r, e ∙ ap (λ d. opens d r) (h.at_depth ∙ ap suc (walk_open w refl ∙ ap (λ n. forms_open n pre) outside)), ap suc (sym (walk_begun w refl)))

-- ---- the steps are adequate: readers of one form

reader_live
    : {pre : List Placed} {ds : List ℕ} {q : State} → Walk step (want (result_open text_end)) pre ds q []
    → (rest : List Placed) × Reaches step finished_result q rest
unfolding root
reader_live {q = q} w = reached (subst (λ b. Live b q) (walk_root w) (live q))
  where
    reach
        : (ts : List Placed) (ds : List ℕ) {z : State} → Ends true z → Walk step q ts ds z []
        → (rest : List Placed) × Reaches step finished_result q rest
    reach ts ds (ends_result {r = r}) v =
        (ts, record { depths = ds; last = whole_result r; value = r; walk = v; is_whole = unfold finished_result in refl })

    reached : Live true q → (rest : List Placed) × Reaches step finished_result q rest
    reached h = reach h.rest h.depths h.ends h.walk

reader_sound
    : {ts : List Placed} {ds : List ℕ} {u : State} {r : Result} → Walk step (want (result_open text_end)) ts ds u []
    → finished_result u ≡ some r → ResultText ts
reader_sound {ts} {ds} {u} {r} w e =
    (r, walk_right (subst (λ q. Walk step (want (result_open text_end)) ts ds q []) (whole_result_state u e) w))

reader_complete : {ts : List Placed} → ResultText ts → Reaches step finished_result (want (result_open text_end)) ts
unfolding finished_result
reader_complete (r, f) =
    record { depths = result_depths r 0; last = whole_result r; value = r; walk = reader_right_walk f; is_whole = refl }

reader_begins
    : (pre : List Placed) (ds : List ℕ) (q : State) → Walk step (want (result_open text_end)) pre ds q [] → Begins ResultText pre
reader_begins pre ds q w =
    let h = reader_live w in
    record { rest = h.0; right = reader_sound (walk_join w h.1.walk) h.1.is_whole }

reader_walks
    : (ts : List Placed) → ResultText ts → (ds : List ℕ) × (u : State) × Walk step (want (result_open text_end)) ts ds u []
reader_walks ts r = let h = reader_complete r in (h.depths, h.last, h.walk)

reader_adequate : Adequate step finished_result (want (result_open text_end)) ResultText (FormBracket ResultText)
unfolding open_in depth
reader_adequate =
    record {
      sound = reader_sound;
      complete = reader_complete;
      live = reader_live;
      bracket_to = bracket_to (want (result_open text_end)) ResultText refl reader_begins reader_walks;
      bracket_from = bracket_from (want (result_open text_end)) ResultText refl reader_begins reader_walks;
    }

-- ---- a text with no token is right too, and has no cause

-- some right reader begins so exactly where some form does
form_begins : {pre : List Placed} → Begins ResultText pre → Begins ReaderText pre
form_begins b = record { rest = b.rest; right = inl b.right }

begins_form : (pre : List Placed) → Begins ReaderText pre → Begins ResultText pre
begins_form [] b = reader_begins [] [] (want (result_open text_end)) stay
begins_form (t ∷ pre) b = by_right b.right
  where
    by_right : ReaderText ((t ∷ pre) ++ b.rest) → Begins ResultText (t ∷ pre)
    by_right (inl f) = record { rest = b.rest; right = f }
    by_right (inr e) = absurd (nil≢cons (sym e))

-- the causes of a text that has to be one form
abbrev FormCause : Limits → Bytes → ℕ → ℕ → Type 0
FormCause = Cause ResultText (FormBracket ResultText)

form_cause : {l : Limits} {s : Bytes} {m q : ℕ} → ReaderCause l s m q → FormCause l s m q
form_cause (misplaced_token pre t post i b n) = misplaced_token pre t post i (begins_form pre b) (λ c. n (form_begins c))
form_cause {s = s} (missing_token b n) = missing_token (begins_form (tokens s) b) (λ f. n (inl f))
form_cause (full_bracket pre t post n d i (form_bracket o b) h) =
    full_bracket pre t post n d i (form_bracket o (begins_form (pre ++ t ∷ []) b)) h

reader_cause : {l : Limits} {s : Bytes} {m q : ℕ} → (tokens s ≡ [] → ⊥) → FormCause l s m q → ReaderCause l s m q
reader_cause g (misplaced_token pre t post i b n) =
    misplaced_token pre t post i (form_begins b) (λ c. n (begins_form (pre ++ t ∷ []) c))
reader_cause {s = s} g (missing_token b n) = missing_token (form_begins b) no_reader
  where
    no_reader : ReaderText (tokens s) → ⊥
    no_reader (inl f) = n f
    no_reader (inr e) = g e
reader_cause g (full_bracket pre t post n d i (form_bracket o b) h) = full_bracket pre t post n d i (form_bracket o (form_begins b)) h

cons_end : (pre : List Placed) (t : Placed) (post : List Placed) → pre ++ t ∷ post ≡ [] → ⊥
cons_end [] t post e = nil≢cons (sym e)
cons_end (u ∷ pre) t post e = nil≢cons (sym e)

no_token_no_cause : {l : Limits} {s : Bytes} {m q : ℕ} → tokens s ≡ [] → ReaderCause l s m q → ⊥
no_token_no_cause e (misplaced_token pre t post i b n) = cons_end pre t post (sym i ∙ e)
no_token_no_cause e (missing_token b n) = n (inr e)
no_token_no_cause e (full_bracket pre t post n d i o h) = cons_end pre t post (sym i ∙ e)

-- ---- refusals of readers

-- without a token it is accepted
no_token_refused : (l : Limits) (s : Bytes) (n p : ℕ) → tokens s ≡ [] → read_reader l s ≡ refused n p → ⊥
unfolding read_reader read_result
no_token_refused l s n p i e = ok≢refused (sym (ap (λ us. read_result l (length s) us) i) ∙ e)

-- the refusal given is a cause
pub reader_refused : (l : Limits) (s : Bytes) (n p : ℕ) → read_reader l s ≡ refused n p → ReaderCause l s n p
reader_refused l s n p e = by_tokens (tokens s) refl
  where
    by_tokens : (ts : List Placed) → tokens s ≡ ts → ReaderCause l s n p
    by_tokens [] i = absurd (no_token_refused l s n p i e)
    by_tokens (t ∷ ts) i =
        reader_cause (λ z. nil≢cons (sym z ∙ i)) (refused_cause reader_adequate l s n p (sym (reader_from_start l s t ts i) ∙ e))

-- it is the least: every other cause stands later, or there with no smaller number
pub reader_least
    : (l : Limits) (s : Bytes) (n p m q : ℕ) → read_reader l s ≡ refused n p → ReaderCause l s m q → First n p m q
reader_least l s n p m q e c = by_tokens (tokens s) refl
  where
    by_tokens : (ts : List Placed) → tokens s ≡ ts → First n p m q
    by_tokens [] i = absurd (no_token_refused l s n p i e)
    by_tokens (t ∷ ts) i = refused_least reader_adequate l s n p m q (sym (reader_from_start l s t ts i) ∙ e) (form_cause c)

-- what is accepted has no cause
pub reader_causeless : (l : Limits) (s : Bytes) (r : Result) (m q : ℕ) → read_reader l s ≡ ok r → ReaderCause l s m q → ⊥
reader_causeless l s r m q e c = by_tokens (tokens s) refl
  where
    by_tokens : (ts : List Placed) → tokens s ≡ ts → ⊥
    by_tokens [] i = no_token_no_cause i c
    by_tokens (t ∷ ts) i = accepted_causeless reader_adequate l s r m q (sym (reader_from_start l s t ts i) ∙ e) (form_cause c)

-- ---- the steps are adequate: places that stand alone

place_live
    : {pre : List Placed} {ds : List ℕ} {q : State} → Walk step (want (place_open place_end)) pre ds q []
    → (rest : List Placed) × Reaches step finished_place q rest
unfolding root root_around
place_live {q = q} w = reached (subst (λ b. Live b q) (walk_root w) (live q))
  where
    reach
        : (ts : List Placed) (ds : List ℕ) {z : State} → Ends false z → Walk step q ts ds z []
        → (rest : List Placed) × Reaches step finished_place q rest
    reach ts ds (ends_place {p = p}) v =
        (ts, record { depths = ds; last = whole_place p; value = p; walk = v; is_whole = unfold finished_place in refl })

    reached : Live false q → (rest : List Placed) × Reaches step finished_place q rest
    reached h = reach h.rest h.depths h.ends h.walk

place_sound
    : {ts : List Placed} {ds : List ℕ} {u : State} {p : Place} → Walk step (want (place_open place_end)) ts ds u []
    → finished_place u ≡ some p → PlaceText ts
place_sound {ts} {ds} {u} {p} w e =
    (p, place_right (subst (λ q. Walk step (want (place_open place_end)) ts ds q []) (whole_place_state u e) w))

place_complete : {ts : List Placed} → PlaceText ts → Reaches step finished_place (want (place_open place_end)) ts
unfolding finished_place
place_complete (p, f) =
    record { depths = place_depths p 0; last = whole_place p; value = p; walk = place_right_walk f; is_whole = refl }

place_begins
    : (pre : List Placed) (ds : List ℕ) (q : State) → Walk step (want (place_open place_end)) pre ds q [] → Begins PlaceText pre
place_begins pre ds q w =
    let h = place_live w in
    record { rest = h.0; right = place_sound (walk_join w h.1.walk) h.1.is_whole }

place_walks
    : (ts : List Placed) → PlaceText ts → (ds : List ℕ) × (u : State) × Walk step (want (place_open place_end)) ts ds u []
place_walks ts r = let h = place_complete r in (h.depths, h.last, h.walk)

place_adequate : Adequate step finished_place (want (place_open place_end)) PlaceText (FormBracket PlaceText)
unfolding open_in place_depth
place_adequate =
    record {
      sound = place_sound;
      complete = place_complete;
      live = place_live;
      bracket_to = bracket_to (want (place_open place_end)) PlaceText refl place_begins place_walks;
      bracket_from = bracket_from (want (place_open place_end)) PlaceText refl place_begins place_walks;
    }

-- ---- refusals of places that stand alone

pub place_refused : (l : Limits) (s : Bytes) (n p : ℕ) → read_place l s ≡ refused n p → PlaceCause l s n p
unfolding read_place
place_refused l s n p e = refused_cause place_adequate l s n p e

pub place_least
    : (l : Limits) (s : Bytes) (n p m q : ℕ) → read_place l s ≡ refused n p → PlaceCause l s m q → First n p m q
unfolding read_place
place_least l s n p m q e c = refused_least place_adequate l s n p m q e c

pub place_causeless : (l : Limits) (s : Bytes) (a : Place) (m q : ℕ) → read_place l s ≡ ok a → PlaceCause l s m q → ⊥
unfolding read_place
place_causeless l s a m q e c = accepted_causeless place_adequate l s a m q e c

-- ---- what the causes count

-- the forms that a right reader begins are its forms
pub reader_forms_begun : {r : Result} {ts : List Placed} → ResultForm 1 ts r [] → forms_begun ts ≡ result_forms r
reader_forms_begun {r} f = sym (walk_begun (reader_right_walk f) refl) ∙ depths_result_forms r 0
