-- Reading readers, and places that stand alone, accepts exactly the right texts within the limits. Assumes nothing.
use Rattle.std.specs.Prelude.{ℕ, ◌+◌, ◌≤◌, max, ◌≡◌, refl, List, [], ◌∷◌, length}
use Rattle.std.proofs.Common.{sym, ◌∙◌, ap, subst, arith}
use Rattle.std.proofs.Math.Option.{some, none-ne-some, some-injective}
use Rattle.definitions.specs.declared.Limits.{Limits}
use Rattle.definitions.specs.Bytes.{Bytes}
use Rattle.definitions.specs.Outcome.{ok}
use Rattle.definitions.specs.Reader.{Place, Result, text_end, place_end, place_open, result_open, State, want, whole_place}
use Rattle.definitions.specs.Reader.{whole_result, put_place, put_result, depth, place_depth, bindings, place_bindings, step}
use Rattle.definitions.specs.Reader.{finished_result, finished_place, empty_reader, read_result, read_reader, read_place}
use Rattle.definitions.specs.Tokens.{Placed, tokens, or_end, read_tokens}
use Rattle.laws.specs.FormGrammar.{PlaceForm, ResultForm, place_forms, result_forms, place_levels, result_levels}
use Rattle.laws.specs.FormGrammar.{ReaderWithin, one_form, no_token}
use Rattle.laws.specs.JsonMoves.{ok_injective, ok≢refused}
use Rattle.laws.specs.FormRuns.{Walk, walk_unique, most, Fits, Accepted, read_accepted, read_along}
use Rattle.laws.proofs.ReaderBacks.{walk_right, place_right}
use Rattle.laws.proofs.ReaderDepths.{place_depths, result_depths, depths_place_forms, depths_result_forms, depths_place_levels, depths_result_levels}
use Rattle.laws.proofs.ReaderWalks.{place_walk, result_walk}

-- ---- what is accepted is right

-- a text with a token is read from the start
pub reader_from_start
    : (l : Limits) (s : Bytes) (t : Placed) (ts : List Placed) → tokens s ≡ t ∷ ts
    → read_reader l s ≡ read_tokens step finished_result l 0 (length s) (want (result_open text_end)) (tokens s)
unfolding read_reader read_result
reader_from_start l s t ts i =
    ap (λ us. read_result l (length s) us) i
    ∙ sym (ap (λ us. read_tokens step finished_result l 0 (length s) (want (result_open text_end)) us) i)

pub whole_result_state : {r : Result} (q : State) → finished_result q ≡ some r → q ≡ whole_result r
unfolding finished_result
whole_result_state {r} (want w) e = absurd (none-ne-some r e)
whole_result_state {r} (whole_place p) e = absurd (none-ne-some r e)
whole_result_state {r} (whole_result a) e = ap whole_result (some-injective a r e)

pub whole_place_state : {p : Place} (q : State) → finished_place q ≡ some p → q ≡ whole_place p
unfolding finished_place
whole_place_state {p} (want w) e = absurd (none-ne-some p e)
whole_place_state {p} (whole_place a) e = ap whole_place (some-injective a p e)
whole_place_state {p} (whole_result a) e = absurd (none-ne-some p e)

place_accepted
    : (l : Limits) (s : Bytes) (p : Place) → read_place l s ≡ ok p
    → Accepted step finished_place l 0 (want (place_open place_end)) (tokens s) p
unfolding read_place
place_accepted l s p e =
    read_accepted step finished_place l (length s) (tokens s) p 0 (want (place_open place_end)) (omega arith) e

-- ---- the walk over a right text

pub reader_right_walk
    : {r : Result} {ts : List Placed} → ResultForm 1 ts r []
    → Walk step (want (result_open text_end)) ts (result_depths r 0) (whole_result r) []
unfolding put_result depth bindings
reader_right_walk f = result_walk f text_end refl

pub place_right_walk
    : {p : Place} {ts : List Placed} → PlaceForm 1 ts p []
    → Walk step (want (place_open place_end)) ts (place_depths p 0) (whole_place p) []
unfolding put_place place_depth place_bindings
place_right_walk f = place_walk f place_end refl

-- nestings fit where the number of forms and the nesting do
fits_to
    : {l : Limits} (ds : List ℕ) (n m : ℕ) → length ds ≡ n → max 0 (most ds) ≡ 0 + m → Fits l 0 ds
    → (n ≤ l.values) × (m ≤ l.nesting)
fits_to ds n m c d f =
    let a = f.count_fits in
    let b = f.depth_fits in
    (omega arith, omega arith)

fits_from
    : {l : Limits} (ds : List ℕ) (n m : ℕ) → length ds ≡ n → max 0 (most ds) ≡ 0 + m → n ≤ l.values → m ≤ l.nesting
    → Fits l 0 ds
fits_from ds n m c d a b = record { count_fits = omega arith; depth_fits = omega arith }

-- ---- readers

-- what is read from the start on is one form within the limits
form_accepted_to
    : (l : Limits) (end : ℕ) (ts : List Placed) (r : Result)
    → read_tokens step finished_result l 0 end (want (result_open text_end)) ts ≡ ok r → ReaderWithin l ts r
form_accepted_to l end ts r e =
    let a = read_accepted step finished_result l end ts r 0 (want (result_open text_end)) (omega arith) e in
    let w =
    subst
    (λ q. Walk step (want (result_open text_end)) ts a.depths q [])
    (whole_result_state a.last a.is_whole)
    a.walk
    in
    let f = walk_right w in
    let (g, h) =
    fits_to
    (result_depths r 0)
    (result_forms r)
    (result_levels r)
    (depths_result_forms r 0)
    (depths_result_levels r 0)
    (subst (Fits l 0) (walk_unique {w = whole_result r} w (reader_right_walk f)).0 a.fits)
    in
    one_form f g h

-- such a form is read so
form_accepted_from
    : (l : Limits) (end : ℕ) {ts : List Placed} {r : Result} → ResultForm 1 ts r [] → result_forms r ≤ l.values
    → result_levels r ≤ l.nesting → read_tokens step finished_result l 0 end (want (result_open text_end)) ts ≡ ok r
unfolding read_tokens finished_result or_end
form_accepted_from l end {r = r} f a b =
    read_along
    step
    finished_result
    l
    end
    (reader_right_walk f)
    0
    (fits_from (result_depths r 0) (result_forms r) (result_levels r) (depths_result_forms r 0) (depths_result_levels r 0) a b)

-- what is accepted is a right reader within the limits
pub reader_accepted_to : (l : Limits) (s : Bytes) (r : Result) → read_reader l s ≡ ok r → ReaderWithin l (tokens s) r
unfolding read_reader read_result empty_reader
reader_accepted_to l s r e = by_tokens (tokens s) e
  where
    by_tokens : (ts : List Placed) → read_result l (length s) ts ≡ ok r → ReaderWithin l ts r
    by_tokens [] e = subst (λ q. ReaderWithin l [] q) (ok_injective e) no_token
    by_tokens (t ∷ ts) e = form_accepted_to l (length s) (t ∷ ts) r e

-- a right reader within the limits is accepted, with what it means; without a token no form is read
pub reader_accepted_from : (l : Limits) (s : Bytes) (r : Result) → ReaderWithin l (tokens s) r → read_reader l s ≡ ok r
unfolding read_reader read_result empty_reader read_tokens finished_result or_end
reader_accepted_from l s r w = by_clause w
  where
    by_clause : {ts : List Placed} {q : Result} → ReaderWithin l ts q → read_result l (length s) ts ≡ ok q
    by_clause {ts = []} (one_form f a b) = absurd (ok≢refused (sym (form_accepted_from l (length s) f a b)))
    by_clause {ts = t ∷ ts} (one_form f a b) = form_accepted_from l (length s) f a b
    by_clause no_token = refl

-- ---- places

pub place_accepted_to
    : (l : Limits) (s : Bytes) (p : Place) → read_place l s ≡ ok p
    → PlaceForm 1 (tokens s) p [] × (place_forms p ≤ l.values) × (place_levels p ≤ l.nesting)
place_accepted_to l s p e =
    let a = place_accepted l s p e in
    let w =
    subst
    (λ q. Walk step (want (place_open place_end)) (tokens s) a.depths q [])
    (whole_place_state a.last a.is_whole)
    a.walk
    in
    let f = place_right w in
    let g =
    fits_to
    (place_depths p 0)
    (place_forms p)
    (place_levels p)
    (depths_place_forms p 0)
    (depths_place_levels p 0)
    (subst (Fits l 0) (walk_unique {w = whole_place p} w (place_right_walk f)).0 a.fits)
    in
    (f, g.0, g.1)

pub place_accepted_from
    : (l : Limits) (s : Bytes) (p : Place) → PlaceForm 1 (tokens s) p [] → place_forms p ≤ l.values
    → place_levels p ≤ l.nesting → read_place l s ≡ ok p
unfolding read_place read_tokens finished_place or_end
place_accepted_from l s p f a b =
    read_along
    step
    finished_place
    l
    (length s)
    (place_right_walk f)
    0
    (fits_from (place_depths p 0) (place_forms p) (place_levels p) (depths_place_forms p 0) (depths_place_levels p 0) a b)
