-- What may come behind a token of a shape text that leads on may come from that token on. So what is accepted is right.
-- Assumes nothing.
use Rattle.std.specs.Prelude.{ℕ, suc, ◌≡◌, refl, Bool, true, false, List, [], ◌∷◌}
use Rattle.std.proofs.Common.{sym, subst}
use Rattle.std.proofs.Math.Option.{some}
use Rattle.definitions.specs.Bytes.{Bytes}
use Rattle.definitions.specs.Shape.{Kind, all_kinds, among, Shape}
use Rattle.definitions.specs.ShapeText.{Parts, Around, text_end, as_member, shape_open, shape_word, kind_word, member_open, member_word, member_name}
use Rattle.definitions.specs.ShapeText.{member_close, State, want, whole, no_parts, with_kind, put, depth, kind_name, kind_words, shape_words}
use Rattle.definitions.specs.ShapeText.{member_words, may_follow, name_fits, member_step, element_step, bracket_step, kind_step, want_step, step}
use Rattle.definitions.specs.Tokens.{Token, opening, closing, quoted, word, broken, Placed, go, opens, want_open, where_true, look_word}
use Rattle.laws.specs.FormGrammar.{at, ShapeForm}
use Rattle.laws.specs.FormRuns.{Walk}
use Rattle.laws.proofs.FormSteps.{Back, walk_back, open_back, close_back, text_back, true_back, some_back, look_each, named_back}
use Rattle.laws.proofs.ShapeRests.{Rest, rest_whole, rest_open, rest_word, rest_member, rest_name, rest_close}
use Rattle.laws.proofs.ShapeRests.{tail_end, tail_member, form_open, kind_begins, no_more_kinds, element_begins}

member_back
    : (p : Parts) (o : Around) (x : ℕ) (k : Token) (ts : List Placed) (a : Shape)
    → Back (λ r. Rest r ts a) (member_step p o k) → Rest (want (member_open p o)) (at x k ∷ ts) a
unfolding member_step
member_back p o x opening ts a b = true_back (λ r. Rest r ts a) (among Kind.rec p.kinds) (go (want (member_word p o))) tail_member b
member_back p o x closing ts a b = tail_end b
member_back p o x (quoted t) ts a b = absurd b
member_back p o x (word w) ts a b = absurd b
member_back p o x broken ts a b = absurd b

bracket_back
    : (p : Parts) (o : Around) (x : ℕ) (ts : List Placed) (a : Shape)
    → (Back (λ r. Rest r ts a) (bracket_step p o opening) → Rest (want (kind_word p o)) (at x opening ∷ ts) a)
    × (Back (λ r. Rest r ts a) (bracket_step p o closing) → Rest (want (kind_word p o)) (at x closing ∷ ts) a)
unfolding bracket_step element_step want_open
bracket_back p o x ts a = by_list (among Kind.list p.kinds) refl
  where
    by_list
        : (l : Bool) → among Kind.list p.kinds ≡ l
        → (Back
        (λ r. Rest r ts a)
        (elim l [ true ↦ element_step p o opening | false ↦ member_step p o opening ])
        → Rest (want (kind_word p o)) (at x opening ∷ ts) a)
        × (Back
        (λ r. Rest r ts a)
        (elim l [ true ↦ element_step p o closing | false ↦ member_step p o closing ])
        → Rest (want (kind_word p o)) (at x closing ∷ ts) a)
    by_list true h = (element_begins h, λ b. absurd b)
    by_list false h = (λ b. no_more_kinds h (member_back p o x opening ts a b), λ b. no_more_kinds h (member_back p o x closing ts a b))

pub kind_spelled : (w : Bytes) (k : Kind) → look_word kind_words w ≡ some k → w ≡ kind_name k
unfolding kind_words all_kinds
kind_spelled w k e = look_each (λ w k. w ≡ kind_name k) kind_words (refl, (refl, (refl, (refl, (refl, (refl, (refl, tt))))))) w k e

kind_back
    : (p : Parts) (o : Around) (x : ℕ) (k : Token) (ts : List Placed) (a : Shape)
    → Back (λ r. Rest r ts a) (kind_step p o k) → Rest (want (kind_word p o)) (at x k ∷ ts) a
unfolding kind_step
kind_back p o x opening ts a b = (bracket_back p o x ts a).0 b
kind_back p o x closing ts a b = (bracket_back p o x ts a).1 b
kind_back p o x (quoted t) ts a b = absurd b
kind_back p o x (word w) ts a b =
    some_back
    (λ r. Rest r ts a)
    (look_word kind_words w)
    (λ k. where_true (may_follow p.kinds k) (go (want (kind_word (with_kind k p) o))))
    (λ k e c.
    true_back
    (λ r. Rest r ts a)
    (may_follow p.kinds k)
    (go (want (kind_word (with_kind k p) o)))
    (λ h r. subst (λ v. Rest (want (kind_word p o)) (at x (word v) ∷ ts) a) (sym (kind_spelled w k e)) (kind_begins k h r))
    c)
    b
kind_back p o x broken ts a b = absurd b

-- what may come behind a token that leads on may come from that token on
step_back : (q : State) (t : Placed) (ts : List Placed) (a : Shape) → Back (λ r. Rest r ts a) (step q t) → Rest q (t ∷ ts) a
unfolding step want_step shape_words member_words
step_back (whole s) t ts a b = absurd b
step_back (want (shape_open o)) t ts a b =
    open_back
    (λ r. Rest r ts a)
    (λ k. Rest (want (shape_open o)) (at t.at k ∷ ts) a)
    (opens (suc (depth o)) (want (shape_word o)))
    form_open
    t.token
    b
step_back (want (shape_word o)) t ts a b =
    named_back
    (λ r. Rest r ts a)
    (λ k. Rest (want (shape_word o)) (at t.at k ∷ ts) a)
    shape_words
    (λ u. go (want (kind_word no_parts o)))
    (rest_word, tt)
    t.token
    b
step_back (want (kind_word p o)) t ts a b = kind_back p o t.at t.token ts a b
step_back (want (member_open p o)) t ts a b = member_back p o t.at t.token ts a b
step_back (want (member_word p o)) t ts a b =
    named_back
    (λ r. Rest r ts a)
    (λ k. Rest (want (member_word p o)) (at t.at k ∷ ts) a)
    member_words
    (λ u. go (want (member_name p o)))
    (rest_member, tt)
    t.token
    b
step_back (want (member_name p o)) t ts a b =
    text_back
    (λ r. Rest r ts a)
    (λ k. Rest (want (member_name p o)) (at t.at k ∷ ts) a)
    (λ n. where_true (name_fits p.fields n) (go (want (shape_open (as_member p n o)))))
    (λ n c. true_back (λ r. Rest r ts a) (name_fits p.fields n) (go (want (shape_open (as_member p n o)))) rest_name c)
    t.token
    b
step_back (want (member_close p o)) t ts a b =
    close_back
    (λ r. Rest r ts a)
    (λ k. Rest (want (member_close p o)) (at t.at k ∷ ts) a)
    (go (want (member_open p o)))
    rest_close
    t.token
    b

-- a walk from the start to a whole shape is over a right text
pub walk_right
    : {s : Shape} {ts : List Placed} {ds : List ℕ} → Walk step (want (shape_open text_end)) ts ds (whole s) [] → ShapeForm ts s []
unfolding put
walk_right {s} w = from_start (walk_back (λ q ts. Rest q ts s) (λ q t ts. step_back q t ts s) w rest_whole)
  where
    at_whole : {s a : Shape} {ts us : List Placed} → ShapeForm ts s us → Rest (whole s) us a → ShapeForm ts a []
    at_whole f rest_whole = f

    from_start : {a : Shape} {ts : List Placed} → Rest (want (shape_open text_end)) ts a → ShapeForm ts a []
    from_start (rest_open f r) = at_whole f r
