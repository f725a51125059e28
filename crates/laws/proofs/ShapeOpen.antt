-- The forms that are open in each state of reading a shape text are those that its brackets open. Assumes nothing.
use Rattle.std.specs.Prelude.{ℕ, suc, ◌+◌, ◌≡◌, refl, Bool, true, false, List, [], ◌∷◌, length}
use Rattle.std.proofs.Common.{sym, ◌∙◌, ap, arith}
use Rattle.definitions.specs.Bytes.{Bytes, bytes, order, same}
use Rattle.definitions.specs.Shape.{Kind, among, Shape}
use Rattle.definitions.specs.ShapeText.{Parts, Around, text_end, as_element, as_member, shape_open, shape_word, kind_word, member_open, member_word}
use Rattle.definitions.specs.ShapeText.{member_name, member_close, State, want, whole, no_parts, with_kind, put, depth, build, kind_name, kind_words}
use Rattle.definitions.specs.ShapeText.{shape_words, member_words, may_follow, name_fits, member_step, element_step, bracket_step, kind_step, want_step, step}
use Rattle.definitions.specs.Tokens.{Token, opening, closing, quoted, word, broken, Placed, misplaced, go}
use Rattle.definitions.specs.Tokens.{opens, want_open, want_word, want_named, where_true, where_some, look_word}
use Rattle.laws.specs.FormGrammar.{at}
use Rattle.laws.specs.FormRuns.{Walk, stay, on, enter}
use Rattle.laws.proofs.FormSteps.{Says, open_says, close_says, text_says, true_says, some_says, named_says, says_go, says_opens}
use Rattle.laws.specs.FormCauses.{shape_named, last_closed, is_shape, open_after, open_behind, shapes_among, shape_begun, shapes_begun}
use Rattle.laws.proofs.ShapeBacks.{kind_spelled}

-- ---- the forms that are open in a state

-- those around a shape, innermost first, each with whether it is a shape form
unfoldable pub around : Around → List Bool
around text_end = []
around (as_element p o) = true ∷ around o
around (as_member p n o) = false ∷ true ∷ around o

unfoldable pub open_in : State → List Bool
open_in (whole s) = []
open_in (want (shape_open o)) = around o
open_in (want (shape_word o)) = false ∷ around o
open_in (want (kind_word p o)) = true ∷ around o
open_in (want (member_open p o)) = true ∷ around o
open_in (want (member_word p o)) = false ∷ true ∷ around o
open_in (want (member_name p o)) = false ∷ true ∷ around o
open_in (want (member_close p o)) = false ∷ true ∷ around o

-- a shape's bracket has come and its word has not
unfoldable pub pending : State → ℕ
pending (whole s) = 0
pending (want (shape_open o)) = 0
pending (want (shape_word o)) = 1
pending (want (kind_word p o)) = 0
pending (want (member_open p o)) = 0
pending (want (member_word p o)) = 0
pending (want (member_name p o)) = 0
pending (want (member_close p o)) = 0

around_depth : (o : Around) → shapes_among (around o) ≡ depth o
unfolding around shapes_among depth
around_depth text_end = refl
around_depth (as_element p o) = ap suc (around_depth o)
around_depth (as_member p n o) = ap suc (around_depth o)

put_open : (s : Shape) (o : Around) → open_in (put s o) ≡ around o
unfolding around open_in put
put_open s text_end = refl
put_open s (as_element p o) = refl
put_open s (as_member p n o) = refl

put_pending : (s : Shape) (o : Around) → pending (put s o) ≡ 0
unfolding pending put
put_pending s text_end = refl
put_pending s (as_element p o) = refl
put_pending s (as_member p n o) = refl

-- behind a bracket that is no shape's, the word `shape` is misplaced
abbrev pub Barred : Token → State → Type 0
Barred opening r = step r (at 0 (word (bytes "shape"))) ≡ misplaced
Barred closing r = Unit {0}
Barred (quoted t) r = Unit {0}
Barred (word w) r = Unit {0}
Barred broken r = Unit {0}

-- what a token that leads on does to the forms that are open
pub record Goes (q : State) (k : Token) (r : State) : Type 0 where
  still_open : open_in r ≡ open_after k (open_in q)
  still_pending : pending r + shape_begun k ≡ pending q
  pub barred : Barred k r

pub record Enters (q : State) (k : Token) (d : ℕ) (r : State) : Type 0 where
  pub is_bracket : k ≡ opening
  pub at_depth : d ≡ suc (shapes_among (open_in q))
  pub none_pending : pending q ≡ 0
  pub inner : Around
  pub leads : r ≡ want (shape_word inner)
  inner_open : around inner ≡ open_in q

no_shape_word : (p : Parts) (o : Around) → step (want (member_word p o)) (at 0 (word (bytes "shape"))) ≡ misplaced
unfolding step want_step want_named want_word where_some look_word member_words same order bytes
no_shape_word p o = refl

member_says
    : (p : Parts) (o : Around) (q : State) → open_in q ≡ true ∷ around o → pending q ≡ 0 → (k : Token)
    → Says (Goes q) (Enters q) k (member_step p o k)
unfolding member_step open_in pending open_after shape_begun last_closed
member_says p o q e f opening =
    true_says
    (Goes q)
    (Enters q)
    opening
    (among Kind.rec p.kinds)
    (go (want (member_word p o)))
    (record { still_open = ap (λ x. false ∷ x) (sym e); still_pending = sym f; barred = no_shape_word p o })
member_says p o q e f closing =
    record {
      still_open = put_open (build p) o ∙ ap last_closed (sym e);
      still_pending = let z = put_pending (build p) o in omega arith;
      barred = tt;
    }
member_says p o q e f (quoted t) = tt
member_says p o q e f (word w) = tt
member_says p o q e f broken = tt

-- a shape's bracket
enters
    : (q : State) (o : Around) → around o ≡ open_in q → pending q ≡ 0
    → Enters q opening (suc (depth o)) (want (shape_word o))
enters q o e f =
    record {
      is_bracket = refl;
      at_depth = ap suc (sym (around_depth o) ∙ ap shapes_among e);
      none_pending = f;
      inner = o;
      leads = refl;
      inner_open = e;
    }

bracket_says
    : (p : Parts) (o : Around)
    → Says (Goes (want (kind_word p o))) (Enters (want (kind_word p o))) opening (bracket_step p o opening)
    × Says (Goes (want (kind_word p o))) (Enters (want (kind_word p o))) closing (bracket_step p o closing)
unfolding bracket_step element_step want_open open_in around pending depth
bracket_says p o = by_list (among Kind.list p.kinds)
  where
    q : State
    q = want (kind_word p o)

    by_list
        : (l : Bool)
        → Says (Goes q) (Enters q) opening (elim l [ true ↦ element_step p o opening | false ↦ member_step p o opening ])
        × Says (Goes q) (Enters q) closing (elim l [ true ↦ element_step p o closing | false ↦ member_step p o closing ])
    by_list true = (enters q (as_element p o) refl refl, tt)
    by_list false = (member_says p o q refl refl opening, member_says p o q refl refl closing)

-- a kind's word is not `shape`
kind_other : (k : Kind) → is_shape (kind_name k) ≡ false
unfolding is_shape kind_name same order bytes
kind_other Kind.null = refl
kind_other Kind.bool = refl
kind_other Kind.int = refl
kind_other Kind.dec = refl
kind_other Kind.text = refl
kind_other Kind.list = refl
kind_other Kind.rec = refl

kind_goes
    : (p : Parts) (o : Around) (w : Bytes) (k : Kind) → is_shape w ≡ false
    → Goes (want (kind_word p o)) (word w) (want (kind_word (with_kind k p) o))
unfolding open_in pending open_after shape_begun
kind_goes p o w k h = record { still_open = rw (h, open_after); still_pending = rw (h, shape_begun); barred = tt }

kind_says : (p : Parts) (o : Around) (k : Token) → Says (Goes (want (kind_word p o))) (Enters (want (kind_word p o))) k (kind_step p o k)
unfolding kind_step
kind_says p o opening = (bracket_says p o).0
kind_says p o closing = (bracket_says p o).1
kind_says p o (quoted t) = tt
kind_says p o (word w) =
    some_says
    (Goes (want (kind_word p o)))
    (Enters (want (kind_word p o)))
    (word w)
    (look_word kind_words w)
    (λ k. where_true (may_follow p.kinds k) (go (want (kind_word (with_kind k p) o))))
    (λ k e.
    true_says
    (Goes (want (kind_word p o)))
    (Enters (want (kind_word p o)))
    (word w)
    (may_follow p.kinds k)
    (go (want (kind_word (with_kind k p) o)))
    (kind_goes p o w k (ap is_shape (kind_spelled w k e) ∙ kind_other k)))
kind_says p o broken = tt

pub step_says : (q : State) (t : Placed) → Says (Goes q) (Enters q) t.token (step q t)
unfolding step want_step shape_words member_words open_in pending around open_after shape_named shape_begun is_shape same order bytes depth last_closed
step_says (whole s) t = tt
step_says (want (shape_open o)) t =
    open_says
    (Goes (want (shape_open o)))
    (Enters (want (shape_open o)))
    (opens (suc (depth o)) (want (shape_word o)))
    (enters (want (shape_open o)) o refl refl)
    t.token
step_says (want (shape_word o)) t =
    named_says
    (Goes (want (shape_word o)))
    (Enters (want (shape_word o)))
    shape_words
    (λ u. go (want (kind_word no_parts o)))
    (record { still_open = refl; still_pending = refl; barred = tt }, tt)
    t.token
step_says (want (kind_word p o)) t = kind_says p o t.token
step_says (want (member_open p o)) t = member_says p o (want (member_open p o)) refl refl t.token
step_says (want (member_word p o)) t =
    named_says
    (Goes (want (member_word p o)))
    (Enters (want (member_word p o)))
    member_words
    (λ u. go (want (member_name p o)))
    (record { still_open = refl; still_pending = refl; barred = tt }, tt)
    t.token
step_says (want (member_name p o)) t =
    text_says
    (Goes (want (member_name p o)))
    (Enters (want (member_name p o)))
    (λ n. where_true (name_fits p.fields n) (go (want (shape_open (as_member p n o)))))
    (λ n.
    true_says
    (Goes (want (member_name p o)))
    (Enters (want (member_name p o)))
    (quoted n)
    (name_fits p.fields n)
    (go (want (shape_open (as_member p n o))))
    (record { still_open = refl; still_pending = refl; barred = tt }))
    t.token
step_says (want (member_close p o)) t =
    close_says
    (Goes (want (member_close p o)))
    (Enters (want (member_close p o)))
    (go (want (member_open p o)))
    (record { still_open = refl; still_pending = refl; barred = tt })
    t.token

-- ---- along walks

pub walk_open
    : {q r : State} {ts us : List Placed} {ds : List ℕ} → Walk step q ts ds r us → us ≡ [] → open_in r ≡ open_behind (open_in q) ts
unfolding open_behind open_after open_in
walk_open stay e = rw e
walk_open (on {q = q} {t = t} {ts = ts} e w) i =
    walk_open w i ∙ ap (λ fs. open_behind fs ts) (says_go (Goes q) (Enters q) (step_says q t) e).still_open
walk_open (enter {q = q} {r = r} {t = t} {ts = ts} e w) i =
    walk_open w i ∙ ap (λ fs. open_behind fs ts) (entered (says_opens (Goes q) (Enters q) (step_says q t) e))
  where
    entered : {d : ℕ} → Enters q t.token d r → open_in r ≡ open_after t.token (open_in q)
    entered h =
        ap open_in h.leads ∙ ap (λ fs. false ∷ fs) h.inner_open ∙ ap (λ k. open_after k (open_in q)) (sym h.is_bracket)

pub walk_begun
    : {q r : State} {ts us : List Placed} {ds : List ℕ} → Walk step q ts ds r us → us ≡ []
    → length ds + pending q ≡ shapes_begun ts + pending r
unfolding shapes_begun shape_begun pending
walk_begun stay e = rw e
walk_begun (on {q = q} {t = t} e w) i =
    let h = walk_begun w i in
    let j = (says_go (Goes q) (Enters q) (step_says q t) e).still_pending in
    omega arith
walk_begun (enter {q = q} {r = r} {t = t} e w) i =
    let h = walk_begun w i in
    let j = says_opens (Goes q) (Enters q) (step_says q t) e in
    let k = ap pending j.leads in
    let m = ap shape_begun j.is_bracket in
    let n = j.none_pending in
    omega arith
