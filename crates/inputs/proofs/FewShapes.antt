-- A shape text of S bytes begins at most (S + 6) / 7 forms: `(shape` and a bracket or a kind for each before the last, whose own
-- bracket is one byte. Assumes nothing.
use Prim.Native.Nat.{ℕ, suc, ◌+◌, ◌/◌, ◌≤◌, ◌<◌, min}
use native.Mathlib.Omega.{arith}
use native.Mathlib.Decide.{dec_lt}
use mathlib.Core.Path.{◌≡◌, refl, ap}
use mathlib.Core.Bool.{Bool, true, false, false≢true}
use mathlib.Core.List.{List, [], ◌∷◌}
use lib.ListN.{length}
use Rattle.definitions.specs.declared.Limits.{Limits}
use Rattle.definitions.specs.Evaluate.{evaluate}
use Rattle.definitions.specs.Bytes.{Bytes}
use Rattle.definitions.specs.Shape.{Kind, Shape, among}
use Rattle.definitions.specs.Tokens.{Token, opening, closing, quoted, word, broken, Placed, Step, tokens, go, opens, where_true}
use Rattle.definitions.specs.ShapeText.{Parts, Around, text_end, as_element, as_member, shape_open, shape_word, kind_word, member_open}
use Rattle.definitions.specs.ShapeText.{member_word, member_name, member_close, State, want, whole}
use Rattle.definitions.specs.ShapeText.{no_parts, with_kind, put, depth, build, kind_words, shape_words}
use Rattle.definitions.specs.ShapeText.{member_words, may_follow, name_fits, member_step, element_step, bracket_step, kind_step, want_step, step}
use Rattle.definitions.specs.ShapeText.{finished, read_shape}
use Rattle.slices.specs.Fewer.{with_values}
use Rattle.inputs.proofs.FewForms.{width, tokens_width, Pays, open_pays, close_pays, text_pays, true_pays, long_names, found_pays}
use Rattle.inputs.proofs.FewForms.{named_pays, read_same}

-- behind the word `shape` a bracket or a kind is still to come
abbrev kinds_owe : List Kind → ℕ
kinds_owe [] = 1
kinds_owe (k ∷ ks) = 0

abbrev owes : State → ℕ
owes (want (shape_open o)) = 0
owes (want (shape_word o)) = 6
owes (want (kind_word p o)) = kinds_owe p.kinds
owes (want (member_open p o)) = 0
owes (want (member_word p o)) = 0
owes (want (member_name p o)) = 0
owes (want (member_close p o)) = 0
owes (whole s) = 0

long_shape : long_names 5 shape_words ≡ true
unfolding evaluate
long_shape = refl

long_kinds : long_names 3 kind_words ≡ true
unfolding evaluate
long_kinds = refl

long_member : long_names 6 member_words ≡ true
unfolding evaluate
long_member = refl

put_owes : (s : Shape) (o : Around) → owes (put s o) ≡ 0
unfolding put
put_owes s text_end = refl
put_owes s (as_element p o) = refl
put_owes s (as_member p n o) = refl

member_pays : (k : ℕ) (p : Parts) (o : Around) (t : Token) → k ≤ 1 → Pays 7 owes k (width t) (member_step p o t)
unfolding member_step
member_pays k p o opening h = true_pays 7 owes k 1 (among Kind.rec p.kinds) (go (want (member_word p o))) (omega arith)
member_pays k p o closing h = omega (arith, put_owes (build p) o)
member_pays k p o (quoted t) h = tt
member_pays k p o (word w) h = tt
member_pays k p o broken h = tt

-- an element stands behind a kind
some_kinds : (ks : List Kind) → among Kind.list ks ≡ true → kinds_owe ks ≡ 0
unfolding among
some_kinds [] e = absurd (false≢true e)
some_kinds (k ∷ ks) e = refl

kinds_owe_one : (ks : List Kind) → kinds_owe ks ≤ 1
kinds_owe_one [] = omega arith
kinds_owe_one (k ∷ ks) = omega arith

bracket_pays : (p : Parts) (o : Around) (t : Token) → Pays 7 owes (kinds_owe p.kinds) (width t) (bracket_step p o t)
unfolding bracket_step element_step
bracket_pays p o t = told (among Kind.list p.kinds) refl
  where
    told
        : (x : Bool) → among Kind.list p.kinds ≡ x
        → Pays 7 owes (kinds_owe p.kinds) (width t) (elim x as (λ z. Step State) [ true ↦ element_step p o t | false ↦ member_step p o t ])
    told true f =
        open_pays 7 owes _ t (opens (suc (suc (depth o))) (want (shape_word (as_element p o)))) (some_kinds p.kinds f, omega arith, omega arith)
    told false f = member_pays _ p o t (kinds_owe_one p.kinds)

kind_pays : (p : Parts) (o : Around) (t : Token) → Pays 7 owes (kinds_owe p.kinds) (width t) (kind_step p o t)
unfolding kind_step with_kind
kind_pays p o opening = bracket_pays p o opening
kind_pays p o closing = bracket_pays p o closing
kind_pays p o (quoted t) = tt
kind_pays p o (word w) =
    found_pays 7 owes 3 (kinds_owe p.kinds) kind_words w (λ k. where_true (may_follow p.kinds k) (go (want (kind_word (with_kind k p) o))))
    long_kinds (λ k h. true_pays 7 owes _ (length w) (may_follow p.kinds k) (go (want (kind_word (with_kind k p) o))) (more k h))
  where
    more : (k : Kind) → 3 ≤ length w → kinds_owe p.kinds ≤ kinds_owe (with_kind k p).kinds + length w
    more k h = omega (arith, kinds_owe_one p.kinds)
kind_pays p o broken = tt

pays : (q : State) (t : Placed) → Pays 7 owes (owes q) (width t.token) (step q t)
unfolding step want_step no_parts
pays (want (shape_open o)) t =
    open_pays 7 owes 0 t.token (opens (suc (depth o)) (want (shape_word o))) (refl, omega arith, omega arith)
pays (want (shape_word o)) t = named_pays 7 owes 5 6 shape_words t.token (λ u. go (want (kind_word no_parts o))) long_shape (λ u w h. omega arith)
pays (want (kind_word p o)) t = kind_pays p o t.token
pays (want (member_open p o)) t = member_pays 0 p o t.token (omega arith)
pays (want (member_word p o)) t = named_pays 7 owes 6 0 member_words t.token (λ u. go (want (member_name p o))) long_member (λ u w h. omega arith)
pays (want (member_name p o)) t =
    text_pays 7 owes 0 t.token (λ n. where_true (name_fits p.fields n) (go (want (shape_open (as_member p n o)))))
    (λ n. true_pays 7 owes 0 0 (name_fits p.fields n) (go (want (shape_open (as_member p n o)))) (omega arith))
pays (want (member_close p o)) t = close_pays 7 owes 0 t.token (go (want (member_open p o))) (omega arith)
pays (whole s) t = tt

-- limits with so many values judge it as the others do
pub few_forms
    : (l : Limits) (text : Bytes) → read_shape (with_values l (min l.values ((length text + 6) / 7))) text ≡ read_shape l text
unfolding read_shape
few_forms l text = split (dec_lt most l.values)
  where
    most : ℕ
    most = (length text + 6) / 7

    split : Dec (most < l.values) → read_shape (with_values l (min l.values most)) text ≡ read_shape l text
    split (yes h) =
        read_same 7 owes step finished pays (with_values l (min l.values most)) l (length text) most (omega arith) (omega arith) refl
        (λ n i. omega arith) (tokens text) 0 (length text) (want (shape_open text_end)) (omega (arith, tokens_width text))
    split (no h) = ap (λ (v : ℕ). read_shape (with_values l v) text) (let e : min l.values most ≡ l.values = omega arith in e)
