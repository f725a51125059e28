-- A text of tokens begins no more forms than its bytes pay for, so that a limit of forms beyond that judges nothing: a bracket and
-- the word behind it, and of a shape text one byte more. Assumes nothing.
use Prim.Native.Nat.{ℕ, suc, ◌+◌, ◌*◌, ◌≤◌, ◌<◌}
use native.Mathlib.Nat.{suc-mul}
use native.Mathlib.Omega.{arith}
use mathlib.Core.Path.{◌≡◌, refl, sym, ap, ◌∙◌, subst}
use mathlib.Core.Bool.{Bool, true, false, ◌&&◌}
use mathlib.Core.List.{List, [], ◌∷◌, reverse}
use mathlib.Core.Option.{Option, none, some}
use lib.Dec.{leb}
use lib.ListN.{length, length-reverse}
use Rattle.definitions.specs.declared.Limits.{Limits}
use Rattle.definitions.specs.Limits.{over}
use Rattle.definitions.specs.Bytes.{Bytes, look, same}
use Rattle.definitions.specs.Outcome.{Outcome, refused}
use Rattle.definitions.specs.Text.{Inside, TextMove, wrong, more, closed, text_step}
use Rattle.definitions.specs.Tokens.{Token, opening, closing, quoted, word, broken, Placed, at_place, Border, space, bracket_open, bracket_close}
use Rattle.definitions.specs.Tokens.{quote, border_table, Partial, no_word, word_from, Lexing, outside, inside, ended, longer, lex, tokens}
use Rattle.definitions.specs.Tokens.{Step, misplaced, go, opens, want_open, want_close, want_text, want_word, where_true, where_some, Named, named}
use Rattle.definitions.specs.Tokens.{look_word, want_named, judge_step, read_tokens}
use Rattle.laws.specs.Tests.{leb_le, le-ltb}
use Rattle.laws.specs.Bools.{and_left, and_right}
use Rattle.laws.specs.Names.{same_eq}

-- ---- the bytes of tokens

-- a token takes at least so many
abbrev pub width : Token → ℕ
width opening = 1
width closing = 1
width (quoted t) = 0
width (word w) = length w
width broken = 0

abbrev pub widths : List Placed → ℕ
widths [] = 0
widths (t ∷ ts) = width t.token + widths ts

-- those of a word that is being read
abbrev begun : Lexing → ℕ
begun (outside no_word) = 0
begun (outside (word_from at acc)) = length acc
begun (inside at i acc) = 0

ended_width : (w : Partial) (ts : List Placed) → widths (ended w ts) ≡ begun (outside w) + widths ts
unfolding ended at_place
ended_width no_word ts = omega arith
ended_width (word_from at acc) ts = ap (λ (n : ℕ). n + widths ts) (length-reverse acc)

longer_width : (w : Partial) (p b : ℕ) → begun (outside (longer w p b)) ≡ suc (begun (outside w))
unfolding longer
longer_width no_word p b = refl
longer_width (word_from at acc) p b = refl

lex_width : (s : Bytes) (p : ℕ) (x : Lexing) → widths (lex p x s) ≤ begun x + length s
unfolding lex at_place
lex_width [] p (outside w) = omega (arith, ended_width w [])
lex_width [] p (inside at i acc) = omega arith
lex_width (b ∷ r) p (outside w) = told (look border_table b) (λ x. lex_width r (suc p) x)
  where
    told
        : (o : Option Border) → ((x : Lexing) → widths (lex (suc p) x r) ≤ begun x + length r)
        → widths
        (elim o as (λ z. List Placed) [
          | none ↦ lex (suc p) (outside (longer w p b)) r
          | some c ↦
              ended
              w
              (elim c as (λ z. List Placed) [
                | space ↦ lex (suc p) (outside no_word) r
                | bracket_open ↦ at_place p opening ∷ lex (suc p) (outside no_word) r
                | bracket_close ↦ at_place p closing ∷ lex (suc p) (outside no_word) r
                | quote ↦ lex (suc p) (inside p Inside.chars []) r
              ])
        ])
        ≤ begun (outside w) + length (b ∷ r)
    told none f = omega (arith, f (outside (longer w p b)), longer_width w p b)
    told (some space) f = omega (arith, ended_width w (lex (suc p) (outside no_word) r), f (outside no_word))
    told (some bracket_open) f =
        omega (arith, ended_width w (at_place p opening ∷ lex (suc p) (outside no_word) r), f (outside no_word))
    told (some bracket_close) f =
        omega (arith, ended_width w (at_place p closing ∷ lex (suc p) (outside no_word) r), f (outside no_word))
    told (some quote) f = omega (arith, ended_width w (lex (suc p) (inside p Inside.chars []) r), f (inside p Inside.chars []))
lex_width (b ∷ r) p (inside at i acc) = told (text_step i acc b) (λ x. lex_width r (suc p) x)
  where
    told
        : (m : TextMove) → ((x : Lexing) → widths (lex (suc p) x r) ≤ begun x + length r)
        → widths
        (elim m as (λ z. List Placed) [
          | wrong ↦ at_place at broken ∷ []
          | more i' acc' ↦ lex (suc p) (inside at i' acc') r
          | closed ↦ at_place at (quoted (reverse acc)) ∷ lex (suc p) (outside no_word) r
        ])
        ≤ begun (inside at i acc) + length (b ∷ r)
    told wrong f = omega arith
    told (more i' acc') f = omega (arith, f (inside at i' acc'))
    told closed f = omega (arith, f (outside no_word))

pub tokens_width : (s : Bytes) → widths (tokens s) ≤ length s
unfolding tokens
tokens_width s = omega (arith, lex_width s 0 (outside no_word))

-- ---- what a token pays, where a form costs so many bytes and a state owes what is still to come of its form

module _ {Q : Type 0} (cost : ℕ) (owes : Q → ℕ) where
  -- where k was owed, and the token takes w bytes
  abbrev pub Pays : (k w : ℕ) → Step Q → Type 0
  Pays k w misplaced = Unit
  Pays k w (go q) = k ≤ owes q + w
  Pays k w (opens d q) = (k ≡ 0) × (cost ≤ owes q + w) × (0 < w)

  pub open_pays : (k : ℕ) (t : Token) (s : Step Q) → Pays k 1 s → Pays k (width t) (want_open t s)
  unfolding want_open
  open_pays k opening s h = h
  open_pays k closing s h = tt
  open_pays k (quoted t) s h = tt
  open_pays k (word w) s h = tt
  open_pays k broken s h = tt

  pub close_pays : (k : ℕ) (t : Token) (s : Step Q) → Pays k 1 s → Pays k (width t) (want_close t s)
  unfolding want_close
  close_pays k opening s h = tt
  close_pays k closing s h = h
  close_pays k (quoted t) s h = tt
  close_pays k (word w) s h = tt
  close_pays k broken s h = tt

  pub text_pays : (k : ℕ) (t : Token) (f : Bytes → Step Q) → ((s : Bytes) → Pays k 0 (f s)) → Pays k (width t) (want_text t f)
  unfolding want_text
  text_pays k opening f h = tt
  text_pays k closing f h = tt
  text_pays k (quoted t) f h = h t
  text_pays k (word w) f h = tt
  text_pays k broken f h = tt

  pub word_pays : (k : ℕ) (t : Token) (f : Bytes → Step Q) → ((w : Bytes) → Pays k (length w) (f w)) → Pays k (width t) (want_word t f)
  unfolding want_word
  word_pays k opening f h = tt
  word_pays k closing f h = tt
  word_pays k (quoted t) f h = tt
  word_pays k (word w) f h = h w
  word_pays k broken f h = tt

  pub true_pays : (k w : ℕ) (b : Bool) (s : Step Q) → Pays k w s → Pays k w (where_true b s)
  unfolding where_true
  true_pays k w true s h = h
  true_pays k w false s h = tt

  pub some_pays : {A : Type 0} (k w : ℕ) (o : Option A) (f : A → Step Q) → ((a : A) → Pays k w (f a)) → Pays k w (where_some o f)
  unfolding where_some
  some_pays k w none f h = tt
  some_pays k w (some a) f h = h a

-- the words of a table have so many bytes or more
abbrev pub long_names : {A : Type 0} → ℕ → List (Named A) → Bool
long_names n [] = true
long_names n (named w a ∷ rows) = leb n (length w) && long_names n rows

module _ {Q A : Type 0} (cost : ℕ) (owes : Q → ℕ) (n : ℕ) where
  pub found_pays
      : (k : ℕ) (rows : List (Named A)) (w : Bytes) (f : A → Step Q) → long_names n rows ≡ true
      → ((a : A) → n ≤ length w → Pays cost owes k (length w) (f a)) → Pays cost owes k (length w) (where_some (look_word rows w) f)
  unfolding look_word where_some
  found_pays k [] w f e h = tt
  found_pays k (named m a ∷ rows) w f e h =
      told (same w m) refl (found_pays k rows w f (and_right (leb n (length m)) (long_names n rows) e) h)
    where
      told
          : (x : Bool) → same w m ≡ x → Pays cost owes k (length w) (where_some (look_word rows w) f)
          → Pays cost owes k (length w) (where_some (elim x as (λ z. Option A) [ true ↦ some a | false ↦ look_word rows w ]) f)
      told true q rest =
          h a (subst (λ (v : Bytes). n ≤ length v) (sym (same_eq w m q)) (leb_le (and_left (leb n (length m)) (long_names n rows) e)))
      told false q rest = rest

  pub named_pays
      : (k : ℕ) (rows : List (Named A)) (t : Token) (f : A → Step Q) → long_names n rows ≡ true
      → ((a : A) (w : ℕ) → n ≤ w → Pays cost owes k w (f a)) → Pays cost owes k (width t) (want_named rows t f)
  unfolding want_named
  named_pays k rows t f e h =
      word_pays cost owes k t (λ w. where_some (look_word rows w) f) (λ w. found_pays k rows w f e (λ a g. h a (length w) g))

-- ---- the limits

-- what one side of a test comes to
on_false
    : {A : Type 0} (b : Bool) (x : Outcome ℕ A) {y y' : Outcome ℕ A} → y ≡ y'
    → ◌≡◌ {A = Outcome ℕ A} (elim b [ true ↦ x | false ↦ y ]) (elim b [ true ↦ x | false ↦ y' ])
on_false true x e = refl
on_false false x e = e

module _ {Q A : Type 0} (cost : ℕ) (owes : Q → ℕ) (step : Q → Placed → Step Q) (whole : Q → Option A)
    (pays : (q : Q) (t : Placed) → Pays cost owes (owes q) (width t.token) (step q t)) where
  -- limits that differ in values alone, neither below what so many bytes pay for
  module _ (l l' : Limits) (bytes most : ℕ) (a : most ≤ l.values) (b : most ≤ l'.values) (e : l.nesting ≡ l'.nesting)
      (enough : (n : ℕ) → n * cost < bytes → suc n ≤ most) where
    over_same : (n d : ℕ) → n * cost < bytes → over l (suc n) d ≡ over l' (suc n) d
    over_same n d h =
        let i : suc n ≤ most = enough n h in
        let c : suc n ≤ l.values = omega arith in
        let c' : suc n ≤ l'.values = omega arith in
        rw (le-ltb l.values (suc n) c, le-ltb l'.values (suc n) c', e) refl

    judge_same
        : (s : Step Q) (k w n at left : ℕ) (on on' : ℕ → Q → Outcome ℕ A) → Pays cost owes k w s → n * cost + w + left ≤ bytes + k
        → ((n' : ℕ) (q : Q) → n' * cost + left ≤ bytes + owes q → on n' q ≡ on' n' q) → judge_step l n at s on ≡ judge_step l' n at s on'
    unfolding judge_step
    judge_same misplaced k w n at left on on' p h f = refl
    judge_same (go q) k w n at left on on' p h f = f n q (omega arith)
    judge_same (opens d q) k w n at left on on' (p, p', p'') h f =
        on_false (over l (suc n) d) (refused 8 at) (f (suc n) q (next n p p' h))
        ∙ ap (λ (x : Bool). elim x as (λ z. Outcome ℕ A) [ true ↦ refused 8 at | false ↦ on' (suc n) q ]) (over_same n d (omega arith))
      where
        next : (n : ℕ) → k ≡ 0 → cost ≤ owes q + w → n * cost + w + left ≤ bytes + k → suc n * cost + left ≤ bytes + owes q
        next n p p' h = omega (arith, suc-mul n cost)

    pub read_same
        : (ts : List Placed) (n end : ℕ) (q : Q) → n * cost + widths ts ≤ bytes + owes q
        → read_tokens step whole l n end q ts ≡ read_tokens step whole l' n end q ts
    unfolding read_tokens
    read_same [] n end q h = refl
    read_same (t ∷ ts) n end q h =
        judge_same (step q t) (owes q) (width t.token) n t.at (widths ts) _ _ (pays q t) (omega arith)
        (λ n' q' i. read_same ts n' end q' i)
