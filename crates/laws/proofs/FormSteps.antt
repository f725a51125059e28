-- The laws of `want_open` and its like: what a step that leads on says of its token. Assumes nothing.
use Rattle.std.specs.Prelude.{ℕ, ◌≡◌, Bool, List, [], ◌∷◌}
use Rattle.std.proofs.Math.Path.{refl}
use Rattle.std.proofs.Common.{sym, subst, subst₂}
use Rattle.std.proofs.Math.Bool.{true, false}
use Rattle.std.proofs.Math.Option.{Option, none, some, none-ne-some, some-injective}
use Rattle.definitions.specs.Bytes.{Bytes, same}
use Rattle.definitions.specs.Tokens.{Token, opening, closing, quoted, word, broken, Placed, Step, misplaced, go, opens, want_open}
use Rattle.definitions.specs.Tokens.{want_close, want_text, want_word, where_true, where_some, Named, named, look_word, want_named}
use Rattle.laws.specs.Names.{same_eq}
use Rattle.laws.specs.FormGrammar.{at, Head, head, Name, name}
use Rattle.laws.specs.FormRuns.{Walk, stay, on, enter}

-- the step leads on to a state of which R holds
abbrev pub Back : {Q : Type 0} → (Q → Type 0) → Step Q → Type 0
Back R misplaced = ⊥
Back R (go q) = R q
Back R (opens d q) = R q

-- what holds behind a step holds before it: then it holds before a walk
pub walk_back
    : {Q : Type 0} {step : Q → Placed → Step Q} (R : Q → List Placed → Type 0)
    → ((q : Q) (t : Placed) (ts : List Placed) → Back (λ r. R r ts) (step q t) → R q (t ∷ ts)) → {q u : Q} {ts us : List Placed}
    {ds : List ℕ} → Walk step q ts ds u us → R u us → R q ts
walk_back R back stay h = h
walk_back R back (on {q = q} {t = t} {ts = ts} e f) h =
    back q t ts (subst (Back (λ r. R r ts)) (sym e) (walk_back R back f h))
walk_back R back (enter {q = q} {t = t} {ts = ts} e f) h =
    back q t ts (subst (Back (λ r. R r ts)) (sym e) (walk_back R back f h))

module _ {Q : Type 0} (R : Q → Type 0) (M : Token → Type 0) where
  pub open_back : (s : Step Q) → (Back R s → M opening) → (k : Token) → Back R (want_open k s) → M k
  unfolding want_open
  open_back s f opening b = f b
  open_back s f closing b = absurd b
  open_back s f (quoted t) b = absurd b
  open_back s f (word w) b = absurd b
  open_back s f broken b = absurd b

  pub close_back : (s : Step Q) → (Back R s → M closing) → (k : Token) → Back R (want_close k s) → M k
  unfolding want_close
  close_back s f opening b = absurd b
  close_back s f closing b = f b
  close_back s f (quoted t) b = absurd b
  close_back s f (word w) b = absurd b
  close_back s f broken b = absurd b

  pub text_back
      : (s : Bytes → Step Q) → ((t : Bytes) → Back R (s t) → M (quoted t)) → (k : Token) → Back R (want_text k s) → M k
  unfolding want_text
  text_back s f opening b = absurd b
  text_back s f closing b = absurd b
  text_back s f (quoted t) b = f t b
  text_back s f (word w) b = absurd b
  text_back s f broken b = absurd b

  pub word_back : (s : Bytes → Step Q) → ((w : Bytes) → Back R (s w) → M (word w)) → (k : Token) → Back R (want_word k s) → M k
  unfolding want_word
  word_back s f opening b = absurd b
  word_back s f closing b = absurd b
  word_back s f (quoted t) b = absurd b
  word_back s f (word w) b = f w b
  word_back s f broken b = absurd b

module _ {Q : Type 0} (R : Q → Type 0) where
  pub true_back : {X : Type 0} (c : Bool) (s : Step Q) → (c ≡ true → Back R s → X) → Back R (where_true c s) → X
  unfolding where_true
  true_back true s f b = f refl b
  true_back false s f b = absurd b

  pub some_back
      : {A X : Type 0} (o : Option A) (s : A → Step Q) → ((a : A) → o ≡ some a → Back R (s a) → X) → Back R (where_some o s) → X
  unfolding where_some
  some_back none s f b = absurd b
  some_back (some a) s f b = f a refl b

-- P holds of each word of a table and what it stands for
abbrev pub Each : {A : Type 0} → (Bytes → A → Type 0) → List (Named A) → Type 0
Each P [] = Unit {0}
Each P (named n a ∷ rows) = P n a × Each P rows

-- what is looked up is there
pub look_each
    : {A : Type 0} (P : Bytes → A → Type 0) (rows : List (Named A)) → Each P rows → (w : Bytes) (a : A)
    → look_word rows w ≡ some a → P w a
unfolding look_word
look_each P [] h w a e = absurd (none-ne-some a e)
look_each {A} P (named n b ∷ rows) h w a e = by_test (same w n) refl e (look_each P rows h.1 w a)
  where
    by_test
        : (c : Bool) → same w n ≡ c → Path (Option A) (elim c [ true ↦ some b | false ↦ look_word rows w ]) (some a)
        → (look_word rows w ≡ some a → P w a) → P w a
    by_test true f g rest = subst₂ P (sym (same_eq w n f)) (some-injective b a g) h.0
    by_test false f g rest = rest g

-- a word of a table
pub named_back
    : {A Q : Type 0} (R : Q → Type 0) (M : Token → Type 0) (rows : List (Named A)) (s : A → Step Q)
    → Each (λ w a. Back R (s a) → M (word w)) rows → (k : Token) → Back R (want_named rows k s) → M k
unfolding want_named
named_back {A} R M rows s h k b =
    word_back
    R
    M
    (λ w. where_some (look_word rows w) s)
    (λ w. some_back R (look_word rows w) s (look_each (λ w a. Back R (s a) → M (word w)) rows h w))
    k
    b

-- ---- walks over the head of a form

module _ {Q : Type 0} {step : Q → Placed → Step Q} where
  pub head_enter
      : {w : Bytes} {p d : ℕ} {ts us vs : List Placed} {ds : List ℕ} {q q₁ q₂ u : Q} → Head w p ts us
      → step q (at p opening) ≡ opens d q₁ → ((x : ℕ) → step q₁ (at x (word w)) ≡ go q₂) → Walk step q₂ us ds u vs
      → Walk step q ts (d ∷ ds) u vs
  head_enter (head {x = x}) e f w = enter e (on (f x) w)

  pub head_on
      : {w : Bytes} {p : ℕ} {ts us vs : List Placed} {ds : List ℕ} {q q₁ q₂ u : Q} → Head w p ts us
      → step q (at p opening) ≡ go q₁ → ((x : ℕ) → step q₁ (at x (word w)) ≡ go q₂) → Walk step q₂ us ds u vs
      → Walk step q ts ds u vs
  head_on (head {x = x}) e f w = on e (on (f x) w)

  pub name_on
      : {n : Bytes} {ts us vs : List Placed} {ds : List ℕ} {q q₁ u : Q} → Name n ts us
      → ((x : ℕ) → step q (at x (quoted n)) ≡ go q₁) → Walk step q₁ us ds u vs → Walk step q ts ds u vs
  name_on (name {x = x}) f w = on (f x) w

-- ---- what a step says of its token and of the state it leads to

abbrev pub Says : {Q : Type 0} → (Token → Q → Type 0) → (Token → ℕ → Q → Type 0) → Token → Step Q → Type 0
Says G O k misplaced = Unit {0}
Says G O k (go r) = G k r
Says G O k (opens d r) = O k d r

module _ {Q : Type 0} (G : Token → Q → Type 0) (O : Token → ℕ → Q → Type 0) where
  pub open_says : (s : Step Q) → Says G O opening s → (k : Token) → Says G O k (want_open k s)
  unfolding want_open
  open_says s h opening = h
  open_says s h closing = tt
  open_says s h (quoted t) = tt
  open_says s h (word w) = tt
  open_says s h broken = tt

  pub close_says : (s : Step Q) → Says G O closing s → (k : Token) → Says G O k (want_close k s)
  unfolding want_close
  close_says s h opening = tt
  close_says s h closing = h
  close_says s h (quoted t) = tt
  close_says s h (word w) = tt
  close_says s h broken = tt

  pub text_says : (s : Bytes → Step Q) → ((t : Bytes) → Says G O (quoted t) (s t)) → (k : Token) → Says G O k (want_text k s)
  unfolding want_text
  text_says s h opening = tt
  text_says s h closing = tt
  text_says s h (quoted t) = h t
  text_says s h (word w) = tt
  text_says s h broken = tt

  pub word_says : (s : Bytes → Step Q) → ((w : Bytes) → Says G O (word w) (s w)) → (k : Token) → Says G O k (want_word k s)
  unfolding want_word
  word_says s h opening = tt
  word_says s h closing = tt
  word_says s h (quoted t) = tt
  word_says s h (word w) = h w
  word_says s h broken = tt

  pub true_says : (k : Token) (b : Bool) (s : Step Q) → Says G O k s → Says G O k (where_true b s)
  unfolding where_true
  true_says k true s h = h
  true_says k false s h = tt

  pub some_says
      : {A : Type 0} (k : Token) (o : Option A) (s : A → Step Q) → ((a : A) → o ≡ some a → Says G O k (s a))
      → Says G O k (where_some o s)
  unfolding where_some
  some_says k none s h = tt
  some_says k (some a) s h = h a refl

  pub named_says
      : {A : Type 0} (rows : List (Named A)) (s : A → Step Q) → Each (λ w a. Says G O (word w) (s a)) rows → (k : Token)
      → Says G O k (want_named rows k s)
  unfolding want_named
  named_says {A} rows s h k =
      word_says
      (λ w. where_some (look_word rows w) s)
      (λ w. some_says (word w) (look_word rows w) s (look_each (λ w a. Says G O (word w) (s a)) rows h w))
      k

  -- what is said of a step that leads on
  pub says_go : {k : Token} {s : Step Q} {r : Q} → Says G O k s → s ≡ go r → G k r
  says_go {k} h e = subst (Says G O k) e h

  pub says_opens : {k : Token} {s : Step Q} {d : ℕ} {r : Q} → Says G O k s → s ≡ opens d r → O k d r
  says_opens {k} h e = subst (Says G O k) e h
