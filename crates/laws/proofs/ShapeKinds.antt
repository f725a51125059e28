-- Kind words as they are read, one behind the other, and the kinds of the shape that they mean. Assumes nothing.
use Rattle.std.specs.Prelude.{ℕ, zero, suc, ◌≤◌, ◌<◌, ◌≡◌, refl, ◌⊎◌, Bool, true, false, not, ◌||◌, List, [], ◌∷◌, ltb, eqb}
use Rattle.std.proofs.Common.{sym, ◌∙◌, ap, subst, inl, inr, ⊎_elim, arith}
use Rattle.std.proofs.Math.Option.{some}
use Rattle.definitions.specs.Bytes.{bytes, same, order}
use Rattle.definitions.specs.Shape.{Kind, all_kinds, rank, among, Numeric, no_number, int_only, int_and_dec, Shape, shape, has, has_int, has_dec}
use Rattle.definitions.specs.ShapeText.{kind_name, in_order, may_follow, numeric_from, kind_words}
use Rattle.definitions.specs.Tokens.{word, Placed, look_word}
use Rattle.laws.specs.Bools.{and_left, and_right, and_intro, or_left, or_right}
use Rattle.laws.specs.Tests.{ltb_lt, lt-ltb, eq-eqb, ne_eqb, lt_or_le}
use Rattle.laws.specs.FormGrammar.{at, KindWords, no_kinds, has_kind, lacks_kind}

-- ---- words

-- the word of a kind is looked up as that kind
pub look_kind : (k : Kind) → look_word kind_words (kind_name k) ≡ some k
unfolding look_word kind_words kind_name bytes same order all_kinds
look_kind Kind.null = refl
look_kind Kind.bool = refl
look_kind Kind.int = refl
look_kind Kind.dec = refl
look_kind Kind.text = refl
look_kind Kind.list = refl
look_kind Kind.rec = refl

-- ---- ranks

rank_most : (k : Kind) → rank k < 7
unfolding rank
rank_most Kind.null = omega arith
rank_most Kind.bool = omega arith
rank_most Kind.int = omega arith
rank_most Kind.dec = omega arith
rank_most Kind.text = omega arith
rank_most Kind.list = omega arith
rank_most Kind.rec = omega arith

-- the kind at a place of the order
ranked : ℕ → Kind
ranked zero = Kind.null
ranked (suc zero) = Kind.bool
ranked (suc (suc zero)) = Kind.int
ranked (suc (suc (suc zero))) = Kind.dec
ranked (suc (suc (suc (suc zero)))) = Kind.text
ranked (suc (suc (suc (suc (suc zero))))) = Kind.list
ranked (suc (suc (suc (suc (suc (suc n)))))) = Kind.rec

ranked_rank : (k : Kind) → ranked (rank k) ≡ k
unfolding rank ranked
ranked_rank Kind.null = refl
ranked_rank Kind.bool = refl
ranked_rank Kind.int = refl
ranked_rank Kind.dec = refl
ranked_rank Kind.text = refl
ranked_rank Kind.list = refl
ranked_rank Kind.rec = refl

rank_injective : {j k : Kind} → rank j ≡ rank k → j ≡ k
rank_injective {j} {k} e = sym (ranked_rank j) ∙ ap ranked e ∙ ranked_rank k

among_first : (k : Kind) (ks : List Kind) → among k (k ∷ ks) ≡ true
unfolding among
among_first k ks = or_left (among k ks) (eq-eqb {m = rank k} refl)

among_later : (j k : Kind) (ks : List Kind) → (rank j ≡ rank k → ⊥) → among j (k ∷ ks) ≡ among j ks
unfolding among
among_later j k ks h = ap (λ b. b || among j ks) (ne_eqb h)

-- ---- kinds, one behind the other

-- behind the kinds ks, latest first, the words of kinds that may follow come, none below b; then the kinds are ls
pub data KindsOn : ℕ → List Kind → List Placed → List Kind → List Placed → Type 0 where
  kinds_end : {b : ℕ} {ks : List Kind} {ts : List Placed} → KindsOn b ks ts ks ts
  kinds_next
      : {b x : ℕ} {k : Kind} {ks ls : List Kind} {ts us : List Placed} → b ≤ rank k → may_follow ks k ≡ true
      → KindsOn (suc (rank k)) (k ∷ ks) ts ls us → KindsOn b ks (at x (word (kind_name k)) ∷ ts) ls us

-- the least rank that may follow
unfoldable pub bound : List Kind → ℕ
bound [] = 0
bound (k ∷ ks) = suc (rank k)

pub follow_bound : (ks : List Kind) (k : Kind) → may_follow ks k ≡ true → bound ks ≤ rank k
unfolding may_follow in_order bound
follow_bound [] k h = omega arith
follow_bound (j ∷ js) k h = ltb_lt (rank j) (rank k) (and_left (ltb (rank j) (rank k)) _ h)

-- a kind that was there stays
kinds_keep : {b : ℕ} {ks ls : List Kind} {ts us : List Placed} → KindsOn b ks ts ls us → (j : Kind) → among j ks ≡ true → among j ls ≡ true
unfolding among
kinds_keep kinds_end j h = h
kinds_keep (kinds_next {k = k} a f g) j h = kinds_keep g j (or_right (eqb (rank j) (rank k)) h)

-- a kind that is passed over does not come later
kinds_lack
    : {b : ℕ} {ks ls : List Kind} {ts us : List Placed} → KindsOn b ks ts ls us → (j : Kind) → rank j < b → among j ks ≡ false
    → among j ls ≡ false
kinds_lack kinds_end j h e = e
kinds_lack {ks = ks} (kinds_next {k = k} a f g) j h e =
    kinds_lack g j (let z : rank j < suc (rank k) = omega arith in z) (among_later j k ks (λ p. let z : ⊥ = omega arith in z) ∙ e)

-- "dec only together with int"
pub kinds_dec
    : {b : ℕ} {ks ls : List Kind} {ts us : List Placed} → KindsOn b ks ts ls us → (among Kind.dec ks ≡ true → among Kind.int ks ≡ true)
    → among Kind.dec ls ≡ true → among Kind.int ls ≡ true
unfolding may_follow among rank
kinds_dec kinds_end h = h
kinds_dec {ks = ks} (kinds_next {k = k} a f g) h = kinds_dec g (kept k f)
  where
    kept : (k : Kind) → may_follow ks k ≡ true → among Kind.dec (k ∷ ks) ≡ true → among Kind.int (k ∷ ks) ≡ true
    kept Kind.null f d = h d
    kept Kind.bool f d = h d
    kept Kind.int f d = refl
    kept Kind.dec f d = and_right (in_order ks Kind.dec) (among Kind.int ks) f
    kept Kind.text f d = h d
    kept Kind.list f d = h d
    kept Kind.rec f d = h d

-- ---- from words read to the kinds of a shape

-- the kinds from rank b on
data Run : ℕ → List Kind → Type 0 where
  run_end : Run 7 []
  run_more : {b : ℕ} {k : Kind} {ks : List Kind} → rank k ≡ b → Run (suc b) ks → Run b (k ∷ ks)

run_all : Run 0 all_kinds
unfolding all_kinds rank
run_all = run_more refl (run_more refl (run_more refl (run_more refl (run_more refl (run_more refl (run_more refl run_end))))))

at_or_above : {b c : ℕ} → b ≤ c → (c ≡ b) ⊎ (b < c)
at_or_above {b} {c} h = ⊎_elim inr (λ (t : c ≤ b). inl (omega arith)) (lt_or_le b c)

-- words read one behind the other are the words of a shape with these kinds
words_from
    : {b : ℕ} {js : List Kind} → Run b js → (s : Shape) {ks ls : List Kind} {ts us : List Placed} → KindsOn b ks ts ls us
    → ((j : Kind) → b ≤ rank j → among j ks ≡ false) → ((j : Kind) → has j s ≡ among j ls) → KindWords s js ts us
words_from run_end s kinds_end under same = no_kinds
words_from run_end s (kinds_next {k = k} a f g) under same = absurd (let y = rank_most k in let z : ⊥ = omega arith in z)
words_from (run_more {b = b} {k = j} {ks = js} e run) s kinds_end under same =
    lacks_kind (same j ∙ under j (omega arith)) (words_from run s kinds_end (λ i h. under i (omega arith)) same)
words_from (run_more {b = b} {k = j} {ks = js} e run) s {ks} {ls} {us = us} (kinds_next {x = x} {k = k} {ts = ts} a f g) under same =
    ⊎_elim
    (λ (h : rank k ≡ b).
    subst
    (λ i. KindWords s (j ∷ js) (at x (word (kind_name i)) ∷ ts) us)
    (rank_injective (e ∙ sym h))
    (has_kind
    (same j ∙ kinds_keep g j (subst (λ i. among j (i ∷ ks) ≡ true) (rank_injective (e ∙ sym h)) (among_first j ks)))
    (words_from
    run
    s
    (subst (λ c. KindsOn (suc c) (k ∷ ks) ts ls us) h g)
    (λ i q. among_later i k ks (λ p. let z : ⊥ = omega arith in z) ∙ under i (omega arith))
    same)))
    (λ (h : b < rank k).
    lacks_kind
    (same j ∙ kinds_lack g j (omega arith) (among_later j k ks (λ p. let z : ⊥ = omega arith in z) ∙ under j (omega arith)))
    (words_from run s (kinds_next h f g) (λ i q. under i (omega arith)) same))
    (at_or_above a)

-- words read from the start are the words of a shape with these kinds
pub kinds_words
    : (s : Shape) {ls : List Kind} {ts us : List Placed} → KindsOn 0 [] ts ls us → ((j : Kind) → has j s ≡ among j ls)
    → KindWords s all_kinds ts us
unfolding among
kinds_words s g same = words_from run_all s g (λ j h. refl) same

-- the numbers' kinds in what is read
pub numeric_int : (ls : List Kind) → (among Kind.dec ls ≡ true → among Kind.int ls ≡ true) → has_int (numeric_from ls) ≡ among Kind.int ls
unfolding numeric_from has_int
numeric_int ls h = go (among Kind.dec ls) (among Kind.int ls) h
  where
    go
        : (d i : Bool) → (d ≡ true → i ≡ true)
        → has_int (elim d [ true ↦ int_and_dec | false ↦ elim i [ true ↦ int_only | false ↦ no_number ] ]) ≡ i
    go true i h = sym (h refl)
    go false true h = refl
    go false false h = refl

pub numeric_dec : (ls : List Kind) → has_dec (numeric_from ls) ≡ among Kind.dec ls
unfolding numeric_from has_dec
numeric_dec ls = go (among Kind.dec ls) (among Kind.int ls)
  where
    go : (d i : Bool) → has_dec (elim d [ true ↦ int_and_dec | false ↦ elim i [ true ↦ int_only | false ↦ no_number ] ]) ≡ d
    go true i = refl
    go false true = refl
    go false false = refl

pub numeric_agrees : (ls : List Kind) (m : Numeric) → among Kind.dec ls ≡ has_dec m → among Kind.int ls ≡ has_int m → numeric_from ls ≡ m
unfolding numeric_from has_dec has_int
numeric_agrees ls no_number d i = rw (d, i, numeric_from)
numeric_agrees ls int_only d i = rw (d, i, numeric_from)
numeric_agrees ls int_and_dec d i = rw (d, numeric_from)

-- ---- from the kinds of a shape to words read

pub int_with_dec : (s : Shape) → has Kind.dec s ≡ true → has Kind.int s ≡ true
unfolding has has_dec has_int
int_with_dec (shape n b no_number t e r) h = h
int_with_dec (shape n b int_only t e r) h = refl
int_with_dec (shape n b int_and_dec t e r) h = refl

-- a kind of s may follow those of its kinds that have been read
may_follow_has
    : (s : Shape) (ks : List Kind) (k : Kind) → bound ks ≤ rank k → has k s ≡ true
    → ((j : Kind) → rank j < rank k → among j ks ≡ has j s) → may_follow ks k ≡ true
unfolding may_follow in_order bound rank
may_follow_has s ks k h f same = and_intro (ordered ks h) (only_dec k same f)
  where
    ordered : (ks : List Kind) → bound ks ≤ rank k → in_order ks k ≡ true
    ordered [] h = refl
    ordered (j ∷ js) h = lt-ltb (rank j) (rank k) h

    only_dec
        : (k : Kind) → ((j : Kind) → rank j < rank k → among j ks ≡ has j s) → has k s ≡ true
        → not (eqb (rank k) (rank Kind.dec)) || among Kind.int ks ≡ true
    only_dec Kind.null same f = refl
    only_dec Kind.bool same f = refl
    only_dec Kind.int same f = refl
    only_dec Kind.dec same f = same Kind.int (omega arith) ∙ int_with_dec s f
    only_dec Kind.text same f = refl
    only_dec Kind.list same f = refl
    only_dec Kind.rec same f = refl

-- what is read of the words of s behind the kinds ks
pub record Read (s : Shape) (ks : List Kind) (ts us : List Placed) : Type 0 where
  pub kinds : List Kind
  pub chain : KindsOn (bound ks) ks ts kinds us
  pub agrees : (k : Kind) → among k kinds ≡ has k s

words_to
    : {b : ℕ} {js : List Kind} → Run b js → {s : Shape} {ts us : List Placed} → KindWords s js ts us → (ks : List Kind)
    → bound ks ≤ b → ((k : Kind) → rank k < b → among k ks ≡ has k s) → ((k : Kind) → b ≤ rank k → among k ks ≡ false)
    → Read s ks ts us
unfolding bound
words_to run_end no_kinds ks h same under =
    record { kinds = ks; chain = kinds_end; agrees = λ k. same k (let z = rank_most k in omega arith) }
words_to (run_more {b = b} e run) {s} (has_kind {k = j} {ts = ts} f g) ks h same under =
    let r =
    words_to
    run
    g
    (j ∷ ks)
    (omega arith)
    (λ k q.
    ⊎_elim
    (λ (p : rank j ≡ rank k). subst (λ i. among i (j ∷ ks) ≡ has i s) (rank_injective p) (among_first j ks ∙ sym f))
    (λ (p : rank k < rank j). among_later k j ks (λ y. let z : ⊥ = omega arith in z) ∙ same k (omega arith))
    (at_or_above {b = rank k} {c = rank j} (omega arith)))
    (λ k q. among_later k j ks (λ p. let z : ⊥ = omega arith in z) ∙ under k (omega arith))
    in
    record {
      kinds = r.kinds;
      chain = kinds_next {b = bound ks} {k = j} (omega arith) (may_follow_has s ks j (omega arith) f (λ k q. same k (omega arith))) r.chain;
      agrees = r.agrees;
    }
words_to (run_more {b = b} e run) {s} (lacks_kind {k = j} f g) ks h same under =
    words_to
    run
    g
    ks
    (omega arith)
    (λ k q.
    ⊎_elim
    (λ (p : rank j ≡ rank k). subst (λ i. among i ks ≡ has i s) (rank_injective p) (under j (omega arith) ∙ sym f))
    (λ (p : rank k < rank j). same k (omega arith))
    (at_or_above {b = rank k} {c = rank j} (omega arith)))
    (λ k q. under k (omega arith))

-- the words of a shape's kinds are read one behind the other
pub words_kinds : (s : Shape) {ts us : List Placed} → KindWords s all_kinds ts us → Read s [] ts us
unfolding bound among
words_kinds s g = words_to run_all g [] (omega arith) (λ k q. absurd (let z : ⊥ = omega arith in z)) (λ k q. refl)
