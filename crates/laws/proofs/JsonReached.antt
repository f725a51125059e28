-- What a scan has read in each state, said by the grammar: the beginning of a JSON text; and what each move tells of it.
-- Assumes nothing.
use Rattle.std.specs.Prelude.{ℕ, suc, ◌+◌, ◌<◌, ◌≡◌, true, [], ◌∷◌, ◌++◌, length}
use Rattle.std.proofs.Math.Option.{none}
use Rattle.definitions.specs.Bytes.{Bytes, look}
use Rattle.definitions.specs.Text.{Inside}
use Rattle.definitions.specs.Number.{Numeral, no_digits, Phase, begin, next, complete}
use Rattle.definitions.specs.Value.{size}
use Rattle.definitions.specs.Json.{Gap, Role, State, put, Move}
use Rattle.laws.specs.Tree.{Tree, no_trees, Named, no_named, meaning, meaning_named}
use Rattle.laws.specs.Rfc8259 as Rfc
use Rattle.laws.specs.Rfc8259.{ws_char, ws, JSONText}
use Rattle.laws.specs.Steps.{TextSteps, NumberSteps}
use Rattle.laws.specs.Causes.{Context, in_array, Before, BeforeName, begun}
use Rattle.laws.proofs.JsonContext.{opened, begun_named}

-- ---- what has been read

-- in s, where r is left, the scan is in this state: n values are begun, and the number or name that is being read began at kept
pub data Reached (s : Bytes) : ℕ → Bytes → State → Bytes → Type 0 where
  at_value
      : {n : ℕ} {kept r : Bytes} {k : Context} → Before s k r → n ≡ begun k
      → Reached s n kept (State.gap (Gap.value (opened k))) r
  at_item
      : {n : ℕ} {kept r : Bytes} {k : Context} → Before s (in_array no_trees k) r → n ≡ begun (in_array no_trees k)
      → Reached s n kept (State.gap (Gap.first_item (opened k))) r
  at_name
      : {n : ℕ} {kept r : Bytes} {k : Context} → BeforeName s no_named k r → n ≡ begun_named no_named k
      → Reached s n kept (State.gap (Gap.first_name (opened k))) r
  at_next
      : {n : ℕ} {kept r : Bytes} {ns : Named} {k : Context} → BeforeName s ns k r → n ≡ begun_named ns k
      → Reached s n kept (State.gap (Gap.next_name (meaning_named ns) (opened k))) r
  at_colon
      : {n : ℕ} {kept t u m r : Bytes} {ns : Named} {k : Context} → BeforeName s ns k t → Rfc.string t m u → ws u r
      → n ≡ begun_named ns k
      → Reached s n kept (State.gap (Gap.colon (meaning_named ns) m (opened k))) r
  at_behind
      : {n : ℕ} {kept t u r : Bytes} {x : Tree} {k : Context} → Before s k t → Rfc.value t x u → ws u r
      → n ≡ begun k + size (meaning x)
      → Reached s n kept (State.gap (put (meaning x) (opened k))) r
  in_string
      : {n : ℕ} {kept t xs r acc : Bytes} {i : Inside} {k : Context} → Before s k t → t ≡ 0x22 ∷ (xs ++ r)
      → TextSteps Inside.chars [] xs i acc
      → n ≡ suc (begun k) → Reached s n kept (State.in_text (Role.as_value (opened k)) i acc) r
  in_name
      : {n : ℕ} {kept xs r acc : Bytes} {i : Inside} {ns : Named} {k : Context} → BeforeName s ns k kept
      → kept ≡ 0x22 ∷ (xs ++ r)
      → TextSteps Inside.chars [] xs i acc → n ≡ begun_named ns k
      → Reached s n kept (State.in_text (Role.as_name (meaning_named ns) (opened k)) i acc) r
  in_digits
      : {n b : ℕ} {kept xs r : Bytes} {p : Phase} {d : Numeral} {k : Context} → Before s k kept → kept ≡ b ∷ (xs ++ r)
      → NumberSteps begin no_digits (b ∷ xs) p d → n ≡ suc (begun k) → Reached s n kept (State.in_number p d (opened k)) r
  in_word
      : {n c : ℕ} {kept t cs r : Bytes} {x : Tree} {k : Context} → Before s k t
      → ((w : Bytes) → r ≡ c ∷ (cs ++ w) → Rfc.value t x w)
      → n ≡ suc (begun k) → size (meaning x) ≡ 1 → Reached s n kept (State.in_literal c cs (meaning x) (opened k)) r

-- a text that begins with a byte that begins some value
pub record Starts (r : Bytes) : Type 0 where
  pub first : ℕ
  pub others : Bytes
  pub split : r ≡ first ∷ others
  pub no_space : ws_char first → ⊥
  pub rest : Bytes
  pub tree : Tree
  pub behind : Bytes
  pub begins : Rfc.value (first ∷ rest) tree behind

-- what a move at `here` tells of what has been read, and of the state behind it at r
pub data Sound (s : Bytes) (n : ℕ) (kept here r : Bytes) : Move → Type 0 where
  broken_so : Sound s n kept here r Move.broken
  broken_number_so
      : {k : Context} → Before s k kept → n ≡ suc (begun k) → Starts kept → length here < length kept
      → Sound s n kept here r (Move.broken_number (opened k))
  goes : {q : State} → Reached s n kept q r → Sound s n kept here r (Move.go q)
  begins_value
      : {k : Context} {q : State} → Before s k here → n ≡ begun k → Starts here → Reached s (suc n) kept q r
      → Sound s n kept here r (Move.begin_value (opened k) q)
  begins_number : {q : State} → Reached s (suc n) here q r → Sound s n kept here r (Move.begin_number q)
  begins_name : {q : State} → Reached s n here q r → Sound s n kept here r (Move.begin_name q)
  ends_name
      : {ns : Named} {k : Context} {t : Bytes} {q : State} → BeforeName s ns k kept → Rfc.string kept t r
      → Reached s n kept q r
      → Sound s n kept here r (Move.end_name t (meaning_named ns) q)
  ends_number
      : {k : Context} {p : Phase} {d : Numeral} {m : Move} → Before s k kept → n ≡ suc (begun k) → Starts kept
      → length here < length kept → (run : Bytes) → kept ≡ run ++ here
      → NumberSteps begin no_digits run p d → complete p ≡ true
      → ((b : ℕ) (w : Bytes) → here ≡ b ∷ w → look (next p) b ≡ none)
      → Sound s n kept here r m → Sound s n kept here r (Move.end_number d (opened k) m)
  ends_text : {x : Tree} → here ≡ [] → JSONText s x → Sound s n kept here r (Move.end_text (meaning x))
