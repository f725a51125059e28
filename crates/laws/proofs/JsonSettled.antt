-- A cause of refusals 4 to 6 settles what reading comes to: a refusal there with no larger number, or one before.
-- Assumes nothing.
use Rattle.std.specs.Prelude.{ℕ, suc, ◌<◌, ◌≤◌, ◌≡◌, ◌⊎◌, Bool, true, false, ◌||◌, ltb, length}
use Rattle.std.proofs.Common.{zero-le, le_refl, sym, ◌∙◌, subst, inl, inr, lit≤}
use Rattle.std.proofs.Math.Path.{refl}
use Rattle.std.proofs.lemmas.Bool.{false≢true}
use mathlib.Core.List.{[], ◌∷◌, ◌++◌, append-nil, append_cancel_right, head-eq_of_cons-eq}
use Rattle.std.proofs.Math.Option.{Option, none, some}
use Rattle.definitions.specs.declared.Limits.{Limits}
use Rattle.definitions.specs.Bytes.{Bytes, bytes, between, look, is, white, white_table, found}
use Rattle.definitions.specs.Outcome.{Outcome, refused}
use Rattle.definitions.specs.Number.{Numeral, no_digits, beyond, number_of, Phase, begin, next, complete, extend}
use Rattle.definitions.specs.Value.{Value}
use Rattle.definitions.specs.Json.{Open, Gap, State, put, Move, spell, true_name, false_name, null_name, value_rows}
use Rattle.definitions.specs.Json.{value_move, gap_move, gap_end, number_end, move, end_move, depth, full}
use Rattle.laws.specs.Bools.{or_left, or_right}
use Rattle.laws.specs.Tree.{Tree, meaning_named}
use Rattle.laws.specs.Rfc8259 as Rfc
use Rattle.laws.specs.Rfc8259.{ws_char, ws, ws_none, ws_more, char_of}
use Rattle.laws.specs.Steps.{NumberSteps, number_stay, number_then, number_steps_append}
use Rattle.laws.proofs.NumberTokens.{number_steps, number_sound, number_live, number_first}
use Rattle.laws.specs.Ranges.{le-leb}
use Rattle.laws.specs.Causes.{Context, begun, open_around, Beyond, Again, Full}
use Rattle.laws.proofs.JsonBytes.{pick_true}
use Rattle.laws.specs.JsonMoves.{Tests, limited, judge_by, scan_by}
use Rattle.laws.proofs.JsonContext.{opened, depth_opened, begun_named}
use Rattle.laws.proofs.JsonRuns.{Takes, takes_byte, takes_digit, move_run, name_run}
use Rattle.laws.proofs.JsonEnds.{arrives, halts}
use Rattle.laws.proofs.JsonForward.{number_judged}
use Rattle.laws.proofs.JsonLive.{start}
use Rattle.laws.proofs.JsonBefore.{await, await_takes, await_name, await_names, Comes, before_comes, name_comes}

-- ---- settled

-- an outcome is a refusal at r with a number up to m, or one before r
pub data Settled (r : Bytes) (m : ℕ) : Outcome Bytes Value → Type 0 where
  there : {a : Outcome Bytes Value} (n : ℕ) → a ≡ refused n r → n ≤ m → Settled r m a
  before : {a : Outcome Bytes Value} (n : ℕ) (w : Bytes) → a ≡ refused n w → length r < length w → Settled r m a

-- a scan that is refused at r once it comes there
settle
    : (j : Tests) (s r : Bytes) (i : ℕ) (g : Gap) (m : ℕ) → Comes j s i g r
    → ((kept : Bytes) → (n : ℕ) × (scan_by j i kept (State.gap g) r ≡ refused n r) × (n ≤ m))
    → Settled r m (scan_by j 0 s start s)
settle j s r i g m (true, arrives kept e) h = let (n, f, k) = h kept in there n (e ∙ f) k
settle j s r i g m (false, halts n w e k) h = before n w e k

-- ---- 4

-- behind a number that no longer one begins with, no byte goes on with it
run_ends
    : {run : Bytes} {p : Phase} {d : Numeral} (b : ℕ) → NumberSteps begin no_digits run p d → complete p ≡ true
    → ((f : Numeral) (c u : Bytes) → Rfc.number (run ++ b ∷ c) f u → length u ≤ length c → ⊥) → look (next p) b ≡ none
unfolding complete
run_ends b number_stay c h = absurd (false≢true c)
run_ends {p} {d} b (number_then {xs} {b = a} e f) c h = at (look (next p) b) refl
  where
    longer
        : {q : Phase} → look (next p) b ≡ some q
        → (ys : Bytes) × (u : Phase) × (k : Numeral) × NumberSteps q (extend q d b) ys u k × (complete u ≡ true) → ⊥
    longer g (ys, u, k, more, y) =
        h k ys []
        (subst (λ (z : Bytes). Rfc.number z k []) (append-nil (a ∷ (xs ++ b ∷ ys)))
        (number_sound (number_steps_append (number_then e f) (number_then g more)) y [])) zero-le

    at : (z : Option Phase) → look (next p) b ≡ z → look (next p) b ≡ none
    at none g = g
    at (some q) g = absurd (longer g (number_live (number_steps_append (number_then e f) (number_then g number_stay))))

pub beyond_settled : {s r : Bytes} (l : Limits) → Beyond s r → Settled r 4 (scan_by (limited l) 0 s start s)
unfolding limited
beyond_settled {s} {r} l c =
    let k = c.context in
    let (xs, p, e, f, y) = number_steps c.complete in
    let same : xs ≡ c.run = append_cancel_right xs c.run c.behind (sym e ∙ c.split) in
    let ends : (b : ℕ) (w : Bytes) → c.behind ≡ b ∷ w → look (next p) b ≡ none =
    λ b w z. run_ends b f y
    (λ g v u a x. c.longest b w z g v u (subst (λ (q : Bytes). Rfc.number (q ++ b ∷ v) g u) same a) x) in
    settle (limited l) s r (begun k) (await k) 4 (before_comes (limited l) c.before)
    (λ kept. (
      4,
      number_judged (limited l) (await k) (opened k) (begun k) kept c.behind e f y ends (await_takes k)
          ∙ pick_true (refused 4 r) _ c.over,
      le_refl 4,
    ))

-- ---- 5

pub again_settled : {s r : Bytes} (l : Limits) → Again s r → Settled r 5 (scan_by (limited l) 0 s start s)
unfolding limited
again_settled {s} {r} l c =
    let k = c.context in
    let ns = c.members in
    let m = begun_named ns k in
    settle (limited l) s r m (await_name ns k) 5 (name_comes (limited l) c.before)
    (λ kept. (
      5,
      name_run (limited l) m kept (await_name ns k) (meaning_named ns) (opened k) c.complete (await_names ns k)
          ∙ pick_true (refused 5 r) _ c.listed,
      le_refl 5,
    ))

-- ---- 6

-- a refusal at r with a number up to 6
abbrev Stopped : Bytes → Outcome Bytes Value → Type 0
Stopped r a = (i : ℕ) × (a ≡ refused i r) × (i ≤ 6)

-- a test that stops with 6
stop_if : (r : Bytes) (f : Bool) (a : Outcome Bytes Value) → f ≡ true → Stopped r (elim f [ true ↦ refused 6 r | false ↦ a ])
stop_if r true a e = (6, refl, le_refl 6)
stop_if r false a e = absurd (false≢true e)

-- behind the longest run of a number that is one too many or too deep
number_end_full
    : (l : Limits) (n : ℕ) (kept s : Bytes) (p : Phase) (d : Numeral) (o : Open) (behind : Gap → Move)
    (f : ℕ → Bytes → State → Outcome Bytes Value)
    → full l n o ≡ true → Stopped kept (judge_by (limited l) n kept s (number_end p d o behind) f)
unfolding number_end judge_by limited
number_end_full l n kept s p d o behind f e = ended (complete p)
  where
    m : Move
    m = behind (put (Value.number (number_of d)) o)

    large
        : (z : Bool)
        → Stopped kept
        (elim z [
          | true ↦ refused 4 kept
          | false ↦ elim (full l n o) [ true ↦ refused 6 kept | false ↦ judge_by (limited l) n kept s m f ]
        ])
    large true = (4, refl, lit≤ tt)
    large false = stop_if kept (full l n o) (judge_by (limited l) n kept s m f) e

    ended
        : (z : Bool)
        → Stopped kept
        (judge_by (limited l) n kept s (elim z [ true ↦ Move.end_number d o m | false ↦ Move.broken_number o ]) f)
    ended true = large (beyond d)
    ended false = stop_if kept (full l n o) (refused 3 s) e

-- such a number is 4 or 6, however it goes on
number_full
    : (l : Limits) (n : ℕ) (kept : Bytes) (p : Phase) (d : Numeral) (o : Open) → full l n o ≡ true → (s : Bytes)
    → Stopped kept (scan_by (limited l) n kept (State.in_number p d o) s)
unfolding scan_by move end_move judge_by
number_full l n kept p d o e [] = number_end_full l n kept [] p d o gap_end (λ n' kept' q'. refused 3 []) e
number_full l n kept p d o e (b ∷ r) = at (look (next p) b) (λ q. number_full l n kept q (extend q d b) o e r)
  where
    at
        : (z : Option Phase)
        → ((q : Phase) → Stopped kept (scan_by (limited l) n kept (State.in_number q (extend q d b) o) r))
        → Stopped kept
        (judge_by (limited l) n kept (b ∷ r)
        (elim z [ some q ↦ Move.go (State.in_number q (extend q d b) o) | none ↦ number_end p d o (λ g. gap_move g b) ])
        (λ n' kept' q'. scan_by (limited l) n' kept' q' r))
    at none on =
        number_end_full l n kept (b ∷ r) p d o (λ g. gap_move g b) (λ n' kept' q'. scan_by (limited l) n' kept' q' r) e
    at (some q) on = on q

-- the bytes that begin a value
data Opens : ℕ → Type 0 where
  quote : Opens 0x22
  bracket : Opens 0x5B
  brace : Opens 0x7B
  letter_t : Opens 0x74
  letter_f : Opens 0x66
  letter_n : Opens 0x6E
  digit : {b : ℕ} {p : Phase} → look (next begin) b ≡ some p → Opens b

ws_opens : {b c : ℕ} {s r : Bytes} → ws (b ∷ s) (c ∷ r) → (ws_char b → ⊥) → Opens c → Opens b
ws_opens ws_none h o = o
ws_opens (ws_more c w) h o = absurd (h c)

value_opens : {b : ℕ} {s r : Bytes} {x : Tree} → Rfc.value (b ∷ s) x r → (ws_char b → ⊥) → Opens b
value_opens Rfc.is_false h = letter_f
value_opens Rfc.is_null h = letter_n
value_opens Rfc.is_true h = letter_t
value_opens (Rfc.is_object (Rfc.empty_object (char_of v w) e)) h = ws_opens v h brace
value_opens (Rfc.is_object (Rfc.members (char_of v w) m ms e)) h = ws_opens v h brace
value_opens (Rfc.is_array (Rfc.empty_array (char_of v w) e)) h = ws_opens v h bracket
value_opens (Rfc.is_array (Rfc.values (char_of v w) x xs e)) h = ws_opens v h bracket
value_opens (Rfc.is_number a) h =
    let (c, s', p, e, f) = number_first a in
    digit (subst (λ (z : ℕ). look (next begin) z ≡ some p) (sym (head-eq_of_cons-eq e)) f)
value_opens (Rfc.is_string (Rfc.quoted c)) h = quote

module _ (l : Limits) (n : ℕ) (kept : Bytes) (g : Gap) (o : Open) (t : Bytes) (k : Takes g o)
    (e : full l (suc n) o ≡ true) where
  value_full
      : {q : State} (b : ℕ) → gap_move g b ≡ Move.begin_value o q
      → Stopped (b ∷ t) (scan_by (limited l) n kept (State.gap g) (b ∷ t))
  unfolding judge_by limited move
  value_full {q} b f =
      let (i, h, m) = stop_if (b ∷ t) (full l (suc n) o) (scan_by (limited l) (suc n) kept q t) e in
      (i, move_run (limited l) n kept (State.gap g) b t f ∙ h, m)

  opens_full : {b : ℕ} → Opens b → Stopped (b ∷ t) (scan_by (limited l) n kept (State.gap g) (b ∷ t))
  unfolding white white_table found look between is value_move value_rows spell bytes true_name false_name null_name judge_by
      move
  opens_full quote = value_full 0x22 (takes_byte g o 0x22 k refl refl)
  opens_full bracket = value_full 0x5B (takes_byte g o 0x5B k refl refl)
  opens_full brace = value_full 0x7B (takes_byte g o 0x7B k refl refl)
  opens_full letter_t = value_full 0x74 (takes_byte g o 0x74 k refl refl)
  opens_full letter_f = value_full 0x66 (takes_byte g o 0x66 k refl refl)
  opens_full letter_n = value_full 0x6E (takes_byte g o 0x6E k refl refl)
  opens_full (digit {b} {p} f) =
      let (i, h, m) = number_full l (suc n) (b ∷ t) p (extend p no_digits b) o e t in
      (i, move_run (limited l) n kept (State.gap g) b t (takes_digit g o b k f) ∙ h, m)

over_full
    : (l : Limits) (k : Context) → (l.values < suc (begun k)) ⊎ (l.nesting < suc (open_around k))
    → full l (suc (begun k)) (opened k) ≡ true
unfolding full
over_full l k h = at h
  where
    at
        : (l.values < suc (begun k)) ⊎ (l.nesting < suc (open_around k))
        → (ltb l.values (suc (begun k)) || ltb l.nesting (suc (depth (opened k)))) ≡ true
    at (inl g) = or_left (ltb l.nesting (suc (depth (opened k)))) (le-leb g)
    at (inr g) =
        or_right (ltb l.values (suc (begun k)))
        (subst (λ (z : ℕ). ltb l.nesting (suc z) ≡ true) (sym (depth_opened k)) (le-leb g))

pub full_settled : {s r : Bytes} (l : Limits) → Full l s r → Settled r 6 (scan_by (limited l) 0 s start s)
full_settled {s} {r} l c =
    let k = c.context in
    settle (limited l) s r (begun k) (await k) 6 (before_comes (limited l) c.before)
    (λ kept.
    subst (λ (z : Bytes). Stopped z (scan_by (limited l) (begun k) kept (State.gap (await k)) z)) (sym c.split)
    (opens_full l (begun k) kept (await k) (opened k) c.others (await_takes k) (over_full l k c.over)
    (value_opens c.begins c.no_space)))
