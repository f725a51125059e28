-- What reading comes to is told by the grammar: a document is a JSON text with this meaning, and a refusal has its cause at
-- its place. Assumes nothing.
use Rattle.std.specs.Prelude.{ℕ, suc, ◌<◌, ◌≡◌, refl, ◌⊎◌, Bool, true, false, [], ◌∷◌, ◌++◌, ltb, length}
use Rattle.std.proofs.Common.{sym, ◌∙◌, ap, subst, inl, inr, append_assoc}
use Rattle.std.proofs.Math.Option.{none, some, none-ne-some}
use Rattle.definitions.specs.declared.Limits.{Limits}
use Rattle.definitions.specs.Bytes.{Bytes, look}
use Rattle.definitions.specs.Outcome.{Outcome, ok, refused}
use Rattle.definitions.specs.Number.{Numeral, no_digits, beyond, Phase, begin, next, complete}
use Rattle.definitions.specs.Value.{Value, has_name}
use Rattle.definitions.specs.Json.{State, Move, end_move, depth, full, judge, scan}
use Rattle.laws.specs.Bools.{or_cases}
use Rattle.laws.specs.Tree.{Tree, meaning, meaning_named}
use Rattle.laws.specs.Rfc8259 as Rfc
use Rattle.laws.specs.Rfc8259.{JSONText}
use Rattle.laws.specs.Steps.{NumberSteps}
use Rattle.laws.proofs.NumberTokens.{number_sound, number_longest}
use Rattle.laws.specs.Ranges.{leb_le}
use Rattle.laws.specs.Causes.{Context, Before, begun, open_around, Breaks, at_byte, at_end, Beyond, Full, Cause, cause_3, cause_4, cause_5, cause_6}
use Rattle.laws.specs.JsonMoves.{after, ending, Walk, stay, step, walk_append}
use Rattle.laws.proofs.JsonContext.{opened, depth_opened}
use Rattle.laws.proofs.JsonReached.{Reached, Starts, Sound, broken_so, broken_number_so, goes, begins_value}
use Rattle.laws.proofs.JsonReached.{begins_number, begins_name, ends_name, ends_number, ends_text}
use Rattle.laws.proofs.JsonSound.{move_sound, end_sound}
use Rattle.laws.proofs.JsonLive.{start, start_reached, walk_begins, walk_breaks, walk_unfinished}

-- ---- causes from what has been read

-- a value begun where it is one too many or too deep
full_cause
    : {l : Limits} {s r : Bytes} {n : ℕ} {k : Context} → Before s k r → n ≡ suc (begun k) → Starts r
    → full l n (opened k) ≡ true → Full l s r
unfolding full
full_cause {l} {n} {k} f e a h =
    record {
      context = k;
      before = f;
      first = a.first;
      others = a.others;
      split = a.split;
      no_space = a.no_space;
      rest = a.rest;
      tree = a.tree;
      behind = a.behind;
      begins = a.begins;
      over = over (or_cases (ltb l.values n) (ltb l.nesting (suc (depth (opened k)))) h);
    }
  where
    over
        : (ltb l.values n ≡ true) ⊎ (ltb l.nesting (suc (depth (opened k))) ≡ true)
        → (l.values < suc (begun k)) ⊎ (l.nesting < suc (open_around k))
    over (inl g) = inl (leb_le (subst (λ (z : ℕ). ltb l.values z ≡ true) e g))
    over (inr g) = inr (leb_le (subst (λ (z : ℕ). ltb l.nesting (suc z) ≡ true) (depth_opened k) g))

-- a complete number that is too large
beyond_cause
    : {s r here run : Bytes} {p : Phase} {d : Numeral} {k : Context} → Before s k r → r ≡ run ++ here
    → NumberSteps begin no_digits run p d → complete p ≡ true
    → ((b : ℕ) (w : Bytes) → here ≡ b ∷ w → look (next p) b ≡ none) → beyond d ≡ true → Beyond s r
beyond_cause {here} {run} {d} {k} f e g c h o =
    record {
      context = k;
      before = f;
      run = run;
      behind = here;
      digits = d;
      split = e;
      complete = subst (λ (z : Bytes). Rfc.number z d here) (sym e) (number_sound g c here);
      longest = λ b w y d' c' u n y'. number_longest g b (h b w y) c' u d' n y';
      over = o;
    }

-- ---- what reading comes to

-- what an outcome tells of s
pub data Told (l : Limits) (s : Bytes) : Outcome Bytes Value → Type 0 where
  accepts : {x : Tree} → JSONText s x → Told l s (ok (meaning x))
  refuses : {n : ℕ} {r : Bytes} (pre : Bytes) → s ≡ pre ++ r → Cause l s n (length pre) → Told l s (refused n r)

-- what is left of s somewhere
abbrev Left : Bytes → Bytes → Type 0
Left s r = (pre : Bytes) × (s ≡ pre ++ r)

refuses_3 : {l : Limits} {s : Bytes} (pre r : Bytes) → s ≡ pre ++ r → Breaks pre r → Told l s (refused 3 r)
refuses_3 pre r e b = refuses pre e (cause_3 pre r e b)

-- a move that tells what has been read, judged
judge_told
    : {s kept here r : Bytes} {n : ℕ} {m : Move} (l : Limits) (pre : Bytes) (f : ℕ → Bytes → State → Outcome Bytes Value)
    → Sound s n kept here r m
    → Left s kept → s ≡ pre ++ here → (after m ≡ none → ending m ≡ none → Told l s (refused 3 here))
    → ((n : ℕ) (kept : Bytes) (q : State) → Reached s n kept q r → after m ≡ some q → Left s kept → Told l s (f n kept q))
    → Told l s (judge l n kept here m f)
unfolding judge after ending
judge_told l pre f broken_so k e brk on = brk refl refl
judge_told {s} {kept} {here} {n} l pre f (broken_number_so {k = c} b g a later) (p, h) e brk on =
    at (full l n (opened c)) refl
  where
    at : (z : Bool) → full l n (opened c) ≡ z → Told l s (elim z [ true ↦ refused 6 kept | false ↦ refused 3 here ])
    at true y = refuses p h (cause_6 p kept h (full_cause b g a y))
    at false y = brk refl refl
judge_told {kept} {n} l pre f (goes {q} x) k e brk on = on n kept q x refl k
judge_told {s} {kept} {here} {n} l pre f (begins_value {k = c} {q} b g a x) k e brk on = at (full l (suc n) (opened c)) refl
  where
    at : (z : Bool) → full l (suc n) (opened c) ≡ z → Told l s (elim z [ true ↦ refused 6 here | false ↦ f (suc n) kept q ])
    at true y = refuses pre e (cause_6 pre here e (full_cause b (ap suc g) a y))
    at false y = on (suc n) kept q x refl k
judge_told {here} {n} l pre f (begins_number {q} x) k e brk on = on (suc n) here q x refl (pre, e)
judge_told {here} {n} l pre f (begins_name {q} x) k e brk on = on n here q x refl (pre, e)
judge_told {s} {kept} {r} {n} l pre f (ends_name {ns} {k = c} {t} {q} b a x) (p, h) e brk on =
    at (has_name t (meaning_named ns)) refl
  where
    at : (z : Bool) → has_name t (meaning_named ns) ≡ z → Told l s (elim z [ true ↦ refused 5 kept | false ↦ f n kept q ])
    at true y =
        refuses p h
        (cause_5 p kept h
        (record { context = c; members = ns; before = b; name = t; behind = r; complete = a; listed = y }))
    at false y = on n kept q x refl (p, h)
judge_told {s} {kept} {here} {n} l pre f (ends_number {k = c} {d} {m} b g a later run y steps full_run none_next x)
    (p, h) e brk on =
    at (beyond d) refl (full l n (opened c)) refl (judge_told l pre f x (p, h) e brk on)
  where
    at
        : (z : Bool) → beyond d ≡ z → (w : Bool) → full l n (opened c) ≡ w → Told l s (judge l n kept here m f)
        → Told l s
        (elim z [ true ↦ refused 4 kept | false ↦ elim w [ true ↦ refused 6 kept | false ↦ judge l n kept here m f ] ])
    at true o w u t = refuses p h (cause_4 p kept h (beyond_cause b y steps full_run none_next o))
    at false o true u t = refuses p h (cause_6 p kept h (full_cause b g a u))
    at false o false u t = t
judge_told l pre f (ends_text x t) k e brk on = accepts t

-- a move that goes on ends nothing
after_ending : {q : State} (m : Move) → after m ≡ some q → ending m ≡ none
unfolding after ending
after_ending {q} Move.broken e = refl
after_ending {q} (Move.broken_number o) e = refl
after_ending (Move.go p) e = refl
after_ending (Move.begin_value o p) e = refl
after_ending (Move.begin_number p) e = refl
after_ending (Move.begin_name p) e = refl
after_ending (Move.end_name t ms p) e = refl
after_ending (Move.end_number d o m) e = after_ending m e
after_ending {q} (Move.end_text v) e = absurd (none-ne-some q e)

one_more : {s : Bytes} (pre : Bytes) (b : ℕ) (r : Bytes) → s ≡ pre ++ b ∷ r → s ≡ (pre ++ b ∷ []) ++ r
one_more pre b r e = e ∙ sym (append_assoc pre (b ∷ []) r)

-- from any state that a scan reaches
scan_told
    : {s kept : Bytes} {n : ℕ} {q : State} (l : Limits) (pre r : Bytes) → s ≡ pre ++ r → Walk start pre q → Left s kept
    → Reached s n kept q r
    → Told l s (scan l n kept q r)
unfolding scan
scan_told {s} {q} l pre [] e w k x =
    judge_told l pre (λ n kept q. refused 3 []) (end_sound x) k e (λ a h. ended h)
    (λ n kept p y a h. ended (after_ending (end_move q) a))
  where
    ended : ending (end_move q) ≡ none → Told l s (refused 3 [])
    ended h = refuses_3 pre [] e (at_end (walk_begins w) (walk_unfinished w h))
scan_told {q} l pre (b ∷ r) e w k x =
    judge_told l pre (λ n kept q. scan l n kept q r) (move_sound x) k e
    (λ a h. refuses_3 pre (b ∷ r) e (at_byte (walk_begins w) (walk_breaks b w a)))
    (λ n kept p y a h. scan_told l (pre ++ b ∷ []) r (one_more pre b r e) (walk_append w (step a stay)) h y)

-- a whole text
pub json_told : (l : Limits) (s : Bytes) → Told l s (scan l 0 s start s)
json_told l s = scan_told l [] s refl stay ([], refl) (start_reached s)
