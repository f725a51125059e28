-- Whatever a scan has read, some JSON text begins with it; and where a scan breaks, none goes on. Assumes nothing.
use Rattle.std.specs.Prelude.{ℕ, suc, ◌+◌, ◌≡◌, refl, true}
use Rattle.std.proofs.Common.{sym, ◌∙◌, ap, subst}
use mathlib.Core.List.{[], ◌∷◌, ◌++◌, append-nil, append_assoc, cons≢nil, reverse}
use Rattle.std.proofs.Math.Option.{none, some, none-ne-some, some-ne-none, some-injective}
use Rattle.definitions.specs.Bytes.{Bytes, between, look, is, white, white_table, found}
use Rattle.definitions.specs.Outcome.{Outcome, ok, refused}
use Rattle.definitions.specs.Text.{Inside, TextMove, text_step, char_step}
use Rattle.definitions.specs.Number.{Numeral, number_of, Phase, complete}
use Rattle.definitions.specs.Value.{Value, Items, no_items, item, items_onto, Members, no_members, member, members_onto, size}
use Rattle.definitions.specs.Json.{Open, root, in_list, in_rec, Gap, Role, State, put, Move, spell, value_rows}
use Rattle.definitions.specs.Json.{value_move, token_move, gap_move, close_move, text_move, move, end_move, gap_end}
use Rattle.laws.specs.Bools.{and_intro}
use Rattle.laws.specs.Tree.{Tree, Trees, no_trees, tree, Named, no_named, named, meaning, meaning_named}
use Rattle.laws.specs.Rfc8259.{ws_char, ws_none, JSONText}
use Rattle.laws.specs.Steps.{TextSteps, text_stay, text_then, NumberSteps, number_stay, number_then}
use Rattle.laws.specs.Causes.{top, Before, begun, Begins}
use Rattle.laws.proofs.StringTokens.{string_live}
use Rattle.laws.proofs.NumberTokens.{number_live}
use Rattle.laws.specs.JsonMoves.{free, ok≢refused, judge_by, scan_by, after, ending, Walk, stay, step, walk_append}
use Rattle.laws.proofs.JsonContext.{opened}
use Rattle.laws.proofs.JsonReached.{Reached, at_value, at_item, at_name, at_next, at_colon, at_behind, in_string, in_name, in_digits, in_word, Sound}
use Rattle.laws.proofs.JsonReached.{broken_so, broken_number_so, goes, begins_value, begins_number, begins_name, ends_name, ends_number, ends_text}
use Rattle.laws.proofs.JsonSound.{move_sound, end_sound}
use Rattle.laws.proofs.JsonRuns.{bracket_first, bracket_after, brace_after, colon_name, Names, names_first}
use Rattle.laws.proofs.JsonRuns.{names_next, space_stops, space_move, number_next, number_behind, word_next}
use Rattle.laws.proofs.JsonEnds.{fit, fit_trees, fit_named, ends_arrive}
use Rattle.laws.proofs.JsonForward.{text_forward}

-- ---- a way to the end

-- from this state some bytes lead to the end of a document
abbrev Live : State → Type 0
Live q = (ys : Bytes) × (v : Value) × Walk q ys (State.gap (Gap.whole v))

live_step : {p q : State} (b : ℕ) → after (move p b) ≡ some q → Live q → Live p
live_step b e (ys, v, f) = (b ∷ ys, v, step e f)

-- behind a value: close all that is open
close : (o : Open) (v : Value) → Live (State.gap (put v o))
unfolding put move after
close root v = ([], v, stay)
close (in_list vs o) v =
    live_step 0x5D (ap after (bracket_after (item v vs) o)) (close o (Value.list (items_onto (item v vs) no_items)))
close (in_rec ms n o) v =
    live_step 0x7D (ap after (brace_after (member n v ms) o)) (close o (Value.rec (members_onto (member n v ms) no_members)))

live_item : (o : Open) → Live (State.gap (Gap.first_item o))
unfolding move after
live_item o = live_step 0x5D (ap after (bracket_first o)) (close o (Value.list no_items))

live_value : (o : Open) → Live (State.gap (Gap.value o))
unfolding move after gap_move token_move value_move value_rows white white_table found look between
live_value o = live_step 0x5B refl (live_item o)

live_colon : (ms : Members) (n : Bytes) (o : Open) → Live (State.gap (Gap.colon ms n o))
unfolding move after
live_colon ms n o = live_step 0x3A (ap after (colon_name ms n o)) (live_value (in_rec ms n o))

walk_text
    : {i k : Inside} {a c xs : Bytes} (r : Role) → TextSteps i a xs k c → Walk (State.in_text r i a) xs (State.in_text r k c)
unfolding move after text_move
walk_text r text_stay = stay
walk_text r (text_then {a} e f) = step (ap (λ (z : TextMove). after (text_move r a z)) e) (walk_text r f)

walk_number
    : {p q : Phase} {d f : Numeral} {xs : Bytes} (o : Open) → NumberSteps p d xs q f
    → Walk (State.in_number p d o) xs (State.in_number q f o)
unfolding move after
walk_number o number_stay = stay
walk_number o (number_then {p} {d} {b} e f) = step (ap after (number_next p d o b e)) (walk_number o f)

walk_word : (c : ℕ) (cs : Bytes) (v : Value) (o : Open) → Walk (State.in_literal c cs v o) (c ∷ cs) (State.gap (put v o))
unfolding after spell
walk_word c [] v o = step (ap after (word_next c [] v o)) stay
walk_word c (c' ∷ cs) v o = step (ap after (word_next c (c' ∷ cs) v o)) (walk_word c' cs v o)

live_walk : {p q : State} {xs : Bytes} → Walk p xs q → Live q → Live p
live_walk {xs} f (ys, v, g) = (xs ++ ys, v, walk_append f g)

-- between the characters of a text: its closing quote
live_text : (r : Role) (acc : Bytes) → Live (State.in_text r Inside.chars acc)
unfolding move after text_move close_move text_step char_step is
live_text (Role.as_value o) acc = live_step 0x22 refl (close o (Value.text (reverse acc)))
live_text (Role.as_name ms o) acc = live_step 0x22 refl (live_colon ms (reverse acc) o)

-- behind a complete number: white space
live_number : (p : Phase) (d : Numeral) (o : Open) → complete p ≡ true → Live (State.in_number p d o)
unfolding move after
live_number p d o c =
    live_step 0x20
    (ap after (number_behind p d o 0x20 (space_stops ws_char.space p) c)
    ∙ ap after (space_move (put (Value.number (number_of d)) o) ws_char.space))
    (close o (Value.number (number_of d)))

live_name : (g : Gap) (ms : Members) (o : Open) → Names g ms o → Live (State.gap g)
unfolding move after gap_move white white_table found look between
live_name g ms o e = live_step 0x22 (ap after e) (live_text (Role.as_name ms o) [])

-- every state that a scan reaches
live : {s kept r : Bytes} {n : ℕ} {q : State} → Reached s n kept q r → Live q
live (at_value {k} f e) = live_value (opened k)
live (at_item {k} f e) = live_item (opened k)
live (at_name {k} f e) = live_name (Gap.first_name (opened k)) no_members (opened k) (names_first (opened k))
live (at_next {ns} {k} f e) =
    live_name (Gap.next_name (meaning_named ns) (opened k)) (meaning_named ns) (opened k)
    (names_next (meaning_named ns) (opened k))
live (at_colon {m} {ns} {k} f a w e) = live_colon (meaning_named ns) m (opened k)
live (at_behind {x} {k} f v w e) = close (opened k) (meaning x)
live (in_string {k} f h g e) =
    let (ys, c, y) = string_live g in
    live_walk (walk_text (Role.as_value (opened k)) y) (live_text (Role.as_value (opened k)) c)
live (in_name {ns} {k} f h g e) =
    let (ys, c, y) = string_live g in
    live_walk (walk_text (Role.as_name (meaning_named ns) (opened k)) y)
    (live_text (Role.as_name (meaning_named ns) (opened k)) c)
live (in_digits {k} f h g e) =
    let (ys, q, d, y, c) = number_live g in
    live_walk (walk_number (opened k) y) (live_number q d (opened k) c)
live (in_word {c} {cs} {x} {k} f h e one) = live_walk (walk_word c cs (meaning x) (opened k)) (close (opened k) (meaning x))

-- ---- what has been walked begins a text

-- the state behind a move
pub sound_after
    : {s kept here r : Bytes} {n : ℕ} {m : Move} {q : State} → Sound s n kept here r m → after m ≡ some q
    → (n' : ℕ) × (kept' : Bytes) × Reached s n' kept' q r
unfolding after
sound_after {q} broken_so e = absurd (none-ne-some q e)
sound_after {q} (broken_number_so f g h l) e = absurd (none-ne-some q e)
sound_after {s} {kept} {r} {n} {q} (goes {q = p} x) e =
    (n, kept, subst (λ z. Reached s n kept z r) (some-injective p q e) x)
sound_after {s} {kept} {r} {n} {q} (begins_value {q = p} f g h x) e =
    (suc n, kept, subst (λ z. Reached s (suc n) kept z r) (some-injective p q e) x)
sound_after {s} {here} {r} {n} {q} (begins_number {q = p} x) e =
    (suc n, here, subst (λ z. Reached s (suc n) here z r) (some-injective p q e) x)
sound_after {s} {here} {r} {n} {q} (begins_name {q = p} x) e =
    (n, here, subst (λ z. Reached s n here z r) (some-injective p q e) x)
sound_after {s} {kept} {r} {n} {q} (ends_name {q = p} f g x) e =
    (n, kept, subst (λ z. Reached s n kept z r) (some-injective p q e) x)
sound_after (ends_number f g h l run y z c d x) e = sound_after x e
sound_after {q} (ends_text f g) e = absurd (none-ne-some q e)

pub walk_sound
    : {s kept : Bytes} {n : ℕ} {p q : State} {xs : Bytes} (r : Bytes) → Walk p xs q → Reached s n kept p (xs ++ r)
    → (n' : ℕ) × (kept' : Bytes) × Reached s n' kept' q r
walk_sound {kept} {n} r stay x = (n, kept, x)
walk_sound {kept} {n} r (step e f) x = let (n', kept', y) = sound_after (move_sound x) e in walk_sound {kept = kept'} {n = n'} r f y

-- where a document begins
abbrev pub start : State
start = State.gap (Gap.value root)

pub start_reached : (s : Bytes) → Reached s 0 s start s
unfolding opened begun
start_reached s = at_value {k = top} (Before.start ws_none) refl

pub walk_reached
    : {q : State} {pre : Bytes} (r : Bytes) → Walk start pre q → (n : ℕ) × (kept : Bytes) × Reached (pre ++ r) n kept q r
walk_reached {pre} r f = walk_sound r f (start_reached (pre ++ r))

sound_text
    : {s kept here r : Bytes} {n : ℕ} {v : Value} → Sound s n kept here r (Move.end_text v) → (x : Tree) × JSONText s x
sound_text (ends_text {x} e h) = (x, h)

whole_text : {s kept : Bytes} {n : ℕ} {v : Value} → Reached s n kept (State.gap (Gap.whole v)) [] → (x : Tree) × JSONText s x
unfolding end_move gap_end
whole_text x = sound_text (end_sound x)

pub walk_begins : {q : State} {pre : Bytes} → Walk start pre q → Begins pre
walk_begins {pre} f =
    let (n, kept, x) = walk_reached [] f in
    let (ys, v, g) = live x in
    let (n', kept', y) = walk_reached [] (walk_append f g) in
    let (t, h) = whole_text y in
    record { rest = ys; tree = t; text = subst (λ (z : Bytes). JSONText z t) (append-nil (pre ++ ys)) h }

-- ---- where a scan breaks

-- without tests every tree passes
mutual
  unfolding fit free

  free_fit : (x : Tree) (n : ℕ) (o : Open) → fit free x n o ≡ true
  free_fit Tree.null n o = refl
  free_fit (Tree.bool b) n o = refl
  free_fit (Tree.number d) n o = refl
  free_fit (Tree.text t) n o = refl
  free_fit (Tree.list ts) n o = free_fit_trees ts no_items (suc n) o
  free_fit (Tree.rec ns) n o = free_fit_named ns no_members (suc n) o

  free_fit_trees : (ts : Trees) (vs : Items) (n : ℕ) (o : Open) → fit_trees free ts vs n o ≡ true
  free_fit_trees no_trees vs n o = refl
  free_fit_trees (tree x ts) vs n o =
      and_intro (free_fit x n (in_list vs o)) (free_fit_trees ts (item (meaning x) vs) (n + size (meaning x)) o)

  free_fit_named : (ns : Named) (ms : Members) (n : ℕ) (o : Open) → fit_named free ns ms n o ≡ true
  free_fit_named no_named ms n o = refl
  free_fit_named (named m x ns) ms n o =
      and_intro (free_fit x n (in_rec ms m o)) (free_fit_named ns (member m (meaning x) ms) (n + size (meaning x)) o)

-- what a scan without tests comes to on a JSON text
pub free_text : {s : Bytes} {x : Tree} → JSONText s x → scan_by free 0 s start s ≡ ok (meaning x)
free_text {s} {x} h = (ends_arrive (text_forward free h) (free_fit x 0 root)).1

pub free_after
    : (n : ℕ) (kept s : Bytes) (m : Move) (q : State) (f : ℕ → Bytes → State → Outcome Bytes Value) → after m ≡ some q
    → (n' : ℕ) × (kept' : Bytes) × (judge_by free n kept s m f ≡ f n' kept' q)
unfolding after judge_by free
free_after n kept s Move.broken q f e = absurd (none-ne-some q e)
free_after n kept s (Move.broken_number o) q f e = absurd (none-ne-some q e)
free_after n kept s (Move.go p) q f e = (n, kept, ap (f n kept) (some-injective p q e))
free_after n kept s (Move.begin_value o p) q f e = (suc n, kept, ap (f (suc n) kept) (some-injective p q e))
free_after n kept s (Move.begin_number p) q f e = (suc n, s, ap (f (suc n) s) (some-injective p q e))
free_after n kept s (Move.begin_name p) q f e = (n, s, ap (f n s) (some-injective p q e))
free_after n kept s (Move.end_name t ms p) q f e = (n, kept, ap (f n kept) (some-injective p q e))
free_after n kept s (Move.end_number d o m) q f e = free_after n kept s m q f e
free_after n kept s (Move.end_text v) q f e = absurd (none-ne-some q e)

free_walk
    : {p q : State} {xs : Bytes} (n : ℕ) (kept r : Bytes) → Walk p xs q
    → (n' : ℕ) × (kept' : Bytes) × (scan_by free n kept p (xs ++ r) ≡ scan_by free n' kept' q r)
unfolding scan_by
free_walk n kept r stay = (n, kept, refl)
free_walk n kept r (step {p} {q} {b} {xs} e f) =
    let on : ℕ → Bytes → State → Outcome Bytes Value = λ n' kept' q'. scan_by free n' kept' q' (xs ++ r) in
    let (n₁, kept₁, h) = free_after n kept (b ∷ (xs ++ r)) (move p b) q on e in
    let (n₂, kept₂, g) = free_walk n₁ kept₁ r f in
    (n₂, kept₂, h ∙ g)

-- a move that ends reading at a byte
pub sound_broken
    : {s kept r r' : Bytes} {n b : ℕ} {m : Move} (i : ℕ) (k : Bytes) (f : ℕ → Bytes → State → Outcome Bytes Value)
    → Sound s n kept (b ∷ r) r' m
    → after m ≡ none → judge_by free i k (b ∷ r) m f ≡ refused 3 (b ∷ r)
unfolding after judge_by free
sound_broken i k f broken_so e = refl
sound_broken i k f (broken_number_so x y z l) e = refl
sound_broken i k f (goes {q} x) e = absurd (some-ne-none q e)
sound_broken i k f (begins_value {q} x y z w) e = absurd (some-ne-none q e)
sound_broken i k f (begins_number {q} x) e = absurd (some-ne-none q e)
sound_broken i k f (begins_name {q} x) e = absurd (some-ne-none q e)
sound_broken i k f (ends_name {q} x y z) e = absurd (some-ne-none q e)
sound_broken i k f (ends_number x y z l run g h c d m) e = sound_broken i k f m e
sound_broken i k f (ends_text x y) e = absurd (cons≢nil x)

-- no text goes on so
pub walk_breaks : {q : State} {pre : Bytes} (b : ℕ) → Walk start pre q → after (move q b) ≡ none → Begins (pre ++ b ∷ []) → ⊥
unfolding scan_by
walk_breaks {q} {pre} b f e g =
    let text : JSONText (pre ++ b ∷ g.rest) g.tree =
    subst (λ (z : Bytes). JSONText z g.tree) (append_assoc pre (b ∷ []) g.rest) g.text in
    let s : Bytes = pre ++ b ∷ g.rest in
    let (n, kept, h) = free_walk 0 s (b ∷ g.rest) f in
    let (n', kept', x) = walk_reached (b ∷ g.rest) f in
    ok≢refused
    (sym (free_text text) ∙ h ∙ sound_broken n kept (λ n' kept' q'. scan_by free n' kept' q' g.rest) (move_sound x) e)

free_ended
    : (n : ℕ) (kept : Bytes) (m : Move) → ending m ≡ none
    → judge_by free n kept [] m (λ n' kept' q'. refused 3 []) ≡ refused 3 []
unfolding ending judge_by free
free_ended n kept Move.broken e = refl
free_ended n kept (Move.broken_number o) e = refl
free_ended n kept (Move.go q) e = refl
free_ended n kept (Move.begin_value o q) e = refl
free_ended n kept (Move.begin_number q) e = refl
free_ended n kept (Move.begin_name q) e = refl
free_ended n kept (Move.end_name t ms q) e = refl
free_ended n kept (Move.end_number d o m) e = free_ended n kept m e
free_ended n kept (Move.end_text v) e = absurd (some-ne-none v e)

-- what has been walked is no text
pub walk_unfinished
    : {q : State} {pre : Bytes} → Walk start pre q → ending (end_move q) ≡ none → (x : Tree) → JSONText pre x → ⊥
unfolding scan_by
walk_unfinished {q} {pre} f e x h =
    let (n, kept, g) = free_walk 0 (pre ++ []) [] f in
    ok≢refused
    (sym (free_text (subst (λ (z : Bytes). JSONText z x) (sym (append-nil pre)) h)) ∙ g ∙ free_ended n kept (end_move q) e)
