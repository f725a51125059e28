-- Reading goes forward over what the grammar derives: a scan from the start of a value goes on behind it, or a test stops
-- it before. Assumes nothing.
use Prim.Native.Nat.{ℕ, suc, ◌+◌, ◌≤◌}
use native.Mathlib.Omega.{arith}
use Rattle.std.proofs.Common.{le_refl, le_trans, le_of_lt, add_assoc, add-zero, add-one, sym, ◌∙◌}
use Rattle.std.specs.Prelude.{◌≡◌, Bool, true, false, not, ◌&&◌, [], ◌∷◌, ◌++◌, length}
use Rattle.std.proofs.Math.Path.{refl, ap, ap₂}
use Rattle.std.proofs.lemmas.Bool.{false≢true}
use Rattle.std.proofs.Math.Option.{none}
use Rattle.definitions.specs.Bytes.{Bytes, bytes, between, look, is, white, white_table, found}
use Rattle.definitions.specs.Outcome.{Outcome, ok}
use Rattle.definitions.specs.Number.{Numeral, no_digits, number_of, Phase, begin, next, complete, extend}
use Rattle.definitions.specs.Value.{Value, Items, no_items, item, items_onto, Members, no_members, member, members_onto, size, size_items, size_members}
use Rattle.definitions.specs.Json.{Open, root, in_list, in_rec, Gap, Role, State, put, Move, spell, true_name, false_name}
use Rattle.definitions.specs.Json.{null_name, value_rows, value_move, close_move, gap_move, move, gap_end, end_move}
use Rattle.laws.specs.Tree.{Tree, Trees, Named, meaning, meaning_trees, meaning_named}
use Rattle.laws.specs.Rfc8259 as Rfc
use Rattle.laws.specs.Rfc8259.{char_of}
use Rattle.laws.specs.Steps.{NumberSteps, number_stay, number_then}
use Rattle.laws.proofs.NumberTokens.{number_steps}
use Rattle.laws.specs.JsonMoves.{Tests, judge_by, scan_by}
use Rattle.laws.proofs.JsonRuns.{Stop, end_bracket, end_brace, mark_stop, stop_none, end_stop, values_stop, members_stop, Takes, takes_value, takes_item}
use Rattle.laws.proofs.JsonRuns.{takes_byte, takes_digit, bracket_first, bracket_after, comma_after, brace_first, brace_after, comma_member, colon_name}
use Rattle.laws.proofs.JsonRuns.{Names, names_first, names_next, move_run, ws_run, mark_run, close_run, name_run, number_run, Judged, number_stops}
use Rattle.laws.proofs.JsonLengths.{ws_length, structural_length, string_length, number_length}
use Rattle.laws.proofs.JsonLengths.{value_length, member_length, more_values_length, more_members_length}
use Rattle.laws.proofs.JsonEnds.{fit, fit_trees, fit_named, Ends, arrives, Come, ends_from, ends_then}
use Rattle.laws.proofs.JsonEnds.{ends_at, ends_if, ends_unless, items_in_order, members_in_order}

-- ---- tokens

module _ (j : Tests) where
  -- to this state at u, where m values are begun
  abbrev pub To : ℕ → Gap → Bytes → Bool → Outcome Bytes Value → Type 0
  To m g u b a = Ends (λ kept. scan_by j m kept (State.gap g) u) u b a

  -- from this gap at s to behind the tree at u
  abbrev pub Past : Tree → Gap → Open → ℕ → Bytes → Bytes → Bytes → Type 0
  Past x g o n kept s u = To (n + size (meaning x)) (put (meaning x) o) u (fit j x n o) (scan_by j n kept (State.gap g) s)

  -- a byte that begins a value
  enter
      : {c : Bytes → Come} {u : Bytes} {f : Bool} {q : State} {o : Open} (g : Gap) (n : ℕ) (kept : Bytes) (b : ℕ) (t : Bytes)
      → gap_move g b ≡ Move.begin_value o q → length u ≤ length t → Ends c u f (scan_by j (suc n) kept q t)
      → Ends c u (not (j.crowded (suc n) o) && f) (scan_by j n kept (State.gap g) (b ∷ t))
  unfolding judge_by move
  enter {o} g n kept b t e h k =
      ends_from (move_run j n kept (State.gap g) b t e) (ends_if (j.crowded (suc n) o) 6 (b ∷ t) (omega arith) k)

  enter_scalar
      : {q : State} {o : Open} (g' : Gap) (u : Bytes) (g : Gap) (n : ℕ) (kept : Bytes) (b : ℕ) (t : Bytes)
      → gap_move g b ≡ Move.begin_value o q → length u ≤ length t
      → scan_by j (suc n) kept q t ≡ scan_by j (suc n) kept (State.gap g') u
      → To (n + 1) g' u (not (j.crowded (suc n) o)) (scan_by j n kept (State.gap g) (b ∷ t))
  unfolding judge_by move
  enter_scalar {o} g' u g n kept b t e h k =
      ends_from (move_run j n kept (State.gap g) b t e)
      (ends_unless (j.crowded (suc n) o) 6 kept (b ∷ t) (omega arith)
      (k ∙ ap (λ (m : ℕ). scan_by j m kept (State.gap g') u) (sym (add-one n))))

  pub array_enter
      : {c : Bytes → Come} {t t' u : Bytes} {f : Bool} (g : Gap) (o : Open) (n : ℕ) (kept : Bytes) → Rfc.begin_array t t'
      → Takes g o
      → length u ≤ length t' → Ends c u f (scan_by j (suc n) kept (State.gap (Gap.first_item o)) t')
      → Ends c u (not (j.crowded (suc n) o) && f) (scan_by j n kept (State.gap g) t)
  unfolding white white_table found look between is value_move value_rows
  array_enter g o n kept (char_of {t = s} v w) k h e =
      ends_from (ws_run j n kept g v)
      (enter g n kept 0x5B s (takes_byte g o 0x5B k refl refl) (le_trans h (ws_length w))
      (ends_from (ws_run j (suc n) kept (Gap.first_item o) w) e))

  pub object_enter
      : {c : Bytes → Come} {t t' u : Bytes} {f : Bool} (g : Gap) (o : Open) (n : ℕ) (kept : Bytes) → Rfc.begin_object t t'
      → Takes g o
      → length u ≤ length t' → Ends c u f (scan_by j (suc n) kept (State.gap (Gap.first_name o)) t')
      → Ends c u (not (j.crowded (suc n) o) && f) (scan_by j n kept (State.gap g) t)
  unfolding white white_table found look between is value_move value_rows
  object_enter g o n kept (char_of {t = s} v w) k h e =
      ends_from (ws_run j n kept g v)
      (enter g n kept 0x7B s (takes_byte g o 0x7B k refl refl) (le_trans h (ws_length w))
      (ends_from (ws_run j (suc n) kept (Gap.first_name o) w) e))

  string_forward
      : {s t u : Bytes} (g : Gap) (o : Open) (n : ℕ) (kept : Bytes) → Rfc.string s t u → Takes g o
      → To (n + 1) (put (Value.text t) o) u (not (j.crowded (suc n) o)) (scan_by j n kept (State.gap g) s)
  unfolding white white_table found look between is value_move value_rows close_move judge_by
  string_forward {t} {u} g o n kept (Rfc.quoted {s} c) k =
      enter_scalar (put (Value.text t) o) u g n kept 0x22 s (takes_byte g o 0x22 k refl refl)
      (omega (arith, string_length (Rfc.quoted c))) (close_run j (suc n) kept (Role.as_value o) c)

  -- a number, judged at its end
  pub number_judged
      : {s xs : Bytes} {p : Phase} {d : Numeral} (g : Gap) (o : Open) (n : ℕ) (kept u : Bytes) → s ≡ xs ++ u
      → NumberSteps begin no_digits xs p d
      → complete p ≡ true → ((b : ℕ) (w : Bytes) → u ≡ b ∷ w → look (next p) b ≡ none) → Takes g o
      → scan_by j n kept (State.gap g) s ≡ Judged j (suc n) s d o
      (scan_by j (suc n) s (State.gap (put (Value.number (number_of d)) o)) u)
  unfolding judge_by move complete
  number_judged g o n kept u e number_stay c h k = absurd (false≢true c)
  number_judged {s} {p} {d} g o n kept u e (number_then {q} {xs = ys} {b} x f) c h k =
      ap (scan_by j n kept (State.gap g)) e ∙ move_run j n kept (State.gap g) b (ys ++ u) (takes_digit g o b k x)
      ∙ ap (λ (z : Bytes). scan_by j (suc n) z (State.in_number q (extend q no_digits b) o) (ys ++ u)) (sym e)
      ∙ number_run j (suc n) s o u f ∙ number_stops j (suc n) s p d o u c h

  number_forward
      : {s u : Bytes} {d : Numeral} (g : Gap) (o : Open) (n : ℕ) (kept : Bytes) → Rfc.number s d u → Stop u → Takes g o
      → To (n + 1) (put (Value.number (number_of d)) o) u (not (j.over d) && not (j.crowded (suc n) o))
      (scan_by j n kept (State.gap g) s)
  number_forward {s} {u} {d} g o n kept a h k =
      let (xs, p, e, f, c) = number_steps a in
      ends_from (number_judged g o n kept u e f c (stop_none h p) k)
      (ends_if (j.over d) 4 s (number_length a)
      (ends_unless (j.crowded (suc n) o) 6 s s (number_length a)
      (ap (λ (m : ℕ). scan_by j m s (State.gap (put (Value.number (number_of d)) o)) u) (sym (add-one n)))))

  module _ (g : Gap) (o : Open) (n : ℕ) (kept u : Bytes) (k : Takes g o) where
    false_forward
        : To (n + 1) (put (Value.bool false) o) u (not (j.crowded (suc n) o))
        (scan_by j n kept (State.gap g) (0x66 ∷ 0x61 ∷ 0x6C ∷ 0x73 ∷ 0x65 ∷ u))
    unfolding white white_table found look between is value_move value_rows spell bytes true_name false_name null_name scan_by
        judge_by move
    false_forward =
        enter_scalar (put (Value.bool false) o) u g n kept 0x66 (0x61 ∷ 0x6C ∷ 0x73 ∷ 0x65 ∷ u)
        (takes_byte g o 0x66 k refl refl) (omega arith) refl

    null_forward
        : To (n + 1) (put Value.null o) u (not (j.crowded (suc n) o))
        (scan_by j n kept (State.gap g) (0x6E ∷ 0x75 ∷ 0x6C ∷ 0x6C ∷ u))
    unfolding white white_table found look between is value_move value_rows spell bytes true_name false_name null_name scan_by
        judge_by move
    null_forward =
        enter_scalar (put Value.null o) u g n kept 0x6E (0x75 ∷ 0x6C ∷ 0x6C ∷ u) (takes_byte g o 0x6E k refl refl)
        (omega arith) refl

    true_forward
        : To (n + 1) (put (Value.bool true) o) u (not (j.crowded (suc n) o))
        (scan_by j n kept (State.gap g) (0x74 ∷ 0x72 ∷ 0x75 ∷ 0x65 ∷ u))
    unfolding white white_table found look between is value_move value_rows spell bytes true_name false_name null_name scan_by
        judge_by move
    true_forward =
        enter_scalar (put (Value.bool true) o) u g n kept 0x74 (0x72 ∷ 0x75 ∷ 0x65 ∷ u) (takes_byte g o 0x74 k refl refl)
        (omega arith) refl

  -- ---- closing

  pub recount
      : {m m' : ℕ} → m ≡ m' → (g : Gap) (kept u : Bytes)
      → scan_by j m kept (State.gap g) u ≡ scan_by j m' kept (State.gap g) u
  recount e g kept u = ap (λ (m : ℕ). scan_by j m kept (State.gap g) u) e

  list_shut
      : {w u : Bytes} (v : Value) (vs : Items) (o : Open) (n : ℕ) (kept : Bytes) → Rfc.end_array w u
      → scan_by j (suc n + size v + size_items vs) kept (State.gap (Gap.after_item (items_onto vs (item v no_items)) o)) w
      ≡ scan_by j (n + size (Value.list (item v vs))) kept (State.gap (put (Value.list (item v vs)) o)) u
  unfolding size
  list_shut {u} v vs o n kept e =
      let m = suc n + size v + size_items vs in
      let c : m ≡ n + suc (size v + size_items vs) = omega arith in
      let us = items_onto vs (item v no_items) in
      mark_run j m kept (Gap.after_item us o) (put (Value.list (items_onto us no_items)) o) e (bracket_after us o)
      ∙ ap₂ (λ (m : ℕ) (us : Items). scan_by j m kept (State.gap (put (Value.list us) o)) u) c (items_in_order v vs)

  rec_shut
      : {w u : Bytes} (a : Bytes) (v : Value) (ms : Members) (o : Open) (n : ℕ) (kept : Bytes) → Rfc.end_object w u
      → scan_by j (suc n + size v + size_members ms) kept
      (State.gap (Gap.after_member (members_onto ms (member a v no_members)) o)) w
      ≡ scan_by j (n + size (Value.rec (member a v ms))) kept (State.gap (put (Value.rec (member a v ms)) o)) u
  unfolding size
  rec_shut {u} a v ms o n kept e =
      let m = suc n + size v + size_members ms in
      let c : m ≡ n + suc (size v + size_members ms) = omega arith in
      let us = members_onto ms (member a v no_members) in
      mark_run j m kept (Gap.after_member us o) (put (Value.rec (members_onto us no_members)) o) e (brace_after us o)
      ∙ ap₂ (λ (m : ℕ) (us : Members). scan_by j m kept (State.gap (put (Value.rec us) o)) u) c (members_in_order a v ms)

  -- ---- values

  mutual
    unfolding fit meaning size put items_onto members_onto

    -- from where a value begins to behind it
    pub value_forward
        : {s u : Bytes} {x : Tree} → Rfc.value s x u → Stop u → (g : Gap) (o : Open) → Takes g o → (n : ℕ) (kept : Bytes)
        → Past x g o n kept s u
    value_forward {u} Rfc.is_false h g o k n kept = false_forward g o n kept u k
    value_forward {u} Rfc.is_null h g o k n kept = null_forward g o n kept u k
    value_forward {u} Rfc.is_true h g o k n kept = true_forward g o n kept u k
    value_forward (Rfc.is_object a) h g o k n kept = object_forward a g o k n kept
    value_forward (Rfc.is_array a) h g o k n kept = array_forward a g o k n kept
    value_forward (Rfc.is_number a) h g o k n kept = number_forward g o n kept a h k
    value_forward (Rfc.is_string a) h g o k n kept = string_forward g o n kept a k

    array_forward
        : {s u : Bytes} {ts : Trees} → Rfc.array s ts u → (g : Gap) (o : Open) → Takes g o → (n : ℕ) (kept : Bytes)
        → Past (Tree.list ts) g o n kept s u
    array_forward {u} (Rfc.empty_array b e) g o k n kept =
        let behind = put (Value.list no_items) o in
        array_enter g o n kept b k (le_of_lt (structural_length e))
        (arrives kept
        (mark_run j (suc n) kept (Gap.first_item o) behind e (bracket_first o) ∙ recount (sym (add-one n)) behind kept u))
    array_forward {u} (Rfc.values {x} {ts} b v vs e) g o k n kept =
        let i = in_list no_items o in
        let stop = mark_stop end_bracket e in
        array_enter g o n kept b k (omega (arith, value_length v, more_values_length vs, structural_length e))
        (ends_at
        (ends_then (value_forward v (values_stop vs stop) (Gap.first_item o) i (takes_item o) (suc n) kept)
        (more_values_length vs)
        (λ kept'. more_values_forward vs stop (item (meaning x) no_items) o (suc n + size (meaning x)) kept'))
        (le_of_lt (structural_length e))
        (λ kept'. list_shut (meaning x) (meaning_trees ts) o n kept' e))

    -- from behind a value of an array to behind the last one
    more_values_forward
        : {s u : Bytes} {ts : Trees} → Rfc.more_values s ts u → Stop u → (vs : Items) (o : Open) (n : ℕ) (kept : Bytes)
        → To (n + size_items (meaning_trees ts)) (Gap.after_item (items_onto (meaning_trees ts) vs) o) u
        (fit_trees j ts vs n o) (scan_by j n kept (State.gap (Gap.after_item vs o)) s)
    more_values_forward {s} Rfc.no_value h vs o n kept =
        arrives kept (recount (sym (add-zero n)) (Gap.after_item vs o) kept s)
    more_values_forward {u} (Rfc.next_value {x} {ts} c v m) h vs o n kept =
        let i = in_list vs o in
        let us = meaning_trees ts in
        let count = add_assoc n (size (meaning x)) (size_items us) in
        ends_from (mark_run j n kept (Gap.after_item vs o) (Gap.value i) c (comma_after vs o))
        (ends_at
        (ends_then (value_forward v (values_stop m h) (Gap.value i) i (takes_value i) n kept) (more_values_length m)
        (λ kept'. more_values_forward m h (item (meaning x) vs) o (n + size (meaning x)) kept'))
        (le_refl (length u))
        (λ kept'. recount count (Gap.after_item (items_onto us (item (meaning x) vs)) o) kept' u))

    object_forward
        : {s u : Bytes} {ns : Named} → Rfc.object s ns u → (g : Gap) (o : Open) → Takes g o → (n : ℕ) (kept : Bytes)
        → Past (Tree.rec ns) g o n kept s u
    object_forward {u} (Rfc.empty_object b e) g o k n kept =
        let behind = put (Value.rec no_members) o in
        object_enter g o n kept b k (le_of_lt (structural_length e))
        (arrives kept
        (mark_run j (suc n) kept (Gap.first_name o) behind e (brace_first o) ∙ recount (sym (add-one n)) behind kept u))
    object_forward {u} (Rfc.members {n = m} {x} {ns} b v vs e) g o k n kept =
        let stop = mark_stop end_brace e in
        object_enter g o n kept b k (omega (arith, member_length v, more_members_length vs, structural_length e))
        (ends_at
        (ends_then (member_forward v (members_stop vs stop) (Gap.first_name o) no_members o (names_first o) (suc n) kept)
        (more_members_length vs)
        (λ kept'. more_members_forward vs stop (member m (meaning x) no_members) o (suc n + size (meaning x)) kept'))
        (le_of_lt (structural_length e))
        (λ kept'. rec_shut m (meaning x) (meaning_named ns) o n kept' e))

    -- from where a name may begin to behind its member
    member_forward
        : {s u m : Bytes} {x : Tree} → Rfc.member s m x u → Stop u → (g : Gap) (ms : Members) (o : Open) → Names g ms o
        → (n : ℕ) (kept : Bytes)
        → To (n + size (meaning x)) (Gap.after_member (member m (meaning x) ms) o) u
        (not (j.twice m ms) && fit j x n (in_rec ms m o)) (scan_by j n kept (State.gap g) s)
    member_forward {s} {m} {x} (Rfc.name_value {u = w} a c v) h g ms o k n kept =
        let i = in_rec ms m o in
        ends_from (name_run j n kept g ms o a k)
        (ends_if (j.twice m ms) 5 s (omega (arith, string_length a, structural_length c, value_length v))
        (ends_from (mark_run j n s (Gap.colon ms m o) (Gap.value i) c (colon_name ms m o))
        (value_forward v h (Gap.value i) i (takes_value i) n s)))

    -- from behind a member to behind the last one
    more_members_forward
        : {s u : Bytes} {ns : Named} → Rfc.more_members s ns u → Stop u → (ms : Members) (o : Open) (n : ℕ) (kept : Bytes)
        → To (n + size_members (meaning_named ns)) (Gap.after_member (members_onto (meaning_named ns) ms) o) u
        (fit_named j ns ms n o) (scan_by j n kept (State.gap (Gap.after_member ms o)) s)
    more_members_forward {s} Rfc.no_member h ms o n kept =
        arrives kept (recount (sym (add-zero n)) (Gap.after_member ms o) kept s)
    more_members_forward {u} (Rfc.next_member {n = a} {x} {ns} c v m) h ms o n kept =
        let us = meaning_named ns in
        let count = add_assoc n (size (meaning x)) (size_members us) in
        ends_from (mark_run j n kept (Gap.after_member ms o) (Gap.next_name ms o) c (comma_member ms o))
        (ends_at
        (ends_then (member_forward v (members_stop m h) (Gap.next_name ms o) ms o (names_next ms o) n kept)
        (more_members_length m)
        (λ kept'. more_members_forward m h (member a (meaning x) ms) o (n + size (meaning x)) kept'))
        (le_refl (length u))
        (λ kept'. recount count (Gap.after_member (members_onto us (member a (meaning x) ms)) o) kept' u))

  -- a whole text
  pub text_forward
      : {s : Bytes} {x : Tree} → Rfc.JSONText s x
      → Ends (λ kept. ok (meaning x)) [] (fit j x 0 root) (scan_by j 0 s (State.gap (Gap.value root)) s)
  unfolding scan_by judge_by end_move gap_end put
  text_forward {s} {x} (Rfc.json_text {t} {u} w v w') =
      ends_from (ws_run j 0 s (Gap.value root) w)
      (ends_at (value_forward v (end_stop w') (Gap.value root) root (takes_value root) 0 s) (ws_length w')
      (λ kept. ws_run j (0 + size (meaning x)) kept (Gap.whole (meaning x)) w'))
