-- A place where a text breaks settles what reading comes to: refusal 3 there, or a refusal before. Assumes nothing.
use Rattle.std.specs.Prelude.{ℕ, suc, ◌≤◌, ◌≡◌, Bool}
use Rattle.std.proofs.Common.{arith, le_refl, le_trans, sym, ◌∙◌, ap, subst}
use Rattle.std.proofs.Math.Path.{refl, Path}
use Rattle.std.proofs.Math.Bool.{true, false}
use mathlib.Core.List.{[], ◌∷◌, ◌++◌, append-nil, cons≢nil}
use Rattle.std.proofs.Math.Option.{Option, none, some, none-ne-some, some-ne-none, some-injective}
use Rattle.std.proofs.Math.ListN.{length, length-append}
use Rattle.definitions.specs.Bytes.{Bytes}
use Rattle.definitions.specs.Outcome.{Outcome, ok, refused}
use Rattle.definitions.specs.Number.{number_of, complete}
use Rattle.definitions.specs.Value.{Value}
use Rattle.definitions.specs.Json.{Gap, State, put, Move, number_end, move, gap_end, end_move}
use Rattle.laws.specs.Tree.{Tree, meaning, meaning_named}
use Rattle.laws.specs.Rfc8259.{JSONText}
use Rattle.laws.specs.Causes.{Begins, Breaks, at_byte, at_end}
use Rattle.laws.specs.JsonMoves.{Tests, free, ok≢refused, judge_by, scan_by, after, ending, Walk, stay, step, walk_append}
use Rattle.laws.proofs.JsonContext.{opened}
use Rattle.laws.proofs.JsonReached.{Reached, Sound, broken_so, broken_number_so, goes, begins_value}
use Rattle.laws.proofs.JsonReached.{begins_number, begins_name, ends_name, ends_number, ends_text}
use Rattle.laws.proofs.JsonSound.{move_sound, end_sound}
use Rattle.laws.proofs.JsonLive.{start, start_reached, sound_after, free_after, free_text, sound_broken, walk_begins}
use Rattle.laws.proofs.JsonSettled.{Settled, there, before}

-- ---- the beginning of a text is walked

-- what a scan without tests accepts, it walks
free_walked
    : {s kept : Bytes} {n : ℕ} {q : State} {v : Value} (xs r : Bytes) (i : ℕ) (k : Bytes) → Reached s n kept q (xs ++ r)
    → scan_by free i k q (xs ++ r) ≡ ok v → (p : State) × Walk q xs p
unfolding scan_by
free_walked {q} [] r i k x e = (q, stay)
free_walked {s} {q} {v} (b ∷ xs) r i k x e = at (after (move q b)) refl (λ n kept p i' k' y h. free_walked xs r i' k' y h)
  where
    on : ℕ → Bytes → State → Outcome Bytes Value
    on n kept p = scan_by free n kept p (xs ++ r)

    at
        : (z : Option State) → after (move q b) ≡ z
        → ((n : ℕ) (kept : Bytes) (p : State) (i : ℕ) (k : Bytes) → Reached s n kept p (xs ++ r)
        → scan_by free i k p (xs ++ r) ≡ ok v → (u : State) × Walk p xs u)
        → (p : State) × Walk q (b ∷ xs) p
    at none f ih = absurd (ok≢refused (sym e ∙ sound_broken i k on (move_sound x) f))
    at (some p) f ih =
        let (n', kept', y) = sound_after (move_sound x) f in
        let (i', k', h) = free_after i k (b ∷ (xs ++ r)) (move q b) p on f in
        let (u, w) = ih n' kept' p i' k' y (sym h ∙ e) in
        (u, step f w)

begins_walk : {pre : Bytes} → Begins pre → (q : State) × Walk start pre q
begins_walk {pre} b = free_walked pre b.rest 0 (pre ++ b.rest) (start_reached (pre ++ b.rest)) (free_text b.text)

-- ---- a scan along a walk

abbrev On : Type 0
On = ℕ → Bytes → State → Outcome Bytes Value

-- reading goes on in state q at r, or was refused where at least w bytes were left
data Along (s r : Bytes) (w : ℕ) (q : State) (f : On) (a : Outcome Bytes Value) : Type 0 where
  goes_on : (n : ℕ) (kept : Bytes) → Reached s n kept q r → length r ≤ length kept → a ≡ f n kept q → Along s r w q f a
  stops : (i : ℕ) (u : Bytes) → a ≡ refused i u → w ≤ length u → Along s r w q f a

along_to
    : {s r kept : Bytes} {w n : ℕ} {p q : State} (f : On) → Path (Option State) (some p) (some q) → Reached s n kept p r
    → length r ≤ length kept
    → Along s r w q f (f n kept p)
along_to {s} {r} {kept} {n} {p} {q} f e x l =
    let h : p ≡ q = some-injective p q e in
    goes_on n kept (subst (λ (z : State). Reached s n kept z r) h x) l (ap (f n kept) h)

-- a test that stops there
along_test
    : {s r : Bytes} {w : ℕ} {q : State} {f : On} {a : Outcome Bytes Value} (z : Bool) (i : ℕ) (u : Bytes) → w ≤ length u
    → Along s r w q f a
    → Along s r w q f (elim z [ true ↦ refused i u | false ↦ a ])
along_test true i u l x = stops i u refl l
along_test false i u l x = x

gap_end_after : (g : Gap) → after (gap_end g) ≡ none
unfolding after gap_end
gap_end_after (Gap.value o) = refl
gap_end_after (Gap.first_item o) = refl
gap_end_after (Gap.after_item vs o) = refl
gap_end_after (Gap.first_name o) = refl
gap_end_after (Gap.next_name ms o) = refl
gap_end_after (Gap.colon ms n o) = refl
gap_end_after (Gap.after_member ms o) = refl
gap_end_after (Gap.whole v) = refl

module _ (j : Tests) where
  -- a move that goes on, judged
  judge_along
      : {s kept here r : Bytes} {n : ℕ} {m : Move} {q : State} (f : On) → Sound s n kept here r m → after m ≡ some q
      → length here ≤ length kept → length r ≤ length here → Along s r (length here) q f (judge_by j n kept here m f)
  unfolding after judge_by
  judge_along {q} f broken_so e l g = absurd (none-ne-some q e)
  judge_along {q} f (broken_number_so x y z h) e l g = absurd (none-ne-some q e)
  judge_along f (goes x) e l g = along_to f e x (le_trans g l)
  judge_along {here} {n} f (begins_value {k} a b c x) e l g =
      along_test (j.crowded (suc n) (opened k)) 6 here (le_refl (length here)) (along_to f e x (le_trans g l))
  judge_along f (begins_number x) e l g = along_to f e x g
  judge_along f (begins_name x) e l g = along_to f e x g
  judge_along {kept} f (ends_name {ns} {t} a b x) e l g =
      along_test (j.twice t (meaning_named ns)) 5 kept l (along_to f e x (le_trans g l))
  judge_along {kept} {n} f (ends_number {k} {d} a b c h run y z v w m) e l g =
      along_test (j.over d) 4 kept l (along_test (j.crowded n (opened k)) 6 kept l (judge_along f m e l g))
  judge_along {q} f (ends_text x y) e l g = absurd (none-ne-some q e)

  -- a scan of what is walked
  scan_along
      : {s kept xs : Bytes} {n : ℕ} {p q : State} (r : Bytes) → Walk p xs q → Reached s n kept p (xs ++ r)
      → length (xs ++ r) ≤ length kept
      → Along s r (suc (length r)) q (λ n kept q. scan_by j n kept q r) (scan_by j n kept p (xs ++ r))
  unfolding scan_by
  scan_along {kept} {n} r stay x l = goes_on n kept x l refl
  scan_along r (step {p} {q} {u} {b} {xs} e f) x l =
      at (judge_along (λ n kept q. scan_by j n kept q (xs ++ r)) (move_sound x) e l (omega arith))
      (λ n kept y h. scan_along r f y h)
    where
      at
          : {s : Bytes} {a : Outcome Bytes Value}
          → Along s (xs ++ r) (suc (length (xs ++ r))) q (λ n kept q. scan_by j n kept q (xs ++ r)) a
          → ((n : ℕ) (kept : Bytes) → Reached s n kept q (xs ++ r) → length (xs ++ r) ≤ length kept
          → Along s r (suc (length r)) u (λ n kept q. scan_by j n kept q r) (scan_by j n kept q (xs ++ r)))
          → Along s r (suc (length r)) u (λ n kept q. scan_by j n kept q r) a
      at (goes_on n kept y h g) ih = then g (ih n kept y h)
        where
          then
              : {s : Bytes} {a a' : Outcome Bytes Value} → a ≡ a'
              → Along s r (suc (length r)) u (λ n kept q. scan_by j n kept q r) a'
              → Along s r (suc (length r)) u (λ n kept q. scan_by j n kept q r) a
          then g (goes_on n kept y h k) = goes_on n kept y h (g ∙ k)
          then g (stops i w k h) = stops i w (g ∙ k) h
      at (stops i w g h) ih = stops i w g (omega (arith, length-append xs r))

  -- ---- where reading breaks

  -- a move that doesn't go on, judged
  judge_dead
      : {s kept here r : Bytes} {n : ℕ} {m : Move} (f : On) → Sound s n kept here r m → after m ≡ none
      → (here ≡ [] → ending m ≡ none)
      → Settled here 3 (judge_by j n kept here m f)
  unfolding after ending judge_by
  judge_dead f broken_so e h = there 3 refl (le_refl 3)
  judge_dead {kept} {here} {n} f (broken_number_so {k} a b c l) e h = at (j.crowded n (opened k))
    where
      at : (z : Bool) → Settled here 3 (elim z [ true ↦ refused 6 kept | false ↦ refused 3 here ])
      at true = before 6 kept refl l
      at false = there 3 refl (le_refl 3)
  judge_dead f (goes {q} x) e h = absurd (some-ne-none q e)
  judge_dead f (begins_value {q} a b c x) e h = absurd (some-ne-none q e)
  judge_dead f (begins_number {q} x) e h = absurd (some-ne-none q e)
  judge_dead f (begins_name {q} x) e h = absurd (some-ne-none q e)
  judge_dead f (ends_name {q} a b x) e h = absurd (some-ne-none q e)
  judge_dead {kept} {here} {n} f (ends_number {k} {d} {m} a b c l run y z v w x) e h =
      at (j.over d) (j.crowded n (opened k)) (judge_dead f x e h)
    where
      at
          : (z y : Bool) → Settled here 3 (judge_by j n kept here m f)
          → Settled here 3
          (elim z [
            | true ↦ refused 4 kept
            | false ↦ elim y [ true ↦ refused 6 kept | false ↦ judge_by j n kept here m f ]
          ])
      at true y t = before 4 kept refl l
      at false true t = before 6 kept refl l
      at false false t = t
  judge_dead f (ends_text {x} y t) e h = absurd (some-ne-none (meaning x) (h y))

  -- the end of a text goes nowhere
  end_after : (q : State) → after (end_move q) ≡ none
  unfolding after end_move number_end
  end_after (State.gap g) = gap_end_after g
  end_after (State.in_text r i acc) = refl
  end_after (State.in_number p d o) = at (complete p)
    where
      at
          : (z : Bool)
          → after
          (elim z [
            | true ↦ Move.end_number d o (gap_end (put (Value.number (number_of d)) o))
            | false ↦ Move.broken_number o
          ]) ≡ none
      at true = gap_end_after (put (Value.number (number_of d)) o)
      at false = refl
  end_after (State.in_literal c cs v o) = refl

  -- a text that ends here is one
  sound_ending
      : {s kept here r : Bytes} {n : ℕ} {m : Move} {v : Value} → Sound s n kept here r m → ending m ≡ some v
      → (x : Tree) × JSONText s x
  unfolding ending
  sound_ending {v} broken_so e = absurd (none-ne-some v e)
  sound_ending {v} (broken_number_so a b c l) e = absurd (none-ne-some v e)
  sound_ending {v} (goes x) e = absurd (none-ne-some v e)
  sound_ending {v} (begins_value a b c x) e = absurd (none-ne-some v e)
  sound_ending {v} (begins_number x) e = absurd (none-ne-some v e)
  sound_ending {v} (begins_name x) e = absurd (none-ne-some v e)
  sound_ending {v} (ends_name a b x) e = absurd (none-ne-some v e)
  sound_ending (ends_number a b c l run y z v w x) e = sound_ending x e
  sound_ending (ends_text {x} y t) e = (x, t)

  -- from the state at the place where it breaks
  dead_byte
      : {s kept pre : Bytes} {n b : ℕ} {q : State} (r : Bytes) → Walk start pre q → Reached s n kept q (b ∷ r)
      → (Begins (pre ++ b ∷ []) → ⊥)
      → Settled (b ∷ r) 3 (scan_by j n kept q (b ∷ r))
  unfolding scan_by
  dead_byte {pre} {b} {q} r w x h =
      judge_dead (λ n kept q. scan_by j n kept q r) (move_sound x) (none_after (after (move q b)) refl)
      (λ e. absurd (cons≢nil e))
    where
      none_after : (z : Option State) → after (move q b) ≡ z → after (move q b) ≡ none
      none_after none e = e
      none_after (some p) e = absurd (h (walk_begins (walk_append w (step e stay))))

  dead_end
      : {s kept : Bytes} {n : ℕ} {q : State} → Reached s n kept q [] → ((x : Tree) → JSONText s x → ⊥)
      → Settled [] 3 (scan_by j n kept q [])
  unfolding scan_by
  dead_end {q} x h =
      judge_dead (λ n kept q. refused 3 []) (end_sound x) (end_after q) (λ e. none_ending (ending (end_move q)) refl)
    where
      none_ending : (z : Option Value) → ending (end_move q) ≡ z → ending (end_move q) ≡ none
      none_ending none e = e
      none_ending (some v) e = let (t, y) = sound_ending (end_sound x) e in absurd (h t y)

  settled_from : {r : Bytes} {m : ℕ} {a a' : Outcome Bytes Value} → a ≡ a' → Settled r m a' → Settled r m a
  settled_from e (there n f h) = there n (e ∙ f) h
  settled_from e (before n w f h) = before n w (e ∙ f) h

  -- a text that breaks where r is left
  pub breaks_settled : (pre : Bytes) {r : Bytes} → Breaks pre r → Settled r 3 (scan_by j 0 (pre ++ r) start (pre ++ r))
  breaks_settled pre (at_byte {b} {r} g h) =
      let (q, w) = begins_walk g in
      at w (scan_along (b ∷ r) w (start_reached (pre ++ b ∷ r)) (le_refl (length (pre ++ b ∷ r))))
    where
      at
          : {q : State} {a : Outcome Bytes Value} → Walk start pre q
          → Along (pre ++ b ∷ r) (b ∷ r) (suc (length (b ∷ r))) q (λ n kept q. scan_by j n kept q (b ∷ r)) a
          → Settled (b ∷ r) 3 a
      at w (goes_on n kept x l e) = settled_from e (dead_byte r w x h)
      at w (stops i u e l) = before i u e l
  breaks_settled pre (at_end g h) =
      let (q, w) = begins_walk g in
      at (scan_along [] w (start_reached (pre ++ [])) (le_refl (length (pre ++ []))))
    where
      at
          : {q : State} {a : Outcome Bytes Value}
          → Along (pre ++ []) [] (suc (length {A = ℕ} [])) q (λ n kept q. scan_by j n kept q []) a → Settled [] 3 a
      at (goes_on n kept x l e) =
          settled_from e (dead_end x (λ t y. h t (subst (λ (z : Bytes). JSONText z t) (append-nil pre) y)))
      at (stops i u e l) = before i u e l
