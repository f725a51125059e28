-- Characters of several bytes (definitions' Utf8): how reading goes over their bytes. Assumes nothing.
use Prim.Native.Nat.{ℕ, suc, ◌+◌, ◌-◌, ◌≤◌, ◌<◌}
use mathlib.Core.Path.{◌≡◌, sym, ap, ◌∙◌}
use mathlib.Core.Logic.{◌⊎◌, inl, inr}
use mathlib.Core.Bool.{false}
use mathlib.Core.List.{[], ◌∷◌, reverse_aux, reverse_aux-append}
use mathlib.Core.Option.{none, some}
use lib.ListN.{length, take, drop, get_or}
use native.Mathlib.Omega.{arith}
use Rattle.definitions.specs.Bytes.{Bytes, between, look}
use Rattle.definitions.specs.Utf8.{tails, head_table}
use Rattle.definitions.specs.Text.{Inside, more, head_step, char_step, behind_tail, text_step}
use Rattle.definitions.specs.Plain.{escaped_all}
use Rattle.laws.specs.Rfc3629.{In}
use Rattle.laws.specs.Ranges.{look_hit, in_between, out_between, between_out, ne_is}
use Rattle.laws.proofs.StringRows.{Heads, head_c2, head_e0, head_e1, head_ed, head_ee, head_f0, head_f1, head_f4, hit_heads, heads_look, heads_above}
use Rattle.text.specs.TextRun.{text_run}
use Rattle.text.specs.TextParts.{Breaks, WideRead, ReadsWide}
use Rattle.std.specs.Prelude.{Result, Ok, Err}
use Rattle.text.proofs.Tables.{misses_look}
use Rattle.text.proofs.Places.{get_or_within, byte_within, more_at, wrong_at, part_snoc, part_cons, part_none}
use Rattle.text.proofs.Escaped.{escaped_none, one_high, itself_snoc, itself_cons}

-- ---- tails

pub step_tail : (lo hi n : ℕ) (acc : Bytes) {b : ℕ} → In lo hi b → text_step (Inside.tail lo hi n) acc b ≡ more (behind_tail n) (b ∷ acc)
unfolding text_step
step_tail lo hi n acc i = let t = in_between i in rw (t, text_step)

-- the bytes from place at up to place i are read, and so many are left behind the next
pub record TailsSoFar (doc : Bytes) (s : Inside) (at i lo hi left : ℕ) : Type 0 where
  pub run
      : (acc : Bytes)
      → text_run s acc (drop at doc)
      ≡ text_run (Inside.tail lo hi left) (reverse_aux (take (i - at) (drop at doc)) acc) (drop i doc)
  pub itself : length (escaped_all (take (i - at) (drop at doc))) ≡ i - at
  pub from : at ≤ i
  pub within : i ≤ length doc
  pub low : 0x80 ≤ lo
  pub high : hi < 0x100

pub tails_start
    : (doc : Bytes) (at lo hi n : ℕ) → at ≤ length doc → 0x80 ≤ lo → hi < 0x100
    → TailsSoFar doc (Inside.tail lo hi n) at at lo hi n
tails_start doc at lo hi n h l m =
    record {
      run = λ acc.
          ap (λ (u : Bytes). text_run (Inside.tail lo hi n) (reverse_aux u acc) (drop at doc)) (part_none doc at);
      itself = ap (λ (u : Bytes). length (escaped_all u)) (sym (part_none doc at)) ∙ ap length escaped_none ∙ omega arith;
      from = omega arith;
      within = h;
      low = l;
      high = m;
    }

module _ (doc : Bytes) (s : Inside) (at i lo hi left b : ℕ) (h : TailsSoFar doc s at i lo hi left) (e : b ≡ get_or doc i 256) where
  pub tails_wrong : (b < lo) ⊎ (hi < b) → Breaks doc s at i
  unfolding text_step
  tails_wrong o =
      record {
        run = λ acc.
            h.run acc
            ∙ wrong_at (Inside.tail lo hi left) (reverse_aux (take (i - at) (drop at doc)) acc) doc i (rw (out, text_step));
        from = h.from;
        within = h.within;
      }
    where
      off : (b < lo) ⊎ (hi < b) → In lo hi (get_or doc i 256) → ⊥
      off (inl l) k = omega arith
      off (inr l) k = omega arith

      out : between lo hi (get_or doc i 256) ≡ false
      out = out_between (off o)

  module _ (l : lo ≤ b) (m : b ≤ hi) where
    tail_within : i < length doc
    tail_within = let k = h.high in byte_within doc i (omega arith)

    tail_run
        : (acc : Bytes)
        → text_run s acc (drop at doc)
        ≡ text_run (behind_tail left) (reverse_aux (take (i + 1 - at) (drop at doc)) acc) (drop (i + 1) doc)
    tail_run acc =
        let k = h.from in
        let w = tail_within in
        h.run acc
        ∙ more_at (Inside.tail lo hi left) (reverse_aux (take (i - at) (drop at doc)) acc) doc i w
        (step_tail lo hi left (reverse_aux (take (i - at) (drop at doc)) acc) (record { from = omega arith; to = omega arith }))
        ∙ ap (λ (a : Bytes). text_run (behind_tail left) a (drop (i + 1) doc))
        (sym (reverse_aux-append (take (i - at) (drop at doc)) (get_or doc i 256 ∷ []) acc)
        ∙ ap (λ (u : Bytes). reverse_aux u acc) (sym (part_snoc doc at i k w)))

    tail_itself : length (escaped_all (take (i + 1 - at) (drop at doc))) ≡ i + 1 - at
    tail_itself =
        let k = h.from in
        let j = h.low in
        ap (λ (u : Bytes). length (escaped_all u)) (part_snoc doc at i k tail_within)
        ∙ itself_snoc (take (i - at) (drop at doc)) (get_or doc i 256) (i - at) h.itself (one_high (get_or doc i 256) (omega arith))
        ∙ omega arith

    pub tails_done : left ≡ 0 → WideRead doc s at (i + 1)
    unfolding behind_tail
    tails_done z =
        record {
          run = λ acc.
              tail_run acc
              ∙ ap (λ (n : ℕ). text_run (behind_tail n) (reverse_aux (take (i + 1 - at) (drop at doc)) acc) (drop (i + 1) doc)) z;
          itself = tail_itself;
          ahead = let k = h.from in omega arith;
          within = omega (arith, tail_within);
        }

    pub tails_next : (left ≡ 0 → ⊥) → TailsSoFar doc s at (i + 1) 0x80 0xBF (left - 1)
    unfolding behind_tail
    tails_next z =
        record {
          run = λ acc.
              tail_run acc
              ∙ ap (λ (n : ℕ). text_run (behind_tail n) (reverse_aux (take (i + 1 - at) (drop at doc)) acc) (drop (i + 1) doc))
              (let q : left ≡ suc (left - 1) = omega arith in q);
          itself = tail_itself;
          from = let k = h.from in omega arith;
          within = omega (arith, tail_within);
          low = omega arith;
          high = omega arith;
        }

-- ---- the first byte

pub heads_low : {b lo hi n : ℕ} → Heads b lo hi n → 0x80 ≤ lo
heads_low (head_c2 i) = omega arith
heads_low (head_e0 i) = omega arith
heads_low (head_e1 i) = omega arith
heads_low (head_ed i) = omega arith
heads_low (head_ee i) = omega arith
heads_low (head_f0 i) = omega arith
heads_low (head_f1 i) = omega arith
heads_low (head_f4 i) = omega arith

pub heads_high : {b lo hi n : ℕ} → Heads b lo hi n → hi < 0x100
heads_high (head_c2 i) = omega arith
heads_high (head_e0 i) = omega arith
heads_high (head_e1 i) = omega arith
heads_high (head_ed i) = omega arith
heads_high (head_ee i) = omega arith
heads_high (head_f0 i) = omega arith
heads_high (head_f1 i) = omega arith
heads_high (head_f4 i) = omega arith

pub heads_of : {b lo hi n : ℕ} → look head_table b ≡ some (tails lo hi n) → Heads b lo hi n
heads_of {b} {lo} {hi} {n} e = hit_heads (look_hit head_table b (tails lo hi n) e)

-- outside ASCII from the space on
step_head : (acc : Bytes) (b : ℕ) → between 0x20 0x7F b ≡ false → text_step Inside.chars acc b ≡ head_step acc b
unfolding text_step char_step
step_head acc b o = let q = ne_is "\"" (off 0x22 (omega arith) (omega arith)) in
    let s = ne_is "\\" (off 0x5C (omega arith) (omega arith)) in
    rw (q, s, o, char_step)
  where
    off : (k : ℕ) → 0x20 ≤ k → k ≤ 0x7F → b ≡ k → ⊥
    off k l m e = between_out o (record { from = omega arith; to = omega arith })

pub step_first : {b lo hi n : ℕ} (acc : Bytes) → Heads b lo hi n → text_step Inside.chars acc b ≡ more (Inside.tail lo hi n) (b ∷ acc)
unfolding head_step
step_first {b} acc h =
    let e = heads_look h in step_head acc b (out_between (λ i. omega (arith, heads_above h))) ∙ rw (e, head_step)

module _ (doc : Bytes) (at : ℕ) (l : at < length doc) (o : between 0x20 0x7F (get_or doc at 0) ≡ false) where
  outside : between 0x20 0x7F (get_or doc at 256) ≡ false
  outside = ap (between 0x20 0x7F) (get_or_within doc at 256 0 l) ∙ o

  pub head_wrong : look head_table (get_or doc at 256) ≡ none → Breaks doc Inside.chars at at
  unfolding head_step
  head_wrong e =
      record {
        run = λ acc. wrong_at Inside.chars acc doc at (step_head acc (get_or doc at 256) outside ∙ rw (e, head_step));
        from = omega arith;
        within = omega arith;
      }

  module _ (lo hi n : ℕ) (e : look head_table (get_or doc at 256) ≡ some (tails lo hi n)) where
    head_run
        : (acc : Bytes)
        → text_run Inside.chars acc (drop at doc) ≡ text_run (Inside.tail lo hi n) (get_or doc at 256 ∷ acc) (drop (at + 1) doc)
    head_run acc = more_at Inside.chars acc doc at l (step_first acc (heads_of e))

    pub head_wide : (r : Result ℕ ℕ) → ReadsWide doc (Inside.tail lo hi n) (at + 1) r → ReadsWide doc Inside.chars at r
    head_wide (Err place) b =
        record {
          run = λ acc. head_run acc ∙ b.run (get_or doc at 256 ∷ acc);
          from = let k = b.from in omega arith;
          within = b.within;
        }
    head_wide (Ok next) w =
        record {
          run = λ acc.
              head_run acc
              ∙ w.run (get_or doc at 256 ∷ acc)
              ∙ ap (λ (u : Bytes). text_run Inside.chars (reverse_aux u acc) (drop next doc)) (sym (part_cons doc at next ahead l));
          itself = ap (λ (u : Bytes). length (escaped_all u)) (part_cons doc at next ahead l)
              ∙ itself_cons (take (next - (at + 1)) (drop (at + 1) doc)) (get_or doc at 256) (next - (at + 1)) w.itself
              (one_high (get_or doc at 256) (omega (arith, heads_above (heads_of e))))
              ∙ omega arith;
          ahead = ahead;
          within = w.within;
        }
      where
        ahead : at < next
        ahead = let k = w.ahead in omega arith

-- ---- the answers of `tails_of`

pub head_none : (b : ℕ) → (b < 0xC2) ⊎ (0xF4 < b) → look head_table b ≡ none
unfolding head_table
head_none b (inl h) =
    misses_look head_table b (omega arith, (omega arith, (omega arith, (omega arith, (omega arith, (omega arith, (omega arith, (omega arith, tt))))))))
head_none b (inr h) =
    misses_look head_table b (omega arith, (omega arith, (omega arith, (omega arith, (omega arith, (omega arith, (omega arith, (omega arith, tt))))))))
