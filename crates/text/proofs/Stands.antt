-- Bytes that stand for themselves: plain ASCII bytes, characters of several bytes, one behind the other; of a word, and of a document.
-- Assumes nothing.
use Prim.Native.Nat.{ℕ, suc, ◌+◌, ◌*◌, ◌/◌, ◌%◌, ◌^◌, ◌≤◌, ◌<◌}
use mathlib.Core.Path.{◌≡◌, refl, sym, ap, ◌∙◌, subst}
use mathlib.Core.Logic.{◌⊎◌, inl, inr}
use mathlib.Core.Bool.{true}
use mathlib.Core.List.{[], ◌∷◌, ◌++◌, reverse_aux, reverse_aux-append, append_assoc}
use native.Mathlib.Nat.{div-eq_of_lt}
use native.Mathlib.Omega.{arith}
use lib.ListN.{length, take, drop, get_or, length-append, length-drop, take-append-drop}
use lib.Seq.{take-add, take-take, take-append-le, drop-drop, length-take-le, get_or-take}
use Rattle.definitions.specs.Bytes.{Bytes}
use Rattle.definitions.specs.Text.{Inside, behind_tail}
use Rattle.definitions.specs.Plain.{escaped_all}
use Rattle.laws.specs.Rfc3629.{In}
use Rattle.laws.specs.Ranges.{lt_or_le}
use Rattle.laws.proofs.StringRows.{Heads, head_c2, head_e0, head_e1, head_ed, head_ee, head_f0, head_f1, head_f4, heads_above}
use Rattle.laws.proofs.StringWritten.{escaped_high_2, escaped_high_3, escaped_high_4}
use Rattle.pool.specs.Pool.{unpacked}
use Rattle.pool.specs.PoolLaws.{length_unpacked}
use Rattle.pool.specs.Lanes.{lane}
use Rattle.pool.specs.LaneLaws.{lane_lt, unpacked_lane, top_next, unpacked_shl}
use Rattle.text.specs.TextRun.{text_run}
use Rattle.text.specs.TextLaws.{run_more}
use Rattle.text.specs.TextParts.{plain_ascii, Stands, FrontStands}
use Rattle.text.proofs.Tables.{plain_ascii_itself}
use Rattle.text.proofs.Escaped.{escaped_none, escaped_append, one_plain, itself_cons}
use Rattle.text.proofs.Characters.{heads_low, step_first, step_tail}
use Rattle.text.proofs.Reading.{step_itself}

-- ---- one behind the other

pub stands_none : Stands []
stands_none = record { run = λ acc r. refl; itself = ap length escaped_none }

pub stands_append : {s t : Bytes} → Stands s → Stands t → Stands (s ++ t)
stands_append {s} {t} h k =
    record {
      run = λ acc r.
          ap (text_run Inside.chars acc) (append_assoc s t r)
          ∙ h.run acc (t ++ r)
          ∙ k.run (reverse_aux s acc) r
          ∙ ap (λ (a : Bytes). text_run Inside.chars a r) (sym (reverse_aux-append s t acc));
      itself = ap length (escaped_append s t)
          ∙ length-append (escaped_all s) (escaped_all t)
          ∙ omega (arith, h.itself, k.itself, length-append s t);
    }

-- ---- plain ASCII bytes

pub stands_plain : (s : Bytes) → ((j : ℕ) → j < length s → plain_ascii (get_or s j 0) ≡ true) → Stands s
stands_plain [] h = stands_none
stands_plain (b ∷ s) h =
    let t = h 0 (omega arith) in
    let p = plain_ascii_itself b t in
    let k = stands_plain s (λ j l. h (suc j) (omega arith)) in
    record {
      run = λ acc r. run_more Inside.chars acc b (s ++ r) (step_itself acc b t) ∙ k.run (b ∷ acc) r;
      itself = itself_cons s b (length s) k.itself (one_plain b p.from p.no_quote p.no_backslash) ∙ omega arith;
    }

-- ---- characters of several bytes

module _ {b c lo hi : ℕ} (i : In lo hi c) where
  pub stands_2 : Heads b lo hi 0 → Stands (b ∷ c ∷ [])
  unfolding behind_tail escaped_all
  stands_2 h =
      record {
        run = λ acc r.
            run_more Inside.chars acc b (c ∷ r) (step_first acc h) ∙ run_more (Inside.tail lo hi 0) (b ∷ acc) c r (step_tail lo hi 0 (b ∷ acc) i);
        itself = ap length (escaped_high_2 b c [] (omega (arith, heads_above h)) (omega (arith, heads_low h)));
      }

  pub stands_3 : {d : ℕ} → Heads b lo hi 1 → In 0x80 0xBF d → Stands (b ∷ c ∷ d ∷ [])
  unfolding behind_tail escaped_all
  stands_3 {d} h j =
      record {
        run = λ acc r.
            run_more Inside.chars acc b (c ∷ d ∷ r) (step_first acc h)
            ∙ run_more (Inside.tail lo hi 1) (b ∷ acc) c (d ∷ r) (step_tail lo hi 1 (b ∷ acc) i)
            ∙ run_more (Inside.tail 0x80 0xBF 0) (c ∷ b ∷ acc) d r (step_tail 0x80 0xBF 0 (c ∷ b ∷ acc) j);
        itself = ap length (escaped_high_3 b c d [] (omega (arith, heads_above h)) (omega (arith, heads_low h)) (omega arith));
      }

  pub stands_4 : {d e : ℕ} → Heads b lo hi 2 → In 0x80 0xBF d → In 0x80 0xBF e → Stands (b ∷ c ∷ d ∷ e ∷ [])
  unfolding behind_tail escaped_all
  stands_4 {d} {e} h j k =
      record {
        run = λ acc r.
            run_more Inside.chars acc b (c ∷ d ∷ e ∷ r) (step_first acc h)
            ∙ run_more (Inside.tail lo hi 2) (b ∷ acc) c (d ∷ e ∷ r) (step_tail lo hi 2 (b ∷ acc) i)
            ∙ run_more (Inside.tail 0x80 0xBF 1) (c ∷ b ∷ acc) d (e ∷ r) (step_tail 0x80 0xBF 1 (c ∷ b ∷ acc) j)
            ∙ run_more (Inside.tail 0x80 0xBF 0) (d ∷ c ∷ b ∷ acc) e r (step_tail 0x80 0xBF 0 (d ∷ c ∷ b ∷ acc) k);
        itself = ap length (escaped_high_4 b c d e [] (omega (arith, heads_above h)) (omega (arith, heads_low h)) (omega arith) (omega arith));
      }

-- ---- of a word

pub front_none : (x : ℕ) → FrontStands x 0
front_none x = record { within = omega arith; stands = stands_none }

pub front_plain : (x m : ℕ) → m ≤ 8 → ((j : ℕ) → j < m → plain_ascii (lane x j) ≡ true) → FrontStands x m
front_plain x m h p =
    record {
      within = h;
      stands = stands_plain (take m (unpacked x))
          (λ j l.
          let k : j < m = omega (arith, length-take-le m (unpacked x) (omega (arith, length_unpacked x))) in
          ap plain_ascii (get_or-take m (unpacked x) j 0 k ∙ unpacked_lane x j (omega arith)) ∙ p j k);
    }

-- and k bytes more, of the word without the first m
pub front_next : {x m k : ℕ} → FrontStands x m → m < 5 → k ≤ 4 → FrontStands (x * 2 ^ (8 * m) % 2 ^ 64) k → FrontStands x (m + k)
front_next {x} {m} {k} f h l g =
    record {
      within = omega arith;
      stands = subst Stands (sym (take-add m k (unpacked x)))
          (stands_append f.stands
          (subst Stands
          (ap (take k) (unpacked_shl x m (omega arith))
          ∙ take-append-le k (drop m (unpacked x)) _ (omega (arith, length-drop m (unpacked x), length_unpacked x)))
          g.stands));
    }

-- a character of several bytes, told by its first two bytes as a number, and with the third and the fourth
module _ (x : ℕ) (hx : x < 2 ^ 64) where
  two : x / 2 ^ 48 ≡ lane x 0 * 256 + lane x 1
  two =
      top_next x 1 (omega arith)
      ∙ ap (λ (z : ℕ). z * 256 + lane x 1)
      (top_next x 0 (omega arith) ∙ ap (λ (z : ℕ). z * 256 + lane x 0) (div-eq_of_lt hx) ∙ (let e : 0 * 256 + lane x 0 ≡ lane x 0 = omega arith in e))

  three : x / 2 ^ 40 ≡ x / 2 ^ 48 * 256 + lane x 2
  three = top_next x 2 (omega arith)

  four : x / 2 ^ 32 ≡ x / 2 ^ 40 * 256 + lane x 3
  four = top_next x 3 (omega arith)

  tail_of : (n m j : ℕ) → n ≡ m * 256 + lane x j → n / 64 % 4 ≡ 2 → In 0x80 0xBF (lane x j)
  tail_of n m j e h = let l = lane_lt x j in record { from = omega arith; to = omega arith }

  module _ (t : ℕ) (e : t ≡ lane x 0 * 256 + lane x 1) (h : t / 64 % 4 ≡ 2) where
    second : In 0x80 0xBF (lane x 1)
    second = tail_of t (lane x 0) 1 e h

    by_2 : 0xC200 ≤ t → t < 0xE000 → Stands (lane x 0 ∷ lane x 1 ∷ [])
    by_2 a b = let l = lane_lt x 1 in stands_2 second (head_c2 (record { from = omega arith; to = omega arith }))

    by_3 : 0xE0A0 ≤ t → t < 0xF000 → (t / 32 ≡ 0x76D → ⊥) → In 0x80 0xBF (lane x 2) → Stands (lane x 0 ∷ lane x 1 ∷ lane x 2 ∷ [])
    by_3 a b s i = go second (lt_or_le (lane x 0) 0xE1) (lt_or_le (lane x 0) 0xED) (lt_or_le (lane x 0) 0xEE)
      where
        go
            : In 0x80 0xBF (lane x 1) → (lane x 0 < 0xE1) ⊎ (0xE1 ≤ lane x 0) → (lane x 0 < 0xED) ⊎ (0xED ≤ lane x 0)
            → (lane x 0 < 0xEE) ⊎ (0xEE ≤ lane x 0)
            → Stands (lane x 0 ∷ lane x 1 ∷ lane x 2 ∷ [])
        go k (inl p) o q = stands_3 (record { from = omega arith; to = k.to }) (head_e0 (record { from = omega arith; to = omega arith })) i
        go k (inr p) (inl o) q = stands_3 k (head_e1 (record { from = omega arith; to = omega arith })) i
        go k (inr p) (inr o) (inl q) = stands_3 (record { from = k.from; to = omega arith }) (head_ed (record { from = omega arith; to = omega arith })) i
        go k (inr p) (inr o) (inr q) = stands_3 k (head_ee (record { from = omega arith; to = omega arith })) i

    by_4
        : 0xF090 ≤ t → t ≤ 0xF48F → In 0x80 0xBF (lane x 2) → In 0x80 0xBF (lane x 3)
        → Stands (lane x 0 ∷ lane x 1 ∷ lane x 2 ∷ lane x 3 ∷ [])
    by_4 a b i j = go second (lt_or_le (lane x 0) 0xF1) (lt_or_le (lane x 0) 0xF4)
      where
        go
            : In 0x80 0xBF (lane x 1) → (lane x 0 < 0xF1) ⊎ (0xF1 ≤ lane x 0) → (lane x 0 < 0xF4) ⊎ (0xF4 ≤ lane x 0)
            → Stands (lane x 0 ∷ lane x 1 ∷ lane x 2 ∷ lane x 3 ∷ [])
        go k (inl p) o = stands_4 (record { from = omega arith; to = k.to }) (head_f0 (record { from = omega arith; to = omega arith })) i j
        go k (inr p) (inl o) = stands_4 k (head_f1 (record { from = omega arith; to = omega arith })) i j
        go k (inr p) (inr o) = stands_4 (record { from = k.from; to = omega arith }) (head_f4 (record { from = omega arith; to = omega arith })) i j

  pub wide_2 : 0xC200 ≤ x / 2 ^ 48 → x / 2 ^ 48 / 64 % 4 ≡ 2 → x / 2 ^ 48 < 0xE000 → FrontStands x 2
  unfolding unpacked lane
  wide_2 a h b = record { within = omega arith; stands = by_2 (x / 2 ^ 48) two h a b }

  module _ (h : x / 2 ^ 48 / 64 % 4 ≡ 2) (i : x / 2 ^ 40 / 64 % 4 ≡ 2) where
    pub wide_3 : 0xE0A0 ≤ x / 2 ^ 48 → x / 2 ^ 48 < 0xF000 → (x / 2 ^ 48 / 32 ≡ 0x76D → ⊥) → FrontStands x 3
    unfolding unpacked lane
    wide_3 a b s = record { within = omega arith; stands = by_3 (x / 2 ^ 48) two h a b s (tail_of (x / 2 ^ 40) (x / 2 ^ 48) 2 three i) }

    pub wide_4 : x / 2 ^ 32 / 64 % 4 ≡ 2 → 0xF090 ≤ x / 2 ^ 48 → x / 2 ^ 48 ≤ 0xF48F → FrontStands x 4
    unfolding unpacked lane
    wide_4 j a b =
        record {
          within = omega arith;
          stands = by_4 (x / 2 ^ 48) two h a b (tail_of (x / 2 ^ 40) (x / 2 ^ 48) 2 three i) (tail_of (x / 2 ^ 32) (x / 2 ^ 40) 3 four j);
        }

-- ---- of a document

-- a word that stands there
pub front_there : {x m : ℕ} (doc : Bytes) (i : ℕ) → unpacked x ≡ take 8 (drop i doc) → FrontStands x m → Stands (take m (drop i doc))
front_there {x} {m} doc i e f = subst Stands (ap (take m) e ∙ take-take m 8 (drop i doc) f.within) f.stands

pub stands_run
    : (doc : Bytes) (i k : ℕ) → Stands (take k (drop i doc)) → (acc : Bytes)
    → text_run Inside.chars acc (drop i doc) ≡ text_run Inside.chars (reverse_aux (take k (drop i doc)) acc) (drop (i + k) doc)
stands_run doc i k h acc =
    ap (text_run Inside.chars acc) (sym (take-append-drop k (drop i doc)))
    ∙ h.run acc (drop k (drop i doc))
    ∙ ap (text_run Inside.chars (reverse_aux (take k (drop i doc)) acc)) (drop-drop k i doc)
