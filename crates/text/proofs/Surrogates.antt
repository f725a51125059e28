-- A character by its number, or by a pair of surrogates: how reading goes over its escapes. Assumes nothing.
use Prim.Native.Nat.{ℕ, ◌+◌, ◌-◌, ◌*◌, ◌≤◌, ◌<◌}
use mathlib.Core.Path.{◌≡◌, refl, ap, ◌∙◌}
use mathlib.Core.Logic.{◌⊎◌, inl, inr}
use mathlib.Core.Bool.{true, false}
use mathlib.Core.Option.{none, some}
use lib.ListN.{length, drop, get_or}
use native.Mathlib.Nat.{add_assoc}
use native.Mathlib.Omega.{arith}
use Rattle.definitions.specs.Bytes.{Bytes, between, found}
use Rattle.definitions.specs.Text.{Inside, pair_of, unicode, text_step}
use Rattle.laws.specs.Rfc3629.{In}
use Rattle.laws.specs.Ranges.{in_between, out_between, eq_is, ne_is}
use Rattle.text.specs.TextRun.{text_run}
use Rattle.text.specs.TextParts.{onward, Breaks, DigitsRead, CodeRead, ReadsCode}
use Rattle.std.specs.Prelude.{Result, Ok, Err}
use Rattle.text.specs.declared.unicode.Code.{Code}
use Rattle.text.proofs.Places.{byte_within, more_at, wrong_at}

-- ---- breaking off later

pub breaks_behind
    : (doc : Bytes) (i j : Inside) (at next place : ℕ) → at ≤ next
    → ((acc : Bytes) → text_run i acc (drop at doc) ≡ text_run j acc (drop next doc))
    → Breaks doc j next place → Breaks doc i at place
breaks_behind doc i j at next place h e b =
    record { run = λ acc. e acc ∙ b.run acc; from = let k = b.from in omega arith; within = b.within }

-- ---- the low surrogate's escape, behind the high one h

module _ (doc : Bytes) (at h : ℕ) where
  pub low_wrong : at ≤ length doc → (get_or doc at 256 ≡ 0x5C → ⊥) → Breaks doc (Inside.pair h) at at
  unfolding text_step
  low_wrong l f =
      record {
        run = λ acc. let n = ne_is "\\" f in wrong_at (Inside.pair h) acc doc at (rw (n, text_step));
        from = omega arith;
        within = l;
      }

  module _ (e : get_or doc at 256 ≡ 0x5C) where
    backslash_within : at < length doc
    backslash_within = byte_within doc at (omega arith)

    backslash : (acc : Bytes) → text_run (Inside.pair h) acc (drop at doc) ≡ text_run (Inside.pair_u h) acc (drop (at + 1) doc)
    unfolding text_step
    backslash acc = let t = eq_is "\\" e in more_at (Inside.pair h) acc doc at backslash_within (rw (t, text_step))

    pub low_wrong_u : (get_or doc (at + 1) 256 ≡ 0x75 → ⊥) → Breaks doc (Inside.pair h) at (at + 1)
    unfolding text_step
    low_wrong_u f =
        record {
          run = λ acc. let n = ne_is "u" f in backslash acc ∙ wrong_at (Inside.pair_u h) acc doc (at + 1) (rw (n, text_step));
          from = omega arith;
          within = omega (arith, backslash_within);
        }

    module _ (f : get_or doc (at + 1) 256 ≡ 0x75) where
      pub u_within : at + 2 ≤ length doc
      u_within = omega (arith, byte_within doc (at + 1) (omega arith))

      low_open : (acc : Bytes) → text_run (Inside.pair h) acc (drop at doc) ≡ text_run (Inside.digits (some h) 0 0) acc (drop (at + 2) doc)
      unfolding text_step
      low_open acc =
          let t = eq_is "u" f in
          backslash acc
          ∙ more_at (Inside.pair_u h) acc doc (at + 1) (omega (arith, u_within)) (rw (t, text_step))
          ∙ ap (λ (k : ℕ). text_run (Inside.digits (some h) 0 0) acc (drop k doc)) (add_assoc at 1 1)

      pub low_breaks : (place : ℕ) → Breaks doc (Inside.digits (some h) 0 0) (at + 2) place → Breaks doc (Inside.pair h) at place
      low_breaks place b = breaks_behind doc (Inside.pair h) (Inside.digits (some h) 0 0) at (at + 2) place (omega arith) low_open b

      pub low_read
          : (v next : ℕ) → 0xD800 ≤ h → h ≤ 0xDBFF → DigitsRead doc (at + 2) true v next
          → CodeRead doc (Inside.pair h) at (0x10000 + (h - 0xD800) * 0x400 + (v - 0xDC00)) next
      unfolding found onward unicode pair_of
      low_read v next l m d =
          record {
            run = λ acc. low_open acc ∙ d.run (some h) refl acc;
            ahead = let k = d.behind in omega arith;
            within = d.within;
            valid = let k = d.paired refl in omega arith;
          }

-- ---- four digits that are no low surrogate

module _ (doc : Bytes) (at v next : ℕ) (d : DigitsRead doc at false v next) where
  pub alone_read : (v < 0xD800) ⊎ (0xDBFF < v) → CodeRead doc (Inside.digits none 0 0) at v next
  unfolding found onward unicode
  alone_read o =
      record {
        run = λ acc. let t : between 0xD800 0xDBFF v ≡ false = out_between (off o) in d.run none refl acc ∙ rw (t, unicode, onward);
        ahead = let k = d.behind in omega arith;
        within = d.within;
        valid = let k = d.small in omega arith;
      }
    where
      off : (v < 0xD800) ⊎ (0xDBFF < v) → In 0xD800 0xDBFF v → ⊥
      off (inl l) i = omega arith
      off (inr l) i = omega arith

  module _ (l : 0xD800 ≤ v) (m : v ≤ 0xDBFF) where
    high_open : (acc : Bytes) → text_run (Inside.digits none 0 0) acc (drop at doc) ≡ text_run (Inside.pair v) acc (drop next doc)
    unfolding found onward unicode
    high_open acc =
        let t : between 0xD800 0xDBFF v ≡ true = in_between (record { from = l; to = m }) in
        d.run none refl acc ∙ rw (t, unicode, onward)

    high_read : (c end : ℕ) → CodeRead doc (Inside.pair v) next c end → CodeRead doc (Inside.digits none 0 0) at c end
    high_read c end r =
        record {
          run = λ acc. high_open acc ∙ r.run acc;
          ahead = let k = d.behind in let j = r.ahead in omega arith;
          within = r.within;
          valid = r.valid;
        }

    high_breaks : (place : ℕ) → Breaks doc (Inside.pair v) next place → Breaks doc (Inside.digits none 0 0) at place
    high_breaks place b =
        breaks_behind doc (Inside.digits none 0 0) (Inside.pair v) at next place (let k = d.behind in omega arith) high_open b

    pub high_code : (r : Result Code ℕ) → ReadsCode doc (Inside.pair v) next r → ReadsCode doc (Inside.digits none 0 0) at r
    high_code (Ok c) h = high_read c.value c.next h
    high_code (Err place) b = high_breaks place b
